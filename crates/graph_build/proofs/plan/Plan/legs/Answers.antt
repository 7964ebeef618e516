use Rattle.conf_json.specs.Settings.{settings_of}
use Rattle.graph_build.specs.Conf.{conf_of}
use Rattle.graph_build.proofs.Parts.{few-legs}
use Rattle.graph_build.proofs.plan.Plan.legs.Goals as goal

pub returns-clause-few : goal.returns-clause-few
unfolding conf_of
returns-clause-few c =
    rw c.as_slice.ensures
    (few-legs (settings_of c.self.inside.settings) c.self.inside.legs c.self.invariant)
