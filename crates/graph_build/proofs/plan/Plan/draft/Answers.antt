use Rattle.conf_json.specs.Settings.{settings_of}
use Rattle.graph_build.specs.Conf.{conf_of}
use Rattle.graph_build.proofs.Parts.{part-of}
use Rattle.graph_build.proofs.plan.Plan.draft.Goals as goal

pub returns : goal.returns
unfolding conf_of
returns c =
    rw (← c.self.view_is)
    (part-of (λ meant. meant.draft) c.draft.result.now (settings_of c.self.inside.settings) c.self.inside.legs c.self.invariant c.draft.ensures.value)
