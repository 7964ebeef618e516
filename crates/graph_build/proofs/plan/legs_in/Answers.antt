use Rattle.conf_json.specs.Settings.{settings_of}
use Rattle.graph_build.specs.Conf.{conf_of}
use Rattle.graph_build.proofs.Parts.{finds-legs}
use Rattle.graph_build.proofs.plan.legs_in.Goals as goal

pub returns : goal.returns
unfolding conf_of
returns c =
    finds-legs (settings_of c.args.settings.now) c.legs_of_draft.result c.legs_of_draft.ensures.spelled c.legs_of_draft.ensures.legs
