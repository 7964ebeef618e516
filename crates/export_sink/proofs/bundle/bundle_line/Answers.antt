use Rattle.std.proofs.Common.{map, rules}
use Rattle.export_sink.specs.Planning.{conf_in}
use Rattle.plain_legs.specs.Views.{outcome_of}
use Rattle.export_sink.proofs.Bundles.{left_one}
use Rattle.export_sink.proofs.bundle.bundle_line.Goals as goal

-- what is written of what the legs left is what is meant for this line
pub returns-in_ok-bundle_left-in-Ok : goal.returns-in_ok-bundle_left-in-Ok
returns-in_ok-bundle_left-in-Ok c =
    left_one (conf_in c.args.plan.now) c.args.number c.args.line.now c.in-Ok.tree c.in-Ok.ensures.value
    (map outcome_of c.in_ok-left-in-Ok.left) c.in_ok-left-in-Ok.ensures c.in_ok-bundle_left-in-Ok.field-0
    (search rules)
