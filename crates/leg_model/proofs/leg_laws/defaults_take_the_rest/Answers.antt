use Rattle.leg_model.proofs.Unrouted.{leg-unrouted}
use Rattle.leg_model.proofs.leg_laws.defaults_take_the_rest.Goals as goal
use Rattle.leg_model.specs.Exports.{logs}

pub returns : goal.returns
returns c = leg-unrouted logs
