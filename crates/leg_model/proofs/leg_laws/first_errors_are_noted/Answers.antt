use Rattle.leg_model.proofs.Noting.{leg-notes}
use Rattle.leg_model.proofs.leg_laws.first_errors_are_noted.Goals as goal
use Rattle.leg_model.specs.Exports.{logs}

pub returns : goal.returns
returns c = leg-notes logs
