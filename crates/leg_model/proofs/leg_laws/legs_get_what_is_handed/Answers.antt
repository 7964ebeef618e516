use Rattle.leg_model.proofs.Handing.{below_entry, root_entry}
use Rattle.leg_model.proofs.leg_laws.legs_get_what_is_handed.Goals as goal

pub returns-clause-root : goal.returns-clause-root
returns-clause-root c = root_entry

pub returns-clause-below : goal.returns-clause-below
returns-clause-below c = below_entry
