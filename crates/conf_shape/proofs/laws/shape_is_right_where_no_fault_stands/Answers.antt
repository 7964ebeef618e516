use Rattle.conf_shape.proofs.ShapeLaw.{HasShape-from, shape_fault-none}
use Rattle.conf_shape.proofs.laws.shape_is_right_where_no_fault_stands.Goals as goal

pub returns : goal.returns
returns c = λ rule at d. (HasShape-from rule at d, shape_fault-none rule at d)
