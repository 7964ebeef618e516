use Rattle.std.proofs.Common.{◌≡◌, drop}
use Rattle.conf_shape.specs.Shape.{kind_in}
use Rattle.conf_shape.specs.Rows.{kinds_in}
use Rattle.conf_shape.proofs.table.find_kind.Given as goal

-- the types left answer as all of them do
abbrev pub invariant-loop-kind : goal.invariant-loop-kind
invariant-loop-kind l = kind_in (kinds_in (drop l.kind-index l.kinds)) l.type_name ≡ kind_in (kinds_in l.kinds) l.type_name
