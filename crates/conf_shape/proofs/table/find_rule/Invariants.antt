use Rattle.std.proofs.Common.{◌≡◌, drop}
use Rattle.conf_shape.specs.Shape.{rule_in}
use Rattle.conf_shape.specs.Rows.{rows_in}
use Rattle.conf_shape.proofs.table.find_rule.Given as goal

-- the rows left answer as all of them do
abbrev pub invariant-loop-member : goal.invariant-loop-member
invariant-loop-member l = rule_in (rows_in (drop l.member-index l.members)) l.name ≡ rule_in (rows_in l.members) l.name
