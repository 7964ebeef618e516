use Rattle.std.proofs.Common.{◌≡◌, ◌+◌, drop}
use Rattle.pdata_tree.specs.Tree.{records_of_scopes}
use Rattle.plain_legs.proofs.counting.count_of.Given as goal

-- those that were counted, and those that are left, are all
abbrev pub invariant-loop-scope : goal.invariant-loop-scope
invariant-loop-scope l = l.count + records_of_scopes (drop l.scope-index l.scopes) ≡ records_of_scopes l.scopes
