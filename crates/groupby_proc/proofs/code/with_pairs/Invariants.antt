use Rattle.std.proofs.Common.{◌≡◌, [], drop, take}
use Rattle.groupby_proc.specs.Codes.{with_pairs}
use Rattle.groupby_proc.proofs.code.with_pairs.Given as goal

-- the code so far, with the pairs left, is that with all
abbrev pub invariant-loop-i : goal.invariant-loop-i
invariant-loop-i l = with_pairs l.sum (take l.i l.list) (drop l.i l.list) ≡ with_pairs l.code [] l.list
