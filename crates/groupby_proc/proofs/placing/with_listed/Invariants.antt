use Rattle.std.proofs.Common.{◌≡◌, drop}
use Rattle.pdata_value.specs.Value.{pairs}
use Rattle.pdata_tree.specs.Grouping.{with_listed}
use Rattle.groupby_proc.proofs.placing.with_listed.Given as goal

-- the pairs so far, with the keys left, are those with all
abbrev pub invariant-loop-key : goal.invariant-loop-key
invariant-loop-key l =
    with_listed (drop l.key-index l.keys) (pairs l.from) (pairs l.pairs) ≡ with_listed l.keys (pairs l.from) (pairs l.fn.pairs)
