use Rattle.std.proofs.Common.{◌≡◌, drop, filter, not}
use Rattle.pdata_value.specs.Pairs.{is_listed}
use Rattle.pdata_value.specs.Value.{pairs}
use Rattle.groupby_proc.proofs.placing.without.Given as goal

-- the pairs so far, without the keys left, are those without all
abbrev pub invariant-loop-key : goal.invariant-loop-key
invariant-loop-key l =
    filter (λ p. not (is_listed (drop l.key-index l.keys) p.0)) (pairs l.pairs)
    ≡ filter (λ p. not (is_listed l.keys p.0)) (pairs l.fn.pairs)
