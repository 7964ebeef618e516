use Rattle.std.proofs.Common.{◌≡◌, drop}
use Rattle.pdata_value.specs.Doubles.{some_has_double, some_pair_has_double}
use Rattle.pdata_value.proofs.+double.Given as goal

-- the values left answer as all of them do
abbrev pub invariant-doubles::some_has_double-loop-value : goal.invariant-doubles::some_has_double-loop-value
invariant-doubles::some_has_double-loop-value l = some_has_double l.values ≡ some_has_double (drop l.value-index l.values)

abbrev pub invariant-doubles::some_pair_has_double-loop-pair : goal.invariant-doubles::some_pair_has_double-loop-pair
invariant-doubles::some_pair_has_double-loop-pair l = some_pair_has_double l.pairs ≡ some_pair_has_double (drop l.pair-index l.pairs)
