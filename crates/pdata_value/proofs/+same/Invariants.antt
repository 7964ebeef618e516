use Rattle.std.proofs.Common.{◌≡◌, true, take, drop}
use Rattle.pdata_value.specs.Same.{same_items, same_keys}
use Rattle.pdata_value.proofs.+same.Given as goal

-- the values left answer as all of them do
abbrev pub invariant-same::are_same-loop-i : goal.invariant-same::are_same-loop-i
invariant-same::are_same-loop-i l = same_items (drop l.i l.values) (drop l.i l.others) ≡ same_items l.values l.others

-- so far both maps have the same first values
abbrev pub invariant-same::are_same_at_keys-loop-i : goal.invariant-same::are_same_at_keys-loop-i
invariant-same::are_same_at_keys-loop-i l = same_keys (take l.i l.pairs) l.pairs l.others ≡ true
