use Rattle.std.proofs.Common.{◌≡◌, take}
use Rattle.pdata_value.proofs.+copy.Given as goal

abbrev pub invariant-pairs::Pairs::copy-loop-pair : goal.invariant-pairs::Pairs::copy-loop-pair
invariant-pairs::Pairs::copy-loop-pair l = l.items ≡ take l.pair-index l.pair-items

abbrev pub invariant-values::Values::copy-loop-item : goal.invariant-values::Values::copy-loop-item
invariant-values::Values::copy-loop-item l = l.items ≡ take l.item-index l.item-items
