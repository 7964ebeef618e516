use Rattle.std.proofs.Common.{◌≡◌, drop}
use Rattle.std.specs.Option.{option_copied}
use Rattle.pdata_tree.specs.Walk.{or_nil, walk}
use Rattle.pdata_tree.proofs.walk.look.Given as goal

-- the steps left lead on from what was found
abbrev pub invariant-loop-key : goal.invariant-loop-key
invariant-loop-key l = walk l.keys l.value ≡ walk (drop l.key-index l.keys) (or_nil (option_copied l.found))
