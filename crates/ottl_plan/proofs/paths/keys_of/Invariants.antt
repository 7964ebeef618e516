use Rattle.std.proofs.Common.{◌≡◌, ◌++◌, drop, map}
use Rattle.ottl_plan.specs.Paths.{key_of}
use Rattle.ottl_plan.proofs.paths.keys_of.Given as goal

-- the keys so far and those of the rest are all keys
abbrev pub invariant-loop-key : goal.invariant-loop-key
invariant-loop-key l = l.planned ++ map key_of (drop l.key-index l.keys) ≡ map key_of l.keys
