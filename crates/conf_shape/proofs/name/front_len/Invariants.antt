use Rattle.std.proofs.Common.{◌≡◌, ◌++◌, take, drop}
use Rattle.conf_shape.specs.ComponentName.{front_of, back_of}
use Rattle.conf_shape.proofs.name.front_len.Given as goal

-- no `/` so far
abbrev pub invariant-loop-at : goal.invariant-loop-at
invariant-loop-at l =
    (take l.at l.name ++ front_of (drop l.at l.name) ≡ front_of l.name) × (back_of (drop l.at l.name) ≡ back_of l.name)
