use Rattle.std.proofs.Common.{◌≡◌, ◌≤◌, ◌+◌, ◌*◌, ◌++◌, length, drop}
use Rattle.graph_build.specs.Legs.{max_legs, legs_below, children}
use Rattle.graph_build.proofs.legs.+walk.Given as goal

abbrev pub decreases-add_leg : goal.decreases-add_leg
decreases-add_leg l = 2 * l.levels

abbrev pub decreases-add_children : goal.decreases-add_children
decreases-add_children l = 2 * l.levels + 1

-- the legs that were added, then those behind the ways left, are all
abbrev pub invariant-add_children-loop-exit : goal.invariant-add_children-loop-exit
invariant-add_children-loop-exit l =
    (l.legs ++ children l.draft (legs_below l.draft l.levels) l.parent (length l.legs) (drop l.exit-index l.exits)
    ≡ l.initial.legs ++ children l.draft (legs_below l.draft l.levels) l.parent (length l.initial.legs) l.exits)
    × (length l.initial.legs ≤ max_legs → length l.legs ≤ max_legs)
