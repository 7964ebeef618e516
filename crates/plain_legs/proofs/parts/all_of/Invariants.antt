use Rattle.std.proofs.Common.{◌≡◌, ◌++◌, drop, map}
use Rattle.leg_model.specs.Parts.{all_named}
use Rattle.plain_legs.proofs.parts.all_of.Given as goal

-- what was found, then what is left to find, is the whole
abbrev pub invariant-loop-name : goal.invariant-loop-name
invariant-loop-name g l =
    map (λ item. item.now) l.found ++ all_named (drop l.name-index l.names) (map g.N.Named.name_of l.known) l.items
    ≡ all_named l.names (map g.N.Named.name_of l.known) l.items
