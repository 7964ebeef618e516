use Rattle.std.proofs.Common.{◌≡◌, ◌++◌, drop, map}
use Rattle.leg_model.specs.Parts.{known_among}
use Rattle.export_sink.proofs.notes.push_known.Given as goal

-- the names that were put, then those that are left, are all
abbrev pub invariant-loop-name : goal.invariant-loop-name
invariant-loop-name g l =
    map (λ name. name.now) l.names ++ known_among (map g.N.Named.name_of l.known) (drop l.name-index l.listed)
    ≡ map (λ name. name.now) l.initial.names ++ known_among (map g.N.Named.name_of l.known) l.listed
