use Rattle.std.proofs.Common.{◌≡◌, ◌++◌, map, drop}
use Rattle.graph_build.specs.Tables.{meets}
use Rattle.graph_build.proofs.cycle.next_flags.Given as goal

-- what was put, then what is left, is the whole
abbrev pub invariant-loop-row : goal.invariant-loop-row
invariant-loop-row l =
    l.next ++ map (λ row. meets row l.target l.flags) (drop l.row-index l.rows)
    ≡ map (λ row. meets row l.target l.flags) l.rows
