use Rattle.std.proofs.Common.{◌≡◌, ◌++◌, drop}
use Rattle.graph_build.specs.Exits.{row_exits}
use Rattle.graph_build.proofs.exits.push_rows.Given as goal

-- what was put, then what is left, is the whole
abbrev pub invariant-loop-index : goal.invariant-loop-index
invariant-loop-index l = l.exits ++ row_exits l.connector l.index (drop l.index l.rows) ≡ l.initial.exits ++ row_exits l.connector 0 l.rows
