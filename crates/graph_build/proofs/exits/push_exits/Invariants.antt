use Rattle.std.proofs.Common.{◌≡◌, ◌++◌, drop}
use Rattle.graph_build.specs.Exits.{exits_to}
use Rattle.graph_build.proofs.exits.push_exits.Given as goal

-- what was put, then what is left, is the whole
abbrev pub invariant-loop-name : goal.invariant-loop-name
invariant-loop-name l = l.exits ++ exits_to l.connector l.row (drop l.name-index l.pipelines) ≡ l.initial.exits ++ exits_to l.connector l.row l.pipelines
