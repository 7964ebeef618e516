use Rattle.std.proofs.Common.{◌≡◌, ◌+◌, ◌++◌, length, map}
use Rattle.std.specs.List.{concat}
use Rattle.export_sink.specs.Left.{lines_by}
use Rattle.plain_legs.specs.Views.{outcome_of}
use Rattle.export_sink.proofs.lines.push_lines.Given as goal

-- the lines that were put, then those that are left, are all
abbrev pub invariant-loop-goes : goal.invariant-loop-goes
invariant-loop-goes l =
    (l.text.items ++ concat (lines_by l.goes (map outcome_of l.left))
    ≡ l.initial.text.items ++ concat (lines_by l.fn.goes (map outcome_of l.fn.left)))
    × (l.count + length (lines_by l.goes (map outcome_of l.left)) ≡ length (lines_by l.fn.goes (map outcome_of l.fn.left)))

abbrev pub decreases-loop-goes : goal.decreases-loop-goes
decreases-loop-goes l = length l.goes
