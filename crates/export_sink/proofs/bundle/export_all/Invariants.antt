use Rattle.std.proofs.Common.{◌≡◌, ◌++◌, drop, map}
use Rattle.std.specs.List.{concat}
use Rattle.export_sink.specs.Left.{lines_by, total_by}
use Rattle.plain_legs.specs.Views.{outcome_of}
use Rattle.export_sink.proofs.bundle.export_all.Given as goal

-- those that are made, then those that are left, are all
abbrev pub invariant-loop-goes : goal.invariant-loop-goes
invariant-loop-goes l =
    (l.texts ++ map (λ goes. concat (lines_by goes (map outcome_of l.left))) (drop l.goes-index l.ways)
    ≡ map (λ goes. concat (lines_by goes (map outcome_of l.left))) l.ways)
    × (l.files ++ map (λ goes. total_by (lines_by goes (map outcome_of l.left))) (drop l.goes-index l.ways)
    ≡ map (λ goes. total_by (lines_by goes (map outcome_of l.left))) l.ways)
