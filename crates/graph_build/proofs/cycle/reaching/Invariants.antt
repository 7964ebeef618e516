use Rattle.std.proofs.Common.{◌≡◌}
use Rattle.graph_build.specs.Reach.{reach_in}
use Rattle.graph_build.proofs.cycle.reaching.Given as goal

-- as many steps as rounds
abbrev pub invariant-loop-round : goal.invariant-loop-round
invariant-loop-round l = l.flags ≡ reach_in l.draft l.round l.name l.draft.pipelines
