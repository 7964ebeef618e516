use Rattle.std.proofs.Common.{◌≡◌, ◌++◌, ℕ, List, drop}
use Rattle.conf_draft.specs.declared.draft.Draft.{Draft}
use Rattle.graph_build.specs.Reach.{reach_in}
use Rattle.graph_build.proofs.cycle.none.Given as goal

-- what was put, then what is left, is the whole
abbrev pub invariant-loop-pipeline : goal.invariant-loop-pipeline
invariant-loop-pipeline l = (draft : Draft) (name : List ℕ)
    → l.flags ++ reach_in draft 0 name (drop l._pipeline-index l.pipelines) ≡ reach_in draft 0 name l.pipelines
