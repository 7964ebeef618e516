use Rattle.std.proofs.Common.{◌≡◌, drop}
use Rattle.conf_shape.specs.Path.{pointer_of}
use Rattle.conf_draft.specs.References.{pipelines_fault}
use Rattle.conf_draft.proofs.references.check_pipelines.Given as goal

-- those left answer as all of them do
abbrev pub invariant-loop-pipeline : goal.invariant-loop-pipeline
invariant-loop-pipeline l =
    pipelines_fault l.draft (pointer_of l.path) (drop l.pipeline-index l.pipelines)
    ≡ pipelines_fault l.draft (pointer_of l.path) l.pipelines
