use Rattle.std.proofs.Common.{◌≡◌, drop, map}
use Rattle.leg_model.specs.Course.{by_processors}
use Rattle.pdata_tree.specs.Grouping.{grouped}
use Rattle.pdata_tree.specs.Operations.{log_trees}
use Rattle.plain_legs.specs.Views.{course_of}
use Rattle.plain_legs.proofs.course.by_processors.Given as goal

-- the processors left make of what stands now what all make of what stood at first
abbrev pub invariant-loop-number : goal.invariant-loop-number
invariant-loop-number l =
    by_processors log_trees grouped l.number (map (λ s. s.now) (drop l.number l.processors)) (course_of l.course)
    ≡ by_processors log_trees grouped 0 (map (λ s. s.now) l.processors) (course_of l.initial.course)
