use Rattle.std.proofs.Common.{◌≡◌, drop, map}
use Rattle.leg_model.specs.Course.{by_connectors}
use Rattle.pdata_tree.specs.Grouping.{grouped}
use Rattle.pdata_tree.specs.Operations.{log_trees}
use Rattle.plain_legs.specs.Views.{course_of}
use Rattle.plain_legs.proofs.course.by_connectors.Given as goal

-- the connectors left make of what stands now what all make of what stood at first
abbrev pub invariant-loop-settings : goal.invariant-loop-settings
invariant-loop-settings l =
    by_connectors log_trees grouped l.number (map (λ s. s.now) (drop l.settings-index l.connectors)) (course_of l.course)
    ≡ by_connectors log_trees grouped l.first (map (λ s. s.now) l.connectors) (course_of l.initial.course)
