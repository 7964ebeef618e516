-- The legs of a configuration, or their first fault.
use Rattle.std.specs.Prelude.{ℕ, suc, nat_lt, List, [], ◌∷◌, length, Option, Some, None, Result, if◌then◌else◌}
use Rattle.conf_shape.specs.declared.kind.FaultKind.TheVariants.{TooManyRoots, TooManyLegs}
use Rattle.conf_shape.specs.declared.fault.PointedFault.{PointedFault}
use Rattle.conf_shape.specs.Fault.{fault, first_of, unless}
use Rattle.conf_draft.specs.declared.draft.Draft.{Draft}
use Rattle.conf_draft.specs.declared.draft.Pipeline.{Pipeline}
use Rattle.conf_draft.specs.References.{pipelines_at}
use Rattle.graph_build.specs.declared.leg.Leg.{Leg}
use Rattle.graph_build.specs.Legs.{max_legs, is_root, all_legs}
use Rattle.graph_build.specs.Cycles.{cycles_fault}

-- how many root legs there may be
abbrev pub max_roots : ℕ
max_roots = 8

-- the root legs
abbrev pub root_count : Draft → List Pipeline → ℕ
root_count draft [] = 0
root_count draft (p ∷ ps) =
    if is_root draft p then suc (root_count draft ps) else root_count draft ps

-- TooManyRoots past the limit
abbrev pub roots_fault : Draft → List ℕ → Option PointedFault
roots_fault draft at =
    if nat_lt max_roots (root_count draft draft.pipelines)
    then Some (fault TooManyRoots at) else None

-- TooManyLegs past the limit
abbrev pub legs_fault : List ℕ → List Leg → Option PointedFault
legs_fault at legs = if nat_lt max_legs (length legs) then Some (fault TooManyLegs at) else None

-- the legs, unless there are too many
abbrev pub few_legs : List ℕ → List Leg → Result (List Leg) PointedFault
few_legs at legs = unless (legs_fault at legs) legs

-- the legs of the pipelines that stand there, in order; or the first fault: a pipeline that reaches
-- itself, then too many roots, then too many legs
abbrev pub legs_at : Draft → List ℕ → Result (List Leg) PointedFault
legs_at draft at =
    unless (first_of (cycles_fault draft at draft.pipelines)
    (first_of (roots_fault draft at) (legs_fault at (all_legs draft)))) (all_legs draft)

-- the legs of a configuration, or their first fault
abbrev pub legs_of : Draft → Result (List Leg) PointedFault
legs_of draft = legs_at draft pipelines_at
