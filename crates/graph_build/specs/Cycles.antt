-- Pipelines that reach themselves through connectors.
use Rattle.std.specs.Prelude.{ℕ, zero, suc, Bool, false, ◌&&◌, ◌||◌, List, [], ◌∷◌, length, Option, Some, None, if◌then◌else◌}
use Rattle.std.specs.List.{list_any}
use Rattle.std.specs.Str.{bytes_eq}
use Rattle.conf_shape.specs.declared.kind.FaultKind.TheVariants.{CycleOf}
use Rattle.conf_shape.specs.declared.fault.PointedFault.{PointedFault}
use Rattle.conf_shape.specs.Pointer.{member_of}
use Rattle.conf_shape.specs.Fault.{fault}
use Rattle.conf_draft.specs.declared.draft.Draft.{Draft}
use Rattle.conf_draft.specs.declared.draft.Pipeline.{Pipeline}
use Rattle.graph_build.specs.Exits.{exits_of, leads_to}

-- a connector leads from the one pipeline to the other
abbrev pub leads : Draft → List ℕ → List ℕ → Bool
leads draft from to = leads_to (exits_of draft from) to

-- connectors lead from the one pipeline to the other in at least one and at most so many steps
abbrev pub reaches : Draft → ℕ → List ℕ → List ℕ → Bool
reaches draft zero from to = false
reaches draft (suc steps) from to =
    list_any (λ p. leads draft from p.name && (bytes_eq to p.name || reaches draft steps p.name to))
    draft.pipelines

-- a pipeline reaches itself; it never takes more steps than there are pipelines (a law)
abbrev pub is_on_cycle : Draft → List ℕ → Bool
is_on_cycle draft name = reaches draft (length draft.pipelines) name name

-- CycleOf at the first of these pipelines that reaches itself
abbrev pub cycles_fault : Draft → List ℕ → List Pipeline → Option PointedFault
cycles_fault draft at [] = None
cycles_fault draft at (p ∷ ps) =
    if is_on_cycle draft p.name then Some (fault CycleOf (member_of at p.name))
    else cycles_fault draft at ps
