-- What planning answers: what is planned, or the first fault. Want of memory is free, and
-- PatternSize is the answer of the maker of patterns.
use Rattle.std.specs.Prelude.{◌≡◌, ℕ, List, [], ◌∷◌, Option, Some, None, IfSome, IfErr, Result, Ok, Err}
use Rattle.contract_words.specs.Causes.{Rose}
use Rattle.contract_words.specs.Gives.{Gives}
use Rattle.ottl_plan.specs.declared.fault.PlanFault.{PlanFault}
use Rattle.ottl_plan.specs.declared.fault.PlanKind.{PlanKind}
use Rattle.ottl_plan.specs.declared.fault.PlanKind.TheVariants.{PatternSize}
use Rattle.ottl_plan.specs.declared.fault.PlanStop.{PlanStop}
use Rattle.ottl_plan.specs.declared.fault.PlanStop.TheVariants.{Fault, NoMemory}

-- a fault and its place
abbrev pub fault : PlanKind → ℕ → PlanFault
fault kind at = record { kind = kind; at = at }

infixl 10 ◌>>=◌
-- what a step gives goes on into the next; the first fault stays
abbrev pub ◌>>=◌ : {A B : Type 0} → Result A PlanFault → (A → Result B PlanFault)
    → Result B PlanFault
(Ok x) >>= f = f x
(Err e) >>= f = Err e

-- the items that all steps give, or the first fault
abbrev pub all_of : {X : Type 0} → List (Result X PlanFault) → Result (List X) PlanFault
all_of [] = Ok []
all_of (r ∷ rs) = r >>= λ x. all_of rs >>= λ xs. Ok (x ∷ xs)

-- the fault, unless it is the maker's own
abbrev pub decided_fault : PlanKind → PlanFault → Option PlanFault
decided_fault PatternSize fault = None
decided_fault _ fault = Some fault

-- the fault that the statement itself decides, if it is one
abbrev pub decided : PlanStop → Option PlanFault
decided (Fault fault) = decided_fault fault.kind fault
decided NoMemory = None

-- what was planned is what is meant, and a fault is the first one, unless the maker or memory ended
-- it
abbrev pub Plans : {X : Type 0} → Result X PlanStop → Result X PlanFault → Type 0
Plans result meant = Gives (λ x. x) decided result meant

-- the place of a PatternSize
abbrev pub size_place : PlanKind → ℕ → Option ℕ
size_place PatternSize at = Some at
size_place _ at = None

-- the place of the pattern that was refused for its size, if that is why there is no plan
abbrev pub refused_at : PlanStop → Option ℕ
refused_at (Fault fault) = size_place fault.kind fault.at
refused_at NoMemory = None

-- what an answer says of the maker's count of refusals: a plan leaves it, and PatternSize comes
-- only where it rose
abbrev pub Counts : {X : Type 0} → ℕ → ℕ → Result X PlanStop → Type 0
Counts before now (Ok x) = now ≡ before
Counts before now (Err stop) = IfSome (refused_at stop) (λ at. Rose before now)

-- the maker refused nothing
abbrev pub RefusesNothing : {X : Type 0} → Result X PlanStop → Type 0
RefusesNothing result = IfErr result (λ stop. refused_at stop ≡ None)
