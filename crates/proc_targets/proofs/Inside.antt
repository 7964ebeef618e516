-- The targets of a context are in the tree.
use Rattle.std.proofs.Common.{◌≡◌, ◌+◌, ℕ, zero, suc, List, [], ◌∷◌, ◌++◌, Option, Some, IsSome, subst, refl, arith}
use Rattle.std.specs.Prelude.{slice_get}
use Rattle.pdata_tree.specs.Places.{IsPlaceIn, log_places, logs_of_scopes, scope_places, targets, targets_from, within}
use Rattle.pdata_tree.specs.declared.batch.Batch.{Batch}
use Rattle.pdata_tree.specs.declared.place.Context.{Context}
use Rattle.pdata_tree.specs.declared.place.Context.TheVariants.{Resource, Scope, Log}
use Rattle.pdata_tree.specs.declared.place.Place.{Place}
use Rattle.pdata_tree.specs.declared.record.LogRecord.{LogRecord}
use Rattle.pdata_tree.specs.declared.resource.ResourceTree.{ResourceTree}
use Rattle.pdata_tree.specs.declared.scope.ScopeTree.{ScopeTree}

-- something holds of each of the places
abbrev Every : (Place → Type 0) → List Place → Type 0
Every P [] = Unit {0}
Every P (p ∷ ps) = P p × Every P ps

every_found : (P : Place → Type 0) (ps : List Place) (k : ℕ) (p : Place) → Every P ps → slice_get ps k ≡ Some p → P p
every_found P [] k p all is = absurd (cc is)
every_found P (q ∷ qs) zero p all is = subst P (cc is) all.0
every_found P (q ∷ qs) (suc k) p all is = every_found P qs k p all.1 is

every_on : (P Q : Place → Type 0) → ((p : Place) → P p → Q p) → (ps : List Place) → Every P ps → Every Q ps
every_on P Q so [] all = tt
every_on P Q so (p ∷ ps) all = (so p all.0, every_on P Q so ps all.1)

every_both : (P : Place → Type 0) (ps qs : List Place) → Every P ps → Every P qs → Every P (ps ++ qs)
every_both P [] qs front rest = rest
every_both P (p ∷ ps) qs front rest = (front.0, every_both P ps qs front.1 rest)

-- the place of a scope, counted from the one with number j
abbrev ScopeFrom : ℕ → ℕ → List ScopeTree → Place → Type 0
ScopeFrom i j ss p = (m : ℕ) × (p.resource ≡ i) × (p.scope ≡ j + m) × IsSome (slice_get ss m)

scopes_in_order : (i j : ℕ) (ss : List ScopeTree) → Every (ScopeFrom i j ss) (scope_places i j ss)
scopes_in_order i j [] = tt
scopes_in_order i j (s ∷ ss) = (
  (0, refl, omega arith, refl),
  every_on (ScopeFrom i (j + 1) ss) (ScopeFrom i j (s ∷ ss)) (λ p h. (suc h.0, h.1, omega (arith, h.2), h.3)) (scope_places i (j + 1) ss) (scopes_in_order i (j + 1) ss),
)

-- that of a log record, counted from the one with number k
abbrev LogFrom : ℕ → ℕ → ℕ → List LogRecord → Place → Type 0
LogFrom i j k ls p = (n : ℕ) × (p.resource ≡ i) × (p.scope ≡ j) × (p.log ≡ k + n) × IsSome (slice_get ls n)

logs_in_order : (i j k : ℕ) (ls : List LogRecord) → Every (LogFrom i j k ls) (log_places i j k ls)
logs_in_order i j k [] = tt
logs_in_order i j k (l ∷ ls) = (
  (0, refl, refl, omega arith, refl),
  every_on (LogFrom i j (k + 1) ls) (LogFrom i j k (l ∷ ls)) (λ p h. (suc h.0, h.1, h.2, omega (arith, h.3), h.4)) (log_places i j (k + 1) ls) (logs_in_order i j (k + 1) ls),
)

-- that of a log record in scopes, counted from the one with number j
abbrev LogIn : ℕ → ℕ → List ScopeTree → Place → Type 0
LogIn i j ss p = (m : ℕ) × (p.resource ≡ i) × (p.scope ≡ j + m) × IsSome (within (λ s. slice_get s.logs p.log) (slice_get ss m))

log_found : (i j : ℕ) (s : ScopeTree) (ss : List ScopeTree) (p : Place) → LogFrom i j 0 s.logs p → LogIn i j (s ∷ ss) p
log_found i j s ss p h = (0, h.1, omega (arith, h.2), subst (λ (n : ℕ). IsSome (slice_get s.logs n)) (omega (arith, h.3)) h.4)

logs_of_all : (i j : ℕ) (ss : List ScopeTree) → Every (LogIn i j ss) (logs_of_scopes i j ss)
logs_of_all i j [] = tt
logs_of_all i j (s ∷ ss) =
    every_both (LogIn i j (s ∷ ss)) (log_places i j 0 s.logs) (logs_of_scopes i (j + 1) ss)
    (every_on (LogFrom i j 0 s.logs) (LogIn i j (s ∷ ss)) (log_found i j s ss) (log_places i j 0 s.logs) (logs_in_order i j 0 s.logs))
    (every_on (LogIn i (j + 1) ss) (LogIn i j (s ∷ ss)) (λ p h. (suc h.0, h.1, omega (arith, h.2), h.3)) (logs_of_scopes i (j + 1) ss) (logs_of_all i (j + 1) ss))

-- the place is in a resource, as deep as the context goes
abbrev IsIn : Context → Option ResourceTree → Place → Type 0
IsIn Resource r p = IsSome r
IsIn Scope r p = IsSome (within (λ r. slice_get r.scopes p.scope) r)
IsIn Log r p = IsSome (within (λ s. slice_get s.logs p.log) (within (λ r. slice_get r.scopes p.scope) r))

-- that of a target in resources, counted from the one with number i
abbrev TargetFrom : Context → ℕ → List ResourceTree → Place → Type 0
TargetFrom context i rs p = (n : ℕ) × (p.resource ≡ i + n) × IsIn context (slice_get rs n) p

scope_found : (i : ℕ) (r : ResourceTree) (rs : List ResourceTree) (p : Place) → ScopeFrom i 0 r.scopes p → TargetFrom Scope i (r ∷ rs) p
scope_found i r rs p h = (0, omega (arith, h.1), subst (λ (m : ℕ). IsSome (slice_get r.scopes m)) (omega (arith, h.2)) h.3)

log_in_found : (i : ℕ) (r : ResourceTree) (rs : List ResourceTree) (p : Place) → LogIn i 0 r.scopes p → TargetFrom Log i (r ∷ rs) p
log_in_found i r rs p h =
    (0, omega (arith, h.1), subst (λ (m : ℕ). IsSome (within (λ s. slice_get s.logs p.log) (slice_get r.scopes m))) (omega (arith, h.2)) h.3)

behind_one : (context : Context) (i : ℕ) (r : ResourceTree) (rs : List ResourceTree) (ps : List Place) → Every (TargetFrom context (i + 1) rs) ps
    → Every (TargetFrom context i (r ∷ rs)) ps
behind_one context i r rs ps = every_on (TargetFrom context (i + 1) rs) (TargetFrom context i (r ∷ rs)) (λ p h. (suc h.0, omega (arith, h.1), h.2)) ps

all_inside : (context : Context) (i : ℕ) (rs : List ResourceTree) → Every (TargetFrom context i rs) (targets_from context i rs)
all_inside context i [] = tt
all_inside Resource i (r ∷ rs) = ((0, omega arith, refl), behind_one Resource i r rs (targets_from Resource (i + 1) rs) (all_inside Resource (i + 1) rs))
all_inside Scope i (r ∷ rs) =
    every_both (TargetFrom Scope i (r ∷ rs)) (scope_places i 0 r.scopes) (targets_from Scope (i + 1) rs)
    (every_on (ScopeFrom i 0 r.scopes) (TargetFrom Scope i (r ∷ rs)) (scope_found i r rs) (scope_places i 0 r.scopes) (scopes_in_order i 0 r.scopes))
    (behind_one Scope i r rs (targets_from Scope (i + 1) rs) (all_inside Scope (i + 1) rs))
all_inside Log i (r ∷ rs) =
    every_both (TargetFrom Log i (r ∷ rs)) (logs_of_scopes i 0 r.scopes) (targets_from Log (i + 1) rs)
    (every_on (LogIn i 0 r.scopes) (TargetFrom Log i (r ∷ rs)) (log_in_found i r rs) (logs_of_scopes i 0 r.scopes) (logs_of_all i 0 r.scopes))
    (behind_one Log i r rs (targets_from Log (i + 1) rs) (all_inside Log (i + 1) rs))

is_there : (tree : Batch) (context : Context) (p : Place) → IsIn context (slice_get tree.resources p.resource) p → IsPlaceIn tree context p
is_there tree Resource p h = h
is_there tree Scope p h = h
is_there tree Log p h = h

pub target_inside : (tree : Batch) (context : Context) (k : ℕ) (p : Place) → slice_get (targets tree context) k ≡ Some p → IsPlaceIn tree context p
target_inside tree context k p is =
    let h = every_found (TargetFrom context 0 tree.resources) (targets tree context) k p (all_inside context 0 tree.resources) is in
    is_there tree context p (subst (λ (n : ℕ). IsIn context (slice_get tree.resources n) p) (omega (arith, h.1)) h.2)

pub ruleset inside_tree = (target_inside)
