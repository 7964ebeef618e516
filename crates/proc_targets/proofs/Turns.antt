-- One turn of a loop that lists targets.
use Rattle.std.proofs.Common.{◌≡◌, ◌∙◌, ◌<◌, ℕ, zero, suc, ◌+◌, List, [], ◌∷◌, ◌++◌, Some, append_assoc, ap, arith, drop, length, refl, sym}
use Rattle.std.specs.Prelude.{slice_get}
use Rattle.pdata_tree.specs.Places.{log_places, logs_of_scopes, place_of, scope_places, targets_from}
use Rattle.pdata_tree.specs.declared.batch.Batch.{Batch}
use Rattle.pdata_tree.specs.declared.place.Context.{Context}
use Rattle.pdata_tree.specs.declared.place.Context.TheVariants.{Resource, Scope, Log}
use Rattle.pdata_tree.specs.declared.place.Place.{Place}
use Rattle.pdata_tree.specs.declared.record.LogRecord.{LogRecord}
use Rattle.pdata_tree.specs.declared.resource.ResourceTree.{ResourceTree}
use Rattle.pdata_tree.specs.declared.scope.ScopeTree.{ScopeTree}
use Rattle.proc_targets.specs.OneResource.{targets_at, targets_in}
use Rattle.share_cow.specs.Views.{logs_in, logs_or_none, scopes_in, scopes_or_none}

-- the targets of a resource come before those of the resources behind it
pub targets_more : (context : Context) (i : ℕ) (r : ResourceTree) (rs : List ResourceTree)
    → targets_from context i (r ∷ rs) ≡ targets_in context i r ++ targets_from context (i + 1) rs
targets_more Resource i r rs = refl
targets_more Scope i r rs = refl
targets_more Log i r rs = refl

pub ruleset target_turns = (targets_more)

-- an item within a list is there, with those behind it
found_from : {X : Type 0} (xs : List X) (i : ℕ) → i < length xs → (x : X) × (slice_get xs i ≡ Some x) × (drop i xs ≡ x ∷ drop (suc i) xs)
found_from [] i within = absurd (omega (arith, within))
found_from (x ∷ xs) zero within = (x, refl, refl)
found_from (x ∷ xs) (suc i) within = found_from xs i (omega (arith, within))

next_number : (n : ℕ) → suc n ≡ n + 1
next_number n = omega arith

-- what was done, then a part, then the rest
onto : (done part rest : List Place) (all : List Place) → all ≡ part ++ rest → (done ++ part) ++ rest ≡ done ++ all
onto done part rest all is = append_assoc done part rest ∙ ap (λ (ps : List Place). done ++ ps) (sym is)

-- one more log record, whose number is the next
pub log_listed : (i j k next : ℕ) (ls : List LogRecord) (done : List Place) → k < length ls → next ≡ k + 1
    → (done ++ place_of i j k ∷ []) ++ log_places i j next (drop next ls) ≡ done ++ log_places i j k (drop k ls)
log_listed i j k next ls done within is =
    let at = found_from ls k within in
    ap (λ (n : ℕ). (done ++ place_of i j k ∷ []) ++ log_places i j n (drop n ls)) is
    ∙ onto done (place_of i j k ∷ []) (log_places i j (k + 1) (drop (k + 1) ls)) (log_places i j k (drop k ls))
    (ap (log_places i j k) at.2 ∙ ap (λ (n : ℕ). place_of i j k ∷ log_places i j (k + 1) (drop n ls)) (next_number k))

-- one more scope
pub scope_listed : (i j next : ℕ) (ss : List ScopeTree) (done : List Place) → j < length ss → next ≡ j + 1
    → (done ++ place_of i j 0 ∷ []) ++ scope_places i next (drop next ss) ≡ done ++ scope_places i j (drop j ss)
scope_listed i j next ss done within is =
    let at = found_from ss j within in
    ap (λ (n : ℕ). (done ++ place_of i j 0 ∷ []) ++ scope_places i n (drop n ss)) is
    ∙ onto done (place_of i j 0 ∷ []) (scope_places i (j + 1) (drop (j + 1) ss)) (scope_places i j (drop j ss))
    (ap (scope_places i j) at.2 ∙ ap (λ (n : ℕ). place_of i j 0 ∷ scope_places i (j + 1) (drop n ss)) (next_number j))

-- the log records of one more scope
pub scope_logs_listed : (i j next : ℕ) (tree : Batch) (done : List Place) → j < length (scopes_in tree i) → next ≡ j + 1
    → (done ++ log_places i j 0 (logs_in tree i j)) ++ logs_of_scopes i next (drop next (scopes_in tree i)) ≡ done ++ logs_of_scopes i j (drop j (scopes_in tree i))
scope_logs_listed i j next tree done within is =
    let ss = scopes_in tree i in
    let at = found_from ss j within in
    ap (λ (n : ℕ). (done ++ log_places i j 0 (logs_in tree i j)) ++ logs_of_scopes i n (drop n ss)) is
    ∙ onto done (log_places i j 0 (logs_in tree i j)) (logs_of_scopes i (j + 1) (drop (j + 1) ss)) (logs_of_scopes i j (drop j ss))
    (ap (logs_of_scopes i j) at.2 ∙ ap (λ (ls : List LogRecord). log_places i j 0 ls ++ logs_of_scopes i (j + 1) (drop (suc j) ss)) (sym (ap logs_or_none at.1))
    ∙ ap (λ (n : ℕ). log_places i j 0 (logs_in tree i j) ++ logs_of_scopes i (j + 1) (drop n ss)) (next_number j))

-- the targets in a resource that is there
at_is_in : (context : Context) (tree : Batch) (i : ℕ) (r : ResourceTree) → slice_get tree.resources i ≡ Some r → targets_in context i r ≡ targets_at context tree i
at_is_in Resource tree i r is = refl
at_is_in Scope tree i r is = ap (scope_places i 0) (sym (ap scopes_or_none is))
at_is_in Log tree i r is = ap (logs_of_scopes i 0) (sym (ap scopes_or_none is))

-- the targets in one more resource
pub resource_listed : (context : Context) (i next : ℕ) (tree : Batch) (done : List Place) → i < length tree.resources → next ≡ i + 1
    → (done ++ targets_at context tree i) ++ targets_from context next (drop next tree.resources) ≡ done ++ targets_from context i (drop i tree.resources)
resource_listed context i next tree done within is =
    let rs = tree.resources in
    let at = found_from rs i within in
    ap (λ (n : ℕ). (done ++ targets_at context tree i) ++ targets_from context n (drop n rs)) is
    ∙ onto done (targets_at context tree i) (targets_from context (i + 1) (drop (i + 1) rs)) (targets_from context i (drop i rs))
    (ap (targets_from context i) at.2 ∙ targets_more context i at.0 (drop (suc i) rs)
    ∙ ap (λ (ps : List Place). ps ++ targets_from context (i + 1) (drop (suc i) rs)) (at_is_in context tree i at.0 at.1)
    ∙ ap (λ (n : ℕ). targets_at context tree i ++ targets_from context (i + 1) (drop n rs)) (next_number i))
