-- The number of log records of trees that are made of others.
use Rattle.std.proofs.Common.{◌≡◌, ◌∙◌, ℕ, suc, ◌+◌, ◌≤◌, Bool, true, false, List, [], ◌∷◌, ◌++◌, length, drop, map, filter, refl, sym, ap, arith, length-append}
use Rattle.std.proofs.lemmas.List.{length-map}
use Rattle.std.proofs.lemmas.Bool.Decides.{nat_tests}
use Rattle.std.specs.Prelude.{◌&&◌, ◌==◌}
use Rattle.std.specs.Str.{bytes_eq}
use Rattle.leg_model.proofs.Distinct.{IsEquivalence, count, total, total-distinct}
use Rattle.pdata_tree.specs.Grouping.{Member, distinct, grouped, members, members_of_scope, members_of_scopes, resource_group, same_resource, same_scope, scope_group, scope_groups}
use Rattle.pdata_tree.specs.Places.{log_places, logs_of_scopes, targets, targets_from}
use Rattle.pdata_tree.specs.Selecting.{flagged, kept, kept_in, kept_scopes, resource_with, scope_with}
use Rattle.pdata_tree.specs.Tree.{records, records_of_resources, records_of_scopes}
use Rattle.pdata_tree.specs.declared.batch.Batch.{Batch}
use Rattle.pdata_tree.specs.declared.place.Context.TheVariants.{Log}
use Rattle.pdata_tree.specs.declared.record.LogRecord.{LogRecord}
use Rattle.pdata_tree.specs.declared.resource.ResourceNode.{ResourceNode}
use Rattle.pdata_tree.specs.declared.resource.ResourceTree.{ResourceTree}
use Rattle.pdata_tree.specs.declared.scope.ScopeNode.{ScopeNode}
use Rattle.pdata_tree.specs.declared.scope.ScopeTree.{ScopeTree}
use Rattle.pdata_value.proofs.Bools.{both, bytes_same, left, right, same_bytes}
use Rattle.pdata_value.proofs.Equivalence.{same_back, same_itself, same_on}
use Rattle.pdata_value.proofs.Sames.{same-Map-Map}
use Rattle.pdata_value.specs.Same.{same_pairs}
use Rattle.pdata_value.specs.Value.{pairs}
use Rattle.pdata_value.specs.declared.pairs.Pairs.{Pairs}
use Rattle.pdata_value.specs.declared.value.Value.TheVariants as kind

-- As many as there are places of log records.

length-log_places : (i j k : ℕ) (ls : List LogRecord) → length (log_places i j k ls) ≡ length ls
length-log_places i j k [] = refl
length-log_places i j k (l ∷ ls) = ap suc (length-log_places i j (k + 1) ls)

length-logs : (i j : ℕ) (ss : List ScopeTree) → length (logs_of_scopes i j ss) ≡ records_of_scopes ss
length-logs i j [] = refl
length-logs i j (s ∷ ss) =
    length-append (log_places i j 0 s.logs) (logs_of_scopes i (j + 1) ss)
    ∙ ap (λ n. n + length (logs_of_scopes i (j + 1) ss)) (length-log_places i j 0 s.logs)
    ∙ ap (λ n. length s.logs + n) (length-logs i (j + 1) ss)

length-targets : (i : ℕ) (rs : List ResourceTree) → length (targets_from Log i rs) ≡ records_of_resources rs
length-targets i [] = refl
length-targets i (r ∷ rs) =
    length-append (logs_of_scopes i 0 r.scopes) (targets_from Log (i + 1) rs)
    ∙ ap (λ n. n + length (targets_from Log (i + 1) rs)) (length-logs i 0 r.scopes)
    ∙ ap (λ n. records_of_scopes r.scopes + n) (length-targets (i + 1) rs)

-- trees with the same places of log records have as many
pub records-targets : (old new : Batch) → targets new Log ≡ targets old Log → records new ≡ records old
records-targets old new same =
    sym (length-targets 0 new.resources) ∙ ap length same ∙ length-targets 0 old.resources

-- Those that are kept are no more.

length-flagged : {X : Type 0} (flags : List Bool) (xs : List X) → length (flagged flags xs) ≤ length xs
length-flagged [] xs = omega arith
length-flagged (b ∷ bs) [] = omega arith
length-flagged (true ∷ bs) (x ∷ xs) = omega (arith, length-flagged bs xs)
length-flagged (false ∷ bs) (x ∷ xs) = omega (arith, length-flagged bs xs)

scopes-append : (ss ts : List ScopeTree) → records_of_scopes (ss ++ ts) ≡ records_of_scopes ss + records_of_scopes ts
scopes-append [] ts = omega arith
scopes-append (s ∷ ss) ts = omega (arith, scopes-append ss ts)

resources-append : (rs qs : List ResourceTree)
    → records_of_resources (rs ++ qs) ≡ records_of_resources rs + records_of_resources qs
resources-append [] qs = omega arith
resources-append (r ∷ rs) qs = omega (arith, resources-append rs qs)

records-scope_with : (s : ScopeTree) (ls : List LogRecord) → records_of_scopes (scope_with s ls) ≡ length ls
records-scope_with s [] = refl
records-scope_with s (l ∷ ls) = omega arith

records-kept_scopes : (flags : List Bool) (ss : List ScopeTree)
    → records_of_scopes (kept_scopes flags ss) ≤ records_of_scopes ss
records-kept_scopes flags [] = omega arith
records-kept_scopes flags (s ∷ ss) =
    omega (
      arith,
      scopes-append (scope_with s (flagged flags s.logs)) (kept_scopes (drop (length s.logs) flags) ss),
      records-scope_with s (flagged flags s.logs),
      length-flagged flags s.logs,
      records-kept_scopes (drop (length s.logs) flags) ss,
    )

records-resource_with : (r : ResourceTree) (ss : List ScopeTree)
    → records_of_resources (resource_with r ss) ≡ records_of_scopes ss
records-resource_with r [] = refl
records-resource_with r (s ∷ ss) = omega arith

records-kept_in : (flags : List Bool) (rs : List ResourceTree)
    → records_of_resources (kept_in flags rs) ≤ records_of_resources rs
records-kept_in flags [] = omega arith
records-kept_in flags (r ∷ rs) =
    omega (
      arith,
      resources-append (resource_with r (kept_scopes flags r.scopes)) (kept_in (drop (records_of_scopes r.scopes) flags) rs),
      records-resource_with r (kept_scopes flags r.scopes),
      records-kept_scopes flags r.scopes,
      records-kept_in (drop (records_of_scopes r.scopes) flags) rs,
    )

pub records-kept : (flags : List Bool) (tree : Batch) → records (kept flags tree) ≤ records tree
records-kept flags tree = records-kept_in flags tree.resources

-- Those that are grouped are as many.

pairs_itself : (p : Pairs) → same_pairs (pairs p) (pairs p) ≡ true
pairs_itself p = sym (same-Map-Map p p) ∙ same_itself (kind.Map p)

pairs_back : (p q : Pairs) → same_pairs (pairs p) (pairs q) ≡ true → same_pairs (pairs q) (pairs p) ≡ true
pairs_back p q h = sym (same-Map-Map q p) ∙ same_back (kind.Map p) (kind.Map q) (same-Map-Map p q ∙ h)

pairs_on : (p q r : Pairs) → same_pairs (pairs p) (pairs q) ≡ true → same_pairs (pairs q) (pairs r) ≡ true
    → same_pairs (pairs p) (pairs r) ≡ true
pairs_on p q r h k =
    sym (same-Map-Map p r)
    ∙ same_on (kind.Map p) (kind.Map q) (kind.Map r) (same-Map-Map p q ∙ h) (same-Map-Map q r ∙ k)

-- Tests that are equivalences are one together, and so are those of a part.

together : {K : Type 0} (f g : K → K → Bool) → IsEquivalence f → IsEquivalence g
    → IsEquivalence (λ x y. f x y && g x y)
together f g first second = record {
  itself = λ x. both (f x x) (g x x) (first.itself x) (second.itself x);
  back = λ x y h.
      both (f y x) (g y x) (first.back x y (left (f x y) (g x y) h)) (second.back x y (right (f x y) (g x y) h));
  on = λ x y z h k.
      both (f x z) (g x z) (first.on x y z (left (f x y) (g x y) h) (left (f y z) (g y z) k))
      (second.on x y z (right (f x y) (g x y) h) (right (f y z) (g y z) k));
}

numbers_alike : {K : Type 0} (part : K → ℕ) → IsEquivalence (λ x y. part x == part y)
numbers_alike part = record {
  itself = λ x. itself (part x);
  back = λ x y h. back (part x) (part y) h;
  on = λ x y z h k. on (part x) (part y) (part z) h k;
}
  where
    itself : (a : ℕ) → (a == a) ≡ true
    itself a = grind (arith, nat_tests)

    back : (a b : ℕ) → (a == b) ≡ true → (b == a) ≡ true
    back a b h = grind (arith, nat_tests)

    on : (a b c : ℕ) → (a == b) ≡ true → (b == c) ≡ true → (a == c) ≡ true
    on a b c h k = grind (arith, nat_tests)

bytes_alike : {K : Type 0} (part : K → List ℕ) → IsEquivalence (λ x y. bytes_eq (part x) (part y))
bytes_alike part = record {
  itself = λ x. bytes_same (part x) (part x) refl;
  back = λ x y h. bytes_same (part y) (part x) (sym (same_bytes (part x) (part y) h));
  on = λ x y z h k. bytes_same (part x) (part z) (same_bytes (part x) (part y) h ∙ same_bytes (part y) (part z) k);
}

pairs_alike : {K : Type 0} (part : K → Pairs) → IsEquivalence (λ x y. same_pairs (pairs (part x)) (pairs (part y)))
pairs_alike part = record {
  itself = λ x. pairs_itself (part x);
  back = λ x y h. pairs_back (part x) (part y) h;
  on = λ x y z h k. pairs_on (part x) (part y) (part z) h k;
}

resources_alike : IsEquivalence same_resource
resources_alike =
    together (λ r s. same_pairs (pairs r.attributes) (pairs s.attributes) && r.dropped == s.dropped)
    (λ r s. bytes_eq r.schema_url s.schema_url)
    (together (λ r s. same_pairs (pairs r.attributes) (pairs s.attributes)) (λ r s. r.dropped == s.dropped)
    (pairs_alike (λ (r : ResourceNode). r.attributes)) (numbers_alike (λ (r : ResourceNode). r.dropped)))
    (bytes_alike (λ (r : ResourceNode). r.schema_url))

names_alike : IsEquivalence (λ (s t : ScopeNode). bytes_eq s.name t.name && bytes_eq s.version t.version)
names_alike =
    together (λ s t. bytes_eq s.name t.name) (λ s t. bytes_eq s.version t.version)
    (bytes_alike (λ (s : ScopeNode). s.name)) (bytes_alike (λ (s : ScopeNode). s.version))

scopes_alike : IsEquivalence same_scope
scopes_alike =
    together
    (λ s t. bytes_eq s.name t.name && bytes_eq s.version t.version && same_pairs (pairs s.attributes) (pairs t.attributes) && s.dropped == t.dropped)
    (λ s t. bytes_eq s.schema_url t.schema_url)
    (together
    (λ s t. bytes_eq s.name t.name && bytes_eq s.version t.version && same_pairs (pairs s.attributes) (pairs t.attributes))
    (λ s t. s.dropped == t.dropped)
    (together (λ s t. bytes_eq s.name t.name && bytes_eq s.version t.version)
    (λ s t. same_pairs (pairs s.attributes) (pairs t.attributes)) names_alike (pairs_alike (λ (s : ScopeNode). s.attributes)))
    (numbers_alike (λ (s : ScopeNode). s.dropped)))
    (bytes_alike (λ (s : ScopeNode). s.schema_url))

-- the log records of scopes that group these
records-scope_group : (ms : List Member) (ks : List ScopeNode)
    → records_of_scopes (map (scope_group ms) ks) ≡ total (count same_scope scopes_alike (λ (m : Member). m.scope) ms) ks
records-scope_group ms [] = refl
records-scope_group ms (k ∷ ks) =
    ap (λ n. n + records_of_scopes (map (scope_group ms) ks))
    (length-map (filter (λ (m : Member). same_scope k m.scope) ms) (λ (m : Member). m.log))
    ∙ ap (λ n. length (filter (λ m. same_scope k m.scope) ms) + n) (records-scope_group ms ks)

records-scope_groups : (ms : List Member) → records_of_scopes (scope_groups ms) ≡ length ms
records-scope_groups ms =
    records-scope_group ms (distinct same_scope (map (λ m. m.scope) ms))
    ∙ total-distinct same_scope scopes_alike (λ (m : Member). m.scope) ms

-- those of resources
records-resource_group : (ms : List Member) (ks : List ResourceNode)
    → records_of_resources (map (resource_group ms) ks)
    ≡ total (count same_resource resources_alike (λ (m : Member). m.resource) ms) ks
records-resource_group ms [] = refl
records-resource_group ms (k ∷ ks) =
    ap (λ n. n + records_of_resources (map (resource_group ms) ks))
    (records-scope_groups (filter (λ m. same_resource k m.resource) ms))
    ∙ ap (λ n. length (filter (λ m. same_resource k m.resource) ms) + n) (records-resource_group ms ks)

length-members_of_scopes : (keys : List (List ℕ)) (r : ResourceNode) (ss : List ScopeTree)
    → length (members_of_scopes keys r ss) ≡ records_of_scopes ss
length-members_of_scopes keys r [] = refl
length-members_of_scopes keys r (s ∷ ss) =
    length-append (members_of_scope keys r s) (members_of_scopes keys r ss)
    ∙ ap (λ n. n + length (members_of_scopes keys r ss)) (length-map s.logs _)
    ∙ ap (λ n. length s.logs + n) (length-members_of_scopes keys r ss)

length-members : (keys : List (List ℕ)) (rs : List ResourceTree) → length (members keys rs) ≡ records_of_resources rs
length-members keys [] = refl
length-members keys (r ∷ rs) =
    length-append (members_of_scopes keys r.node r.scopes) (members keys rs)
    ∙ ap (λ n. n + length (members keys rs)) (length-members_of_scopes keys r.node r.scopes)
    ∙ ap (λ n. records_of_scopes r.scopes + n) (length-members keys rs)

pub records-grouped : (keys : List (List ℕ)) (tree : Batch) → records (grouped keys tree) ≡ records tree
records-grouped keys tree =
    records-resource_group (members keys tree.resources)
    (distinct same_resource (map (λ m. m.resource) (members keys tree.resources)))
    ∙ total-distinct same_resource resources_alike (λ (m : Member). m.resource) (members keys tree.resources)
    ∙ length-members keys tree.resources
