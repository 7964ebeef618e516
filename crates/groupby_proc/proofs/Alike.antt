-- Resources and scopes as keys.
use Rattle.std.proofs.Common.{◌≡◌, ◌∙◌, ℕ, Bool, true, false, List, [], refl, sym, ap, arith}
use Rattle.std.proofs.lemmas.Bool.Decides.{nat_tests}
use Rattle.std.specs.Prelude.{◌&&◌, ◌==◌}
use Rattle.std.specs.Str.{bytes_eq}
use Rattle.pdata_value.specs.Same.{same_pairs}
use Rattle.pdata_value.specs.Value.{pairs}
use Rattle.pdata_value.specs.declared.pairs.Pairs.{Pairs}
use Rattle.pdata_value.specs.declared.value.Value.TheVariants as kind
use Rattle.pdata_value.proofs.Bools.{both, left, right, same_bytes, bytes_same}
use Rattle.pdata_value.proofs.Equivalence.{same_itself, same_back, same_on}
use Rattle.pdata_value.proofs.Sames.{same-Map-Map}
use Rattle.pdata_tree.specs.Grouping.{same_resource, same_scope}
use Rattle.pdata_tree.specs.declared.resource.ResourceNode.{ResourceNode}
use Rattle.pdata_tree.specs.declared.scope.ScopeNode.{ScopeNode}
use Rattle.groupby_proc.specs.Codes.{resource_code, scope_code, with_bytes, with_pairs}
use Rattle.groupby_proc.specs.Gathering.{IsEquivalence, SharesCodes}
use Rattle.groupby_proc.proofs.Codes.{map_codes}

maps_itself : (p : Pairs) → same_pairs (pairs p) (pairs p) ≡ true
maps_itself p = sym (same-Map-Map p p) ∙ same_itself (kind.Map p)

maps_back : (p q : Pairs) → same_pairs (pairs p) (pairs q) ≡ true → same_pairs (pairs q) (pairs p) ≡ true
maps_back p q h = sym (same-Map-Map q p) ∙ same_back (kind.Map p) (kind.Map q) (same-Map-Map p q ∙ h)

maps_on : (p q r : Pairs) → same_pairs (pairs p) (pairs q) ≡ true → same_pairs (pairs q) (pairs r) ≡ true
    → same_pairs (pairs p) (pairs r) ≡ true
maps_on p q r h k =
    sym (same-Map-Map p r) ∙ same_on (kind.Map p) (kind.Map q) (kind.Map r) (same-Map-Map p q ∙ h) (same-Map-Map q r ∙ k)

numbers : (a b : ℕ) → (a == b) ≡ true → a ≡ b
numbers a b h = grind (arith, nat_tests)

numbers_itself : (a b : ℕ) → a ≡ b → (a == b) ≡ true
numbers_itself a b h = grind (arith, nat_tests)

-- two resources that are the same, field by field
record Resources (r s : ResourceNode) : Type 0 where
  attributes : same_pairs (pairs r.attributes) (pairs s.attributes) ≡ true
  dropped : r.dropped ≡ s.dropped
  schema_url : r.schema_url ≡ s.schema_url

resources_apart : (r s : ResourceNode) → same_resource r s ≡ true → Resources r s
resources_apart r s h =
    let two : (same_pairs (pairs r.attributes) (pairs s.attributes) && r.dropped == s.dropped) ≡ true = left _ (bytes_eq r.schema_url s.schema_url) h in
    record {
      attributes = left (same_pairs (pairs r.attributes) (pairs s.attributes)) (r.dropped == s.dropped) two;
      dropped = numbers r.dropped s.dropped (right (same_pairs (pairs r.attributes) (pairs s.attributes)) (r.dropped == s.dropped) two);
      schema_url = same_bytes r.schema_url s.schema_url (right (same_pairs (pairs r.attributes) (pairs s.attributes) && r.dropped == s.dropped) (bytes_eq r.schema_url s.schema_url) h);
    }

resources_joined : (r s : ResourceNode) → Resources r s → same_resource r s ≡ true
resources_joined r s h =
    both (same_pairs (pairs r.attributes) (pairs s.attributes) && r.dropped == s.dropped) (bytes_eq r.schema_url s.schema_url)
    (both (same_pairs (pairs r.attributes) (pairs s.attributes)) (r.dropped == s.dropped) h.attributes (numbers_itself r.dropped s.dropped h.dropped))
    (bytes_same r.schema_url s.schema_url h.schema_url)

pub resources_alike : IsEquivalence same_resource
resources_alike = record {
  itself = λ r. resources_joined r r (record { attributes = maps_itself r.attributes; dropped = refl; schema_url = refl });
  back = λ r s h.
      let parts = resources_apart r s h in
      resources_joined s r (record {
        attributes = maps_back r.attributes s.attributes parts.attributes;
        dropped = sym parts.dropped;
        schema_url = sym parts.schema_url;
      });
  on = λ r s t h k.
      let first = resources_apart r s h in
      let second = resources_apart s t k in
      resources_joined r t (record {
        attributes = maps_on r.attributes s.attributes t.attributes first.attributes second.attributes;
        dropped = first.dropped ∙ second.dropped;
        schema_url = first.schema_url ∙ second.schema_url;
      });
}

pub resource_codes : SharesCodes same_resource resource_code
resource_codes r s h =
    let parts = resources_apart r s h in
    ap (λ (n : ℕ). with_bytes (with_pairs n [] (pairs r.attributes)) r.schema_url) parts.dropped
    ∙ ap (λ (n : ℕ). with_bytes n r.schema_url) (map_codes (pairs r.attributes) (pairs s.attributes) s.dropped parts.attributes)
    ∙ ap (λ (u : List ℕ). with_bytes (with_pairs s.dropped [] (pairs s.attributes)) u) parts.schema_url

-- two scopes that are the same, field by field
record Scopes (s t : ScopeNode) : Type 0 where
  name : s.name ≡ t.name
  version : s.version ≡ t.version
  attributes : same_pairs (pairs s.attributes) (pairs t.attributes) ≡ true
  dropped : s.dropped ≡ t.dropped
  schema_url : s.schema_url ≡ t.schema_url

-- five truths at once
five : (a b c d e : Bool) → (a && b && c && d && e) ≡ true → (a ≡ true) × (b ≡ true) × (c ≡ true) × (d ≡ true) × (e ≡ true)
five true true true true true h = (refl, refl, refl, refl, refl)
five true true true true false h = absurd cc
five true true true false e h = absurd cc
five true true false d e h = absurd cc
five true false c d e h = absurd cc
five false b c d e h = absurd cc

five_true : (a b c d e : Bool) → a ≡ true → b ≡ true → c ≡ true → d ≡ true → e ≡ true → (a && b && c && d && e) ≡ true
five_true a b c d e p q r s t = both (a && b && c && d) e (both (a && b && c) d (both (a && b) c (both a b p q) r) s) t

scopes_apart : (s t : ScopeNode) → same_scope s t ≡ true → Scopes s t
scopes_apart s t h =
    let parts =
    five (bytes_eq s.name t.name) (bytes_eq s.version t.version) (same_pairs (pairs s.attributes) (pairs t.attributes))
    (s.dropped == t.dropped) (bytes_eq s.schema_url t.schema_url) h in
    record {
      name = same_bytes s.name t.name parts.0;
      version = same_bytes s.version t.version parts.1;
      attributes = parts.2;
      dropped = numbers s.dropped t.dropped parts.3;
      schema_url = same_bytes s.schema_url t.schema_url parts.4;
    }

scopes_joined : (s t : ScopeNode) → Scopes s t → same_scope s t ≡ true
scopes_joined s t h =
    five_true (bytes_eq s.name t.name) (bytes_eq s.version t.version) (same_pairs (pairs s.attributes) (pairs t.attributes))
    (s.dropped == t.dropped) (bytes_eq s.schema_url t.schema_url) (bytes_same s.name t.name h.name)
    (bytes_same s.version t.version h.version) h.attributes (numbers_itself s.dropped t.dropped h.dropped)
    (bytes_same s.schema_url t.schema_url h.schema_url)

pub scopes_alike : IsEquivalence same_scope
scopes_alike = record {
  itself = λ s. scopes_joined s s (record { name = refl; version = refl; attributes = maps_itself s.attributes; dropped = refl; schema_url = refl });
  back = λ s t h.
      let parts = scopes_apart s t h in
      scopes_joined t s (record {
        name = sym parts.name;
        version = sym parts.version;
        attributes = maps_back s.attributes t.attributes parts.attributes;
        dropped = sym parts.dropped;
        schema_url = sym parts.schema_url;
      });
  on = λ s t u h k.
      let first = scopes_apart s t h in
      let second = scopes_apart t u k in
      scopes_joined s u (record {
        name = first.name ∙ second.name;
        version = first.version ∙ second.version;
        attributes = maps_on s.attributes t.attributes u.attributes first.attributes second.attributes;
        dropped = first.dropped ∙ second.dropped;
        schema_url = first.schema_url ∙ second.schema_url;
      });
}

pub scope_codes : SharesCodes same_scope scope_code
scope_codes s t h =
    let parts = scopes_apart s t h in
    ap (λ (n : ℕ). with_bytes (with_bytes (with_bytes (with_pairs n [] (pairs s.attributes)) s.name) s.version) s.schema_url) parts.dropped
    ∙ ap (λ (n : ℕ). with_bytes (with_bytes (with_bytes n s.name) s.version) s.schema_url) (map_codes (pairs s.attributes) (pairs t.attributes) t.dropped parts.attributes)
    ∙ ap (λ (u : List ℕ). with_bytes (with_bytes (with_bytes (with_pairs t.dropped [] (pairs t.attributes)) u) s.version) s.schema_url) parts.name
    ∙ ap (λ (u : List ℕ). with_bytes (with_bytes (with_bytes (with_pairs t.dropped [] (pairs t.attributes)) t.name) u) s.schema_url) parts.version
    ∙ ap (λ (u : List ℕ). with_bytes (with_bytes (with_bytes (with_pairs t.dropped [] (pairs t.attributes)) t.name) t.version) u) parts.schema_url
