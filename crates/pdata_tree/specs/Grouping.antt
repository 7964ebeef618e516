-- Log records grouped by attributes: each goes to the resource that its attributes name, and to its
-- scope there.
use Rattle.std.specs.Prelude.{ℕ, Bool, not, ◌&&◌, ◌==◌, List, [], ◌∷◌, ◌++◌, map, filter, Option, Some, None}
use Rattle.std.specs.Str.{bytes_eq}
use Rattle.pdata_value.specs.Pairs.{get, is_listed, put}
use Rattle.pdata_value.specs.Same.{same_pairs}
use Rattle.pdata_value.specs.Value.{pairs}
use Rattle.pdata_value.specs.declared.value.Value.{Value}
use Rattle.pdata_tree.specs.declared.batch.Batch.{Batch}
use Rattle.pdata_tree.specs.declared.record.LogRecord.{LogRecord}
use Rattle.pdata_tree.specs.declared.resource.ResourceNode.{ResourceNode}
use Rattle.pdata_tree.specs.declared.resource.ResourceTree.{ResourceTree}
use Rattle.pdata_tree.specs.declared.scope.ScopeNode.{ScopeNode}
use Rattle.pdata_tree.specs.declared.scope.ScopeTree.{ScopeTree}

-- a value that was found put under a key; nothing where none was
abbrev pub put_found : List ℕ → List (List ℕ × Value) → Option Value → List (List ℕ × Value)
put_found key ps None = ps
put_found key ps (Some v) = put ps key v

-- pairs into which the first values of listed keys are put, by the order of the list
abbrev pub with_listed : List (List ℕ) → List (List ℕ × Value) → List (List ℕ × Value)
    → List (List ℕ × Value)
with_listed [] from ps = ps
with_listed (k ∷ ks) from ps = with_listed ks from (put_found k ps (get from k))

-- the resource that a log record belongs to: its own, with the record's listed attributes
abbrev pub resource_of : List (List ℕ) → ResourceNode → LogRecord → ResourceNode
resource_of keys r l = record r {
  attributes = record {
    items = with_listed keys
        (pairs l.attributes) (pairs r.attributes);
  };
}

-- a log record without its listed attributes
abbrev pub without_listed : List (List ℕ) → LogRecord → LogRecord
without_listed keys l =
    record l {
      attributes = record {
        items = filter (λ p. not (is_listed keys p.0))
            (pairs l.attributes);
      };
    }

-- the same resource: the same first values, and equal other fields
abbrev pub same_resource : ResourceNode → ResourceNode → Bool
same_resource r s =
    same_pairs (pairs r.attributes) (pairs s.attributes) && r.dropped == s.dropped
    && bytes_eq r.schema_url s.schema_url

-- the same scope
abbrev pub same_scope : ScopeNode → ScopeNode → Bool
same_scope s t =
    bytes_eq s.name t.name && bytes_eq s.version t.version
    && same_pairs (pairs s.attributes) (pairs t.attributes)
    && s.dropped == t.dropped && bytes_eq s.schema_url t.schema_url

-- A log record as it is grouped.
pub record Member : Type 0 where
  pub resource : ResourceNode
  pub scope : ScopeNode
  pub log : LogRecord

-- the log records of a scope
abbrev pub members_of_scope : List (List ℕ) → ResourceNode → ScopeTree → List Member
members_of_scope keys r s =
    map (λ l. record { resource = resource_of keys r l; scope = s.node; log = without_listed keys l }) s.logs

-- the log records of scopes
abbrev pub members_of_scopes : List (List ℕ) → ResourceNode → List ScopeTree → List Member
members_of_scopes keys r [] = []
members_of_scopes keys r (s ∷ ss) = members_of_scope keys r s ++ members_of_scopes keys r ss

-- the log records of resources, in the order of the tree
abbrev pub members : List (List ℕ) → List ResourceTree → List Member
members keys [] = []
members keys (r ∷ rs) = members_of_scopes keys r.node r.scopes ++ members keys rs

-- the items that aren't the same as an earlier one
abbrev pub distinct : {X : Type 0} → (X → X → Bool) → List X → List X
distinct same [] = []
distinct same (x ∷ xs) = x ∷ filter (λ y. not (same x y)) (distinct same xs)

-- a scope with those of these log records that have the same
abbrev pub scope_group : List Member → ScopeNode → ScopeTree
scope_group ms s =
    record { node = s; logs = map (λ m. m.log) (filter (λ m. same_scope s m.scope) ms) }

-- the scopes of these log records, by first appearance
abbrev pub scope_groups : List Member → List ScopeTree
scope_groups ms = map (scope_group ms) (distinct same_scope (map (λ m. m.scope) ms))

-- a resource with those of these log records that have the same
abbrev pub resource_group : List Member → ResourceNode → ResourceTree
resource_group ms r =
    record { node = r; scopes = scope_groups (filter (λ m. same_resource r m.resource) ms) }

-- the tree grouped by the listed attributes; resources by first appearance
abbrev pub grouped : List (List ℕ) → Batch → Batch
grouped keys batch =
    let ms = members keys batch.resources in
    record batch {
      resources = map (resource_group ms)
          (distinct same_resource (map (λ m. m.resource) ms));
    }
