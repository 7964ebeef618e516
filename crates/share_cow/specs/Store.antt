-- What a forest holds, and the tree that each of its roots stands for.
use Rattle.std.specs.Prelude.{◌≡◌, ◌+◌, ◌-◌, ◌^◌, ◌<◌, ◌≤◌, ℕ, min, false, true, List, [], ◌∷◌, map, filter_map, length, count_by, is_some, Option, Some, None, IsSome, slice_index_or}
use Rattle.pdata_tree.specs.declared.batch.Batch.{Batch}
use Rattle.pdata_tree.specs.declared.record.LogRecord.{LogRecord}
use Rattle.pdata_tree.specs.declared.resource.ResourceNode.{ResourceNode}
use Rattle.pdata_tree.specs.declared.resource.ResourceTree.{ResourceTree}
use Rattle.pdata_tree.specs.declared.scope.ScopeNode.{ScopeNode}
use Rattle.pdata_tree.specs.declared.scope.ScopeTree.{ScopeTree}
use Rattle.shelf.specs.Places.{Places, count_at, item_at, slot_at}
use Rattle.share_cow.specs.Levels.{Level, AllCounted, IsApart, list_at, shared_places, sum_over, value}
use Rattle.share_cow.specs.declared.node.Node.{Node}

-- The batch that each live root names, how many roots there can be, and the nodes of each level.
pub record Store : Type 0 where
  pub roots : List (Option ℕ)
  pub most : ℕ
  pub batches : Places (Node Unit)
  pub resources : Places (Node ResourceNode)
  pub scopes : Places (Node ScopeNode)
  pub logs : Places (Node LogRecord)

-- A part of a payload.
pub data Part : Type 0 where
  nothing : Part
  a_log : LogRecord → Part
  a_scope : ScopeTree → Part
  a_resource : ResourceTree → Part
  a_batch : Batch → Part

-- of parts, those that are log records
abbrev pub as_log : Part → Option LogRecord
as_log (a_log l) = Some l
as_log _ = None

-- of parts, those that are scopes
abbrev pub as_scope : Part → Option ScopeTree
as_scope (a_scope s) = Some s
as_scope _ = None

-- of parts, those that are resources
abbrev pub as_resource : Part → Option ResourceTree
as_resource (a_resource r) = Some r
as_resource _ = None

-- of parts, those that are payloads
abbrev pub as_batch : Part → Option Batch
as_batch (a_batch b) = Some b
as_batch _ = None

-- what a node stands for, where there is one
abbrev pub built : {D : Type 0} → (D → List Part → Part) → Option (Node D) → List Part → Part
built make None parts = nothing
built make (Some node) parts = make node.content parts

-- the places that the node of a slot names
abbrev pub children_of : {D : Type 0} → Option (Node D × ℕ) → List ℕ
children_of None = []
children_of (Some kept) = kept.0.children

-- the level of a shelf's nodes, where `make` says what a node stands for
abbrev pub level_of : {D : Type 0} → (D → List Part → Part) → Places (Node D) → Level Part
level_of make places = record {
  children = map children_of places.slots;
  count = count_at places;
  build = λ p. built make (item_at places p);
}

-- a root names one batch
abbrev pub batch_named : Option ℕ → List ℕ
batch_named None = []
batch_named (Some place) = place ∷ []

-- what a root stands for is what its batch stands for
abbrev pub first_part : List Part → Part
first_part [] = nothing
first_part (part ∷ parts) = part

-- a root belongs to one holder, so it counts at most once
abbrev pub root_level : List (Option ℕ) → Level Part
root_level roots = record {
  children = map batch_named roots;
  count = λ p. 1;
  build = λ p. first_part;
}

-- a payload is its resources
abbrev pub batch_made : Unit {0} → List Part → Part
batch_made content parts = a_batch (record { resources = filter_map as_resource parts })

-- a resource is what it holds itself and its scopes
abbrev pub resource_made : ResourceNode → List Part → Part
resource_made node parts = a_resource (record { node = node; scopes = filter_map as_scope parts })

-- a scope is what it holds itself and its log records
abbrev pub scope_made : ScopeNode → List Part → Part
scope_made node parts = a_scope (record { node = node; logs = filter_map as_log parts })

-- a log record has nothing below it
abbrev pub log_made : LogRecord → List Part → Part
log_made own parts = a_log own

-- the level of payloads,
abbrev pub batch_level : Places (Node Unit) → Level Part
batch_level = level_of batch_made

-- that of resources,
abbrev pub resource_level : Places (Node ResourceNode) → Level Part
resource_level = level_of resource_made

-- that of scopes,
abbrev pub scope_level : Places (Node ScopeNode) → Level Part
scope_level = level_of scope_made

-- and that of log records
abbrev pub log_level : Places (Node LogRecord) → Level Part
log_level = level_of log_made

-- the levels from scopes on down,
abbrev pub scope_levels : Places (Node ScopeNode) → Places (Node LogRecord) → List (Level Part)
scope_levels scopes logs = scope_level scopes ∷ log_level logs ∷ []

-- and from resources on down
abbrev pub resource_levels : Places (Node ResourceNode) → Places (Node ScopeNode)
    → Places (Node LogRecord) → List (Level Part)
resource_levels resources scopes logs = resource_level resources ∷ scope_levels scopes logs

-- the levels below the roots,
abbrev pub tree_levels : Store → List (Level Part)
tree_levels s = batch_level s.batches ∷ resource_levels s.resources s.scopes s.logs

-- and all levels
abbrev pub levels : Store → List (Level Part)
levels s = root_level s.roots ∷ tree_levels s

-- the batch that a root names; None where the root isn't live
abbrev pub root_at : Store → ℕ → Option ℕ
root_at s root = slice_index_or s.roots root None

-- a root is live where it names a batch
abbrev pub IsLiveRoot : Store → ℕ → Type 0
IsLiveRoot s root = IsSome (root_at s root)

-- the plain tree that a root stands for; None where the root isn't live
abbrev pub den : Store → ℕ → Option Batch
den s root = as_batch (value nothing (levels s) root)

-- the number of shared places of a root's tree
abbrev pub shared : Store → ℕ → ℕ
shared s root = sum_over (shared_places false (tree_levels s)) (batch_named (root_at s root))

-- the number of all places of a root's tree
abbrev pub places_of : Store → ℕ → ℕ
places_of s root = sum_over (shared_places true (tree_levels s)) (batch_named (root_at s root))

-- the number of free root entries
abbrev pub spare : Store → ℕ
spare s = s.most - count_by is_some s.roots

-- the number of nodes that were made so far, up to the largest
abbrev pub made : Store → ℕ
made s = min (s.batches.added + s.resources.added + s.scopes.added + s.logs.added) (2 ^ 128 - 1)

-- each place that holds a node counts
abbrev pub IsTidy : {D : Type 0} → Places (Node D) → Type 0
IsTidy places = (p : ℕ) → count_at places p ≡ 0 → slot_at places p ≡ None

-- There are no more places than 64 bits number, and no node names more.
pub record IsSmall {D : Type 0} (places : Places (Node D)) : Type 0 where
  pub few : length places.slots ≤ 2 ^ 64
  pub short : (p : ℕ) → length (list_at (map children_of places.slots) p) < 2 ^ 64

-- What always holds of one level of nodes.
pub record IsKept {D : Type 0} (places : Places (Node D)) : Type 0 where
  pub tidy : IsTidy places
  pub small : IsSmall places
  pub most : places.added ≤ 2 ^ 128 - 1

-- What always holds of a forest: each count is how often the node is named, for a batch by live
-- roots; so what is named is live, and what isn't live is named by nothing. No node stands at two
-- places of one root's tree.
pub record IsSound (s : Store) : Type 0 where
  pub counts : AllCounted (levels s)
  pub apart : (root : ℕ) → IsApart (levels s) root
  pub batches : IsKept s.batches
  pub resources : IsKept s.resources
  pub scopes : IsKept s.scopes
  pub logs : IsKept s.logs
  pub roots : count_by is_some s.roots ≤ s.most
  pub most : s.most < 2 ^ 32
