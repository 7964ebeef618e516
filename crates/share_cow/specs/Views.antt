-- What is seen of one tree.
use Rattle.std.specs.Prelude.{ℕ, List, [], Option, None, Some, length, map, slice_get}
use Rattle.pdata_tree.specs.declared.batch.Batch.{Batch}
use Rattle.pdata_tree.specs.declared.record.LogRecord.{LogRecord}
use Rattle.pdata_tree.specs.declared.resource.ResourceNode.{ResourceNode}
use Rattle.pdata_tree.specs.declared.resource.ResourceTree.{ResourceTree}
use Rattle.pdata_tree.specs.declared.scope.ScopeNode.{ScopeNode}
use Rattle.pdata_tree.specs.declared.scope.ScopeTree.{ScopeTree}
use Rattle.shelf.specs.Places.{Places}
use Rattle.share_cow.specs.Levels.{Level, list_at, sum_over, value}
use Rattle.share_cow.specs.Store.{Part, as_batch, children_of, nothing}
use Rattle.share_cow.specs.declared.node.Node.{Node}

-- the payload that is there, or the empty one
abbrev pub batch_or_empty : Option Batch → Batch
batch_or_empty None = record { resources = [] }
batch_or_empty (Some batch) = batch

-- what the batch at a place of the first level stands for
abbrev pub tree_at : List (Level Part) → ℕ → Batch
tree_at levels batch = batch_or_empty (as_batch (value nothing levels batch))

-- the scopes of a resource that is there, or none
abbrev pub scopes_or_none : Option ResourceTree → List ScopeTree
scopes_or_none None = []
scopes_or_none (Some r) = r.scopes

-- the log records of a scope that is there, or none
abbrev pub logs_or_none : Option ScopeTree → List LogRecord
logs_or_none None = []
logs_or_none (Some s) = s.logs

-- the scopes of the resource at an index
abbrev pub scopes_in : Batch → ℕ → List ScopeTree
scopes_in batch resource = scopes_or_none (slice_get batch.resources resource)

-- the log records of the scope at an index in a resource
abbrev pub logs_in : Batch → ℕ → ℕ → List LogRecord
logs_in batch resource scope = logs_or_none (slice_get (scopes_in batch resource) scope)

-- how many places the nodes at some places name, all taken together
abbrev pub children_in : {D : Type 0} → Places (Node D) → List ℕ → ℕ
children_in places = sum_over (λ p. length (list_at (map children_of places.slots) p))

-- how many places are named two levels below some places
abbrev pub grandchildren_in : Places (Node ResourceNode) → Places (Node ScopeNode) → List ℕ → ℕ
grandchildren_in resources scopes =
    sum_over (λ p. children_in scopes (list_at (map children_of resources.slots) p))
