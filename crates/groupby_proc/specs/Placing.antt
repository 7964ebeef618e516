-- The log records of a tree, each behind the resource and the scope that it goes to.
use Rattle.std.specs.Prelude.{ℕ, List, [], ◌∷◌, ◌++◌, map}
use Rattle.pdata_tree.specs.Grouping.{resource_of, same_scope, without_listed}
use Rattle.pdata_tree.specs.declared.record.LogRecord.{LogRecord}
use Rattle.pdata_tree.specs.declared.resource.ResourceNode.{ResourceNode}
use Rattle.pdata_tree.specs.declared.resource.ResourceTree.{ResourceTree}
use Rattle.pdata_tree.specs.declared.scope.ScopeNode.{ScopeNode}
use Rattle.pdata_tree.specs.declared.scope.ScopeTree.{ScopeTree}
use Rattle.groupby_proc.specs.Gathering.{gathered}

-- a log record behind its scope, and both behind the resource
abbrev pub Placed : Type 0
Placed = ResourceNode × (ScopeNode × LogRecord)

-- a log record where it goes
abbrev pub placed : List (List ℕ) → ResourceNode → ScopeNode → LogRecord → Placed
placed keys r s l = (resource_of keys r l, (s, without_listed keys l))

-- those of a scope
abbrev pub placed_logs : List (List ℕ) → ResourceNode → ScopeNode → List LogRecord → List Placed
placed_logs keys r s ls = map (placed keys r s) ls

-- those of scopes
abbrev pub placed_scopes : List (List ℕ) → ResourceNode → List ScopeTree → List Placed
placed_scopes keys r [] = []
placed_scopes keys r (s ∷ ss) = placed_logs keys r s.node s.logs ++ placed_scopes keys r ss

-- those of resources
abbrev pub placed_in : List (List ℕ) → List ResourceTree → List Placed
placed_in keys [] = []
placed_in keys (r ∷ rs) = placed_scopes keys r.node r.scopes ++ placed_in keys rs

-- a scope with its log records
abbrev pub scope_tree : ScopeNode × List LogRecord → ScopeTree
scope_tree g = record { node = g.0; logs = g.1 }

-- a resource with its log records, by their scopes
abbrev pub resource_tree : ResourceNode × List (ScopeNode × LogRecord) → ResourceTree
resource_tree g = record { node = g.0; scopes = map scope_tree (gathered same_scope g.1) }
