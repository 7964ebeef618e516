-- The number of nodes of a tree: the payload itself, and each resource, scope and log record.
use Rattle.std.specs.Prelude.{ℕ, ◌+◌, ◌^◌, ◌<◌, List, [], ◌∷◌, length}
use Rattle.pdata_tree.specs.declared.batch.Batch.{Batch}
use Rattle.pdata_tree.specs.declared.resource.ResourceTree.{ResourceTree}
use Rattle.pdata_tree.specs.declared.scope.ScopeTree.{ScopeTree}

-- the log records of scopes
abbrev pub records_of_scopes : List ScopeTree → ℕ
records_of_scopes [] = 0
records_of_scopes (s ∷ ss) = length s.logs + records_of_scopes ss

-- the log records of resources
abbrev pub records_of_resources : List ResourceTree → ℕ
records_of_resources [] = 0
records_of_resources (r ∷ rs) = records_of_scopes r.scopes + records_of_resources rs

-- the log records of a payload
abbrev pub records : Batch → ℕ
records batch = records_of_resources batch.resources

-- scopes and their log records
abbrev pub nodes_of_scopes : List ScopeTree → ℕ
nodes_of_scopes [] = 0
nodes_of_scopes (s ∷ ss) = 1 + length s.logs + nodes_of_scopes ss

-- resources and all below them
abbrev pub nodes_of_resources : List ResourceTree → ℕ
nodes_of_resources [] = 0
nodes_of_resources (r ∷ rs) = 1 + nodes_of_scopes r.scopes + nodes_of_resources rs

-- the payload and all below it
abbrev pub nodes : Batch → ℕ
nodes batch = 1 + nodes_of_resources batch.resources

-- resources and their scopes, without log records
abbrev pub spine_of_resources : List ResourceTree → ℕ
spine_of_resources [] = 0
spine_of_resources (r ∷ rs) = 1 + length r.scopes + spine_of_resources rs

-- the payload and all below it but the log records
abbrev pub spine : Batch → ℕ
spine batch = 1 + spine_of_resources batch.resources

-- few enough nodes that 32 bits number them
abbrev pub IsCountable : Batch → Type 0
IsCountable batch = nodes batch < 2 ^ 32
