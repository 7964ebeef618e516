-- Parts of a tree that are kept. Scopes and resources without log records go, but where whole
-- resources are kept.
use Rattle.std.specs.Prelude.{Bool, true, false, List, [], ◌∷◌, ◌++◌, length, drop}
use Rattle.pdata_tree.specs.Tree.{records_of_scopes}
use Rattle.pdata_tree.specs.declared.batch.Batch.{Batch}
use Rattle.pdata_tree.specs.declared.record.LogRecord.{LogRecord}
use Rattle.pdata_tree.specs.declared.resource.ResourceTree.{ResourceTree}
use Rattle.pdata_tree.specs.declared.scope.ScopeTree.{ScopeTree}

-- the items whose flag is true; one without a flag isn't kept
abbrev pub flagged : {X : Type 0} → List Bool → List X → List X
flagged [] xs = []
flagged (b ∷ bs) [] = []
flagged (true ∷ bs) (x ∷ xs) = x ∷ flagged bs xs
flagged (false ∷ bs) (x ∷ xs) = flagged bs xs

-- a scope with these log records, if there are any
abbrev pub scope_with : ScopeTree → List LogRecord → List ScopeTree
scope_with s [] = []
scope_with s (l ∷ ls) = record s { logs = l ∷ ls } ∷ []

-- scopes with the flagged log records, whose flags stand one after another
abbrev pub kept_scopes : List Bool → List ScopeTree → List ScopeTree
kept_scopes flags [] = []
kept_scopes flags (s ∷ ss) =
    scope_with s (flagged flags s.logs) ++ kept_scopes (drop (length s.logs) flags) ss

-- a resource with these scopes, if there are any
abbrev pub resource_with : ResourceTree → List ScopeTree → List ResourceTree
resource_with r [] = []
resource_with r (s ∷ ss) = record r { scopes = s ∷ ss } ∷ []

-- resources with the flagged log records
abbrev pub kept_in : List Bool → List ResourceTree → List ResourceTree
kept_in flags [] = []
kept_in flags (r ∷ rs) =
    resource_with r (kept_scopes flags r.scopes)
    ++ kept_in (drop (records_of_scopes r.scopes) flags) rs

-- the tree with the flagged log records, one flag for each in the order of the tree
abbrev pub kept : List Bool → Batch → Batch
kept flags batch = record batch { resources = kept_in flags batch.resources }

-- the tree with the flagged resources, whole
abbrev pub kept_resources : List Bool → Batch → Batch
kept_resources flags batch = record batch { resources = flagged flags batch.resources }
