-- Rows on the tree of a root, which is left with the rest.
use Rattle.std.specs.Prelude.{◌≡◌, ◌≢◌, ◌≤◌, ◌+◌, ◌⊎◌, ℕ, Bool, List, [], ◌∷◌, Contains, None, length, map}
use Rattle.conf_json.specs.declared.settings.RouteRow.{RouteRow}
use Rattle.fanout.specs.Handing.{AreApart}
use Rattle.pdata_tree.specs.Operations.{log_trees}
use Rattle.pdata_tree.specs.Tree.{spine}
use Rattle.pdata_tree.specs.declared.batch.Batch.{Batch}
use Rattle.pdata_tree.specs.declared.place.Context.{Context}
use Rattle.share_cow.specs.Kept.{OthersStay, SameTree, SharesWith}
use Rattle.share_cow.specs.Scene.{tree_of}
use Rattle.share_cow.specs.Store.{IsLiveRoot, Store, made, root_at, shared, spare}
use Rattle.routing_conn.specs.Bills.{parts_bill}
use Rattle.routing_conn.specs.Given.{AreLive}
use Rattle.routing_conn.specs.Meaning.{Routed, part_of, parted}

-- the tree of a row's root, and the tree that the row leaves
abbrev pub row_trees : Store → ℕ → ℕ → Batch × Batch
row_trees s rest taken = (tree_of s taken, tree_of s rest)

-- the trees of the rows' roots, and the rest
abbrev pub rows_trees : Store → ℕ → List ℕ → Routed Batch
rows_trees s rest rows = record { rows = map (tree_of s) rows; rest = tree_of s rest }

-- Rows gave these roots, and may have changed the tree of the root with the rest, which stays live.
-- No other root became live; each other that was live stays as it was and shares no more.
pub record Routes (rest : ℕ) (old new : Store) (rows : List ℕ) : Type 0 where
  pub own : IsLiveRoot new rest
  pub live : AreLive new rows
  pub fresh : (root : ℕ) → Contains rows root → root_at old root ≡ None
  pub apart : AreApart rows
  pub no_other : (root : ℕ) → IsLiveRoot new root → IsLiveRoot old root ⊎ Contains rows root
  pub trees : (root : ℕ) → IsLiveRoot old root → root ≢ rest → SameTree old new root
  pub shared : (root : ℕ) → IsLiveRoot old root → root ≢ rest → shared new root ≤ shared old root
  pub spare : spare new + length rows ≡ spare old
  pub grew : made old ≤ made new

-- a part of a root's tree became a root
pub record Selects (context : Context) (flags : List Bool) (root part : ℕ) (old new : Store)
    : Type 0 where
  pub tree : tree_of new part ≡ part_of log_trees context flags (tree_of old root)
  pub live : IsLiveRoot new part
  pub fresh : root_at old part ≡ None
  pub others : SharesWith root part old new
  pub spare : spare new + 1 ≡ spare old
  pub grew : made old ≤ made new
  pub made : made new ≤ made old + spine (tree_of new part)

-- a root was left with a part of its tree
pub record Retains (context : Context) (flags : List Bool) (root : ℕ) (old new : Store)
    : Type 0 where
  pub tree : tree_of new root ≡ part_of log_trees context flags (tree_of old root)
  pub live : IsLiveRoot new root
  pub others : OthersStay root old new
  pub spare : spare new ≡ spare old
  pub grew : made old ≤ made new
  pub made : made new ≤ made old + spine (tree_of new root)

-- a row took a part of a root's tree, which was left with the rest
pub record PartsRow (row : RouteRow) (flags : List Bool) (rest taken : ℕ) (old new : Store)
    : Type 0 where
  pub trees : parted log_trees row flags (tree_of old rest) ≡ row_trees new rest taken
  pub routes : Routes rest old new (taken ∷ [])
  pub made : made new ≤ made old + parts_bill row.action (row_trees new rest taken)
