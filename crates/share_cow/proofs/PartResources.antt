-- What the resources and the payload of a part stand for.
use Rattle.std.proofs.Common.{◌≡◌, ◌+◌, ◌<◌, ◌≤◌, ℕ, Bool, List, [], ◌∷◌, ◌++◌, length, map, drop, take, get_or, refl, ap, sym, ◌∙◌, arith}
use Rattle.std.specs.Prelude.{Some, filter_map}
use Rattle.std.proofs.lemmas.List.{length-map}
use Rattle.pdata_tree.specs.Selecting.{kept, kept_in, kept_scopes, resource_with}
use Rattle.pdata_tree.specs.Tree.{records_of_resources, records_of_scopes}
use Rattle.pdata_tree.specs.declared.batch.Batch.{Batch}
use Rattle.pdata_tree.specs.declared.record.LogRecord.{LogRecord}
use Rattle.pdata_tree.specs.declared.resource.ResourceNode.{ResourceNode}
use Rattle.pdata_tree.specs.declared.resource.ResourceTree.{ResourceTree}
use Rattle.pdata_tree.specs.declared.scope.ScopeNode.{ScopeNode}
use Rattle.pdata_tree.specs.declared.scope.ScopeTree.{ScopeTree}
use Rattle.shelf.specs.Places.{Adds, Places, count_at, item_at}
use Rattle.share_cow.specs.Levels.{AllCounted, Level, list_at, stands, value}
use Rattle.share_cow.specs.Parting.{Parts, below_batch, below_resources, below_scopes, resources_at, scopes_at}
use Rattle.share_cow.specs.Planting.{scopes_of_resources}
use Rattle.share_cow.specs.Store.{Part, a_batch, a_resource, a_scope, as_resource, batch_level, batch_made, children_of, log_level, nothing, resource_level, resource_levels, resource_made, scope_level, scope_levels}
use Rattle.share_cow.specs.Views.{tree_at}
use Rattle.share_cow.specs.declared.node.Node.{Node}
use Rattle.share_cow.proofs.Growing.{resources_back, scopes_back}
use Rattle.share_cow.proofs.Looks.{found_value, tree_is}
use Rattle.share_cow.proofs.Parts.{parts_above, parts_on, parts_still, parts_without}
use Rattle.share_cow.proofs.PartTrees.{drop_more, kept_in_on, next_at, next_sum, parts_are, records_on, resources_kept_on}
use Rattle.share_cow.proofs.Same.{SameFrom, same_from, stands_same, value_same}
use Rattle.share_cow.proofs.Slots.{names, names_at}

-- a bound that is no lower
parts_within : (most most2 : ℕ → ℕ) (xs : List ℕ) (P : List Part) (l m : Level Part) (ls ms : List (Level Part)) (k n : Level Part) → Parts most xs P l m ls ms k n → ((q : ℕ) → most q ≤ most2 q) → Parts most2 xs P l m ls ms k n
parts_within most most2 xs P l m ls ms k n a more = record {
  counts = a.counts;
  fresh = a.fresh;
  more = a.more;
  no_fewer = a.no_fewer;
  rose = λ q. omega (arith, a.rose q, more q);
  agree = a.agree;
  counted = a.counted;
  values = a.values;
}

resource_with_some : (r : ResourceTree) (ss : List ScopeTree) → 0 < length ss → resource_with r ss ≡ record r { scopes = ss } ∷ []
resource_with_some r [] some = absurd (omega (arith, some))
resource_with_some r (s ∷ ss) some = refl

no_length : {X : Type 0} (xs : List X) → length xs ≡ 0 → xs ≡ []
no_length [] e = refl
no_length (x ∷ xs) e = absurd (omega (arith, e))

with_scopes : (r : ResourceTree) (ss : List ScopeTree) → scopes_of_resources (resource_with r ss ++ []) ≡ length ss
with_scopes r [] = refl
with_scopes r (s ∷ ss) = omega arith

-- as many parts as places
pub parts_many : (most : ℕ → ℕ) (xs : List ℕ) (T : List ScopeTree) (l m : Level Part) (ls ms : List (Level Part)) (k n : Level Part) → Parts most xs (map a_scope T) l m ls ms k n → length T ≡ length xs
parts_many most xs T l m ls ms k n a =
    omega (arith, ap length a.values, length-map xs (value nothing (m ∷ ms ++ n ∷ [])), length-map {A = ScopeTree} {B = Part} T a_scope)

-- one resource
module _ (resources : Places (Node ResourceNode)) (scopes : Places (Node ScopeNode)) (logs : Places (Node LogRecord)) (p : ℕ) (node : Node ResourceNode) (is : item_at resources p ≡ Some node) (flags : List Bool) where
  abbrev kids : List ℕ
  kids = list_at (map children_of resources.slots) p

  abbrev kept_here : List ScopeTree
  kept_here = kept_scopes flags (scopes_at scopes logs kids)

  abbrev resource_there : ResourceTree
  resource_there = record { node = node.content; scopes = scopes_at scopes logs kids }

  resource_is : resources_at resources scopes logs (p ∷ []) ≡ resource_there ∷ []
  resource_is =
      ap (λ (x : Part). filter_map as_resource (x ∷ [])) (found_value resource_made resources (scope_levels scopes logs) p node is)
      ∙ ap (λ (qs : List ℕ). record { node = node.content; scopes = scopes_at scopes logs qs } ∷ []) (sym (names_at resources p ∙ ap names is))

  resource_kept : kept_in flags (resources_at resources scopes logs (p ∷ [])) ≡ resource_with resource_there kept_here ++ []
  resource_kept = ap (kept_in flags) resource_is

  pub resource_rest : drop (records_of_scopes (scopes_at scopes logs kids)) flags ≡ drop (records_of_resources (resources_at resources scopes logs (p ∷ []))) flags
  resource_rest =
      let e : records_of_scopes (scopes_at scopes logs kids) ≡ records_of_resources (resources_at resources scopes logs (p ∷ [])) = omega (arith, ap records_of_resources resource_is) in
      ap (λ (k : ℕ). drop k flags) e

  pub resource_scopes : scopes_of_resources (kept_in flags (resources_at resources scopes logs (p ∷ []))) ≡ length kept_here
  resource_scopes = ap scopes_of_resources resource_kept ∙ with_scopes resource_there kept_here

  -- what came for it
  module _ (scopes2 : Places (Node ScopeNode)) (logs2 : Places (Node LogRecord)) (xs : List ℕ) (counted : AllCounted (resource_levels resources scopes logs))
      (below : Parts (below_scopes scopes kids) xs (map a_scope kept_here) (scope_level scopes) (scope_level scopes2) [] [] (log_level logs) (log_level logs2)) where
    as_many : length kept_here ≡ length xs
    as_many = parts_many (below_scopes scopes kids) xs kept_here (scope_level scopes) (scope_level scopes2) [] [] (log_level logs) (log_level logs2) below

    pub resource_none : xs ≡ [] → Parts (below_resources resources scopes (p ∷ [])) [] (map a_resource (kept_in flags (resources_at resources scopes logs (p ∷ []))))
        (resource_level resources) (resource_level resources) (scope_level scopes ∷ []) (scope_level scopes2 ∷ []) (log_level logs) (log_level logs2)
    resource_none none =
        let e : length kept_here ≡ 0 = omega (arith, as_many, ap length none) in
        parts_are (below_resources resources scopes (p ∷ [])) [] [] (map a_resource (kept_in flags (resources_at resources scopes logs (p ∷ []))))
        (resource_level resources) (resource_level resources) (scope_level scopes ∷ []) (scope_level scopes2 ∷ []) (log_level logs) (log_level logs2)
        (parts_within (below_scopes scopes kids) (below_resources resources scopes (p ∷ [])) [] [] (resource_level resources) (resource_level resources) (scope_level scopes ∷ []) (scope_level scopes2 ∷ []) (log_level logs) (log_level logs2)
        (parts_without (below_scopes scopes kids) (resource_level resources) (scope_level scopes) (scope_level scopes2) [] [] (log_level logs) (log_level logs2) (map a_scope kept_here) counted
        (rw none at below))
        (λ q. omega arith))
        (sym (ap (map a_resource) (resource_kept ∙ ap (λ (ss : List ScopeTree). resource_with resource_there ss ++ []) (no_length kept_here e))))

    module _ (resources2 : Places (Node ResourceNode)) (part : ℕ) (add : Adds resources resources2 part (record node { children = xs })) (some : 0 < length xs) where
      pub resource_part : Parts (below_resources resources scopes (p ∷ [])) (part ∷ []) (map a_resource (kept_in flags (resources_at resources scopes logs (p ∷ []))))
          (resource_level resources) (resource_level resources2) (scope_level scopes ∷ []) (scope_level scopes2 ∷ []) (log_level logs) (log_level logs2)
      resource_part =
          parts_are (below_resources resources scopes (p ∷ [])) (part ∷ []) (resource_made node.content (map a_scope kept_here) ∷ []) (map a_resource (kept_in flags (resources_at resources scopes logs (p ∷ []))))
          (resource_level resources) (resource_level resources2) (scope_level scopes ∷ []) (scope_level scopes2 ∷ []) (log_level logs) (log_level logs2)
          (parts_within (below_scopes scopes kids) (below_resources resources scopes (p ∷ [])) (part ∷ []) (resource_made node.content (map a_scope kept_here) ∷ [])
          (resource_level resources) (resource_level resources2) (scope_level scopes ∷ []) (scope_level scopes2 ∷ []) (log_level logs) (log_level logs2)
          (parts_above resource_made resources resources2 part (record node { children = xs }) add (below_scopes scopes kids) (scope_level scopes) (scope_level scopes2) [] [] (log_level logs) (log_level logs2) (map a_scope kept_here) counted below)
          (λ q. omega arith))
          (ap (λ (ss : List ScopeTree). a_resource (record { node = node.content; scopes = ss }) ∷ []) (scopes_back kept_here)
          ∙ sym (ap (map a_resource) (resource_kept ∙ ap (λ (rs : List ResourceTree). rs ++ []) (resource_with_some resource_there kept_here (omega (arith, as_many, some))))))

scopes_of_on : (xs ys : List ResourceTree) → scopes_of_resources (xs ++ ys) ≡ scopes_of_resources xs + scopes_of_resources ys
scopes_of_on [] ys = omega arith
scopes_of_on (x ∷ xs) ys = omega (arith, scopes_of_on xs ys)

-- one resource after another
module _ (resources0 resources : Places (Node ResourceNode)) (scopes0 scopes : Places (Node ScopeNode)) (logs0 logs : Places (Node LogRecord)) (places : List ℕ) (i : ℕ) (h : i < length places) (flags rest : List Bool)
    (xs : List ℕ) (P : List Part) (counted : AllCounted (resource_levels resources0 scopes0 logs0)) (live : 0 < count_at resources0 (get_or places i 0))
    (a : Parts (below_resources resources0 scopes0 (take i places)) xs P (resource_level resources0) (resource_level resources) (scope_level scopes0 ∷ []) (scope_level scopes ∷ []) (log_level logs0) (log_level logs))
    (is : P ≡ map a_resource (kept_in flags (resources_at resources0 scopes0 logs0 (take i places)))) (on : rest ≡ drop (records_of_resources (resources_at resources0 scopes0 logs0 (take i places))) flags) where
  abbrev before : List ResourceTree
  before = resources_at resources0 scopes0 logs0 (take i places)

  abbrev here : List ResourceTree
  here = resources_at resources scopes logs (get_or places i 0 ∷ [])

  next_resource_same : SameFrom (resource_levels resources0 scopes0 logs0) (resource_levels resources scopes logs) (get_or places i 0)
  next_resource_same = same_from (resource_level resources0) (scope_levels scopes0 logs0) (resource_levels resources0 scopes0 logs0) (resource_levels resources scopes logs) counted a.agree (get_or places i 0) live

  all_so_far : resources_at resources0 scopes0 logs0 (take (i + 1) places) ≡ before ++ here
  all_so_far =
      next_at as_resource (value nothing (resource_levels resources0 scopes0 logs0)) places i h
      ∙ sym (ap (λ (x : Part). before ++ filter_map as_resource (x ∷ [])) (value_same nothing (resource_levels resources0 scopes0 logs0) (resource_levels resources scopes logs) (get_or places i 0) next_resource_same))

  pub next_resource_live : 0 < count_at resources (get_or places i 0)
  next_resource_live = (parts_still xs P (resource_level resources0) (resource_level resources) (scope_level scopes0 ∷ []) (scope_level scopes ∷ []) (log_level logs0) (log_level logs) a).0 (get_or places i 0) live

  pub next_resource_rest : drop (records_of_resources here) rest ≡ drop (records_of_resources (resources_at resources0 scopes0 logs0 (take (i + 1) places))) flags
  next_resource_rest =
      ap (drop (records_of_resources here)) on
      ∙ drop_more (records_of_resources before) (records_of_resources here) flags
      ∙ ap (λ (k : ℕ). drop k flags) (sym (records_on before here))
      ∙ ap (λ (rs : List ResourceTree). drop (records_of_resources rs) flags) (sym all_so_far)

  pub next_resource_scopes : scopes_of_resources (kept_in flags (resources_at resources0 scopes0 logs0 (take (i + 1) places))) ≡ scopes_of_resources (kept_in flags before) + scopes_of_resources (kept_in rest here)
  next_resource_scopes =
      ap (λ (rs : List ResourceTree). scopes_of_resources (kept_in flags rs)) all_so_far
      ∙ ap scopes_of_resources (kept_in_on flags before here ∙ ap (λ (fs : List Bool). kept_in flags before ++ kept_in fs here) (sym on))
      ∙ scopes_of_on (kept_in flags before) (kept_in rest here)

  module _ (resources2 : Places (Node ResourceNode)) (scopes2 : Places (Node ScopeNode)) (logs2 : Places (Node LogRecord)) (ys : List ℕ)
      (b : Parts (below_resources resources scopes (get_or places i 0 ∷ [])) ys (map a_resource (kept_in rest here)) (resource_level resources) (resource_level resources2) (scope_level scopes ∷ []) (scope_level scopes2 ∷ []) (log_level logs) (log_level logs2)) where
    pub next_resource : Parts (below_resources resources0 scopes0 (take (i + 1) places)) (xs ++ ys) (map a_resource (kept_in flags (resources_at resources0 scopes0 logs0 (take (i + 1) places))))
        (resource_level resources0) (resource_level resources2) (scope_level scopes0 ∷ []) (scope_level scopes2 ∷ []) (log_level logs0) (log_level logs2)
    next_resource =
        parts_are (below_resources resources0 scopes0 (take (i + 1) places)) (xs ++ ys) (P ++ map a_resource (kept_in rest here)) (map a_resource (kept_in flags (resources_at resources0 scopes0 logs0 (take (i + 1) places))))
        (resource_level resources0) (resource_level resources2) (scope_level scopes0 ∷ []) (scope_level scopes2 ∷ []) (log_level logs0) (log_level logs2)
        (parts_on (below_resources resources0 scopes0 (take i places)) (below_resources resources scopes (get_or places i 0 ∷ [])) (below_resources resources0 scopes0 (take (i + 1) places)) xs ys P (map a_resource (kept_in rest here))
        (resource_level resources0) (resource_level resources) (resource_level resources2) (scope_level scopes0 ∷ []) (scope_level scopes ∷ []) (scope_level scopes2 ∷ []) (log_level logs0) (log_level logs) (log_level logs2) a b
        (λ q. omega (
          arith,
          stands_same (resource_levels resources0 scopes0 logs0) (resource_levels resources scopes logs) (get_or places i 0) next_resource_same 2 q,
          next_sum (stands (resource_level resources0 ∷ scope_level scopes0 ∷ []) q) places i h,
        )))
        (ap (λ (R : List Part). R ++ map a_resource (kept_in rest here)) is ∙ resources_kept_on flags rest before here (resources_at resources0 scopes0 logs0 (take (i + 1) places)) all_so_far on)

-- the payload
module _ (batches batches2 : Places (Node Unit)) (resources resources2 : Places (Node ResourceNode)) (scopes scopes2 : Places (Node ScopeNode)) (logs logs2 : Places (Node LogRecord)) (batch place : ℕ) (live : 0 < count_at batches batch) (flags : List Bool) (xs : List ℕ)
    (counted : AllCounted (batch_level batches ∷ resource_levels resources scopes logs))
    (below : Parts (below_resources resources scopes (list_at (map children_of batches.slots) batch)) xs (map a_resource (kept_in flags (resources_at resources scopes logs (list_at (map children_of batches.slots) batch))))
    (resource_level resources) (resource_level resources2) (scope_level scopes ∷ []) (scope_level scopes2 ∷ []) (log_level logs) (log_level logs2)) where
  batch_kept : kept flags (tree_at (batch_level batches ∷ resource_levels resources scopes logs) batch) ≡ record { resources = kept_in flags (resources_at resources scopes logs (list_at (map children_of batches.slots) batch)) }
  batch_kept = ap (kept flags) (tree_is batches (resource_levels resources scopes logs) batch live)

  pub batch_many : length (kept flags (tree_at (batch_level batches ∷ resource_levels resources scopes logs) batch)).resources ≡ length xs
  batch_many =
      omega (
        arith,
        ap (λ (t : Batch). length t.resources) batch_kept,
        ap length below.values,
        length-map xs (value nothing (resource_level resources2 ∷ scope_level scopes2 ∷ log_level logs2 ∷ [])),
        length-map {A = ResourceTree} {B = Part} (kept_in flags (resources_at resources scopes logs (list_at (map children_of batches.slots) batch))) a_resource,
      )

  pub batch_scopes : scopes_of_resources (kept flags (tree_at (batch_level batches ∷ resource_levels resources scopes logs) batch)).resources
      ≡ scopes_of_resources (kept_in flags (resources_at resources scopes logs (list_at (map children_of batches.slots) batch)))
  batch_scopes = ap (λ (t : Batch). scopes_of_resources t.resources) batch_kept

  pub batch_part : Adds batches batches2 place (record { content = tt; children = xs })
      → Parts (below_batch batches resources scopes batch) (place ∷ []) (a_batch (kept flags (tree_at (batch_level batches ∷ resource_levels resources scopes logs) batch)) ∷ [])
      (batch_level batches) (batch_level batches2) (resource_level resources ∷ scope_level scopes ∷ []) (resource_level resources2 ∷ scope_level scopes2 ∷ []) (log_level logs) (log_level logs2)
  batch_part add =
      let trees : List ResourceTree = kept_in flags (resources_at resources scopes logs (list_at (map children_of batches.slots) batch)) in
      parts_are (below_batch batches resources scopes batch) (place ∷ []) (batch_made tt (map a_resource trees) ∷ []) (a_batch (kept flags (tree_at (batch_level batches ∷ resource_levels resources scopes logs) batch)) ∷ [])
      (batch_level batches) (batch_level batches2) (resource_level resources ∷ scope_level scopes ∷ []) (resource_level resources2 ∷ scope_level scopes2 ∷ []) (log_level logs) (log_level logs2)
      (parts_above batch_made batches batches2 place (record { content = tt; children = xs }) add (below_batch batches resources scopes batch) (resource_level resources) (resource_level resources2) (scope_level scopes ∷ []) (scope_level scopes2 ∷ []) (log_level logs) (log_level logs2)
      (map a_resource trees) counted below)
      (ap (λ (rs : List ResourceTree). a_batch (record { resources = rs }) ∷ []) (resources_back trees) ∙ ap (λ (t : Batch). a_batch t ∷ []) (sym batch_kept))
