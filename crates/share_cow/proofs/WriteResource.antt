-- Writes at resources.
use Rattle.std.proofs.Common.{◌≡◌, ◌<◌, ◌≤◌, ℕ, List, [], ◌∷◌, set, Some, Result, Ok, Err, refl, ap, sym, ◌∙◌, subst, arith}
use Rattle.std.specs.Prelude.{option_map, slice_get}
use Rattle.pdata_value.specs.declared.error.EvalErr.{EvalErr}
use Rattle.pdata_value.specs.declared.error.EvalStop.{EvalStop}
use Rattle.pdata_value.specs.declared.error.EvalStop.TheVariants as stop
use Rattle.pdata_value.specs.declared.value.Value.{Value}
use Rattle.pdata_tree.specs.Access.{change_at, resource_written}
use Rattle.pdata_tree.specs.Changes.{Changes}
use Rattle.pdata_tree.specs.Fields.{resource_takes}
use Rattle.pdata_tree.specs.Places.{resource_at}
use Rattle.pdata_tree.specs.Scenes.{Counts, rank}
use Rattle.pdata_tree.specs.declared.batch.Batch.{Batch}
use Rattle.pdata_tree.specs.declared.path.PathTo.{PathTo}
use Rattle.pdata_tree.specs.declared.place.Context.{Context}
use Rattle.pdata_tree.specs.declared.place.Context.TheVariants.{Resource}
use Rattle.pdata_tree.specs.declared.place.Place.{Place}
use Rattle.pdata_tree.specs.declared.resource.ResourceNode.{ResourceNode}
use Rattle.pdata_tree.specs.declared.resource.ResourceTree.{ResourceTree}
use Rattle.pdata_tree.proofs.Changed.{change_of_item, change_of_part}
use Rattle.shelf.specs.Places.{count_at, item_at}
use Rattle.share_cow.specs.Copies.{InTree, OpenPath, Owns, end_of, owed}
use Rattle.share_cow.specs.Kept.{KeepsOthers}
use Rattle.share_cow.specs.Scene.{Writes, numbers_of, tree_of, tree_with, way_to}
use Rattle.share_cow.specs.Store.{IsSound, Store, den, levels, batch_level, resource_level, resource_made, scope_levels, root_level}
use Rattle.share_cow.specs.Views.{batch_or_empty}
use Rattle.share_cow.specs.declared.node.Node.{Node}
use Rattle.share_cow.proofs.Changed.{Changed, change_keeps, change_sound, content_thins, owns_changed, set_content_of}
use Rattle.share_cow.proofs.Inside.{in_place, in_tree}
use Rattle.share_cow.proofs.Numbers.{counted, kept_inside, ok_err, some_same, unwritten}
use Rattle.share_cow.proofs.OwnBatch.{item_there, way_live}
use Rattle.share_cow.specs.Keeping.{keeps_on, keeps_refl}
use Rattle.share_cow.proofs.Ways.{open_of, owns_already}
use Rattle.share_cow.proofs.Written.{r_changed, r_counts, r_found, r_tree, r_written}

-- what a write makes of the tree
model : (path : PathTo) (v : Value) (place : Place) (tree : Batch) (r : ResourceTree) (new : ResourceNode) (result : Result Unit EvalStop) → slice_get tree.resources place.resource ≡ Some r
    → Changes (resource_takes path.field path.keys v r.node) r.node new result
    → Changes (tree_with Resource path v place tree) tree (record { resources = set tree.resources place.resource (record { node = new; scopes = r.scopes }) }) result
model path v place tree r new result found h =
    change_of_part (change_at place.resource (resource_written path.field path.keys v) tree.resources) tree.resources (set tree.resources place.resource (record { node = new; scopes = r.scopes }))
    (λ (rs : List ResourceTree). record tree { resources = rs }) result
    (change_of_item (resource_written path.field path.keys v) tree.resources place.resource r (record { node = new; scopes = r.scopes }) result found
    (change_of_part (resource_takes path.field path.keys v r.node) r.node new (λ (node : ResourceNode). record r { node = node }) result h))

-- the objects on the way to a place
module _ (t : Store) (root : ℕ) (place : Place) (sound : IsSound t) (there : InTree (levels t) root (way_to Resource place)) where
  abbrev rn : (node : Node ResourceNode) × (item_at t.resources (end_of (levels t) root (0 ∷ place.resource ∷ [])) ≡ Some node)
  rn = item_there t.resources (end_of (levels t) root (0 ∷ place.resource ∷ [])) (r_counts t root sound there.0 place.resource there.1.0)

  -- what is found there
  pub r_content : (p : ℕ) → end_of (levels t) root (way_to Resource place) ≡ p → (node : Node ResourceNode) → item_at t.resources p ≡ Some node → option_map (λ (r : ResourceTree). r.node) (resource_at (tree_of t root) place) ≡ Some node.content
  r_content p ends node is =
      let at : item_at t.resources (end_of (levels t) root (way_to Resource place)) ≡ Some node = subst (λ (k : ℕ). item_at t.resources k ≡ Some node) (sym ends) is in
      ap (option_map (λ (r : ResourceTree). r.node)) (r_found t root sound there.0 place.resource there.1.0 node at)

  -- a write that is refused leaves all as it is
  pub r_refused : (path : PathTo) (v : Value) (stop : EvalStop) (old content : ResourceNode) → option_map (λ (r : ResourceTree). r.node) (resource_at (tree_of t root) place) ≡ Some old → Changes {Y = Unit} (resource_takes path.field path.keys v old) old content (Err stop)
      → Writes Resource root place (tree_with Resource path v place) t t (Err stop)
  r_refused path v stop old content was h =
      let here = r_content (end_of (levels t) root (way_to Resource place)) refl rn.0 rn.1 in
      let is_old : old ≡ rn.0.content = some_same (sym was ∙ here) in
      let result : Result Unit EvalStop = Err stop in
      let h = subst (λ (o : ResourceNode). Changes {Y = Unit} (resource_takes path.field path.keys v o) o content (Err stop)) is_old h in
      unwritten t root place sound Resource (tree_with Resource path v place) stop (model path v place (tree_of t root) (r_tree t root sound there.0 place.resource there.1.0 rn.0 rn.1) content result (r_found t root sound there.0 place.resource there.1.0 rn.0 rn.1) h).1

  module _ (own : owed (levels t) root (way_to Resource place) ≡ 0) (content : ResourceNode) where
    opened : OpenPath (root_level t.roots ∷ batch_level t.batches ∷ []) root (way_to Resource place) (end_of (levels t) root (way_to Resource place)) × (count_at t.resources (end_of (levels t) root (way_to Resource place)) ≤ 1)
    opened = open_of (root_level t.roots ∷ batch_level t.batches ∷ []) (scope_levels t.scopes t.logs) (resource_level t.resources) root (way_to Resource place) [] refl there own

    abbrev after : Store
    after = record t { resources = set_content_of t.resources (end_of (levels t) root (way_to Resource place)) content }

    changed : Changed (levels t) (levels after) root
    changed = r_changed t root sound there.0 place.resource there.1.0 rn.0 rn.1 content opened.0 opened.1

    after_keeps : KeepsOthers root t after
    after_keeps = change_keeps t after root sound changed refl refl refl (omega arith)

    after_sound : IsSound after
    after_sound =
        let kept = content_thins resource_made t.resources (end_of (levels t) root (way_to Resource place)) (r_counts t root sound there.0 place.resource there.1.0) rn.0 rn.1 content sound.resources in
        change_sound t after root sound changed refl refl sound.batches kept.kept sound.scopes sound.logs

    after_value : (path : PathTo) (v : Value) (result : Result Unit EvalStop) → Changes (resource_takes path.field path.keys v rn.0.content) rn.0.content content result
        → Changes (tree_with Resource path v place (tree_of t root)) (tree_of t root) (tree_of after root) result
    after_value path v result h =
        subst (λ (new : Batch). Changes (tree_with Resource path v place (tree_of t root)) (tree_of t root) new result) (sym (r_written t root sound there.0 place.resource there.1.0 rn.0 rn.1 content opened.0 opened.1))
        (model path v place (tree_of t root) (r_tree t root sound there.0 place.resource there.1.0 rn.0 rn.1) content result (r_found t root sound there.0 place.resource there.1.0 rn.0 rn.1) h)

-- a write at such a place, once the way to it is the root's own
module _ (s t : Store) (root : ℕ) (place : Place) (p : ℕ) (sound : IsSound t) (w : Owns (levels s) (levels t) root (way_to Resource place) p) (there : InTree (levels s) root (way_to Resource place))
    (keeps : KeepsOthers root s t) (same : den t root ≡ den s root) (content : ResourceNode) where
  there_still : InTree (levels t) root (way_to Resource place)
  there_still = (w.longer [] there).0

  abbrev pub r_store : Store
  r_store = record t { resources = set_content_of t.resources p content }

  pub r_keeps : KeepsOthers root s r_store
  r_keeps =
      subst (λ (q : ℕ). KeepsOthers root s (record t { resources = set_content_of t.resources q content })) w.ends
      (keeps_on root s t (after t root place sound there_still w.own content) keeps (after_keeps t root place sound there_still w.own content))

  pub r_sound : IsSound r_store
  r_sound = subst (λ (q : ℕ). IsSound (record t { resources = set_content_of t.resources q content })) w.ends (after_sound t root place sound there_still w.own content)

  pub r_owns : Owns (levels s) (levels r_store) root (way_to Resource place) p
  r_owns =
      subst (λ (q : ℕ). Owns (levels s) (levels (record t { resources = set_content_of t.resources q content })) root (way_to Resource place) p) w.ends
      (owns_changed (levels s) (levels t) (levels (after t root place sound there_still w.own content)) root (way_to Resource place) p w (changed t root place sound there_still w.own content))

  pub r_inside : (K : Context) → rank Resource ≤ rank K → InTree (levels s) root (way_to K place) → InTree (levels r_store) root (way_to K place)
  r_inside K lk inside = kept_inside s r_store root place p Resource K lk inside r_owns

  pub r_counts_for : (result : Result Unit EvalStop) → ((error : EvalErr) → result ≡ Err (stop.Err error) → owed (levels s) root (way_to Resource place) ≡ 0)
      → (K : Context) → rank Resource ≤ rank K → InTree (levels s) root (way_to K place) → Counts Resource (numbers_of s root K place) (numbers_of r_store root K place) result
  r_counts_for result free K lk inside = counted s r_store root place p Resource K lk inside r_keeps r_owns result free

  pub r_value : (path : PathTo) (v : Value) (result : Result Unit EvalStop) (old : ResourceNode) → option_map (λ (r : ResourceTree). r.node) (resource_at (tree_of s root) place) ≡ Some old → Changes (resource_takes path.field path.keys v old) old content result
      → Changes (tree_with Resource path v place (tree_of s root)) (tree_of s root) (tree_of r_store root) result
  r_value path v result old was h =
      let tree : tree_of t root ≡ tree_of s root = ap batch_or_empty same in
      let node = rn t root place sound there_still in
      let now = r_content t root place sound there_still (end_of (levels t) root (way_to Resource place)) refl node.0 node.1 in
      let is_old : old ≡ node.0.content = some_same (sym was ∙ ap (λ (b : Batch). option_map (λ (r : ResourceTree). r.node) (resource_at b place)) (sym tree) ∙ now) in
      subst (λ (b : Batch). Changes (tree_with Resource path v place b) b (tree_of r_store root) result) tree
      (subst (λ (q : ℕ). Changes (tree_with Resource path v place (tree_of t root)) (tree_of t root) (tree_of (record t { resources = set_content_of t.resources q content }) root) result) w.ends
      (after_value t root place sound there_still w.own content path v result (subst (λ (o : ResourceNode). Changes (resource_takes path.field path.keys v o) o content result) is_old h)))

  -- all that the write leaves
  pub r_writes : IsSound s → (path : PathTo) (v : Value) (result : Result Unit EvalStop) (old : ResourceNode) → option_map (λ (r : ResourceTree). r.node) (resource_at (tree_of s root) place) ≡ Some old → Changes (resource_takes path.field path.keys v old) old content result
      → ((error : EvalErr) → result ≡ Err (stop.Err error) → owed (levels s) root (way_to Resource place) ≡ 0) → Writes Resource root place (tree_with Resource path v place) s r_store result
  r_writes sound_s path v result old was h free =
      let live = way_live s root there.0 in
      record {
        value = r_value path v result old was h;
        keeps = r_keeps;
        sound = r_sound;
        inside = λ K lk at. in_place r_store root K place r_sound (r_inside K lk (in_tree s root K place sound_s live at));
        counts = λ K lk at. r_counts_for result free K lk (in_tree s root K place sound_s live at);
      }

-- a write where the way is the root's own already
pub r_in_place : (s : Store) (root : ℕ) (place : Place) (p : ℕ) (sound : IsSound s) (there : InTree (levels s) root (way_to Resource place)) → end_of (levels s) root (way_to Resource place) ≡ p
    → owed (levels s) root (way_to Resource place) ≡ 0 → (path : PathTo) (v : Value) (result : Result Unit EvalStop) (node : Node ResourceNode) (content : ResourceNode) → item_at s.resources p ≡ Some node
    → Changes (resource_takes path.field path.keys v node.content) node.content content result
    → Writes Resource root place (tree_with Resource path v place) s (record s { resources = set_content_of s.resources p content }) result
r_in_place s root place p sound there ends own path v result node content is h =
    r_writes s s root place p sound (owns_already (levels s) root (way_to Resource place) p ends own) there (keeps_refl root s) refl content
    sound path v result node.content (r_content s root place sound there p ends node is) h (λ error e. own)

-- where one had to make it so
pub r_made : (s t : Store) (root : ℕ) (place : Place) (found p : ℕ) → IsSound s → IsSound t → Owns (levels s) (levels t) root (way_to Resource place) p → InTree (levels s) root (way_to Resource place)
    → KeepsOthers root s t → den t root ≡ den s root → end_of (levels s) root (way_to Resource place) ≡ found → (path : PathTo) (v : Value) (node : Node ResourceNode) (content : ResourceNode) → item_at s.resources found ≡ Some node
    → Changes {Y = Unit} (resource_takes path.field path.keys v node.content) node.content content (Ok tt)
    → Writes Resource root place (tree_with Resource path v place) s (record t { resources = set_content_of t.resources p content }) (Ok tt)
r_made s t root place found p sound_s sound_t w there keeps same ends path v node content is h =
    r_writes s t root place p sound_t w there keeps same content
    sound_s path v (Ok tt) node.content (r_content s root place sound_s there found ends node is) h (λ error e. absurd (ok_err e))

-- the object is live where it was found
pub r_found_live : (s : Store) (root : ℕ) (place : Place) (p : ℕ) → IsSound s → InTree (levels s) root (way_to Resource place) → end_of (levels s) root (way_to Resource place) ≡ p → 0 < count_at s.resources p
r_found_live s root place p sound there ends = subst (λ (q : ℕ). 0 < count_at s.resources q) ends (r_counts s root sound there.0 place.resource there.1.0)
