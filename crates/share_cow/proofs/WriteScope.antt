-- Writes at scopes.
use Rattle.std.proofs.Common.{◌≡◌, ◌<◌, ◌≤◌, ℕ, List, [], ◌∷◌, set, Some, Result, Ok, Err, refl, ap, sym, ◌∙◌, subst, arith}
use Rattle.std.specs.Prelude.{option_map, slice_get}
use Rattle.pdata_value.specs.declared.error.EvalErr.{EvalErr}
use Rattle.pdata_value.specs.declared.error.EvalStop.{EvalStop}
use Rattle.pdata_value.specs.declared.error.EvalStop.TheVariants as stop
use Rattle.pdata_value.specs.declared.value.Value.{Value}
use Rattle.pdata_tree.specs.Access.{change_at, change_scope, scope_written}
use Rattle.pdata_tree.specs.Changes.{Changes}
use Rattle.pdata_tree.specs.Fields.{scope_takes}
use Rattle.pdata_tree.specs.Places.{scope_at, within}
use Rattle.pdata_tree.specs.Scenes.{Counts, rank}
use Rattle.pdata_tree.specs.declared.batch.Batch.{Batch}
use Rattle.pdata_tree.specs.declared.path.PathTo.{PathTo}
use Rattle.pdata_tree.specs.declared.place.Context.{Context}
use Rattle.pdata_tree.specs.declared.place.Context.TheVariants.{Scope}
use Rattle.pdata_tree.specs.declared.place.Place.{Place}
use Rattle.pdata_tree.specs.declared.resource.ResourceNode.{ResourceNode}
use Rattle.pdata_tree.specs.declared.resource.ResourceTree.{ResourceTree}
use Rattle.pdata_tree.specs.declared.scope.ScopeNode.{ScopeNode}
use Rattle.pdata_tree.specs.declared.scope.ScopeTree.{ScopeTree}
use Rattle.pdata_tree.proofs.Changed.{change_of_item, change_of_part}
use Rattle.shelf.specs.Places.{count_at, item_at}
use Rattle.share_cow.specs.Copies.{InTree, OpenPath, Owns, end_of, owed}
use Rattle.share_cow.specs.Kept.{KeepsOthers}
use Rattle.share_cow.specs.Scene.{Writes, numbers_of, tree_of, tree_with, way_to}
use Rattle.share_cow.specs.Store.{IsSound, Store, den, levels, batch_level, log_level, resource_level, scope_level, scope_made, root_level}
use Rattle.share_cow.specs.Views.{batch_or_empty}
use Rattle.share_cow.specs.declared.node.Node.{Node}
use Rattle.share_cow.proofs.Changed.{Changed, change_keeps, change_sound, content_thins, owns_changed, set_content_of}
use Rattle.share_cow.proofs.Inside.{in_place, in_tree}
use Rattle.share_cow.proofs.Numbers.{counted, kept_inside, ok_err, some_same, unwritten}
use Rattle.share_cow.proofs.OwnBatch.{item_there, way_live}
use Rattle.share_cow.specs.Keeping.{keeps_on, keeps_refl}
use Rattle.share_cow.proofs.Ways.{open_of, owns_already}
use Rattle.share_cow.proofs.Written.{r_counts, r_found, r_tree, s_changed, s_counts, s_found, s_tree, s_written}

-- what a write makes of the tree
model : (path : PathTo) (v : Value) (place : Place) (tree : Batch) (r : ResourceTree) (t : ScopeTree) (new : ScopeNode) (result : Result Unit EvalStop) → slice_get tree.resources place.resource ≡ Some r
    → slice_get r.scopes place.scope ≡ Some t → Changes (scope_takes path.field path.keys v t.node) t.node new result
    → Changes (tree_with Scope path v place tree) tree (record { resources = set tree.resources place.resource (record { node = r.node; scopes = set r.scopes place.scope (record { node = new; logs = t.logs }) }) }) result
model path v place tree r t new result found found_scope h =
    let scopes = set r.scopes place.scope (record { node = new; logs = t.logs }) in
    change_of_part (change_at place.resource (change_scope place (scope_written path.field path.keys v)) tree.resources) tree.resources (set tree.resources place.resource (record { node = r.node; scopes = scopes }))
    (λ (rs : List ResourceTree). record tree { resources = rs }) result
    (change_of_item (change_scope place (scope_written path.field path.keys v)) tree.resources place.resource r (record { node = r.node; scopes = scopes }) result found
    (change_of_part (change_at place.scope (scope_written path.field path.keys v) r.scopes) r.scopes scopes (λ (ss : List ScopeTree). record r { scopes = ss }) result
    (change_of_item (scope_written path.field path.keys v) r.scopes place.scope t (record { node = new; logs = t.logs }) result found_scope
    (change_of_part (scope_takes path.field path.keys v t.node) t.node new (λ (node : ScopeNode). record t { node = node }) result h))))

-- the objects on the way to a place
module _ (t : Store) (root : ℕ) (place : Place) (sound : IsSound t) (there : InTree (levels t) root (way_to Scope place)) where
  abbrev rn : (node : Node ResourceNode) × (item_at t.resources (end_of (levels t) root (0 ∷ place.resource ∷ [])) ≡ Some node)
  rn = item_there t.resources (end_of (levels t) root (0 ∷ place.resource ∷ [])) (r_counts t root sound there.0 place.resource there.1.0)

  abbrev sn : (node : Node ScopeNode) × (item_at t.scopes (end_of (levels t) root (0 ∷ place.resource ∷ place.scope ∷ [])) ≡ Some node)
  sn = item_there t.scopes (end_of (levels t) root (0 ∷ place.resource ∷ place.scope ∷ [])) (s_counts t root sound there.0 place.resource there.1.0 rn.0 rn.1 place.scope there.1.1.0)

  -- what is found there
  pub s_content : (p : ℕ) → end_of (levels t) root (way_to Scope place) ≡ p → (node : Node ScopeNode) → item_at t.scopes p ≡ Some node → option_map (λ (r : ScopeTree). r.node) (scope_at (tree_of t root) place) ≡ Some node.content
  s_content p ends node is =
      let at : item_at t.scopes (end_of (levels t) root (way_to Scope place)) ≡ Some node = subst (λ (k : ℕ). item_at t.scopes k ≡ Some node) (sym ends) is in
      ap (option_map (λ (r : ScopeTree). r.node)) (ap (within (λ (r : ResourceTree). slice_get r.scopes place.scope)) (r_found t root sound there.0 place.resource there.1.0 rn.0 rn.1) ∙ s_found t root sound there.0 place.resource there.1.0 rn.0 rn.1 place.scope there.1.1.0 node at)

  -- a write that is refused leaves all as it is
  pub s_refused : (path : PathTo) (v : Value) (stop : EvalStop) (old content : ScopeNode) → option_map (λ (r : ScopeTree). r.node) (scope_at (tree_of t root) place) ≡ Some old → Changes {Y = Unit} (scope_takes path.field path.keys v old) old content (Err stop)
      → Writes Scope root place (tree_with Scope path v place) t t (Err stop)
  s_refused path v stop old content was h =
      let here = s_content (end_of (levels t) root (way_to Scope place)) refl sn.0 sn.1 in
      let is_old : old ≡ sn.0.content = some_same (sym was ∙ here) in
      let result : Result Unit EvalStop = Err stop in
      let h = subst (λ (o : ScopeNode). Changes {Y = Unit} (scope_takes path.field path.keys v o) o content (Err stop)) is_old h in
      unwritten t root place sound Scope (tree_with Scope path v place) stop (model path v place (tree_of t root) (r_tree t root sound there.0 place.resource there.1.0 rn.0 rn.1) (s_tree t root sound there.0 place.resource there.1.0 rn.0 rn.1 place.scope there.1.1.0 sn.0 sn.1) content result (r_found t root sound there.0 place.resource there.1.0 rn.0 rn.1) (s_found t root sound there.0 place.resource there.1.0 rn.0 rn.1 place.scope there.1.1.0 sn.0 sn.1) h).1

  module _ (own : owed (levels t) root (way_to Scope place) ≡ 0) (content : ScopeNode) where
    opened : OpenPath (root_level t.roots ∷ batch_level t.batches ∷ resource_level t.resources ∷ []) root (way_to Scope place) (end_of (levels t) root (way_to Scope place)) × (count_at t.scopes (end_of (levels t) root (way_to Scope place)) ≤ 1)
    opened = open_of (root_level t.roots ∷ batch_level t.batches ∷ resource_level t.resources ∷ []) (log_level t.logs ∷ []) (scope_level t.scopes) root (way_to Scope place) [] refl there own

    abbrev after : Store
    after = record t { scopes = set_content_of t.scopes (end_of (levels t) root (way_to Scope place)) content }

    changed : Changed (levels t) (levels after) root
    changed = s_changed t root sound there.0 place.resource there.1.0 rn.0 rn.1 place.scope there.1.1.0 sn.0 sn.1 content opened.0 opened.1

    after_keeps : KeepsOthers root t after
    after_keeps = change_keeps t after root sound changed refl refl refl (omega arith)

    after_sound : IsSound after
    after_sound =
        let kept = content_thins scope_made t.scopes (end_of (levels t) root (way_to Scope place)) (s_counts t root sound there.0 place.resource there.1.0 rn.0 rn.1 place.scope there.1.1.0) sn.0 sn.1 content sound.scopes in
        change_sound t after root sound changed refl refl sound.batches sound.resources kept.kept sound.logs

    after_value : (path : PathTo) (v : Value) (result : Result Unit EvalStop) → Changes (scope_takes path.field path.keys v sn.0.content) sn.0.content content result
        → Changes (tree_with Scope path v place (tree_of t root)) (tree_of t root) (tree_of after root) result
    after_value path v result h =
        subst (λ (new : Batch). Changes (tree_with Scope path v place (tree_of t root)) (tree_of t root) new result) (sym (s_written t root sound there.0 place.resource there.1.0 rn.0 rn.1 place.scope there.1.1.0 sn.0 sn.1 content opened.0 opened.1))
        (model path v place (tree_of t root) (r_tree t root sound there.0 place.resource there.1.0 rn.0 rn.1) (s_tree t root sound there.0 place.resource there.1.0 rn.0 rn.1 place.scope there.1.1.0 sn.0 sn.1) content result (r_found t root sound there.0 place.resource there.1.0 rn.0 rn.1) (s_found t root sound there.0 place.resource there.1.0 rn.0 rn.1 place.scope there.1.1.0 sn.0 sn.1) h)

-- a write at such a place, once the way to it is the root's own
module _ (s t : Store) (root : ℕ) (place : Place) (p : ℕ) (sound : IsSound t) (w : Owns (levels s) (levels t) root (way_to Scope place) p) (there : InTree (levels s) root (way_to Scope place))
    (keeps : KeepsOthers root s t) (same : den t root ≡ den s root) (content : ScopeNode) where
  there_still : InTree (levels t) root (way_to Scope place)
  there_still = (w.longer [] there).0

  abbrev pub s_store : Store
  s_store = record t { scopes = set_content_of t.scopes p content }

  pub s_keeps : KeepsOthers root s s_store
  s_keeps =
      subst (λ (q : ℕ). KeepsOthers root s (record t { scopes = set_content_of t.scopes q content })) w.ends
      (keeps_on root s t (after t root place sound there_still w.own content) keeps (after_keeps t root place sound there_still w.own content))

  pub s_sound : IsSound s_store
  s_sound = subst (λ (q : ℕ). IsSound (record t { scopes = set_content_of t.scopes q content })) w.ends (after_sound t root place sound there_still w.own content)

  pub s_owns : Owns (levels s) (levels s_store) root (way_to Scope place) p
  s_owns =
      subst (λ (q : ℕ). Owns (levels s) (levels (record t { scopes = set_content_of t.scopes q content })) root (way_to Scope place) p) w.ends
      (owns_changed (levels s) (levels t) (levels (after t root place sound there_still w.own content)) root (way_to Scope place) p w (changed t root place sound there_still w.own content))

  pub s_inside : (K : Context) → rank Scope ≤ rank K → InTree (levels s) root (way_to K place) → InTree (levels s_store) root (way_to K place)
  s_inside K lk inside = kept_inside s s_store root place p Scope K lk inside s_owns

  pub s_counts_for : (result : Result Unit EvalStop) → ((error : EvalErr) → result ≡ Err (stop.Err error) → owed (levels s) root (way_to Scope place) ≡ 0)
      → (K : Context) → rank Scope ≤ rank K → InTree (levels s) root (way_to K place) → Counts Scope (numbers_of s root K place) (numbers_of s_store root K place) result
  s_counts_for result free K lk inside = counted s s_store root place p Scope K lk inside s_keeps s_owns result free

  pub s_value : (path : PathTo) (v : Value) (result : Result Unit EvalStop) (old : ScopeNode) → option_map (λ (r : ScopeTree). r.node) (scope_at (tree_of s root) place) ≡ Some old → Changes (scope_takes path.field path.keys v old) old content result
      → Changes (tree_with Scope path v place (tree_of s root)) (tree_of s root) (tree_of s_store root) result
  s_value path v result old was h =
      let tree : tree_of t root ≡ tree_of s root = ap batch_or_empty same in
      let node = sn t root place sound there_still in
      let now = s_content t root place sound there_still (end_of (levels t) root (way_to Scope place)) refl node.0 node.1 in
      let is_old : old ≡ node.0.content = some_same (sym was ∙ ap (λ (b : Batch). option_map (λ (r : ScopeTree). r.node) (scope_at b place)) (sym tree) ∙ now) in
      subst (λ (b : Batch). Changes (tree_with Scope path v place b) b (tree_of s_store root) result) tree
      (subst (λ (q : ℕ). Changes (tree_with Scope path v place (tree_of t root)) (tree_of t root) (tree_of (record t { scopes = set_content_of t.scopes q content }) root) result) w.ends
      (after_value t root place sound there_still w.own content path v result (subst (λ (o : ScopeNode). Changes (scope_takes path.field path.keys v o) o content result) is_old h)))

  -- all that the write leaves
  pub s_writes : IsSound s → (path : PathTo) (v : Value) (result : Result Unit EvalStop) (old : ScopeNode) → option_map (λ (r : ScopeTree). r.node) (scope_at (tree_of s root) place) ≡ Some old → Changes (scope_takes path.field path.keys v old) old content result
      → ((error : EvalErr) → result ≡ Err (stop.Err error) → owed (levels s) root (way_to Scope place) ≡ 0) → Writes Scope root place (tree_with Scope path v place) s s_store result
  s_writes sound_s path v result old was h free =
      let live = way_live s root there.0 in
      record {
        value = s_value path v result old was h;
        keeps = s_keeps;
        sound = s_sound;
        inside = λ K lk at. in_place s_store root K place s_sound (s_inside K lk (in_tree s root K place sound_s live at));
        counts = λ K lk at. s_counts_for result free K lk (in_tree s root K place sound_s live at);
      }

-- a write where the way is the root's own already
pub s_in_place : (s : Store) (root : ℕ) (place : Place) (p : ℕ) (sound : IsSound s) (there : InTree (levels s) root (way_to Scope place)) → end_of (levels s) root (way_to Scope place) ≡ p
    → owed (levels s) root (way_to Scope place) ≡ 0 → (path : PathTo) (v : Value) (result : Result Unit EvalStop) (node : Node ScopeNode) (content : ScopeNode) → item_at s.scopes p ≡ Some node
    → Changes (scope_takes path.field path.keys v node.content) node.content content result
    → Writes Scope root place (tree_with Scope path v place) s (record s { scopes = set_content_of s.scopes p content }) result
s_in_place s root place p sound there ends own path v result node content is h =
    s_writes s s root place p sound (owns_already (levels s) root (way_to Scope place) p ends own) there (keeps_refl root s) refl content
    sound path v result node.content (s_content s root place sound there p ends node is) h (λ error e. own)

-- where one had to make it so
pub s_made : (s t : Store) (root : ℕ) (place : Place) (found p : ℕ) → IsSound s → IsSound t → Owns (levels s) (levels t) root (way_to Scope place) p → InTree (levels s) root (way_to Scope place)
    → KeepsOthers root s t → den t root ≡ den s root → end_of (levels s) root (way_to Scope place) ≡ found → (path : PathTo) (v : Value) (node : Node ScopeNode) (content : ScopeNode) → item_at s.scopes found ≡ Some node
    → Changes {Y = Unit} (scope_takes path.field path.keys v node.content) node.content content (Ok tt)
    → Writes Scope root place (tree_with Scope path v place) s (record t { scopes = set_content_of t.scopes p content }) (Ok tt)
s_made s t root place found p sound_s sound_t w there keeps same ends path v node content is h =
    s_writes s t root place p sound_t w there keeps same content
    sound_s path v (Ok tt) node.content (s_content s root place sound_s there found ends node is) h (λ error e. absurd (ok_err e))

-- the object is live where it was found
pub s_found_live : (s : Store) (root : ℕ) (place : Place) (p : ℕ) → IsSound s → InTree (levels s) root (way_to Scope place) → end_of (levels s) root (way_to Scope place) ≡ p → 0 < count_at s.scopes p
s_found_live s root place p sound there ends = subst (λ (q : ℕ). 0 < count_at s.scopes q) ends (let rn = item_there s.resources (end_of (levels s) root (0 ∷ place.resource ∷ [])) (r_counts s root sound there.0 place.resource there.1.0) in s_counts s root sound there.0 place.resource there.1.0 rn.0 rn.1 place.scope there.1.1.0)
