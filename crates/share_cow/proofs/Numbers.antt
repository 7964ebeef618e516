-- The numbers of a scene after a write.
use Rattle.std.proofs.Common.{◌≡◌, ◌+◌, ◌≤◌, ℕ, true, false, List, [], ◌∷◌, ◌++◌, get_or, Some, refl, ap, sym, ◌∙◌, subst, zero, suc, Result, Ok, Err, ◌⊎◌, arith, inl, inr}
use Rattle.std.specs.Prelude.{IfSome}
use Rattle.pdata_value.specs.Errors.{eval_fault}
use Rattle.pdata_value.specs.declared.error.EvalErr.{EvalErr}
use Rattle.pdata_value.specs.declared.error.EvalStop.{EvalStop}
use Rattle.pdata_value.specs.declared.error.EvalStop.TheVariants as stop
use Rattle.pdata_tree.specs.Places.{IsPlaceIn}
use Rattle.pdata_tree.specs.Scenes.{Counts, Makes, Numbers, NumbersStay, rank}
use Rattle.pdata_tree.specs.declared.batch.Batch.{Batch}
use Rattle.pdata_tree.specs.declared.place.Context.{Context}
use Rattle.pdata_tree.specs.declared.place.Context.TheVariants.{Resource, Scope, Log}
use Rattle.pdata_tree.specs.declared.place.Place.{Place}
use Rattle.share_cow.specs.Copies.{InTree, Owns, owed}
use Rattle.share_cow.specs.Kept.{KeepsOthers}
use Rattle.share_cow.specs.Levels.{Level, list_at, shared_places}
use Rattle.share_cow.specs.Scene.{Writes, numbers_of, tree_of, way_to, within_context}
use Rattle.share_cow.specs.Store.{IsSound, Store, batch_named, den, levels, places_of, root_at, shared, tree_levels}
use Rattle.share_cow.specs.Views.{batch_or_empty}
use Rattle.share_cow.proofs.CopyPaths.{owed_end, owed_on}
use Rattle.share_cow.proofs.Lists.{sum_below}
use Rattle.share_cow.proofs.Same.{shared_all}
use Rattle.share_cow.specs.Keeping.{keeps_refl}
use Rattle.share_cow.proofs.Steps.{levels_shared}
use Rattle.share_cow.proofs.Ways.{few_end}

-- no more places are shared than there are
pub few_shared : (s : Store) (root : ℕ) → shared s root ≤ places_of s root
few_shared s root = sum_below (shared_places false (tree_levels s)) (shared_places true (tree_levels s)) (batch_named (root_at s root)) (λ q h. shared_all false (tree_levels s) q)

module _ {X : Type 0} where
  -- where a path owes nothing, no part of it does
  pub front_none : (ls : List (Level X)) (p : ℕ) (is more : List ℕ) → owed ls p (is ++ more) ≡ 0 → owed ls p is ≡ 0
  front_none [] p is more none = refl
  front_none (l ∷ ls) p [] more none = owed_end l ls p (few_end l ls p more none)
  front_none (l ∷ ls) p (i ∷ is) more none =
      let few = few_end l ls p (i ∷ (is ++ more)) none in
      owed_on l ls p i is few ∙ front_none ls (get_or (list_at l.children p) i 0) is more (sym (owed_on l ls p i (is ++ more) few) ∙ none)

  pub front_there : (ls : List (Level X)) (p : ℕ) (is more : List ℕ) → InTree ls p (is ++ more) → InTree ls p is
  front_there [] p is more there = there
  front_there (l ∷ ls) p [] more there = tt
  front_there (l ∷ ls) p (i ∷ is) more there = (there.0, front_there ls (get_or (list_at l.children p) i 0) is more there.1)

pub some_same : {X : Type 0} {a b : X} → Some a ≡ Some b → a ≡ b
some_same e = cc

pub ok_err : {X E : Type 0} {x : X} {error : E} → Ok x ≡ Err error → ⊥
ok_err e = cc

either : (a b : ℕ) → (a ≤ b) ⊎ (b ≤ a)
either zero b = inl (omega arith)
either (suc a) zero = inr (omega arith)
either (suc a) (suc b) = elim (either a b) as (λ x. (suc a ≤ suc b) ⊎ (suc b ≤ suc a)) [
  | inl h ↦ inl (omega (arith, h))
  | inr h ↦ inr (omega (arith, h))
]

module _ (u : Store) (root : ℕ) (place : Place) where
  up : (L K other : Context) → rank L ≤ rank K → rank other ≤ rank L → owed (levels u) root (way_to L place) ≡ 0 → owed (levels u) root (way_to (within_context K other) place) ≡ 0
  up Resource Resource Resource lk ol own = own
  up Resource Scope Resource lk ol own = own
  up Resource Log Resource lk ol own = own
  up Scope Scope Resource lk ol own = front_none (levels u) root (0 ∷ place.resource ∷ []) (place.scope ∷ []) own
  up Scope Scope Scope lk ol own = own
  up Scope Log Resource lk ol own = front_none (levels u) root (0 ∷ place.resource ∷ []) (place.scope ∷ []) own
  up Scope Log Scope lk ol own = own
  up Log Log Resource lk ol own = front_none (levels u) root (0 ∷ place.resource ∷ []) (place.scope ∷ place.log ∷ []) own
  up Log Log Scope lk ol own = front_none (levels u) root (0 ∷ place.resource ∷ place.scope ∷ []) (place.log ∷ []) own
  up Log Log Log lk ol own = own
  up _ _ _ lk ol own = absurd (omega (arith, lk, ol))

module _ (s u : Store) (root : ℕ) (place : Place) (p : ℕ) where
  abbrev Longer : Context → Type 0
  Longer L = (rest : List ℕ) → InTree (levels s) root (way_to L place ++ rest) → InTree (levels u) root (way_to L place ++ rest)
      × (owed (levels u) root (way_to L place ++ rest) + owed (levels s) root (way_to L place) ≡ owed (levels s) root (way_to L place ++ rest))

  abbrev Less : Context → Context → Type 0
  Less L other = owed (levels u) root (way_to other place) + owed (levels s) root (way_to L place) ≡ owed (levels s) root (way_to other place)

  down : (L K other : Context) → rank L ≤ rank K → rank L ≤ rank other → InTree (levels s) root (way_to K place) → Longer L → Less L (within_context K other)
  down Resource Resource other lk lo there longer = (longer [] there).1
  down Resource Scope Resource lk lo there longer = (longer [] (front_there (levels s) root (0 ∷ place.resource ∷ []) (place.scope ∷ []) there)).1
  down Resource Scope other lk lo there longer = (longer (place.scope ∷ []) there).1
  down Resource Log Resource lk lo there longer = (longer [] (front_there (levels s) root (0 ∷ place.resource ∷ []) (place.scope ∷ place.log ∷ []) there)).1
  down Resource Log Scope lk lo there longer = (longer (place.scope ∷ []) (front_there (levels s) root (0 ∷ place.resource ∷ place.scope ∷ []) (place.log ∷ []) there)).1
  down Resource Log Log lk lo there longer = (longer (place.scope ∷ place.log ∷ []) there).1
  down Scope Scope Scope lk lo there longer = (longer [] there).1
  down Scope Scope Log lk lo there longer = (longer [] there).1
  down Scope Log Scope lk lo there longer = (longer [] (front_there (levels s) root (0 ∷ place.resource ∷ place.scope ∷ []) (place.log ∷ []) there)).1
  down Scope Log Log lk lo there longer = (longer (place.log ∷ []) there).1
  down Log Log Log lk lo there longer = (longer [] there).1
  down _ _ _ lk lo there longer = absurd (omega (arith, lk, lo))

  itself : (L K : Context) → rank L ≤ rank K → within_context K L ≡ L
  itself Resource Resource lk = refl
  itself Resource Scope lk = refl
  itself Resource Log lk = refl
  itself Scope Scope lk = refl
  itself Scope Log lk = refl
  itself Log Log lk = refl
  itself _ _ lk = absurd (omega (arith, lk))

  -- a write that made its path its own made what was owed
  pub makes : (L K : Context) → rank L ≤ rank K → InTree (levels s) root (way_to K place) → KeepsOthers root s u → Owns (levels s) (levels u) root (way_to L place) p
      → Makes L (numbers_of s root K place) (numbers_of u root K place)
  makes L K lk there keeps w =
      let same = ap (λ (c : Context). owed (levels s) root (way_to c place)) (itself L K lk) in
      record {
        made = omega (arith, keeps.places, w.left, levels_shared s root, levels_shared u root, few_shared s root, same);
        left = omega (arith, w.left, levels_shared s root, levels_shared u root, same);
        above = λ other ol. up u root place L K other lk ol w.own;
        below = λ other lo. omega (arith, down L K other lk lo there w.longer, same);
      }

  -- and one that had nothing to make changed no number
  stays : (L K : Context) → rank L ≤ rank K → InTree (levels s) root (way_to K place) → KeepsOthers root s u → Owns (levels s) (levels u) root (way_to L place) p → owed (levels s) root (way_to L place) ≡ 0
      → NumbersStay (numbers_of s root K place) (numbers_of u root K place)
  stays L K lk there keeps w none =
      let m = makes L K lk there keeps w in
      let same = ap (λ (c : Context). owed (levels s) root (way_to c place)) (itself L K lk) in
      record {
        made = omega (arith, m.made, same, none);
        left = omega (arith, m.left, same, none);
        owed = λ other. elim (either (rank other) (rank L)) as (λ x. owed (levels u) root (way_to (within_context K other) place) ≡ owed (levels s) root (way_to (within_context K other) place)) [
          | inl ol ↦ omega (arith, m.above other ol, up s root place L K other lk ol none)
          | inr lo ↦ omega (arith, m.below other lo, same, none)
        ];
      }

  -- what a write says of the numbers
  pub counted : (L K : Context) → rank L ≤ rank K → InTree (levels s) root (way_to K place) → KeepsOthers root s u → Owns (levels s) (levels u) root (way_to L place) p → (result : Result Unit EvalStop)
      → ((error : EvalErr) → result ≡ Err (stop.Err error) → owed (levels s) root (way_to L place) ≡ 0) → Counts L (numbers_of s root K place) (numbers_of u root K place) result
  counted L K lk there keeps w (Ok done) free = makes L K lk there keeps w
  counted L K lk there keeps w (Err (stop.Err error)) free = stays L K lk there keeps w (free error refl)
  counted L K lk there keeps w (Err stop.NoMemory) free = keeps.fewer

  -- the place is still in the tree
  pub kept_inside : (L K : Context) → rank L ≤ rank K → InTree (levels s) root (way_to K place) → Owns (levels s) (levels u) root (way_to L place) p → InTree (levels u) root (way_to K place)
  kept_inside Resource Resource lk there w = (w.longer [] there).0
  kept_inside Resource Scope lk there w = (w.longer (place.scope ∷ []) there).0
  kept_inside Resource Log lk there w = (w.longer (place.scope ∷ place.log ∷ []) there).0
  kept_inside Scope Scope lk there w = (w.longer [] there).0
  kept_inside Scope Log lk there w = (w.longer (place.log ∷ []) there).0
  kept_inside Log Log lk there w = (w.longer [] there).0
  kept_inside _ _ lk there w = absurd (omega (arith, lk))

refused_counts : (L : Context) (n : Numbers) (stop : EvalStop) → Counts L n n (Err stop)
refused_counts L n (stop.Err error) = record { made = refl; left = refl; owed = λ level. refl }
refused_counts L n stop.NoMemory = omega arith

-- where all stays as it is
pub unwritten : (s : Store) (root : ℕ) (place : Place) → IsSound s → (L : Context) (meant : Batch → Result Batch EvalErr) (stop : EvalStop)
    → IfSome (eval_fault stop) (λ (error : EvalErr). meant (tree_of s root) ≡ Err error) → Writes L root place meant s s (Err stop)
unwritten s root place sound L meant stop why = record {
  value = (refl, why);
  keeps = keeps_refl root s;
  sound = sound;
  inside = λ K lk at. at;
  counts = λ K lk at. refused_counts L (numbers_of s root K place) stop;
}

-- where memory runs out on the way
pub out_of_memory : (s t : Store) (root : ℕ) (place : Place) (L : Context) (meant : Batch → Result Batch EvalErr) → KeepsOthers root s t → IsSound t → den t root ≡ den s root
    → Writes L root place meant s t (Err stop.NoMemory)
out_of_memory s t root place L meant keeps sound same =
    let tree : tree_of t root ≡ tree_of s root = ap batch_or_empty same in
    record {
      value = (tree, tt);
      keeps = keeps;
      sound = sound;
      inside = λ K lk at. subst (λ (b : Batch). IsPlaceIn b K place) (sym tree) at;
      counts = λ K lk at. keeps.fewer;
    }
