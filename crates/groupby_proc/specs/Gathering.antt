-- Items gathered by their keys. An item stands beside its key, a group is a key with its items.
use Rattle.std.specs.Prelude.{◌≡◌, ℕ, Bool, true, false, cond, List, [], ◌∷◌, ◌++◌, map, filter}
use Rattle.pdata_tree.specs.Grouping.{distinct}

-- to be the same key is an equivalence
pub record IsEquivalence {K : Type 0} (same : K → K → Bool) : Type 0 where
  pub itself : (x : K) → same x x ≡ true
  pub back : (x y : K) → same x y ≡ true → same y x ≡ true
  pub on : (x y z : K) → same x y ≡ true → same y z ≡ true → same x z ≡ true

-- keys that are the same have the same code
abbrev pub SharesCodes : {K : Type 0} → (K → K → Bool) → (K → ℕ) → Type 0
SharesCodes {K = K} same code = (x y : K) → same x y ≡ true → code x ≡ code y

module _ {K X : Type 0} (same : K → K → Bool) where
  -- the items under keys that are the same as this one
  abbrev pub items_under : K → List (K × X) → List X
  items_under k ms = map (λ m. m.1) (filter (λ m. same k m.0) ms)

  -- the group of a key
  abbrev pub group_of : List (K × X) → K → K × List X
  group_of ms k = (k, items_under k ms)

  -- the groups, by the first appearance of their keys
  abbrev pub gathered : List (K × X) → List (K × List X)
  gathered ms = map (group_of ms) (distinct same (map (λ m. m.0) ms))

  -- groups with one item more
  abbrev pub with_item : K × X → List (K × List X) → List (K × List X)
  with_item m [] = (m.0, m.1 ∷ []) ∷ []
  with_item m (g ∷ gs) =
      cond (same g.0 m.0) ((g.0, g.1 ++ m.1 ∷ []) ∷ gs) (g ∷ with_item m gs)

  -- groups with more items, one after another
  abbrev pub with_items : List (K × List X) → List (K × X) → List (K × List X)
  with_items gs [] = gs
  with_items gs (m ∷ ms) = with_items (with_item m gs) ms

  -- whether no group has a key that is the same as this one
  abbrev pub is_new : K → List (K × List X) → Bool
  is_new k [] = true
  is_new k (g ∷ gs) = cond (same k g.0) false (is_new k gs)

  -- no two groups have keys that are the same
  abbrev pub AreApart : List (K × List X) → Type 0
  AreApart [] = Unit
  AreApart (g ∷ gs) = (is_new g.0 gs ≡ true) × AreApart gs
