-- Writes keep on what earlier ones kept.
use Rattle.std.specs.Prelude.{◌≡◌, ℕ, refl}
use Rattle.std.proofs.Common.{◌∙◌, arith, sym, subst}
use Rattle.pdata_tree.specs.declared.place.Context.{Context}
use Rattle.pdata_tree.specs.declared.place.Place.{Place}
use Rattle.share_cow.specs.Kept.{KeepsOthers, SameTree}
use Rattle.share_cow.specs.Scene.{KeepsScene, Stands}
use Rattle.share_cow.specs.Store.{Store}

-- a forest keeps itself
pub keeps_refl : (root : ℕ) (s : Store) → KeepsOthers root s s
keeps_refl root s = record {
  others = record {
    trees = λ other d. record { tree = refl; live = (λ h. h, λ h. h) };
    shared = λ other d. omega arith;
  };
  live = (λ h. h, λ h. h);
  places = refl;
  fewer = omega arith;
  rose = omega arith;
  entries = refl;
}

-- a tree that stays twice stays
same_on : (s t u : Store) (r : ℕ) → SameTree s t r → SameTree t u r → SameTree s u r
same_on s t u r a b = record {
  tree = b.tree ∙ a.tree;
  live = (λ h. a.live.0 (b.live.0 h), λ h. b.live.1 (a.live.1 h));
}

-- and what is kept twice is kept
pub keeps_on : (root : ℕ) (s t u : Store)
    → KeepsOthers root s t → KeepsOthers root t u → KeepsOthers root s u
keeps_on root s t u a b = record {
  others = record {
    trees = λ other d. same_on s t u other (a.others.trees other d) (b.others.trees other d);
    shared = λ other d. omega (arith, a.others.shared other d, b.others.shared other d);
  };
  live = (λ h. a.live.0 (b.live.0 h), λ h. b.live.1 (a.live.1 h));
  places = b.places ∙ a.places;
  fewer = omega (arith, a.fewer, b.fewer);
  rose = omega (arith, a.rose, b.rose, a.fewer, b.fewer);
  entries = b.entries ∙ a.entries;
}

-- so for scenes
pub scene_itself : (root : ℕ) (context : Context) (place : Place) (s : Store)
    → KeepsScene root context place s s
scene_itself root context place s = record { others = keeps_refl root s; stands = λ h. h }

-- and for two of them on one root at one place
pub scene_on : (root root2 : ℕ) (context context2 : Context) (place place2 : Place)
    → (s t u : Store) → root2 ≡ root → context2 ≡ context → place2 ≡ place
    → KeepsScene root context place s t → KeepsScene root2 context2 place2 t u
    → KeepsScene root context place s u
scene_on root root2 context context2 place place2 s t u same_root same_context same_place a b =
    let b1 = subst (λ (r : ℕ). KeepsScene r context2 place2 t u) same_root b in
    let b2 = subst (λ (c : Context). KeepsScene root c place2 t u) same_context b1 in
    let c = subst (λ (p : Place). KeepsScene root context p t u) same_place b2 in
    record { others = keeps_on root s t u a.others c.others; stands = λ h. c.stands (a.stands h) }

-- a scene stands on where it stood
pub stands_on : (root root2 : ℕ) (context context2 : Context) (place place2 : Place)
    → (s t : Store) → root2 ≡ root → context2 ≡ context → place2 ≡ place
    → KeepsScene root context place s t → Stands s root context place
    → Stands t root2 context2 place2
stands_on root root2 context context2 place place2 s t same_root same_context same_place a h =
    let h1 = subst (λ (r : ℕ). Stands t r context place) (sym same_root) (a.stands h) in
    let h2 = subst (λ (c : Context). Stands t root2 c place) (sym same_context) h1 in
    subst (λ (p : Place). Stands t root2 context2 p) (sym same_place) h2
