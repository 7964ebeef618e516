-- A copied node stands for what the old one does, and every tree is as it was.
use Rattle.std.proofs.Common.{◌≡◌, ◌≢◌, ℕ, List, [], ◌∷◌, ◌++◌, Option, Some, None, map, refl, ap, sym, subst, inl, inr}
use Rattle.std.proofs.lemmas.List.{map-append}
use Rattle.std.proofs.lemmas.Bool.Decides.{eqb_tells}
use Rattle.share_cow.specs.Copies.{AreRaised, Copies, onto}
use Rattle.share_cow.specs.Levels.{Counted, Level, list_at, value}
use Rattle.share_cow.proofs.Lists.{map_same}
use Rattle.share_cow.proofs.CopyCounts.{after_is_not_new, before_is_not_new, named_is_not_new}

raised_value : {X : Type 0} (none : X) (below : List (Level X)) (places : List ℕ) (b b2 : Option (Level X)) → AreRaised places b b2 → (p : ℕ) → value none (onto b2 below) p ≡ value none (onto b below) p
raised_value none below places None None raised p = refl
raised_value none below places None (Some m) raised p = absurd raised
raised_value none below places (Some l) None raised p = absurd raised
raised_value none below places (Some l) (Some m) raised p =
    let children = ap (map (value none below)) (raised.children p) in
    let built = raised.builds p in
    cc

map_entry : {X : Type 0} (f g : ℕ → X) (old new : ℕ) (before after : List ℕ) → map g before ≡ map f before → map g after ≡ map f after → g new ≡ f old →
    map g (before ++ new ∷ after) ≡ map f (before ++ old ∷ after)
map_entry f g old new before after head rest here =
    let left = map-append g before (new ∷ after) in
    let right = map-append f before (old ∷ after) in
    cc

module _ {X : Type 0} {parent old new : ℕ} {before after : List ℕ} {k m k2 m2 : Level X} {b b2 : Option (Level X)} (c : Copies parent old new before after k m k2 m2 b b2) where
  module _ (none : X) (below : List (Level X)) where
    below_value : (p : ℕ) → value none (onto b2 below) p ≡ value none (onto b below) p
    below_value p = raised_value none below (list_at m.children old) b b2 c.below p

    pub other_value : (p : ℕ) → p ≢ new → value none (m2 ∷ onto b2 below) p ≡ value none (m ∷ onto b below) p
    other_value p d =
        let kids = ap (map (value none (onto b2 below))) (c.other_children p d) in
        let same = map_same (value none (onto b2 below)) (value none (onto b below)) (list_at m.children p) (λ q h. below_value q) in
        let built = c.other_builds p d in
        cc

    pub new_value : value none (m2 ∷ onto b2 below) new ≡ value none (m ∷ onto b below) old
    new_value =
        let kids = ap (map (value none (onto b2 below))) c.copy in
        let same = map_same (value none (onto b2 below)) (value none (onto b below)) (list_at m.children old) (λ q h. below_value q) in
        let built = c.copy_builds in
        cc

    pub upper_value : Counted k m → (p : ℕ) → value none (k2 ∷ m2 ∷ onto b2 below) p ≡ value none (k ∷ m ∷ onto b below) p
    upper_value counted p = elim (eqb_tells p parent) as (λ x. value none (k2 ∷ m2 ∷ onto b2 below) p ≡ value none (k ∷ m ∷ onto b below) p) [
      | inl t ↦ subst (λ (q : ℕ). value none (k2 ∷ m2 ∷ onto b2 below) q ≡ value none (k ∷ m ∷ onto b below) q) (sym t.1)
          (let old_kids = ap (map (value none (m ∷ onto b below))) c.was_entry in
          let new_kids = ap (map (value none (m2 ∷ onto b2 below))) c.entry in
          let head = map_same (value none (m2 ∷ onto b2 below)) (value none (m ∷ onto b below)) before (λ q h. other_value q (before_is_not_new c counted q h)) in
          let rest = map_same (value none (m2 ∷ onto b2 below)) (value none (m ∷ onto b below)) after (λ q h. other_value q (after_is_not_new c counted q h)) in
          let same = map_entry (value none (m ∷ onto b below)) (value none (m2 ∷ onto b2 below)) old new before after head rest new_value in
          let built = c.upper_builds parent in
          cc)
      | inr t ↦
          (let kids = ap (map (value none (m2 ∷ onto b2 below))) (c.other_entries p t.1) in
          let same = map_same (value none (m2 ∷ onto b2 below)) (value none (m ∷ onto b below)) (list_at k.children p) (λ q h. other_value q (named_is_not_new c counted p q h)) in
          let built = c.upper_builds p in
          cc)
    ]

    -- every node of every level above stands for what it stood for
    pub same_value : Counted k m → (above : List (Level X)) (p : ℕ) → value none (above ++ k2 ∷ m2 ∷ onto b2 below) p ≡ value none (above ++ k ∷ m ∷ onto b below) p
    same_value counted [] p = upper_value counted p
    same_value counted (l ∷ above) p =
        ap (l.build p) (map_same (value none (above ++ k2 ∷ m2 ∷ onto b2 below)) (value none (above ++ k ∷ m ∷ onto b below)) (list_at l.children p) (λ q h. same_value counted above q))
