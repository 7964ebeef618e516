-- Roots that are shared one after another.
use Rattle.std.proofs.Common.{◌≡◌, ◌≢◌, ◌∙◌, ◌<◌, ◌+◌, ◌⊎◌, inl, inr, ℕ, zero, suc, List, [], ◌∷◌, ◌++◌, length, Option, None, Some, ap, sym, subst, refl, arith}
use Rattle.std.specs.Prelude.{Contains, IsSome, slice_index_or}
use Rattle.std.proofs.lemmas.List.{length-append}
use Rattle.std.proofs.lemmas.List.Elements.{Contains-append_cases, Contains-append_left, Contains-append_right}
use Rattle.fanout.specs.Handing.{AreApart, HandsOn, Stays, Takes}
use Rattle.share_cow.specs.Kept.{OthersStay, SameTree, SharesWith}
use Rattle.share_cow.specs.Store.{IsLiveRoot, Store, den, made, root_at, spare}

-- Lists of roots.

none_there : (x : ℕ) → Contains [] x → ⊥
none_there x h = omega (arith, h.1)

one_at : (x y k : ℕ) → k < 1 → slice_index_or (x ∷ []) k y ≡ y → y ≡ x
one_at x y zero within is = sym is
one_at x y (suc k) within is = absurd (omega (arith, within))

one_there : (x y : ℕ) → Contains (x ∷ []) y → y ≡ x
one_there x y h = one_at x y h.0 (omega (arith, h.1)) h.2

first_there : (x : ℕ) (xs : List ℕ) → Contains (x ∷ xs) x
first_there x xs = (0, omega arith, refl)

apart_more : (xs : List ℕ) (x : ℕ) → AreApart xs → (Contains xs x → ⊥) → AreApart (xs ++ x ∷ [])
apart_more [] x apart other = (none_there x, tt)
apart_more (y ∷ ys) x apart other = (
  λ h. elim (Contains-append_cases ys (x ∷ []) y h) [
    | inl before ↦ apart.0 before
    | inr last ↦ other (subst (λ (z : ℕ). Contains (y ∷ ys) z) (one_there x y last) (first_there y ys))
  ],
  apart_more ys x apart.1 (λ h. other (Contains-append_right (y ∷ []) ys x h)),
)

-- a new root for the root's tree
pub record IsHeir (root : ℕ) (old now : Store) (taker : ℕ) : Type 0 where
  pub tree : den now taker ≡ den old root
  pub live : IsLiveRoot now taker
  pub fresh : root_at old taker ≡ None

-- Some new roots share the tree of a root, which stays.
pub record Sharing (root : ℕ) (old now : Store) (roots : List ℕ) : Type 0 where
  pub own : den now root ≡ den old root
  pub lives : IsLiveRoot now root
  pub each : (taker : ℕ) → Contains roots taker → IsHeir root old now taker
  pub apart : AreApart roots
  pub others : (other : ℕ) → (Contains roots other → ⊥) → other ≢ root → Stays old now other
  pub spare : spare now + length roots ≡ spare old
  pub made : made now ≡ made old

same_here : (s : Store) (root : ℕ) → SameTree s s root
same_here s root = record { tree = refl; live = (λ h. h, λ h. h) }

pub none_yet : (root : ℕ) (s : Store) → IsLiveRoot s root → Sharing root s s []
none_yet root s live = record {
  own = refl;
  lives = live;
  each = λ taker h. absurd (none_there taker h);
  apart = tt;
  others = λ other absent apart. record { tree = same_here s other; shared = omega arith };
  spare = omega arith;
  made = refl;
}

-- no root is live and free
not_both : (s : Store) (root : ℕ) → IsLiveRoot s root → root_at s root ≡ None → ⊥
not_both s root live free = none_is_none (subst IsSome free live) where
  none_is_none : IsSome {T = ℕ} None → ⊥
  none_is_none h = absurd (cc h)

-- a root that isn't live is free
free_of : (s : Store) (root : ℕ) → (IsLiveRoot s root → ⊥) → root_at s root ≡ None
free_of s root not_live = by_cases (root_at s root) not_live where
  by_cases : (o : Option ℕ) → (IsSome o → ⊥) → o ≡ None
  by_cases None no_one = refl
  by_cases (Some place) no_one = absurd (no_one refl)

module _ (root fresh : ℕ) (old now next : Store) (roots : List ℕ) (before : Sharing root old now roots) (tree : den next fresh ≡ den now root)
    (live : IsLiveRoot next fresh) (free : root_at now fresh ≡ None) (others : SharesWith root fresh now next) (entries : spare next + 1 ≡ spare now)
    (count : made next ≡ made now) where
  -- a live root isn't the new one
  other_than : (taker : ℕ) → IsLiveRoot now taker → taker ≢ fresh
  other_than taker lives is = not_both now taker lives (subst (λ (r : ℕ). root_at now r ≡ None) (sym is) free)

  own_stays : SameTree now next root
  own_stays = others.trees root (other_than root before.lives)

  fresh_apart : Contains roots fresh → ⊥
  fresh_apart h = not_both now fresh (before.each fresh h).live free

  fresh_is_new : root_at old fresh ≡ None
  fresh_is_new =
      free_of old fresh
      (λ lived. not_both now fresh
      ((before.others fresh fresh_apart (λ is. other_than root before.lives (sym is))).tree.live.1 lived) free)

  heir : (taker : ℕ) → Contains roots taker ⊎ Contains (fresh ∷ []) taker → IsHeir root old next taker
  heir taker (inl h) =
      let was = before.each taker h in
      let stays = others.trees taker (other_than taker was.live) in
      record { tree = stays.tree ∙ was.tree; live = stays.live.1 was.live; fresh = was.fresh }
  heir taker (inr h) =
      subst (IsHeir root old next) (sym (one_there fresh taker h)) (record { tree = tree ∙ before.own; live = live; fresh = fresh_is_new })

  stays_on : (other : ℕ) → (Contains (roots ++ fresh ∷ []) other → ⊥) → other ≢ root → Stays old next other
  stays_on other none apart =
      let was = before.others other (λ h. none (Contains-append_left roots (fresh ∷ []) other h)) apart in
      let new : other ≢ fresh = λ is. none (Contains-append_right roots (fresh ∷ []) other (subst (λ (r : ℕ). Contains (fresh ∷ []) r) (sym is) (first_there fresh []))) in
      let stays = others.trees other new in
      record {
        tree = record {
          tree = stays.tree ∙ was.tree.tree;
          live = (λ h. was.tree.live.0 (stays.live.0 h), λ h. stays.live.1 (was.tree.live.1 h));
        };
        shared = omega (arith, was.shared, others.shared other new apart);
      }

  pub one_more : Sharing root old next (roots ++ fresh ∷ [])
  one_more = record {
    own = own_stays.tree ∙ before.own;
    lives = own_stays.live.1 before.lives;
    each = λ taker h. heir taker (Contains-append_cases roots (fresh ∷ []) taker h);
    apart = apart_more roots fresh before.apart fresh_apart;
    others = stays_on;
    spare = omega (arith, entries, before.spare, length-append roots (fresh ∷ []));
    made = count ∙ before.made;
  }

-- with the root itself all are handed on
module _ (root takers : ℕ) (old now : Store) (roots : List ℕ) (all : Sharing root old now roots) (lived : IsLiveRoot old root) (count : length roots + 1 ≡ takers) where
  taker_of : (taker : ℕ) → Contains roots taker ⊎ Contains (root ∷ []) taker → Takes root old now taker
  taker_of taker (inl h) = let heir = all.each taker h in record { tree = heir.tree; live = heir.live; fresh = inr heir.fresh }
  taker_of taker (inr h) =
      subst (Takes root old now) (sym (one_there root taker h)) (record { tree = all.own; live = all.lives; fresh = inl refl })

  pub handed_on : HandsOn root takers old now (roots ++ root ∷ [])
  handed_on = record {
    count = omega (arith, count, length-append roots (root ∷ []));
    each = λ taker h. taker_of taker (Contains-append_cases roots (root ∷ []) taker h);
    apart = apart_more roots root all.apart (λ h. not_both old root lived (all.each root h).fresh);
    gone = λ absent. absurd (absent (Contains-append_right roots (root ∷ []) root (first_there root [])));
    others = λ other absent apart. all.others other (λ h. absent (Contains-append_left roots (root ∷ []) other h)) apart;
    spare = omega (arith, all.spare, count);
    made = all.made;
  }

-- without takers the root is given up
pub given_up : (root takers : ℕ) (old new : Store) (roots : List ℕ) → takers ≡ 0 → roots ≡ [] → root_at new root ≡ None → OthersStay root old new
    → spare new ≡ spare old + 1 → made new ≡ made old → HandsOn root takers old new roots
given_up root takers old new roots none empty gone others entries count = record {
  count = ap length empty ∙ sym none;
  each = λ taker h. absurd (none_there taker (subst (λ (rs : List ℕ). Contains rs taker) empty h));
  apart = subst AreApart (sym empty) tt;
  gone = λ absent. gone;
  others = λ other absent apart. record { tree = others.trees other apart; shared = others.shared other apart };
  spare = omega (arith, none, entries);
  made = count;
}
