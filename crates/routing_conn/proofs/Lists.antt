-- Lists of roots, and roots that are live.
use Rattle.std.proofs.Common.{◌≡◌, ◌≢◌, ◌<◌, ◌⊎◌, inl, inr, ℕ, zero, suc, List, [], ◌∷◌, ◌++◌, Option, None, Some, ap, sym, subst, refl, arith}
use Rattle.std.specs.Prelude.{Contains, IsSome, slice_index_or}
use Rattle.std.proofs.lemmas.List.Elements.{Contains-append_cases, Contains-append_left, Contains-append_right}
use Rattle.fanout.specs.Handing.{AreApart}
use Rattle.share_cow.specs.Store.{IsLiveRoot, Store, root_at}

pub none_there : (x : ℕ) → Contains [] x → ⊥
none_there x h = omega (arith, h.1)

one_at : (x y k : ℕ) → k < 1 → slice_index_or (x ∷ []) k y ≡ y → y ≡ x
one_at x y zero within is = sym is
one_at x y (suc k) within is = absurd (omega (arith, within))

pub one_there : (x y : ℕ) → Contains (x ∷ []) y → y ≡ x
one_there x y h = one_at x y h.0 (omega (arith, h.1)) h.2

pub first_there : (x : ℕ) (xs : List ℕ) → Contains (x ∷ xs) x
first_there x xs = (0, omega arith, refl)

pub later_there : (x y : ℕ) (xs : List ℕ) → Contains xs y → Contains (x ∷ xs) y
later_there x y xs h = Contains-append_right (x ∷ []) xs y h

-- one of a list is the first of them or a later one
pub first_or_later : (x y : ℕ) (xs : List ℕ) → Contains (x ∷ xs) y → (y ≡ x) ⊎ Contains xs y
first_or_later x y xs h = elim (Contains-append_cases (x ∷ []) xs y h) [
  | inl first ↦ inl (one_there x y first)
  | inr later ↦ inr later
]

-- lists without a common root
pub apart_both : (xs ys : List ℕ) → AreApart xs → AreApart ys → ((x : ℕ) → Contains xs x → Contains ys x → ⊥) → AreApart (xs ++ ys)
apart_both [] ys one other none = other
apart_both (x ∷ xs) ys one other none = (
  λ h. elim (Contains-append_cases xs ys x h) [
    | inl before ↦ one.0 before
    | inr behind ↦ none x (first_there x xs) behind
  ],
  apart_both xs ys one.1 other (λ y h. none y (later_there x y xs h)),
)

pub apart_front : (xs : List ℕ) (x : ℕ) → AreApart (xs ++ x ∷ []) → AreApart xs
apart_front [] x h = tt
apart_front (y ∷ ys) x h = (λ is. h.0 (Contains-append_left ys (x ∷ []) y is), apart_front ys x h.1)

pub apart_last : (xs : List ℕ) (x : ℕ) → AreApart (xs ++ x ∷ []) → Contains xs x → ⊥
apart_last [] x h is = none_there x is
apart_last (y ∷ ys) x h is = elim (first_or_later y x ys is) [
  | inl first ↦ h.0 (subst (λ (z : ℕ). Contains (ys ++ x ∷ []) z) first (Contains-append_right ys (x ∷ []) x (first_there x [])))
  | inr later ↦ apart_last ys x h.1 later
]

-- no root is live and free
pub not_both : (s : Store) (root : ℕ) → IsLiveRoot s root → root_at s root ≡ None → ⊥
not_both s root live free = none_is_none (subst IsSome free live) where
  none_is_none : IsSome {T = ℕ} None → ⊥
  none_is_none h = absurd (cc h)

-- a root that isn't live is free
pub free_of : (s : Store) (root : ℕ) → (IsLiveRoot s root → ⊥) → root_at s root ≡ None
free_of s root not_live = by_cases (root_at s root) not_live where
  by_cases : (o : Option ℕ) → (IsSome o → ⊥) → o ≡ None
  by_cases None no_one = refl
  by_cases (Some place) no_one = absurd (no_one refl)

-- a free root isn't one that is live
pub free_apart : (s : Store) (live free : ℕ) → IsLiveRoot s live → root_at s free ≡ None → live ≢ free
free_apart s live free lives is_free is = not_both s live lives (subst (λ (r : ℕ). root_at s r ≡ None) (sym is) is_free)

not_zero : (n : ℕ) → zero ≢ suc n
not_zero n is = absurd (cc is)

-- two numbers are the same or not
pub same_or_not : (x y : ℕ) → (x ≡ y) ⊎ (x ≢ y)
same_or_not zero zero = inl refl
same_or_not zero (suc y) = inr (not_zero y)
same_or_not (suc x) zero = inr (λ is. not_zero x (sym is))
same_or_not (suc x) (suc y) = elim (same_or_not x y) [
  | inl is ↦ inl (ap suc is)
  | inr isnt ↦ inr (λ is. isnt (omega (arith, is)))
]
