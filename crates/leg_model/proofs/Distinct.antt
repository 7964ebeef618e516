-- Items under distinct keys are all the items.
use Rattle.std.proofs.Common.{◌≡◌, ◌∙◌, ℕ, suc, ◌+◌, Bool, true, false, cond, not, List, [], ◌∷◌, length, map, filter, refl, sym, ap, arith}
use Rattle.pdata_tree.specs.Grouping.{distinct}

-- A test that is an equivalence.
pub record IsEquivalence {K : Type 0} (same : K → K → Bool) : Type 0 where
  pub itself : (x : K) → same x x ≡ true
  pub back : (x y : K) → same x y ≡ true → same y x ≡ true
  pub on : (x y z : K) → same x y ≡ true → same y z ≡ true → same x z ≡ true

not_both : {A : Type 0} (t : Bool) → t ≡ true → t ≡ false → A
not_both true p q = absurd cc
not_both false p q = absurd cc

add_left : (n a b : ℕ) → n + (a + b) ≡ n + a + b
add_left n a b = omega arith

add_right : (n a b : ℕ) → n + (a + b) ≡ a + (n + b)
add_right n a b = omega arith

module _ {K : Type 0} where
  with_first : (p : K → Bool) (k : K) (ks : List K) → p k ≡ true → filter p (k ∷ ks) ≡ k ∷ filter p ks
  with_first p k ks h = ap (λ b. cond b (k ∷ filter p ks) (filter p ks)) h

  without_first : (p : K → Bool) (k : K) (ks : List K) → p k ≡ false → filter p (k ∷ ks) ≡ filter p ks
  without_first p k ks h = ap (λ b. cond b (k ∷ filter p ks) (filter p ks)) h

  -- a number of each key, added up
  abbrev pub total : (K → ℕ) → List K → ℕ
  total f [] = 0
  total f (k ∷ ks) = f k + total f ks

  -- those that pass a test, and those that don't
  parts_on : (t : Bool) (f : K → ℕ) (p : K → Bool) (k : K) (ks : List K) → p k ≡ t
      → total f ks ≡ total f (filter p ks) + total f (filter (λ x. not (p x)) ks)
      → total f (k ∷ ks) ≡ total f (filter p (k ∷ ks)) + total f (filter (λ x. not (p x)) (k ∷ ks))
  parts_on true f p k ks h inv =
      ap (λ n. f k + n) inv ∙ add_left (f k) (total f (filter p ks)) (total f (filter (λ x. not (p x)) ks))
      ∙ sym (ap (λ xs. total f xs + total f (filter (λ x. not (p x)) (k ∷ ks))) (with_first p k ks h)
      ∙ ap (λ xs. total f (k ∷ filter p ks) + total f xs) (without_first (λ x. not (p x)) k ks (ap not h)))
  parts_on false f p k ks h inv =
      ap (λ n. f k + n) inv ∙ add_right (f k) (total f (filter p ks)) (total f (filter (λ x. not (p x)) ks))
      ∙ sym (ap (λ xs. total f xs + total f (filter (λ x. not (p x)) (k ∷ ks))) (without_first p k ks h)
      ∙ ap (λ xs. total f (filter p ks) + total f xs) (with_first (λ x. not (p x)) k ks (ap not h)))

  parts : (f : K → ℕ) (p : K → Bool) (ks : List K)
      → total f ks ≡ total f (filter p ks) + total f (filter (λ x. not (p x)) ks)
  parts f p [] = refl
  parts f p (k ∷ ks) = parts_on (p k) f p k ks refl (parts f p ks)

  -- numbers that agree where a test is passed
  agree_on : (t : Bool) (f g : K → ℕ) (p : K → Bool) (k : K) (ks : List K) → p k ≡ t → (p k ≡ true → f k ≡ g k)
      → total f (filter p ks) ≡ total g (filter p ks) → total f (filter p (k ∷ ks)) ≡ total g (filter p (k ∷ ks))
  agree_on true f g p k ks h same inv =
      ap (total f) (with_first p k ks h) ∙ ap (λ n. n + total f (filter p ks)) (same h) ∙ ap (λ n. g k + n) inv
      ∙ sym (ap (total g) (with_first p k ks h))
  agree_on false f g p k ks h same inv =
      ap (total f) (without_first p k ks h) ∙ inv ∙ sym (ap (total g) (without_first p k ks h))

  agree : (f g : K → ℕ) (p : K → Bool) → ((k : K) → p k ≡ true → f k ≡ g k) → (ks : List K)
      → total f (filter p ks) ≡ total g (filter p ks)
  agree f g p same [] = refl
  agree f g p same (k ∷ ks) = agree_on (p k) f g p k ks refl (same k) (agree f g p same ks)

  -- a test that follows from another takes nothing away
  implied_on : (t u : Bool) (p q : K → Bool) (k : K) (ks : List K) → p k ≡ t → q k ≡ u → (p k ≡ true → q k ≡ true)
      → filter p (filter q ks) ≡ filter p ks → filter p (filter q (k ∷ ks)) ≡ filter p (k ∷ ks)
  implied_on true true p q k ks h i follows inv =
      ap (filter p) (with_first q k ks i) ∙ with_first p k (filter q ks) h ∙ ap (λ xs. k ∷ xs) inv ∙ sym (with_first p k ks h)
  implied_on true false p q k ks h i follows inv = not_both (q k) (follows h) i
  implied_on false true p q k ks h i follows inv =
      ap (filter p) (with_first q k ks i) ∙ without_first p k (filter q ks) h ∙ inv ∙ sym (without_first p k ks h)
  implied_on false false p q k ks h i follows inv =
      ap (filter p) (without_first q k ks i) ∙ inv ∙ sym (without_first p k ks h)

  implied : (p q : K → Bool) → ((k : K) → p k ≡ true → q k ≡ true) → (ks : List K) → filter p (filter q ks) ≡ filter p ks
  implied p q follows [] = refl
  implied p q follows (k ∷ ks) = implied_on (p k) (q k) p q k ks refl refl (follows k) (implied p q follows ks)

  -- two tests that exclude each other leave nothing
  apart_on : (t u : Bool) (p q : K → Bool) (k : K) (ks : List K) → p k ≡ t → q k ≡ u → (p k ≡ true → q k ≡ false)
      → filter p (filter q ks) ≡ [] → filter p (filter q (k ∷ ks)) ≡ []
  apart_on true true p q k ks h i excludes inv = not_both (q k) i (excludes h)
  apart_on true false p q k ks h i excludes inv = ap (filter p) (without_first q k ks i) ∙ inv
  apart_on false true p q k ks h i excludes inv =
      ap (filter p) (with_first q k ks i) ∙ without_first p k (filter q ks) h ∙ inv
  apart_on false false p q k ks h i excludes inv = ap (filter p) (without_first q k ks i) ∙ inv

  apart : (p q : K → Bool) → ((k : K) → p k ≡ true → q k ≡ false) → (ks : List K) → filter p (filter q ks) ≡ []
  apart p q excludes [] = refl
  apart p q excludes (k ∷ ks) = apart_on (p k) (q k) p q k ks refl refl (excludes k) (apart p q excludes ks)

module _ {K X : Type 0} (same : K → K → Bool) (law : IsEquivalence same) (key : X → K) where
  -- how many items have a key that is the same
  abbrev pub count : List X → K → ℕ
  count xs k = length (filter (λ x. same k (key x)) xs)

  count-with : (x : X) (xs : List X) (k : K) → same k (key x) ≡ true → count (x ∷ xs) k ≡ suc (count xs k)
  count-with x xs k h = ap length (with_first (λ y. same k (key y)) x xs h)

  count-without : (x : X) (xs : List X) (k : K) → same k (key x) ≡ false → count (x ∷ xs) k ≡ count xs k
  count-without x xs k h = ap length (without_first (λ y. same k (key y)) x xs h)

  -- where a isn't the same as b, b isn't the same as a
  turned : (t : Bool) (a b : K) → same b a ≡ t → same a b ≡ false → t ≡ false
  turned true a b h i = not_both (same a b) (law.back b a h) i
  turned false a b h i = refl

  -- what is the same as a isn't the same as what a isn't
  kept_apart : (t : Bool) (a b k : K) → same k b ≡ t → same a k ≡ true → same a b ≡ false → t ≡ false
  kept_apart true a b k h i j = not_both (same a b) (law.on a k b i h) j
  kept_apart false a b k h i j = refl

  -- keys that are the same have as many items
  alike_on : (t : Bool) (a b : K) (x : X) (xs : List X) → same a b ≡ true → same b (key x) ≡ t
      → count xs b ≡ count xs a → count (x ∷ xs) b ≡ count (x ∷ xs) a
  alike_on true a b x xs h i inv =
      count-with x xs b i ∙ ap suc inv ∙ sym (count-with x xs a (law.on a b (key x) h i))
  alike_on false a b x xs h i inv =
      count-without x xs b i ∙ inv
      ∙ sym (count-without x xs a (kept_apart (same a (key x)) b (key x) a refl (law.back a b h) i))

  alike : (a b : K) (xs : List X) → same a b ≡ true → count xs b ≡ count xs a
  alike a b [] h = refl
  alike a b (x ∷ xs) h = alike_on (same b (key x)) a b x xs h refl (alike a b xs h)

  -- the keys of items
  abbrev keys : List X → List K
  keys xs = distinct same (map key xs)

  -- one of the distinct keys is the same as a key, and has all its items
  under_on : (t : Bool) (a : K) (x : X) (xs : List X) → same a (key x) ≡ t
      → total (count xs) (filter (same a) (keys xs)) ≡ count xs a
      → total (count (x ∷ xs)) (filter (same a) (keys (x ∷ xs))) ≡ count (x ∷ xs) a
  under_on true a x xs h inv =
      ap (total (count (x ∷ xs))) (with_first (same a) (key x) (filter (λ k. not (same (key x) k)) (keys xs)) h)
      ∙ ap (λ ks. count (x ∷ xs) (key x) + total (count (x ∷ xs)) ks)
      (apart (same a) (λ k. not (same (key x) k))
      (λ k i. ap not (law.on (key x) a k (law.back a (key x) h) i)) (keys xs))
      ∙ none_more (count (x ∷ xs) (key x)) ∙ alike a (key x) (x ∷ xs) h
    where
      none_more : (n : ℕ) → n + 0 ≡ n
      none_more n = omega arith
  under_on false a x xs h inv =
      ap (total (count (x ∷ xs))) (without_first (same a) (key x) (filter (λ k. not (same (key x) k)) (keys xs)) h)
      ∙ ap (total (count (x ∷ xs))) (implied (same a) (λ k. not (same (key x) k))
      (λ k i. ap not (turned (same (key x) k) k (key x) refl (kept_apart (same k (key x)) a (key x) k refl i h))) (keys xs))
      ∙ agree (count (x ∷ xs)) (count xs) (same a)
      (λ k i. count-without x xs k (kept_apart (same k (key x)) a (key x) k refl i h)) (keys xs)
      ∙ inv ∙ sym (count-without x xs a h)

  under : (a : K) (xs : List X) → total (count xs) (filter (same a) (keys xs)) ≡ count xs a
  under a [] = refl
  under a (x ∷ xs) = under_on (same a (key x)) a x xs refl (under a xs)

  -- the items under distinct keys are all the items
  pub total-distinct : (xs : List X) → total (count xs) (keys xs) ≡ length xs
  total-distinct [] = refl
  total-distinct (x ∷ xs) =
      ap (λ n. n + total (count (x ∷ xs)) others) (count-with x xs (key x) (law.itself (key x)))
      ∙ ap (λ n. suc (count xs (key x)) + n)
      (agree (count (x ∷ xs)) (count xs) (λ k. not (same (key x) k))
      (λ k i. count-without x xs k (turned (same k (key x)) (key x) k refl (off (same (key x) k) i))) (keys xs))
      ∙ ap (λ n. suc n + total (count xs) others) (sym (under (key x) xs))
      ∙ one_more (total (count xs) (filter (same (key x)) (keys xs))) (total (count xs) others)
      ∙ ap suc (sym (parts (count xs) (same (key x)) (keys xs)) ∙ total-distinct xs)
    where
      others : List K
      others = filter (λ k. not (same (key x) k)) (keys xs)

      one_more : (a b : ℕ) → suc a + b ≡ suc (a + b)
      one_more a b = omega arith

      off : (t : Bool) → not t ≡ true → t ≡ false
      off true h = absurd cc
      off false h = refl
