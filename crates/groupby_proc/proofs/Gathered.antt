-- Items that are gathered one after another come to the groups of all.
use Rattle.std.proofs.Common.{◌≡◌, ◌∙◌, ℕ, zero, suc, Bool, true, false, cond, not, List, [], ◌∷◌, ◌++◌, map, filter, refl, sym, ap, subst, append_assoc, append-nil}
use Rattle.std.specs.Prelude.{Some, slice_get, slice_set}
use Rattle.pdata_tree.specs.Grouping.{distinct}
use Rattle.groupby_proc.specs.Gathering.{IsEquivalence, AreApart, gathered, group_of, is_new, items_under, with_item, with_items}

both_ways : {A : Type 0} (t : Bool) → t ≡ true → t ≡ false → A
both_ways true p q = absurd cc
both_ways false p q = absurd cc

module _ {K : Type 0} (same : K → K → Bool) (law : IsEquivalence same) where
  -- a key that is the same as one of two others isn't the same as a third that only the other isn't
  apart_on : (t : Bool) (a b c : K) → same a b ≡ t → same a c ≡ false → same b c ≡ true → t ≡ false
  apart_on true a b c e f g = both_ways (same a c) (law.on a b c e g) f
  apart_on false a b c e f g = refl

  apart_back : (t : Bool) (a b : K) → same b a ≡ t → same a b ≡ false → t ≡ false
  apart_back true a b e f = both_ways (same a b) (law.back b a e) f
  apart_back false a b e f = refl

  -- a isn't the same as b where it isn't the same as what b is the same as
  apart_through : (t : Bool) (a b c : K) → same b c ≡ t → same a b ≡ true → same a c ≡ false → t ≡ false
  apart_through true a b c e f g = both_ways (same a c) (law.on a b c f e) g
  apart_through false a b c e f g = refl

  -- the groups whose key isn't the same as this one
  abbrev others : {X : Type 0} → K → List (K × List X) → List (K × List X)
  others k gs = filter (λ g. not (same k g.0)) gs

  out : {X : Type 0} (k : K) (g : K × List X) (gs : List (K × List X)) → same k g.0 ≡ true → others k (g ∷ gs) ≡ others k gs
  out k g gs e = ap (λ b. cond (not b) (g ∷ others k gs) (others k gs)) e

  stays : {X : Type 0} (k : K) (g : K × List X) (gs : List (K × List X)) → same k g.0 ≡ false → others k (g ∷ gs) ≡ g ∷ others k gs
  stays k g gs e = ap (λ b. cond (not b) (g ∷ others k gs) (others k gs)) e

  -- what is taken out for a key is taken out for one that is the same
  twice_on : {X : Type 0} (t u : Bool) (a b : K) (g : K × List X) (gs : List (K × List X)) → same a g.0 ≡ t → same b g.0 ≡ u → same a b ≡ true
      → others a (others b gs) ≡ others a gs → others a (others b (g ∷ gs)) ≡ others a (g ∷ gs)
  twice_on true true a b g gs e f h inv = ap (others a) (out b g gs f) ∙ inv ∙ sym (out a g gs e)
  twice_on false true a b g gs e f h inv = both_ways (same a g.0) (law.on a b g.0 h f) e
  twice_on true false a b g gs e f h inv =
      ap (others a) (stays b g gs f) ∙ out a g (others b gs) e ∙ inv ∙ sym (out a g gs e)
  twice_on false false a b g gs e f h inv =
      ap (others a) (stays b g gs f) ∙ stays a g (others b gs) e ∙ ap (λ hs. g ∷ hs) inv ∙ sym (stays a g gs e)

  twice : {X : Type 0} (a b : K) (gs : List (K × List X)) → same a b ≡ true → others a (others b gs) ≡ others a gs
  twice a b [] h = refl
  twice a b (g ∷ gs) h = twice_on (same a g.0) (same b g.0) a b g gs refl refl h (twice a b gs h)

  swap_on : {X : Type 0} (t u : Bool) (a b : K) (g : K × List X) (gs : List (K × List X)) → same a g.0 ≡ t → same b g.0 ≡ u
      → others a (others b gs) ≡ others b (others a gs) → others a (others b (g ∷ gs)) ≡ others b (others a (g ∷ gs))
  swap_on true true a b g gs e f inv = ap (others a) (out b g gs f) ∙ inv ∙ sym (ap (others b) (out a g gs e))
  swap_on false true a b g gs e f inv =
      ap (others a) (out b g gs f) ∙ inv ∙ sym (out b g (others a gs) f) ∙ sym (ap (others b) (stays a g gs e))
  swap_on true false a b g gs e f inv =
      ap (others a) (stays b g gs f) ∙ out a g (others b gs) e ∙ inv ∙ sym (ap (others b) (out a g gs e))
  swap_on false false a b g gs e f inv =
      ap (others a) (stays b g gs f) ∙ stays a g (others b gs) e ∙ ap (λ hs. g ∷ hs) inv
      ∙ sym (stays b g (others a gs) f) ∙ sym (ap (others b) (stays a g gs e))

  swap : {X : Type 0} (a b : K) (gs : List (K × List X)) → others a (others b gs) ≡ others b (others a gs)
  swap a b [] = refl
  swap a b (g ∷ gs) = swap_on (same a g.0) (same b g.0) a b g gs refl refl (swap a b gs)

  -- an item whose key is the same stands under a key; another doesn't
  items_on : {X : Type 0} (k : K) (m : K × X) (ms : List (K × X)) → same k m.0 ≡ true
      → items_under same k (m ∷ ms) ≡ m.1 ∷ items_under same k ms
  items_on k m ms e = ap (λ b. map (λ n. n.1) (cond b (m ∷ filter (λ n. same k n.0) ms) (filter (λ n. same k n.0) ms))) e

  items_past : {X : Type 0} (k : K) (m : K × X) (ms : List (K × X)) → same k m.0 ≡ false
      → items_under same k (m ∷ ms) ≡ items_under same k ms
  items_past k m ms e = ap (λ b. map (λ n. n.1) (cond b (m ∷ filter (λ n. same k n.0) ms) (filter (λ n. same k n.0) ms))) e

  -- groups with further items behind theirs, and then the groups of the others
  abbrev merged : {X : Type 0} → List (K × List X) → List (K × X) → List (K × List X)
  merged [] ms = gathered same ms
  merged (g ∷ gs) ms = (g.0, g.1 ++ items_under same g.0 ms) ∷ others g.0 (merged gs ms)

  first_on : {X : Type 0} (t : Bool) (m : K × X) (ms : List (K × X)) (k : K) (ks : List K) → same m.0 k ≡ t
      → map (group_of same (m ∷ ms)) (filter (λ y. not (same m.0 y)) ks) ≡ others m.0 (map (group_of same ms) ks)
      → map (group_of same (m ∷ ms)) (filter (λ y. not (same m.0 y)) (k ∷ ks)) ≡ others m.0 (map (group_of same ms) (k ∷ ks))
  first_on true m ms k ks e inv =
      ap (λ b. map (group_of same (m ∷ ms)) (cond (not b) (k ∷ filter (λ y. not (same m.0 y)) ks) (filter (λ y. not (same m.0 y)) ks))) e
      ∙ inv ∙ sym (out m.0 (group_of same ms k) (map (group_of same ms) ks) e)
  first_on false m ms k ks e inv =
      ap (λ b. map (group_of same (m ∷ ms)) (cond (not b) (k ∷ filter (λ y. not (same m.0 y)) ks) (filter (λ y. not (same m.0 y)) ks))) e
      ∙ ap (λ (xs : List _). (k, xs) ∷ map (group_of same (m ∷ ms)) (filter (λ y. not (same m.0 y)) ks))
      (items_past k m ms (apart_back (same k m.0) m.0 k refl e))
      ∙ ap (λ hs. group_of same ms k ∷ hs) inv ∙ sym (stays m.0 (group_of same ms k) (map (group_of same ms) ks) e)

  first_rest : {X : Type 0} (m : K × X) (ms : List (K × X)) (ks : List K)
      → map (group_of same (m ∷ ms)) (filter (λ y. not (same m.0 y)) ks) ≡ others m.0 (map (group_of same ms) ks)
  first_rest m ms [] = refl
  first_rest m ms (k ∷ ks) = first_on (same m.0 k) m ms k ks refl (first_rest m ms ks)

  -- the first item's group comes first
  first : {X : Type 0} (m : K × X) (ms : List (K × X)) → gathered same (m ∷ ms) ≡ merged ((m.0, m.1 ∷ []) ∷ []) ms
  first m ms =
      ap (λ (xs : List _). (m.0, xs) ∷ map (group_of same (m ∷ ms)) (filter (λ y. not (same m.0 y)) (distinct same (map (λ n. n.0) ms))))
      (items_on m.0 m ms (law.itself m.0))
      ∙ ap (λ hs. (m.0, m.1 ∷ items_under same m.0 ms) ∷ hs) (first_rest m ms (distinct same (map (λ n. n.0) ms)))

  -- an item whose key is the same as one that is taken out changes nothing else
  past_on : {X : Type 0} (t : Bool) (a : K) (g : K × List X) (gs : List (K × List X)) (m : K × X) (ms : List (K × X)) → same a g.0 ≡ t
      → same a m.0 ≡ true → others a (merged gs (m ∷ ms)) ≡ others a (merged gs ms)
      → others a (merged (g ∷ gs) (m ∷ ms)) ≡ others a (merged (g ∷ gs) ms)
  past_on true a g gs m ms e h inv =
      out a (g.0, g.1 ++ items_under same g.0 (m ∷ ms)) (others g.0 (merged gs (m ∷ ms))) e
      ∙ twice a g.0 (merged gs (m ∷ ms)) e ∙ inv ∙ sym (twice a g.0 (merged gs ms) e)
      ∙ sym (out a (g.0, g.1 ++ items_under same g.0 ms) (others g.0 (merged gs ms)) e)
  past_on false a g gs m ms e h inv =
      stays a (g.0, g.1 ++ items_under same g.0 (m ∷ ms)) (others g.0 (merged gs (m ∷ ms))) e
      ∙ ap (λ (xs : List _). (g.0, g.1 ++ xs) ∷ others a (others g.0 (merged gs (m ∷ ms))))
      (items_past g.0 m ms (apart_back (same g.0 m.0) m.0 g.0 refl (apart_through (same m.0 g.0) a m.0 g.0 refl h e)))
      ∙ ap (λ hs. (g.0, g.1 ++ items_under same g.0 ms) ∷ hs)
      (swap a g.0 (merged gs (m ∷ ms)) ∙ ap (others g.0) inv ∙ sym (swap a g.0 (merged gs ms)))
      ∙ sym (stays a (g.0, g.1 ++ items_under same g.0 ms) (others g.0 (merged gs ms)) e)

  past : {X : Type 0} (a : K) (gs : List (K × List X)) (m : K × X) (ms : List (K × X)) → same a m.0 ≡ true
      → others a (merged gs (m ∷ ms)) ≡ others a (merged gs ms)
  past a [] m ms h =
      ap (others a) (first m ms) ∙ out a (m.0, m.1 ∷ items_under same m.0 ms) (others m.0 (gathered same ms)) h
      ∙ twice a m.0 (gathered same ms) h
  past a (g ∷ gs) m ms h = past_on (same a g.0) a g gs m ms refl h (past a gs m ms h)

  -- an item is put into its group before the others come
  step_on : {X : Type 0} (t : Bool) (g : K × List X) (gs : List (K × List X)) (m : K × X) (ms : List (K × X)) → same g.0 m.0 ≡ t
      → merged gs (m ∷ ms) ≡ merged (with_item same m gs) ms
      → merged (g ∷ gs) (m ∷ ms) ≡ merged (cond t ((g.0, g.1 ++ m.1 ∷ []) ∷ gs) (g ∷ with_item same m gs)) ms
  step_on true g gs m ms e inv =
      ap (λ (xs : List _). (g.0, g.1 ++ xs) ∷ others g.0 (merged gs (m ∷ ms))) (items_on g.0 m ms e)
      ∙ ap (λ (xs : List _). (g.0, xs) ∷ others g.0 (merged gs (m ∷ ms))) (sym (append_assoc g.1 (m.1 ∷ []) (items_under same g.0 ms)))
      ∙ ap (λ hs. (g.0, (g.1 ++ m.1 ∷ []) ++ items_under same g.0 ms) ∷ hs) (past g.0 gs m ms e)
  step_on false g gs m ms e inv =
      ap (λ (xs : List _). (g.0, g.1 ++ xs) ∷ others g.0 (merged gs (m ∷ ms))) (items_past g.0 m ms e)
      ∙ ap (λ hs. (g.0, g.1 ++ items_under same g.0 ms) ∷ others g.0 hs) inv

  step : {X : Type 0} (gs : List (K × List X)) (m : K × X) (ms : List (K × X)) → merged gs (m ∷ ms) ≡ merged (with_item same m gs) ms
  step [] m ms = first m ms
  step (g ∷ gs) m ms = step_on (same g.0 m.0) g gs m ms refl (step gs m ms)

  steps : {X : Type 0} (gs : List (K × List X)) (ms : List (K × X)) → merged gs ms ≡ merged (with_items same gs ms) []
  steps gs [] = refl
  steps gs (m ∷ ms) = step gs m ms ∙ steps (with_item same m gs) ms

  -- Groups stay apart.

  new_on : {X : Type 0} (t u : Bool) (k : K) (g : K × List X) (gs : List (K × List X)) (m : K × X) → same k g.0 ≡ t → same g.0 m.0 ≡ u
      → same k m.0 ≡ false → is_new same k (g ∷ gs) ≡ true → is_new same k (with_item same m gs) ≡ true
      → is_new same k (cond u ((g.0, g.1 ++ m.1 ∷ []) ∷ gs) (g ∷ with_item same m gs)) ≡ true
  new_on true u k g gs m e f h here inv =
      both_ways (is_new same k (g ∷ gs)) here (ap (λ b. cond b false (is_new same k gs)) e)
  new_on false true k g gs m e f h here inv = here
  new_on false false k g gs m e f h here inv = ap (λ b. cond b false (is_new same k (with_item same m gs))) e ∙ inv

  new_rest : {X : Type 0} (t : Bool) (k : K) (g : K × List X) (gs : List (K × List X)) → same k g.0 ≡ t → is_new same k (g ∷ gs) ≡ true
      → (t ≡ false) × (is_new same k gs ≡ true)
  new_rest true k g gs e here = both_ways (is_new same k (g ∷ gs)) here (ap (λ b. cond b false (is_new same k gs)) e)
  new_rest false k g gs e here = (refl, sym (ap (λ b. cond b false (is_new same k gs)) e) ∙ here)

  new_with : {X : Type 0} (k : K) (gs : List (K × List X)) (m : K × X) → same k m.0 ≡ false → is_new same k gs ≡ true
      → is_new same k (with_item same m gs) ≡ true
  new_with k [] m h here = ap (λ b. cond b false true) h
  new_with k (g ∷ gs) m h here =
      new_on (same k g.0) (same g.0 m.0) k g gs m refl refl h here (new_with k gs m h ((new_rest (same k g.0) k g gs refl here).1))

  apart_turn : {X : Type 0} (t : Bool) (g : K × List X) (gs : List (K × List X)) (m : K × X) → same g.0 m.0 ≡ t → AreApart same (g ∷ gs)
      → AreApart same (with_item same m gs) → AreApart same (cond t ((g.0, g.1 ++ m.1 ∷ []) ∷ gs) (g ∷ with_item same m gs))
  apart_turn true g gs m e all inv = all
  apart_turn false g gs m e all inv = (new_with g.0 gs m e all.0, inv)

  pub apart_with : {X : Type 0} (gs : List (K × List X)) (m : K × X) → AreApart same gs → AreApart same (with_item same m gs)
  apart_with [] m all = (refl, tt)
  apart_with (g ∷ gs) m all = apart_turn (same g.0 m.0) g gs m refl all (apart_with gs m all.1)

  apart_all : {X : Type 0} (gs : List (K × List X)) (ms : List (K × X)) → AreApart same gs → AreApart same (with_items same gs ms)
  apart_all gs [] all = all
  apart_all gs (m ∷ ms) all = apart_all (with_item same m gs) ms (apart_with gs m all)

  others_all : {X : Type 0} (k : K) (gs : List (K × List X)) → is_new same k gs ≡ true → others k gs ≡ gs
  others_all k [] here = refl
  others_all k (g ∷ gs) here =
      let parts = new_rest (same k g.0) k g gs refl here in
      stays k g gs parts.0 ∙ ap (λ hs. g ∷ hs) (others_all k gs parts.1)

  merged_none : {X : Type 0} (gs : List (K × List X)) → AreApart same gs → merged gs [] ≡ gs
  merged_none [] all = refl
  merged_none (g ∷ gs) all =
      ap (λ (xs : List _). (g.0, xs) ∷ others g.0 (merged gs [])) (append-nil g.1)
      ∙ ap (λ hs. g ∷ others g.0 hs) (merged_none gs all.1) ∙ ap (λ hs. g ∷ hs) (others_all g.0 gs all.0)

  -- items that are put one after another are all gathered
  pub gathered_all : {X : Type 0} (ms : List (K × X)) → with_items same [] ms ≡ gathered same ms
  gathered_all ms = sym (steps [] ms ∙ merged_none (with_items same [] ms) (apart_all [] ms tt))

  -- Where an item is put.

  some_same : {A : Type 0} (x y : A) → Some x ≡ Some y → x ≡ y
  some_same x y e = cc

  other_key : {X : Type 0} (k : K) (gs : List (K × List X)) (i : ℕ) (g : K × List X) → is_new same k gs ≡ true → slice_get gs i ≡ Some g
      → same k g.0 ≡ false
  other_key k [] i g here at = absurd cc
  other_key k (h ∷ gs) zero g here at =
      subst (λ (x : K × List _). same k x.0 ≡ false) (some_same h g at) ((new_rest (same k h.0) k h gs refl here).0)
  other_key k (h ∷ gs) (suc i) g here at = other_key k gs i g ((new_rest (same k h.0) k h gs refl here).1) at

  -- in the group whose key is the same
  pub put_there : {X : Type 0} (gs : List (K × List X)) (i : ℕ) (g : K × List X) (m : K × X) → AreApart same gs → slice_get gs i ≡ Some g
      → same g.0 m.0 ≡ true → with_item same m gs ≡ slice_set gs i (g.0, g.1 ++ m.1 ∷ [])
  put_there [] i g m all at e = absurd cc
  put_there (h ∷ gs) zero g m all at e =
      let is : h ≡ g = some_same h g at in
      ap (λ b. cond b ((h.0, h.1 ++ m.1 ∷ []) ∷ gs) (h ∷ with_item same m gs)) (ap (λ (x : K × List _). same x.0 m.0) is ∙ e)
      ∙ ap (λ (x : K × List _). (x.0, x.1 ++ m.1 ∷ []) ∷ gs) is
  put_there (h ∷ gs) (suc i) g m all at e =
      ap (λ b. cond b ((h.0, h.1 ++ m.1 ∷ []) ∷ gs) (h ∷ with_item same m gs))
      (apart_on (same h.0 m.0) h.0 m.0 g.0 refl (other_key h.0 gs i g all.0 at) (law.back g.0 m.0 e))
      ∙ ap (λ hs. h ∷ hs) (put_there gs i g m all.1 at e)

  -- behind all where no key is the same
  pub put_behind : {X : Type 0} (gs : List (K × List X)) (m : K × X)
      → ((i : ℕ) (g : K × List X) → slice_get gs i ≡ Some g → same g.0 m.0 ≡ false) → with_item same m gs ≡ gs ++ (m.0, m.1 ∷ []) ∷ []
  put_behind [] m none = refl
  put_behind (g ∷ gs) m none =
      ap (λ b. cond b ((g.0, g.1 ++ m.1 ∷ []) ∷ gs) (g ∷ with_item same m gs)) (none 0 g refl)
      ∙ ap (λ hs. g ∷ hs) (put_behind gs m (λ i h at. none (suc i) h at))
