-- What is found after pairs were put.
use Rattle.std.proofs.Common.{◌≡◌, ◌∙◌, ℕ, Bool, true, false, List, [], ◌∷◌, ◌++◌, refl, sym, ap, cond, append_assoc}
use Rattle.std.specs.Prelude.{◌||◌, Option, Some, None, not, filter}
use Rattle.std.specs.Str.{bytes_eq}
use Rattle.std.proofs.lemmas.List.{append-nil}
use Rattle.pdata_value.specs.Pairs.{has_key, get, put, put_all, merged, first_of, get_last, is_distinct}
use Rattle.pdata_value.specs.declared.merge.Strategy.TheVariants.{Upsert}
use Rattle.pdata_value.proofs.Bools.{picks, skips, left, right, or_true, same_bytes, bytes_self}

false_where : (t : Bool) → (t ≡ true → ⊥) → t ≡ false
false_where true f = absurd (f refl)
false_where false f = refl

not_true : (t : Bool) → not t ≡ true → t ≡ false
not_true true h = absurd cc
not_true false h = refl

either_false : (s t : Bool) → s ≡ false → t ≡ false → (s || t) ≡ false
either_false true t h k = absurd cc
either_false false t h k = k

or_left : (s t : Bool) → (s || t) ≡ false → s ≡ false
or_left true t h = absurd cc
or_left false t h = refl

or_right : (s t : Bool) → (s || t) ≡ false → t ≡ false
or_right true t h = absurd cc
or_right false t h = h

differs : (key other : List ℕ) → (key ≡ other → ⊥) → bytes_eq key other ≡ false
differs key other f = false_where (bytes_eq key other) (λ h. f (same_bytes key other h))

module _ {V : Type 0} where
  put_here_on : (t : Bool) (p : List ℕ × V) (ps : List (List ℕ × V)) (key : List ℕ) (v : V) → bytes_eq p.0 key ≡ t
      → get (put ps key v) key ≡ Some v → get (cond t ((p.0, v) ∷ ps) (p ∷ put ps key v)) key ≡ Some v
  put_here_on true p ps key v e h = picks (bytes_eq p.0 key) (Some v) (get ps key) e
  put_here_on false p ps key v e h = skips (bytes_eq p.0 key) (Some p.1) (get (put ps key v) key) e ∙ h

  -- what was put under a key is found there
  pub get-put : (ps : List (List ℕ × V)) (key : List ℕ) (v : V) → get (put ps key v) key ≡ Some v
  get-put [] key v = picks (bytes_eq key key) (Some v) None (bytes_self key)
  get-put (p ∷ ps) key v = put_here_on (bytes_eq p.0 key) p ps key v refl (get-put ps key v)

  put_other_on : (t : Bool) (p : List ℕ × V) (ps : List (List ℕ × V)) (key other : List ℕ) (v : V) → bytes_eq p.0 key ≡ t → (key ≡ other → ⊥)
      → get (put ps key v) other ≡ get ps other → get (cond t ((p.0, v) ∷ ps) (p ∷ put ps key v)) other ≡ get (p ∷ ps) other
  put_other_on true p ps key other v e f h =
      let apart : bytes_eq p.0 other ≡ false = differs p.0 other (λ s. f (sym (same_bytes p.0 key e) ∙ s)) in
      skips (bytes_eq p.0 other) (Some v) (get ps other) apart ∙ sym (skips (bytes_eq p.0 other) (Some p.1) (get ps other) apart)
  put_other_on false p ps key other v e f h = ap (cond (bytes_eq p.0 other) (Some p.1)) h

  -- other keys keep what they had
  pub get-put_other : (ps : List (List ℕ × V)) (key other : List ℕ) (v : V) → (key ≡ other → ⊥) → get (put ps key v) other ≡ get ps other
  get-put_other [] key other v f = skips (bytes_eq key other) (Some v) None (differs key other f)
  get-put_other (p ∷ ps) key other v f = put_other_on (bytes_eq p.0 key) p ps key other v refl f (get-put_other ps key other v f)

  put_then : (t : Bool) (ps : List (List ℕ × V)) (q : List ℕ × V) (key : List ℕ) → bytes_eq q.0 key ≡ t
      → get (put ps q.0 q.1) key ≡ first_of (cond t (Some q.1) None) (get ps key)
  put_then true ps q key e = ap (λ (k : List ℕ). get (put ps q.0 q.1) k) (sym (same_bytes q.0 key e)) ∙ get-put ps q.0 q.1
  put_then false ps q key e = get-put_other ps q.0 key q.1 (λ s. let is : bytes_eq q.0 key ≡ true = ap (bytes_eq q.0) (sym s) ∙ bytes_self q.0 in cc)

  last_then : (found : Option V) (ps : List (List ℕ × V)) (q : List ℕ × V) (key : List ℕ)
      → first_of found (get (put ps q.0 q.1) key) ≡ first_of (first_of found (cond (bytes_eq q.0 key) (Some q.1) None)) (get ps key)
  last_then None ps q key = put_then (bytes_eq q.0 key) ps q key refl
  last_then (Some v) ps q key = refl

  -- of pairs that were put, the last with a key counts
  pub get-put_all : (qs ps : List (List ℕ × V)) (key : List ℕ) → get (put_all ps qs) key ≡ first_of (get_last qs key) (get ps key)
  get-put_all [] ps key = refl
  get-put_all (q ∷ qs) ps key = get-put_all qs (put ps q.0 q.1) key ∙ last_then (get_last qs key) ps q key

  put_new_on : (t : Bool) (p : List ℕ × V) (ps : List (List ℕ × V)) (key : List ℕ) (v : V) → (t || has_key ps key) ≡ false
      → (has_key ps key ≡ false → put ps key v ≡ ps ++ (key, v) ∷ []) → cond t ((p.0, v) ∷ ps) (p ∷ put ps key v) ≡ (p ∷ ps) ++ (key, v) ∷ []
  put_new_on true p ps key v h f = absurd cc
  put_new_on false p ps key v h f = ap (λ (xs : List (List ℕ × V)). p ∷ xs) (f h)

  put-new : (ps : List (List ℕ × V)) (key : List ℕ) (v : V) → has_key ps key ≡ false → put ps key v ≡ ps ++ (key, v) ∷ []
  put-new [] key v h = refl
  put-new (p ∷ ps) key v h = put_new_on (bytes_eq p.0 key) p ps key v h (put-new ps key v)

  missing-append : (ps qs : List (List ℕ × V)) (key : List ℕ) → has_key ps key ≡ false → has_key qs key ≡ false → has_key (ps ++ qs) key ≡ false
  missing-append [] qs key h k = k
  missing-append (p ∷ ps) qs key h k =
      either_false (bytes_eq p.0 key) (has_key (ps ++ qs) key) (or_left (bytes_eq p.0 key) (has_key ps key) h)
      (missing-append ps qs key (or_right (bytes_eq p.0 key) (has_key ps key) h) k)

  -- pairs with new keys, no key twice, are added as they stand
  pub put_all-distinct : (qs ps : List (List ℕ × V)) → is_distinct qs ≡ true → ((key : List ℕ) → has_key qs key ≡ true → has_key ps key ≡ false)
      → put_all ps qs ≡ ps ++ qs
  put_all-distinct [] ps h f = sym (append-nil ps)
  put_all-distinct (q ∷ qs) ps h f =
      let alone : has_key qs q.0 ≡ false = not_true (has_key qs q.0) (left (not (has_key qs q.0)) (is_distinct qs) h) in
      let new : has_key ps q.0 ≡ false = f q.0 (ap (λ b. b || has_key qs q.0) (bytes_self q.0)) in
      let later : (key : List ℕ) → has_key qs key ≡ true → has_key (ps ++ q ∷ []) key ≡ false = λ key w.
      missing-append ps (q ∷ []) key (f key (or_true (bytes_eq q.0 key) (has_key qs key) w))
      (either_false (bytes_eq q.0 key) false
      (differs q.0 key (λ s. let is : has_key qs q.0 ≡ true = ap (has_key qs) s ∙ w in cc)) refl) in
      ap (λ (xs : List (List ℕ × V)). put_all xs qs) (put-new ps q.0 q.1 new)
      ∙ put_all-distinct qs (ps ++ q ∷ []) (right (not (has_key qs q.0)) (is_distinct qs) h) later
      ∙ append_assoc ps (q ∷ []) qs

  all_taken : (qs : List (List ℕ × V)) → filter (λ (q : List ℕ × V). true) qs ≡ qs
  all_taken [] = refl
  all_taken (q ∷ qs) = ap (λ (xs : List (List ℕ × V)). q ∷ xs) (all_taken qs)

  pub upsert-last : (qs : List (List ℕ × V)) (key : List ℕ) → get (merged Upsert [] qs) key ≡ get_last qs key
  upsert-last qs key =
      ap (λ (xs : List (List ℕ × V)). get (put_all [] xs) key) (all_taken qs) ∙ get-put_all qs [] key ∙ first_none (get_last qs key)
    where
      first_none : (found : Option V) → first_of found None ≡ found
      first_none None = refl
      first_none (Some v) = refl

  pub upsert-distinct : (qs : List (List ℕ × V)) → is_distinct qs ≡ true → merged Upsert [] qs ≡ qs
  upsert-distinct qs h = ap (λ (xs : List (List ℕ × V)). put_all [] xs) (all_taken qs) ∙ put_all-distinct qs [] h (λ key w. refl)
