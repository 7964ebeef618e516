-- Steps of the comparison of lists and maps.
use Rattle.std.proofs.Common.{◌≡◌, ◌∙◌, ℕ, suc, ◌+◌, ◌<◌, Bool, true, false, List, [], ◌∷◌, ◌++◌, length, take, drop, get_or, refl, ap, subst}
use Rattle.std.specs.Prelude.{◌&&◌, ◌||◌, Option, Some, None}
use Rattle.std.specs.Str.{bytes_eq}
use Rattle.pdata_value.specs.Pairs.{get, has_key}
use Rattle.pdata_value.specs.Places.{keys_within}
use Rattle.pdata_value.specs.Same.{same, same_items, same_answer, same_keys, same_pairs}
use Rattle.pdata_value.specs.declared.value.Value.{Value}
use Rattle.pdata_value.proofs.Bools.{left, right, both, and_false, and_assoc, or_true, same_bytes, bytes_self}
use Rattle.pdata_value.proofs.Maps.{get-first, get-missing, get-there, split_at, take-one}

-- lists of different lengths
pub lengths_differ : (vs ws : List Value) → (length vs ≡ length ws → ⊥) → same_items vs ws ≡ false
lengths_differ [] [] h = absurd (h refl)
lengths_differ [] (w ∷ ws) h = refl
lengths_differ (v ∷ vs) [] h = refl
lengths_differ (v ∷ vs) (w ∷ ws) h = and_false (same v w) (same_items vs ws) (lengths_differ vs ws (λ e. h (ap suc e)))

abbrev Map : Type 0
Map = List (List ℕ × Value)

-- the first values at one key
abbrev pub alike : Map → Map → List ℕ → Bool
alike ps qs key = same_answer (get ps key) (get qs key)

keys-append : (xs ys ps qs : Map) → same_keys (xs ++ ys) ps qs ≡ (same_keys xs ps qs && same_keys ys ps qs)
keys-append [] ys ps qs = refl
keys-append (x ∷ xs) ys ps qs =
    ap (λ b. alike ps qs x.0 && b) (keys-append xs ys ps qs) ∙ and_assoc (alike ps qs x.0) (same_keys xs ps qs) (same_keys ys ps qs)

alike_on : (t : Bool) (k : List ℕ × Value) (ks ps qs : Map) (key : List ℕ) → bytes_eq k.0 key ≡ t
    → (has_key ks key ≡ true → alike ps qs key ≡ true) → alike ps qs k.0 ≡ true → (t || has_key ks key) ≡ true → alike ps qs key ≡ true
alike_on true k ks ps qs key e f h w = subst (λ (x : List ℕ). alike ps qs x ≡ true) (same_bytes k.0 key e) h
alike_on false k ks ps qs key e f h w = f w

-- keys that were compared
pub known_alike : (ks ps qs : Map) (key : List ℕ) → same_keys ks ps qs ≡ true → has_key ks key ≡ true → alike ps qs key ≡ true
known_alike [] ps qs key h w = absurd cc
known_alike (k ∷ ks) ps qs key h w =
    alike_on (bytes_eq k.0 key) k ks ps qs key refl (known_alike ks ps qs key (right (alike ps qs k.0) (same_keys ks ps qs) h))
    (left (alike ps qs k.0) (same_keys ks ps qs) h) w

module _ (ps qs : Map) (i : ℕ) (p : List ℕ × Value) (within : i < length ps) (is : p ≡ get_or ps i p) where
  -- one key more is alike
  pub one_more : same_keys (take i ps) ps qs ≡ true → alike ps qs p.0 ≡ true → same_keys (take (i + 1) ps) ps qs ≡ true
  one_more h k =
      ap (λ (xs : Map). same_keys xs ps qs) (take-one ps i p within is)
      ∙ keys-append (take i ps) (p ∷ []) ps qs
      ∙ both (same_keys (take i ps) ps qs) (same_keys (p ∷ []) ps qs) h (both (alike ps qs p.0) true k refl)

  -- a key differs
  pub one_differs : alike ps qs p.0 ≡ false → same_keys ps ps qs ≡ false
  one_differs h =
      ap (λ (xs : Map). same_keys xs ps qs) (split_at ps i p within is)
      ∙ keys-append (take i ps) (p ∷ drop (suc i) ps) ps qs
      ∙ and_false (same_keys (take i ps) ps qs) (same_keys (p ∷ drop (suc i) ps) ps qs) (ap (λ b. b && same_keys (drop (suc i) ps) ps qs) h)

  -- a first pair with a key is what is found
  pub found_first : has_key (take i ps) p.0 ≡ false → alike ps qs p.0 ≡ same_answer (Some p.1) (get qs p.0)
  found_first h = ap (λ (v : Option Value). same_answer v (get qs p.0)) (get-first ps i p within is h)

within_on : (t : Bool) (ps qs : Map) (key : List ℕ) → has_key ps key ≡ t → has_key qs key ≡ true → same_keys ps ps qs ≡ true → alike ps qs key ≡ t
within_on true ps qs key e h same_here = known_alike ps ps qs key same_here e
within_on false ps qs key e h same_here =
    let there = get-there qs key h in
    ap (λ (v : Option Value). same_answer v (get qs key)) (get-missing ps key e) ∙ ap (same_answer None) there.1

within_keys : (ks ps qs : Map) → same_keys ps ps qs ≡ true → ((key : List ℕ) → has_key ks key ≡ true → has_key qs key ≡ true)
    → same_keys ks ps qs ≡ keys_within ks ps
within_keys [] ps qs h f = refl
within_keys (k ∷ ks) ps qs h f =
    let here : has_key (k ∷ ks) k.0 ≡ true = ap (λ b. b || has_key ks k.0) (bytes_self k.0) in
    ap (λ b. b && same_keys ks ps qs) (within_on (has_key ps k.0) ps qs k.0 refl (f k.0 here) h)
    ∙ ap (λ b. has_key ps k.0 && b) (within_keys ks ps qs h (λ key w. f key (or_true (bytes_eq k.0 key) (has_key ks key) w)))

-- once all keys of one map are alike, the other needs to have no further key
pub same_pairs-within : (ps qs : Map) → same_keys ps ps qs ≡ true → same_pairs ps qs ≡ keys_within qs ps
same_pairs-within ps qs h = ap (λ b. b && same_keys qs ps qs) h ∙ within_keys qs ps qs h (λ key w. w)
