-- Where the group of a key stands, and the index that tells it.
use Rattle.std.proofs.Common.{◌≡◌, ◌∙◌, inl, inr, Result, Ok, Err, ℕ, zero, suc, ◌<◌, ◌%◌, nat_eq, Bool, true, false, cond, List, [], ◌∷◌, ◌++◌, length, refl, sym, ap, subst, arith}
use Rattle.std.specs.Prelude.{◌⊎◌, Option, Some, None, IfOk, MatchOption, slice_get, slice_set}
use Rattle.std.proofs.lemmas.Option.{slice_get_within}
use Rattle.std.proofs.lemmas.Bool.{eq-eqb}
use Rattle.std.proofs.lemmas.Bool.Decides.{nat_tests}
use Rattle.groupby_proc.specs.Gathering.{AreApart, IsEquivalence, SharesCodes, with_item}
use Rattle.groupby_proc.specs.Indexing.{IsAmong, IsIndexed, candidates, codes_of, found, is_under, or_none, with_place}
use Rattle.groupby_proc.proofs.Gathered.{put_there, put_behind}

both_ways : {A : Type 0} (t : Bool) → t ≡ true → t ≡ false → A
both_ways true p q = absurd cc
both_ways false p q = absurd cc

some_same : {A : Type 0} (x y : A) → Some x ≡ Some y → x ≡ y
some_same x y e = cc

-- one of two, or behind them
among_left : (xs ys : List ℕ) (x : ℕ) → IsAmong xs x → IsAmong (xs ++ ys) x
among_left [] ys x h = absurd h
among_left (y ∷ xs) ys x h = elim h [ inl e ↦ inl e | inr k ↦ inr (among_left xs ys x k) ]

among_last : (xs : List ℕ) (x : ℕ) → IsAmong (xs ++ x ∷ []) x
among_last [] x = inl refl
among_last (y ∷ xs) x = inr (among_last xs x)

get_set : {X : Type 0} (xs : List X) (i : ℕ) (x : X) → i < length xs → slice_get (slice_set xs i x) i ≡ Some x
get_set [] i x h = absurd (omega (arith, h))
get_set (y ∷ xs) zero x h = refl
get_set (y ∷ xs) (suc i) x h = get_set xs i x (omega (arith, h))

get_other : {X : Type 0} (xs : List X) (i j : ℕ) (x : X) → (i ≡ j → ⊥) → slice_get (slice_set xs i x) j ≡ slice_get xs j
get_other [] i j x h = refl
get_other (y ∷ xs) zero zero x h = absurd (h refl)
get_other (y ∷ xs) zero (suc j) x h = refl
get_other (y ∷ xs) (suc i) zero x h = refl
get_other (y ∷ xs) (suc i) (suc j) x h = get_other xs i j x (λ e. h (ap suc e))

pub set_twice : {X : Type 0} (xs : List X) (i : ℕ) (x y : X) → slice_set (slice_set xs i x) i y ≡ slice_set xs i y
set_twice [] i x y = refl
set_twice (z ∷ xs) zero x y = refl
set_twice (z ∷ xs) (suc i) x y = ap (λ zs. z ∷ zs) (set_twice xs i x y)

length_set : {X : Type 0} (xs : List X) (i : ℕ) (x : X) → length (slice_set xs i x) ≡ length xs
length_set [] i x = refl
length_set (y ∷ xs) zero x = refl
length_set (y ∷ xs) (suc i) x = ap suc (length_set xs i x)

-- Buckets.

grown_on : (buckets : List (List ℕ)) (b : ℕ) (xs : List ℕ) (place : ℕ) → b < length buckets
    → or_none (slice_get (slice_set buckets b xs) b) ≡ xs
grown_on buckets b xs place h = ap or_none (get_set buckets b xs h)

-- a place more leaves the candidates there
stay : (t : Bool) (buckets : List (List ℕ)) (b d : ℕ) (place x : ℕ) → nat_eq b d ≡ t → b < length buckets
    → IsAmong (or_none (slice_get buckets d)) x
    → IsAmong (or_none (slice_get (slice_set buckets b (or_none (slice_get buckets b) ++ place ∷ [])) d)) x
stay true buckets b d place x e h among =
    let is : b ≡ d = grind (arith, nat_tests) in
    subst (λ (k : ℕ). IsAmong (or_none (slice_get (slice_set buckets b (or_none (slice_get buckets b) ++ place ∷ [])) k)) x) is
    (subst (λ (xs : List ℕ). IsAmong xs x) (sym (grown_on buckets b (or_none (slice_get buckets b) ++ place ∷ []) place h))
    (among_left (or_none (slice_get buckets b)) (place ∷ []) x (subst (λ (k : ℕ). IsAmong (or_none (slice_get buckets k)) x) (sym is) among)))
stay false buckets b d place x e h among =
    let isnt : b ≡ d → ⊥ = λ is. both_ways (nat_eq b d) (eq-eqb b d is) e in
    subst (λ (found : Option (List ℕ)). IsAmong (or_none found) x)
    (sym (get_other buckets b d (or_none (slice_get buckets b) ++ place ∷ []) isnt)) among

get_last : (t : Bool) (codes : List ℕ) (c at d : ℕ) → slice_get (codes ++ c ∷ []) at ≡ Some d
    → (slice_get codes at ≡ Some d) ⊎ ((at ≡ length codes) × (c ≡ d))
get_last t [] c zero d h = inr (refl, some_same c d h)
get_last t [] c (suc at) d h = absurd cc
get_last t (b ∷ codes) c zero d h = inl h
get_last t (b ∷ codes) c (suc at) d h =
    elim (get_last t codes c at d h) [ inl there ↦ inl there | inr last ↦ inr (ap suc last.0, last.1) ]

within : (n m : ℕ) → 0 < m → n % m < m
within n m h = omega (arith, h)

-- one thing more is indexed
pub indexed_more : (codes : List ℕ) (buckets : List (List ℕ)) (c : ℕ) → 0 < length buckets → IsIndexed codes buckets
    → IsIndexed (codes ++ c ∷ []) (with_place buckets c (length codes))
indexed_more codes buckets c some all at d here =
    let b : ℕ = c % length buckets in
    let inside : b < length buckets = within c (length buckets) some in
    let same_length : length (with_place buckets c (length codes)) ≡ length buckets = length_set buckets b _ in
    subst (λ (n : ℕ). IsAmong (or_none (slice_get (with_place buckets c (length codes)) (d % n))) at) (sym same_length)
    (elim (get_last true codes c at d here) [
      | inl there ↦ stay (nat_eq b (d % length buckets)) buckets b (d % length buckets) (length codes) at refl inside (all at d there)
      | inr last ↦
          subst (λ (k : ℕ). IsAmong (or_none (slice_get (with_place buckets c (length codes)) (k % length buckets))) at) last.1
          (subst (λ (xs : List ℕ). IsAmong xs at) (sym (grown_on buckets b _ (length codes) inside))
          (subst (λ (x : ℕ). IsAmong (candidates buckets c ++ length codes ∷ []) x) (sym last.0) (among_last (candidates buckets c) (length codes))))
    ])

-- Groups.

module _ {K X : Type 0} (same : K → K → Bool) where
  there_on : (group : Option (K × List X)) (key : K) → is_under same key group ≡ true
      → (g : K × List X) × (group ≡ Some g) × (same g.0 key ≡ true)
  there_on None key e = absurd cc
  there_on (Some g) key e = (g, refl, e)

  found_on : (t : Bool) (gs : List (K × List X)) (key : K) (place at : ℕ) (places : List ℕ) → is_under same key (slice_get gs place) ≡ t
      → (found same gs key places ≡ Some at → is_under same key (slice_get gs at) ≡ true)
      → cond t (Some place) (found same gs key places) ≡ Some at → is_under same key (slice_get gs at) ≡ true
  found_on true gs key place at places e inv h = subst (λ (n : ℕ). is_under same key (slice_get gs n) ≡ true) (some_same place at h) e
  found_on false gs key place at places e inv h = inv h

  found_there : (gs : List (K × List X)) (key : K) (at : ℕ) (places : List ℕ) → found same gs key places ≡ Some at
      → is_under same key (slice_get gs at) ≡ true
  found_there gs key at [] h = absurd cc
  found_there gs key at (place ∷ places) h =
      found_on (is_under same key (slice_get gs place)) gs key place at places refl (found_there gs key at places) h

  none_on : (t : Bool) (gs : List (K × List X)) (key : K) (place : ℕ) (places : List ℕ) → cond t (Some place) (found same gs key places) ≡ None
      → (t ≡ false) × (found same gs key places ≡ None)
  none_on true gs key place places h = absurd cc
  none_on false gs key place places h = (refl, h)

  found_none : (gs : List (K × List X)) (key : K) (at : ℕ) (places : List ℕ) → found same gs key places ≡ None → IsAmong places at
      → is_under same key (slice_get gs at) ≡ false
  found_none gs key at [] h among = absurd among
  found_none gs key at (place ∷ places) h among =
      let parts = none_on (is_under same key (slice_get gs place)) gs key place places h in
      elim among [
        | inl is ↦ subst (λ (n : ℕ). is_under same key (slice_get gs n) ≡ false) is parts.0
        | inr later ↦ found_none gs key at places parts.1 later
      ]

  code_at : (code : K → ℕ) (gs : List (K × List X)) (i : ℕ) (g : K × List X) → slice_get gs i ≡ Some g
      → slice_get (codes_of code gs) i ≡ Some (code g.0)
  code_at code [] i g h = absurd cc
  code_at code (f ∷ gs) zero g h = ap (λ (x : K × List X). Some (code x.0)) (some_same f g h)
  code_at code (f ∷ gs) (suc i) g h = code_at code gs i g h

  isnt_on : (t : Bool) (code : K → ℕ) (gs : List (K × List X)) (buckets : List (List ℕ)) (key : K) (i : ℕ) (g : K × List X)
      → same g.0 key ≡ t → SharesCodes same code → IsIndexed (codes_of code gs) buckets
      → found same gs key (candidates buckets (code key)) ≡ None → slice_get gs i ≡ Some g → t ≡ false
  isnt_on true code gs buckets key i g e shares all none at =
      let among : IsAmong (candidates buckets (code key)) i = all i (code key) (code_at code gs i g at ∙ ap (λ (n : ℕ). Some n) (shares g.0 key e)) in
      both_ways (same g.0 key) e
      (sym (ap (is_under same key) at) ∙ found_none gs key i (candidates buckets (code key)) none among)
  isnt_on false code gs buckets key i g e shares all none at = refl

  -- a group that isn't among the candidates isn't there
  pub isnt_there : (code : K → ℕ) (gs : List (K × List X)) (buckets : List (List ℕ)) (key : K) → SharesCodes same code
      → IsIndexed (codes_of code gs) buckets → found same gs key (candidates buckets (code key)) ≡ None
      → (i : ℕ) (g : K × List X) → slice_get gs i ≡ Some g → same g.0 key ≡ false
  isnt_there code gs buckets key shares all none i g at =
      isnt_on (same g.0 key) code gs buckets key i g refl shares all none at

  -- a place that was found is one of a group
  pub found_within : (gs : List (K × List X)) (key : K) (at : ℕ) (places : List ℕ) → found same gs key places ≡ Some at → at < length gs
  found_within gs key at places h =
      let there = there_on (slice_get gs at) key (found_there gs key at places h) in
      slice_get_within gs at there.0 there.1

  -- what was put where a group was found
  abbrev PutAt : List (K × List X) → ℕ → X → List (K × List X) → Type 0
  PutAt gs at item new = MatchOption (slice_get gs at) ⊥ (λ g. new ≡ slice_set gs at (g.0, g.1 ++ item ∷ []))

  pub put_found : IsEquivalence same → (gs new : List (K × List X)) (key : K) (item : X) (at : ℕ) (places : List ℕ) → AreApart same gs
      → found same gs key places ≡ Some at → PutAt gs at item new → new ≡ with_item same (key, item) gs
  put_found law gs new key item at places all h put =
      let there = there_on (slice_get gs at) key (found_there gs key at places h) in
      let is : new ≡ slice_set gs at (there.0.0, there.0.1 ++ item ∷ []) =
      subst (λ (group : Option (K × List X)). MatchOption group ⊥ (λ g. new ≡ slice_set gs at (g.0, g.1 ++ item ∷ []))) there.1 put in
      is ∙ sym (put_there same law gs at there.0 (key, item) all there.1 there.2)

  codes_set : (code : K → ℕ) (gs : List (K × List X)) (i : ℕ) (g : K × List X) (items : List X) → slice_get gs i ≡ Some g
      → codes_of code (slice_set gs i (g.0, items)) ≡ codes_of code gs
  codes_set code [] i g items h = refl
  codes_set code (f ∷ gs) zero g items h = ap (λ (x : K × List X). code x.0 ∷ codes_of code gs) (sym (some_same f g h))
  codes_set code (f ∷ gs) (suc i) g items h = ap (λ cs. code f.0 ∷ cs) (codes_set code gs i g items h)

  pub codes_found : (code : K → ℕ) (gs new : List (K × List X)) (key : K) (item : X) (at : ℕ) (places : List ℕ)
      → found same gs key places ≡ Some at → PutAt gs at item new → codes_of code new ≡ codes_of code gs
  codes_found code gs new key item at places h put =
      let there = there_on (slice_get gs at) key (found_there gs key at places h) in
      let is : new ≡ slice_set gs at (there.0.0, there.0.1 ++ item ∷ []) =
      subst (λ (group : Option (K × List X)). MatchOption group ⊥ (λ g. new ≡ slice_set gs at (g.0, g.1 ++ item ∷ []))) there.1 put in
      ap (codes_of code) is ∙ codes_set code gs at there.0 (there.0.1 ++ item ∷ []) there.1

  pub put_new : IsEquivalence same → (code : K → ℕ) (gs new : List (K × List X)) (buckets : List (List ℕ)) (key : K) (item : X) → SharesCodes same code
      → IsIndexed (codes_of code gs) buckets → found same gs key (candidates buckets (code key)) ≡ None
      → new ≡ gs ++ (key, item ∷ []) ∷ [] → new ≡ with_item same (key, item) gs
  put_new law code gs new buckets key item shares all none is =
      is ∙ sym (put_behind same law gs (key, item) (isnt_there code gs buckets key shares all none))

  codes_more : (code : K → ℕ) (gs : List (K × List X)) (g : K × List X) → codes_of code (gs ++ g ∷ []) ≡ codes_of code gs ++ code g.0 ∷ []
  codes_more code [] g = refl
  codes_more code (f ∷ gs) g = ap (λ cs. code f.0 ∷ cs) (codes_more code gs g)

  codes_length : (code : K → ℕ) (gs : List (K × List X)) → length (codes_of code gs) ≡ length gs
  codes_length code [] = refl
  codes_length code (g ∷ gs) = ap suc (codes_length code gs)

  pub indexed_new : (code : K → ℕ) (gs new : List (K × List X)) (buckets : List (List ℕ)) (key : K) (item : X) → 0 < length buckets
      → IsIndexed (codes_of code gs) buckets → new ≡ gs ++ (key, item ∷ []) ∷ []
      → IsIndexed (codes_of code new) (with_place buckets (code key) (length gs))
  indexed_new code gs new buckets key item some all is =
      subst (λ (n : ℕ). IsIndexed (codes_of code new) (with_place buckets (code key) n)) (codes_length code gs)
      (subst (λ (cs : List ℕ). IsIndexed cs (with_place buckets (code key) (length (codes_of code gs))))
      (sym (ap (codes_of code) is ∙ codes_more code gs (key, item ∷ [])))
      (indexed_more (codes_of code gs) buckets (code key) some all))

-- an Ok that holds one fact holds another
pub if_ok : {X E : Type 0} (P Q : X → Type 0) (r : Result X E) → ((x : X) → P x → Q x) → IfOk r P → IfOk r Q
if_ok P Q (Ok x) h p = h x p
if_ok P Q (Err e) h p = p
