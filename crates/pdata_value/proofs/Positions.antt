-- Places of keys, and what putting a pair does by the place of its key.
use Rattle.std.proofs.Common.{◌≡◌, ◌∙◌, ℕ, zero, suc, ◌<◌, Bool, true, false, cond, List, [], ◌∷◌, ◌++◌, length, take, drop, get_or, ◌+◌, ◌==◌, append_assoc, subst, refl, sym, ap, arith, Option, Some, None, option_map}
use Rattle.std.specs.Prelude.{◌||◌, is_some, not, slice_get, slice_set}
use Rattle.std.proofs.lemmas.List.{length-append}
use Rattle.std.specs.BTreeMap.{BTreeMap}
use Rattle.std.specs.Str.{bytes_eq}
use Rattle.std.specs.Option.{option_eq}
use Rattle.std.proofs.lemmas.Bool.Decides.{nat_tests}
use Rattle.std.proofs.lemmas.Grind.{common_steps}
use denote.Bor.{Bor}
use Rattle.std.proofs.lemmas.Slice.Eq.{bytes_eq-Decides}
use Rattle.pdata_value.specs.Pairs.{first_of, get, has_key, is_listed, put, put_all}
use Rattle.pdata_value.specs.Places.{IsPlan, PutsAt, places_of, position}
use Rattle.pdata_value.specs.Index.{at_key, Gains, Knows, Lists}
use Rattle.pdata_value.proofs.Bools.{bytes_self, same_bytes}

no_place : (o : Option ℕ) → option_map (λ i. suc i) o ≡ None → o ≡ None
no_place None h = refl
no_place (Some i) h = absurd cc

a_place : (o : Option ℕ) (i : ℕ) → option_map (λ k. suc k) o ≡ Some i → (j : ℕ) × (o ≡ Some j) × (i ≡ suc j)
a_place None i h = absurd cc
a_place (Some j) i h = (j, refl, cc)

last_on : (t u : Bool) (n : ℕ) (o r : Option ℕ) → (t ≡ true → u ≡ true → ⊥) → r ≡ cond u (Some n) o
    → cond t (Some 0) (option_map (λ i. suc i) r) ≡ cond u (Some (suc n)) (cond t (Some 0) (option_map (λ i. suc i) o))
last_on true true n o r apart e = absurd (apart refl refl)
last_on true false n o r apart e = refl
last_on false true n o r apart e = ap (option_map (λ i. suc i)) e
last_on false false n o r apart e = ap (option_map (λ i. suc i)) e

taken_first : (t : Bool) (o : Option ℕ) → t ≡ true → cond t (Some 0) o ≡ None → ⊥
taken_first true o h e = cc
taken_first false o h e = cc

some_map : (o : Option ℕ) → is_some (option_map (λ i. suc i) o) ≡ is_some o
some_map None = refl
some_map (Some i) = refl

has_on : (t h : Bool) (o : Option ℕ) → h ≡ is_some o → (t || h) ≡ is_some (cond t (Some 0) (option_map (λ i. suc i) o))
has_on true h o e = refl
has_on false h o e = e ∙ sym (some_map o)

add_behind : (t : Bool) (o : Option ℕ) (n : ℕ)
    → option_map (λ i. suc i) (first_of o (cond t (Some n) None)) ≡ first_of (option_map (λ i. suc i) o) (cond t (Some (suc n)) None)
add_behind true None n = refl
add_behind true (Some i) n = refl
add_behind false None n = refl
add_behind false (Some i) n = refl

add_on : (s t : Bool) (o r : Option ℕ) (n : ℕ) → r ≡ first_of o (cond t (Some n) None)
    → cond s (Some 0) (option_map (λ i. suc i) r) ≡ first_of (cond s (Some 0) (option_map (λ i. suc i) o)) (cond t (Some (suc n)) None)
add_on true t o r n e = refl
add_on false t o r n e = ap (option_map (λ i. suc i)) e ∙ add_behind t o n

kept_more : (t : Bool) (o : Option ℕ) (n j : ℕ) → (t ≡ true → o ≡ Some j) → o ≡ first_of o (cond t (Some n) None)
kept_more true o n j some = some refl ∙ sym (ap (λ (r : Option ℕ). first_of r (Some n)) (some refl))
kept_more false None n j some = refl
kept_more false (Some i) n j some = refl

new_more : (t : Bool) (o : Option ℕ) (n : ℕ) → (t ≡ true → o ≡ None) → cond t (Some n) o ≡ first_of o (cond t (Some n) None)
new_more true o n none = sym (ap (λ (r : Option ℕ). first_of r (Some n)) (none refl))
new_more false None n none = refl
new_more false (Some i) n none = refl

first_on : (t h : Bool) (o : Option ℕ) (i : ℕ) → (o ≡ Some i → h ≡ false) → cond t (Some 0) (option_map (λ k. suc k) o) ≡ Some (suc i)
    → (t || h) ≡ false
first_on true h o i rest at = absurd cc
first_on false h o i rest at =
    let found = a_place o (suc i) at in
    let is : found.0 ≡ i = omega (arith, found.2) in rest (found.1 ∙ ap (λ (k : ℕ). Some k) is)

later_on : (t h : Bool) (o : Option ℕ) (i : ℕ) → (h ≡ false → o ≡ Some i) → (t || h) ≡ false
    → cond t (Some 0) (option_map (λ k. suc k) o) ≡ Some (suc i)
later_on true h o i rest none = absurd cc
later_on false h o i rest none = ap (option_map (λ k. suc k)) (rest none)

here_on : (t : Bool) (o : Option ℕ) → t ≡ true → cond t (Some 0) o ≡ Some 0
here_on true o e = refl
here_on false o e = absurd cc

-- whether a key is listed among one more
listed-more : (keys : List (List ℕ)) (key q : List ℕ) → is_listed (keys ++ key ∷ []) q ≡ (bytes_eq key q || is_listed keys q)
listed-more [] key q = refl
listed-more (k ∷ keys) key q =
    ap (λ (b : Bool). bytes_eq k q || b) (listed-more keys key q) ∙ swapped (bytes_eq k q) (bytes_eq key q) (is_listed keys q)
  where
    swapped : (s t u : Bool) → (s || (t || u)) ≡ (t || (s || u))
    swapped true true u = refl
    swapped true false u = refl
    swapped false t u = refl

some_or : {W : Type 0} (t : Bool) (w : W) (o : Option W) (b : Bool) → is_some o ≡ b → is_some (cond t (Some w) o) ≡ (t || b)
some_or true w o b e = refl
some_or false w o b e = e

-- the index has the keys that are listed where a key is added to both
pub lists-more : {W : Type 0} (old new : BTreeMap (Bor (List ℕ)) W) (keys : List (List ℕ)) (key : List ℕ) (w : W) → Lists old keys
    → Gains old key w new → Lists new (keys ++ key ∷ [])
lists-more {W} old new keys key w lists gains = λ q.
    ap (λ (o : Option W). is_some o) (gains q) ∙ some_or (bytes_eq key q) w (at_key old q) (is_listed keys q) (lists q)
    ∙ sym (listed-more keys key q)

module _ {V : Type 0} where
  none_behind : (t : Bool) (ps : List (List ℕ × V)) (key : List ℕ) → cond t (Some 0) (option_map (λ i. suc i) (position ps key)) ≡ None
      → position ps key ≡ None
  none_behind true ps key h = absurd cc
  none_behind false ps key h = no_place (position ps key) h

  absent_on : (t : Bool) (p : List ℕ × V) (ps : List (List ℕ × V)) (key : List ℕ) (v : V)
      → cond t (Some 0) (option_map (λ i. suc i) (position ps key)) ≡ None
      → (position ps key ≡ None → put ps key v ≡ ps ++ (key, v) ∷ []) → cond t ((p.0, v) ∷ ps) (p ∷ put ps key v) ≡ p ∷ (ps ++ (key, v) ∷ [])
  absent_on true p ps key v none rest = absurd cc
  absent_on false p ps key v none rest = ap (λ (qs : List (List ℕ × V)). p ∷ qs) (rest (no_place (position ps key) none))

  -- a key that has no place is added
  pub put-absent : (ps : List (List ℕ × V)) (key : List ℕ) (v : V) → position ps key ≡ None → put ps key v ≡ ps ++ (key, v) ∷ []
  put-absent [] key v none = refl
  put-absent (p ∷ ps) key v none = absent_on (bytes_eq p.0 key) p ps key v none (put-absent ps key v)

  present_on : (t : Bool) (q p : List ℕ × V) (ps : List (List ℕ × V)) (key : List ℕ) (v : V) (i : ℕ)
      → cond t (Some 0) (option_map (λ k. suc k) (position ps key)) ≡ Some i → slice_get (q ∷ ps) i ≡ Some p
      → ((j : ℕ) → position ps key ≡ Some j → slice_get ps j ≡ Some p → put ps key v ≡ slice_set ps j (p.0, v))
      → cond t ((q.0, v) ∷ ps) (q ∷ put ps key v) ≡ slice_set (q ∷ ps) i (p.0, v)
  present_on true q p ps key v zero at got rest = ap (λ (k : List ℕ). (k, v) ∷ ps) (let e : q ≡ p = cc in ap (λ (r : List ℕ × V). r.0) e)
  present_on true q p ps key v (suc i) at got rest = absurd cc
  present_on false q p ps key v zero at got rest = let (j, _, e) = a_place (position ps key) zero at in absurd (omega arith)
  present_on false q p ps key v (suc i) at got rest =
      let found = a_place (position ps key) (suc i) at in
      let is : found.0 ≡ i = omega (arith, found.2) in
      ap (λ (qs : List (List ℕ × V)). q ∷ qs) (rest i (found.1 ∙ ap (λ (k : ℕ). Some k) is) got)

  -- a key that has a place gets its new value there
  pub put-present : (ps : List (List ℕ × V)) (key : List ℕ) (v : V) (i : ℕ) (p : List ℕ × V) → position ps key ≡ Some i
      → slice_get ps i ≡ Some p → put ps key v ≡ slice_set ps i (p.0, v)
  put-present [] key v i p at got = absurd cc
  put-present (q ∷ ps) key v i p at got =
      present_on (bytes_eq q.0 key) q p ps key v i at got (λ j at_j got_j. put-present ps key v j p at_j got_j)

  within_on : (t : Bool) (ps : List (List ℕ × V)) (key : List ℕ) (i : ℕ) → cond t (Some 0) (option_map (λ k. suc k) (position ps key)) ≡ Some i
      → ((j : ℕ) → position ps key ≡ Some j → j < length ps) → i < suc (length ps)
  within_on true ps key i at rest = let e : 0 ≡ i = cc in omega arith
  within_on false ps key i at rest =
      let found = a_place (position ps key) i at in
      let below : found.0 < length ps = rest found.0 found.1 in omega (arith, found.2)

  pub position-within : (ps : List (List ℕ × V)) (key : List ℕ) (i : ℕ) → position ps key ≡ Some i → i < length ps
  position-within [] key i at = absurd cc
  position-within (p ∷ ps) key i at = within_on (bytes_eq p.0 key) ps key i at (position-within ps key)

  first_twice : (p : List ℕ × V) (ps : List (List ℕ × V)) (key q : List ℕ) → bytes_eq p.0 q ≡ true → bytes_eq key q ≡ true
      → position (p ∷ ps) key ≡ None → ⊥
  first_twice p ps key q this that none =
      let same : bytes_eq p.0 key ≡ true = grind (arith, bytes_eq-Decides) in
      taken_first (bytes_eq p.0 key) (option_map (λ i. suc i) (position ps key)) same none

  -- the place of a pair that is added at the end
  pub position-append : (ps : List (List ℕ × V)) (key : List ℕ) (v : V) → position ps key ≡ None → (q : List ℕ)
      → position (ps ++ (key, v) ∷ []) q ≡ cond (bytes_eq key q) (Some (length ps)) (position ps q)
  position-append [] key v none q = refl
  position-append (p ∷ ps) key v none q =
      last_on (bytes_eq p.0 q) (bytes_eq key q) (length ps) (position ps q) (position (ps ++ (key, v) ∷ []) q)
      (λ this that. first_twice p ps key q this that none) (position-append ps key v (none_behind (bytes_eq p.0 key) ps key none) q)

  kept_on : (t : Bool) (p : List ℕ × V) (ps : List (List ℕ × V)) (key : List ℕ) (v : V) (i : ℕ) (q : List ℕ)
      → cond t (Some 0) (option_map (λ k. suc k) (position ps key)) ≡ Some i
      → ((j : ℕ) → position ps key ≡ Some j → position (put ps key v) q ≡ position ps q)
      → position (cond t ((p.0, v) ∷ ps) (p ∷ put ps key v)) q ≡ position (p ∷ ps) q
  kept_on true p ps key v i q at rest = refl
  kept_on false p ps key v i q at rest =
      let found = a_place (position ps key) i at in
      ap (λ (o : Option ℕ). cond (bytes_eq p.0 q) (Some 0) (option_map (λ k. suc k) o)) (rest found.0 found.1)

  -- a new value under a key that has a place changes no place
  pub position-put : (ps : List (List ℕ × V)) (key : List ℕ) (v : V) (i : ℕ) → position ps key ≡ Some i → (q : List ℕ)
      → position (put ps key v) q ≡ position ps q
  position-put [] key v i at q = absurd cc
  position-put (p ∷ ps) key v i at q =
      kept_on (bytes_eq p.0 key) p ps key v i q at (λ j at_j. position-put ps key v j at_j q)

  get_none_on : (t : Bool) (v : V) (o : Option ℕ) (found : Option V) → cond t (Some 0) (option_map (λ k. suc k) o) ≡ None
      → (o ≡ None → found ≡ None) → cond t (Some v) found ≡ None
  get_none_on true v o found at rest = absurd cc
  get_none_on false v o found at rest = rest (no_place o at)

  -- a key without a place has no value
  get-absent : (ps : List (List ℕ × V)) (key : List ℕ) → position ps key ≡ None → get ps key ≡ None
  get-absent [] key at = refl
  get-absent (q ∷ ps) key at = get_none_on (bytes_eq q.0 key) q.1 (position ps key) (get ps key) at (get-absent ps key)

  get_some_on : (t : Bool) (q p : List ℕ × V) (ps : List (List ℕ × V)) (o : Option ℕ) (found : Option V) (i : ℕ)
      → cond t (Some 0) (option_map (λ k. suc k) o) ≡ Some i → slice_get (q ∷ ps) i ≡ Some p
      → ((j : ℕ) → o ≡ Some j → slice_get ps j ≡ Some p → found ≡ Some p.1) → cond t (Some q.1) found ≡ Some p.1
  get_some_on true q p ps o found zero at got rest = let same : q ≡ p = cc in ap (λ (r : List ℕ × V). Some r.1) same
  get_some_on true q p ps o found (suc i) at got rest = absurd cc
  get_some_on false q p ps o found zero at got rest = let place = a_place o zero at in absurd (omega (arith, place.2))
  get_some_on false q p ps o found (suc i) at got rest =
      let place = a_place o (suc i) at in
      let is : place.0 ≡ i = omega (arith, place.2) in
      rest i (place.1 ∙ ap (λ (k : ℕ). Some k) is) got

  -- a key that has a place has the value there
  get-present : (ps : List (List ℕ × V)) (key : List ℕ) (i : ℕ) (p : List ℕ × V) → position ps key ≡ Some i
      → slice_get ps i ≡ Some p → get ps key ≡ Some p.1
  get-present [] key i p at got = absurd cc
  get-present (q ∷ ps) key i p at got =
      get_some_on (bytes_eq q.0 key) q p ps (position ps key) (get ps key) i at got (λ j at_j got_j. get-present ps key j p at_j got_j)

  -- what a place says of finding and putting
  pub puts_at : (ps : List (List ℕ × V)) (key : List ℕ) (o : Option ℕ) → position ps key ≡ o → PutsAt ps key o
  puts_at ps key None at = (get-absent ps key at, λ v. put-absent ps key v at)
  puts_at ps key (Some i) at =
      (position-within ps key i at, λ p got. (get-present ps key i p at got, λ v. put-present ps key v i p at got))

  -- the index stays right where a key gets a new value, and where a key is added
  pub knows-put : (index : BTreeMap (Bor (List ℕ)) ℕ) (ps : List (List ℕ × V)) (key : List ℕ) (v : V) (i : ℕ) → Knows index ps
      → position ps key ≡ Some i → Knows index (put ps key v)
  knows-put index ps key v i knows at = λ q. knows q ∙ sym (position-put ps key v i at q)

  pub knows-more : (old new : BTreeMap (Bor (List ℕ)) ℕ) (ps : List (List ℕ × V)) (key : List ℕ) (v : V) (n : ℕ) → Knows old ps
      → position ps key ≡ None → n ≡ length ps
      → Gains old key n new
      → Knows new (put ps key v)
  knows-more old new ps key v n knows none is grown = λ q.
      grown q ∙ ap (λ (k : ℕ). cond (bytes_eq key q) (Some k) (at_key old q)) is
      ∙ ap (cond (bytes_eq key q) (Some (length ps))) (knows q)
      ∙ sym (ap (λ (qs : List (List ℕ × V)). position qs q) (put-absent ps key v none) ∙ position-append ps key v none q)

  -- a pair has the key where the key has a place
  pub has_key-position : (ps : List (List ℕ × V)) (key : List ℕ) → has_key ps key ≡ is_some (position ps key)
  has_key-position [] key = refl
  has_key-position (p ∷ ps) key = has_on (bytes_eq p.0 key) (has_key ps key) (position ps key) (has_key-position ps key)

  -- the places in a list with one more pair
  position-more : (ps : List (List ℕ × V)) (p : List ℕ × V) (q : List ℕ)
      → position (ps ++ p ∷ []) q ≡ first_of (position ps q) (cond (bytes_eq p.0 q) (Some (length ps)) None)
  position-more [] p q = refl
  position-more (r ∷ ps) p q =
      add_on (bytes_eq r.0 q) (bytes_eq p.0 q) (position ps q) (position (ps ++ p ∷ []) q) (length ps) (position-more ps p q)

  -- the index stays right where a pair comes behind one with its key
  pub knows-again : (index : BTreeMap (Bor (List ℕ)) ℕ) (ps : List (List ℕ × V)) (p : List ℕ × V) (j : ℕ) → Knows index ps
      → position ps p.0 ≡ Some j → Knows index (ps ++ p ∷ [])
  knows-again index ps p j knows at = λ q.
      knows q
      ∙ kept_more (bytes_eq p.0 q) (position ps q) (length ps) j (λ same. ap (position ps) (sym (same_bytes p.0 q same)) ∙ at)
      ∙ sym (position-more ps p q)

  -- and where a pair with a new key comes, whose place is put into the index
  pub knows-new : (old new : BTreeMap (Bor (List ℕ)) ℕ) (ps : List (List ℕ × V)) (p : List ℕ × V) (n : ℕ) → Knows old ps
      → position ps p.0 ≡ None → n ≡ length ps
      → Gains old p.0 n new
      → Knows new (ps ++ p ∷ [])
  knows-new old new ps p n knows none is grown = λ q.
      grown q ∙ ap (λ (k : ℕ). cond (bytes_eq p.0 q) (Some k) (at_key old q)) is
      ∙ ap (cond (bytes_eq p.0 q) (Some (length ps))) (knows q)
      ∙ new_more (bytes_eq p.0 q) (position ps q) (length ps) (λ same. ap (position ps) (sym (same_bytes p.0 q same)) ∙ none)
      ∙ sym (position-more ps p q)

  -- no pair before the place of a key has the key
  pub place-first : (ps : List (List ℕ × V)) (key : List ℕ) (i : ℕ) → position ps key ≡ Some i → has_key (take i ps) key ≡ false
  place-first ps key zero at = refl
  place-first [] key (suc i) at = refl
  place-first (p ∷ ps) key (suc i) at =
      first_on (bytes_eq p.0 key) (has_key (take i ps) key) (position ps key) i (λ at_i. place-first ps key i at_i) at

  -- the place of a key that no pair before has
  pub first-place : (ps : List (List ℕ × V)) (i : ℕ) (p : List ℕ × V) → slice_get ps i ≡ Some p → has_key (take i ps) p.0 ≡ false
      → position ps p.0 ≡ Some i
  first-place [] i p got none = absurd cc
  first-place (r ∷ ps) zero p got none =
      let same : r ≡ p = cc in
      here_on (bytes_eq r.0 p.0) (option_map (λ k. suc k) (position ps p.0)) (ap (λ (x : List ℕ × V). bytes_eq x.0 p.0) same ∙ bytes_self p.0)
  first-place (r ∷ ps) (suc i) p got none =
      later_on (bytes_eq r.0 p.0) (has_key (take i ps) p.0) (position ps p.0) i (λ none_i. first-place ps i p got none_i) none

  -- the first place of a plan is where the first pair is put
  pub plan-first : (o : Option ℕ) (os : List (Option ℕ)) (ps : List (List ℕ × V)) (q : List ℕ × V) (qs : List (List ℕ × V))
      → IsPlan (o ∷ os) ps (q ∷ qs) → PutsAt ps q.0 o
  plan-first o os ps q qs plan =
      let e = plan.1 in
      let same : position ps q.0 ≡ o = cc in puts_at ps q.0 o same

  -- and the others are a plan for what follows
  pub plan-rest : (o : Option ℕ) (os : List (Option ℕ)) (ps : List (List ℕ × V)) (q : List ℕ × V) (qs : List (List ℕ × V))
      → IsPlan (o ∷ os) ps (q ∷ qs) → IsPlan os (put ps q.0 q.1) qs
  plan-rest o os ps q qs plan =
      let e = plan.1 in
      (plan.0, cc)

  here_at : (xs : List (List ℕ × V)) (i : ℕ) (d : List ℕ × V) → i < length xs → slice_get xs i ≡ Some (get_or xs i d)
  here_at [] i d within = absurd (omega (arith, within))
  here_at (x ∷ xs) zero d within = refl
  here_at (x ∷ xs) (suc i) d within = here_at xs i d (omega (arith, within))

  -- what an index of a list has
  pub there : (xs : List (List ℕ × V)) (i : ℕ) (p : List ℕ × V) → i < length xs → p ≡ get_or xs i p → slice_get xs i ≡ Some p
  there xs i p within is = here_at xs i p within ∙ ap (λ (q : List ℕ × V). Some q) (sym is)

  pub that : (xs : List (List ℕ × V)) (i : ℕ) (p q : List ℕ × V) → i < length xs → p ≡ get_or xs i p → slice_get xs i ≡ Some q → p ≡ q
  that xs i p q within is got = let both : Some p ≡ Some q = sym (there xs i p within is) ∙ got in cc

  not_first : (h : Bool) (ps : List (List ℕ × V)) (i : ℕ) (p : List ℕ × V) → has_key (take i ps) p.0 ≡ h → slice_get ps i ≡ Some p
      → position ps p.0 ≡ None → false ≡ not h
  not_first true ps i p e got at = refl
  not_first false ps i p e got at = let here = first-place ps i p got e in absurd cc

  -- a key without a place stands nowhere, and so not at its pair's place
  pub first-none : (ps : List (List ℕ × V)) (i : ℕ) (p : List ℕ × V) → slice_get ps i ≡ Some p → position ps p.0 ≡ None
      → false ≡ not (has_key (take i ps) p.0)
  first-none ps i p got at = not_first (has_key (take i ps) p.0) ps i p refl got at

  is_first_on : (h : Bool) (ps : List (List ℕ × V)) (i j : ℕ) (p : List ℕ × V) → has_key (take i ps) p.0 ≡ h → slice_get ps i ≡ Some p
      → position ps p.0 ≡ Some j → (j == i) ≡ not h
  is_first_on true ps i j p e got at =
      let apart : j ≡ i → ⊥ = λ same. (let none = place-first ps p.0 i (at ∙ ap (λ (k : ℕ). Some k) same) in cc) in
      grind (arith, nat_tests)
  is_first_on false ps i j p e got at =
      let here = first-place ps i p got e in
      let same : j ≡ i = cc in
      grind (arith, nat_tests)

  -- a pair stands at the place of its key exactly where none before has the key
  pub first-some : (ps : List (List ℕ × V)) (i j : ℕ) (p : List ℕ × V) → slice_get ps i ≡ Some p → position ps p.0 ≡ Some j
      → (j == i) ≡ not (has_key (take i ps) p.0)
  first-some ps i j p got at = is_first_on (has_key (take i ps) p.0) ps i j p refl got at

  -- what a list of pairs has at the places so far and at the next one
  pub put_all-more : (ps qs : List (List ℕ × V)) (q : List ℕ × V) → put_all ps (qs ++ q ∷ []) ≡ put (put_all ps qs) q.0 q.1
  put_all-more ps [] q = refl
  put_all-more ps (r ∷ qs) q = put_all-more (put ps r.0 r.1) qs q

  pub length-put : (ps : List (List ℕ × V)) (key : List ℕ) (v : V) (i : ℕ) → position ps key ≡ Some i → length (put ps key v) ≡ length ps
  length-put [] key v i at = absurd cc
  length-put (p ∷ ps) key v i at = length_on (bytes_eq p.0 key) p ps key v i at (λ j at_j. length-put ps key v j at_j)
    where
      length_on : (t : Bool) (p : List ℕ × V) (ps : List (List ℕ × V)) (key : List ℕ) (v : V) (i : ℕ)
          → cond t (Some 0) (option_map (λ k. suc k) (position ps key)) ≡ Some i
          → ((j : ℕ) → position ps key ≡ Some j → length (put ps key v) ≡ length ps)
          → length (cond t ((p.0, v) ∷ ps) (p ∷ put ps key v)) ≡ suc (length ps)
      length_on true p ps key v i at rest = refl
      length_on false p ps key v i at rest = let found = a_place (position ps key) i at in ap (λ (n : ℕ). suc n) (rest found.0 found.1)

  pub length-add : (ps : List (List ℕ × V)) (key : List ℕ) (v : V) → position ps key ≡ None → length (put ps key v) ≡ length ps + 1
  length-add ps key v none =
      ap (λ (xs : List (List ℕ × V)). length xs) (put-absent ps key v none) ∙ length-append ps ((key, v) ∷ [])

  -- whether a pair stands at the place of its key
  pub first-eq : (ps : List (List ℕ × V)) (i : ℕ) (o : Option ℕ) (p : List ℕ × V) → slice_get ps i ≡ Some p → position ps p.0 ≡ o
      → option_eq (λ (a b : ℕ). a == b) o (Some i) ≡ not (has_key (take i ps) p.0)
  first-eq ps i None p got at = first-none ps i p got at
  first-eq ps i (Some j) p got at = first-some ps i j p got at

  -- a place more in a plan
  pub plan-more : (os : List (Option ℕ)) (o : Option ℕ) (ps : List (List ℕ × V)) (q : List ℕ × V) (rest : List (List ℕ × V))
      (all : List (Option ℕ)) → position ps q.0 ≡ o → os ++ places_of ps (q ∷ rest) ≡ all
      → (os ++ o ∷ []) ++ places_of (put ps q.0 q.1) rest ≡ all
  plan-more os o ps q rest all at e =
      append_assoc os (o ∷ []) (places_of (put ps q.0 q.1) rest)
      ∙ ap (λ (x : Option ℕ). os ++ (x ∷ places_of (put ps q.0 q.1) rest)) (sym at) ∙ e

  pub plan-get : (os : List (Option ℕ)) (o : Option ℕ) (ps : List (List ℕ × V)) (q : List ℕ × V) (qs : List (List ℕ × V))
      → slice_get os 0 ≡ Some o → IsPlan os ps (q ∷ qs) → PutsAt ps q.0 o
  plan-get [] o ps q qs got plan = absurd cc
  plan-get (x ∷ os) o ps q qs got plan =
      let same : x ≡ o = cc in subst (λ (r : Option ℕ). PutsAt ps q.0 r) same (plan-first x os ps q qs plan)

  pub plan-behind : (os : List (Option ℕ)) (ps : List (List ℕ × V)) (q : List ℕ × V) (qs : List (List ℕ × V))
      → IsPlan os ps (q ∷ qs) → IsPlan (drop 1 os) (put ps q.0 q.1) qs
  plan-behind [] ps q qs plan = (places_of (put ps q.0 q.1) qs, refl)
  plan-behind (o ∷ os) ps q qs plan = plan-rest o os ps q qs plan

-- one item more of a list
pub take-next : {X : Type 0} (xs : List X) (i : ℕ) (x : X) → i < length xs → x ≡ get_or xs i x → take (i + 1) xs ≡ take i xs ++ x ∷ []
take-next xs i x within is = grind (arith, common_steps)

pub drop-next : {X : Type 0} (xs : List X) (i : ℕ) (x : X) → i < length xs → x ≡ get_or xs i x → drop i xs ≡ x ∷ drop (i + 1) xs
drop-next xs i x within is = grind (arith, common_steps)

pub length-next : {X : Type 0} (xs : List X) (i : ℕ) → i < length xs → i ≡ length (take i xs)
length-next xs i within = grind (arith, common_steps)
