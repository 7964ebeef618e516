-- Maps with the same first values have the same code.
use Rattle.std.proofs.Common.{◌≡◌, ◌∙◌, ℕ, ℤ, ◌+◌, ◌%◌, ◌^◌, Bool, true, false, cond, List, [], ◌∷◌, ◌++◌, refl, sym, ap, arith}
use Rattle.std.specs.Prelude.{◌||◌, Option, Some, None, option_map}
use Rattle.std.specs.Bool.{beq}
use Rattle.std.specs.Int.{cast_unsigned, w64}
use Rattle.std.specs.Ordering.{int_eq}
use Rattle.std.specs.Str.{bytes_eq}
use Rattle.std.proofs.Math.Nat.{mod-add-mod}
use Rattle.std.proofs.lemmas.Bool.Decides.{Decides-int_eq}
use Rattle.pdata_value.specs.Pairs.{get, has_key}
use Rattle.pdata_value.specs.Same.{same, same_answer, same_pairs}
use Rattle.pdata_value.specs.declared.value.Value.{Value}
use Rattle.pdata_value.specs.declared.value.Value.TheVariants as kind
use Rattle.pdata_value.proofs.Bools.{same_bytes, bytes_same, bytes_self}
use Rattle.pdata_value.proofs.Equivalence.{alike-all}
use Rattle.pdata_value.proofs.Induction.{by_cases}
use Rattle.pdata_value.proofs.Sames.{like-Empty, like-Text, like-Truth, like-Int, like-Double, like-Bytes, like-List, like-Map}
use Rattle.groupby_proc.specs.Codes.{layer_code, mixed, pair_code, plus, truth_code, value_code, with_bytes, with_pairs}

-- sums of codes don't depend on the order
mod_sums : (a b c n : ℕ) → ((a + b) % n + c) % n ≡ ((a + c) % n + b) % n
mod_sums a b c n =
    let e : a + b + c ≡ a + c + b = omega arith in
    mod-add-mod (a + b) n c ∙ ap (λ (x : ℕ). x % n) e ∙ sym (mod-add-mod (a + c) n b)

plus_turned : (a b c : ℕ) → plus (plus a b) c ≡ plus (plus a c) b
unfolding plus
plus_turned a b c = mod_sums a b c (2 ^ 64)

abbrev Map : Type 0
Map = List (List ℕ × Value)

-- the code of the first value under a key
abbrev looked : Map → List ℕ → Option ℕ
looked ps key = option_map value_code (get ps key)

-- the code of a key with a value's code
abbrev weight : List ℕ → ℕ → ℕ
weight key code = mixed (with_bytes code key) 1

or_false : (a : Bool) → (a || false) ≡ a
or_false true = refl
or_false false = refl

or_on : (a b c : Bool) → (a || (b || c)) ≡ ((a || b) || c)
or_on true b c = refl
or_on false b c = refl

or_turned : (a b c : Bool) → ((a || b) || c) ≡ ((a || c) || b)
or_turned true b c = refl
or_turned false true true = refl
or_turned false true false = refl
or_turned false false true = refl
or_turned false false false = refl

or_again : (a b : Bool) → a ≡ true → (a || b) ≡ true
or_again true b e = refl
or_again false b e = absurd cc

or_none : (a b : Bool) → (a || b) ≡ false → (a ≡ false) × (b ≡ false)
or_none true b e = absurd cc
or_none false b e = (refl, e)

both_ways : {A : Type 0} (t : Bool) → t ≡ true → t ≡ false → A
both_ways true p q = absurd cc
both_ways false p q = absurd cc

-- one pair more has its key
has_more : (before : Map) (p : List ℕ × Value) (key : List ℕ) → has_key (before ++ p ∷ []) key ≡ (has_key before key || bytes_eq p.0 key)
has_more [] p key = or_false (bytes_eq p.0 key)
has_more (q ∷ before) p key =
    ap (λ b. bytes_eq q.0 key || b) (has_more before p key) ∙ or_on (bytes_eq q.0 key) (has_key before key) (bytes_eq p.0 key)

-- pairs have the same keys
abbrev SameKeys : Map → Map → Type 0
SameKeys before others = (key : List ℕ) → has_key before key ≡ has_key others key

keys_more : (before others : Map) (p q : List ℕ × Value) → SameKeys before others → p.0 ≡ q.0 → SameKeys (before ++ p ∷ []) (others ++ q ∷ [])
keys_more before others p q h e key =
    has_more before p key ∙ ap (λ b. b || bytes_eq p.0 key) (h key) ∙ ap (λ (k : List ℕ). has_key others key || bytes_eq k key) e
    ∙ sym (has_more others q key)

-- of the pairs before only the keys count
before_same : (ps before others : Map) (code : ℕ) → SameKeys before others → with_pairs code before ps ≡ with_pairs code others ps
before_same [] before others code h = refl
before_same (p ∷ ps) before others code h =
    before_same ps (before ++ p ∷ []) (others ++ p ∷ []) (cond (has_key before p.0) code (plus code (pair_code p))) (keys_more before others p p h refl)
    ∙ ap (λ b. with_pairs (cond b code (plus code (pair_code p))) (others ++ p ∷ []) ps) (h p.0)

-- a pair whose key stands before doesn't count; another does
passed : (code : ℕ) (before : Map) (p : List ℕ × Value) (ps : Map) → has_key before p.0 ≡ true
    → with_pairs code before (p ∷ ps) ≡ with_pairs code (before ++ p ∷ []) ps
passed code before p ps e = ap (λ b. with_pairs (cond b code (plus code (pair_code p))) (before ++ p ∷ []) ps) e

counted : (code : ℕ) (before : Map) (p : List ℕ × Value) (ps : Map) → has_key before p.0 ≡ false
    → with_pairs code before (p ∷ ps) ≡ with_pairs (plus code (pair_code p)) (before ++ p ∷ []) ps
counted code before p ps e = ap (λ b. with_pairs (cond b code (plus code (pair_code p))) (before ++ p ∷ []) ps) e

some_same : {A : Type 0} (x y : A) → Some x ≡ Some y → x ≡ y
some_same x y e = cc

looked_first : (p : List ℕ × Value) (ps : Map) (key : List ℕ) → bytes_eq p.0 key ≡ true → looked (p ∷ ps) key ≡ Some (value_code p.1)
looked_first p ps key e = ap (λ b. option_map value_code (cond b (Some p.1) (get ps key))) e

looked_past : (p : List ℕ × Value) (ps : Map) (key : List ℕ) → bytes_eq p.0 key ≡ false → looked (p ∷ ps) key ≡ looked ps key
looked_past p ps key e = ap (λ b. option_map value_code (cond b (Some p.1) (get ps key))) e

-- bytes_eq told both ways
turned_false : (t : Bool) (a b : List ℕ) → bytes_eq b a ≡ t → bytes_eq a b ≡ false → t ≡ false
turned_false true a b e f = both_ways (bytes_eq a b) (bytes_same a b (sym (same_bytes b a e))) f
turned_false false a b e f = refl

-- two pairs before in the other order
keys_turned : (before : Map) (p q : List ℕ × Value) → SameKeys ((before ++ p ∷ []) ++ q ∷ []) ((before ++ q ∷ []) ++ p ∷ [])
keys_turned before p q key =
    has_more (before ++ p ∷ []) q key ∙ ap (λ b. b || bytes_eq q.0 key) (has_more before p key)
    ∙ or_turned (has_key before key) (bytes_eq p.0 key) (bytes_eq q.0 key)
    ∙ sym (has_more (before ++ q ∷ []) p key ∙ ap (λ b. b || bytes_eq p.0 key) (has_more before q key))

-- a key twice before
or_twice : (a b : Bool) → ((a || b) || b) ≡ (a || b)
or_twice true b = refl
or_twice false true = refl
or_twice false false = refl

keys_twice : (before : Map) (p q : List ℕ × Value) → p.0 ≡ q.0 → SameKeys (before ++ p ∷ []) ((before ++ q ∷ []) ++ p ∷ [])
keys_twice before p q e key =
    has_more before p key
    ∙ sym (has_more (before ++ q ∷ []) p key ∙ ap (λ b. b || bytes_eq p.0 key) (has_more before q key)
    ∙ ap (λ (k : List ℕ). (has_key before key || bytes_eq k key) || bytes_eq p.0 key) (sym e)
    ∙ or_twice (has_key before key) (bytes_eq p.0 key))

absent_more : (before : Map) (q : List ℕ × Value) (key : List ℕ) → has_key before key ≡ false → bytes_eq q.0 key ≡ false
    → has_key (before ++ q ∷ []) key ≡ false
absent_more before q key e f = has_more before q key ∙ ap (λ b. b || bytes_eq q.0 key) e ∙ f

there_more : (before : Map) (q : List ℕ × Value) (key : List ℕ) → has_key before key ≡ true → has_key (before ++ q ∷ []) key ≡ true
there_more before q key e = has_more before q key ∙ or_again (has_key before key) (bytes_eq q.0 key) e

or_last : (a : Bool) → (a || true) ≡ true
or_last true = refl
or_last false = refl

there_last : (before : Map) (q : List ℕ × Value) (key : List ℕ) → q.0 ≡ key → has_key (before ++ q ∷ []) key ≡ true
there_last before q key e =
    has_more before q key ∙ ap (λ b. has_key before key || b) (bytes_same q.0 key e) ∙ or_last (has_key before key)

-- The pair that is found under a key may be counted first.

abbrev First : Map → Type 0
First ps = (code : ℕ) (before : Map) (p : List ℕ × Value) → has_key before p.0 ≡ false → looked ps p.0 ≡ Some (value_code p.1)
    → with_pairs code before ps ≡ with_pairs (plus code (pair_code p)) (before ++ p ∷ []) ps

first_on : (t u : Bool) (q : List ℕ × Value) (ps : Map) (code : ℕ) (before : Map) (p : List ℕ × Value) → bytes_eq q.0 p.0 ≡ t
    → has_key before q.0 ≡ u → First ps → has_key before p.0 ≡ false → looked (q ∷ ps) p.0 ≡ Some (value_code p.1)
    → with_pairs code before (q ∷ ps) ≡ with_pairs (plus code (pair_code p)) (before ++ p ∷ []) (q ∷ ps)
first_on true u q ps code before p e f inv new at =
    let key : q.0 ≡ p.0 = same_bytes q.0 p.0 e in
    let value : value_code q.1 ≡ value_code p.1 = some_same _ _ (sym (looked_first q ps p.0 e) ∙ at) in
    let one : pair_code q ≡ pair_code p =
    ap (λ (c : ℕ). mixed (with_bytes c q.0) 1) value ∙ ap (λ (k : List ℕ). mixed (with_bytes (value_code p.1) k) 1) key in
    counted code before q ps (ap (has_key before) key ∙ new)
    ∙ before_same ps (before ++ q ∷ []) ((before ++ p ∷ []) ++ q ∷ []) (plus code (pair_code q)) (keys_twice before q p key)
    ∙ ap (λ (c : ℕ). with_pairs (plus code c) ((before ++ p ∷ []) ++ q ∷ []) ps) one
    ∙ sym (passed (plus code (pair_code p)) (before ++ p ∷ []) q ps (there_last before p q.0 (sym key)))
first_on false true q ps code before p e f inv new at =
    passed code before q ps f
    ∙ inv code (before ++ q ∷ []) p (absent_more before q p.0 new e) (sym (looked_past q ps p.0 e) ∙ at)
    ∙ before_same ps ((before ++ q ∷ []) ++ p ∷ []) ((before ++ p ∷ []) ++ q ∷ []) (plus code (pair_code p)) (keys_turned before q p)
    ∙ sym (passed (plus code (pair_code p)) (before ++ p ∷ []) q ps (there_more before p q.0 f))
first_on false false q ps code before p e f inv new at =
    counted code before q ps f
    ∙ inv (plus code (pair_code q)) (before ++ q ∷ []) p (absent_more before q p.0 new e) (sym (looked_past q ps p.0 e) ∙ at)
    ∙ ap (λ (c : ℕ). with_pairs c ((before ++ q ∷ []) ++ p ∷ []) ps) (plus_turned code (pair_code q) (pair_code p))
    ∙ before_same ps ((before ++ q ∷ []) ++ p ∷ []) ((before ++ p ∷ []) ++ q ∷ []) (plus (plus code (pair_code p)) (pair_code q)) (keys_turned before q p)
    ∙ sym (counted (plus code (pair_code p)) (before ++ p ∷ []) q ps
    (absent_more before p q.0 f (turned_false (bytes_eq p.0 q.0) q.0 p.0 refl e)))

first : (ps : Map) → First ps
first [] code before p new at = absurd cc
first (q ∷ ps) code before p new at =
    first_on (bytes_eq q.0 p.0) (has_key before q.0) q ps code before p refl refl (first ps) new at

-- Maps that answer alike have the same code.

abbrev AnswerAlike : Map → Map → Map → Type 0
AnswerAlike before ps qs = (key : List ℕ) → has_key before key ≡ false → looked ps key ≡ looked qs key

-- a pair that is passed over, or counted, leaves the answers under other keys
alike_rest : (before : Map) (p : List ℕ × Value) (ps qs : Map) → AnswerAlike before (p ∷ ps) qs → AnswerAlike (before ++ p ∷ []) ps qs
alike_rest before p ps qs h key absent =
    let parts = or_none (has_key before key) (bytes_eq p.0 key) (sym (has_more before p key) ∙ absent) in
    sym (looked_past p ps key parts.1) ∙ h key parts.0

none_on : (t : Bool) (q : List ℕ × Value) (qs : Map) (code : ℕ) (before : Map) → has_key before q.0 ≡ t
    → AnswerAlike before [] (q ∷ qs) → (AnswerAlike (before ++ q ∷ []) [] qs → with_pairs code (before ++ q ∷ []) qs ≡ code)
    → with_pairs code before (q ∷ qs) ≡ code
none_on true q qs code before e h inv =
    passed code before q qs e
    ∙ inv (λ key absent. sym (alike_rest before q qs [] (λ k there. sym (h k there)) key absent))
none_on false q qs code before e h inv =
    let at : None ≡ Some (value_code q.1) = h q.0 e ∙ looked_first q qs q.0 (bytes_self q.0) in absurd cc

-- nothing else counts where nothing is found
none : (qs : Map) (code : ℕ) (before : Map) → AnswerAlike before [] qs → with_pairs code before qs ≡ code
none [] code before h = refl
none (q ∷ qs) code before h = none_on (has_key before q.0) q qs code before refl h (none qs code (before ++ q ∷ []))

abbrev SameCode : Map → Type 0
SameCode ps = (qs : Map) (code : ℕ) (before others : Map) → SameKeys before others → AnswerAlike before ps qs
    → with_pairs code before ps ≡ with_pairs code others qs

stay_on : (t : Bool) (before : Map) (p : List ℕ × Value) (key : List ℕ) → bytes_eq p.0 key ≡ t → has_key before p.0 ≡ true
    → (has_key before key || t) ≡ has_key before key
stay_on true before p key e h =
    let there : has_key before key ≡ true = ap (has_key before) (sym (same_bytes p.0 key e)) ∙ h in
    or_last (has_key before key) ∙ sym there
stay_on false before p key e h = or_false (has_key before key)

-- a pair whose key stands before adds no key
keys_stay : (before others : Map) (p : List ℕ × Value) → has_key before p.0 ≡ true → SameKeys before others → SameKeys (before ++ p ∷ []) others
keys_stay before others p e h key = has_more before p key ∙ stay_on (bytes_eq p.0 key) before p key refl e ∙ h key

codes_on : (t : Bool) (p : List ℕ × Value) (ps qs : Map) (code : ℕ) (before others : Map) → has_key before p.0 ≡ t → SameCode ps
    → SameKeys before others → AnswerAlike before (p ∷ ps) qs → with_pairs code before (p ∷ ps) ≡ with_pairs code others qs
codes_on true p ps qs code before others e inv keys h =
    passed code before p ps e
    ∙ inv qs code (before ++ p ∷ []) others (keys_stay before others p e keys) (alike_rest before p ps qs h)
codes_on false p ps qs code before others e inv keys h =
    counted code before p ps e
    ∙ inv qs (plus code (pair_code p)) (before ++ p ∷ []) (others ++ p ∷ []) (keys_more before others p p keys refl) (alike_rest before p ps qs h)
    ∙ sym (first qs code others p (sym (keys p.0) ∙ e) (sym (h p.0 e) ∙ looked_first p ps p.0 (bytes_self p.0)))

codes : (ps : Map) → SameCode ps
codes [] qs code before others keys h =
    sym (none qs code others (λ key absent. h key (keys key ∙ absent)))
codes (p ∷ ps) qs code before others keys h =
    codes_on (has_key before p.0) p ps qs code before others refl (codes ps) keys h

-- values that are the same have the same code
abbrev Coded : Value → Type 0
Coded v = (w : Value) → same v w ≡ true → value_code v ≡ value_code w

truths : (a b : Bool) → beq a b ≡ true → a ≡ b
truths true true h = refl
truths true false h = absurd cc
truths false true h = absurd cc
truths false false h = refl

ints : (a b : ℤ) → int_eq a b ≡ true → a ≡ b
ints a b h = (Decides-int_eq a b).0 h

coded : (v : Value) → Coded v
coded = by_cases Coded (record {
  at_empty = λ w h. ap value_code (sym (like-Empty w h));
  at_text = λ a w h.
      let there = like-Text a w h in
      ap layer_code (kind.outs-Text a) ∙ ap (with_bytes 3) (same_bytes a there.0 there.2)
      ∙ sym (ap layer_code (kind.outs-Text there.0)) ∙ ap value_code (sym there.1);
  at_truth = λ a w h.
      let there = like-Truth a w h in
      ap layer_code (kind.outs-Truth a) ∙ ap truth_code (truths a there.0 there.2)
      ∙ sym (ap layer_code (kind.outs-Truth there.0)) ∙ ap value_code (sym there.1);
  at_int = λ a w h.
      let there = like-Int a w h in
      ap layer_code (kind.outs-Int a) ∙ ap (λ (n : ℤ). mixed 4 (cast_unsigned w64 n)) (ints a there.0 there.2)
      ∙ sym (ap layer_code (kind.outs-Int there.0)) ∙ ap value_code (sym there.1);
  at_double = λ a w h.
      let there = like-Double a w h in
      ap layer_code (kind.outs-Double a) ∙ ap (with_bytes 5) (same_bytes a there.0 there.2)
      ∙ sym (ap layer_code (kind.outs-Double there.0)) ∙ ap value_code (sym there.1);
  at_bytes = λ a w h.
      let there = like-Bytes a w h in
      ap layer_code (kind.outs-Bytes a) ∙ ap (with_bytes 6) (same_bytes a there.0 there.2)
      ∙ sym (ap layer_code (kind.outs-Bytes there.0)) ∙ ap value_code (sym there.1);
  at_list = λ a w h.
      let there = like-List a w h in
      ap layer_code (kind.outs-List a) ∙ sym (ap layer_code (kind.outs-List there.0)) ∙ ap value_code (sym there.1);
  at_map = λ a w h.
      let there = like-Map a w h in
      ap layer_code (kind.outs-Map a) ∙ sym (ap layer_code (kind.outs-Map there.0)) ∙ ap value_code (sym there.1);
})

answers : (v w : Option Value) → same_answer v w ≡ true → option_map value_code v ≡ option_map value_code w
answers None None h = refl
answers None (Some w) h = absurd cc
answers (Some v) None h = absurd cc
answers (Some v) (Some w) h = ap (λ (c : ℕ). Some c) (coded v w h)

-- maps that are the same add the same
pub map_codes : (ps qs : Map) (code : ℕ) → same_pairs ps qs ≡ true → with_pairs code [] ps ≡ with_pairs code [] qs
map_codes ps qs code h =
    codes ps qs code [] [] (λ key. refl) (λ key absent. answers (get ps key) (get qs key) (alike-all ps qs h key))
