-- One byte always tells how the grammar of JSON goes on.
use Rattle.std.proofs.Common.{◌≡◌, ℕ, zero, suc, Bool, true, false, List, [], ◌∷◌, refl, arith, ◌⊎◌, inl, inr}
use Rattle.std.specs.Prelude.{◌&&◌, ◌||◌, ◌==◌, not, codes}
use Rattle.std.specs.Char.{digit_value}
use Rattle.std.specs.Int.{is_in_range}
use Rattle.std.proofs.lemmas.Bool.Decides.{nat_tests}
use Rattle.contract_words.specs.Grammar.{Rule, nothing, byte, alt, seq, many, nullable, first}
use Rattle.contract_words.specs.Rows.{Apart, fits, fits_row}
use Rattle.contract_words.proofs.Predictive.{and_l}
use Rattle.pdata_value.specs.Numeral.{optional, is_digit, is_leading, digits, int, frac, is_e, is_sign, exp, numeral}
use Rattle.json_text.specs.Place.{is_blank}
use Rattle.json_text.specs.Reading.{is_short, is_plain}
use Rattle.json_text.specs.Grammar.{one, ws, word_rule, hex_rule, two_digits, low_rule, behind_d, unit_rule, escape_rule, piece_rule, text_rule, scalar_rule, comma_rule, sequence_rule, list_rule, member_rule, object_rule, value_rule, json}

never : {X : Type 0} → false ≡ true → X
never e = absurd cc

not_null : {X : Type 0} (n : Bool) → n ≡ false → n ≡ true → X
not_null n none null = absurd cc

-- Before less, a rule fits too.
or_more : (a p q : Bool) → (q ≡ true → p ≡ true) → (a || q) ≡ true → (a || p) ≡ true
or_more true p q sub h = refl
or_more false p q sub h = sub h

and_more : (n p q : Bool) → (q ≡ true → p ≡ true) → (n && q) ≡ true → (n && p) ≡ true
and_more true p q sub h = sub h
and_more false p q sub h = h

abbrev Within : (ℕ → Bool) → (ℕ → Bool) → Type 0
Within q p = (b : ℕ) → q b ≡ true → p b ≡ true

apart_less : (s p q : ℕ → Bool) → Within q p → Apart s p → Apart s q
apart_less s p q sub a b h k = a b h (sub b k)

fits_less : (r : Rule) (p q : ℕ → Bool) → Within q p → fits r p → fits r q
fits_less nothing p q sub f = tt
fits_less (byte k) p q sub f = tt
fits_less (alt l r) p q sub f = (f.0, fits_less l p q sub f.1, fits_less r p q sub f.2)
fits_less (seq l r) p q sub f =
    let more : Within (λ b. first r b || (nullable r && q b)) (λ b. first r b || (nullable r && p b)) =
    λ b h. or_more (first r b) (nullable r && p b) (nullable r && q b) (and_more (nullable r) (p b) (q b) (sub b)) h in (
      fits_less l (λ b. first r b || (nullable r && p b)) (λ b. first r b || (nullable r && q b)) more f.0,
      λ null. apart_less (first l) (λ b. first r b || (nullable r && p b)) (λ b. first r b || (nullable r && q b)) more (f.1 null),
      fits_less r p q sub f.2,
      λ null. apart_less (first r) p q sub (f.3 null),
    )
fits_less (many a) p q sub f = (
  f.0,
  fits_less a (λ b. first a b || p b) (λ b. first a b || q b) (λ b h. or_more (first a b) (p b) (q b) (sub b) h) f.1,
  apart_less (first a) p q sub f.2,
)

-- a byte before what isn't empty
byte_seq : (k : ℕ → Bool) (r : Rule) (next : ℕ → Bool) → nullable r ≡ false → fits r next → fits (seq (byte k) r) next
byte_seq k r next none f = (tt, never, f, not_null (nullable r) none)

-- Words.
word_apart : (word : List ℕ) (next : ℕ → Bool) → nullable (word_rule word) ≡ true → Apart (first (word_rule word)) next
word_apart [] next null b h k = never h
word_apart (c ∷ cs) next null b h k = never null

word_fits : (word : List ℕ) (next : ℕ → Bool) → fits (word_rule word) next
word_fits [] next = tt
word_fits (c ∷ cs) next = (tt, never, word_fits cs next, word_apart cs next)

-- Texts.
module _ (next : ℕ → Bool) where
  two_fits : fits two_digits next
  two_fits = byte_seq (λ b. is_in_range 0 15 (digit_value b)) (hex_rule 0 15) next refl tt

  low_fits : fits low_rule next
  low_fits =
      byte_seq (λ b. b == 92) (seq (one 117) (seq (hex_rule 13 13) (seq (hex_rule 12 15) two_digits))) next refl
      (byte_seq (λ b. b == 117) (seq (hex_rule 13 13) (seq (hex_rule 12 15) two_digits)) next refl
      (byte_seq (λ b. is_in_range 13 13 (digit_value b)) (seq (hex_rule 12 15) two_digits) next refl
      (byte_seq (λ b. is_in_range 12 15 (digit_value b)) two_digits next refl two_fits)))

  high_apart : (v : ℕ) → (is_in_range 0 7 v || (false && false)) ≡ true → (is_in_range 8 11 v || (false && false)) ≡ true → ⊥
  high_apart v h k = grind (arith, nat_tests)

  d_apart : (v : ℕ) → ((is_in_range 0 15 v && not (v == 13)) || (false && false)) ≡ true → (is_in_range 13 13 v || (false && false)) ≡ true → ⊥
  d_apart v h k = grind (arith, nat_tests)

  u_apart : (b : ℕ) → is_short b ≡ true → ((b == 117) || (false && false)) ≡ true → ⊥
  u_apart b h k = grind (arith, nat_tests)

  slash_apart : (b : ℕ) → is_plain b ≡ true → ((b == 92) || (false && false)) ≡ true → ⊥
  slash_apart b h k = grind (arith, nat_tests)

module _ (next : ℕ → Bool) where
  behind_fits : fits behind_d next
  behind_fits = (
    λ b. high_apart next (digit_value b),
    byte_seq (λ b. is_in_range 0 7 (digit_value b)) two_digits next refl (two_fits next),
    byte_seq (λ b. is_in_range 8 11 (digit_value b)) (seq two_digits low_rule) next refl
        (fits_less two_digits (λ b. true) (λ b. first low_rule b || (nullable low_rule && next b)) (λ b h. refl) (two_fits (λ b. true)), never, low_fits next, never),
  )

  unit_fits : fits unit_rule next
  unit_fits = (
    λ b. d_apart next (digit_value b),
    byte_seq (λ b. is_in_range 0 15 (digit_value b) && not (digit_value b == 13)) (seq (hex_rule 0 15) two_digits) next refl (byte_seq (λ b. is_in_range 0 15 (digit_value b)) two_digits next refl (two_fits next)),
    byte_seq (λ b. is_in_range 13 13 (digit_value b)) behind_d next refl behind_fits,
  )

  escape_fits : fits escape_rule next
  escape_fits = (u_apart next, tt, byte_seq (λ b. b == 117) unit_rule next refl unit_fits)

  piece_fits : fits piece_rule next
  piece_fits = (slash_apart next, tt, byte_seq (λ b. b == 92) escape_rule next refl escape_fits)

quote_apart : (b : ℕ) (rest : Bool) → (is_plain b || ((b == 92) || (false && false))) ≡ true → ((b == 34) || (false && rest)) ≡ true → ⊥
quote_apart b rest h k = grind (arith, nat_tests)

text_fits : (next : ℕ → Bool) → fits text_rule next
text_fits next =
    let behind : ℕ → Bool = λ b. (b == 34) || (false && next b) in
    byte_seq (λ b. b == 34) (seq (many piece_rule) (one 34)) next refl
    ((refl, piece_fits (λ b. first piece_rule b || behind b), λ b. quote_apart b (next b)), (λ null b. quote_apart b (next b)), tt, never)

-- Numbers.
abbrev numeric : ℕ → Bool
numeric b = is_digit b || ((b == 46) || is_e b)

module _ (next : ℕ → Bool) (apart : (b : ℕ) → numeric b ≡ true → next b ≡ true → ⊥) where
  abbrev behind_int : ℕ → Bool
  behind_int b = first (seq (optional frac) (optional exp)) b || (true && next b)

  abbrev behind_frac : ℕ → Bool
  behind_frac b = first (optional exp) b || (true && next b)

  digit_next : Apart is_digit next
  digit_next b h k = apart b (or_left (is_digit b) ((b == 46) || is_e b) h) k where
    or_left : (a x : Bool) → a ≡ true → (a || x) ≡ true
    or_left a x is = rw is refl

  cases : (a b : Bool) → (a || b) ≡ true → (a ≡ true) ⊎ (b ≡ true)
  cases true b h = inl refl
  cases false b h = inr h

  digit_exp : Apart is_digit behind_frac
  digit_exp b h k = elim (cases (first (optional exp) b) (true && next b) k) [ inl e ↦ no_e b h e | inr n ↦ digit_next b h n ] where
    no_e : (b : ℕ) → is_digit b ≡ true → ((is_e b || (false && false)) || false) ≡ true → ⊥
    no_e b h e = grind (arith, nat_tests)

  digit_int : Apart is_digit behind_int
  digit_int b h k = elim (cases (first (seq (optional frac) (optional exp)) b) (true && next b) k) [ inl e ↦ no_point b h e | inr n ↦ digit_next b h n ] where
    no_point : (b : ℕ) → is_digit b ≡ true → ((((b == 46) || (false && false)) || false) || (true && ((is_e b || (false && false)) || false))) ≡ true → ⊥
    no_point b h e = grind (arith, nat_tests)

  many_digits : (behind : ℕ → Bool) → Apart is_digit behind → fits (many (byte is_digit)) behind
  many_digits behind digit = (refl, tt, digit)

  digits_fit : (behind : ℕ → Bool) → Apart is_digit behind → fits digits behind
  digits_fit behind digit = (tt, never, many_digits behind digit, λ null. digit)

  -- an optional byte fits before anything
  byte_optional : (k behind : ℕ → Bool) → fits (optional (byte k)) behind
  byte_optional k behind = ((λ b h e. never e), tt, tt)

  int_fits : fits int behind_int
  int_fits = (zero_leads, tt, (tt, never, many_digits behind_int digit_int, λ null. digit_int)) where
    zero_leads : (b : ℕ) → (b == 48) ≡ true → (is_leading b || (false && is_digit b)) ≡ true → ⊥
    zero_leads b h k = grind (arith, nat_tests)

  frac_fits : fits (optional frac) behind_frac
  frac_fits = ((λ b h e. never e), (byte_seq (λ b. b == 46) digits behind_frac refl (digits_fit behind_frac digit_exp)), tt)

  point_apart : Apart (first (optional frac)) behind_frac
  point_apart b h k = elim (cases (first (optional exp) b) (true && next b) k) [ inl e ↦ no_e b h e | inr n ↦ apart b (numeric_point b h) n ] where
    no_e : (b : ℕ) → (((b == 46) || (false && is_digit b)) || false) ≡ true → ((is_e b || (false && false)) || false) ≡ true → ⊥
    no_e b h e = grind (arith, nat_tests)

    numeric_point : (b : ℕ) → (((b == 46) || (false && is_digit b)) || false) ≡ true → (is_digit b || ((b == 46) || is_e b)) ≡ true
    numeric_point b h = grind (arith, nat_tests)

  exp_apart : Apart (first (optional exp)) next
  exp_apart b h k = apart b (numeric_e b h) k where
    numeric_e : (b : ℕ) → ((is_e b || (false && false)) || false) ≡ true → (is_digit b || ((b == 46) || is_e b)) ≡ true
    numeric_e b h = grind (arith, nat_tests)

  tail_apart : Apart (first (seq (optional frac) (optional exp))) next
  tail_apart b h k = apart b (numeric_tail b h) k where
    numeric_tail : (b : ℕ) → ((((b == 46) || (false && is_digit b)) || false) || (true && ((is_e b || (false && false)) || false))) ≡ true → (is_digit b || ((b == 46) || is_e b)) ≡ true
    numeric_tail b h = grind (arith, nat_tests)

  exp_fits : fits (optional exp) next
  exp_fits = ((λ b h e. never e), byte_seq is_e (seq (optional (byte is_sign)) digits) next refl (byte_optional is_sign (λ b. first digits b || (false && next b)), (λ null b. sign_apart b), digits_fit next digit_next, never), tt) where
    sign_apart : (b : ℕ) → (is_sign b || false) ≡ true → ((is_digit b || (false && is_digit b)) || (false && next b)) ≡ true → ⊥
    sign_apart b h k = grind (arith, nat_tests)

  pub numeral_fits : fits numeral next
  numeral_fits = (
    byte_optional (λ b. b == 45) (λ b. first (seq int (seq (optional frac) (optional exp))) b || (false && next b)),
    (λ null b. minus_apart b),
    (int_fits, never, (frac_fits, (λ null. point_apart), exp_fits, (λ null. exp_apart)), (λ null. tail_apart)),
    never,
  ) where
    minus_apart : (b : ℕ) → ((b == 45) || false) ≡ true → ((((b == 48) || (is_leading b || (false && is_digit b))) || (false && first (seq (optional frac) (optional exp)) b)) || (false && next b)) ≡ true → ⊥
    minus_apart b h k = grind (arith, nat_tests)

-- Values.
abbrev after_value : ℕ → Bool
after_value b = is_blank b || ((b == 44) || ((b == 93) || (b == 125)))

-- how a value begins
abbrev pub opening : ℕ → Bool
opening b = (b == 34) || ((b == 45) || (is_digit b || ((b == 116) || ((b == 102) || ((b == 110) || ((b == 91) || (b == 123)))))))

numeric_apart : (b : ℕ) → numeric b ≡ true → after_value b ≡ true → ⊥
numeric_apart b h k = grind (arith, nat_tests)

abbrev first_number : ℕ → Bool
first_number b = ((b == 45) || false) || (true && (((b == 48) || (is_leading b || (false && is_digit b))) || (false && false)))

module _ (b : ℕ) where
  text_scalar : ((b == 34) || (false && false)) ≡ true → (first numeral b || (((b == 116) || (false && false)) || (((b == 102) || (false && false)) || ((b == 110) || (false && false))))) ≡ true → ⊥
  text_scalar h k = grind (arith, nat_tests)

  number_word : first numeral b ≡ true → (((b == 116) || (false && false)) || (((b == 102) || (false && false)) || ((b == 110) || (false && false)))) ≡ true → ⊥
  number_word h k = grind (arith, nat_tests)

  true_word : ((b == 116) || (false && false)) ≡ true → (((b == 102) || (false && false)) || ((b == 110) || (false && false))) ≡ true → ⊥
  true_word h k = grind (arith, nat_tests)

  false_word : ((b == 102) || (false && false)) ≡ true → ((b == 110) || (false && false)) ≡ true → ⊥
  false_word h k = grind (arith, nat_tests)

scalar_fits : fits scalar_rule after_value
scalar_fits = (
  text_scalar,
  text_fits after_value,
  (number_word, numeral_fits after_value numeric_apart, (true_word, word_fits (codes "true") after_value, (false_word, word_fits (codes "false") after_value, word_fits (codes "null") after_value))),
)

-- what comes first where elements stand between brackets
first_only : (fe ne bl cm cl : Bool) → ne ≡ false → (((fe || (ne && bl)) || ((ne && true) && cm)) || (((ne && true) && true) && cl)) ≡ true → fe ≡ true
first_only true ne bl cm cl none h = refl
first_only false true bl cm cl none h = absurd cc
first_only false false bl cm cl none h = h

first_element : (fe ne bl x : Bool) → ne ≡ false → ((fe || (ne && bl)) || ((ne && true) && x)) ≡ true → fe ≡ true
first_element true ne bl x none h = refl
first_element false true bl x none h = absurd cc
first_element false false bl x none h = h

first_bare : (fe ne bl : Bool) → ne ≡ false → (fe || (ne && bl)) ≡ true → fe ≡ true
first_bare true ne bl none h = refl
first_bare false true bl none h = absurd cc
first_bare false false bl none h = h

no_two : (ne : Bool) → ne ≡ false → (ne && true) ≡ false
no_two ne none = rw none refl

no_three : (ne : Bool) → ne ≡ false → ((ne && true) && true) ≡ false
no_three ne none = rw none refl

no_four : (ne : Bool) → ne ≡ false → (((ne && true) && true) && false) ≡ false
no_four ne none = rw none refl

two_ways : (a b : Bool) → (a || b) ≡ true → (a ≡ true) ⊎ (b ≡ true)
two_ways true b h = inl refl
two_ways false b h = inr h

module _ (element : Rule) (none : nullable element ≡ false) (opens : (b : ℕ) → first element b ≡ true → opening b ≡ true) (fit : fits element after_value)
    (close : ℕ) (blank_close : (b : ℕ) → is_blank b ≡ true → (b == close) ≡ true → ⊥) (open_close : (b : ℕ) → (b == close) ≡ true → opening b ≡ true → ⊥)
    (comma_close : (b : ℕ) → (b == 44) ≡ true → (b == close) ≡ true → ⊥) (after_close : (b : ℕ) → (b == close) ≡ true → after_value b ≡ true) (next : ℕ → Bool) where
  abbrev comma : Rule
  comma = comma_rule element

  abbrev all : Rule
  all = seq (seq element ws) (many comma)

  -- behind all elements
  abbrev behind_all : ℕ → Bool
  behind_all b = (b == close) || (false && next b)

  closes : (b : ℕ) → behind_all b ≡ true → (b == close) ≡ true
  closes b h = elim (two_ways (b == close) (false && next b) h) [ inl c ↦ c | inr n ↦ never n ]

  -- behind one element and its blanks
  abbrev behind_one : ℕ → Bool
  behind_one b = first comma b || (true && behind_all b)

  comma_or_close : (b : ℕ) → behind_one b ≡ true → ((b == 44) ≡ true) ⊎ ((b == close) ≡ true)
  comma_or_close b h = elim (two_ways (first comma b) (true && behind_all b) h) [ inl c ↦ inl (only (b == 44) c) | inr k ↦ inr (closes b k) ] where
    only : (a : Bool) → (a || (false && false)) ≡ true → a ≡ true
    only true h = refl
    only false h = h

  blank_not_opening : (b : ℕ) → is_blank b ≡ true → opening b ≡ true → ⊥
  blank_not_opening b h k = grind (arith, nat_tests)

  blank_not_comma : (b : ℕ) → is_blank b ≡ true → (b == 44) ≡ true → ⊥
  blank_not_comma b h k = grind (arith, nat_tests)

  blank_after : (b : ℕ) → is_blank b ≡ true → after_value b ≡ true
  blank_after b h = grind (arith, nat_tests)

  comma_after : (b : ℕ) → (b == 44) ≡ true → after_value b ≡ true
  comma_after b h = grind (arith, nat_tests)

  blank_apart : Apart is_blank behind_one
  blank_apart b h k = elim (comma_or_close b k) [ inl c ↦ blank_not_comma b h c | inr c ↦ blank_close b h c ]

  one_after : Within behind_one after_value
  one_after b h = elim (comma_or_close b h) [ inl c ↦ comma_after b c | inr c ↦ after_close b c ]

  -- an element and the blanks behind it
  element_fits : (behind : ℕ → Bool) → Within behind behind_one → fits (seq element ws) behind
  element_fits behind sub = (
    fits_less element after_value (λ b. is_blank b || (true && behind b)) (λ b h. elim (two_ways (is_blank b) (true && behind b) h) [ inl c ↦ blank_after b c | inr k ↦ one_after b (sub b k) ]) fit,
    not_null (nullable element) none,
    (refl, tt, apart_less is_blank behind_one behind sub blank_apart),
    (λ null. apart_less is_blank behind_one behind sub blank_apart),
  )

  comma_fits : (behind : ℕ → Bool) → Within behind behind_one → fits comma behind
  comma_fits behind sub =
      let before : ℕ → Bool = λ b. first (seq element ws) b || (nullable (seq element ws) && behind b) in
      let apart : Apart is_blank before = λ b h k. blank_not_opening b h (opens b (first_element (first element b) (nullable element) (is_blank b) (behind b) none k)) in (
        tt,
        never,
        ((refl, tt, apart), (λ null. apart), element_fits behind sub, not_null (nullable element && true) (no_two (nullable element) none)),
        not_null (true && (nullable element && true)) (no_two (nullable element) none),
      )

  all_fits : fits all behind_all
  all_fits =
      let sub : Within (λ b. first comma b || behind_all b) behind_one = λ b h. h in
      let apart : Apart (first comma) behind_all = λ b h k. comma_close b (only (b == 44) h) (closes b k) in (
        element_fits behind_one (λ b h. h),
        not_null (nullable element && true) (no_two (nullable element) none),
        (refl, comma_fits (λ b. first comma b || behind_all b) sub, apart),
        (λ null. apart),
      )
    where
      only : (a : Bool) → (a || (false && false)) ≡ true → a ≡ true
      only true h = refl
      only false h = h

  abbrev filled : Rule
  filled = seq all (one close)

  filled_opens : (b : ℕ) → first filled b ≡ true → opening b ≡ true
  filled_opens b h = opens b (first_only (first element b) (nullable element) (is_blank b) (first comma b) (b == close) none h)

  sequence_fits : fits (sequence_rule element close) next
  sequence_fits =
      let inside : Rule = alt (one close) filled in
      let before : ℕ → Bool = λ b. first inside b || (nullable inside && next b) in
      let apart : Apart is_blank before = λ b h k. elim (two_ways (first inside b) (nullable inside && next b) k) [
        | inl i ↦ elim (two_ways (b == close) (first filled b) i) [ inl c ↦ blank_close b h c | inr f ↦ blank_not_opening b h (filled_opens b f) ]
        | inr n ↦ not_null (nullable inside) (no_four (nullable element) none) (and_l (nullable inside) (next b) n)
      ] in (
        (refl, tt, apart),
        (λ null. apart),
        ((λ b h k. open_close b h (filled_opens b k)), tt, (all_fits, not_null ((nullable element && true) && true) (no_three (nullable element) none), tt, never)),
        not_null (nullable inside) (no_four (nullable element) none),
      )

no_value : (d : ℕ) → nullable (value_rule d) ≡ false
no_value zero = refl
no_value (suc d) = refl

scalar_opens : (b : ℕ) → first scalar_rule b ≡ true → opening b ≡ true
scalar_opens b h = grind (arith, nat_tests)

containers_open : (b : ℕ) → (((b == 91) || (false && false)) || ((b == 123) || (false && false))) ≡ true → opening b ≡ true
containers_open b h = grind (arith, nat_tests)

value_opens : (d b : ℕ) → first (value_rule d) b ≡ true → opening b ≡ true
value_opens zero b h = scalar_opens b h
value_opens (suc d) b h = elim (two_ways (first scalar_rule b) (first (alt (list_rule (value_rule d)) (object_rule (value_rule d))) b) h) [ inl s ↦ scalar_opens b s | inr c ↦ containers_open b c ]

text_opens : (b : ℕ) → (((b == 34) || (false && false)) || (false && false)) ≡ true → opening b ≡ true
text_opens b h = grind (arith, nat_tests)

scalar_apart : (b : ℕ) → first scalar_rule b ≡ true → (((b == 91) || (false && false)) || ((b == 123) || (false && false))) ≡ true → ⊥
scalar_apart b h k = grind (arith, nat_tests)

brackets_apart : (b : ℕ) → ((b == 91) || (false && false)) ≡ true → ((b == 123) || (false && false)) ≡ true → ⊥
brackets_apart b h k = grind (arith, nat_tests)

no_next : (n : Bool) → n ≡ false → (true && n) ≡ false
no_next n none = none

module _ (value : Rule) (none : nullable value ≡ false) (opens : (b : ℕ) → first value b ≡ true → opening b ≡ true) (fit : fits value after_value) where
  blank_opening : (b : ℕ) → is_blank b ≡ true → opening b ≡ true → ⊥
  blank_opening b h k = grind (arith, nat_tests)

  blank_value : (behind : ℕ → Bool) → Apart is_blank (λ b. first value b || (nullable value && behind b))
  blank_value behind b h k = blank_opening b h (opens b (first_bare (first value b) (nullable value) (behind b) none k))

  colon_apart : (b : ℕ) (x : Bool) → is_blank b ≡ true → (((b == 58) || (false && false)) || (false && x)) ≡ true → ⊥
  colon_apart b x h k = grind (arith, nat_tests)

  member_fits : fits (member_rule value) after_value
  member_fits =
      let behind_colon : Rule = seq ws value in
      let behind_key : Rule = seq ws (seq (one 58) behind_colon) in (
        text_fits (λ b. first behind_key b || (nullable behind_key && after_value b)),
        never,
        (
          (refl, tt, λ b. colon_apart b (after_value b)),
          (λ null b. colon_apart b (after_value b)),
          byte_seq (λ b. b == 58) behind_colon after_value (no_next (nullable value) none)
              ((refl, tt, blank_value after_value), (λ null. blank_value after_value), fit, not_null (nullable value) none),
          never,
        ),
        never,
      )

  blank_93 : (b : ℕ) → is_blank b ≡ true → (b == 93) ≡ true → ⊥
  blank_93 b h k = grind (arith, nat_tests)

  blank_125 : (b : ℕ) → is_blank b ≡ true → (b == 125) ≡ true → ⊥
  blank_125 b h k = grind (arith, nat_tests)

  opening_93 : (b : ℕ) → (b == 93) ≡ true → opening b ≡ true → ⊥
  opening_93 b h k = grind (arith, nat_tests)

  opening_125 : (b : ℕ) → (b == 125) ≡ true → opening b ≡ true → ⊥
  opening_125 b h k = grind (arith, nat_tests)

  comma_93 : (b : ℕ) → (b == 44) ≡ true → (b == 93) ≡ true → ⊥
  comma_93 b h k = grind (arith, nat_tests)

  comma_125 : (b : ℕ) → (b == 44) ≡ true → (b == 125) ≡ true → ⊥
  comma_125 b h k = grind (arith, nat_tests)

  after_93 : (b : ℕ) → (b == 93) ≡ true → after_value b ≡ true
  after_93 b h = grind (arith, nat_tests)

  after_125 : (b : ℕ) → (b == 125) ≡ true → after_value b ≡ true
  after_125 b h = grind (arith, nat_tests)

  null_sequence : (ne : Bool) → ne ≡ false → (true && (false || (((ne && true) && true) && false))) ≡ false
  null_sequence ne e = rw e refl

  list_fits : fits (list_rule value) after_value
  list_fits =
      byte_seq (λ b. b == 91) (sequence_rule value 93) after_value (null_sequence (nullable value) none)
      (sequence_fits value none opens fit 93 blank_93 opening_93 comma_93 after_93 after_value)

  object_fits : fits (object_rule value) after_value
  object_fits =
      byte_seq (λ b. b == 123) (sequence_rule (member_rule value) 125) after_value refl
      (sequence_fits (member_rule value) refl text_opens member_fits 125 blank_125 opening_125 comma_125 after_125 after_value)

value_fits : (d : ℕ) → fits (value_rule d) after_value
value_fits zero = scalar_fits
value_fits (suc d) = (
  scalar_apart,
  scalar_fits,
  (brackets_apart, list_fits (value_rule d) (no_value d) (value_opens d) (value_fits d), object_fits (value_rule d) (no_value d) (value_opens d) (value_fits d)),
)

blank_only : (b : ℕ) → (is_blank b || (true && false)) ≡ true → after_value b ≡ true
blank_only b h = grind (arith, nat_tests)

pub json_fits : (d : ℕ) → fits_row (json d ∷ [])
json_fits d =
    let v : Rule = value_rule d in
    let apart : Apart is_blank (λ b. first (seq v ws) b || (nullable (seq v ws) && false)) = λ b h k.
    blank_opening v (no_value d) (value_opens d) (value_fits d) b h (value_opens d b (first_element (first v b) (nullable v) (is_blank b) false (no_value d) k)) in
    let nothing_left : Apart is_blank (λ b. false) = λ b h k. never k in (
      (
        (refl, tt, apart),
        (λ null. apart),
        (fits_less v after_value (λ b. is_blank b || (true && false)) blank_only (value_fits d), not_null (nullable v) (no_value d), (refl, tt, nothing_left), (λ null. nothing_left)),
        not_null (nullable v && true) (no_two (nullable v) (no_value d)),
      ),
      (λ null b h k. never k),
      tt,
    )
