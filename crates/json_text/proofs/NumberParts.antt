-- The reading of a number does what the numeral's rule does.
use Rattle.std.proofs.Common.{◌≡◌, ◌∙◌, ℕ, ◌+◌, ◌-◌, Bool, true, false, List, [], ◌∷◌, length, take, drop, Result, Ok, Err, refl, sym, subst, arith, cond}
use Rattle.std.specs.Prelude.{◌&&◌, ◌||◌, ◌==◌}
use Rattle.std.proofs.lemmas.Bool.Decides.{nat_tests}
use Rattle.contract_words.specs.Grammar.{Rule, nothing, byte, alt, seq, many, nullable, first}
use Rattle.contract_words.specs.Rows.{step}
use Rattle.pdata_value.specs.Numeral.{optional, is_digit, is_leading, digits, int, frac, is_e, is_sign, exp, numeral}
use Rattle.json_text.specs.Place.{Rest, behind}
use Rattle.json_text.specs.Reading.{Reads, ◌>>=◌, one_of, some_digits, integer, fraction, exponent, passed, number_end, number}
use Rattle.json_text.specs.declared.error.JsonFault.{JsonFault}
use Rattle.json_text.specs.declared.error.JsonFault.TheVariants.{BadJson}
use Rattle.contract_words.specs.Rows.{run}
use Rattle.contract_words.proofs.Machine.{run-steps, run-seq, step-right, step-left}
use Rattle.json_text.proofs.Runs.{Goes, Follows, follows_then, follows_bind, follows_same, follows_less, goes_on}
use Rattle.json_text.proofs.Parts.{here, behind_it, byte_goes, byte_stops, stops_here, stops_same, one_of_follows, behind_follows}

-- a part that may be missing, where it is
pub missing : (l : Rule) (rs : List Rule) (b : ℕ) → first l b ≡ false → nullable l ≡ false → step (alt l nothing ∷ rs) b ≡ step rs b
missing l rs b is none = step-right l nothing rs b is none

pub taken_part : (l : Rule) (rs : List Rule) (b : ℕ) → first l b ≡ true → step (alt l nothing ∷ rs) b ≡ step (l ∷ rs) b
taken_part l rs b is = rw is refl

abbrev one_zero : Rule
one_zero = byte (λ b. b == 48)

abbrev leading_digits : Rule
leading_digits = seq (byte is_leading) (many (byte is_digit))

or_true : (a : Bool) → a ≡ true → (a || (false && false)) ≡ true
or_true a is = rw is refl

or_false : (a : Bool) → a ≡ false → (a || (false && false)) ≡ false
or_false a is = rw is refl

leading : (b : ℕ) → is_digit b ≡ true → (b == 48) ≡ false → is_leading b ≡ true
leading b digit more = grind (arith, nat_tests)

zero_leads : (b : ℕ) → (b == 48) ≡ true → is_leading b ≡ false
zero_leads b is = grind (arith, nat_tests)

no_zero : (b : ℕ) → is_digit b ≡ false → (b == 48) ≡ false
no_zero b is = grind (arith, nat_tests)

no_leading : (b : ℕ) → is_digit b ≡ false → is_leading b ≡ false
no_leading b is = grind (arith, nat_tests)

-- a byte that was read, where it was of the kind
abbrev pub first_byte : Bool → ℕ → ℕ → List ℕ → Reads ℕ
first_byte t at x xs = cond t (Ok (x, record { at = at + 1; left = xs })) (Err (BadJson at))

module _ (deeper : Bool) where
  some_digits_follows : (rs : List Rule) (r : Rest) → Follows here deeper 1 (run (digits ∷ rs) r.left) r rs (some_digits r)
  some_digits_follows rs r =
      follows_same here deeper 1 _ _ r rs (some_digits r) (run-seq (byte is_digit) (many (byte is_digit)) rs r.left)
      (follows_bind behind_it here deeper 1 0 _ r (many (byte is_digit) ∷ rs) rs (one_of is_digit r) (λ p. Ok (behind is_digit p.1)) (one_of_follows deeper is_digit refl (many (byte is_digit) ∷ rs) r)
      (λ p. behind_follows deeper is_digit rs p.1))

  -- where a part may be missing, by its first byte
  present : (l : Rule) (rs : List Rule) (at x : ℕ) (xs : List ℕ) (t : Bool) → first l x ≡ t → nullable l ≡ false → (read : Result Rest JsonFault)
      → Follows here deeper 0 (run (l ∷ rs) (x ∷ xs)) (record { at = at; left = x ∷ xs }) rs read
      → Follows here deeper 0 (run (optional l ∷ rs) (x ∷ xs)) (record { at = at; left = x ∷ xs }) rs (cond t read (Ok (record { at = at; left = x ∷ xs })))
  present l rs at x xs true is none read h =
      follows_same here deeper 0 _ _ (record { at = at; left = x ∷ xs }) rs read (run-steps (optional l ∷ rs) (l ∷ rs) x xs (taken_part l rs x is)) h
  present l rs at x xs false is none read h = goes_on (run (optional l ∷ rs) (x ∷ xs)) (record { at = at; left = x ∷ xs }) rs (run-steps (optional l ∷ rs) rs x xs (missing l rs x is none))

  passed_at : (kind : ℕ → Bool) → kind 0 ≡ false → (rs : List Rule) (at : ℕ) (left : List ℕ)
      → Goes 0 (run (optional (byte kind) ∷ rs) left) (record { at = at; left = left }) rs (passed kind (record { at = at; left = left }))
  passed_at kind none rs at [] = subst (λ (t : Bool). Goes 0 (run (optional (byte kind) ∷ rs) []) (record { at = at; left = [] }) rs (cond t (record { at = at + 1; left = drop 1 [] }) (record { at = at; left = [] }))) (sym none)
      (goes_on (run (optional (byte kind) ∷ rs) []) (record { at = at; left = [] }) rs refl)
  passed_at kind none rs at (x ∷ xs) = by_kind (kind x) refl where
    by_kind : (t : Bool) → kind x ≡ t → Goes 0 (run (optional (byte kind) ∷ rs) (x ∷ xs)) (record { at = at; left = x ∷ xs }) rs (cond t (record { at = at + 1; left = xs }) (record { at = at; left = x ∷ xs }))
    by_kind true is = follows_less here deeper 0 1 (run (optional (byte kind) ∷ rs) (x ∷ xs)) (record { at = at; left = x ∷ xs }) rs (Ok (record { at = at + 1; left = xs })) (omega arith)
        (follows_same here deeper 1 _ _ (record { at = at; left = x ∷ xs }) rs (Ok (record { at = at + 1; left = xs })) (run-steps (optional (byte kind) ∷ rs) (byte kind ∷ rs) x xs (taken_part (byte kind) rs x is)) (byte_goes kind rs at x xs is))
    by_kind false is = goes_on (run (optional (byte kind) ∷ rs) (x ∷ xs)) (record { at = at; left = x ∷ xs }) rs (run-steps (optional (byte kind) ∷ rs) rs x xs (missing (byte kind) rs x is refl))

  passed_follows : (kind : ℕ → Bool) → kind 0 ≡ false → (rs : List Rule) (r : Rest) → Goes 0 (run (optional (byte kind) ∷ rs) r.left) r rs (passed kind r)
  passed_follows kind none rs r = passed_at kind none rs r.at r.left

  integer_digit : (rs : List Rule) (at x : ℕ) (xs : List ℕ) (z : Bool) → is_digit x ≡ true → (x == 48) ≡ z
      → Follows here deeper 1 (run (int ∷ rs) (x ∷ xs)) (record { at = at; left = x ∷ xs }) rs
      (cond z (Ok (record { at = at + 1; left = xs })) (Ok (behind is_digit (record { at = at + 1; left = xs }))))
  integer_digit rs at x xs true digit zero_is =
      follows_same here deeper 1 _ _ (record { at = at; left = x ∷ xs }) rs (Ok (record { at = at + 1; left = xs }))
      (run-steps (int ∷ rs) (one_zero ∷ rs) x xs (step-left one_zero leading_digits rs x (or_false (is_leading x) (zero_leads x zero_is)) refl)) (byte_goes (λ b. b == 48) rs at x xs zero_is)
  integer_digit rs at x xs false digit zero_is =
      follows_same here deeper 1 _ _ (record { at = at; left = x ∷ xs }) rs (Ok (behind is_digit (record { at = at + 1; left = xs })))
      (run-steps (int ∷ rs) (leading_digits ∷ rs) x xs (step-right one_zero leading_digits rs x zero_is refl) ∙ run-seq (byte is_leading) (many (byte is_digit)) rs (x ∷ xs))
      (follows_then here deeper 1 0 _ (record { at = at; left = x ∷ xs }) (record { at = at + 1; left = xs }) (many (byte is_digit) ∷ rs) rs (Ok (behind is_digit (record { at = at + 1; left = xs })))
      (byte_goes is_leading (many (byte is_digit) ∷ rs) at x xs (leading x digit zero_is)) (behind_follows deeper is_digit rs (record { at = at + 1; left = xs })))

  integer_case : (rs : List Rule) (at x : ℕ) (xs : List ℕ) (d : Bool) → is_digit x ≡ d
      → Follows here deeper 1 (run (int ∷ rs) (x ∷ xs)) (record { at = at; left = x ∷ xs }) rs
      (first_byte d at x xs >>= λ p. cond (p.0 == 48) (Ok p.1) (Ok (behind is_digit p.1)))
  integer_case rs at x xs true digit = integer_digit rs at x xs (x == 48) digit refl
  integer_case rs at x xs false digit =
      stops_same _ _ (record { at = at; left = x ∷ xs }) at
      (run-steps (int ∷ rs) (leading_digits ∷ rs) x xs (step-right one_zero leading_digits rs x (no_zero x digit) refl) ∙ run-seq (byte is_leading) (many (byte is_digit)) rs (x ∷ xs))
      (byte_stops is_leading (many (byte is_digit) ∷ rs) at x xs (no_leading x digit))

  integer_at : (rs : List Rule) (at : ℕ) (left : List ℕ) → Follows here deeper 1 (run (int ∷ rs) left) (record { at = at; left = left }) rs (integer (record { at = at; left = left }))
  integer_at rs at [] = stops_here (record { at = at; left = [] })
  integer_at rs at (x ∷ xs) = integer_case rs at x xs (is_digit x) refl

  fraction_case : (rs : List Rule) (at x : ℕ) (xs : List ℕ) (t : Bool) → (x == 46) ≡ t
      → Follows here deeper 0 (run (optional frac ∷ rs) (x ∷ xs)) (record { at = at; left = x ∷ xs }) rs (cond t (some_digits (record { at = at + 1; left = xs })) (Ok (record { at = at; left = x ∷ xs })))
  fraction_case rs at x xs true is =
      follows_less here deeper 0 2 _ (record { at = at; left = x ∷ xs }) rs (some_digits (record { at = at + 1; left = xs })) (omega arith)
      (follows_same here deeper 2 _ _ (record { at = at; left = x ∷ xs }) rs (some_digits (record { at = at + 1; left = xs }))
      (run-steps (optional frac ∷ rs) (frac ∷ rs) x xs (taken_part frac rs x (or_true (x == 46) is)) ∙ run-seq (byte (λ b. b == 46)) digits rs (x ∷ xs))
      (follows_then here deeper 1 1 _ (record { at = at; left = x ∷ xs }) (record { at = at + 1; left = xs }) (digits ∷ rs) rs (some_digits (record { at = at + 1; left = xs }))
      (byte_goes (λ b. b == 46) (digits ∷ rs) at x xs is) (some_digits_follows rs (record { at = at + 1; left = xs }))))
  fraction_case rs at x xs false is =
      goes_on (run (optional frac ∷ rs) (x ∷ xs)) (record { at = at; left = x ∷ xs }) rs (run-steps (optional frac ∷ rs) rs x xs (missing frac rs x (or_false (x == 46) is) refl))

  fraction_at : (rs : List Rule) (at : ℕ) (left : List ℕ) → Follows here deeper 0 (run (optional frac ∷ rs) left) (record { at = at; left = left }) rs (fraction (record { at = at; left = left }))
  fraction_at rs at [] = goes_on (run (optional frac ∷ rs) []) (record { at = at; left = [] }) rs refl
  fraction_at rs at (x ∷ xs) = fraction_case rs at x xs (x == 46) refl

  exponent_case : (rs : List Rule) (at x : ℕ) (xs : List ℕ) (t : Bool) → is_e x ≡ t
      → Follows here deeper 0 (run (optional exp ∷ rs) (x ∷ xs)) (record { at = at; left = x ∷ xs }) rs
      (cond t (some_digits (passed is_sign (record { at = at + 1; left = xs }))) (Ok (record { at = at; left = x ∷ xs })))
  exponent_case rs at x xs true is =
      let mid : Rest = record { at = at + 1; left = xs } in
      follows_less here deeper 0 2 _ (record { at = at; left = x ∷ xs }) rs (some_digits (passed is_sign mid)) (omega arith)
      (follows_same here deeper 2 _ _ (record { at = at; left = x ∷ xs }) rs (some_digits (passed is_sign mid))
      (run-steps (optional exp ∷ rs) (exp ∷ rs) x xs (taken_part exp rs x (or_true (is_e x) is)) ∙ run-seq (byte is_e) (seq (optional (byte is_sign)) digits) rs (x ∷ xs))
      (follows_then here deeper 1 1 _ (record { at = at; left = x ∷ xs }) mid (seq (optional (byte is_sign)) digits ∷ rs) rs (some_digits (passed is_sign mid))
      (byte_goes is_e (seq (optional (byte is_sign)) digits ∷ rs) at x xs is)
      (follows_same here deeper 1 _ _ mid rs (some_digits (passed is_sign mid)) (run-seq (optional (byte is_sign)) digits rs xs)
      (follows_then here deeper 0 1 _ mid (passed is_sign mid) (digits ∷ rs) rs (some_digits (passed is_sign mid)) (passed_follows is_sign refl (digits ∷ rs) mid) (some_digits_follows rs (passed is_sign mid))))))
  exponent_case rs at x xs false is =
      goes_on (run (optional exp ∷ rs) (x ∷ xs)) (record { at = at; left = x ∷ xs }) rs (run-steps (optional exp ∷ rs) rs x xs (missing exp rs x (or_false (is_e x) is) refl))

  exponent_at : (rs : List Rule) (at : ℕ) (left : List ℕ) → Follows here deeper 0 (run (optional exp ∷ rs) left) (record { at = at; left = left }) rs (exponent (record { at = at; left = left }))
  exponent_at rs at [] = goes_on (run (optional exp ∷ rs) []) (record { at = at; left = [] }) rs refl
  exponent_at rs at (x ∷ xs) = exponent_case rs at x xs (is_e x) refl

  pub number_end_follows : (rs : List Rule) (r : Rest) → Follows here deeper 1 (run (numeral ∷ rs) r.left) r rs (number_end r)
  unfolding number_end
  number_end_follows rs r =
      let start = passed (λ b. b == 45) r in
      let two = seq (optional frac) (optional exp) in
      follows_same here deeper 1 _ _ r rs (integer start >>= fraction >>= exponent) (run-seq (optional (byte (λ b. b == 45))) (seq int two) rs r.left)
      (follows_then here deeper 0 1 _ r start (seq int two ∷ rs) rs (integer start >>= fraction >>= exponent) (passed_follows (λ b. b == 45) refl (seq int two ∷ rs) r)
      (follows_same here deeper 1 _ _ start rs (integer start >>= fraction >>= exponent) (run-seq int two rs start.left)
      (follows_bind here here deeper 1 0 _ start (optional exp ∷ rs) rs (integer start >>= fraction) exponent
      (follows_bind here here deeper 1 0 _ start (two ∷ rs) (optional exp ∷ rs) (integer start) fraction (integer_at (two ∷ rs) start.at start.left)
      (λ q. follows_same here deeper 0 _ _ q (optional exp ∷ rs) (fraction q) (run-seq (optional frac) (optional exp) rs q.left) (fraction_at (optional exp ∷ rs) q.at q.left)))
      (λ q. exponent_at rs q.at q.left))))

  pub number_follows : (rs : List Rule) (r : Rest) → Follows behind_it deeper 1 (run (numeral ∷ rs) r.left) r rs (number r)
  number_follows rs r =
      follows_bind here behind_it deeper 1 0 _ r rs rs (number_end r) (λ e. Ok (take (length r.left - length e.left) r.left, e)) (number_end_follows rs r)
      (λ e. goes_on (run rs e.left) e rs refl)
