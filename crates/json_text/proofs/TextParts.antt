-- The reading of a text does what the text's rule does.
use Rattle.std.proofs.Common.{◌≡◌, ◌∙◌, ℕ, zero, suc, ◌+◌, ◌*◌, ◌<◌, Bool, true, false, List, [], ◌∷◌, ◌++◌, length, Ok, refl, sym, subst, arith, cond}
use Rattle.std.specs.Prelude.{◌&&◌, ◌||◌, ◌==◌, nat_lt, not}
use Rattle.std.specs.Char.{digit_value, encode_utf8}
use Rattle.std.specs.Int.{is_in_range}
use Rattle.std.proofs.lemmas.Bool.Decides.{nat_tests}
use Rattle.contract_words.specs.Grammar.{Rule, byte, seq, many, first}
use Rattle.json_text.specs.Place.{Rest}
use Rattle.json_text.specs.Reading.{Reads, ◌>>=◌, with_front, one_of, this, hex, two_more, low_half, from_d, unit, is_short, short, escape, is_plain, piece, text, quoted}
use Rattle.json_text.specs.Grammar.{one, hex_rule, two_digits, low_rule, behind_d, unit_rule, escape_rule, piece_rule, text_rule}
use Rattle.contract_words.specs.Rows.{run}
use Rattle.contract_words.proofs.Machine.{run-steps, run-seq, step-right, step-left, step-turn, step-end}
use Rattle.json_text.proofs.Runs.{follows_from, Goes-shorter, Follows, follows_then, follows_bind, follows_same, follows_less, goes_on}
use Rattle.json_text.proofs.Parts.{here, behind_it, byte_goes, byte_stops, stops_here, stops_same, this_follows, one_of_follows}
use Rattle.json_text.proofs.NumberParts.{first_byte}
use Rattle.json_text.proofs.Turns.{text-bad}

begins : (a b : Bool) → a ≡ b → (a || (false && false)) ≡ b
begins true b is = is
begins false b is = is

-- the value of a digit that was read
abbrev valued : ℕ × Rest → Reads ℕ
valued p = Ok (digit_value p.0, p.1)

abbrev in_utf8 : ℕ × Rest → Reads (List ℕ)
in_utf8 p = Ok (encode_utf8 p.0, p.1)

abbrev as_itself : ℕ × Rest → Reads (List ℕ)
as_itself p = Ok (p.0 ∷ [], p.1)

abbrev low_units : Rule
low_units = seq (hex_rule 0 7) two_digits

abbrev high_units : Rule
high_units = seq (hex_rule 8 11) (seq two_digits low_rule)

abbrev other_first : ℕ → Bool
other_first b = is_in_range 0 15 (digit_value b) && not (digit_value b == 13)

abbrev other_units : Rule
other_units = seq (byte other_first) (seq (hex_rule 0 15) two_digits)

abbrev d_units : Rule
d_units = seq (hex_rule 13 13) behind_d

-- digits by their values
module _ (v : ℕ) where
  small_high_v : is_in_range 0 11 v ≡ true → nat_lt v 8 ≡ true → (is_in_range 8 11 v || (false && false)) ≡ false
  small_high_v r s = grind (arith, nat_tests)

  small_low_v : is_in_range 0 11 v ≡ true → nat_lt v 8 ≡ true → is_in_range 0 7 v ≡ true
  small_low_v r s = grind (arith, nat_tests)

  large_low_v : is_in_range 0 11 v ≡ true → nat_lt v 8 ≡ false → (is_in_range 0 7 v || (false && false)) ≡ false
  large_low_v r s = grind (arith, nat_tests)

  large_high_v : is_in_range 0 11 v ≡ true → nat_lt v 8 ≡ false → is_in_range 8 11 v ≡ true
  large_high_v r s = grind (arith, nat_tests)

  none_low_v : is_in_range 0 11 v ≡ false → (is_in_range 0 7 v || (false && false)) ≡ false
  none_low_v r = grind (arith, nat_tests)

  none_high_v : is_in_range 0 11 v ≡ false → is_in_range 8 11 v ≡ false
  none_high_v r = grind (arith, nat_tests)

  d_other_v : is_in_range 0 15 v ≡ true → (v == 13) ≡ true → ((is_in_range 0 15 v && not (v == 13)) || (false && false)) ≡ false
  d_other_v r d = grind (arith, nat_tests)

  d_is_v : (v == 13) ≡ true → is_in_range 13 13 v ≡ true
  d_is_v d = grind (arith, nat_tests)

  other_d_v : (v == 13) ≡ false → (is_in_range 13 13 v || (false && false)) ≡ false
  other_d_v d = grind (arith, nat_tests)

  other_is_v : is_in_range 0 15 v ≡ true → (v == 13) ≡ false → (is_in_range 0 15 v && not (v == 13)) ≡ true
  other_is_v r d = grind (arith, nat_tests)

  none_other_v : is_in_range 0 15 v ≡ false → ((is_in_range 0 15 v && not (v == 13)) || (false && false)) ≡ false
  none_other_v r = grind (arith, nat_tests)

  none_d_v : is_in_range 0 15 v ≡ false → is_in_range 13 13 v ≡ false
  none_d_v r = grind (arith, nat_tests)

module _ (x : ℕ) where
  small_high : is_in_range 0 11 (digit_value x) ≡ true → nat_lt (digit_value x) 8 ≡ true → first high_units x ≡ false
  small_high = small_high_v (digit_value x)

  small_low : is_in_range 0 11 (digit_value x) ≡ true → nat_lt (digit_value x) 8 ≡ true → is_in_range 0 7 (digit_value x) ≡ true
  small_low = small_low_v (digit_value x)

  large_low : is_in_range 0 11 (digit_value x) ≡ true → nat_lt (digit_value x) 8 ≡ false → first low_units x ≡ false
  large_low = large_low_v (digit_value x)

  large_high : is_in_range 0 11 (digit_value x) ≡ true → nat_lt (digit_value x) 8 ≡ false → is_in_range 8 11 (digit_value x) ≡ true
  large_high = large_high_v (digit_value x)

  none_low : is_in_range 0 11 (digit_value x) ≡ false → first low_units x ≡ false
  none_low = none_low_v (digit_value x)

  none_high : is_in_range 0 11 (digit_value x) ≡ false → is_in_range 8 11 (digit_value x) ≡ false
  none_high = none_high_v (digit_value x)

  d_other : is_in_range 0 15 (digit_value x) ≡ true → (digit_value x == 13) ≡ true → first other_units x ≡ false
  d_other = d_other_v (digit_value x)

  d_is : (digit_value x == 13) ≡ true → is_in_range 13 13 (digit_value x) ≡ true
  d_is = d_is_v (digit_value x)

  other_d : (digit_value x == 13) ≡ false → first d_units x ≡ false
  other_d = other_d_v (digit_value x)

  other_is : is_in_range 0 15 (digit_value x) ≡ true → (digit_value x == 13) ≡ false → other_first x ≡ true
  other_is = other_is_v (digit_value x)

  none_other : is_in_range 0 15 (digit_value x) ≡ false → first other_units x ≡ false
  none_other = none_other_v (digit_value x)

  none_d : is_in_range 0 15 (digit_value x) ≡ false → is_in_range 13 13 (digit_value x) ≡ false
  none_d = none_d_v (digit_value x)

  u_short : (x == 117) ≡ true → is_short x ≡ false
  u_short is = grind (arith, nat_tests)

quote_ends : (x : ℕ) → (x == 34) ≡ true → (is_plain x || ((x == 92) || (false && false))) ≡ false
quote_ends x is = grind (arith, nat_tests)

slash_plain : (x : ℕ) → (x == 92) ≡ true → is_plain x ≡ false
slash_plain x is = grind (arith, nat_tests)

piece_first : (x : ℕ) → is_plain x ≡ false → (x == 92) ≡ false → (is_plain x || ((x == 92) || (false && false))) ≡ false
piece_first x p s = rw (p, s) refl

differs : (b c : ℕ) → (b == c) ≡ false → b ≡ c → ⊥
differs b c is h = grind (arith, nat_tests)

first_cases : (a b : Bool) → (a || (b || (false && false))) ≡ false → (a ≡ false) × (b ≡ false)
first_cases true b h = absurd cc
first_cases false true h = absurd cc
first_cases false false h = (refl, refl)

module _ (deeper : Bool) where
  hex_follows : (low high : ℕ) → is_in_range low high (digit_value 0) ≡ false → (rs : List Rule) (r : Rest)
      → Follows behind_it deeper 1 (run (hex_rule low high ∷ rs) r.left) r rs (hex low high r)
  hex_follows low high none rs r =
      let kind : ℕ → Bool = λ b. is_in_range low high (digit_value b) in
      follows_bind behind_it behind_it deeper 1 0 _ r rs rs (one_of kind r) (λ p. Ok (digit_value p.0, p.1)) (one_of_follows deeper kind none rs r)
      (λ p. goes_on (run rs p.1.left) p.1 rs refl)

  two_more_follows : (front : ℕ) (rs : List Rule) (r : Rest) → Follows behind_it deeper 1 (run (two_digits ∷ rs) r.left) r rs (two_more front r)
  unfolding two_more
  two_more_follows front rs r =
      follows_same behind_it deeper 1 _ _ r rs _ (run-seq (hex_rule 0 15) (hex_rule 0 15) rs r.left)
      (follows_bind behind_it behind_it deeper 1 0 _ r (hex_rule 0 15 ∷ rs) rs (hex 0 15 r) (λ a. hex 0 15 a.1 >>= λ b. Ok (front * 256 + a.0 * 16 + b.0, b.1)) (hex_follows 0 15 refl (hex_rule 0 15 ∷ rs) r)
      (λ a. follows_less behind_it deeper 0 1 _ a.1 rs _ (omega arith)
      (follows_bind behind_it behind_it deeper 1 0 _ a.1 rs rs (hex 0 15 a.1) (λ b. Ok (front * 256 + a.0 * 16 + b.0, b.1)) (hex_follows 0 15 refl rs a.1)
      (λ b. goes_on (run rs b.1.left) b.1 rs refl))))

  low_half_follows : (high : ℕ) (rs : List Rule) (r : Rest) → Follows behind_it deeper 1 (run (low_rule ∷ rs) r.left) r rs (low_half high r)
  unfolding low_half
  low_half_follows high rs r =
      let last : List Rule = two_digits ∷ rs in
      let second : Rule = seq (hex_rule 12 15) two_digits in
      let third : Rule = seq (hex_rule 13 13) second in
      follows_same behind_it deeper 1 _ _ r rs _ (run-seq (one 92) (seq (one 117) third) rs r.left)
      (follows_bind behind_it behind_it deeper 1 0 _ r (second ∷ rs) rs (this 92 r >>= this 117 >>= hex 13 13)
      _
      (follows_bind here behind_it deeper 1 0 _ r (third ∷ rs) (second ∷ rs) (this 92 r >>= this 117) (hex 13 13)
      (follows_bind here here deeper 1 0 _ r (seq (one 117) third ∷ rs) (third ∷ rs) (this 92 r) (this 117) (this_follows deeper 92 refl (seq (one 117) third ∷ rs) r)
      (λ q. follows_less here deeper 0 1 _ q (third ∷ rs) _ (omega arith) (follows_same here deeper 1 _ _ q (third ∷ rs) (this 117 q) (run-seq (one 117) third rs q.left) (this_follows deeper 117 refl (third ∷ rs) q))))
      (λ q. follows_less behind_it deeper 0 1 _ q (second ∷ rs) _ (omega arith) (follows_same behind_it deeper 1 _ _ q (second ∷ rs) (hex 13 13 q) (run-seq (hex_rule 13 13) second rs q.left) (hex_follows 13 13 refl (second ∷ rs) q))))
      (λ a. follows_less behind_it deeper 0 1 _ a.1 rs _ (omega arith)
      (follows_same behind_it deeper 1 _ _ a.1 rs _ (run-seq (hex_rule 12 15) two_digits rs a.1.left)
      (follows_bind behind_it behind_it deeper 1 0 _ a.1 last rs (hex 12 15 a.1) _ (hex_follows 12 15 refl last a.1)
      (λ b. follows_less behind_it deeper 0 1 _ b.1 rs _ (omega arith)
      (follows_bind behind_it behind_it deeper 1 0 _ b.1 rs rs (two_more (208 + b.0) b.1) _ (two_more_follows (208 + b.0) rs b.1)
      (λ low. goes_on (run rs low.1.left) low.1 rs refl)))))))

  -- behind a first digit D
  d_case : (rs : List Rule) (at x : ℕ) (xs : List ℕ) (s : Bool) → is_in_range 0 11 (digit_value x) ≡ true → nat_lt (digit_value x) 8 ≡ s
      → Follows behind_it deeper 1 (run (behind_d ∷ rs) (x ∷ xs)) (record { at = at; left = x ∷ xs }) rs
      (two_more (208 + digit_value x) (record { at = at + 1; left = xs }) >>= λ p. cond s (Ok p) (low_half p.0 p.1))
  d_case rs at x xs true is small =
      let mid : Rest = record { at = at + 1; left = xs } in
      let start : Rest = record { at = at; left = x ∷ xs } in
      let res : Reads ℕ = two_more (208 + digit_value x) mid >>= λ p. Ok p in
      follows_less behind_it deeper 1 2 _ start rs res (omega arith)
      (follows_same behind_it deeper 2 _ _ start rs res
      (run-steps (behind_d ∷ rs) (low_units ∷ rs) x xs (step-left low_units high_units rs x (small_high x is small) refl) ∙ run-seq (hex_rule 0 7) two_digits rs (x ∷ xs))
      (follows_then behind_it deeper 1 1 _ start mid (two_digits ∷ rs) rs res (byte_goes (λ b. is_in_range 0 7 (digit_value b)) (two_digits ∷ rs) at x xs (small_low x is small))
      (follows_bind behind_it behind_it deeper 1 0 _ mid rs rs (two_more (208 + digit_value x) mid) (λ p. Ok p) (two_more_follows (208 + digit_value x) rs mid) (λ p. goes_on (run rs p.1.left) p.1 rs refl))))
  d_case rs at x xs false is small =
      let mid : Rest = record { at = at + 1; left = xs } in
      let start : Rest = record { at = at; left = x ∷ xs } in
      let res : Reads ℕ = two_more (208 + digit_value x) mid >>= λ p. low_half p.0 p.1 in
      follows_less behind_it deeper 1 3 _ start rs res (omega arith)
      (follows_same behind_it deeper 3 _ _ start rs res
      (run-steps (behind_d ∷ rs) (high_units ∷ rs) x xs (step-right low_units high_units rs x (large_low x is small) refl) ∙ run-seq (hex_rule 8 11) (seq two_digits low_rule) rs (x ∷ xs))
      (follows_then behind_it deeper 1 2 _ start mid (seq two_digits low_rule ∷ rs) rs res (byte_goes (λ b. is_in_range 8 11 (digit_value b)) (seq two_digits low_rule ∷ rs) at x xs (large_high x is small))
      (follows_same behind_it deeper 2 _ _ mid rs res (run-seq two_digits low_rule rs xs)
      (follows_bind behind_it behind_it deeper 1 1 _ mid (low_rule ∷ rs) rs (two_more (208 + digit_value x) mid) (λ p. low_half p.0 p.1) (two_more_follows (208 + digit_value x) (low_rule ∷ rs) mid) (λ p. low_half_follows p.0 rs p.1)))))

  from_d_case : (rs : List Rule) (at x : ℕ) (xs : List ℕ) (t : Bool) → is_in_range 0 11 (digit_value x) ≡ t
      → Follows behind_it deeper 1 (run (behind_d ∷ rs) (x ∷ xs)) (record { at = at; left = x ∷ xs }) rs
      (first_byte t at x xs >>= valued >>= λ b. two_more (208 + b.0) b.1 >>= λ p. cond (nat_lt b.0 8) (Ok p) (low_half p.0 p.1))
  from_d_case rs at x xs true is = d_case rs at x xs (nat_lt (digit_value x) 8) is refl
  from_d_case rs at x xs false is =
      stops_same _ _ (record { at = at; left = x ∷ xs }) at
      (run-steps (behind_d ∷ rs) (high_units ∷ rs) x xs (step-right low_units high_units rs x (none_low x is) refl) ∙ run-seq (hex_rule 8 11) (seq two_digits low_rule) rs (x ∷ xs))
      (byte_stops (λ b. is_in_range 8 11 (digit_value b)) (seq two_digits low_rule ∷ rs) at x xs (none_high x is))

  from_d_at : (rs : List Rule) (at : ℕ) (left : List ℕ) → Follows behind_it deeper 1 (run (behind_d ∷ rs) left) (record { at = at; left = left }) rs (from_d (record { at = at; left = left }))
  unfolding from_d
  from_d_at rs at [] = stops_here (record { at = at; left = [] })
  from_d_at rs at (x ∷ xs) = from_d_case rs at x xs (is_in_range 0 11 (digit_value x)) refl

  -- behind `\u`
  u_case : (rs : List Rule) (at x : ℕ) (xs : List ℕ) (d : Bool) → is_in_range 0 15 (digit_value x) ≡ true → (digit_value x == 13) ≡ d
      → Follows behind_it deeper 1 (run (unit_rule ∷ rs) (x ∷ xs)) (record { at = at; left = x ∷ xs }) rs
      (cond d (from_d (record { at = at + 1; left = xs })) (hex 0 15 (record { at = at + 1; left = xs }) >>= λ b. two_more (digit_value x * 16 + b.0) b.1))
  u_case rs at x xs true is d =
      let mid : Rest = record { at = at + 1; left = xs } in
      let start : Rest = record { at = at; left = x ∷ xs } in
      follows_less behind_it deeper 1 2 _ start rs (from_d mid) (omega arith)
      (follows_same behind_it deeper 2 _ _ start rs (from_d mid)
      (run-steps (unit_rule ∷ rs) (d_units ∷ rs) x xs (step-right other_units d_units rs x (d_other x is d) refl) ∙ run-seq (hex_rule 13 13) behind_d rs (x ∷ xs))
      (follows_then behind_it deeper 1 1 _ start mid (behind_d ∷ rs) rs (from_d mid) (byte_goes (λ b. is_in_range 13 13 (digit_value b)) (behind_d ∷ rs) at x xs (d_is x d)) (from_d_at rs (at + 1) xs)))
  u_case rs at x xs false is d =
      let mid : Rest = record { at = at + 1; left = xs } in
      let start : Rest = record { at = at; left = x ∷ xs } in
      let res : Reads ℕ = hex 0 15 mid >>= λ b. two_more (digit_value x * 16 + b.0) b.1 in
      follows_less behind_it deeper 1 3 _ start rs res (omega arith)
      (follows_same behind_it deeper 3 _ _ start rs res
      (run-steps (unit_rule ∷ rs) (other_units ∷ rs) x xs (step-left other_units d_units rs x (other_d x d) refl) ∙ run-seq (byte other_first) (seq (hex_rule 0 15) two_digits) rs (x ∷ xs))
      (follows_then behind_it deeper 1 2 _ start mid (seq (hex_rule 0 15) two_digits ∷ rs) rs res (byte_goes other_first (seq (hex_rule 0 15) two_digits ∷ rs) at x xs (other_is x is d))
      (follows_same behind_it deeper 2 _ _ mid rs res (run-seq (hex_rule 0 15) two_digits rs xs)
      (follows_bind behind_it behind_it deeper 1 1 _ mid (two_digits ∷ rs) rs (hex 0 15 mid) (λ b. two_more (digit_value x * 16 + b.0) b.1) (hex_follows 0 15 refl (two_digits ∷ rs) mid)
      (λ b. two_more_follows (digit_value x * 16 + b.0) rs b.1)))))

  unit_case : (rs : List Rule) (at x : ℕ) (xs : List ℕ) (t : Bool) → is_in_range 0 15 (digit_value x) ≡ t
      → Follows behind_it deeper 1 (run (unit_rule ∷ rs) (x ∷ xs)) (record { at = at; left = x ∷ xs }) rs
      (first_byte t at x xs >>= valued >>= λ a. cond (a.0 == 13) (from_d a.1) (hex 0 15 a.1 >>= λ b. two_more (a.0 * 16 + b.0) b.1))
  unit_case rs at x xs true is = u_case rs at x xs (digit_value x == 13) is refl
  unit_case rs at x xs false is =
      stops_same _ _ (record { at = at; left = x ∷ xs }) at
      (run-steps (unit_rule ∷ rs) (d_units ∷ rs) x xs (step-right other_units d_units rs x (none_other x is) refl) ∙ run-seq (hex_rule 13 13) behind_d rs (x ∷ xs))
      (byte_stops (λ b. is_in_range 13 13 (digit_value b)) (behind_d ∷ rs) at x xs (none_d x is))

  unit_at : (rs : List Rule) (at : ℕ) (left : List ℕ) → Follows behind_it deeper 1 (run (unit_rule ∷ rs) left) (record { at = at; left = left }) rs (unit (record { at = at; left = left }))
  unfolding unit
  unit_at rs at [] = stops_here (record { at = at; left = [] })
  unit_at rs at (x ∷ xs) = unit_case rs at x xs (is_in_range 0 15 (digit_value x)) refl

  -- behind a backslash
  escape_case : (rs : List Rule) (at x : ℕ) (xs : List ℕ) (t : Bool) → (x == 117) ≡ t
      → Follows behind_it deeper 1 (run (escape_rule ∷ rs) (x ∷ xs)) (record { at = at; left = x ∷ xs }) rs
      (cond t (unit (record { at = at + 1; left = xs })) (one_of is_short (record { at = at; left = x ∷ xs }) >>= λ p. Ok (short p.0, p.1)))
  escape_case rs at x xs true is =
      let mid : Rest = record { at = at + 1; left = xs } in
      let start : Rest = record { at = at; left = x ∷ xs } in
      follows_less behind_it deeper 1 2 _ start rs (unit mid) (omega arith)
      (follows_same behind_it deeper 2 _ _ start rs (unit mid)
      (run-steps (escape_rule ∷ rs) (seq (one 117) unit_rule ∷ rs) x xs (step-right (byte is_short) (seq (one 117) unit_rule) rs x (u_short x is) refl) ∙ run-seq (one 117) unit_rule rs (x ∷ xs))
      (follows_then behind_it deeper 1 1 _ start mid (unit_rule ∷ rs) rs (unit mid) (byte_goes (λ b. b == 117) (unit_rule ∷ rs) at x xs is) (unit_at rs (at + 1) xs)))
  escape_case rs at x xs false is =
      let start : Rest = record { at = at; left = x ∷ xs } in
      let res : Reads ℕ = one_of is_short start >>= λ p. Ok (short p.0, p.1) in
      follows_same behind_it deeper 1 _ _ start rs res
      (run-steps (escape_rule ∷ rs) (byte is_short ∷ rs) x xs (step-left (byte is_short) (seq (one 117) unit_rule) rs x (begins (x == 117) false is) refl))
      (follows_bind behind_it behind_it deeper 1 0 _ start rs rs (one_of is_short start) (λ p. Ok (short p.0, p.1)) (one_of_follows deeper is_short refl rs start) (λ p. goes_on (run rs p.1.left) p.1 rs refl))

  escape_at : (rs : List Rule) (at : ℕ) (left : List ℕ) → Follows behind_it deeper 1 (run (escape_rule ∷ rs) left) (record { at = at; left = left }) rs (escape (record { at = at; left = left }))
  unfolding escape
  escape_at rs at [] = stops_here (record { at = at; left = [] })
  escape_at rs at (x ∷ xs) = escape_case rs at x xs (x == 117) refl

  -- a byte that stands for itself, or an escape
  piece_case : (rs : List Rule) (at x : ℕ) (xs : List ℕ) (t : Bool) → (x == 92) ≡ t
      → Follows behind_it deeper 1 (run (piece_rule ∷ rs) (x ∷ xs)) (record { at = at; left = x ∷ xs }) rs
      (cond t (escape (record { at = at + 1; left = xs }) >>= in_utf8) (one_of is_plain (record { at = at; left = x ∷ xs }) >>= as_itself))
  piece_case rs at x xs true is =
      let mid : Rest = record { at = at + 1; left = xs } in
      let start : Rest = record { at = at; left = x ∷ xs } in
      let res : Reads (List ℕ) = escape mid >>= in_utf8 in
      follows_less behind_it deeper 1 2 _ start rs res (omega arith)
      (follows_same behind_it deeper 2 _ _ start rs res
      (run-steps (piece_rule ∷ rs) (seq (one 92) escape_rule ∷ rs) x xs (step-right (byte is_plain) (seq (one 92) escape_rule) rs x (slash_plain x is) refl) ∙ run-seq (one 92) escape_rule rs (x ∷ xs))
      (follows_then behind_it deeper 1 1 _ start mid (escape_rule ∷ rs) rs res (byte_goes (λ b. b == 92) (escape_rule ∷ rs) at x xs is)
      (follows_bind behind_it behind_it deeper 1 0 _ mid rs rs (escape mid) in_utf8 (escape_at rs (at + 1) xs) (λ p. goes_on (run rs p.1.left) p.1 rs refl))))
  piece_case rs at x xs false is =
      let start : Rest = record { at = at; left = x ∷ xs } in
      let res : Reads (List ℕ) = one_of is_plain start >>= as_itself in
      follows_same behind_it deeper 1 _ _ start rs res
      (run-steps (piece_rule ∷ rs) (byte is_plain ∷ rs) x xs (step-left (byte is_plain) (seq (one 92) escape_rule) rs x (begins (x == 92) false is) refl))
      (follows_bind behind_it behind_it deeper 1 0 _ start rs rs (one_of is_plain start) as_itself (one_of_follows deeper is_plain refl rs start) (λ p. goes_on (run rs p.1.left) p.1 rs refl))

  front_follows : (front : List ℕ) (a : ℕ) (o : ℕ × Bool) (start : Rest) (rs : List Rule) (read : Reads (List ℕ)) → Follows behind_it deeper a o start rs read → Follows behind_it deeper a o start rs (with_front front read)
  front_follows front a o start rs read h =
      follows_less behind_it deeper a (a + 0) o start rs (with_front front read) (omega arith)
      (follows_bind behind_it behind_it deeper a 0 o start rs rs read (λ p. Ok (front ++ p.0, p.1)) h (λ p. goes_on (run rs p.1.left) p.1 rs refl))

  -- the rest of a text
  text_step : (n : ℕ) (rs : List Rule) (at x : ℕ) (xs : List ℕ)
      → ((r : Rest) → length r.left < n → Follows behind_it deeper 1 (run (many piece_rule ∷ one 34 ∷ rs) r.left) r rs (text n r)) → length (x ∷ xs) < suc n
      → (f : Bool) → first piece_rule x ≡ f → (x == 34) ≡ false
      → Follows behind_it deeper 1 (run (many piece_rule ∷ one 34 ∷ rs) (x ∷ xs)) (record { at = at; left = x ∷ xs }) rs (text (suc n) (record { at = at; left = x ∷ xs }))
  unfolding text
  text_step n rs at x xs below enough true is quote =
      let start : Rest = record { at = at; left = x ∷ xs } in
      let rows : List Rule = many piece_rule ∷ one 34 ∷ rs in
      let res : Reads (List ℕ) = piece start >>= λ p. with_front p.0 (text n p.1) in
      subst (λ (t : Bool). Follows behind_it deeper 1 (run rows (x ∷ xs)) start rs (cond t (Ok ([], record { at = at + 1; left = xs })) res)) (sym quote)
      (follows_less behind_it deeper 1 2 _ start rs res (omega arith)
      (follows_same behind_it deeper 2 _ _ start rs res (run-steps rows (piece_rule ∷ rows) x xs (step-turn piece_rule (one 34 ∷ rs) x is))
      (follows_from behind_it behind_it deeper 1 1 _ start rows rs (piece start) (λ p. with_front p.0 (text n p.1)) (piece_case rows at x xs (x == 92) refl)
      (λ p g. front_follows p.0 1 _ p.1 rs (text n p.1) (below p.1 (omega (arith, Goes-shorter _ start rows p.1 g)))))))
  text_step n rs at x xs below enough false is quote =
      let start : Rest = record { at = at; left = x ∷ xs } in
      let none = first_cases (is_plain x) (x == 92) is in
      subst (λ (res : Reads (List ℕ)). Follows behind_it deeper 1 (run (many piece_rule ∷ one 34 ∷ rs) (x ∷ xs)) start rs res) (sym (text-bad n start (differs x 34 quote) (differs x 92 none.1) none.0))
      (stops_same _ _ start at (run-steps (many piece_rule ∷ one 34 ∷ rs) (one 34 ∷ rs) x xs (step-end piece_rule (one 34 ∷ rs) x is)) (byte_stops (λ b. b == 34) rs at x xs quote))

  text_case : (n : ℕ) (rs : List Rule) (at x : ℕ) (xs : List ℕ)
      → ((r : Rest) → length r.left < n → Follows behind_it deeper 1 (run (many piece_rule ∷ one 34 ∷ rs) r.left) r rs (text n r)) → length (x ∷ xs) < suc n
      → (t : Bool) → (x == 34) ≡ t
      → Follows behind_it deeper 1 (run (many piece_rule ∷ one 34 ∷ rs) (x ∷ xs)) (record { at = at; left = x ∷ xs }) rs (text (suc n) (record { at = at; left = x ∷ xs }))
  unfolding text
  text_case n rs at x xs below enough true is =
      let start : Rest = record { at = at; left = x ∷ xs } in
      let rows : List Rule = many piece_rule ∷ one 34 ∷ rs in
      let res : Reads (List ℕ) = piece start >>= λ p. with_front p.0 (text n p.1) in
      subst (λ (t : Bool). Follows behind_it deeper 1 (run rows (x ∷ xs)) start rs (cond t (Ok ([], record { at = at + 1; left = xs })) res)) (sym is)
      (follows_same (behind_it {X = List ℕ}) deeper 1 _ _ start rs (Ok ([], record { at = at + 1; left = xs })) (run-steps rows (one 34 ∷ rs) x xs (step-end piece_rule (one 34 ∷ rs) x (quote_ends x is))) (byte_goes (λ b. b == 34) rs at x xs is))
  text_case n rs at x xs below enough false is = text_step n rs at x xs below enough (first piece_rule x) refl is

  text_left : (n : ℕ) (rs : List Rule) (at : ℕ) (left : List ℕ) → length left < suc n
      → ((r : Rest) → length r.left < n → Follows behind_it deeper 1 (run (many piece_rule ∷ one 34 ∷ rs) r.left) r rs (text n r))
      → Follows behind_it deeper 1 (run (many piece_rule ∷ one 34 ∷ rs) left) (record { at = at; left = left }) rs (text (suc n) (record { at = at; left = left }))
  unfolding text
  text_left n rs at [] enough below = stops_here (record { at = at; left = [] })
  text_left n rs at (x ∷ xs) enough below = text_case n rs at x xs below enough (x == 34) refl

  text_at : (n : ℕ) (rs : List Rule) (r : Rest) → length r.left < n → Follows behind_it deeper 1 (run (many piece_rule ∷ one 34 ∷ rs) r.left) r rs (text n r)
  text_at zero rs r enough = absurd (omega arith)
  text_at (suc n) rs r enough = text_left n rs r.at r.left enough (text_at n rs)

  pub quoted_follows : (rs : List Rule) (r : Rest) → Follows behind_it deeper 1 (run (text_rule ∷ rs) r.left) r rs (quoted r)
  quoted_follows rs r =
      let tail : Rule = seq (many piece_rule) (one 34) in
      follows_less behind_it deeper 1 2 _ r rs (quoted r) (omega arith)
      (follows_same behind_it deeper 2 _ _ r rs (quoted r) (run-seq (one 34) tail rs r.left)
      (follows_bind here behind_it deeper 1 1 _ r (tail ∷ rs) rs (this 34 r) (λ q. text (length q.left + 1) q) (this_follows deeper 34 refl (tail ∷ rs) r)
      (λ q. follows_same behind_it deeper 1 _ _ q rs (text (length q.left + 1) q) (run-seq (many piece_rule) (one 34) rs q.left) (text_at (length q.left + 1) rs q (omega arith)))))
