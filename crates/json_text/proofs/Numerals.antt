-- What is passed as a number is spelled as one.
use Rattle.std.proofs.Common.{◌≡◌, ◌∙◌, ℕ, zero, suc, ◌+◌, ◌-◌, Bool, true, false, List, [], ◌∷◌, ◌++◌, length, take, drop, get_or, Result, Ok, Err, inl, inr, arith, refl, sym, ap, append_assoc, length-append, cond}
use Rattle.std.specs.Prelude.{◌⊎◌, ◌==◌}
use Rattle.std.specs.List.{prefix_len}
use Rattle.std.specs.Str.{IsUtf8, IsCharBoundary}
use Rattle.std.proofs.lemmas.Bool.Decides.{nat_tests}
use Rattle.std.proofs.lemmas.Str.{IsCharBoundary-at_seam}
use Rattle.contract_words.specs.Grammar.{Rule, nothing, byte, alt, seq, many}
use Rattle.pdata_value.specs.Numeral.{optional, is_digit, is_leading, digits, int, frac, is_e, is_sign, exp, numeral}
use Rattle.json_text.specs.Place.{Rest, head, past, behind}
use Rattle.json_text.specs.Reading.{◌>>=◌, one_of, some_digits, integer, fraction, exponent, passed, number_end}
use Rattle.json_text.specs.Spelled.{Spelled}
use Rattle.json_text.specs.declared.error.JsonFault.{JsonFault}

pub bind_ok : {A B : Type 0} (m : Result A JsonFault) (f : A → Result B JsonFault) (y : B) → (m >>= f) ≡ Ok y → (x : A) × (m ≡ Ok x) × (f x ≡ Ok y)
bind_ok (Ok x) f y is = (x, refl, is)
bind_ok (Err e) f y is = absurd cc

pub by_test : {X : Type 0} (t : Bool) (a b y : X) → cond t a b ≡ y → ((t ≡ true) × (a ≡ y)) ⊎ ((t ≡ false) × (b ≡ y))
by_test true a b y is = inl (refl, is)
by_test false a b y is = inr (refl, is)

pub ok_same : {A : Type 0} (x y : A) → ◌≡◌ {A = Result A JsonFault} (Ok x) (Ok y) → x ≡ y
ok_same x y is = cc

pub Spelled-nothing : (r : Rest) → Spelled nothing r r
Spelled-nothing r = record { word = []; whole = refl; place = omega arith; spelled = refl }

pub Spelled-left : (a b : Rule) (r s : Rest) → Spelled a r s → Spelled (alt a b) r s
Spelled-left a b r s l = record { word = l.word; whole = l.whole; place = l.place; spelled = inl l.spelled }

pub Spelled-right : (a b : Rule) (r s : Rest) → Spelled b r s → Spelled (alt a b) r s
Spelled-right a b r s l = record { word = l.word; whole = l.whole; place = l.place; spelled = inr l.spelled }

pub Spelled-seq : (a b : Rule) (r s t : Rest) → Spelled a r s → Spelled b s t → Spelled (seq a b) r t
Spelled-seq a b r s t l m = record {
  word = l.word ++ m.word;
  whole = l.whole ∙ ap (λ (z : List ℕ). l.word ++ z) m.whole ∙ sym (append_assoc l.word m.word t.left);
  place = omega (arith, l.place, m.place, length-append l.word m.word);
  spelled = (l.word, m.word, l.spelled, m.spelled, refl);
}

byte_at : (kind : ℕ → Bool) (at : ℕ) (left : List ℕ) → kind (get_or left 0 0) ≡ true → kind 0 ≡ false
    → Spelled (byte kind) (record { at = at; left = left }) (record { at = at + 1; left = drop 1 left })
byte_at kind at [] is none = absurd cc
byte_at kind at (x ∷ xs) is none = record { word = x ∷ []; whole = refl; place = refl; spelled = (x, is, refl) }

pub Spelled-byte : (kind : ℕ → Bool) (r : Rest) → kind (head r) ≡ true → kind 0 ≡ false → Spelled (byte kind) r (past 1 r)
Spelled-byte kind r is none = byte_at kind r.at r.left is none

many_step : (kind : ℕ → Bool) (at x : ℕ) (xs : List ℕ)
    → Spelled (many (byte kind)) (record { at = at + 1; left = xs }) (record { at = at + 1 + prefix_len kind xs; left = drop (prefix_len kind xs) xs })
    → (t : Bool) → kind x ≡ t
    → Spelled (many (byte kind)) (record { at = at; left = x ∷ xs })
    (record { at = at + cond t (suc (prefix_len kind xs)) 0; left = drop (cond t (suc (prefix_len kind xs)) 0) (x ∷ xs) })
many_step kind at x xs rest true is = record {
  word = x ∷ rest.word;
  whole = ap (λ (z : List ℕ). x ∷ z) rest.whole;
  place = omega (arith, rest.place);
  spelled = (suc rest.spelled.0, (x ∷ [], rest.word, (x, is, refl), rest.spelled.1, refl));
}
many_step kind at x xs rest false is = record { word = []; whole = refl; place = refl; spelled = (zero, refl) }

many_at : (kind : ℕ → Bool) (at : ℕ) (left : List ℕ)
    → Spelled (many (byte kind)) (record { at = at; left = left }) (record { at = at + prefix_len kind left; left = drop (prefix_len kind left) left })
many_at kind at [] = record { word = []; whole = refl; place = refl; spelled = (zero, refl) }
many_at kind at (x ∷ xs) =
    let one_more : 1 + prefix_len kind xs ≡ suc (prefix_len kind xs) = omega arith in
    rw one_more (many_step kind at x xs (many_at kind (at + 1) xs) (kind x) refl)

pub Spelled-many : (kind : ℕ → Bool) (r : Rest) → Spelled (many (byte kind)) r (behind kind r)
Spelled-many kind r = many_at kind r.at r.left

-- one byte that may be missing
pub Spelled-passed : (kind : ℕ → Bool) (r : Rest) → kind 0 ≡ false → Spelled (optional (byte kind)) r (passed kind r)
Spelled-passed kind r none = by_kind (kind (head r)) refl where
  by_kind : (t : Bool) → kind (head r) ≡ t → Spelled (optional (byte kind)) r (cond t (past 1 r) r)
  by_kind true is = Spelled-left (byte kind) nothing r (past 1 r) (Spelled-byte kind r is none)
  by_kind false is = Spelled-right (byte kind) nothing r r (Spelled-nothing r)

-- a byte that one_of read
one_of_ok : (kind : ℕ → Bool) (r : Rest) (p : ℕ × Rest) → one_of kind r ≡ Ok p → (kind (head r) ≡ true) × (p.0 ≡ head r) × (p.1 ≡ past 1 r)
one_of_ok kind r p is =
    elim (by_test (kind (head r)) _ _ _ is) [
      | inl taken ↦ let same : (head r, past 1 r) ≡ p = ok_same _ _ taken.1 in (taken.0, ap (λ (q : ℕ × Rest). q.0) (sym same), ap (λ (q : ℕ × Rest). q.1) (sym same))
      | inr other ↦ absurd (let e = other.1 in cc)
    ]

pub some_digits-spelled : (r e : Rest) → some_digits r ≡ Ok e → Spelled digits r e
some_digits-spelled r e is =
    let one = bind_ok (one_of is_digit r) (λ p. Ok (behind is_digit p.1)) e is in
    let first = one_of_ok is_digit r one.0 one.1 in
    let last : behind is_digit (past 1 r) ≡ e = ap (λ (s : Rest). behind is_digit s) (sym first.2) ∙ ok_same _ _ one.2 in
    rw (← last) (Spelled-seq (byte is_digit) (many (byte is_digit)) r (past 1 r) (behind is_digit (past 1 r)) (Spelled-byte is_digit r first.0 refl) (Spelled-many is_digit (past 1 r)))

leading : (b : ℕ) → is_digit b ≡ true → (b == 48) ≡ false → is_leading b ≡ true
leading b digit more = grind (arith, nat_tests)

pub integer-spelled : (r e : Rest) → integer r ≡ Ok e → Spelled int r e
integer-spelled r e is =
    let one = bind_ok (one_of is_digit r) (λ p. cond (p.0 == 48) (Ok p.1) (Ok (behind is_digit p.1))) e is in
    let first = one_of_ok is_digit r one.0 one.1 in
    elim (by_test (one.0.0 == 48) _ _ _ one.2) [
      | inl zero_first ↦
          let last : past 1 r ≡ e = sym first.2 ∙ ok_same _ _ zero_first.1 in
          let is_zero : (head r == 48) ≡ true = ap (λ (n : ℕ). n == 48) (sym first.1) ∙ zero_first.0 in
          rw (← last) (Spelled-left (byte (λ b. b == 48)) (seq (byte is_leading) (many (byte is_digit))) r (past 1 r) (Spelled-byte (λ b. b == 48) r is_zero refl))
      | inr more ↦
          let last : behind is_digit (past 1 r) ≡ e = ap (λ (s : Rest). behind is_digit s) (sym first.2) ∙ ok_same _ _ more.1 in
          let no_zero : (head r == 48) ≡ false = ap (λ (n : ℕ). n == 48) (sym first.1) ∙ more.0 in
          rw (← last) (Spelled-right (byte (λ b. b == 48)) (seq (byte is_leading) (many (byte is_digit))) r (behind is_digit (past 1 r))
          (Spelled-seq (byte is_leading) (many (byte is_digit)) r (past 1 r) (behind is_digit (past 1 r)) (Spelled-byte is_leading r (leading (head r) first.0 no_zero) refl) (Spelled-many is_digit (past 1 r))))
    ]

pub fraction-spelled : (r e : Rest) → fraction r ≡ Ok e → Spelled (optional frac) r e
fraction-spelled r e is =
    elim (by_test (head r == 46) _ _ _ is) [
      | inl taken ↦ Spelled-left frac nothing r e (Spelled-seq (byte (λ b. b == 46)) digits r (past 1 r) e (Spelled-byte (λ b. b == 46) r taken.0 refl) (some_digits-spelled (past 1 r) e taken.1))
      | inr other ↦ let last : r ≡ e = ok_same _ _ other.1 in rw (← last) (Spelled-right frac nothing r r (Spelled-nothing r))
    ]

pub exponent-spelled : (r e : Rest) → exponent r ≡ Ok e → Spelled (optional exp) r e
exponent-spelled r e is =
    elim (by_test (is_e (head r)) _ _ _ is) [
      | inl taken ↦
          let sign = passed is_sign (past 1 r) in
          Spelled-left exp nothing r e
          (Spelled-seq (byte is_e) (seq (optional (byte is_sign)) digits) r (past 1 r) e (Spelled-byte is_e r taken.0 refl)
          (Spelled-seq (optional (byte is_sign)) digits (past 1 r) sign e (Spelled-passed is_sign (past 1 r) refl) (some_digits-spelled sign e taken.1)))
      | inr other ↦ let last : r ≡ e = ok_same _ _ other.1 in rw (← last) (Spelled-right exp nothing r r (Spelled-nothing r))
    ]

pub number_end-spelled : (r e : Rest) → number_end r ≡ Ok e → Spelled numeral r e
unfolding number_end
number_end-spelled r e is =
    let start = passed (λ b. b == 45) r in
    let second = bind_ok (integer start >>= fraction) exponent e is in
    let first = bind_ok (integer start) fraction second.0 second.1 in
    Spelled-seq (optional (byte (λ b. b == 45))) (seq int (seq (optional frac) (optional exp))) r start e (Spelled-passed (λ b. b == 45) r refl)
    (Spelled-seq int (seq (optional frac) (optional exp)) start first.0 e (integer-spelled start first.0 first.1)
    (Spelled-seq (optional frac) (optional exp) first.0 second.0 e (fraction-spelled first.0 second.0 first.2) (exponent-spelled second.0 e second.2)))

-- the bytes between two places
take_front : (front left : List ℕ) → take (length front) (front ++ left) ≡ front
take_front [] left = refl
take_front (x ∷ xs) left = ap (λ ys. x ∷ ys) (take_front xs left)

pub Spelled-length : (rule : Rule) (r e : Rest) (s : Spelled rule r e) → length r.left ≡ length s.word + length e.left
Spelled-length rule r e s = ap (λ (z : List ℕ). length z) s.whole ∙ length-append s.word e.left

pub Spelled-word : (rule : Rule) (r e : Rest) (s : Spelled rule r e) → take (length r.left - length e.left) r.left ≡ s.word
Spelled-word rule r e s =
    let count : length r.left - length e.left ≡ length s.word = omega (arith, Spelled-length rule r e s) in
    rw (count, s.whole) (take_front s.word e.left)

-- the same of a range from 0 on
pub Spelled-range : (rule : Rule) (r e : Rest) (s : Spelled rule r e) → take (length r.left - length e.left - 0) r.left ≡ s.word
Spelled-range rule r e s = let all : length r.left - length e.left - 0 ≡ length r.left - length e.left = omega arith in rw all (Spelled-word rule r e s)

pub Spelled-cut : (rule : Rule) (r e : Rest) → Spelled rule r e → IsUtf8 e.left → IsCharBoundary r.left (length r.left - length e.left)
Spelled-cut rule r e s utf8 =
    let count : length r.left - length e.left ≡ length s.word = omega (arith, Spelled-length rule r e s) in
    rw count (IsCharBoundary-at_seam r.left s.word e.left s.whole utf8)
