-- A text that was written is read again.
use Rattle.std.proofs.Common.{◌≡◌, ◌∙◌, ℕ, zero, suc, ◌+◌, ◌*◌, ◌/◌, ◌%◌, ◌<◌, Bool, true, false, List, [], ◌∷◌, ◌++◌, length, Result, Ok, refl, ap, subst, arith, cond, append_assoc, length-append}
use Rattle.std.specs.Prelude.{◌==◌, codes}
use Rattle.std.specs.Char.{digit_value, digit_char}
use Rattle.std.specs.Int.{is_in_range}
use Rattle.std.proofs.lemmas.Bool.Decides.{nat_tests}
use Rattle.std.proofs.lemmas.Str.{digit_value-digit_char, encode_ascii}
use Rattle.json_text.specs.Place.{Rest}
use Rattle.json_text.specs.Reading.{Reads, ◌>>=◌, with_front, these, hex, two_more, unit, is_short, short, escape, is_plain, text, quoted}
use Rattle.json_text.specs.Writing.{escape_of, bytes_text, quoted_text}
use Rattle.json_text.specs.declared.error.JsonFault.{JsonFault}
use Rattle.json_text.proofs.Turns.{one_of-is, text-plain, text-quote, text-escape, cond-true, cond-false, in_utf8, goes_on}

-- a place further on
abbrev pub rest_at : ℕ → List ℕ → Rest
rest_at at left = record { at = at; left = left }

pub placed_rest : (n m : ℕ) (left : List ℕ) → n ≡ m → rest_at n left ≡ rest_at m left
placed_rest n m left is = ap (λ (k : ℕ). rest_at k left) is

same_byte : (b : ℕ) → (b == b) ≡ true
same_byte b = grind (arith, nat_tests)

pub these_read : (word rest : List ℕ) (at : ℕ) → these word (record { at = at; left = word ++ rest }) ≡ Ok (record { at = at + length word; left = rest })
these_read [] rest at = ap (λ (r : Rest). Ok r) (placed_rest at (at + 0) rest (omega arith))
these_read (b ∷ bs) rest at =
    ap (λ (m : Result Rest JsonFault). m >>= these bs) (cond-true (b == b) (Ok (record { at = at + 1; left = bs ++ rest })) _ (same_byte b))
    ∙ these_read bs rest (at + 1) ∙ ap (λ (r : Rest). Ok r) (placed_rest (at + 1 + length bs) (at + suc (length bs)) rest (omega arith))

-- a hexadecimal digit
in_range : (d : ℕ) → d < 16 → is_in_range 0 15 d ≡ true
in_range d h = grind (arith, nat_tests)

hex_read : (d at : ℕ) (rest : List ℕ) → d < 16 → hex 0 15 (record { at = at; left = digit_char d ∷ rest }) ≡ Ok (d, record { at = at + 1; left = rest })
hex_read d at rest less =
    let value : digit_value (digit_char d) ≡ d = digit_value-digit_char d (omega arith) in
    ap (λ (m : Reads ℕ). m >>= λ p. Ok (digit_value p.0, p.1))
    (one_of-is (λ b. is_in_range 0 15 (digit_value b)) (record { at = at; left = digit_char d ∷ rest }) (ap (λ (n : ℕ). is_in_range 0 15 n) value ∙ in_range d less))
    ∙ ap (λ (n : ℕ). Ok (n, record { at = at + 1; left = rest })) value

two_read : (front c d at : ℕ) (rest : List ℕ) → c < 16 → d < 16
    → two_more front (record { at = at; left = digit_char c ∷ digit_char d ∷ rest }) ≡ Ok (front * 256 + c * 16 + d, record { at = at + 1 + 1; left = rest })
unfolding two_more
two_read front c d at rest less_c less_d =
    ap (λ (m : Reads ℕ). m >>= λ a. hex 0 15 a.1 >>= λ b. Ok (front * 256 + a.0 * 16 + b.0, b.1)) (hex_read c at (digit_char d ∷ rest) less_c)
    ∙ ap (λ (m : Reads ℕ). m >>= λ b. Ok (front * 256 + c * 16 + b.0, b.1)) (hex_read d (at + 1) rest less_d)

-- the escape of a control character
code_read : (b at : ℕ) (rest : List ℕ) → b < 32
    → escape (record { at = at; left = 117 ∷ 48 ∷ 48 ∷ digit_char (b / 16) ∷ digit_char (b % 16) ∷ rest }) ≡ Ok (b, record { at = at + 5; left = rest })
unfolding escape unit
code_read b at rest less =
    let code : (0 * 16 + 0) * 256 + b / 16 * 16 + b % 16 ≡ b = omega arith in
    let place : at + 1 + 1 + 1 + 1 + 1 ≡ at + 5 = omega arith in
    two_read (0 * 16 + 0) (b / 16) (b % 16) (at + 1 + 1 + 1) rest (omega arith) (omega arith)
    ∙ ap (λ (n : ℕ). Ok (n, record { at = at + 1 + 1 + 1 + 1 + 1; left = rest })) code ∙ ap (λ (n : ℕ). Ok (b, record { at = n; left = rest })) place

pub short_read : (letter at : ℕ) (rest : List ℕ) → (letter == 117) ≡ false → is_short letter ≡ true → escape (record { at = at; left = letter ∷ rest }) ≡ Ok (short letter, record { at = at + 1; left = rest })
unfolding escape
short_read letter at rest other is =
    cond-false (letter == 117) _ _ other ∙ ap (λ (m : Reads ℕ). m >>= λ p. Ok (short p.0, p.1)) (one_of-is is_short (record { at = at; left = letter ∷ rest }) is)

-- the escape that is written for a byte
pub record Escaped (b : ℕ) : Type 0 where
  pub behind : List ℕ
  pub written : escape_of b ≡ 92 ∷ behind
  pub read : (at : ℕ) (rest : List ℕ) → escape (record { at = at; left = behind ++ rest }) ≡ Ok (b, record { at = at + length behind; left = rest })

abbrev other_code : ℕ → List ℕ
other_code b = codes "\\u00" ++ digit_char (b / 16) ∷ digit_char (b % 16) ∷ []

same_number : (a b : ℕ) → (a == b) ≡ true → b ≡ a
same_number a b is = grind (arith, nat_tests)

control : (b : ℕ) → is_plain b ≡ false → (b == 34) ≡ false → (b == 92) ≡ false → b < 32
control b p q s = grind (arith, nat_tests)

letter_read : (b letter : ℕ) → escape_of b ≡ 92 ∷ letter ∷ [] → (letter == 117) ≡ false → is_short letter ≡ true → short letter ≡ b → Escaped b
letter_read b letter written other is same = record {
  behind = letter ∷ [];
  written = written;
  read = λ at rest. short_read letter at rest other is ∙ ap (λ (n : ℕ). Ok (n, record { at = at + 1; left = rest })) same;
}

code_escaped : (b : ℕ) → b < 32 → escape_of b ≡ other_code b → Escaped b
code_escaped b less written = record {
  behind = 117 ∷ 48 ∷ 48 ∷ digit_char (b / 16) ∷ digit_char (b % 16) ∷ [];
  written = written;
  read = λ at rest. code_read b at rest less;
}

by_tests : (b : ℕ) → is_plain b ≡ false → (s t u v w x y : Bool) → (b == 34) ≡ s → (b == 92) ≡ t → (b == 8) ≡ u → (b == 12) ≡ v → (b == 10) ≡ w → (b == 13) ≡ x → (b == 9) ≡ y → Escaped b
by_tests b plain true t u v w x y a1 a2 a3 a4 a5 a6 a7 = subst Escaped (same_number b 34 a1) (letter_read 34 34 refl refl refl refl)
by_tests b plain false true u v w x y a1 a2 a3 a4 a5 a6 a7 = subst Escaped (same_number b 92 a2) (letter_read 92 92 refl refl refl refl)
by_tests b plain false false true v w x y a1 a2 a3 a4 a5 a6 a7 = subst Escaped (same_number b 8 a3) (letter_read 8 98 refl refl refl refl)
by_tests b plain false false false true w x y a1 a2 a3 a4 a5 a6 a7 = subst Escaped (same_number b 12 a4) (letter_read 12 102 refl refl refl refl)
by_tests b plain false false false false true x y a1 a2 a3 a4 a5 a6 a7 = subst Escaped (same_number b 10 a5) (letter_read 10 110 refl refl refl refl)
by_tests b plain false false false false false true y a1 a2 a3 a4 a5 a6 a7 = subst Escaped (same_number b 13 a6) (letter_read 13 114 refl refl refl refl)
by_tests b plain false false false false false false true a1 a2 a3 a4 a5 a6 a7 = subst Escaped (same_number b 9 a7) (letter_read 9 116 refl refl refl refl)
by_tests b plain false false false false false false false a1 a2 a3 a4 a5 a6 a7 = code_escaped b (control b plain a1 a2) (rw (a1, a2, a3, a4, a5, a6, a7) refl)

pub escaped : (b : ℕ) → is_plain b ≡ false → Escaped b
escaped b plain = by_tests b plain (b == 34) (b == 92) (b == 8) (b == 12) (b == 10) (b == 13) (b == 9) refl refl refl refl refl refl refl

ascii : (b : ℕ) → is_plain b ≡ false → b < 128
ascii b p = grind (arith, nat_tests)

shifted : (n b t : ℕ) → n ≡ b + t → suc n ≡ 1 + b + t
shifted n b t is = omega (arith, is)

one_more : (b t : ℕ) → suc b + t ≡ 1 + b + t
one_more b t = omega arith

ends : (n b : ℕ) → n ≡ b + 1 → suc n ≡ 1 + b + 1
ends n b is = omega (arith, is)

-- the bytes of a text, up to the closing quote
abbrev TextRead : List ℕ → List ℕ → Type 0
TextRead bytes rest = (n at : ℕ) → length (bytes_text bytes ++ 34 ∷ rest) < n → text n (rest_at at (bytes_text bytes ++ 34 ∷ rest)) ≡ Ok (bytes, rest_at (at + length (bytes_text bytes) + 1) rest)

byte_read : (b : ℕ) (bytes rest : List ℕ) → TextRead bytes rest → (t : Bool) → is_plain b ≡ t → (n at : ℕ) → length ((cond t (b ∷ []) (escape_of b) ++ bytes_text bytes) ++ 34 ∷ rest) < suc n
    → text (suc n) (rest_at at ((cond t (b ∷ []) (escape_of b) ++ bytes_text bytes) ++ 34 ∷ rest)) ≡ Ok (b ∷ bytes, rest_at (at + length (cond t (b ∷ []) (escape_of b) ++ bytes_text bytes) + 1) rest)
byte_read b bytes rest below true plain n at enough =
    let tail : List ℕ = bytes_text bytes ++ 34 ∷ rest in
    text-plain n (rest_at at (b ∷ tail)) plain ∙ ap (with_front (b ∷ [])) (below n (at + 1) (omega arith))
    ∙ ap (λ (r : Rest). Ok (b ∷ bytes, r)) (placed_rest (at + 1 + length (bytes_text bytes) + 1) (at + suc (length (bytes_text bytes)) + 1) rest (omega arith))
byte_read b bytes rest below false plain n at enough =
    let tail : List ℕ = bytes_text bytes ++ 34 ∷ rest in
    let e = escaped b plain in
    let left : (escape_of b ++ bytes_text bytes) ++ 34 ∷ rest ≡ 92 ∷ (e.behind ++ tail) = append_assoc (escape_of b) (bytes_text bytes) (34 ∷ rest) ∙ ap (λ (z : List ℕ). z ++ tail) e.written in
    let count : length ((escape_of b ++ bytes_text bytes) ++ 34 ∷ rest) ≡ 1 + length e.behind + length tail = ap (λ (z : List ℕ). length z) left ∙ shifted (length (e.behind ++ tail)) (length e.behind) (length tail) (length-append e.behind tail) in
    let size : length (escape_of b ++ bytes_text bytes) ≡ 1 + length e.behind + length (bytes_text bytes) = length-append (escape_of b) (bytes_text bytes) ∙ ap (λ (z : List ℕ). length z + length (bytes_text bytes)) e.written ∙ one_more (length e.behind) (length (bytes_text bytes)) in
    ap (λ (l : List ℕ). text (suc n) (rest_at at l)) left
    ∙ text-escape n (rest_at at (92 ∷ (e.behind ++ tail))) refl
    ∙ ap (λ (m : Reads ℕ). m >>= in_utf8 >>= goes_on n) (e.read (at + 1) tail)
    ∙ ap (λ (front : List ℕ). with_front front (text n (rest_at (at + 1 + length e.behind) tail))) (encode_ascii b (ascii b plain))
    ∙ ap (with_front (b ∷ [])) (below n (at + 1 + length e.behind) (omega (arith, count)))
    ∙ ap (λ (r : Rest). Ok (b ∷ bytes, r)) (placed_rest (at + 1 + length e.behind + length (bytes_text bytes) + 1) (at + length (escape_of b ++ bytes_text bytes) + 1) rest (omega (arith, size)))

bytes_read : (bytes rest : List ℕ) → TextRead bytes rest
bytes_read [] rest zero at enough = absurd (omega arith)
bytes_read [] rest (suc n) at enough = text-quote n (rest_at at (34 ∷ rest)) refl ∙ ap (λ (r : Rest). Ok ([], r)) (placed_rest (at + 1) (at + 0 + 1) rest (omega arith))
bytes_read (b ∷ bytes) rest zero at enough = absurd (omega arith)
bytes_read (b ∷ bytes) rest (suc n) at enough = byte_read b bytes rest (bytes_read bytes rest) (is_plain b) refl n at enough

-- a text in quotes
pub quoted_read : (t rest : List ℕ) (at : ℕ) → quoted (rest_at at (quoted_text t ++ rest)) ≡ Ok (t, rest_at (at + length (quoted_text t)) rest)
quoted_read t rest at =
    let body : List ℕ = bytes_text t ++ 34 ∷ rest in
    let left : quoted_text t ++ rest ≡ 34 ∷ body = ap (λ (z : List ℕ). 34 ∷ z) (append_assoc (bytes_text t) (34 ∷ []) rest) in
    let size : length (quoted_text t) ≡ 1 + length (bytes_text t) + 1 = ends (length (bytes_text t ++ 34 ∷ [])) (length (bytes_text t)) (length-append (bytes_text t) (34 ∷ [])) in
    ap (λ (l : List ℕ). quoted (rest_at at l)) left
    ∙ bytes_read t rest (length body + 1) (at + 1) (omega arith)
    ∙ ap (λ (r : Rest). Ok (t, r)) (placed_rest (at + 1 + length (bytes_text t) + 1) (at + length (quoted_text t)) rest (omega (arith, size)))
