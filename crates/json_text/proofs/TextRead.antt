-- A text that is spelled is read.
use Rattle.std.proofs.Common.{◌≡◌, ◌∙◌, ℕ, zero, suc, ◌+◌, ◌*◌, ◌≤◌, ◌<◌, Bool, true, false, List, [], ◌∷◌, ◌++◌, length, Option, Some, None, Result, Ok, Err, refl, ap, arith, cond, append_assoc, length-append}
use Rattle.std.specs.Prelude.{◌==◌, ◌&&◌, nat_lt, nat_le}
use Rattle.std.specs.Char.{digit_value, encode_utf8}
use Rattle.std.specs.Char.Utf16.{is_high_surrogate, is_low_surrogate, lone_unit_char, surrogate_pair_char}
use Rattle.std.specs.Int.{is_in_range}
use Rattle.std.proofs.lemmas.Bool.Decides.{nat_tests}
use Rattle.json_text.specs.Place.{Rest}
use Rattle.json_text.specs.Reading.{Reads, ◌>>=◌, with_front, this, hex, two_more, low_half, from_d, unit, is_short, short, escape, is_plain, piece, text, quoted}
use Rattle.json_text.specs.Spelling as spelling
use Rattle.json_text.specs.Spelling.{ShortEscape, IsHex, SpellsUnit, SpellsEscape, SpellsPiece, SpellsPieces, SpellsText}
use Rattle.json_text.specs.declared.error.JsonFault.{JsonFault}
use Rattle.json_text.specs.declared.error.JsonFault.TheVariants.{BadJson}
use Rattle.json_text.proofs.Turns.{cond-true, cond-false, one_of-is, text-quote}
use Rattle.json_text.proofs.TextBack.{rest_at, placed_rest, short_read}

pub bound : {A B : Type 0} (m : Result A JsonFault) (f : A → Result B JsonFault) (x : A) (res : Result B JsonFault) → m ≡ Ok x → f x ≡ res → (m >>= f) ≡ res
bound {A = A} m f x res is goes = ap (λ (n : Result A JsonFault). n >>= f) is ∙ goes

pub same_byte : (b : ℕ) → (b == b) ≡ true
same_byte b = grind (arith, nat_tests)

pub this_read : (b at : ℕ) (rest : List ℕ) → this b (rest_at at (b ∷ rest)) ≡ Ok (rest_at (at + 1) rest)
this_read b at rest = cond-true (b == b) (Ok (rest_at (at + 1) rest)) (Err (BadJson at)) (same_byte b)

-- Digits.
digit_read : (low high d at : ℕ) (rest : List ℕ) → is_in_range low high (digit_value d) ≡ true → hex low high (rest_at at (d ∷ rest)) ≡ Ok (digit_value d, rest_at (at + 1) rest)
digit_read low high d at rest is =
    ap (λ (m : Reads ℕ). m >>= λ p. Ok (digit_value p.0, p.1)) (one_of-is (λ b. is_in_range low high (digit_value b)) (rest_at at (d ∷ rest)) is)

hex_range : (v : ℕ) → v < 16 → is_in_range 0 15 v ≡ true
hex_range v h = grind (arith, nat_tests)

two_read : (front c d at : ℕ) (rest : List ℕ) → IsHex c → IsHex d → two_more front (rest_at at (c ∷ d ∷ rest)) ≡ Ok (front * 256 + digit_value c * 16 + digit_value d, rest_at (at + 1 + 1) rest)
unfolding two_more
two_read front c d at rest hex_c hex_d =
    bound _ _ _ _ (digit_read 0 15 c at (d ∷ rest) (hex_range (digit_value c) hex_c)) (bound _ _ _ _ (digit_read 0 15 d (at + 1) rest (hex_range (digit_value d) hex_d)) refl)

-- Units of UTF-16 by the values of their digits.
abbrev code_of : ℕ → ℕ → ℕ → ℕ → ℕ
code_of a b c d = a * 4096 + b * 256 + c * 16 + d

abbrev is_surrogate : ℕ → Bool
is_surrogate u = nat_le 55296 u && nat_lt u 57344

lone_case : (t : Bool) (u x : ℕ) → ◌≡◌ {A = Option ℕ} (cond t None (Some u)) (Some x) → (t ≡ false) × (u ≡ x)
lone_case true u x is = absurd cc
lone_case false u x is = (refl, cc)

lone_of : (u x : ℕ) → lone_unit_char u ≡ Some x → (is_surrogate u ≡ false) × (u ≡ x)
lone_of u x is = lone_case (is_surrogate u) u x is

module _ (a b c d : ℕ) (less_a : a < 16) (less_b : b < 16) (less_c : c < 16) (less_d : d < 16) where
  lone_d : (a == 13) ≡ true → is_surrogate (code_of a b c d) ≡ false → nat_lt b 8 ≡ true
  lone_d is none = grind (arith, nat_tests)

  high_a : is_high_surrogate (code_of a b c d) ≡ true → (a == 13) ≡ true
  high_a is = grind (arith, nat_tests)

  high_range : is_high_surrogate (code_of a b c d) ≡ true → is_in_range 0 11 b ≡ true
  high_range is = grind (arith, nat_tests)

  high_large : is_high_surrogate (code_of a b c d) ≡ true → nat_lt b 8 ≡ false
  high_large is = grind (arith, nat_tests)

  low_a : is_low_surrogate (code_of a b c d) ≡ true → is_in_range 13 13 a ≡ true
  low_a is = grind (arith, nat_tests)

  low_range : is_low_surrogate (code_of a b c d) ≡ true → is_in_range 12 15 b ≡ true
  low_range is = grind (arith, nat_tests)

  other_code : (a * 16 + b) * 256 + c * 16 + d ≡ code_of a b c d
  other_code = omega arith

  d_code : a ≡ 13 → (208 + b) * 256 + c * 16 + d ≡ code_of a b c d
  d_code is = omega (arith, is)

small_range : (b : ℕ) → nat_lt b 8 ≡ true → is_in_range 0 11 b ≡ true
small_range b is = grind (arith, nat_tests)

thirteen : (a : ℕ) → (a == 13) ≡ true → a ≡ 13
thirteen a is = grind (arith, nat_tests)

thirteen_range : (a : ℕ) → is_in_range 13 13 a ≡ true → a ≡ 13
thirteen_range a is = grind (arith, nat_tests)

-- Characters behind `\u`.
module _ (a b c d : ℕ) (hex_a : IsHex a) (hex_b : IsHex b) (hex_c : IsHex c) (hex_d : IsHex d) where
  abbrev code : ℕ
  code = code_of (digit_value a) (digit_value b) (digit_value c) (digit_value d)

  -- behind a first digit D
  lone_d_read : (at : ℕ) (rest : List ℕ) → digit_value a ≡ 13 → nat_lt (digit_value b) 8 ≡ true → from_d (rest_at at (b ∷ c ∷ d ∷ rest)) ≡ Ok (code, rest_at (at + 1 + 1 + 1) rest)
  unfolding from_d
  lone_d_read at rest is small =
      bound _ _ _ _ (digit_read 0 11 b at (c ∷ d ∷ rest) (small_range (digit_value b) small))
      (bound _ _ _ _ (two_read (208 + digit_value b) c d (at + 1) rest hex_c hex_d)
      (cond-true (nat_lt (digit_value b) 8) _ _ small ∙ ap (λ (n : ℕ). Ok (n, rest_at (at + 1 + 1 + 1) rest)) (d_code (digit_value a) (digit_value b) (digit_value c) (digit_value d) hex_a hex_b hex_c hex_d is)))

  first_read : (at : ℕ) (rest : List ℕ) → hex 0 15 (rest_at at (a ∷ b ∷ c ∷ d ∷ rest)) ≡ Ok (digit_value a, rest_at (at + 1) (b ∷ c ∷ d ∷ rest))
  first_read at rest = digit_read 0 15 a at (b ∷ c ∷ d ∷ rest) (hex_range (digit_value a) hex_a)

  lone_read : (at : ℕ) (rest : List ℕ) → is_surrogate code ≡ false → (t : Bool) → (digit_value a == 13) ≡ t → unit (rest_at at (a ∷ b ∷ c ∷ d ∷ rest)) ≡ Ok (code, rest_at (at + 1 + 1 + 1 + 1) rest)
  unfolding unit
  lone_read at rest none true is =
      bound _ _ _ _ (first_read at rest)
      (cond-true (digit_value a == 13) _ _ is
      ∙ lone_d_read (at + 1) rest (thirteen (digit_value a) is) (lone_d (digit_value a) (digit_value b) (digit_value c) (digit_value d) hex_a hex_b hex_c hex_d is none))
  lone_read at rest none false is =
      bound _ _ _ _ (first_read at rest)
      (cond-false (digit_value a == 13) _ _ is
      ∙ bound _ _ _ _ (digit_read 0 15 b (at + 1) (c ∷ d ∷ rest) (hex_range (digit_value b) hex_b))
      (two_read (digit_value a * 16 + digit_value b) c d (at + 1 + 1) rest hex_c hex_d
      ∙ ap (λ (n : ℕ). Ok (n, rest_at (at + 1 + 1 + 1 + 1) rest)) (other_code (digit_value a) (digit_value b) (digit_value c) (digit_value d) hex_a hex_b hex_c hex_d)))

  low_read : (high at : ℕ) (rest : List ℕ) → is_low_surrogate code ≡ true
      → low_half high (rest_at at (92 ∷ 117 ∷ a ∷ b ∷ c ∷ d ∷ rest)) ≡ Ok (surrogate_pair_char high code, rest_at (at + 1 + 1 + 1 + 1 + 1 + 1) rest)
  unfolding low_half
  low_read high at rest low =
      let in_a : is_in_range 13 13 (digit_value a) ≡ true = low_a (digit_value a) (digit_value b) (digit_value c) (digit_value d) hex_a hex_b hex_c hex_d low in
      let in_b : is_in_range 12 15 (digit_value b) ≡ true = low_range (digit_value a) (digit_value b) (digit_value c) (digit_value d) hex_a hex_b hex_c hex_d low in
      bound _ _ _ _
      (bound (this 92 (rest_at at (92 ∷ 117 ∷ a ∷ b ∷ c ∷ d ∷ rest)) >>= this 117) (hex 13 13) (rest_at (at + 1 + 1) (a ∷ b ∷ c ∷ d ∷ rest)) _
      (bound _ (this 117) _ _ (this_read 92 at (117 ∷ a ∷ b ∷ c ∷ d ∷ rest)) (this_read 117 (at + 1) (a ∷ b ∷ c ∷ d ∷ rest)))
      (digit_read 13 13 a (at + 1 + 1) (b ∷ c ∷ d ∷ rest) in_a))
      (bound _ _ _ _ (digit_read 12 15 b (at + 1 + 1 + 1) (c ∷ d ∷ rest) in_b)
      (bound _ _ _ _ (two_read (208 + digit_value b) c d (at + 1 + 1 + 1 + 1) rest hex_c hex_d)
      (ap (λ (n : ℕ). Ok (surrogate_pair_char high n, rest_at (at + 1 + 1 + 1 + 1 + 1 + 1) rest))
      (d_code (digit_value a) (digit_value b) (digit_value c) (digit_value d) hex_a hex_b hex_c hex_d (thirteen_range (digit_value a) in_a)))))

  -- a high surrogate, and what is read behind it
  high_read : (at : ℕ) (tail : List ℕ) (res : Reads ℕ) → is_high_surrogate code ≡ true → low_half code (rest_at (at + 1 + 1 + 1 + 1) tail) ≡ res → unit (rest_at at (a ∷ b ∷ c ∷ d ∷ tail)) ≡ res
  unfolding unit from_d
  high_read at tail res high read =
      let is_a : (digit_value a == 13) ≡ true = high_a (digit_value a) (digit_value b) (digit_value c) (digit_value d) hex_a hex_b hex_c hex_d high in
      let in_b : is_in_range 0 11 (digit_value b) ≡ true = high_range (digit_value a) (digit_value b) (digit_value c) (digit_value d) hex_a hex_b hex_c hex_d high in
      let large : nat_lt (digit_value b) 8 ≡ false = high_large (digit_value a) (digit_value b) (digit_value c) (digit_value d) hex_a hex_b hex_c hex_d high in
      bound _ _ _ _ (first_read at tail)
      (cond-true (digit_value a == 13) _ _ is_a
      ∙ bound _ _ _ _ (digit_read 0 11 b (at + 1) (c ∷ d ∷ tail) in_b)
      (bound _ _ _ _ (two_read (208 + digit_value b) c d (at + 1 + 1) tail hex_c hex_d)
      (cond-false (nat_lt (digit_value b) 8) _ _ large
      ∙ ap (λ (n : ℕ). low_half n (rest_at (at + 1 + 1 + 1 + 1) tail)) (d_code (digit_value a) (digit_value b) (digit_value c) (digit_value d) hex_a hex_b hex_c hex_d (thirteen (digit_value a) is_a)) ∙ read)))

-- Escapes.

-- how an escape is read behind its backslash
record Escaped (word : List ℕ) (character : ℕ) : Type 0 where
  behind : List ℕ
  is : word ≡ 92 ∷ behind
  read : (at : ℕ) (rest : List ℕ) → escape (rest_at at (behind ++ rest)) ≡ Ok (character, rest_at (at + length behind) rest)

letter_facts : (letter character : ℕ) → ShortEscape letter character → ((letter == 117) ≡ false) × (is_short letter ≡ true) × (short letter ≡ character)
letter_facts _ _ spelling.quote = (refl, refl, refl)
letter_facts _ _ spelling.backslash = (refl, refl, refl)
letter_facts _ _ spelling.solidus = (refl, refl, refl)
letter_facts _ _ spelling.backspace = (refl, refl, refl)
letter_facts _ _ spelling.form_feed = (refl, refl, refl)
letter_facts _ _ spelling.line_feed = (refl, refl, refl)
letter_facts _ _ spelling.carriage_return = (refl, refl, refl)
letter_facts _ _ spelling.tab = (refl, refl, refl)

-- behind `\u`
behind_u : (at : ℕ) (left : List ℕ) (res : Reads ℕ) → unit (rest_at (at + 1) left) ≡ res → escape (rest_at at (117 ∷ left)) ≡ res
unfolding escape
behind_u at left res is = is

unit_escaped : (digits : List ℕ) (character : ℕ) → ((at : ℕ) (rest : List ℕ) → unit (rest_at at (digits ++ rest)) ≡ Ok (character, rest_at (at + length digits) rest)) → Escaped (92 ∷ 117 ∷ digits) character
unit_escaped digits character read = record {
  behind = 117 ∷ digits;
  is = refl;
  read = λ at rest. behind_u at (digits ++ rest) _ (read (at + 1) rest) ∙ ap (λ (r : Rest). Ok (character, r)) (placed_rest (at + 1 + length digits) (at + suc (length digits)) rest (omega arith));
}

escaped : (word : List ℕ) (character : ℕ) → SpellsEscape word character → Escaped word character
escaped _ _ (spelling.short letter character h) =
    let facts = letter_facts letter character h in
    record {
      behind = letter ∷ [];
      is = refl;
      read = λ at rest. short_read letter at rest facts.0 facts.1 ∙ ap (λ (n : ℕ). Ok (n, rest_at (at + 1) rest)) facts.2;
    }
escaped _ _ (spelling.lone text code character (spelling.unit a b c d hex_a hex_b hex_c hex_d) is) =
    let value : ℕ = code_of (digit_value a) (digit_value b) (digit_value c) (digit_value d) in
    let facts = lone_of value character is in
    unit_escaped (a ∷ b ∷ c ∷ d ∷ []) character
    (λ at rest. lone_read a b c d hex_a hex_b hex_c hex_d at rest facts.0 (digit_value a == 13) refl ∙ ap (λ (n : ℕ). Ok (n, rest_at (at + 1 + 1 + 1 + 1) rest)) facts.1
    ∙ ap (λ (r : Rest). Ok (character, r)) (placed_rest (at + 1 + 1 + 1 + 1) (at + 4) rest (omega arith)))
escaped _ _ (spelling.pair first second high low (spelling.unit a b c d hex_a hex_b hex_c hex_d) (spelling.unit e f g h hex_e hex_f hex_g hex_h) is_high is_low) =
    let top : ℕ = code_of (digit_value a) (digit_value b) (digit_value c) (digit_value d) in
    let low : ℕ = code_of (digit_value e) (digit_value f) (digit_value g) (digit_value h) in
    unit_escaped (a ∷ b ∷ c ∷ d ∷ 92 ∷ 117 ∷ e ∷ f ∷ g ∷ h ∷ []) (surrogate_pair_char top low)
    (λ at rest. high_read a b c d hex_a hex_b hex_c hex_d at (92 ∷ 117 ∷ e ∷ f ∷ g ∷ h ∷ rest) _ is_high (low_read e f g h hex_e hex_f hex_g hex_h top (at + 1 + 1 + 1 + 1) rest is_low)
    ∙ ap (λ (r : Rest). Ok (surrogate_pair_char top low, r)) (placed_rest (at + 1 + 1 + 1 + 1 + 1 + 1 + 1 + 1 + 1 + 1) (at + 10) rest (omega arith)))

-- Texts.

-- how a piece is read
record PieceRead (word spelled : List ℕ) : Type 0 where
  byte : ℕ
  behind : List ℕ
  is : word ≡ byte ∷ behind
  no_quote : (byte == 34) ≡ false
  read : (at : ℕ) (rest : List ℕ) → piece (rest_at at (byte ∷ (behind ++ rest))) ≡ Ok (spelled, rest_at (at + suc (length behind)) rest)

other_byte : (b c : ℕ) → (b ≡ c → ⊥) → (b == c) ≡ false
other_byte b c h = grind (arith, nat_tests)

plain_of : (b : ℕ) → 32 ≤ b → (b == 34) ≡ false → (b == 92) ≡ false → is_plain b ≡ true
plain_of b most quote slash = grind (arith, nat_tests)

piece_read : (word spelled : List ℕ) → SpellsPiece word spelled → PieceRead word spelled
piece_read _ _ (spelling.plain b most no_quote no_slash) =
    let quote = other_byte b 34 no_quote in
    let slash = other_byte b 92 no_slash in
    record {
      byte = b;
      behind = [];
      is = refl;
      no_quote = quote;
      read = λ at rest. cond-false (b == 92) _ _ slash ∙ bound _ _ _ _ (one_of-is is_plain (rest_at at (b ∷ rest)) (plain_of b most quote slash)) refl;
    }
piece_read _ _ (spelling.escape text character h) =
    let e = escaped text character h in
    record {
      byte = 92;
      behind = e.behind;
      is = e.is;
      no_quote = refl;
      read = λ at rest. bound (escape (rest_at (at + 1) (e.behind ++ rest))) _ _ _ (e.read (at + 1) rest)
          (ap (λ (r : Rest). Ok (encode_utf8 character, r)) (placed_rest (at + 1 + length e.behind) (at + suc (length e.behind)) rest (omega arith)));
    }

text_goes : (n at : ℕ) (byte : ℕ) (tail spelled more : List ℕ) (mid to : Rest) → (byte == 34) ≡ false → piece (rest_at at (byte ∷ tail)) ≡ Ok (spelled, mid) → text n mid ≡ Ok (more, to)
    → text (suc n) (rest_at at (byte ∷ tail)) ≡ Ok (spelled ++ more, to)
unfolding text
text_goes n at byte tail spelled more mid to quote first rest =
    cond-false (byte == 34) _ _ quote ∙ bound _ _ _ _ first (ap (with_front spelled) rest)

text_read : (inside spelled : List ℕ) → SpellsPieces inside spelled → (n at : ℕ) (rest : List ℕ) → length inside < n
    → text n (rest_at at (inside ++ 34 ∷ rest)) ≡ Ok (spelled, rest_at (at + length inside + 1) rest)
text_read inside spelled pieces zero at rest enough = absurd (omega arith)
text_read _ _ spelling.none (suc n) at rest enough = text-quote n (rest_at at (34 ∷ rest)) refl ∙ ap (λ (r : Rest). Ok ([], r)) (placed_rest (at + 1) (at + 0 + 1) rest (omega arith))
text_read _ _ (spelling.more front back spelled more first others) (suc n) at rest enough =
    let p = piece_read front spelled first in
    let tail : List ℕ = back ++ 34 ∷ rest in
    let size : length (front ++ back) ≡ suc (length p.behind + length back) = ap (λ (w : List ℕ). length (w ++ back)) p.is ∙ ap suc (length-append p.behind back) in
    let left : (front ++ back) ++ 34 ∷ rest ≡ p.byte ∷ (p.behind ++ tail) = append_assoc front back (34 ∷ rest) ∙ ap (λ (w : List ℕ). w ++ tail) p.is in
    ap (λ (l : List ℕ). text (suc n) (rest_at at l)) left
    ∙ text_goes n at p.byte (p.behind ++ tail) spelled more _ _ p.no_quote (p.read at tail) (text_read back more others n (at + suc (length p.behind)) rest (omega (arith, size)))
    ∙ ap (λ (r : Rest). Ok (spelled ++ more, r)) (placed_rest (at + suc (length p.behind) + length back + 1) (at + length (front ++ back) + 1) rest (omega (arith, size)))

-- how a text with its quotes is read
pub record QuotedRead (word spelled : List ℕ) : Type 0 where
  pub behind : List ℕ
  pub is : word ≡ 34 ∷ behind
  pub read : (at : ℕ) (rest : List ℕ) → quoted (rest_at at (word ++ rest)) ≡ Ok (spelled, rest_at (at + length word) rest)

pub quoted_read : (word spelled : List ℕ) → SpellsText word spelled → QuotedRead word spelled
quoted_read _ _ (spelling.quoted inside spelled pieces) = record {
  behind = inside ++ 34 ∷ [];
  is = refl;
  read = λ at rest. read_at at rest;
} where
  read_at : (at : ℕ) (rest : List ℕ) → quoted (rest_at at (34 ∷ ((inside ++ 34 ∷ []) ++ rest))) ≡ Ok (spelled, rest_at (at + suc (length (inside ++ 34 ∷ []))) rest)
  read_at at rest =
      let body : List ℕ = inside ++ 34 ∷ rest in
      let left : (inside ++ 34 ∷ []) ++ rest ≡ body = append_assoc inside (34 ∷ []) rest in
      let size : length (inside ++ 34 ∷ []) ≡ length inside + 1 = length-append inside (34 ∷ []) in
      let more : length body ≡ length inside + suc (length rest) = length-append inside (34 ∷ rest) in
      ap (λ (l : List ℕ). quoted (rest_at at (34 ∷ l))) left
      ∙ text_read inside spelled pieces (length body + 1) (at + 1) rest (omega (arith, more))
      ∙ ap (λ (r : Rest). Ok (spelled, r)) (placed_rest (at + 1 + length inside + 1) (at + suc (length (inside ++ 34 ∷ []))) rest (omega (arith, size)))
