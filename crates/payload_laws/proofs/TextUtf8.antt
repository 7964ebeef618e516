-- A text that UTF-8 spells is UTF-8.
use Rattle.std.proofs.Common.{◌≡◌, ℕ, ◌+◌, ◌*◌, ◌<◌, Bool, true, false, List, [], ◌∷◌, ◌++◌, Option, Some, None, refl, sym, subst, arith, cond, append_assoc}
use Rattle.std.specs.Prelude.{◌&&◌, nat_lt, nat_le}
use Rattle.std.specs.Char.{digit_value, encode_utf8, IsScalar}
use Rattle.std.specs.Char.Utf16.{is_high_surrogate, is_low_surrogate, surrogate_pair_char}
use Rattle.std.specs.Str.{IsUtf8}
use Rattle.std.proofs.lemmas.Bool.Decides.{nat_tests}
use Rattle.std.proofs.lemmas.Str.{IsUtf8-append, IsUtf8-encode}
use Rattle.json_text.specs.Spelling as spelling
use Rattle.json_text.specs.Spelling.{ShortEscape, IsHex, SpellsUnit, SpellsEscape, SpellsPiece, SpellsPieces, SpellsText}
use Rattle.payload_laws.proofs.Seams.{AllLow, before_byte, after_byte, after_low}

-- Escapes.

-- an escape begins with its backslash, is ASCII, and spells a character
record Escaped (word : List ℕ) (character : ℕ) : Type 0 where
  behind : List ℕ
  is : word ≡ 92 ∷ behind
  low : AllLow behind
  scalar : IsScalar character

letter_facts : (letter character : ℕ) → ShortEscape letter character → (letter < 128) × (character < 128)
letter_facts _ _ spelling.quote = (omega arith, omega arith)
letter_facts _ _ spelling.backslash = (omega arith, omega arith)
letter_facts _ _ spelling.solidus = (omega arith, omega arith)
letter_facts _ _ spelling.backspace = (omega arith, omega arith)
letter_facts _ _ spelling.form_feed = (omega arith, omega arith)
letter_facts _ _ spelling.line_feed = (omega arith, omega arith)
letter_facts _ _ spelling.carriage_return = (omega arith, omega arith)
letter_facts _ _ spelling.tab = (omega arith, omega arith)

low_scalar : (c : ℕ) → c < 128 → IsScalar c
low_scalar c h = grind (arith, nat_tests)

hex_low : (d : ℕ) → IsHex d → d < 128
hex_low d h = grind (arith, nat_tests)

-- a unit by the values of its digits
abbrev code_of : ℕ → ℕ → ℕ → ℕ → ℕ
code_of a b c d = a * 4096 + b * 256 + c * 16 + d

abbrev is_surrogate : ℕ → Bool
is_surrogate u = nat_le 55296 u && nat_lt u 57344

lone_case : (t : Bool) (u x : ℕ) → ◌≡◌ {A = Option ℕ} (cond t None (Some u)) (Some x) → (t ≡ false) × (u ≡ x)
lone_case true u x is = absurd cc
lone_case false u x is = (refl, cc)

code_small : (a b c d : ℕ) → a < 16 → b < 16 → c < 16 → d < 16 → code_of a b c d < 65536
code_small a b c d less_a less_b less_c less_d = omega arith

lone_scalar : (u : ℕ) → u < 65536 → is_surrogate u ≡ false → IsScalar u
lone_scalar u small none = grind (arith, nat_tests)

pair_scalar : (high low : ℕ) → is_high_surrogate high ≡ true → is_low_surrogate low ≡ true → IsScalar (surrogate_pair_char high low)
pair_scalar high low is_high is_low = grind (arith, nat_tests)

escaped : (word : List ℕ) (character : ℕ) → SpellsEscape word character → Escaped word character
escaped _ _ (spelling.short letter character h) =
    let facts = letter_facts letter character h in
    record { behind = letter ∷ []; is = refl; low = (facts.0, tt); scalar = low_scalar character facts.1 }
escaped _ _ (spelling.lone text code character (spelling.unit a b c d hex_a hex_b hex_c hex_d) is) =
    let unit : ℕ = code_of (digit_value a) (digit_value b) (digit_value c) (digit_value d) in
    let facts = lone_case (is_surrogate unit) unit character is in
    record {
      behind = 117 ∷ a ∷ b ∷ c ∷ d ∷ [];
      is = refl;
      low = (omega arith, (hex_low a hex_a, (hex_low b hex_b, (hex_low c hex_c, (hex_low d hex_d, tt)))));
      scalar = subst IsScalar facts.1 (lone_scalar unit (code_small (digit_value a) (digit_value b) (digit_value c) (digit_value d) hex_a hex_b hex_c hex_d) facts.0);
    }
escaped _ _ (spelling.pair first second high low (spelling.unit a b c d hex_a hex_b hex_c hex_d) (spelling.unit e f g h hex_e hex_f hex_g hex_h) is_high is_low) =
    record {
      behind = 117 ∷ a ∷ b ∷ c ∷ d ∷ 92 ∷ 117 ∷ e ∷ f ∷ g ∷ h ∷ [];
      is = refl;
      low = (
        omega arith,
        (
          hex_low a hex_a,
          (
            hex_low b hex_b,
            (hex_low c hex_c, (hex_low d hex_d, (omega arith, (omega arith, (hex_low e hex_e, (hex_low f hex_f, (hex_low g hex_g, (hex_low h hex_h, tt)))))))),
          ),
        ),
      );
      scalar =
          pair_scalar (code_of (digit_value a) (digit_value b) (digit_value c) (digit_value d)) (code_of (digit_value e) (digit_value f) (digit_value g) (digit_value h))
          is_high is_low;
    }

-- Pieces. Bytes that stand for themselves may be part of a character, so what stands before the pieces is kept.
pieces_utf8 : (front inside text : List ℕ) → SpellsPieces inside text → IsUtf8 (front ++ inside) → IsUtf8 (front ++ text)
pieces_utf8 front _ _ spelling.none utf8 = utf8
pieces_utf8 front _ _ (spelling.more _ back _ rest (spelling.plain b most no_quote no_slash) others) utf8 =
    subst IsUtf8 (append_assoc front (b ∷ []) rest) (pieces_utf8 (front ++ b ∷ []) back rest others (subst IsUtf8 (sym (append_assoc front (b ∷ []) back)) utf8))
pieces_utf8 front _ _ (spelling.more _ back _ rest (spelling.escape word character h) others) utf8 =
    let e = escaped word character h in
    let cut : IsUtf8 (front ++ 92 ∷ (e.behind ++ back)) = subst (λ (w : List ℕ). IsUtf8 (front ++ (w ++ back))) e.is utf8 in
    let behind : IsUtf8 back = after_low e.behind back e.low (after_byte front 92 (e.behind ++ back) (omega arith) cut) in
    IsUtf8-append front (encode_utf8 character ++ rest) (before_byte front 92 (e.behind ++ back) (omega arith) cut)
    (IsUtf8-append (encode_utf8 character) rest (IsUtf8-encode character e.scalar) (pieces_utf8 [] back rest others behind))

-- a text in quotes
pub text_utf8 : (word text : List ℕ) → SpellsText word text → IsUtf8 word → IsUtf8 text
text_utf8 _ _ (spelling.quoted inside text pieces) utf8 = pieces_utf8 [] inside text pieces (before_byte inside 34 [] (omega arith) (after_byte [] 34 (inside ++ 34 ∷ []) (omega arith) utf8))
