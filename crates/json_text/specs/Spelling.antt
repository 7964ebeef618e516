-- The value that a text of JSON spells, by the cases of its grammar (RFC 8259), apart from how a
-- text is read. An escape of a surrogate stands only as a high one directly followed by a low one.
use Rattle.std.specs.Prelude.{◌≡◌, ◌≢◌, ◌≤◌, ◌<◌, ◌⊎◌, ℕ, zero, suc, ◌+◌, ◌*◌, ◌==◌, true, false, codes, List, [], ◌∷◌, ◌++◌, length, Some, IsTrue}
use Rattle.std.specs.List.{list_all, list_any}
use Rattle.std.specs.Char.{digit_value, encode_utf8}
use Rattle.std.specs.Char.Utf16.{is_high_surrogate, is_low_surrogate, lone_unit_char, surrogate_pair_char}
use Rattle.pdata_value.specs.Numeral.{IsNumeral}
use Rattle.json_text.specs.declared.json.Json.{Json}
use Rattle.json_text.specs.declared.json.JsonKind.{JsonKind}
use Rattle.json_text.specs.declared.json.JsonKind.TheVariants as kinds

-- Texts.

-- a letter that stands behind a backslash, and the character that both spell
pub data ShortEscape : ℕ → ℕ → Type 0 where
  quote : ShortEscape 34 34
  backslash : ShortEscape 92 92
  solidus : ShortEscape 47 47
  backspace : ShortEscape 98 8
  form_feed : ShortEscape 102 12
  line_feed : ShortEscape 110 10
  carriage_return : ShortEscape 114 13
  tab : ShortEscape 116 9

-- a hexadecimal digit
abbrev pub IsHex : ℕ → Type 0
IsHex b = digit_value b < 16

-- `\u` and four hexadecimal digits spell a unit of UTF-16
pub data SpellsUnit : List ℕ → ℕ → Type 0 where
  unit : (a b c d : ℕ) → IsHex a → IsHex b → IsHex c → IsHex d
      → SpellsUnit (92 ∷ 117 ∷ a ∷ b ∷ c ∷ d ∷ [])
      (digit_value a * 4096 + digit_value b * 256 + digit_value c * 16 + digit_value d)

-- an escape spells a character: by a letter, by its unit, or by a pair of units
pub data SpellsEscape : List ℕ → ℕ → Type 0 where
  short : (letter character : ℕ) → ShortEscape letter character
      → SpellsEscape (92 ∷ letter ∷ []) character
  lone : (text : List ℕ) (code character : ℕ) → SpellsUnit text code
      → lone_unit_char code ≡ Some character → SpellsEscape text character
  pair : (first second : List ℕ) (high low : ℕ) → SpellsUnit first high → SpellsUnit second low
      → IsTrue (is_high_surrogate high) → IsTrue (is_low_surrogate low)
      → SpellsEscape (first ++ second) (surrogate_pair_char high low)

-- a byte from the space on stands for itself, but for the quote and the backslash; an escape stands
-- for its character in UTF-8
pub data SpellsPiece : List ℕ → List ℕ → Type 0 where
  plain : (b : ℕ) → 32 ≤ b → b ≢ 34 → b ≢ 92 → SpellsPiece (b ∷ []) (b ∷ [])
  escape : (text : List ℕ) (character : ℕ) → SpellsEscape text character
      → SpellsPiece text (encode_utf8 character)

-- pieces one after another
pub data SpellsPieces : List ℕ → List ℕ → Type 0 where
  none : SpellsPieces [] []
  more : (front back text rest : List ℕ) → SpellsPiece front text → SpellsPieces back rest
      → SpellsPieces (front ++ back) (text ++ rest)

-- a text in quotes
pub data SpellsText : List ℕ → List ℕ → Type 0 where
  quoted : (inside text : List ℕ) → SpellsPieces inside text
      → SpellsText (codes "\"" ++ inside ++ codes "\"") text

-- What stands between brackets.

-- what a text spells at a place
abbrev pub Spelling : Type 0 → Type 1
Spelling X = ℕ → List ℕ → X → Type 0

-- spaces, tabs, line feeds and carriage returns, none included
abbrev pub IsBlank : List ℕ → Type 0
IsBlank text = IsTrue (list_all (λ b. list_any (λ c. b == c) (32 ∷ 9 ∷ 10 ∷ 13 ∷ [])) text)

-- a text with blanks around it
pub record Padded {X : Type 0} (spell : Spelling X) (at : ℕ) (text : List ℕ) (x : X) : Type 0 where
  pub before : List ℕ
  pub word : List ℕ
  pub after : List ℕ
  pub whole : text ≡ before ++ word ++ after
  pub blank_before : IsBlank before
  pub blank_after : IsBlank after
  pub spelled : spell (at + length before) word x

-- a comma before each of these
abbrev pub SpellsMore : {X : Type 0} → Spelling X → Spelling (List X)
SpellsMore spell at text [] = text ≡ []
SpellsMore spell at text (x ∷ xs) =
    (front : List ℕ) × (back : List ℕ) × (text ≡ codes "," ++ front ++ back)
    × Padded spell (at + 1) front x × SpellsMore spell (at + 1 + length front) back xs

-- a comma between these, or blanks alone
abbrev pub SpellsAll : {X : Type 0} → Spelling X → Spelling (List X)
SpellsAll spell at text [] = IsBlank text
SpellsAll spell at text (x ∷ xs) =
    (front : List ℕ) × (back : List ℕ) × (text ≡ front ++ back) × Padded spell at front x
    × SpellsMore spell (at + length front) back xs

-- a key and a value with a colon between them
pub record SpellsMember (spell : Spelling Json) (at : ℕ) (text : List ℕ)
    (member : List ℕ × Json) : Type 0 where
  pub key : List ℕ
  pub before : List ℕ
  pub after : List ℕ
  pub word : List ℕ
  pub whole : text ≡ key ++ before ++ codes ":" ++ after ++ word
  pub key_spelled : SpellsText key member.0
  pub blank_before : IsBlank before
  pub blank_after : IsBlank after
  pub spelled : spell (at + length key + length before + 1 + length after) word member.1

-- Values.

-- a value without brackets
pub data SpellsScalar : List ℕ → JsonKind → Type 0 where
  null_word : SpellsScalar (codes "null") kinds.Null
  true_word : SpellsScalar (codes "true") (kinds.Truth true)
  false_word : SpellsScalar (codes "false") (kinds.Truth false)
  numeral : (spelling : List ℕ) → IsNumeral spelling → SpellsScalar spelling (kinds.Number spelling)
  in_quotes : (word text : List ℕ) → SpellsText word text → SpellsScalar word (kinds.Text text)

-- elements or members in brackets
pub data SpellsContainer (spell : Spelling Json) : ℕ → List ℕ → JsonKind → Type 0 where
  list : (at : ℕ) (inside : List ℕ) (items : List Json) → SpellsAll spell (at + 1) inside items
      → SpellsContainer spell at (codes "[" ++ inside ++ codes "]") (kinds.List items)
  object : (at : ℕ) (inside : List ℕ) (members : List (List ℕ × Json))
      → SpellsAll (SpellsMember spell) (at + 1) inside members
      → SpellsContainer spell at (codes "{" ++ inside ++ codes "}") (kinds.Object members)

-- a value with its place, in which lists and objects nest no deeper than the number
abbrev pub SpellsValue : ℕ → Spelling Json
SpellsValue zero at text json = (json.at ≡ at) × SpellsScalar text json.kind
SpellsValue (suc depth) at text json = (json.at ≡ at)
    × (SpellsScalar text json.kind ⊎ SpellsContainer (SpellsValue depth) at text json.kind)

-- a whole text
abbrev pub SpellsJson : ℕ → List ℕ → Json → Type 0
SpellsJson depth text json = Padded (SpellsValue depth) 0 text json
