-- Quoted texts: where they close, their escapes, their contents.
use Rattle.std.specs.Prelude.{ℕ, zero, suc, ◌+◌, ◌-◌, Bool, not, false, cond, ◌==◌, ◌&&◌, ◌||◌, nat_lt, nat_le, List, [], ◌∷◌, ◌++◌, length, take, drop, Option, Some, None, Result, Ok, Err}
use Rattle.std.specs.Char.{encode_utf8}
use Rattle.std.specs.Str.{is_utf8}
use Rattle.ottl_lex.specs.Numbers.{numeral}
use Rattle.ottl_lex.specs.declared.fault.SyntaxFault.{SyntaxFault}
use Rattle.ottl_lex.specs.declared.fault.SyntaxKind.{SyntaxKind}
use Rattle.ottl_lex.specs.declared.fault.SyntaxKind.TheVariants.{BadEscape, NotUtf8}

-- a fault and its place
abbrev pub fault : SyntaxKind → ℕ → SyntaxFault
fault kind at = record { kind = kind; at = at }

-- what a step gives goes on into the next; the first fault stays
infixl 10 ◌>>=◌
abbrev pub ◌>>=◌ : {A B : Type 0} → Result A SyntaxFault → (A → Result B SyntaxFault)
    → Result B SyntaxFault
(Ok x) >>= f = f x
(Err e) >>= f = Err e

-- these items before what is given
abbrev pub with_front : {X : Type 0} → List X → Result (List X) SyntaxFault
    → Result (List X) SyntaxFault
with_front front (Ok items) = Ok (front ++ items)
with_front front (Err e) = Err e

-- one more
abbrev pub one_more : Option ℕ → Option ℕ
one_more None = None
one_more (Some n) = Some (suc n)

-- How many bytes stand before the closing quote. A byte behind a backslash, where `taken`, doesn't
-- close; no newline may stand in a text.
abbrev pub closing : Bool → List ℕ → Option ℕ
closing taken [] = None
closing taken (b ∷ rest) =
    cond (b == 10) None
    (cond taken (one_more (closing false rest))
    (cond (b == 34) (Some 0) (one_more (closing (b == 92) rest))))

-- the letters of escapes, each with the byte that a backslash and it stand for
abbrev pub letters : List (ℕ × ℕ)
letters =
    (97, 7) ∷ (98, 8) ∷ (102, 12) ∷ (110, 10) ∷ (114, 13) ∷ (116, 9) ∷ (118, 11) ∷ (92, 92)
    ∷ (34, 34) ∷ []

-- the byte beside a letter
abbrev pub byte_beside : List (ℕ × ℕ) → ℕ → Option ℕ
byte_beside [] c = None
byte_beside (row ∷ rows) c = cond (c == row.0) (Some row.1) (byte_beside rows c)

-- what a letter behind a backslash stands for
abbrev pub letter_escape : ℕ → Option ℕ
letter_escape c = byte_beside letters c

-- the bytes that an escape stands for, and how many bytes it takes behind its backslash
abbrev pub Escape : Type 0
Escape = List ℕ × ℕ

-- of an escape that stands for one byte
abbrev pub one_byte : ℕ → Option ℕ → Option Escape
one_byte size None = None
one_byte size (Some b) = cond (nat_lt b 256) (Some (b ∷ [], size)) None

-- a number is a character: no surrogate, and at most U+10FFFF
abbrev pub is_character : ℕ → Bool
is_character c = nat_lt c 0xD800 || (nat_le 0xE000 c && nat_le c 0x10_FFFF)

-- of an escape that stands for a character
abbrev pub one_character : ℕ → Option ℕ → Option Escape
one_character size None = None
one_character size (Some c) = cond (is_character c) (Some (encode_utf8 c, size)) None

-- The escape whose backslash stands before the text: `x` and two hexadecimal digits, `u` and four,
-- `U` and eight, three octal digits, or a letter.
abbrev pub escape_at : List ℕ → Option Escape
escape_at [] = None
escape_at (c ∷ rest) =
    cond (c == 120) (one_byte 3 (numeral 16 2 rest))
    (cond (c == 117) (one_character 5 (numeral 16 4 rest))
    (cond (c == 85) (one_character 9 (numeral 16 8 rest))
    (cond (nat_le 48 c && nat_lt c 56) (one_byte 3 (numeral 8 3 (c ∷ rest)))
    (one_byte 1 (letter_escape c)))))

-- a byte that begins no escape
abbrev pub is_plain : ℕ → Bool
is_plain b = not (b == 92)

-- an escape's bytes before what is behind it, or BadEscape at its backslash
abbrev pub escaped : ℕ → Option Escape → (ℕ → Result (List ℕ) SyntaxFault)
    → Result (List ℕ) SyntaxFault
escaped at None behind = Err (fault BadEscape at)
escaped at (Some e) behind = with_front e.0 (behind e.1)

-- The bytes that a text stands for whose first byte is at the place. So many first bytes are
-- passed: those of an escape.
abbrev pub unescaped : ℕ → ℕ → List ℕ → Result (List ℕ) SyntaxFault
unescaped passed at [] = Ok []
unescaped (suc n) at (b ∷ rest) = unescaped n (at + 1) rest
unescaped zero at (b ∷ rest) =
    cond (b == 92) (escaped at (escape_at rest) (λ n. unescaped n (at + 1) rest))
    (with_front (b ∷ []) (unescaped 0 (at + 1) rest))

-- bytes that are UTF-8, or NotUtf8 at the quote
abbrev pub as_utf8 : ℕ → List ℕ → Result (List ℕ) SyntaxFault
as_utf8 at bytes = cond (is_utf8 bytes) (Ok bytes) (Err (fault NotUtf8 at))

-- the contents of what stands between quotes, the first of which is at the place
abbrev pub contents : ℕ → List ℕ → Result (List ℕ) SyntaxFault
contents at inside = unescaped 0 (at + 1) inside >>= as_utf8 at

-- what stands between quotes
abbrev pub between_quotes : List ℕ → List ℕ
between_quotes quoted = take (length quoted - 2) (drop 1 quoted)

-- the contents of a text with its quotes, the first of which is at the place
unfoldable pub text_of : ℕ → List ℕ → Result (List ℕ) SyntaxFault
text_of at quoted = contents at (between_quotes quoted)
