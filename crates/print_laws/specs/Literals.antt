-- Printed literals, beside what is read from them.
use Rattle.std.specs.Prelude.{◌≡◌, ◌<◌, ◌^◌, ℕ, List, [], ◌∷◌, ◌++◌, codes, length, Ok}
use Rattle.std.specs.Fmt.{decimal}
use Rattle.std.specs.List.{All}
use Rattle.std.specs.Str.{IsUtf8}
use Rattle.ottl_lex.specs.Numbers.{digits_value, literal_bytes}
use Rattle.ottl_lex.specs.Quoted.{text_of}
use Rattle.ottl_lex.specs.Tokens.{token, tokens_of}
use Rattle.ottl_lex.specs.declared.token.TokenKind.{TokenKind}
use Rattle.ottl_lex.specs.declared.token.TokenKind.TheVariants.{Quoted, Digits, Hex}
use Rattle.ottl_parse.specs.Printing.{quoted_text, hex_digits}

-- the whole text is one token of the kind
abbrev pub IsOneToken : TokenKind → List ℕ → Type 0
IsOneToken kind text = tokens_of text ≡ Ok (token kind 0 (length text) ∷ [])

-- a text in quotes is a token whose contents are the text
abbrev pub TextsStay : Type 0
TextsStay =
    (text : List ℕ) → IsUtf8 text
    → IsOneToken Quoted (quoted_text text) × ((at : ℕ) → text_of at (quoted_text text) ≡ Ok text)

-- a number of 64 bits in decimal is a token that writes the number
abbrev pub NumbersStay : Type 0
NumbersStay =
    (n : ℕ) → n < 2 ^ 64 → IsOneToken Digits (decimal n) × (digits_value (decimal n) ≡ n)

-- a bytes literal
abbrev pub bytes_text : List ℕ → List ℕ
bytes_text bytes = codes "0x" ++ hex_digits bytes

-- some bytes as a literal are a token that writes these bytes
abbrev pub BytesStay : Type 0
BytesStay =
    (bytes : List ℕ) → All (λ b. b < 256) bytes → 0 < length bytes
    → IsOneToken Hex (bytes_text bytes) × (literal_bytes (bytes_text bytes) ≡ bytes)
