-- Tokens: the longest that the token table allows at a place, or the fault that stands there.
use Rattle.std.specs.Prelude.{length, ℕ, zero, suc, ◌+◌, ◌-◌, ◌%◌, ◌<◌, ◌≤◌, Bool, false, cond, ◌==◌, ◌&&◌, ◌||◌, nat_lt, List, [], ◌∷◌, take, drop, Option, Some, None, Result, Ok, Err, codes}
use Rattle.std.specs.Char.{is_ascii_digit, is_ascii_hexdigit, is_ascii_lowercase, is_ascii_uppercase}
use Rattle.std.specs.List.{prefix_len}
use Rattle.std.specs.Str.{bytes_eq, IsCharBoundary}
use Rattle.ottl_lex.specs.Quoted.{fault, ◌>>=◌, with_front, closing, contents}
use Rattle.ottl_lex.specs.declared.fault.SyntaxFault.{SyntaxFault}
use Rattle.ottl_lex.specs.declared.fault.SyntaxKind.TheVariants.{BadChar, OpenText, Fraction, BadNumber}
use Rattle.ottl_lex.specs.declared.token.Token.{Token}
use Rattle.ottl_lex.specs.declared.token.TokenKind.{TokenKind}
use Rattle.ottl_lex.specs.declared.token.TokenKind.TheVariants.{Lower, Word, Upper, Quoted, Digits, Hex, Sign}

-- a space, a tab, a newline or a carriage return
abbrev pub is_blank : ℕ → Bool
is_blank b = b == 32 || b == 9 || b == 10 || b == 13

-- a byte of a lower name behind its first
abbrev pub in_lower : ℕ → Bool
in_lower b = is_ascii_lowercase b || is_ascii_digit b || b == 95

-- a byte of an upper name behind its first
abbrev pub in_upper : ℕ → Bool
in_upper b = is_ascii_uppercase b || in_lower b

-- a letter or `_`, which may not follow digits
abbrev pub in_word : ℕ → Bool
in_word b = is_ascii_lowercase b || is_ascii_uppercase b || b == 95

-- a byte is one of these
abbrev pub is_one_of : List ℕ → ℕ → Bool
is_one_of [] b = false
is_one_of (x ∷ xs) b = b == x || is_one_of xs b

-- a name is one of these
abbrev pub is_name_of : List (List ℕ) → List ℕ → Bool
is_name_of [] name = false
is_name_of (x ∷ xs) name = bytes_eq name x || is_name_of xs name

-- the keywords
abbrev pub keywords : List (List ℕ)
keywords =
    codes "where" ∷ codes "and" ∷ codes "or" ∷ codes "not" ∷ codes "true" ∷ codes "false"
    ∷ codes "nil" ∷ []

-- whether a lower name is a keyword
abbrev pub is_keyword : List ℕ → Bool
is_keyword name = is_name_of keywords name

-- a token of so many bytes
abbrev pub token : TokenKind → ℕ → ℕ → Token
token kind at size = record { begin = at; end = at + size; kind = kind }

-- a lower name, or a keyword
abbrev pub lower_at : ℕ → List ℕ → Token
lower_at at text =
    let size = prefix_len in_lower text in
    token (cond (is_keyword (take size text)) Word Lower) at size

-- a bytes literal, behind whose `0x` so many hexadecimal digits stand
abbrev pub hex_at : ℕ → ℕ → Result Token SyntaxFault
hex_at at count = cond (nat_lt 0 count && count % 2 == 0) (Ok (token Hex at (2 + count)))
    (Err (fault BadNumber at))

-- the text begins with a digit
abbrev pub digit_first : List ℕ → Bool
digit_first [] = false
digit_first (b ∷ rest) = is_ascii_digit b

-- so many digits, before this rest of the text
abbrev pub digits_before : ℕ → ℕ → List ℕ → Result Token SyntaxFault
digits_before at count [] = Ok (token Digits at count)
digits_before at count (b ∷ rest) =
    cond (in_word b) (Err (fault BadNumber at))
    (cond (b == 46 && digit_first rest) (Err (fault Fraction at)) (Ok (token Digits at count)))

-- the text begins with `0x`
abbrev pub hex_first : List ℕ → Bool
hex_first [] = false
hex_first (a ∷ []) = false
hex_first (a ∷ b ∷ rest) = a == 48 && b == 120

-- a whole number or a bytes literal
abbrev pub number_at : ℕ → List ℕ → Result Token SyntaxFault
number_at at text =
    cond (hex_first text) (hex_at at (prefix_len is_ascii_hexdigit (drop 2 text)))
    (digits_before at (prefix_len is_ascii_digit text) (drop (prefix_len is_ascii_digit text) text))

-- a text behind its quote, with so many bytes before its closing quote
abbrev pub quoted_at : ℕ → Option ℕ → List ℕ → Result Token SyntaxFault
quoted_at at None rest = Err (fault OpenText at)
quoted_at at (Some count) rest =
    contents at (take count rest) >>= λ _. Ok (token Quoted at (2 + count))

-- a byte is a sign
abbrev pub is_sign : ℕ → Bool
is_sign b = is_one_of (codes "()[]{},.:<>+-*/") b

-- a byte and a `=` behind it are a sign
abbrev pub before_equals : ℕ → Bool
before_equals b = is_one_of (codes "=!<>") b

-- the text begins with `=`
abbrev pub equals_first : List ℕ → Bool
equals_first [] = false
equals_first (b ∷ rest) = b == 61

-- a sign, of two bytes where it can
abbrev pub sign_at : ℕ → ℕ → List ℕ → Result Token SyntaxFault
sign_at at b rest =
    cond (before_equals b && equals_first rest) (Ok (token Sign at 2))
    (cond (is_sign b) (Ok (token Sign at 1)) (Err (fault BadChar at)))

-- the token at the text's first byte, which is at the place
abbrev pub token_at : ℕ → List ℕ → Result Token SyntaxFault
token_at at [] = Err (fault BadChar at)
token_at at (b ∷ rest) =
    cond (is_ascii_lowercase b) (Ok (lower_at at (b ∷ rest)))
    (cond (is_ascii_uppercase b) (Ok (token Upper at (prefix_len in_upper (b ∷ rest))))
    (cond (is_ascii_digit b) (number_at at (b ∷ rest))
    (cond (b == 34) (quoted_at at (closing false rest) rest)
    (sign_at at b rest))))

-- The tokens of a text whose first byte is at the place. So many first bytes are passed: those of a
-- token.
abbrev pub tokens_from : ℕ → ℕ → List ℕ → Result (List Token) SyntaxFault
tokens_from passed at [] = Ok []
tokens_from (suc n) at (b ∷ rest) = tokens_from n (at + 1) rest
tokens_from zero at (b ∷ rest) =
    cond (is_blank b) (tokens_from 0 (at + 1) rest)
    (token_at at (b ∷ rest)
    >>= λ t. with_front (t ∷ []) (tokens_from (t.end - (at + 1)) (at + 1) rest))

-- the tokens of a text
unfoldable pub tokens_of : List ℕ → Result (List Token) SyntaxFault
tokens_of text = tokens_from 0 0 text

-- the bytes of a token
abbrev pub slice_of : List ℕ → Token → List ℕ
slice_of text token = take (token.end - token.begin) (drop token.begin text)

-- the token's bytes are some of the text's
abbrev pub IsWithin : List ℕ → Token → Type 0
IsWithin text token = (token.begin < token.end) × (token.end ≤ length text)

-- the token begins and ends between characters
abbrev pub IsCut : List ℕ → Token → Type 0
IsCut text token = IsCharBoundary text token.begin × IsCharBoundary text token.end
