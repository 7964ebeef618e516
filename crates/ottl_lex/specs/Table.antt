-- The token table as a relation, and what tokens and faults of a text have to do with it.
use Rattle.std.specs.Prelude.{◌≡◌, ◌≢◌, ℕ, ◌+◌, ◌-◌, ◌%◌, ◌<◌, ◌≤◌, Bool, true, false, nat_lt, List, [], ◌∷◌, ◌++◌, length, drop, Some, Ok}
use Rattle.std.specs.Char.{encode_utf8, digit_value, is_ascii_digit, is_ascii_hexdigit, is_ascii_lowercase, is_ascii_uppercase}
use Rattle.std.specs.Str.{IsUtf8}
use Rattle.ottl_lex.specs.Numbers.{value_in}
use Rattle.ottl_lex.specs.Quoted.{letter_escape, is_character, text_of}
use Rattle.ottl_lex.specs.Tokens.{is_blank, in_lower, in_upper, is_keyword, is_sign, before_equals, tokens_of}
use Rattle.ottl_lex.specs.declared.token.Token.{Token}
use Rattle.ottl_lex.specs.declared.token.TokenKind.{TokenKind}
use Rattle.ottl_lex.specs.declared.token.TokenKind.TheVariants.{Lower, Word, Upper, Quoted, Digits, Hex, Sign}

-- each byte passes
abbrev pub Each : (ℕ → Bool) → List ℕ → Type 0
Each p [] = Unit {0}
Each p (b ∷ rest) = (p b ≡ true) × Each p rest

-- a byte of the one kind, then bytes of the other
abbrev pub IsName : (ℕ → Bool) → (ℕ → Bool) → List ℕ → Type 0
IsName first more [] = ⊥
IsName first more (b ∷ rest) = (first b ≡ true) × Each more rest

-- so many digits in the base
abbrev pub AreDigits : ℕ → ℕ → List ℕ → Type 0
AreDigits base count digits =
    (length digits ≡ count) × Each (λ b. nat_lt (digit_value b) base) digits

-- a piece of a quoted text: a byte that stands for itself, or an escape
pub data Piece : Type 0 where
  plain : ℕ → Piece
  letter : ℕ → ℕ → Piece
  hex : List ℕ → Piece
  octal : List ℕ → Piece
  short : List ℕ → Piece
  long : List ℕ → Piece

-- how a piece is spelled
abbrev pub spelling : Piece → List ℕ
spelling (plain b) = b ∷ []
spelling (letter c b) = 92 ∷ c ∷ []
spelling (hex digits) = 92 ∷ 120 ∷ digits
spelling (octal digits) = 92 ∷ digits
spelling (short digits) = 92 ∷ 117 ∷ digits
spelling (long digits) = 92 ∷ 85 ∷ digits

-- the bytes that a piece stands for
abbrev pub meaning : Piece → List ℕ
meaning (plain b) = b ∷ []
meaning (letter c b) = b ∷ []
meaning (hex digits) = value_in 16 digits ∷ []
meaning (octal digits) = value_in 8 digits ∷ []
meaning (short digits) = encode_utf8 (value_in 16 digits)
meaning (long digits) = encode_utf8 (value_in 16 digits)

-- the table has such a piece
abbrev pub IsPiece : Piece → Type 0
IsPiece (plain b) = (b ≢ 10) × (b ≢ 34) × (b ≢ 92)
IsPiece (letter c b) = letter_escape c ≡ Some b
IsPiece (hex digits) = AreDigits 16 2 digits
IsPiece (octal digits) = AreDigits 8 3 digits × (value_in 8 digits ≤ 255)
IsPiece (short digits) = AreDigits 16 4 digits × (is_character (value_in 16 digits) ≡ true)
IsPiece (long digits) = AreDigits 16 8 digits × (is_character (value_in 16 digits) ≡ true)

-- pieces one after another: how they are spelled, and what they stand for
abbrev pub spelled : List Piece → List ℕ
spelled [] = []
spelled (p ∷ ps) = spelling p ++ spelled ps

-- the bytes that pieces mean
abbrev pub meant : List Piece → List ℕ
meant [] = []
meant (p ∷ ps) = meaning p ++ meant ps

-- pieces of the contents of a text, one after another
abbrev pub ArePieces : List Piece → Type 0
ArePieces [] = Unit {0}
ArePieces (p ∷ ps) = IsPiece p × ArePieces ps

-- quotes round pieces that stand for UTF-8
pub record IsText (slice : List ℕ) : Type 0 where
  pub pieces : List Piece
  pub are : ArePieces pieces
  pub whole : slice ≡ 34 ∷ spelled pieces ++ 34 ∷ []
  pub utf8 : IsUtf8 (meant pieces)

-- `0x` and an even number of hexadecimal digits, at least two
pub record IsLiteral (slice : List ℕ) : Type 0 where
  pub digits : List ℕ
  pub whole : slice ≡ 48 ∷ 120 ∷ digits
  pub some : 0 < length digits
  pub even : length digits % 2 ≡ 0
  pub are : Each is_ascii_hexdigit digits

-- a sign of one byte or of two
abbrev pub IsSign : List ℕ → Type 0
IsSign [] = ⊥
IsSign (b ∷ []) = is_sign b ≡ true
IsSign (b ∷ c ∷ []) = (before_equals b ≡ true) × (c ≡ 61)
IsSign (b ∷ c ∷ d ∷ rest) = ⊥

-- the bytes are a token of the kind
abbrev pub IsToken : TokenKind → List ℕ → Type 0
IsToken Lower slice = IsName is_ascii_lowercase in_lower slice × (is_keyword slice ≡ false)
IsToken Word slice = is_keyword slice ≡ true
IsToken Upper slice = IsName is_ascii_uppercase in_upper slice
IsToken Quoted slice = IsText slice
IsToken Digits slice = IsName is_ascii_digit is_ascii_digit slice
IsToken Hex slice = IsLiteral slice
IsToken Sign slice = IsSign slice

-- the text begins with the token, and with no longer one
pub record IsLongest (text : List ℕ) (kind : TokenKind) (size : ℕ) : Type 0 where
  pub slice : List ℕ
  pub behind : List ℕ
  pub whole : text ≡ slice ++ behind
  pub sized : length slice ≡ size
  pub is : IsToken kind slice
  pub longest : (other : TokenKind) (front rest : List ℕ) → text ≡ front ++ rest
      → IsToken other front → length front ≤ size

-- the text begins with no token
abbrev pub HasNoToken : List ℕ → Type 0
HasNoToken text =
    (kind : TokenKind) (front rest : List ℕ) → text ≡ front ++ rest → IsToken kind front → ⊥

-- blanks lead from a place in the text to a further place
pub record AreBlanks (at : ℕ) (text : List ℕ) (place : ℕ) (rest : List ℕ) : Type 0 where
  pub blanks : List ℕ
  pub are : Each is_blank blanks
  pub whole : text ≡ blanks ++ rest
  pub placed : place ≡ at + length blanks

-- Tokens and blanks lead from a place in the text to a further place: each token is the longest at
-- its place, and blanks alone stand between them.
abbrev pub AreTokens : ℕ → List ℕ → List Token → ℕ → List ℕ → Type 0
AreTokens at text [] place rest = AreBlanks at text place rest
AreTokens at text (t ∷ ts) place rest =
    (here : List ℕ) × AreBlanks at text t.begin here × (t.begin < t.end)
    × IsLongest here t.kind (t.end - t.begin)
    × AreTokens t.end (drop (t.end - t.begin) here) ts place rest

-- the tokens of a text are all of it but blanks
abbrev pub TokensAreLongest : Type 0
TokensAreLongest = (text : List ℕ) (tokens : List Token) → tokens_of text ≡ Ok tokens
    → AreTokens 0 text tokens (length text) []

-- what is read from a text of the table is what its pieces stand for
abbrev pub ContentsAreMeant : Type 0
ContentsAreMeant =
    (at : ℕ) (slice : List ℕ) (text : IsText slice) → text_of at slice ≡ Ok (meant text.pieces)
