-- What the text has where a fault stands, by the token table.
use Rattle.std.specs.Prelude.{◌≡◌, ◌≢◌, ◌⊎◌, ℕ, ◌+◌, ◌%◌, true, false, List, [], ◌∷◌, ◌++◌, length, Err}
use Rattle.std.specs.Char.{is_ascii_digit, is_ascii_hexdigit}
use Rattle.std.specs.Str.{IsUtf8}
use Rattle.ottl_lex.specs.Tokens.{in_word, tokens_of}
use Rattle.ottl_lex.specs.Table.{Each, IsName, Piece, spelling, IsPiece, spelled, meant, ArePieces, IsLiteral, HasNoToken, AreTokens}
use Rattle.ottl_lex.specs.declared.fault.SyntaxFault.{SyntaxFault}
use Rattle.ottl_lex.specs.declared.fault.SyntaxKind.{SyntaxKind}
use Rattle.ottl_lex.specs.declared.fault.SyntaxKind.TheVariants.{BadChar, OpenText, BadEscape, NotUtf8, Fraction, BadNumber}
use Rattle.ottl_lex.specs.declared.token.Token.{Token}

-- the text begins with a quote
abbrev pub HasQuote : List ℕ → Type 0
HasQuote text = (rest : List ℕ) × (text ≡ 34 ∷ rest)

-- a byte between quotes, or a backslash and a byte, whatever the escapes are
pub data Scanned : Type 0 where
  bare : ℕ → Scanned
  slashed : ℕ → Scanned

-- these one after another
abbrev pub scanned : List Scanned → List ℕ
scanned [] = []
scanned (bare b ∷ more) = b ∷ scanned more
scanned (slashed b ∷ more) = 92 ∷ b ∷ scanned more

-- none is a newline, and no bare one is a quote or a backslash
abbrev pub AreScanned : List Scanned → Type 0
AreScanned [] = Unit {0}
AreScanned (bare b ∷ more) = (b ≢ 10) × (b ≢ 34) × (b ≢ 92) × AreScanned more
AreScanned (slashed b ∷ more) = (b ≢ 10) × AreScanned more

-- the quote at the text's first byte is closed
pub record IsClosed (text : List ℕ) : Type 0 where
  pub inside : List Scanned
  pub behind : List ℕ
  pub are : AreScanned inside
  pub whole : text ≡ 34 ∷ scanned inside ++ 34 ∷ behind

-- behind pieces stands a backslash that begins no piece
pub record HasBadEscape (at place : ℕ) (text : List ℕ) : Type 0 where
  pub pieces : List Piece
  pub behind : List ℕ
  pub are : ArePieces pieces
  pub whole : text ≡ 34 ∷ spelled pieces ++ 92 ∷ behind
  pub placed : at ≡ place + 1 + length (spelled pieces)
  pub none : (p : Piece) (rest : List ℕ) → IsPiece p → spelling p ++ rest ≢ 92 ∷ behind

-- pieces between quotes stand for bytes that aren't UTF-8
pub record HasNotUtf8 (text : List ℕ) : Type 0 where
  pub pieces : List Piece
  pub behind : List ℕ
  pub are : ArePieces pieces
  pub whole : text ≡ 34 ∷ spelled pieces ++ 34 ∷ behind
  pub wrong : IsUtf8 (meant pieces) → ⊥

-- digits, a point and a digit
pub record HasFraction (text : List ℕ) : Type 0 where
  pub digits : List ℕ
  pub digit : ℕ
  pub behind : List ℕ
  pub are : IsName is_ascii_digit is_ascii_digit digits
  pub follows : is_ascii_digit digit ≡ true
  pub whole : text ≡ digits ++ 46 ∷ digit ∷ behind

-- digits before a letter or `_`, and no bytes literal
pub record HasRunOn (text : List ℕ) : Type 0 where
  pub digits : List ℕ
  pub byte : ℕ
  pub behind : List ℕ
  pub are : IsName is_ascii_digit is_ascii_digit digits
  pub follows : in_word byte ≡ true
  pub whole : text ≡ digits ++ byte ∷ behind
  pub none : (front rest : List ℕ) → text ≡ front ++ rest → IsLiteral front → ⊥

-- `0x`, an odd number of hexadecimal digits, and no further one
pub record HasOddLiteral (text : List ℕ) : Type 0 where
  pub digits : List ℕ
  pub behind : List ℕ
  pub are : Each is_ascii_hexdigit digits
  pub odd : length digits % 2 ≡ 1
  pub whole : text ≡ 48 ∷ 120 ∷ digits ++ behind
  pub ends : (b : ℕ) (rest : List ℕ) → behind ≡ b ∷ rest → is_ascii_hexdigit b ≡ false

-- the fault at `at` is right for the text whose first byte is at `place`, where a token is wanted
abbrev pub FaultStands : SyntaxKind → ℕ → ℕ → List ℕ → Type 0
FaultStands BadChar at place text = (at ≡ place) × HasNoToken text × (HasQuote text → ⊥)
FaultStands OpenText at place text =
    (at ≡ place) × HasNoToken text × HasQuote text × (IsClosed text → ⊥)
FaultStands BadEscape at place text = HasNoToken text × IsClosed text × HasBadEscape at place text
FaultStands NotUtf8 at place text = (at ≡ place) × HasNoToken text × HasNotUtf8 text
FaultStands Fraction at place text = (at ≡ place) × HasFraction text
FaultStands BadNumber at place text = (at ≡ place) × (HasRunOn text ⊎ HasOddLiteral text)
FaultStands kind at place text = ⊥

-- tokens and blanks lead to the place of a fault
pub record StopsAt (at : ℕ) (text : List ℕ) (fault : SyntaxFault) : Type 0 where
  pub tokens : List Token
  pub place : ℕ
  pub rest : List ℕ
  pub before : AreTokens at text tokens place rest
  pub stands : FaultStands fault.kind fault.at place rest

-- behind tokens and blanks, a fault stands where the text has no token, or digits that are no
-- number
abbrev pub FaultsStand : Type 0
FaultsStand =
    (text : List ℕ) (fault : SyntaxFault) → tokens_of text ≡ Err fault → StopsAt 0 text fault
