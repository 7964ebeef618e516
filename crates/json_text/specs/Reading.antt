-- Reading a text of JSON (RFC 8259): the value, or the first fault with its place.
use Rattle.std.specs.Prelude.{ℕ, zero, suc, ◌+◌, ◌-◌, ◌*◌, Bool, true, false, cond, not, ◌&&◌, ◌||◌, ◌==◌, nat_lt, nat_le, codes, List, [], ◌∷◌, ◌++◌, length, take, Option, Some, None, Result, Ok, Err}
use Rattle.std.specs.Char.{digit_value, encode_utf8}
use Rattle.std.specs.Int.{is_in_range}
use Rattle.std.specs.Str.Lossy.{utf8_valid_len}
use Rattle.pdata_value.specs.Numeral.{is_digit, is_e, is_sign}
use Rattle.json_text.specs.Place.{Rest, head, past, behind, blanks}
use Rattle.json_text.specs.declared.json.Json.{Json}
use Rattle.json_text.specs.declared.json.JsonKind.{JsonKind}
use Rattle.json_text.specs.declared.json.JsonKind.TheVariants as kinds
use Rattle.json_text.specs.declared.error.JsonFault.{JsonFault}
use Rattle.json_text.specs.declared.error.JsonFault.TheVariants.{BadUtf8, BadJson, TooDeep, NoMemory}

-- the fault, where it isn't want of memory
abbrev pub fault_of : JsonFault → Option JsonFault
fault_of NoMemory = None
fault_of (BadUtf8 at) = Some (BadUtf8 at)
fault_of (BadJson at) = Some (BadJson at)
fault_of (TooDeep at) = Some (TooDeep at)

-- what was read and what is left, or the first fault
abbrev pub Reads : Type 0 → Type 0
Reads X = Result (X × Rest) JsonFault

-- one reading after another
infixl 10 ◌>>=◌
abbrev pub ◌>>=◌ : {A B : Type 0} → Result A JsonFault → (A → Result B JsonFault)
    → Result B JsonFault
(Ok x) >>= f = f x
(Err e) >>= f = Err e

-- these before what was read
abbrev pub with_front : {X : Type 0} → List X → Reads (List X) → Reads (List X)
with_front front read = read >>= λ p. Ok (front ++ p.0, p.1)

-- a byte of a kind
abbrev pub one_of : (ℕ → Bool) → Rest → Reads ℕ
one_of kind r = cond (kind (head r)) (Ok (head r, past 1 r)) (Err (BadJson r.at))

-- this byte
abbrev pub this : ℕ → Rest → Result Rest JsonFault
this b r = cond (head r == b) (Ok (past 1 r)) (Err (BadJson r.at))

-- these bytes, one after another
abbrev pub these : List ℕ → Rest → Result Rest JsonFault
these [] r = Ok r
these (b ∷ bs) r = this b r >>= these bs

-- Numbers: an integer, a fraction and an exponent, of which the last two may be missing.

-- one digit or more
abbrev pub some_digits : Rest → Result Rest JsonFault
some_digits r = one_of is_digit r >>= λ p. Ok (behind is_digit p.1)

-- the digits before a point
abbrev pub integer : Rest → Result Rest JsonFault
integer r = one_of is_digit r >>= λ p. cond (p.0 == 48) (Ok p.1) (Ok (behind is_digit p.1))

-- a point and digits, if there are any
abbrev pub fraction : Rest → Result Rest JsonFault
fraction r = cond (head r == 46) (some_digits (past 1 r)) (Ok r)

-- behind a byte of a kind, where one is next
abbrev pub passed : (ℕ → Bool) → Rest → Rest
passed kind r = cond (kind (head r)) (past 1 r) r

-- an exponent, if there is one
abbrev pub exponent : Rest → Result Rest JsonFault
exponent r = cond (is_e (head r)) (some_digits (passed is_sign (past 1 r))) (Ok r)

-- behind a number
unfoldable pub number_end : Rest → Result Rest JsonFault
number_end r = integer (passed (λ b. b == 45) r) >>= fraction >>= exponent

-- its spelling: the bytes up to there
abbrev pub number : Rest → Reads (List ℕ)
number r = number_end r >>= λ e. Ok (take (length r.left - length e.left) r.left, e)

-- Escapes.

-- the value of a hexadecimal digit within these bounds
abbrev pub hex : ℕ → ℕ → Rest → Reads ℕ
hex low high r =
    one_of (λ b. is_in_range low high (digit_value b)) r >>= λ p. Ok (digit_value p.0, p.1)

-- two more digits of a number
unfoldable pub two_more : ℕ → Rest → Reads ℕ
two_more front r = hex 0 15 r >>= λ a. hex 0 15 a.1 >>= λ b. Ok (front * 256 + a.0 * 16 + b.0, b.1)

-- a low surrogate behind a high one, as an escape of its own: the character of both
unfoldable pub low_half : ℕ → Rest → Reads ℕ
low_half high r =
    this 92 r >>= this 117 >>= hex 13 13 >>= λ a. hex 12 15 a.1 >>= λ b. two_more (208 + b.0) b.1
    >>= λ low. Ok (65536 + (high - 55296) * 1024 + (low.0 - 56320), low.1)

-- four digits of which the first is a D: no surrogate, or a pair
unfoldable pub from_d : Rest → Reads ℕ
from_d r = hex 0 11 r >>= λ b. two_more (208 + b.0) b.1
    >>= λ p. cond (nat_lt b.0 8) (Ok p) (low_half p.0 p.1)

-- the character behind `\u`
unfoldable pub unit : Rest → Reads ℕ
unit r = hex 0 15 r
    >>= λ a. cond (a.0 == 13) (from_d a.1) (hex 0 15 a.1 >>= λ b. two_more (a.0 * 16 + b.0) b.1)

-- the letters that stand behind a backslash, but for `u`
abbrev pub is_short : ℕ → Bool
is_short b =
    b == 34 || b == 92 || b == 47 || b == 98 || b == 102 || b == 110 || b == 114 || b == 116

-- the character of such a letter
abbrev pub short : ℕ → ℕ
short b = cond (b == 98) 8
    (cond (b == 102) 12 (cond (b == 110) 10 (cond (b == 114) 13 (cond (b == 116) 9 b))))

-- the character behind a backslash
unfoldable pub escape : Rest → Reads ℕ
escape r = cond (head r == 117) (unit (past 1 r)) (one_of is_short r >>= λ p. Ok (short p.0, p.1))

-- Texts.

-- a byte that stands for itself
abbrev pub is_plain : ℕ → Bool
is_plain b = nat_le 32 b && not (b == 34) && not (b == 92)

-- a byte that stands for itself, or an escape in UTF-8
abbrev pub piece : Rest → Reads (List ℕ)
piece r = cond (head r == 92) (escape (past 1 r) >>= λ p. Ok (encode_utf8 p.0, p.1))
    (one_of is_plain r >>= λ p. Ok (p.0 ∷ [], p.1))

-- a text behind its opening quote. The number bounds the pieces: more than the bytes are always
-- enough.
unfoldable pub text : ℕ → Rest → Reads (List ℕ)
text zero r = Err (BadJson r.at)
text (suc n) r =
    cond (head r == 34) (Ok ([], past 1 r)) (piece r >>= λ p. with_front p.0 (text n p.1))

-- a text with its quotes
abbrev pub quoted : Rest → Reads (List ℕ)
quoted r = this 34 r >>= λ q. text (length q.left + 1) q

-- Lists and objects.

-- behind an element: a comma, or the byte that closes; whether it is the comma
abbrev pub comma_or : ℕ → Rest → Reads Bool
comma_or close r = cond (head r == 44) (Ok (true, blanks (past 1 r)))
    (cond (head r == close) (Ok (false, past 1 r)) (Err (BadJson r.at)))

-- more elements behind a comma, and none behind the byte that closes
abbrev pub more : {X : Type 0} → X → (Rest → Reads (List X)) → Bool × Rest → Reads (List X)
more x others (true, r) = with_front (x ∷ []) (others r)
more x others (false, r) = Ok (x ∷ [], r)

-- elements with commas between them. The number bounds them: more than the bytes are always enough.
unfoldable pub elements : {X : Type 0} → (Rest → Reads X) → ℕ → ℕ → Rest → Reads (List X)
elements one close zero r = Err (BadJson r.at)
elements one close (suc n) r =
    one r >>= λ p. comma_or close (blanks p.1) >>= more p.0 (elements one close n)

-- what stands behind the byte that opens
abbrev pub sequence : {X : Type 0} → (Rest → Reads X) → ℕ → ℕ → Rest → Reads (List X)
sequence one close n r =
    cond (head (blanks r) == close) (Ok ([], past 1 (blanks r))) (elements one close n (blanks r))

-- a member of an object
abbrev pub member : (Rest → Reads Json) → Rest → Reads (List ℕ × Json)
member value r =
    quoted r >>= λ k. this 58 (blanks k.1) >>= λ c. value (blanks c) >>= λ v. Ok ((k.0, v.0), v.1)

-- Values.

-- a value of what was read, at the place where it began
abbrev pub make : {X : Type 0} → Rest → (X → JsonKind) → Reads X → Reads Json
make r kind read = read >>= λ p. Ok (record { at = r.at; kind = kind p.0 }, p.1)

-- one of the three words
abbrev pub literal : JsonKind → List ℕ → Rest → Reads JsonKind
literal kind word r = these word r >>= λ e. Ok (kind, e)

-- a text, a literal or a number
unfoldable pub scalar : Rest → Reads Json
scalar r =
    cond (head r == 34) (make r kinds.Text (quoted r))
    (cond (head r == 116) (make r (λ k. k) (literal (kinds.Truth true) (codes "true") r))
    (cond (head r == 102) (make r (λ k. k) (literal (kinds.Truth false) (codes "false") r))
    (cond (head r == 110) (make r (λ k. k) (literal kinds.Null (codes "null") r))
    (make r kinds.Number (number r)))))

-- a value in which lists and objects nest no deeper than the number
unfoldable pub value : ℕ → Rest → Reads Json
value zero r = cond (head r == 91 || head r == 123) (Err (TooDeep r.at)) (scalar r)
value (suc depth) r =
    cond (head r == 91) (make r kinds.List (sequence (value depth) 93 (length r.left) (past 1 r)))
    (cond (head r == 123)
    (make r kinds.Object (sequence (member (value depth)) 125 (length r.left) (past 1 r)))
    (scalar r))

-- The whole text.

-- nothing is left
abbrev pub ended : Json → Rest → Result Json JsonFault
ended json r = cond (length r.left == 0) (Ok json) (Err (BadJson r.at))

-- of bytes that are UTF-8
unfoldable pub document : ℕ → List ℕ → Result Json JsonFault
document depth bytes =
    value depth (blanks (record { at = 0; left = bytes })) >>= λ p. ended p.0 (blanks p.1)

-- `bytes` as JSON whose lists and objects nest no deeper than `depth`
abbrev pub json_text : List ℕ → ℕ → Result Json JsonFault
json_text bytes depth = cond (utf8_valid_len bytes == length bytes) (document depth bytes)
    (Err (BadUtf8 (utf8_valid_len bytes)))
