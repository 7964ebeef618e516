-- What the fields of OTLP are read as (the JSON encoding of protobuf): texts, truths, numbers, ids,
-- bytes and doubles.
use Rattle.std.specs.Prelude.{ℕ, ℤ, ◌+◌, ◌*◌, ◌-◌, ◌^◌, ◌==◌, Bool, cond, nat_lt, replicate, pos, negsuc, option_map, List, [], ◌∷◌, Option, Some, None, Ok}
use Rattle.std.specs.Result.{result_ok}
use Rattle.hex.specs.Hex.{decode_sized}
use Rattle.base64.specs.Engines.{standard}
use Rattle.base64.specs.GeneralPurpose as base64
use Rattle.pdata_value.specs.Numeral.{is_digit}
use Rattle.pdata_value.specs.Scan.{is_spelling}
use Rattle.pdata_value.specs.Pairs.{first_of}
use Rattle.json_text.specs.Kinds.{Member, as_text, as_truth, as_number, as_items, as_members}
use Rattle.json_text.specs.declared.json.Json.{Json}
use Rattle.otlp_json.specs.declared.error.PayloadKind.TheVariants.{WrongKind, BadNumber, BadId, BadBase64}
use Rattle.otlp_json.specs.Reads.{Read, wrong, or_wrong, ◌>>=◌}

-- a text
unfoldable pub text_in : Json → Read (List ℕ)
text_in json = or_wrong WrongKind json.at (as_text json)

-- a truth
unfoldable pub truth_in : Json → Read Bool
truth_in json = or_wrong WrongKind json.at (as_truth json)

-- the elements of a list
unfoldable pub items_in : Json → Read (List Json)
items_in json = or_wrong WrongKind json.at (as_items json)

-- the members of an object
unfoldable pub members_in : Json → Read (List Member)
members_in json = or_wrong WrongKind json.at (as_members json)

-- the numeral or the text that gives a number
unfoldable pub spelled_in : Json → Read (List ℕ)
spelled_in json = or_wrong WrongKind json.at (first_of (as_number json) (as_text json))

-- a numeral alone
unfoldable pub numeral_in : Json → Read (List ℕ)
numeral_in json = or_wrong WrongKind json.at (as_number json)

-- Whole numbers: a minus that may be missing, and 0 or digits without a leading 0.

-- the number of decimal digits behind those that give a front
abbrev pub decimal : ℕ → List ℕ → Option ℕ
decimal front [] = Some front
decimal front (b ∷ bs) = cond (is_digit b) (decimal (front * 10 + (b - 48)) bs) None

-- digits without a leading 0
abbrev pub digits : List ℕ → Option ℕ
digits [] = None
digits (b ∷ []) = decimal 0 (b ∷ [])
digits (b ∷ c ∷ bs) = cond (nat_lt 48 b) (decimal 0 (b ∷ c ∷ bs)) None

-- with a minus before it; `-0` is 0
abbrev pub negative : ℕ → ℤ
negative n = cond (n == 0) (pos 0) (negsuc (n - 1))

-- the whole number that a numeral spells; None where it has a fraction or an exponent
abbrev pub whole : List ℕ → Option ℤ
whole [] = None
whole (b ∷ bs) = cond (b == 45) (option_map negative (digits bs)) (option_map pos (digits (b ∷ bs)))

-- a number from 0 to below a limit
abbrev pub below : ℕ → Option ℤ → Option ℕ
below limit (Some (pos n)) = cond (nat_lt n limit) (Some n) None
below limit _ = None

-- a number from minus a limit to below it
abbrev pub around : ℕ → Option ℤ → Option ℤ
around limit (Some (pos n)) = cond (nat_lt n limit) (Some (pos n)) None
around limit (Some (negsuc n)) = cond (nat_lt n limit) (Some (negsuc n)) None
around limit None = None

-- `fixed64` and `uint64`
unfoldable pub u64_in : Json → Read ℕ
u64_in json = spelled_in json >>= λ text. or_wrong BadNumber json.at (below (2 ^ 64) (whole text))

-- `uint32` and `fixed32`
unfoldable pub u32_in : Json → Read ℕ
u32_in json = spelled_in json >>= λ text. or_wrong BadNumber json.at (below (2 ^ 32) (whole text))

-- `int64`
unfoldable pub i64_in : Json → Read ℤ
i64_in json = spelled_in json >>= λ text. or_wrong BadNumber json.at (around (2 ^ 63) (whole text))

-- an enumeration's number, which no text gives
unfoldable pub i32_in : Json → Read ℤ
i32_in json = numeral_in json >>= λ text. or_wrong BadNumber json.at (around (2 ^ 31) (whole text))

-- Ids, bytes and doubles.

-- the bytes of an id: none spelled, or two hexadecimal digits for each byte
abbrev pub id_bytes : ℕ → List ℕ → Option (List ℕ)
id_bytes size [] = Some (replicate size 0)
id_bytes size (b ∷ bs) = result_ok (decode_sized (b ∷ bs) size)

-- an id of so many bytes
unfoldable pub id_in : ℕ → Json → Read (List ℕ)
id_in size json = text_in json >>= λ text. or_wrong BadId json.at (id_bytes size text)

-- bytes in standard base64, with padding (RFC 4648, section 4)
unfoldable pub bytes_in : Json → Read (List ℕ)
bytes_in json =
    text_in json >>= λ text. or_wrong BadBase64 json.at (result_ok (base64.decode_of standard text))

-- a double that a text gives
abbrev pub double : List ℕ → Option (List ℕ)
double text = cond (is_spelling text) (Some text) None

-- the numeral, else what the text gives
abbrev pub double_by : ℕ → Option (List ℕ) → Option (List ℕ) → Read (List ℕ)
double_by at (Some spelling) text = Ok spelling
double_by at None (Some text) = or_wrong BadNumber at (double text)
double_by at None None = wrong WrongKind at

-- a double by its spelling
unfoldable pub double_in : Json → Read (List ℕ)
double_in json = double_by json.at (as_number json) (as_text json)
