-- The grammar of JSON (RFC 8259), over bytes that are UTF-8. An escape of a surrogate stands only
-- as a high one directly followed by a low one.
use Rattle.std.specs.Prelude.{◌==◌, ◌&&◌, not, ℕ, zero, suc, codes, List, [], ◌∷◌}
use Rattle.std.specs.Char.{digit_value}
use Rattle.std.specs.Int.{is_in_range}
use Rattle.contract_words.specs.Grammar.{Rule, nothing, byte, alt, seq, many, viable}
use Rattle.pdata_value.specs.Numeral.{numeral}
use Rattle.json_text.specs.Place.{is_blank}
use Rattle.json_text.specs.Reading.{is_plain, is_short}

-- this byte
abbrev pub one : ℕ → Rule
one c = byte (λ b. b == c)

-- blanks, none included
abbrev pub ws : Rule
ws = many (byte is_blank)

-- these bytes
abbrev pub word_rule : List ℕ → Rule
word_rule [] = nothing
word_rule (b ∷ bs) = seq (one b) (word_rule bs)

-- a hexadecimal digit within these bounds
abbrev pub hex_rule : ℕ → ℕ → Rule
hex_rule low high = byte (λ b. is_in_range low high (digit_value b))

-- two hexadecimal digits
abbrev pub two_digits : Rule
two_digits = seq (hex_rule 0 15) (hex_rule 0 15)

-- the escape of a low surrogate
abbrev pub low_rule : Rule
low_rule = seq (one 92) (seq (one 117) (seq (hex_rule 13 13) (seq (hex_rule 12 15) two_digits)))

-- behind a first digit D: no surrogate, or a high one and then a low one
abbrev pub behind_d : Rule
behind_d = alt (seq (hex_rule 0 7) two_digits) (seq (hex_rule 8 11) (seq two_digits low_rule))

-- behind `\u`
abbrev pub unit_rule : Rule
unit_rule = alt (seq (byte (λ b. is_in_range 0 15 (digit_value b) && not (digit_value b == 13)))
    (seq (hex_rule 0 15) two_digits))
    (seq (hex_rule 13 13) behind_d)

-- what may follow a backslash
abbrev pub escape_rule : Rule
escape_rule = alt (byte is_short) (seq (one 117) unit_rule)

-- a character that stands for itself, or an escape
abbrev pub piece_rule : Rule
piece_rule = alt (byte is_plain) (seq (one 92) escape_rule)

-- a text with its quotes
abbrev pub text_rule : Rule
text_rule = seq (one 34) (seq (many piece_rule) (one 34))

-- a value that is no container
abbrev pub scalar_rule : Rule
scalar_rule = alt text_rule
    (alt numeral
    (alt (word_rule (codes "true")) (alt (word_rule (codes "false")) (word_rule (codes "null")))))

-- what stands between brackets, with the closing one: elements with commas between them
abbrev pub comma_rule : Rule → Rule
comma_rule element = seq (one 44) (seq ws (seq element ws))

-- items with commas between them, up to a closing byte
abbrev pub sequence_rule : Rule → ℕ → Rule
sequence_rule element close =
    seq ws (alt (one close) (seq (seq (seq element ws) (many (comma_rule element))) (one close)))

-- a list of values of this rule
abbrev pub list_rule : Rule → Rule
list_rule value = seq (one 91) (sequence_rule value 93)

-- a member: a key, a colon and a value
abbrev pub member_rule : Rule → Rule
member_rule value = seq text_rule (seq ws (seq (one 58) (seq ws value)))

-- an object of values of this rule
abbrev pub object_rule : Rule → Rule
object_rule value = seq (one 123) (sequence_rule (member_rule value) 125)

-- a value in which lists and objects nest no deeper than the number
abbrev pub value_rule : ℕ → Rule
value_rule zero = scalar_rule
value_rule (suc depth) =
    alt scalar_rule (alt (list_rule (value_rule depth)) (object_rule (value_rule depth)))

-- a text of JSON in which lists and objects nest no deeper than the number
abbrev pub json : ℕ → Rule
json depth = seq ws (seq (value_rule depth) ws)

-- the text is a viable prefix of JSON, however deep that nests
abbrev pub IsJsonPrefix : List ℕ → Type 0
IsJsonPrefix text = (depth : ℕ) × viable (json depth) text
