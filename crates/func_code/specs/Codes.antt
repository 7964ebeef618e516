-- The functions on codes, each as its row of the table of functions in docs/FUNCTIONS.md.
use Rattle.std.specs.Prelude.{ℕ, nat_lt, cond, length, List, Result, Ok, Err}
use Rattle.std.specs.Str.{is_utf8}
use Rattle.base64.specs.Engines.{standard}
use Rattle.base64.specs.GeneralPurpose.{decode_of as base64_bytes}
use Rattle.base64.specs.declared.decode.DecodeError.{DecodeError}
use Rattle.hex.specs.Hex.{encode_lower}
use Rattle.sha2.specs.Sha256.{sha256}
use Rattle.json_text.specs.Reading.{json_text}
use Rattle.json_text.specs.declared.error.JsonFault.{JsonFault}
use Rattle.json_text.specs.declared.json.Json.{Json}
use Rattle.pdata_value.specs.declared.error.EvalErr.{EvalErr}
use Rattle.pdata_value.specs.declared.error.EvalErr.TheVariants.{BadText, Large}
use Rattle.pdata_value.specs.declared.value.Value.{Value, out-Value}
use Rattle.pdata_value.specs.declared.value.Value.TheOpen.{Value-F}
use Rattle.pdata_value.specs.declared.value.Value.TheVariants as kind
use Rattle.pdata_value.specs.Answers.{◌>>=◌}
use Rattle.pdata_value.specs.Wanted.{Layer, not_wanted, text_in, made}
use Rattle.func_code.specs.Json.{value_of}

-- the bytes of a text or of bytes
abbrev pub bytes_layer : Layer → Result (List ℕ) EvalErr
bytes_layer (Value-F.Text text) = Ok text
bytes_layer (Value-F.Bytes bytes) = Ok bytes
bytes_layer other = not_wanted other

-- the bytes that are wanted: those of a text or of bytes
abbrev pub bytes_in : Value → Result (List ℕ) EvalErr
bytes_in v = bytes_layer (out-Value v)

-- SHA256: the digest (FIPS 180-4) in lower-case hexadecimal.
abbrev pub sha256_of : Value → Result Value EvalErr
sha256_of value = bytes_in value >>= λ bytes. made (kind.Text (encode_lower (sha256 bytes)))

-- Hex: the bytes in lower-case hexadecimal.
abbrev pub hex_text_of : Value → Result Value EvalErr
hex_text_of value = bytes_in value >>= λ bytes. made (kind.Text (encode_lower bytes))

-- Decode: the text whose standard base64 (RFC 4648, section 4) a text is. Another text is BadText.

-- bytes as a text, where they are UTF-8
abbrev pub text_of_bytes : List ℕ → Result Value EvalErr
text_of_bytes bytes = cond (is_utf8 bytes) (made (kind.Text bytes)) (Err BadText)

-- decoded bytes as a text, where they are one and it fits
abbrev pub text_or_bad : Result (List ℕ) DecodeError → Result Value EvalErr
text_or_bad (Ok bytes) = text_of_bytes bytes
text_or_bad (Err e) = Err BadText

-- Decode, as a whole: M is `base64`
abbrev pub decode_of : Value → List ℕ → Result Value EvalErr
decode_of value mode = text_in value >>= λ text. text_or_bad (base64_bytes standard text)

-- ParseJSON: the value of a text of JSON. A text past 16,777,216 bytes is Large; one that is no
-- JSON of at most 64 containers deep is BadText.

-- a text of JSON as a value, where it is one and fits
abbrev pub json_or_bad : Result Json JsonFault → Result Value EvalErr
json_or_bad (Ok json) = made (value_of json)
json_or_bad (Err fault) = Err BadText

-- ParseJSON, as a whole
abbrev pub parse_json_of : Value → Result Value EvalErr
parse_json_of value =
    text_in value >>= λ text.
    cond (nat_lt 16777216 (length text)) (Err Large) (json_or_bad (json_text text 64))
