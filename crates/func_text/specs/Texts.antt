-- The functions on texts, each as its row of the table of functions in docs/FUNCTIONS.md.
use Rattle.std.specs.Prelude.{ℕ, zero, suc, ◌+◌, ◌-◌, ◌==◌, ◌&&◌, not, nat_le, nat_lt, ℤ, pos, neg_ℤ, int_le, Bool, true, false, cond, List, [], ◌∷◌, ◌++◌, length, take, slice_index, slice_range, Option, Some, None, unwrap_or, Result, Ok, Err}
use Rattle.std.specs.Char.{digit_value}
use Rattle.std.specs.List.{list_all}
use Rattle.std.specs.Str.{bytes_eq}
use Rattle.std.specs.Str.Parse.{signed_digits_value, without_leading_sign}
use Rattle.pdata_value.specs.Value.{items, pairs}
use Rattle.pdata_value.specs.declared.error.EvalErr.{EvalErr}
use Rattle.pdata_value.specs.declared.error.EvalErr.TheVariants.{Range}
use Rattle.pdata_value.specs.declared.value.Value.{Value, out-Value}
use Rattle.pdata_value.specs.declared.value.Value.TheOpen.{Value-F}
use Rattle.pdata_value.specs.declared.value.Value.TheVariants as kind
use Rattle.pdata_value.specs.Answers.{◌>>=◌}
use Rattle.pdata_value.specs.Wanted.{Layer, not_wanted, text_in, int_in, list_in, made, texts_of}
use Rattle.pdata_value.specs.Shown.{shown}

-- Concat: the texts of a list's elements, joined by a separator. The text of nil is empty.

-- the texts of values
abbrev pub all_shown : List Value → Result (List (List ℕ)) EvalErr
all_shown [] = Ok []
all_shown (v ∷ vs) = shown v >>= λ text. all_shown vs >>= λ texts. Ok (unwrap_or text [] ∷ texts)

-- the separator before each of these texts
abbrev pub each_after : List ℕ → List (List ℕ) → List ℕ
each_after separator [] = []
each_after separator (t ∷ ts) = separator ++ t ++ each_after separator ts

-- texts with the separator between them
abbrev pub joined : List ℕ → List (List ℕ) → List ℕ
joined separator [] = []
joined separator (t ∷ ts) = t ++ each_after separator ts

-- Concat, as a whole
abbrev pub concat_of : Value → List ℕ → Result Value EvalErr
concat_of list separator =
    list_in list >>= λ vs. all_shown vs >>= λ texts. made (kind.Text (joined separator texts))

-- Split: the pieces between the occurrences of a separator, found from left to right. An empty
-- separator is Range.

-- whether a text begins with the separator
abbrev pub starts_with : List ℕ → List ℕ → Bool
starts_with separator text = bytes_eq (take (length separator) text) separator

-- the byte before the first of these pieces
abbrev pub before_first : ℕ → List (List ℕ) → List (List ℕ)
before_first b [] = (b ∷ []) ∷ []
before_first b (piece ∷ pieces) = (b ∷ piece) ∷ pieces

-- the pieces of a text of which so many bytes, the rest of an occurrence, are passed over
abbrev pub pieces_after : ℕ → List ℕ → List ℕ → List (List ℕ)
pieces_after skip separator [] = [] ∷ []
pieces_after (suc skip) separator (b ∷ bs) = pieces_after skip separator bs
pieces_after zero separator (b ∷ bs) =
    cond (starts_with separator (b ∷ bs)) ([] ∷ pieces_after (length separator - 1) separator bs)
    (before_first b (pieces_after zero separator bs))

-- the pieces between the occurrences of a separator
abbrev pub pieces : List ℕ → List ℕ → List (List ℕ)
pieces separator text = pieces_after 0 separator text

-- Split, as a whole
abbrev pub split_of : Value → List ℕ → Result Value EvalErr
split_of value separator =
    text_in value >>= λ text.
    cond (length separator == 0) (Err Range) (made (texts_of (pieces separator text)))

-- Substring: so many bytes of a text from a place on; Range where they are no part of it, or cut a
-- character.

-- the place is no place inside a character
abbrev pub is_cut : List ℕ → ℕ → Bool
is_cut text i = not (nat_le 128 (slice_index text i) && nat_lt (slice_index text i) 192)

-- so many bytes from a place on, where they are a part of whole characters
abbrev pub part_of : List ℕ → ℤ → ℤ → Option (List ℕ)
part_of text (pos start) (pos count) =
    cond (nat_lt 0 count && nat_le (start + count) (length text)
    && is_cut text start && is_cut text (start + count))
    (Some (slice_range text start (start + count))) None
part_of text _ _ = None

-- a part as a value, or Range where there is none
abbrev pub part_or_range : Option (List ℕ) → Result Value EvalErr
part_or_range None = Err Range
part_or_range (Some part) = made (kind.Text part)

-- Substring, as a whole
abbrev pub substring_of : Value → Value → Value → Result Value EvalErr
substring_of value start count =
    text_in value >>= λ text. int_in start >>= λ from. int_in count >>= λ many.
    part_or_range (part_of text from many)

-- Len: the bytes of a text or of bytes, the elements of a list, the pairs of a map.

-- the length of a value, by kind
abbrev pub len_layer : Layer → Result Value EvalErr
len_layer (Value-F.Text text) = Ok (kind.Int (pos (length text)))
len_layer (Value-F.Bytes bytes) = Ok (kind.Int (pos (length bytes)))
len_layer (Value-F.List list) = Ok (kind.Int (pos (length (items list))))
len_layer (Value-F.Map map) = Ok (kind.Int (pos (length (pairs map))))
len_layer other = not_wanted other

-- Len, as a whole
abbrev pub len_of : Value → Result Value EvalErr
len_of value = len_layer (out-Value value)

-- Int: an integer itself, a truth as 1 or 0, a text of an optional sign and decimal digits as that
-- number; nil and another text are nil.

-- one decimal digit or more
abbrev pub are_digits : List ℕ → Bool
are_digits ds = nat_lt 0 (length ds) && list_all (λ b. nat_lt (digit_value b) 10) ds

-- whether an integer is within 64 bits signed
abbrev pub in_64_bits : ℤ → Bool
in_64_bits n = int_le (neg_ℤ (pos 9223372036854775808)) n && int_le n (pos 9223372036854775807)

-- the number that an optional sign and decimal digits spell, within 64 bits signed
abbrev pub spelled_int : List ℕ → Option ℤ
spelled_int text =
    cond (are_digits (without_leading_sign text) && in_64_bits (signed_digits_value 10 text))
    (Some (signed_digits_value 10 text)) None

-- an integer as a value, or nil
abbrev pub int_or_nil : Option ℤ → Value
int_or_nil None = kind.Empty
int_or_nil (Some int) = kind.Int int

-- a truth as 1 or 0
abbrev pub truth_int : Bool → ℤ
truth_int true = pos 1
truth_int false = pos 0

-- the integer that a value stands for, by kind
abbrev pub int_of_layer : Layer → Result Value EvalErr
int_of_layer Value-F.Empty = Ok kind.Empty
int_of_layer (Value-F.Int int) = Ok (kind.Int int)
int_of_layer (Value-F.Truth truth) = Ok (kind.Int (truth_int truth))
int_of_layer (Value-F.Text text) = Ok (int_or_nil (spelled_int text))
int_of_layer other = not_wanted other

-- Int, as a whole
abbrev pub int_of : Value → Result Value EvalErr
int_of value = int_of_layer (out-Value value)
