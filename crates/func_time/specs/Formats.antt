-- Formats of times: what they read, and what they show.
use Rattle.std.specs.Prelude.{ℕ, ◌+◌, ◌*◌, ◌==◌, ◌&&◌, ◌||◌, ◌++◌, Bool, true, false, not, nat_le, nat_lt, if◌then◌else◌, int_le, List, [], ◌∷◌, codes, ℤ, pos, neg_ℤ, ◌+ℤ◌, ◌*ℤ◌, Result, Ok, Err}
use Rattle.jiff_core.specs.Calendar.{days_from_civil, days_in_month}
use Rattle.jiff_strtime.specs.Number.{match_some, match_result}
use Rattle.jiff_strtime.specs.Reader.{parse_text}
use Rattle.jiff_strtime.specs.Directive.{plain}
use Rattle.jiff_strtime.specs.Show.{int_text}
use Rattle.jiff_strtime.specs.Text.{Parts}
use Rattle.pdata_value.specs.declared.error.EvalErr.{EvalErr}
use Rattle.pdata_value.specs.declared.error.EvalErr.TheVariants.{BadText, Range}
use Rattle.func_text.specs.Texts.{in_64_bits}
use Rattle.func_time.specs.Moments.{civil_year, civil_month, civil_day, clock_hour, clock_minute, clock_second}

-- the letter of a directive: one of Y m d H M S %
abbrev pub is_letter : ℕ → Bool
is_letter b =
    (b == 89) || (b == 109) || (b == 100) || (b == 72) || (b == 77) || (b == 83) || (b == 37)

-- each % of the rest of a format begins a directive; `after` says that a % came just before
unfoldable pub is_format_from : Bool → List ℕ → Bool
is_format_from after [] = not after
is_format_from true (b ∷ rest) = is_letter b && is_format_from false rest
is_format_from false (b ∷ rest) = is_format_from (b == 37) rest

-- each `%` begins one of `%Y %m %d %H %M %S %%`
abbrev pub is_format : List ℕ → Bool
is_format format = is_format_from false format

-- the rest of a format has the directive with this letter
unfoldable pub has_from : Bool → ℕ → List ℕ → Bool
has_from after letter [] = false
has_from true letter (b ∷ rest) = (b == letter) || has_from false letter rest
has_from false letter (b ∷ rest) = has_from (b == 37) letter rest

-- what a format that lacks a directive takes on at its end, and its text likewise
abbrev pub unless_has : List ℕ → ℕ → List ℕ → List ℕ
unless_has format letter more = if has_from false letter format then [] else more

-- the format with the directives that it lacks
unfoldable pub full_format : List ℕ → List ℕ
full_format format =
    format ++ unless_has format 89 (codes ";%Y") ++ unless_has format 109 (codes ";%m")
    ++ unless_has format 100 (codes ";%d") ++ unless_has format 72 (codes ";%H")
    ++ unless_has format 77 (codes ";%M") ++ unless_has format 83 (codes ";%S")

-- the text with what they read
unfoldable pub full_text : List ℕ → List ℕ → List ℕ
full_text format text =
    text ++ unless_has format 89 (codes ";1970") ++ unless_has format 109 (codes ";01")
    ++ unless_has format 100 (codes ";01") ++ unless_has format 72 (codes ";00")
    ++ unless_has format 77 (codes ";00") ++ unless_has format 83 (codes ";00")

-- the calendar has this day
abbrev pub is_date : ℤ → ℕ → ℕ → Bool
is_date y m d =
    int_le (neg_ℤ (pos 9999)) y && int_le y (pos 9999) && nat_le 1 m && nat_le m 12
    && nat_le 1 d && nat_le d (days_in_month y m)

-- a clock shows this time
abbrev pub is_time : ℕ → ℕ → ℕ → Bool
is_time h m s = nat_lt h 24 && nat_lt m 60 && nat_lt s 60

-- a moment within 64 bits signed; another is Range
abbrev pub ranged : ℤ → Result ℤ EvalErr
ranged n = if in_64_bits n then Ok n else Err Range

-- the moment of a civil date and time in UTC
abbrev pub civil_moment : ℤ → ℕ → ℕ → ℕ → ℕ → ℕ → Result ℤ EvalErr
civil_moment y m d h mi s =
    if is_date y m d && is_time h mi s
    then ranged (days_from_civil y m d *ℤ pos 86_400_000_000_000
    +ℤ pos ((h * 3600 + mi * 60 + s) * 1_000_000_000))
    else Err BadText

-- the moment of the parts of a text
abbrev pub moment_of : Parts → Result ℤ EvalErr
moment_of p =
    match_some p.year (Err BadText) (λ y. match_some p.month (Err BadText) (λ m.
    match_some p.day (Err BadText) (λ d. match_some p.hour (Err BadText) (λ h.
    match_some p.minute (Err BadText) (λ mi. match_some p.second (Err BadText) (λ s.
    civil_moment y m d h mi s))))))

-- the moment of a text under a format, once both are complete; what the format doesn't read is
-- BadText
unfoldable pub moment_in : List ℕ → List ℕ → Result ℤ EvalErr
moment_in text format =
    match_result (parse_text (full_format format) (full_text format text))
    moment_of (λ e. Err BadText)

-- what a directive shows of a moment, as jiff pads a number
abbrev pub letter_text : ℤ → ℕ → List ℕ
letter_text n letter =
    if letter == 89 then int_text plain 48 4 (civil_year n)
    else (if letter == 109 then int_text plain 48 2 (pos (civil_month n))
    else (if letter == 100 then int_text plain 48 2 (pos (civil_day n))
    else (if letter == 72 then int_text plain 48 2 (pos (clock_hour n))
    else (if letter == 77 then int_text plain 48 2 (pos (clock_minute n))
    else (if letter == 83 then int_text plain 48 2 (pos (clock_second n))
    else 37 ∷ [])))))

-- what the rest of a format shows, where each directive shows what `shows` says of its letter
unfoldable pub text_from : Bool → (ℕ → List ℕ) → List ℕ → List ℕ
text_from after shows [] = []
text_from true shows (b ∷ rest) = shows b ++ text_from false shows rest
text_from false shows (b ∷ rest) =
    if b == 37 then text_from true shows rest else b ∷ text_from false shows rest

-- what a format shows of a moment
unfoldable pub time_text : ℤ → List ℕ → List ℕ
time_text n format = text_from false (letter_text n) format
