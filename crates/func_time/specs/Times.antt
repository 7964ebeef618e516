-- The functions on times, each as its row of the table of functions in docs/FUNCTIONS.md. A time is
-- an integer of nanoseconds since 1970-01-01T00:00:00 in UTC.
use Rattle.std.specs.Prelude.{ℕ, ℤ, pos, ◌+ℤ◌, ◌*ℤ◌, cond, List, Result, Ok, Err}
use Rattle.std.specs.Int.{int_div_euclid}
use Rattle.pdata_value.specs.declared.error.EvalErr.{EvalErr}
use Rattle.pdata_value.specs.declared.error.EvalErr.TheVariants.{Overflow}
use Rattle.pdata_value.specs.declared.value.Value.{Value}
use Rattle.pdata_value.specs.declared.value.Value.TheVariants as kind
use Rattle.pdata_value.specs.Answers.{◌>>=◌}
use Rattle.func_text.specs.Texts.{in_64_bits}
use Rattle.pdata_value.specs.Wanted.{text_in, int_in, made}
use Rattle.func_time.specs.Formats.{moment_in, time_text}
use Rattle.func_time.specs.Moments.{civil_year, civil_month, civil_day, clock_hour, clock_minute, clock_second, clock_nanosecond, week_day}

-- Time: the moment of a text under a format.
abbrev pub time_of : Value → List ℕ → Result Value EvalErr
time_of value format =
    text_in value >>= λ text. moment_in text format >>= λ moment. Ok (kind.Int moment)

-- FormatTime: what a format shows of a time.
abbrev pub format_time_of : Value → List ℕ → Result Value EvalErr
format_time_of value format = int_in value >>= λ moment. made (kind.Text (time_text moment format))

-- Unix: the time of seconds and nanoseconds; Overflow past 64 bits signed.

-- a sum as a value, where it is within 64 bits signed
abbrev pub summed : ℤ → Result Value EvalErr
summed n = cond (in_64_bits n) (Ok (kind.Int n)) (Err Overflow)

-- Unix, as a whole
abbrev pub unix_of : Value → Value → Result Value EvalErr
unix_of seconds nanoseconds =
    int_in seconds >>= λ s. int_in nanoseconds >>= λ n. summed (s *ℤ pos 1000000000 +ℤ n)

-- UnixSeconds, UnixMilli, UnixMicro and UnixNano: a time in a unit, rounded down.

-- an integer that a function computes from the integer that it wants
abbrev pub computed : (ℤ → ℤ) → Value → Result Value EvalErr
computed f value = int_in value >>= λ moment. Ok (kind.Int (f moment))

-- nanoseconds in units of so many, rounded down
abbrev pub in_units : ℕ → ℤ → ℤ
in_units unit moment = int_div_euclid moment (pos unit)

-- UnixSeconds
abbrev pub unix_seconds_of : Value → Result Value EvalErr
unix_seconds_of value = computed (in_units 1000000000) value

-- UnixMilli
abbrev pub unix_milli_of : Value → Result Value EvalErr
unix_milli_of value = computed (in_units 1000000) value

-- UnixMicro
abbrev pub unix_micro_of : Value → Result Value EvalErr
unix_micro_of value = computed (in_units 1000) value

-- UnixNano
abbrev pub unix_nano_of : Value → Result Value EvalErr
unix_nano_of value = computed (λ moment. moment) value

-- Year, Month, Day, Hour, Minute, Second, Nanosecond and Weekday: a part of a time in UTC.

-- Year
abbrev pub year_of : Value → Result Value EvalErr
year_of value = computed civil_year value

-- Month
abbrev pub month_of : Value → Result Value EvalErr
month_of value = computed (λ moment. pos (civil_month moment)) value

-- Day
abbrev pub day_of : Value → Result Value EvalErr
day_of value = computed (λ moment. pos (civil_day moment)) value

-- Hour
abbrev pub hour_of : Value → Result Value EvalErr
hour_of value = computed (λ moment. pos (clock_hour moment)) value

-- Minute
abbrev pub minute_of : Value → Result Value EvalErr
minute_of value = computed (λ moment. pos (clock_minute moment)) value

-- Second
abbrev pub second_of : Value → Result Value EvalErr
second_of value = computed (λ moment. pos (clock_second moment)) value

-- Nanosecond
abbrev pub nanosecond_of : Value → Result Value EvalErr
nanosecond_of value = computed (λ moment. pos (clock_nanosecond moment)) value

-- 0 for Sunday to 6 for Saturday
abbrev pub weekday_of : Value → Result Value EvalErr
weekday_of value = computed (λ moment. pos (week_day moment)) value
