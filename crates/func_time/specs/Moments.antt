-- The parts of a moment, in nanoseconds since 1970-01-01T00:00:00 in UTC.
use Rattle.std.specs.Prelude.{ℕ, zero, suc, ◌+◌, ◌-◌, ◌/◌, ◌%◌, nat_lt, if◌then◌else◌, ℤ, pos, neg_ℤ, ◌+ℤ◌, unsigned_abs}
use Rattle.std.specs.Int.{int_div_euclid, int_rem_euclid}
use Rattle.jiff_core.specs.Calendar.{days_in_year, days_in_month, weekday_number}

-- the day in which the moment lies, 0 for 1970-01-01, and the nanoseconds since it began
unfoldable pub day_of : ℤ → ℤ
day_of n = int_div_euclid n (pos 86_400_000_000_000)

-- the nanoseconds of a moment since its midnight
unfoldable pub since_midnight : ℤ → ℕ
since_midnight n = unsigned_abs (int_rem_euclid n (pos 86_400_000_000_000))

-- from the year y on, the year that has the nth day, counted from 0, and that day's place in it
unfoldable pub year_walk : ℕ → ℤ → ℕ → ℤ × ℕ
year_walk zero y n = (y, n)
year_walk (suc fuel) y n =
    if nat_lt n (days_in_year y) then (y, n) else year_walk fuel (y +ℤ pos 1) (n - days_in_year y)

-- from the month m on, the month that has the nth day, and the day of the month, from 1
unfoldable pub month_walk : ℕ → ℤ → ℕ → ℕ → ℕ × ℕ
month_walk zero y m n = (m, n + 1)
month_walk (suc fuel) y m n =
    if nat_lt n (days_in_month y m) then (m, n + 1)
    else month_walk fuel y (m + 1) (n - days_in_month y m)

-- the year of a day, and the day's place in it, from 0
unfoldable pub year_and_place : ℤ → ℤ × ℕ
year_and_place day = year_walk 19_999 (neg_ℤ (pos 9999)) (unsigned_abs (day +ℤ pos 4_371_587))

-- its month, and its day of the month
unfoldable pub month_and_day : ℤ → ℕ × ℕ
month_and_day day = month_walk 12 (year_and_place day).0 1 (year_and_place day).1

-- the year of a moment
abbrev pub civil_year : ℤ → ℤ
civil_year n = (year_and_place (day_of n)).0

-- the month of a moment, from 1
abbrev pub civil_month : ℤ → ℕ
civil_month n = (month_and_day (day_of n)).0

-- the day of the month of a moment, from 1
abbrev pub civil_day : ℤ → ℕ
civil_day n = (month_and_day (day_of n)).1

-- the hour of a moment
abbrev pub clock_hour : ℤ → ℕ
clock_hour n = since_midnight n / 3_600_000_000_000

-- the minute of a moment within its hour
abbrev pub clock_minute : ℤ → ℕ
clock_minute n = since_midnight n / 60_000_000_000 % 60

-- the second of a moment within its minute
abbrev pub clock_second : ℤ → ℕ
clock_second n = since_midnight n / 1_000_000_000 % 60

-- the nanosecond of a moment within its second
abbrev pub clock_nanosecond : ℤ → ℕ
clock_nanosecond n = since_midnight n % 1_000_000_000

-- 0 for Sunday
abbrev pub week_day : ℤ → ℕ
week_day n = (weekday_number (day_of n) + 1) % 7
