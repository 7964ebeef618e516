-- The walks end at the civil date of the day.
use Rattle.std.proofs.Common.{◌≡◌, ℕ, zero, suc, ◌+◌, ◌-◌, ◌<◌, ◌≤◌, refl, sym, inl, inr, ap, ◌∙◌, arith, ℤ, pos, neg_ℤ, ◌+ℤ◌, ◌<ℤ◌, ◌≤ℤ◌, unsigned_abs}
use Rattle.std.proofs.lemmas.Bool.Decides.{nat_tests}
use Rattle.std.proofs.lemmas.Int.{by_lt_z}
use Rattle.std.proofs.lemmas.Bool.{cases_order}
use Rattle.jiff_core.proofs.SignedLemmas.{signed_arith}
use Rattle.jiff_core.specs.Calendar.{day_count, days_in_year, days_in_month, days_of_months, day_of_year, IsYear, IsCivilDate}
use Rattle.jiff_core.specs.Date.{epoch_day}
use Rattle.jiff_core.specs.Time.{time_nanos}
use Rattle.jiff_core.specs.DateTime.{civil_nanos}
use Rattle.jiff_core.specs.declared.civil.datetime.DateTime.{DateTime}
use Rattle.jiff_core.proofs.CalendarLemmas.{day_count-next_year, day_count-later_year, day_count-day_of_year, day_of_year_bound, days_of_months_more, days_of_months-zero, days_of_months_mono, days_from_civil-day_count, day_count-min, day_count_bounds}
use Rattle.jiff_core.proofs.DateLemmas.{civil}
use Rattle.jiff_core.proofs.DateTimeLemmas.{epoch_day-civil_nanos, civil_nanos-parts, time_nanos_bound}
use Rattle.func_time.specs.Moments.{day_of, since_midnight, year_walk, month_walk, year_and_place, month_and_day}
use borrow.Author.Differences.{up, down}

year_here : (fuel : ℕ) (y : ℤ) (n : ℕ) → n < days_in_year y → year_walk (suc fuel) y n ≡ (y, n)
unfolding year_walk
year_here fuel y n h = grind (arith, nat_tests)

year_on : (fuel : ℕ) (y : ℤ) (n : ℕ) → days_in_year y ≤ n → year_walk (suc fuel) y n ≡ year_walk fuel (y +ℤ pos 1) (n - days_in_year y)
unfolding year_walk
year_on fuel y n h = grind (arith, nat_tests)

month_here : (fuel : ℕ) (y : ℤ) (m n : ℕ) → n < days_in_month y m → month_walk (suc fuel) y m n ≡ (m, n + 1)
unfolding month_walk
month_here fuel y m n h = grind (arith, nat_tests)

month_on : (fuel : ℕ) (y : ℤ) (m n : ℕ) → days_in_month y m ≤ n → month_walk (suc fuel) y m n ≡ month_walk fuel y (m + 1) (n - days_in_month y m)
unfolding month_walk
month_on fuel y m n h = grind (arith, nat_tests)

pub year_walk_is : (fuel : ℕ) (y end : ℤ) (m d n : ℕ) → IsYear y → IsCivilDate end m d → end <ℤ (y +ℤ pos fuel) → y ≤ℤ end → n + day_count y 1 1 ≡ day_count end m d → year_walk fuel y n ≡ (end, day_of_year end m d - 1)
year_walk_is zero y end m d n year date more low count = absurd (omega (arith, signed_arith))
year_walk_is (suc fuel) y end m d n year date more low count =
    by_lt_z y end
    (λ lt.
    let later = day_count-later_year y end (omega (arith, signed_arith)) lt in
    let there = day_count-day_of_year end m d date.2.0 in
    let next = day_count-next_year y (y +ℤ pos 1) (omega (arith, signed_arith)) refl in
    let past : days_in_year y ≤ n = omega arith in
    year_on fuel y n past
    ∙ year_walk_is fuel (y +ℤ pos 1) end m d (n - days_in_year y) (omega (arith, signed_arith), omega (arith, signed_arith)) date
    (omega (arith, signed_arith)) (omega (arith, signed_arith)) (omega arith))
    (λ ge.
    let same : y ≡ end = omega (arith, signed_arith) in
    let there = day_count-day_of_year end m d date.2.0 in
    let bound = day_of_year_bound end m d date in
    let count_end = rw same at count in
    let place : n ≡ day_of_year end m d - 1 = omega arith in
    rw (same, place) (year_here fuel end (day_of_year end m d - 1) (omega arith)))

pub month_walk_is : (fuel : ℕ) (y : ℤ) (m k end d n : ℕ) → m ≡ k + 1 → m ≤ end → end < m + fuel → 1 ≤ d → d ≤ days_in_month y end → n + days_of_months y k + 1 ≡ days_of_months y (end - 1) + d → month_walk fuel y m n ≡ (end, d)
month_walk_is zero y m k end d n at low more first last count = absurd (omega arith)
month_walk_is (suc fuel) y m k end d n at low more first last count =
    elim (cases_order m end) [
      | inr (inl lt) ↦
          let back : m - 1 ≡ k = omega arith in
          let step = rw back at (days_of_months_more y m (omega arith)) in
          let later = days_of_months_mono y m (end - 1) (omega arith) in
          month_on fuel y m n (omega arith)
          ∙ month_walk_is fuel y (m + 1) m end d (n - days_in_month y m) refl (omega arith) (omega arith) first last (omega arith)
      | inl same ↦
          let back : end - 1 ≡ k = omega arith in
          let here = rw back at count in
          let place : n + 1 ≡ d = omega arith in
          let within : n < days_in_month y m = rw same (omega arith) in
          month_here fuel y m n within ∙ (rw (same, place) refl)
      | inr (inr gt) ↦ absurd (omega arith)
    ]

-- the day of a datetime
pub day_of_is : (dt : DateTime) → day_of (civil_nanos dt) ≡ epoch_day dt.date
unfolding day_of
day_of_is dt = sym (epoch_day-civil_nanos dt)

shifted : (z : ℤ) (c : ℕ) → up z + 4_371_953 ≡ down z + c → 366 ≤ c → unsigned_abs (z +ℤ pos 4_371_587) + 366 ≡ c
shifted z c e low =
    let same : z +ℤ pos 4_371_587 ≡ pos (c - 366) = omega (arith, signed_arith) in
    rw same (omega arith)

pub year_is : (dt : DateTime) → year_and_place (epoch_day dt.date) ≡ (dt.date.year, day_of_year dt.date.year dt.date.month dt.date.day - 1)
unfolding year_and_place
year_is dt =
    let date = civil dt.date in
    let from = days_from_civil-day_count dt.date.year dt.date.month dt.date.day in
    let bounds = day_count_bounds _ _ _ date in
    year_walk_is 19_999 (neg_ℤ (pos 9999)) dt.date.year dt.date.month dt.date.day (unsigned_abs (epoch_day dt.date +ℤ pos 4_371_587))
    (omega (arith, signed_arith), omega (arith, signed_arith)) date (omega (arith, signed_arith)) (omega (arith, signed_arith))
    (ap (λ (k : ℕ). unsigned_abs (epoch_day dt.date +ℤ pos 4_371_587) + k) day_count-min ∙ shifted _ _ from bounds.0)

pub month_is : (dt : DateTime) → month_and_day (epoch_day dt.date) ≡ (dt.date.month, dt.date.day)
unfolding month_and_day
month_is dt =
    let date = civil dt.date in
    rw (year_is dt) (month_walk_is 12 dt.date.year 1 0 dt.date.month dt.date.day _ refl date.1.0 (omega arith) date.2.0 date.2.1
    (omega (arith, days_of_months-zero dt.date.year)))

pub since_midnight_is : (dt : DateTime) → since_midnight (civil_nanos dt) ≡ time_nanos dt.time
unfolding since_midnight
since_midnight_is dt =
    omega (arith, signed_arith, civil_nanos-parts dt, time_nanos_bound dt.time)

pub day_at : (dt : DateTime) (n : ℤ) → civil_nanos dt ≡ n → day_of n ≡ epoch_day dt.date
day_at dt n e = ap day_of (sym e) ∙ day_of_is dt

pub year_at : (dt : DateTime) (n : ℤ) → civil_nanos dt ≡ n → dt.date.year ≡ (year_and_place (day_of n)).0
year_at dt n e = sym (ap (λ (d : ℤ). (year_and_place d).0) (day_at dt n e) ∙ ap (λ (p : ℤ × ℕ). p.0) (year_is dt))

pub month_at : (dt : DateTime) (n : ℤ) → civil_nanos dt ≡ n → dt.date.month ≡ (month_and_day (day_of n)).0
month_at dt n e = sym (ap (λ (d : ℤ). (month_and_day d).0) (day_at dt n e) ∙ ap (λ (p : ℕ × ℕ). p.0) (month_is dt))

pub day_of_month_at : (dt : DateTime) (n : ℤ) → civil_nanos dt ≡ n → dt.date.day ≡ (month_and_day (day_of n)).1
day_of_month_at dt n e = sym (ap (λ (d : ℤ). (month_and_day d).1) (day_at dt n e) ∙ ap (λ (p : ℕ × ℕ). p.1) (month_is dt))

pub clock_at : (dt : DateTime) (n : ℤ) → civil_nanos dt ≡ n → since_midnight n ≡ time_nanos dt.time
clock_at dt n e = ap since_midnight (sym e) ∙ since_midnight_is dt
