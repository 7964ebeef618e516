-- The tests of dates and times against jiff's words, and the walk over a format.
use Rattle.std.proofs.Common.{◌≡◌, ◌≢◌, ℕ, zero, suc, ◌+◌, ◌<◌, ◌≤◌, ◌==◌, ◌&&◌, Bool, true, false, not, List, [], ◌∷◌, drop, length, get_or, refl, ap, ◌∙◌, arith, ◌*◌, ℤ, pos, ◌*ℤ◌, ◌+ℤ◌, add-one, drop-cons}
use Rattle.std.proofs.lemmas.Bool.Decides.{nat_tests}
use Rattle.jiff_core.specs.Calendar.{days_from_civil}
use Rattle.jiff_core.specs.Time.{time_nanos}
use Rattle.jiff_core.specs.DateTime.{civil_nanos}
use Rattle.jiff_core.specs.declared.civil.date.Date.{Date}
use Rattle.jiff_core.specs.declared.civil.time.Time.{Time}
use Rattle.func_time.specs.Formats.{is_date, is_time, has_from, civil_moment, ranged, is_letter, is_format_from}

pub civil_nanos_at : (d : Date) (t : Time) (y : ℤ) (m k h mi s : ℕ) → d.year ≡ y → d.month ≡ m → d.day ≡ k → t.hour ≡ h → t.minute ≡ mi → t.second ≡ s → t.subsec_nanosecond ≡ 0 → civil_nanos (record { date = d; time = t }) ≡ days_from_civil y m k *ℤ pos 86_400_000_000_000 +ℤ pos ((h * 3600 + mi * 60 + s) * 1_000_000_000)
unfolding civil_nanos
civil_nanos_at d t y m k h mi s e1 e2 e3 e4 e5 e6 e7 =
    let clock : time_nanos t ≡ (h * 3600 + mi * 60 + s) * 1_000_000_000 = omega arith in
    rw (e1, e2, e3) (ap (λ (n : ℕ). days_from_civil y m k *ℤ pos 86_400_000_000_000 +ℤ pos n) clock)

pub civil_moment_ok : (y : ℤ) (m k h mi s : ℕ) → true ≡ is_date y m k → true ≡ is_time h mi s → civil_moment y m k h mi s ≡ ranged (days_from_civil y m k *ℤ pos 86_400_000_000_000 +ℤ pos ((h * 3600 + mi * 60 + s) * 1_000_000_000))
civil_moment_ok y m k h mi s e f = rw (← e, ← f) refl

pub has_nil : (after : Bool) (letter : ℕ) (s : List ℕ) (i : ℕ) → length s ≤ i → has_from after letter (drop i s) ≡ false
unfolding has_from
has_nil after letter [] zero h = refl
has_nil after letter [] (suc i) h = refl
has_nil after letter (x ∷ s) zero h = absurd (omega arith)
has_nil after letter (x ∷ s) (suc i) h = has_nil after letter s i (omega arith)

has_cons : (after : Bool) (letter : ℕ) (s : List ℕ) (i : ℕ) → i < length s → has_from after letter (drop i s) ≡ has_from after letter (get_or s i 0 ∷ drop (i + 1) s)
has_cons after letter s i h = rw (add-one, drop-cons s i 0) refl

first_found : (letter b : ℕ) (rest : List ℕ) → b ≡ letter → has_from true letter (b ∷ rest) ≡ true
unfolding has_from
first_found letter b rest e = grind (arith, nat_tests)

first_other : (letter b : ℕ) (rest : List ℕ) → b ≢ letter → has_from true letter (b ∷ rest) ≡ has_from false letter rest
unfolding has_from
first_other letter b rest e = grind (arith, nat_tests)

first_before : (letter b : ℕ) (rest : List ℕ) → has_from false letter (b ∷ rest) ≡ has_from (b == 37) letter rest
unfolding has_from
first_before letter b rest = refl

pub has_found : (after : Bool) (letter : ℕ) (s : List ℕ) (i : ℕ) → after ≡ true → i < length s → get_or s i 0 ≡ letter → has_from after letter (drop i s) ≡ true
has_found after letter s i e h at = rw e (has_cons true letter s i h ∙ first_found _ _ _ at)

pub has_after : (after : Bool) (letter : ℕ) (s : List ℕ) (i : ℕ) → after ≡ true → i < length s → get_or s i 0 ≢ letter → has_from after letter (drop i s) ≡ has_from false letter (drop (i + 1) s)
has_after after letter s i e h at = rw e (has_cons true letter s i h ∙ first_other _ _ _ at)

pub has_before : (after : Bool) (letter : ℕ) (s : List ℕ) (i : ℕ) → after ≡ false → i < length s → has_from after letter (drop i s) ≡ has_from (get_or s i 0 == 37) letter (drop (i + 1) s)
has_before after letter s i e h = rw e (has_cons false letter s i h ∙ first_before _ _ _)

-- the same walk for the test of a format
pub only_end : (after : Bool) (s : List ℕ) (i : ℕ) → length s ≤ i → is_format_from after (drop i s) ≡ not after
unfolding is_format_from
only_end after [] zero h = refl
only_end after [] (suc i) h = refl
only_end after (x ∷ s) zero h = absurd (omega arith)
only_end after (x ∷ s) (suc i) h = only_end after s i (omega arith)

only_cons : (after : Bool) (s : List ℕ) (i : ℕ) → i < length s → is_format_from after (drop i s) ≡ is_format_from after (get_or s i 0 ∷ drop (i + 1) s)
only_cons after s i h = rw (add-one, drop-cons s i 0) refl

one_bad : (b : ℕ) (rest : List ℕ) → is_letter b ≡ false → is_format_from true (b ∷ rest) ≡ false
unfolding is_format_from
one_bad b rest e = ap (λ (t : Bool). t && is_format_from false rest) e

one_good : (b : ℕ) (rest : List ℕ) → is_letter b ≡ true → is_format_from true (b ∷ rest) ≡ is_format_from false rest
unfolding is_format_from
one_good b rest e = ap (λ (t : Bool). t && is_format_from false rest) e

one_before : (b : ℕ) (rest : List ℕ) → is_format_from false (b ∷ rest) ≡ is_format_from (b == 37) rest
unfolding is_format_from
one_before b rest = refl

pub only_bad : (after : Bool) (s : List ℕ) (i : ℕ) → after ≡ true → i < length s → is_letter (get_or s i 0) ≡ false → is_format_from after (drop i s) ≡ false
only_bad after s i e h at = rw e (only_cons true s i h ∙ one_bad _ _ at)

pub only_after : (after : Bool) (s : List ℕ) (i : ℕ) → after ≡ true → i < length s → is_letter (get_or s i 0) ≡ true → is_format_from after (drop i s) ≡ is_format_from false (drop (i + 1) s)
only_after after s i e h at = rw e (only_cons true s i h ∙ one_good _ _ at)

pub only_before : (after : Bool) (s : List ℕ) (i : ℕ) → after ≡ false → i < length s → is_format_from after (drop i s) ≡ is_format_from (get_or s i 0 == 37) (drop (i + 1) s)
only_before after s i e h = rw e (only_cons false s i h ∙ one_before _ _)
