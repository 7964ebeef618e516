-- What is read by a format of the seven directives is the date and time that jiff's own reading of a date-time gives.
use Rattle.std.proofs.Common.{◌≡◌, inl, inr, ℕ, zero, suc, ◌==◌, ◌&&◌, Bool, true, false, not, cond, List, [], ◌∷◌, ◌++◌, codes, length, drop, get_or, refl, sym, ap, subst, ◌∙◌, arith, ℤ, pos, unsigned_abs, min, Option, None, Some, Result, Ok, Err, IfOk}
use Rattle.std.proofs.lemmas.Bool.{cases_eq, and_parts, false≢true}
use Rattle.std.proofs.lemmas.Bool.Decides.{nat_tests}
use Rattle.std.specs.Char.{is_ascii_whitespace}
use Rattle.jiff_core.specs.declared.error.Error.{Error}
use Rattle.jiff_core.specs.declared.error.Error.TheVariants.{Parse}
use Rattle.jiff_core.specs.declared.error.Bound.{Bound}
use Rattle.jiff_core.specs.declared.error.Bound.TheVariants.{Month, Day, Hour, Minute, Second}
use Rattle.jiff_strtime.specs.Number.{skip_spaces}
use Rattle.jiff_core.specs.declared.error.Syntax.TheVariants.{Empty, Literal, Trailing}
use Rattle.jiff_strtime.specs.Directive.{plain, read_flag, colon_rest, read_extension}
use Rattle.jiff_strtime.specs.Number.{match_result}
use Rattle.jiff_strtime.specs.Reader.{Turn, Step, read_step, read_steps, read_percent, read_directive, read_simple, read_byte, read_year, read_letter, begins_with_dot, number_sets, turn_of, then_read, parse_text, read_format, set_hour}
use Rattle.jiff_strtime.specs.Text.{Parts, no_parts}
use Rattle.std.specs.Option.{unwrap_or}
use Rattle.std.proofs.lemmas.Int.{ints}
use Rattle.jiff_core.specs.DateTime.{civil_nanos}
use Rattle.jiff_core.specs.declared.civil.date.Date.{Date}
use Rattle.jiff_core.specs.declared.civil.time.Time.{Time}
use Rattle.jiff_core.specs.declared.civil.datetime.DateTime.{DateTime}
use Rattle.jiff_strtime.specs.Civil.{HasYmd, IsFromParts, IsDateTimeOf}
use Rattle.jiff_strtime.specs.Text.{parts_of}
use Rattle.jiff_strtime.specs.declared.tm.BrokenDownTime.{BrokenDownTime}
use Rattle.func_time.proofs.Runs.{civil_nanos_at, civil_moment_ok}
use Rattle.func_time.specs.Formats.{is_date, is_time, civil_moment, moment_of, ranged}
use Rattle.func_time.proofs.Shown.{which, some, format_percent, format_none, format_letter, format_byte}
use Rattle.func_time.specs.Formats.{is_letter, is_format, is_format_from, full_format, has_from, unless_has}

-- no part but the six is held
pub record OnlySix (p : Parts) : Type 0 where
  pub weekday : p.weekday ≡ None
  pub iso_week : p.iso_week ≡ None
  pub day_of_year : p.day_of_year ≡ None
  pub week_sun : p.week_sun ≡ None
  pub week_mon : p.week_mon ≡ None
  pub subsec : p.subsec ≡ None
  pub meridiem : p.meridiem ≡ None

abbrev pub Fine : List ℕ × Parts × List ℕ → Type 0
Fine t = OnlySix t.1 × (is_format_from false t.0 ≡ true)

cond_keeps : {B : Type 0} (b : Bool) (x y : Result B Error) (P : B → Type 0) → IfOk x P → IfOk y P → IfOk (cond b x y) P
cond_keeps true x y P hx hy = hx
cond_keeps false x y P hx hy = hy

match_keeps : {A B : Type 0} (r : Result A Error) (f : A → Result B Error) (Q : A → Type 0) (P : B → Type 0) → IfOk r Q → ((x : A) → Q x → IfOk (f x) P) → IfOk (match_result r f (λ e. Err e)) P
match_keeps (Ok x) f Q P h k = k x h
match_keeps (Err e) f Q P h k = tt

match_any : {A B : Type 0} (r : Result A Error) (f : A → Result B Error) (P : B → Type 0) → ((x : A) → IfOk (f x) P) → IfOk (match_result r f (λ e. Err e)) P
match_any (Ok x) f P k = k x
match_any (Err e) f P k = tt

read_keeps : {A B : Type 0} (r : Result (A × List ℕ) Error) (f : A × List ℕ → Result (B × List ℕ) Error) (P : B × List ℕ → Type 0) → ((x : A × List ℕ) → IfOk (f x) P) → IfOk (then_read r f) P
read_keeps (Ok x) f P k = k x
read_keeps (Err e) f P k = tt

abbrev pub Six : Parts × List ℕ → Type 0
Six q = OnlySix q.0

turn_keeps : (after : List ℕ) (s : Step) → is_format_from false after ≡ true → IfOk s Six → IfOk (turn_of after s) Fine
turn_keeps after (Ok p) f h = (h, f)
turn_keeps after (Err e) f h = tt

-- a part may be set
abbrev SameRest : Parts → Parts → Type 0
SameRest a b = (a.weekday ≡ b.weekday) × (a.iso_week ≡ b.iso_week) × (a.day_of_year ≡ b.day_of_year) × (a.week_sun ≡ b.week_sun) × (a.week_mon ≡ b.week_mon) × (a.subsec ≡ b.subsec) × (a.meridiem ≡ b.meridiem)

again : (a b : Parts) → OnlySix b → SameRest a b → OnlySix a
again a b o s = record {
  weekday = s.0 ∙ o.weekday;
  iso_week = s.1 ∙ o.iso_week;
  day_of_year = s.2 ∙ o.day_of_year;
  week_sun = s.3 ∙ o.week_sun;
  week_mon = s.4 ∙ o.week_mon;
  subsec = s.5 ∙ o.subsec;
  meridiem = s.6 ∙ o.meridiem;
}

same_rest : (a : Parts) → SameRest a a
same_rest a = (refl, refl, refl, refl, refl, refl, refl)

number_keeps : {A : Type 0} (r : Result (A × List ℕ) Error) (set : A → Parts) (tm : Parts) → OnlySix tm → ((a : A) → SameRest (set a) tm) → IfOk (then_read r (λ p. Ok (set p.0, p.1))) Six
number_keeps (Ok x) set tm o k = again (set x.0) tm o (k x.0)
number_keeps (Err e) set tm o k = tt

sets_keep : (width : ℕ) (inp : List ℕ) (low high : ℤ) (bound : Bound) (set : ℕ → Parts) (tm : Parts) → OnlySix tm → ((n : ℕ) → SameRest (set n) tm) → IfOk (number_sets plain width inp low high bound set) Six
sets_keep width inp low high bound set tm o k =
    number_keeps _ (λ n. set (unsigned_abs n)) tm o (λ n. k (unsigned_abs n))

directive_keeps : (letter : ℕ) (inp : List ℕ) (tm : Parts) → OnlySix tm → is_letter letter ≡ true → IfOk (read_directive letter plain inp tm) Six
unfolding read_directive read_simple
directive_keeps letter inp tm o is =
    elim (which letter is) [
      | inl e ↦ rw e (number_keeps (read_year plain inp) (λ y. record tm { year = Some y }) tm o (λ y. same_rest tm))
      | inr (inl e) ↦ rw e (sets_keep 2 inp (pos 1) (pos 12) Month (λ n. record tm { month = Some n }) tm o (λ y. same_rest tm))
      | inr (inr (inl e)) ↦ rw e (sets_keep 2 inp (pos 1) (pos 31) Day (λ n. record tm { day = Some n }) tm o (λ y. same_rest tm))
      | inr (inr (inr (inl e))) ↦ rw e (sets_keep 2 inp (pos 0) (pos 23) Hour (set_hour tm) tm o (λ y. same_rest tm))
      | inr (inr (inr (inr (inl e)))) ↦ rw e (sets_keep 2 inp (pos 0) (pos 59) Minute (λ n. record tm { minute = Some n }) tm o (λ y. same_rest tm))
      | inr (inr (inr (inr (inr (inl e))))) ↦ rw e (sets_keep 2 inp (pos 0) (pos 60) Second (λ n. record tm { second = Some (min n 59) }) tm o (λ y. same_rest tm))
      | inr (inr (inr (inr (inr (inr e))))) ↦ rw e (cond_keeps (not (length inp == 0) && (get_or inp 0 0 == 37)) (Ok (tm, drop 1 inp)) (Err (Parse Literal)) Six o tt)
    ]

-- what follows a `%` that has no dot
abbrev plain_percent : ℕ → List ℕ → List ℕ → Parts → Turn
plain_percent letter more inp tm = read_letter plain (letter ∷ more) inp tm

letter_keeps : (letter : ℕ) (more inp : List ℕ) (tm : Parts) → OnlySix tm → is_letter letter ≡ true → is_format_from false more ≡ true → IfOk (read_letter plain (letter ∷ more) inp tm) Fine
letter_keeps letter more inp tm o is f =
    let no_dot : (letter == 46) ≡ false = grind (arith, nat_tests, which letter is) in
    rw (some (length more), no_dot) (turn_keeps more (read_directive letter plain inp tm) f (directive_keeps letter inp tm o is))

extension_of : (letter : ℕ) (more : List ℕ) → is_letter letter ≡ true → read_extension (letter ∷ more) ≡ Ok (plain, letter ∷ more)
unfolding read_flag colon_rest
extension_of letter more is =
    elim (which letter is) [
      | inl e ↦ rw e refl
      | inr (inl e) ↦ rw e refl
      | inr (inr (inl e)) ↦ rw e refl
      | inr (inr (inr (inl e))) ↦ rw e refl
      | inr (inr (inr (inr (inl e)))) ↦ rw e refl
      | inr (inr (inr (inr (inr (inl e))))) ↦ rw e refl
      | inr (inr (inr (inr (inr (inr e))))) ↦ rw e refl
    ]

percent_keeps : (letter : ℕ) (more inp : List ℕ) (tm : Parts) → OnlySix tm → is_letter letter ≡ true → is_format_from false more ≡ true → IfOk (read_percent (letter ∷ more) inp tm) Fine
percent_keeps letter more inp tm o is f =
    cond_keeps ((length inp == 0) && not (begins_with_dot (letter ∷ more))) (Err (Parse Empty))
    (match_result (read_extension (letter ∷ more)) (λ e. read_letter e.0 e.1 inp tm) (λ e. Err e)) Fine tt
    (subst (λ x. IfOk (match_result x (λ e. read_letter e.0 e.1 inp tm) (λ e. Err e)) Fine) (sym (extension_of letter more is)) (letter_keeps letter more inp tm o is f))

byte_keeps : (b : ℕ) (rest inp : List ℕ) (tm : Parts) → OnlySix tm → is_format_from false rest ≡ true
    → IfOk (cond (is_ascii_whitespace b) (Ok (rest, tm, skip_spaces inp)) (match_result (read_byte b inp) (λ s. Ok (rest, tm, s)) (λ e. Err e))) Fine
byte_keeps b rest inp tm o f =
    cond_keeps (is_ascii_whitespace b) (Ok (rest, tm, skip_spaces inp)) (match_result (read_byte b inp) (λ s. Ok (rest, tm, s)) (λ e. Err e)) Fine
    (o, f) (match_any (read_byte b inp) (λ s. Ok (rest, tm, s)) Fine (λ s. (o, f)))

step_keeps : (fmt inp : List ℕ) (tm : Parts) → OnlySix tm → is_format_from false fmt ≡ true → IfOk (read_step fmt inp tm) Fine
step_keeps [] inp tm o f = (o, f)
step_keeps (b ∷ rest) inp tm o f =
    elim (cases_eq b 37) [
      | inl e ↦ rw (some (length rest), e) (after_percent rest inp tm o (sym (format_percent rest) ∙ (rw e at f)))
      | inr other ↦
          let no : (b == 37) ≡ false = grind (arith, nat_tests) in
          rw (some (length rest), no) (byte_keeps b rest inp tm o (sym (format_byte b rest other) ∙ f))
    ]
  where
    after_percent : (rest inp : List ℕ) (tm : Parts) → OnlySix tm → is_format_from true rest ≡ true → IfOk (read_percent rest inp tm) Fine
    after_percent [] inp tm o f = absurd (false≢true (sym format_none ∙ f))
    after_percent (letter ∷ more) inp tm o f =
        let at = and_parts (is_letter letter) (is_format_from false more) (sym (format_letter letter more) ∙ f) in
        percent_keeps letter more inp tm o at.0 at.1

steps_keep : (fuel : ℕ) (fmt inp : List ℕ) (tm : Parts) → OnlySix tm → is_format_from false fmt ≡ true → IfOk (read_steps fuel fmt inp tm) Six
unfolding read_steps
steps_keep zero fmt inp tm o f = o
steps_keep (suc fuel) fmt inp tm o f =
    match_keeps (read_step fmt inp tm) (λ t. read_steps fuel t.0 t.2 t.1) Fine Six (step_keeps fmt inp tm o f) (λ t h. steps_keep fuel t.0 t.2 t.1 h.0 h.1)

-- a format of the seven directives reads no other part, so that the parts have one date and one time
pub reads_only_six : (format text : List ℕ) → is_format format ≡ true → IfOk (parse_text format text) OnlySix
reads_only_six format text f =
    match_keeps (read_format format text) (λ p. cond (length p.1 == 0) (Ok p.0) (Err (Parse Trailing))) Six OnlySix
    (steps_keep (length format) format text no_parts (record { weekday = refl; iso_week = refl; day_of_year = refl; week_sun = refl; week_mon = refl; subsec = refl; meridiem = refl }) f)
    (λ p h. cond_keeps (length p.1 == 0) (Ok p.0) (Err (Parse Trailing)) OnlySix h tt)

-- a date-time that jiff's own reading may give of such parts has the moment of the definition
date_is : (d : Date) → is_date d.year d.month d.day ≡ true
date_is d = let m = d.month_in in let k = d.day_in in let y = d.year_in in grind (arith, nat_tests, ints)

time_is : (t : Time) → is_time t.hour t.minute t.second ≡ true
time_is t = let h = t.hour_in in let m = t.minute_in in let s = t.second_in in grind (arith, nat_tests)

moment_is : (tm : BrokenDownTime) (y : ℤ) (m d h mi s : ℕ) → tm.year ≡ Some y → tm.month ≡ Some m → tm.day ≡ Some d → tm.hour ≡ Some h → tm.minute ≡ Some mi → tm.second ≡ Some s → moment_of (parts_of tm) ≡ civil_moment y m d h mi s
moment_is tm y m d h mi s a b c e f g = rw (a, b, c, e, f, g) refl

only_ymd : (tm : BrokenDownTime) (d : Date) → OnlySix (parts_of tm) → IsFromParts tm d → HasYmd tm d
only_ymd tm d o (inl h) = h
only_ymd tm d o (inr (inl h)) = let a = h.week_is in let b = o.iso_week in cc
only_ymd tm d o (inr (inr (inl h))) = let a = h.1 in let b = o.day_of_year in cc
only_ymd tm d o (inr (inr (inr (inl h)))) = let a = h.number_is in let b = o.week_sun in cc
only_ymd tm d o (inr (inr (inr (inr h)))) = let a = h.number_is in let b = o.week_mon in cc

held : (o : Option ℕ) (a b : ℕ) → o ≡ Some b → a ≡ unwrap_or o 0 → o ≡ Some a
held o a b e f = let g : unwrap_or o 0 ≡ b = ap (λ (x : Option ℕ). unwrap_or x 0) e in cc

pub agrees : (tm : BrokenDownTime) (dt : DateTime) (h mi s : ℕ) → OnlySix (parts_of tm) → tm.hour ≡ Some h → tm.minute ≡ Some mi → tm.second ≡ Some s → IsDateTimeOf tm dt → moment_of (parts_of tm) ≡ ranged (civil_nanos dt)
agrees tm dt h mi s o eh em es is =
    let ymd = only_ymd tm dt.date o is.0.0 in
    let zero_subsec : dt.time.subsec_nanosecond ≡ 0 = is.1.3 ∙ ap (λ (x : Option ℕ). unwrap_or x 0) o.subsec in
    moment_is tm dt.date.year dt.date.month dt.date.day dt.time.hour dt.time.minute dt.time.second ymd.0 ymd.1 ymd.2
    (held tm.hour dt.time.hour h eh is.1.0) (held tm.minute dt.time.minute mi em is.1.1) (held tm.second dt.time.second s es is.1.2)
    ∙ (civil_moment_ok dt.date.year dt.date.month dt.date.day dt.time.hour dt.time.minute dt.time.second (sym (date_is dt.date)) (sym (time_is dt.time))
    ∙ ap ranged (sym (civil_nanos_at dt.date dt.time _ _ _ _ _ _ refl refl refl refl refl refl zero_subsec)))

-- what completes a format is a format
format_append : (after : Bool) (xs ys : List ℕ) → is_format_from after xs ≡ true → is_format_from false ys ≡ true → is_format_from after (xs ++ ys) ≡ true
unfolding is_format_from
format_append true [] ys h k = absurd (false≢true h)
format_append false [] ys h k = k
format_append true (b ∷ xs) ys h k =
    let at = and_parts (is_letter b) (is_format_from false xs) h in
    rw at.0 (format_append false xs ys at.1 k)
format_append false (b ∷ xs) ys h k = format_append (b == 37) xs ys h k

more_is_format : (b : Bool) (xs : List ℕ) → is_format_from false xs ≡ true → is_format_from false (cond b [] xs) ≡ true
unfolding is_format_from
more_is_format true xs h = refl
more_is_format false xs h = h

grow : (format front : List ℕ) (letter : ℕ) (xs : List ℕ) → is_format_from false front ≡ true → is_format_from false xs ≡ true → is_format_from false (front ++ unless_has format letter xs) ≡ true
grow format front letter xs h k = format_append false front (unless_has format letter xs) h (more_is_format (has_from false letter format) xs k)

pub full_is_format : (format : List ℕ) → is_format format ≡ true → is_format (full_format format) ≡ true
unfolding full_format is_format_from
full_is_format format h =
    let a = format ++ unless_has format 89 (codes ";%Y") in
    let b = a ++ unless_has format 109 (codes ";%m") in
    let d = b ++ unless_has format 100 (codes ";%d") in
    let e = d ++ unless_has format 72 (codes ";%H") in
    let f = e ++ unless_has format 77 (codes ";%M") in
    grow format f 83 (codes ";%S")
    (grow format e 77 (codes ";%M")
    (grow format d 72 (codes ";%H")
    (grow format b 100 (codes ";%d")
    (grow format a 109 (codes ";%m")
    (grow format format 89 (codes ";%Y") h refl)
    refl)
    refl)
    refl)
    refl)
    refl
