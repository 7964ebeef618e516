-- What jiff's printer shows of a format of the seven directives.
use Rattle.std.proofs.Common.{if◌then◌else◌, ◌≡◌, ◌≢◌, ◌⊎◌, inl, inr, ℕ, zero, suc, ◌+◌, ◌/◌, ◌<◌, ◌≤◌, ◌==◌, ◌&&◌, true, false, nat_le, nat_lt, List, [], ◌∷◌, ◌++◌, drop, take, length, get_or, refl, sym, ap, subst, ◌∙◌, arith, ℤ, pos, negsuc, unsigned_abs, replicate, min, ◌-◌, ◌^◌, Result, Some, Ok, Err, length-append, append_assoc, append-nil}
use Rattle.std.proofs.lemmas.Bool.Decides.{nat_tests}
use Rattle.std.proofs.lemmas.Str.{IsUtf8-encode, IsUtf8-append, IsUtf8-nil, is_utf8-from_IsUtf8, length-encode, len_utf8_bounds}
use Rattle.std.specs.Str.{IsUtf8, is_utf8}
use Rattle.std.proofs.lemmas.Bool.{cases_lt, cases_eq, and_parts, false≢true}
use lib.Utf8.{scalar, scalars, encode, encodes, scalar_cases, next}
use Rattle.jiff_strtime.specs.Directive.{plain, read_flag, colon_rest}
use Rattle.jiff_strtime.specs.Show.{Context, text_of, directive_text, percent_text, step_text, char_text, sequence_len, show_steps, show_format}
use Rattle.jiff_strtime.specs.declared.directive.Config.{Config}
use Rattle.jiff_strtime.proofs.ShowLemmas.{steps_go, steps_zero}
use Rattle.std.proofs.lemmas.Str.{IsUtf8-from_ascii}
use Rattle.std.proofs.lemmas.Fmt.{IsAscii-decimal}
use Rattle.std.specs.Fmt.{decimal}
use lib.Utf8.{low_scalar}
use Rattle.jiff_core.specs.declared.error.Error.{Error}
use Rattle.jiff_core.specs.declared.error.Error.TheVariants.{OutOfMemory}
use Rattle.jiff_core.specs.declared.civil.datetime.DateTime.{DateTime}
use Rattle.jiff_core.specs.Calendar.{IsYear}
use Rattle.jiff_core.proofs.CalendarLemmas.{days_in_month_bounds}
use Rattle.jiff_core.proofs.SignedLemmas.{signed_arith}
use Rattle.jiff_strtime.specs.declared.tm.BrokenDownTime.{BrokenDownTime}
use Rattle.jiff_strtime.specs.Show.{padded, int_text, IsShownAs}
use Rattle.jiff_strtime.specs.Text.{Parts, parts_of, date_parts, time_parts}
use Rattle.func_time.specs.Moments.{civil_year, civil_month, civil_day, clock_hour, clock_minute, clock_second}
use Rattle.func_time.specs.Formats.{is_letter, is_format, is_format_from, text_from, time_text}

-- the letters one by one
abbrev pub IsLetter : ℕ → Type 0
IsLetter b = (b ≡ 89) ⊎ ((b ≡ 109) ⊎ ((b ≡ 100) ⊎ ((b ≡ 72) ⊎ ((b ≡ 77) ⊎ ((b ≡ 83) ⊎ (b ≡ 37))))))

pub which : (b : ℕ) → is_letter b ≡ true → IsLetter b
which b h = grind (arith, nat_tests)

-- the parts of a context
pub record HasParts (cx : Context) (y : ℤ) (m d h mi s : ℕ) : Type 0 where
  pub year : cx.parts.year ≡ Some y
  pub month : cx.parts.month ≡ Some m
  pub day : cx.parts.day ≡ Some d
  pub hour : cx.parts.hour ≡ Some h
  pub minute : cx.parts.minute ≡ Some mi
  pub second : cx.parts.second ≡ Some s

-- what a directive shows of these parts
abbrev pub parts_text : ℤ → ℕ → ℕ → ℕ → ℕ → ℕ → ℕ → List ℕ
parts_text y m d h mi s letter =
    if letter == 89 then int_text plain 48 4 y
    else (if letter == 109 then int_text plain 48 2 (pos m)
    else (if letter == 100 then int_text plain 48 2 (pos d)
    else (if letter == 72 then int_text plain 48 2 (pos h)
    else (if letter == 77 then int_text plain 48 2 (pos mi)
    else (if letter == 83 then int_text plain 48 2 (pos s)
    else 37 ∷ [])))))

abbrev pub Letters : Config → Context → (ℕ → List ℕ) → Type 0
Letters config cx f = (b : ℕ) (rest : List ℕ) → is_letter b ≡ true → percent_text config (b ∷ rest) cx ≡ Ok (f b, rest)

pub letters : (config : Config) (cx : Context) (y : ℤ) (m d h mi s : ℕ) → HasParts cx y m d h mi s → Letters config cx (parts_text y m d h mi s)
unfolding text_of directive_text read_flag colon_rest
letters config cx y m d h mi s p b rest is =
    elim (which b is) [
      | inl e ↦ rw (e, p.year) refl
      | inr (inl e) ↦ rw (e, p.month) refl
      | inr (inr (inl e)) ↦ rw (e, p.day) refl
      | inr (inr (inr (inl e))) ↦ rw (e, p.hour) refl
      | inr (inr (inr (inr (inl e)))) ↦ rw (e, p.minute) refl
      | inr (inr (inr (inr (inr (inl e))))) ↦ rw (e, p.second) refl
      | inr (inr (inr (inr (inr (inr e))))) ↦ rw e refl
    ]

-- a byte that is no `%`
text_byte : (f : ℕ → List ℕ) (b : ℕ) (rest : List ℕ) → b ≢ 37 → text_from false f (b ∷ rest) ≡ b ∷ text_from false f rest
unfolding text_from
text_byte f b rest n = grind (arith, nat_tests)

pub format_byte : (b : ℕ) (rest : List ℕ) → b ≢ 37 → is_format_from false (b ∷ rest) ≡ is_format_from false rest
unfolding is_format_from
format_byte b rest n = let no : (b == 37) ≡ false = grind (arith, nat_tests) in rw no refl

pub some : (n : ℕ) → (suc n == 0) ≡ false
some n = grind (arith, nat_tests)

step_ascii : (config : Config) (b : ℕ) (rest : List ℕ) (cx : Context) → b ≢ 37 → b < 128 → step_text config (b ∷ rest) cx ≡ Ok (b ∷ [], rest)
step_ascii config b rest cx n h =
    let no : (b == 37) ≡ false = grind (arith, nat_tests) in
    let yes : nat_lt b 128 ≡ true = grind (arith, nat_tests) in
    rw (some (length rest), no, yes) refl

step_wide : (config : Config) (b : ℕ) (rest : List ℕ) (cx : Context) → 128 ≤ b → step_text config (b ∷ rest) cx ≡ char_text config (b ∷ rest)
step_wide config b rest cx h =
    let no : (b == 37) ≡ false = grind (arith, nat_tests) in
    let wide : nat_lt b 128 ≡ false = grind (arith, nat_tests) in
    rw (some (length rest), no, wide) refl

char_is : (config : Config) (fmt : List ℕ) (len : ℕ) → sequence_len (get_or fmt 0 0) ≡ len → nat_le len (length fmt) ≡ true → is_utf8 (take len fmt) ≡ true → char_text config fmt ≡ Ok (take len fmt, drop len fmt)
char_is config fmt len e fits text = rw (e, fits, text) refl

-- a character's bytes
pub data Shape (c : ℕ) : Type 0 where
  of1 : c < 128 → encode c ≡ c ∷ [] → Shape c
  of2 : (a b : ℕ) → 192 ≤ a → a < 224 → 128 ≤ b → encode c ≡ a ∷ b ∷ [] → Shape c
  of3 : (a b d : ℕ) → 224 ≤ a → a < 240 → 128 ≤ b → 128 ≤ d → encode c ≡ a ∷ b ∷ d ∷ [] → Shape c
  of4 : (a b d e : ℕ) → 240 ≤ a → a < 248 → 128 ≤ b → 128 ≤ d → 128 ≤ e → encode c ≡ a ∷ b ∷ d ∷ e ∷ [] → Shape c

one : (c : ℕ) → c < 128 → encode c ≡ c ∷ []
unfolding encode
one c h = let a : nat_lt c 128 ≡ true = grind (arith, nat_tests) in rw a refl

two : (c : ℕ) → 128 ≤ c → c < 2048 → encode c ≡ (192 + c / 64) ∷ next c ∷ []
unfolding encode
two c l h =
    let a : nat_lt c 128 ≡ false = grind (arith, nat_tests) in
    let b : nat_lt c 2048 ≡ true = grind (arith, nat_tests) in
    rw (a, b) refl

three : (c : ℕ) → 2048 ≤ c → c < 65536 → encode c ≡ (224 + c / 4096) ∷ next (c / 64) ∷ next c ∷ []
unfolding encode
three c l h =
    let a : nat_lt c 128 ≡ false = grind (arith, nat_tests) in
    let b : nat_lt c 2048 ≡ false = grind (arith, nat_tests) in
    let d : nat_lt c 65536 ≡ true = grind (arith, nat_tests) in
    rw (a, b, d) refl

four : (c : ℕ) → 65536 ≤ c → encode c ≡ (240 + c / 262144) ∷ next (c / 4096) ∷ next (c / 64) ∷ next c ∷ []
unfolding encode
four c l =
    let a : nat_lt c 128 ≡ false = grind (arith, nat_tests) in
    let b : nat_lt c 2048 ≡ false = grind (arith, nat_tests) in
    let d : nat_lt c 65536 ≡ false = grind (arith, nat_tests) in
    rw (a, b, d) refl

below : (c : ℕ) → scalar c ≡ true → c < 1114112
below c is = elim (scalar_cases c is) [ inl h ↦ omega arith | inr h ↦ h.1 ]

pub shape : (c : ℕ) → scalar c ≡ true → Shape c
shape c is =
    let top = below c is in
    elim (cases_lt c 128) [
      | inl h ↦ of1 h (one c h)
      | inr l ↦ elim (cases_lt c 2048) [
        | inl h ↦ of2 (192 + c / 64) (next c) (omega arith) (omega arith) (omega arith) (two c l h)
        | inr m ↦ elim (cases_lt c 65536) [
          | inl h ↦ of3 (224 + c / 4096) (next (c / 64)) (next c) (omega arith) (omega arith) (omega arith) (omega arith) (three c m h)
          | inr n ↦ of4 (240 + c / 262144) (next (c / 4096)) (next (c / 64)) (next c) (omega arith) (omega arith) (omega arith) (omega arith) (omega arith) (four c n)
        ]
      ]
    ]

-- a character that is no `%`
pub record Passes (config : Config) (cx : Context) (f : ℕ → List ℕ) (bytes rest : List ℕ) : Type 0 where
  pub step : step_text config (bytes ++ rest) cx ≡ Ok (bytes, rest)
  pub text : text_from false f (bytes ++ rest) ≡ bytes ++ text_from false f rest
  pub format : is_format_from false (bytes ++ rest) ≡ is_format_from false rest
  pub longer : length rest < length (bytes ++ rest)

pub passes : (config : Config) (cx : Context) (f : ℕ → List ℕ) (c : ℕ) (rest : List ℕ) → scalar c ≡ true → c ≢ 37 → Passes config cx f (encode c) rest
passes config cx f c rest is n =
    elim (shape c is) [
      | of1 h e ↦ subst (λ (bytes : List ℕ). Passes config cx f bytes rest) (sym e) (record {
        step = step_ascii config c rest cx n h;
        text = text_byte f c rest n;
        format = format_byte c rest n;
        longer = omega arith;
      })
      | of2 a b low high fb e ↦
          let utf8 = is_utf8-from_IsUtf8 _ (subst IsUtf8 e (IsUtf8-encode c is)) in
          let len : sequence_len a ≡ 2 = grind (arith, nat_tests) in
          subst (λ (bytes : List ℕ). Passes config cx f bytes rest) (sym e) (record {
            step = step_wide config a (b ∷ rest) cx (omega arith) ∙ char_is config (a ∷ b ∷ rest) 2 len (grind (arith, nat_tests)) utf8;
            text = text_byte f a (b ∷ rest) (omega arith) ∙ ap (λ t. a ∷ t) (text_byte f b rest (omega arith));
            format = format_byte a (b ∷ rest) (omega arith) ∙ format_byte b rest (omega arith);
            longer = omega arith;
          })
      | of3 a b d low high fb fd e ↦
          let utf8 = is_utf8-from_IsUtf8 _ (subst IsUtf8 e (IsUtf8-encode c is)) in
          let len : sequence_len a ≡ 3 = grind (arith, nat_tests) in
          subst (λ (bytes : List ℕ). Passes config cx f bytes rest) (sym e) (record {
            step = step_wide config a (b ∷ d ∷ rest) cx (omega arith) ∙ char_is config (a ∷ b ∷ d ∷ rest) 3 len (grind (arith, nat_tests)) utf8;
            text = text_byte f a (b ∷ d ∷ rest) (omega arith) ∙ ap (λ t. a ∷ t) (text_byte f b (d ∷ rest) (omega arith) ∙ ap (λ t. b ∷ t) (text_byte f d rest (omega arith)));
            format = format_byte a (b ∷ d ∷ rest) (omega arith) ∙ format_byte b (d ∷ rest) (omega arith) ∙ format_byte d rest (omega arith);
            longer = omega arith;
          })
      | of4 a b d g low high fb fd fg e ↦
          let utf8 = is_utf8-from_IsUtf8 _ (subst IsUtf8 e (IsUtf8-encode c is)) in
          let len : sequence_len a ≡ 4 = grind (arith, nat_tests) in
          subst (λ (bytes : List ℕ). Passes config cx f bytes rest) (sym e) (record {
            step = step_wide config a (b ∷ d ∷ g ∷ rest) cx (omega arith) ∙ char_is config (a ∷ b ∷ d ∷ g ∷ rest) 4 len (grind (arith, nat_tests)) utf8;
            text = text_byte f a (b ∷ d ∷ g ∷ rest) (omega arith) ∙ ap (λ t. a ∷ t) (text_byte f b (d ∷ g ∷ rest) (omega arith) ∙ ap (λ t. b ∷ t) (text_byte f d (g ∷ rest) (omega arith) ∙ ap (λ t. d ∷ t) (text_byte f g rest (omega arith))));
            format = format_byte a (b ∷ d ∷ g ∷ rest) (omega arith) ∙ format_byte b (d ∷ g ∷ rest) (omega arith) ∙ format_byte d (g ∷ rest) (omega arith) ∙ format_byte g rest (omega arith);
            longer = omega arith;
          })
    ]

-- a directive
pub record Directs (config : Config) (cx : Context) (f : ℕ → List ℕ) (cs : List ℕ) : Type 0 where
  pub letter : ℕ
  pub more : List ℕ
  pub is_letter : is_letter letter ≡ true
  pub scalars : scalars more ≡ true
  pub format : is_format_from false (encodes more) ≡ true
  pub bytes : encodes cs ≡ letter ∷ encodes more

percent_step : (config : Config) (cx : Context) (letter : ℕ) (rest : List ℕ) → config.lenient ≡ false → step_text config (37 ∷ letter ∷ rest) cx ≡ percent_text config (letter ∷ rest) cx
percent_step config cx letter rest e = rw (some (suc (length rest)), some (length rest), e) refl

text_percent : (f : ℕ → List ℕ) (letter : ℕ) (rest : List ℕ) → text_from false f (37 ∷ letter ∷ rest) ≡ f letter ++ text_from false f rest
unfolding text_from
text_percent f letter rest = refl

pub format_percent : (rest : List ℕ) → is_format_from false (37 ∷ rest) ≡ is_format_from true rest
unfolding is_format_from
format_percent rest = refl

pub format_letter : (letter : ℕ) (rest : List ℕ) → is_format_from true (letter ∷ rest) ≡ (is_letter letter && is_format_from false rest)
unfolding is_format_from
format_letter letter rest = refl

pub format_none : is_format_from true [] ≡ false
unfolding is_format_from
format_none = refl

text_none : (f : ℕ → List ℕ) → text_from false f [] ≡ []
unfolding text_from
text_none f = refl

not_letter : (a : ℕ) → 192 ≤ a → is_letter a ≡ false
not_letter a h = grind (arith, nat_tests)

directs : (config : Config) (cx : Context) (f : ℕ → List ℕ) (cs : List ℕ) → scalars cs ≡ true → is_format_from true (encodes cs) ≡ true → Directs config cx f cs
directs config cx f [] s h = absurd (false≢true (sym format_none ∙ h))
directs config cx f (d ∷ ds) s h =
    let both = and_parts (scalar d) (scalars ds) s in
    elim (shape d both.0) [
      | of1 low e ↦
          let bytes : encode d ++ encodes ds ≡ d ∷ encodes ds = ap (λ (l : List ℕ). l ++ encodes ds) e in
          let at = and_parts _ _ (sym (format_letter d (encodes ds)) ∙ (sym (ap (is_format_from true) bytes) ∙ h)) in
          record { letter = d; more = ds; is_letter = at.0; scalars = both.1; format = at.1; bytes = bytes }
      | of2 a b low high fb e ↦
          let bytes = ap (λ (l : List ℕ). l ++ encodes ds) e in
          let at = and_parts _ _ (sym (format_letter a (b ∷ encodes ds)) ∙ (sym (ap (is_format_from true) bytes) ∙ h)) in
          absurd (false≢true (sym (not_letter a low) ∙ at.0))
      | of3 a b g low high fb fd e ↦
          let bytes = ap (λ (l : List ℕ). l ++ encodes ds) e in
          let at = and_parts _ _ (sym (format_letter a (b ∷ g ∷ encodes ds)) ∙ (sym (ap (is_format_from true) bytes) ∙ h)) in
          absurd (false≢true (sym (not_letter a (omega arith)) ∙ at.0))
      | of4 a b g k low high fb fd fe e ↦
          let bytes = ap (λ (l : List ℕ). l ++ encodes ds) e in
          let at = and_parts _ _ (sym (format_letter a (b ∷ g ∷ k ∷ encodes ds)) ∙ (sym (ap (is_format_from true) bytes) ∙ h)) in
          absurd (false≢true (sym (not_letter a (omega arith)) ∙ at.0))
    ]

-- the whole format
pub shows : (fuel : ℕ) (config : Config) (cx : Context) (f : ℕ → List ℕ) (cs shown : List ℕ) → config.lenient ≡ false → Letters config cx f → scalars cs ≡ true → is_format_from false (encodes cs) ≡ true → length (encodes cs) ≤ fuel → show_steps fuel config (encodes cs) cx shown ≡ Ok (shown ++ text_from false f (encodes cs))
shows zero config cx f [] shown strict known s h fits =
    steps_zero config [] cx shown ∙ ap Ok (sym (append-nil shown) ∙ ap (λ (l : List ℕ). shown ++ l) (sym (text_none f)))
shows (suc fuel) config cx f [] shown strict known s h fits =
    steps_go fuel config [] [] cx shown [] refl
    ∙ (shows fuel config cx f [] (shown ++ []) strict known s h (omega arith)
    ∙ ap (λ (l : List ℕ). Ok (l ++ text_from false f [])) (append-nil shown))
shows zero config cx f (c ∷ cs) shown strict known s h fits =
    absurd (omega (arith, length-append (encode c) (encodes cs), length-encode c, (len_utf8_bounds c).0))
shows (suc fuel) config cx f (c ∷ cs) shown strict known s h fits =
    let both = and_parts (scalar c) (scalars cs) s in
    elim (cases_eq c 37) [
      | inl percent ↦
          let byte : encode c ++ encodes cs ≡ 37 ∷ encodes cs = rw percent (ap (λ (l : List ℕ). l ++ encodes cs) (one 37 (omega arith))) in
          let d = directs config cx f cs both.1 (sym (format_percent (encodes cs)) ∙ (sym (ap (is_format_from false) byte) ∙ h)) in
          let bytes : encode c ++ encodes cs ≡ 37 ∷ d.letter ∷ encodes d.more = byte ∙ ap (λ (l : List ℕ). 37 ∷ l) d.bytes in
          let less : length (encodes d.more) ≤ fuel = omega (arith, ap length bytes) in
          rw bytes
          (steps_go fuel config (37 ∷ d.letter ∷ encodes d.more) (encodes d.more) cx shown (f d.letter) (percent_step config cx d.letter (encodes d.more) strict ∙ known d.letter (encodes d.more) d.is_letter)
          ∙ (shows fuel config cx f d.more (shown ++ f d.letter) strict known d.scalars d.format less
          ∙ ap Ok (append_assoc shown (f d.letter) _ ∙ ap (λ (l : List ℕ). shown ++ l) (sym (text_percent f d.letter (encodes d.more))))))
      | inr other ↦
          let p = passes config cx f c (encodes cs) both.0 other in
          steps_go fuel config (encode c ++ encodes cs) (encodes cs) cx shown (encode c) p.step
          ∙ (shows fuel config cx f cs (shown ++ encode c) strict known both.1 (sym p.format ∙ h) (omega (arith, p.longer))
          ∙ ap Ok (append_assoc shown (encode c) _ ∙ ap (λ (l : List ℕ). shown ++ l) (sym p.text)))
    ]

-- and it is text
pub text_is_utf8 : (fuel : ℕ) (config : Config) (cx : Context) (f : ℕ → List ℕ) (cs : List ℕ) → ((b : ℕ) → is_letter b ≡ true → IsUtf8 (f b)) → scalars cs ≡ true → is_format_from false (encodes cs) ≡ true → length (encodes cs) ≤ fuel → IsUtf8 (text_from false f (encodes cs))
text_is_utf8 fuel config cx f [] known s h fits = rw (text_none f) IsUtf8-nil
text_is_utf8 zero config cx f (c ∷ cs) known s h fits =
    absurd (omega (arith, length-append (encode c) (encodes cs), length-encode c, (len_utf8_bounds c).0))
text_is_utf8 (suc fuel) config cx f (c ∷ cs) known s h fits =
    let both = and_parts (scalar c) (scalars cs) s in
    elim (cases_eq c 37) [
      | inl percent ↦
          let byte : encode c ++ encodes cs ≡ 37 ∷ encodes cs = rw percent (ap (λ (l : List ℕ). l ++ encodes cs) (one 37 (omega arith))) in
          let d = directs config cx f cs both.1 (sym (format_percent (encodes cs)) ∙ (sym (ap (is_format_from false) byte) ∙ h)) in
          let bytes : encode c ++ encodes cs ≡ 37 ∷ d.letter ∷ encodes d.more = byte ∙ ap (λ (l : List ℕ). 37 ∷ l) d.bytes in
          let less : length (encodes d.more) ≤ fuel = omega (arith, ap length bytes) in
          rw (bytes, text_percent f d.letter (encodes d.more))
          (IsUtf8-append (f d.letter) _ (known d.letter d.is_letter) (text_is_utf8 fuel config cx f d.more known d.scalars d.format less))
      | inr other ↦
          let p = passes config cx f c (encodes cs) both.0 other in
          rw p.text (IsUtf8-append (encode c) _ (IsUtf8-encode c both.0) (text_is_utf8 fuel config cx f cs known both.1 (sym p.format ∙ h) (omega (arith, p.longer))))
    ]

one_utf8 : (c : ℕ) → c < 128 → IsUtf8 (c ∷ [])
one_utf8 c h = subst IsUtf8 (one c h) (IsUtf8-encode c (low_scalar c (omega arith)))

replicate_utf8 : (k : ℕ) → IsUtf8 (replicate k 48)
replicate_utf8 zero = IsUtf8-nil
replicate_utf8 (suc k) = IsUtf8-append (48 ∷ []) (replicate k 48) (one_utf8 48 (omega arith)) (replicate_utf8 k)

padded_utf8 : (n width : ℕ) → n < 2 ^ 64 → IsUtf8 (padded n 48 width)
padded_utf8 n width h =
    IsUtf8-append (replicate (min width 20 - length (decimal n)) 48) (decimal n) (replicate_utf8 _) (IsUtf8-from_ascii (decimal n) (IsAscii-decimal n h))

number_utf8 : (width k : ℕ) → k < 2 ^ 64 → IsUtf8 (int_text plain 48 width (pos k))
number_utf8 width k h = let le : nat_le 0 k ≡ true = grind (arith, nat_tests) in rw le (padded_utf8 k width h)

year_utf8 : (z : ℤ) → unsigned_abs z < 2 ^ 64 → IsUtf8 (int_text plain 48 4 z)
year_utf8 (pos k) h = number_utf8 4 k h
year_utf8 (negsuc k) h = IsUtf8-append (45 ∷ []) (padded (suc k) 48 3) (one_utf8 45 (omega arith)) (padded_utf8 (suc k) 3 h)

year_fits : (y : ℤ) → IsYear y → unsigned_abs y < 2 ^ 64
year_fits (pos n) h = omega (arith, signed_arith)
year_fits (negsuc n) h = omega (arith, signed_arith)

pub letter_utf8 : (y : ℤ) (m d h mi s : ℕ) → unsigned_abs y < 2 ^ 64 → m < 2 ^ 64 → d < 2 ^ 64 → h < 2 ^ 64 → mi < 2 ^ 64 → s < 2 ^ 64 → (b : ℕ) → is_letter b ≡ true → IsUtf8 (parts_text y m d h mi s b)
letter_utf8 y m d h mi s in_y in_m in_d in_h in_mi in_s b is =
    elim (which b is) [
      | inl e ↦ rw e (year_utf8 y in_y)
      | inr (inl e) ↦ rw e (number_utf8 2 m in_m)
      | inr (inr (inl e)) ↦ rw e (number_utf8 2 d in_d)
      | inr (inr (inr (inl e))) ↦ rw e (number_utf8 2 h in_h)
      | inr (inr (inr (inr (inl e)))) ↦ rw e (number_utf8 2 mi in_mi)
      | inr (inr (inr (inr (inr (inl e))))) ↦ rw e (number_utf8 2 s in_s)
      | inr (inr (inr (inr (inr (inr e))))) ↦ rw e (one_utf8 37 (omega arith))
    ]

-- the parts of a moment
pub record IsCivil (dt : DateTime) (n : ℤ) : Type 0 where
  pub year : dt.date.year ≡ civil_year n
  pub month : dt.date.month ≡ civil_month n
  pub day : dt.date.day ≡ civil_day n
  pub hour : dt.time.hour ≡ clock_hour n
  pub minute : dt.time.minute ≡ clock_minute n
  pub second : dt.time.second ≡ clock_second n

abbrev dt_text : DateTime → ℕ → List ℕ
dt_text dt = parts_text dt.date.year dt.date.month dt.date.day dt.time.hour dt.time.minute dt.time.second

time_text_is : (dt : DateTime) (n : ℤ) (fmt : List ℕ) → IsCivil dt n → text_from false (dt_text dt) fmt ≡ time_text n fmt
unfolding time_text
time_text_is dt n fmt k = rw (k.year, k.month, k.day, k.hour, k.minute, k.second) refl

-- what jiff's printer shows of a moment is what the table says
pub shown_is : (config : Config) (fmt : List ℕ) (tm : BrokenDownTime) (dt : DateTime) (n : ℤ) (shown : Result (List ℕ) Error) → config.lenient ≡ false → IsUtf8 fmt → is_format fmt ≡ true → parts_of tm ≡ date_parts dt.date (time_parts dt.time) → IsCivil dt n → IsShownAs config fmt tm shown → shown ≡ Ok (time_text n fmt)
shown_is config fmt tm dt n shown strict utf8 is p k w =
    let parts = w.is_context.parts ∙ p in
    let has : HasParts w.context dt.date.year dt.date.month dt.date.day dt.time.hour dt.time.minute dt.time.second = record {
      year = ap (λ (q : Parts). q.year) parts;
      month = ap (λ (q : Parts). q.month) parts;
      day = ap (λ (q : Parts). q.day) parts;
      hour = ap (λ (q : Parts). q.hour) parts;
      minute = ap (λ (q : Parts). q.minute) parts;
      second = ap (λ (q : Parts). q.second) parts;
    } in
    let format : is_format_from false (encodes utf8.0) ≡ true = ap (is_format_from false) utf8.1.1 ∙ is in
    let known = letters config w.context _ _ _ _ _ _ has in
    let all = shows (length (encodes utf8.0)) config w.context (dt_text dt) utf8.0 [] strict known utf8.1.0 format (omega arith) in
    sym w.shown_is
    ∙ (subst (λ (bs : List ℕ). show_format config bs w.context ≡ Ok (text_from false (dt_text dt) bs)) utf8.1.1 all
    ∙ ap Ok (time_text_is dt n fmt k))

-- some context, for lemmas that speak of steps too
abbrev context_of : DateTime → Context
context_of dt = record {
  parts = date_parts dt.date (time_parts dt.time);
  date = Ok dt.date;
  iso = Err OutOfMemory;
  second = Err OutOfMemory;
}

pub time_text_utf8 : (config : Config) (fmt : List ℕ) (dt : DateTime) (n : ℤ) → IsUtf8 fmt → is_format fmt ≡ true → IsCivil dt n → IsUtf8 (time_text n fmt)
time_text_utf8 config fmt dt n utf8 is k =
    let format : is_format_from false (encodes utf8.0) ≡ true = ap (is_format_from false) utf8.1.1 ∙ is in
    let m = dt.date.month_in in
    let d = dt.date.day_in in
    let most = days_in_month_bounds dt.date.year dt.date.month in
    let known = letter_utf8 dt.date.year dt.date.month dt.date.day dt.time.hour dt.time.minute dt.time.second
    (year_fits _ dt.date.year_in) (omega arith) (omega arith) (omega (arith, dt.time.hour_in)) (omega (arith, dt.time.minute_in)) (omega (arith, dt.time.second_in)) in
    subst IsUtf8 (ap (text_from false (dt_text dt)) utf8.1.1 ∙ time_text_is dt n fmt k)
    (text_is_utf8 (length (encodes utf8.0)) config (context_of dt) (dt_text dt) utf8.0 known utf8.1.0 format (omega arith))
