-- How a reading of JSON goes on beside the run of a row of rules.
use Rattle.std.proofs.Common.{◌≡◌, ◌∙◌, ℕ, ◌+◌, ◌<◌, ◌≤◌, Bool, true, false, List, length, drop, Result, Ok, Err, sym, ap, subst, arith, length-drop}
use Rattle.std.proofs.lemmas.List.{drop-drop}
use Rattle.contract_words.specs.Grammar.{Rule}
use Rattle.contract_words.specs.Rows.{run}
use Rattle.json_text.specs.Place.{Rest, past}
use Rattle.json_text.specs.Reading.{◌>>=◌}
use Rattle.json_text.specs.declared.error.JsonFault.{JsonFault}
use Rattle.json_text.specs.declared.error.JsonFault.TheVariants.{BadUtf8, BadJson, TooDeep, NoMemory}

-- so many bytes before
abbrev pub ahead : ℕ → ℕ × Bool → ℕ × Bool
ahead n o = (n + o.0, o.1)

-- A reading went on to a place, where the rows that are left go on.
pub record Goes (least : ℕ) (o : ℕ × Bool) (start : Rest) (rows : List Rule) (there : Rest) : Type 0 where
  pub count : ℕ
  pub at_least : least ≤ count
  pub within : count ≤ length start.left
  pub place : there ≡ past count start
  pub runs : o ≡ ahead count (run rows there.left)

-- A reading stopped at a place, where the row takes no more.
pub record Stops (o : ℕ × Bool) (start : Rest) (at : ℕ) : Type 0 where
  pub count : ℕ
  pub place : at ≡ start.at + count
  pub runs : o ≡ (count, false)

-- A reading stopped at a container too many, which a deeper grammar takes.
pub record Opens (o : ℕ × Bool) (start : Rest) (at : ℕ) : Type 0 where
  pub count : ℕ
  pub place : at ≡ start.at + count
  pub further : count < o.0

abbrev pub Deep : Bool → ℕ × Bool → Rest → ℕ → Type 0
Deep true o start at = Opens o start at
Deep false o start at = Stops o start at

abbrev pub Follows : {A : Type 0} → (A → Rest) → Bool → ℕ → ℕ × Bool → Rest → List Rule → Result A JsonFault → Type 0
Follows place deeper least o start rows (Ok a) = Goes least o start rows (place a)
Follows place deeper least o start rows (Err (BadJson at)) = Stops o start at
Follows place deeper least o start rows (Err (TooDeep at)) = Deep deeper o start at
Follows place deeper least o start rows (Err (BadUtf8 at)) = ⊥
Follows place deeper least o start rows (Err NoMemory) = ⊥

past_twice : (n m : ℕ) (r : Rest) → past m (past n r) ≡ past (n + m) r
past_twice n m r = twice r.at r.left n where
  twice : (at : ℕ) (left : List ℕ) (n : ℕ) → past m (past n (record { at = at; left = left })) ≡ past (n + m) (record { at = at; left = left })
  twice at left n =
      let place : at + n + m ≡ at + (n + m) = omega arith in
      ap (λ (k : ℕ). record { at = k; left = drop m (drop n left) }) place ∙ ap (λ (l : List ℕ). record { at = at + (n + m); left = l }) (drop-drop m n left)

ahead_twice : (n m : ℕ) (o : ℕ × Bool) → ahead n (ahead m o) ≡ ahead (n + m) o
ahead_twice n m o = let e : n + (m + o.0) ≡ n + m + o.0 = omega arith in ap (λ (k : ℕ). (k, o.1)) e

pub goes_then : (a b : ℕ) (o : ℕ × Bool) (start mid there : Rest) (middle rows : List Rule) → Goes a o start middle mid → Goes b (run middle mid.left) mid rows there → Goes (a + b) o start rows there
goes_then a b o start mid there middle rows g h = record {
  count = g.count + h.count;
  at_least = omega (arith, g.at_least, h.at_least);
  within = omega (arith, g.within, h.within, ap (λ (r : Rest). length r.left) g.place, length-drop g.count start.left);
  place = h.place ∙ ap (past h.count) g.place ∙ past_twice g.count h.count start;
  runs = g.runs ∙ ap (ahead g.count) h.runs ∙ ahead_twice g.count h.count (run rows there.left);
}

stops_then : (a : ℕ) (o : ℕ × Bool) (start mid : Rest) (middle : List Rule) (at : ℕ) → Goes a o start middle mid → Stops (run middle mid.left) mid at → Stops o start at
stops_then a o start mid middle at g h = record {
  count = g.count + h.count;
  place = omega (arith, h.place, ap (λ (r : Rest). r.at) g.place);
  runs = g.runs ∙ ap (ahead g.count) h.runs;
}

opens_then : (a : ℕ) (o : ℕ × Bool) (start mid : Rest) (middle : List Rule) (at : ℕ) → Goes a o start middle mid → Opens (run middle mid.left) mid at → Opens o start at
opens_then a o start mid middle at g h = record {
  count = g.count + h.count;
  place = omega (arith, h.place, ap (λ (r : Rest). r.at) g.place);
  further = omega (arith, h.further, ap (λ (p : ℕ × Bool). p.0) g.runs);
}

deep_then : (deeper : Bool) (a : ℕ) (o : ℕ × Bool) (start mid : Rest) (middle : List Rule) (at : ℕ) → Goes a o start middle mid → Deep deeper (run middle mid.left) mid at → Deep deeper o start at
deep_then true a o start mid middle at g h = opens_then a o start mid middle at g h
deep_then false a o start mid middle at g h = stops_then a o start mid middle at g h

pub follows_then : {B : Type 0} (pb : B → Rest) (deeper : Bool) (a b : ℕ) (o : ℕ × Bool) (start mid : Rest) (middle rows : List Rule) (res : Result B JsonFault)
    → Goes a o start middle mid → Follows pb deeper b (run middle mid.left) mid rows res → Follows pb deeper (a + b) o start rows res
follows_then pb deeper a b o start mid middle rows (Ok y) g h = goes_then a b o start mid (pb y) middle rows g h
follows_then pb deeper a b o start mid middle rows (Err (BadJson at)) g h = stops_then a o start mid middle at g h
follows_then pb deeper a b o start mid middle rows (Err (TooDeep at)) g h = deep_then deeper a o start mid middle at g h
follows_then pb deeper a b o start mid middle rows (Err (BadUtf8 at)) g h = h
follows_then pb deeper a b o start mid middle rows (Err NoMemory) g h = h

-- one reading after another
pub follows_bind : {A B : Type 0} (pa : A → Rest) (pb : B → Rest) (deeper : Bool) (a b : ℕ) (o : ℕ × Bool) (start : Rest) (middle rows : List Rule) (m : Result A JsonFault) (f : A → Result B JsonFault)
    → Follows pa deeper a o start middle m → ((x : A) → Follows pb deeper b (run middle (pa x).left) (pa x) rows (f x)) → Follows pb deeper (a + b) o start rows (m >>= f)
follows_bind pa pb deeper a b o start middle rows (Ok x) f h k = follows_then pb deeper a b o start (pa x) middle rows (f x) h (k x)
follows_bind pa pb deeper a b o start middle rows (Err (BadJson at)) f h k = h
follows_bind pa pb deeper a b o start middle rows (Err (TooDeep at)) f h k = h
follows_bind pa pb deeper a b o start middle rows (Err (BadUtf8 at)) f h k = h
follows_bind pa pb deeper a b o start middle rows (Err NoMemory) f h k = h

-- the same of rows that do the same
pub follows_same : {B : Type 0} (pb : B → Rest) (deeper : Bool) (b : ℕ) (o p : ℕ × Bool) (start : Rest) (rows : List Rule) (res : Result B JsonFault) → o ≡ p → Follows pb deeper b p start rows res → Follows pb deeper b o start rows res
follows_same pb deeper b o p start rows res same h = subst (λ (q : ℕ × Bool). Follows pb deeper b q start rows res) (sym same) h

pub follows_less : {B : Type 0} (pb : B → Rest) (deeper : Bool) (a b : ℕ) (o : ℕ × Bool) (start : Rest) (rows : List Rule) (res : Result B JsonFault) → a ≤ b → Follows pb deeper b o start rows res → Follows pb deeper a o start rows res
follows_less pb deeper a b o start rows (Ok y) le h = record { count = h.count; at_least = omega (arith, h.at_least); within = h.within; place = h.place; runs = h.runs }
follows_less pb deeper a b o start rows (Err (BadJson at)) le h = h
follows_less pb deeper a b o start rows (Err (TooDeep at)) le h = h
follows_less pb deeper a b o start rows (Err (BadUtf8 at)) le h = h
follows_less pb deeper a b o start rows (Err NoMemory) le h = h

pub goes_on : (o : ℕ × Bool) (start : Rest) (rows : List Rule) → o ≡ run rows start.left → Goes 0 o start rows start
goes_on o start rows same = record { count = 0; at_least = omega arith; within = omega arith; place = none start; runs = same ∙ zero_ahead (run rows start.left) } where
  none : (r : Rest) → r ≡ past 0 r
  none r = let e : r.at ≡ r.at + 0 = omega arith in ap (λ (k : ℕ). record { at = k; left = r.left }) e

  zero_ahead : (q : ℕ × Bool) → q ≡ ahead 0 q
  zero_ahead q = let e : q.0 ≡ 0 + q.0 = omega arith in ap (λ (k : ℕ). (k, q.1)) e

-- one reading after another, of which the second knows where it begins
pub follows_from : {A B : Type 0} (pa : A → Rest) (pb : B → Rest) (deeper : Bool) (a b : ℕ) (o : ℕ × Bool) (start : Rest) (middle rows : List Rule) (m : Result A JsonFault) (f : A → Result B JsonFault)
    → Follows pa deeper a o start middle m → ((x : A) → Goes a o start middle (pa x) → Follows pb deeper b (run middle (pa x).left) (pa x) rows (f x)) → Follows pb deeper (a + b) o start rows (m >>= f)
follows_from pa pb deeper a b o start middle rows (Ok x) f h k = follows_then pb deeper a b o start (pa x) middle rows (f x) h (k x h)
follows_from pa pb deeper a b o start middle rows (Err (BadJson at)) f h k = h
follows_from pa pb deeper a b o start middle rows (Err (TooDeep at)) f h k = h
follows_from pa pb deeper a b o start middle rows (Err (BadUtf8 at)) f h k = h
follows_from pa pb deeper a b o start middle rows (Err NoMemory) f h k = h

-- what is left behind at least one byte is shorter
pub Goes-shorter : (o : ℕ × Bool) (start : Rest) (rows : List Rule) (there : Rest) → Goes 1 o start rows there → length there.left < length start.left
Goes-shorter o start rows there g = omega (arith, g.at_least, g.within, ap (λ (r : Rest). length r.left) g.place, length-drop g.count start.left)

pub Goes-no_longer : (a : ℕ) (o : ℕ × Bool) (start : Rest) (rows : List Rule) (there : Rest) → Goes a o start rows there → length there.left ≤ length start.left
Goes-no_longer a o start rows there g = omega (arith, g.within, ap (λ (r : Rest). length r.left) g.place, length-drop g.count start.left)
