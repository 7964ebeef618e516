-- How a reading goes on beside the run of a row of rules.
use Rattle.std.proofs.Common.{◌≡◌, ◌∙◌, ℕ, ◌+◌, ◌<◌, ◌≤◌, Bool, true, false, List, length, drop, Result, Ok, Err, refl, sym, ap, subst, arith, cond, length-drop}
use Rattle.std.proofs.lemmas.List.{drop-drop}
use Rattle.contract_words.specs.Grammar.{Rule}
use Rattle.contract_words.specs.Rows.{run}
use Rattle.std.specs.Prelude.{◌==◌}
use Rattle.ottl_lex.specs.Codes.{quoted}
use Rattle.ottl_lex.specs.Quoted.{◌>>=◌, text_of}
use Rattle.ottl_lex.specs.declared.fault.SyntaxFault.{SyntaxFault}
use Rattle.ottl_lex.specs.declared.fault.SyntaxKind.{SyntaxKind}
use Rattle.ottl_lex.specs.declared.fault.SyntaxKind.TheVariants.{BadChar, OpenText, BadEscape, NotUtf8, Fraction, BadNumber, Wide, Unexpected, ConditionWanted, ValueWanted, TooDeep}
use Rattle.ottl_parse.specs.Place.{Rest, head, place, slice}
use Rattle.ottl_parse.specs.Grammar.{codes_of}

abbrev pub codes : Rest → List ℕ
codes r = codes_of r.text r.left

-- so many codes before
abbrev pub ahead : ℕ → ℕ × Bool → ℕ × Bool
ahead n o = (n + o.0, o.1)

-- A reading went on to a place, where the rows that are left go on.
pub record Goes (least : ℕ) (o : ℕ × Bool) (start : Rest) (rows : List Rule) (there : Rest) : Type 0 where
  pub count : ℕ
  pub at_least : least ≤ count
  pub within : count ≤ length start.left
  pub left : there.left ≡ drop count start.left
  pub text : there.text ≡ start.text
  pub runs : o ≡ ahead count (run rows (codes there))

-- A reading stopped at a place, where the rows take no more.
pub record Stops (o : ℕ × Bool) (start : Rest) (at : ℕ) : Type 0 where
  pub count : ℕ
  pub there : Rest
  pub left : there.left ≡ drop count start.left
  pub text : there.text ≡ start.text
  pub placed : at ≡ place there
  pub runs : o ≡ (count, false)

-- Where the grammar nests as deep as the reading, a construct too many ends no text of it.
abbrev pub Deep : Bool → ℕ × Bool → Type 0
Deep true o = Unit {0}
Deep false o = o.1 ≡ false

-- A reading met a text whose contents have the fault.
pub record Cites (start : Rest) (f : SyntaxFault) : Type 0 where
  pub count : ℕ
  pub there : Rest
  pub left : there.left ≡ drop count start.left
  pub text : there.text ≡ start.text
  pub is_quoted : (head there == quoted) ≡ true
  pub known : text_of (place there) (slice there) ≡ Err f

-- what a fault says of a run; whether the grammar nests deeper than the reading
abbrev pub Fails : Bool → SyntaxKind → ℕ → ℕ × Bool → Rest → Type 0
Fails deeper Unexpected at o start = Stops o start at
Fails deeper TooDeep at o start = Deep deeper o
Fails deeper Wide at o start = Unit {0}
Fails deeper kind at o start = Cites start (record { kind = kind; at = at })

abbrev pub Follows : {A : Type 0} → (A → Rest) → Bool → ℕ → ℕ × Bool → Rest → List Rule → Result A SyntaxFault → Type 0
Follows to deeper least o start rows (Ok x) = Goes least o start rows (to x)
Follows to deeper least o start rows (Err e) = Fails deeper e.kind e.at o start

abbrev pub here : Rest → Rest
here r = r

abbrev pub behind : {X : Type 0} → X × Rest → Rest
behind p = p.1

ahead-twice : (n m : ℕ) (o : ℕ × Bool) → ahead n (ahead m o) ≡ ahead (n + m) o
ahead-twice n m o = let e : n + (m + o.0) ≡ n + m + o.0 = omega arith in ap (λ (k : ℕ). (k, o.1)) e

zero-ahead : (q : ℕ × Bool) → q ≡ ahead 0 q
zero-ahead q = let e : q.0 ≡ 0 + q.0 = omega arith in ap (λ (k : ℕ). (k, q.1)) e

pub goes-then : (a : ℕ) (o : ℕ × Bool) (start mid there : Rest) (middle rows : List Rule)
    → Goes a o start middle mid → Goes 0 (run middle (codes mid)) mid rows there → Goes a o start rows there
goes-then a o start mid there middle rows g h = record {
  count = g.count + h.count;
  at_least = omega (arith, g.at_least);
  within = omega (arith, g.within, h.within, ap length g.left, length-drop g.count start.left);
  left = h.left ∙ ap (drop h.count) g.left ∙ drop-drop h.count g.count start.left;
  text = h.text ∙ g.text;
  runs = g.runs ∙ ap (ahead g.count) h.runs ∙ ahead-twice g.count h.count (run rows (codes there));
}

stops-then : (a : ℕ) (o : ℕ × Bool) (start mid : Rest) (middle : List Rule) (at : ℕ) → Goes a o start middle mid → Stops (run middle (codes mid)) mid at → Stops o start at
stops-then a o start mid middle at g h = record {
  count = g.count + h.count;
  there = h.there;
  left = h.left ∙ ap (drop h.count) g.left ∙ drop-drop h.count g.count start.left;
  text = h.text ∙ g.text;
  placed = h.placed;
  runs = g.runs ∙ ap (ahead g.count) h.runs;
}

deep-then : (deeper : Bool) (a : ℕ) (o : ℕ × Bool) (start mid : Rest) (middle : List Rule) → Goes a o start middle mid → Deep deeper (run middle (codes mid)) → Deep deeper o
deep-then true a o start mid middle g h = tt
deep-then false a o start mid middle g h = ap (λ (q : ℕ × Bool). q.1) g.runs ∙ h

cites-then : (a : ℕ) (o : ℕ × Bool) (start mid : Rest) (middle : List Rule) (f : SyntaxFault) → Goes a o start middle mid → Cites mid f → Cites start f
cites-then a o start mid middle f g h = record {
  count = g.count + h.count;
  there = h.there;
  left = h.left ∙ ap (drop h.count) g.left ∙ drop-drop h.count g.count start.left;
  text = h.text ∙ g.text;
  is_quoted = h.is_quoted;
  known = h.known;
}

fails-then : (deeper : Bool) (kind : SyntaxKind) (a : ℕ) (o : ℕ × Bool) (start mid : Rest) (middle : List Rule) (at : ℕ) → Goes a o start middle mid
    → Fails deeper kind at (run middle (codes mid)) mid → Fails deeper kind at o start
fails-then deeper Unexpected a o start mid middle at g h = stops-then a o start mid middle at g h
fails-then deeper TooDeep a o start mid middle at g h = deep-then deeper a o start mid middle g h
fails-then deeper BadChar a o start mid middle at g h = cites-then a o start mid middle (record { kind = BadChar; at = at }) g h
fails-then deeper OpenText a o start mid middle at g h = cites-then a o start mid middle (record { kind = OpenText; at = at }) g h
fails-then deeper BadEscape a o start mid middle at g h = cites-then a o start mid middle (record { kind = BadEscape; at = at }) g h
fails-then deeper NotUtf8 a o start mid middle at g h = cites-then a o start mid middle (record { kind = NotUtf8; at = at }) g h
fails-then deeper Fraction a o start mid middle at g h = cites-then a o start mid middle (record { kind = Fraction; at = at }) g h
fails-then deeper BadNumber a o start mid middle at g h = cites-then a o start mid middle (record { kind = BadNumber; at = at }) g h
fails-then deeper Wide a o start mid middle at g h = tt
fails-then deeper ConditionWanted a o start mid middle at g h = cites-then a o start mid middle (record { kind = ConditionWanted; at = at }) g h
fails-then deeper ValueWanted a o start mid middle at g h = cites-then a o start mid middle (record { kind = ValueWanted; at = at }) g h

-- what was read, and then what follows
pub follows-then : {B : Type 0} (pb : B → Rest) (deeper : Bool) (a : ℕ) (o : ℕ × Bool) (start mid : Rest) (middle rows : List Rule) (res : Result B SyntaxFault)
    → Goes a o start middle mid → Follows pb deeper 0 (run middle (codes mid)) mid rows res → Follows pb deeper a o start rows res
follows-then pb deeper a o start mid middle rows (Ok y) g h = goes-then a o start mid (pb y) middle rows g h
follows-then pb deeper a o start mid middle rows (Err e) g h = fails-then deeper e.kind a o start mid middle e.at g h

-- one reading after another
pub bind : {A B : Type 0} (pa : A → Rest) (pb : B → Rest) (deeper : Bool) (a : ℕ) (o : ℕ × Bool) (start : Rest) (middle rows : List Rule) (m : Result A SyntaxFault) (f : A → Result B SyntaxFault)
    → Follows pa deeper a o start middle m → ((x : A) → Follows pb deeper 0 (run middle (codes (pa x))) (pa x) rows (f x)) → Follows pb deeper a o start rows (m >>= f)
bind pa pb deeper a o start middle rows (Err e) f h k = h
bind pa pb deeper a o start middle rows (Ok x) f h k = follows-then pb deeper a o start (pa x) middle rows (f x) h (k x)

-- of which the second knows what the first gave
pub bind-known : {A B : Type 0} (pa : A → Rest) (pb : B → Rest) (deeper : Bool) (a : ℕ) (o : ℕ × Bool) (start : Rest) (middle rows : List Rule) (m : Result A SyntaxFault) (f : A → Result B SyntaxFault)
    → Follows pa deeper a o start middle m → ((x : A) → m ≡ Ok x → Follows pb deeper 0 (run middle (codes (pa x))) (pa x) rows (f x)) → Follows pb deeper a o start rows (m >>= f)
bind-known pa pb deeper a o start middle rows (Err e) f h k = h
bind-known pa pb deeper a o start middle rows (Ok x) f h k = follows-then pb deeper a o start (pa x) middle rows (f x) h (k x refl)

-- no token is taken
pub stays : (o : ℕ × Bool) (start : Rest) (rows : List Rule) → o ≡ run rows (codes start) → Goes 0 o start rows start
stays o start rows same = record { count = 0; at_least = omega arith; within = omega arith; left = refl; text = refl; runs = same ∙ zero-ahead (run rows (codes start)) }

-- and a second that takes no token
pub bind-stays : {A B : Type 0} (pa : A → Rest) (pb : B → Rest) (deeper : Bool) (a : ℕ) (o : ℕ × Bool) (start : Rest) (rows : List Rule) (m : Result A SyntaxFault) (f : A → B)
    → Follows pa deeper a o start rows m → ((x : A) → pb (f x) ≡ pa x) → Follows pb deeper a o start rows (m >>= λ x. Ok (f x))
bind-stays pa pb deeper a o start rows (Err e) f h k = h
bind-stays pa pb deeper a o start rows (Ok x) f h k = subst (λ (q : Rest). Goes a o start rows q) (sym (k x)) h

-- the same of rows that run alike
pub same-run : {B : Type 0} (pb : B → Rest) (deeper : Bool) (a : ℕ) (o p : ℕ × Bool) (start : Rest) (rows : List Rule) (res : Result B SyntaxFault)
    → o ≡ p → Follows pb deeper a p start rows res → Follows pb deeper a o start rows res
same-run pb deeper a o p start rows res same h = subst (λ (q : ℕ × Bool). Follows pb deeper a q start rows res) (sym same) h

pub less : {B : Type 0} (pb : B → Rest) (deeper : Bool) (a : ℕ) (o : ℕ × Bool) (start : Rest) (rows : List Rule) (res : Result B SyntaxFault)
    → Follows pb deeper a o start rows res → Follows pb deeper 0 o start rows res
less pb deeper a o start rows (Ok y) h = record { count = h.count; at_least = omega arith; within = h.within; left = h.left; text = h.text; runs = h.runs }
less pb deeper a o start rows (Err e) h = h

-- one way or the other
pub either : {A : Type 0} (to : A → Rest) (deeper : Bool) (a : ℕ) (o : ℕ × Bool) (start : Rest) (rows : List Rule) (t : Bool) (m n : Result A SyntaxFault)
    → (t ≡ true → Follows to deeper a o start rows m) → (t ≡ false → Follows to deeper a o start rows n) → Follows to deeper a o start rows (cond t m n)
either to deeper a o start rows true m n h k = h refl
either to deeper a o start rows false m n h k = k refl

-- a place behind at least one token has less left
pub goes-shorter : (o : ℕ × Bool) (start : Rest) (rows : List Rule) (there : Rest) → Goes 1 o start rows there → length there.left < length start.left
goes-shorter o start rows there g = omega (arith, g.at_least, g.within, ap length g.left, length-drop g.count start.left)
