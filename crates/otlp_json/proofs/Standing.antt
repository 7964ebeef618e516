-- Scalars that are passed in the text stand there, as what their fields are read as.
use Rattle.std.proofs.Common.{◌≡◌, ◌∙◌, ℕ, Bool, true, false, Some, Ok, Err, Option, refl, sym, ap, codes}
use Rattle.std.specs.Prelude.{List, Result, IfOk}
use Rattle.pdata_value.specs.Scan.{is_spelling}
use Rattle.json_text.specs.Kinds.{is_null, as_text, as_number}
use Rattle.json_text.specs.Reading.{number, quoted, these, value}
use Rattle.json_text.specs.declared.json.Json.{Json}
use Rattle.json_text.specs.declared.json.JsonKind.TheVariants as kinds
use Rattle.json_text.proofs.KindLemmas.{as_text-Text, as_text-back, as_number-Number, as_number-back, as_truth-Truth, is_null-Text, is_null-Number, is_null-Truth}
use Rattle.otlp_json.specs.declared.counts.Counts.{Counts}
use Rattle.otlp_json.specs.declared.direct.Bend.{Bend}
use Rattle.otlp_json.specs.declared.direct.Direct.{Direct}
use Rattle.otlp_json.specs.declared.error.PayloadKind.{PayloadKind}
use Rattle.otlp_json.specs.declared.error.PayloadKind.TheVariants.{WrongKind}
use Rattle.otlp_json.specs.Reads.{Read, or_wrong, ◌>>=◌}
use Rattle.otlp_json.specs.Fields.{text_in, truth_in, numeral_in, spelled_in, double_in}
use Rattle.otlp_json.specs.Direct.{plainly, Stands, Passes}
use Rattle.otlp_json.proofs.Scalars.{json_at, text-spelled, number-spelled, true-spelled, false-spelled, null-spelled}
use Rattle.otlp_json.proofs.PlaceFree.{or_wrong-back, spelled_in-Number, spelled_in-Text, double_in-Number, double_in-Text}

module _ {A : Type 0} (a : A) (n k : Counts) where
  abbrev counted : A × Counts → Read (A × Counts)
  counted p = Ok p

  pair_same : (p q : A × Counts) → counted p ≡ counted q → p ≡ q
  pair_same p q is = cc

  -- what is read without counting
  meant-back : (r : Read A) → ◌>>=◌ {B = A × Counts} r (λ x. Ok (x, n)) ≡ Ok (a, k) → (r ≡ Ok a) × (n ≡ k)
  meant-back (Ok x) is =
      let same = pair_same (x, n) (a, k) is in
      (ap (λ (p : A × Counts). Ok p.0) same, ap (λ (p : A × Counts). p.1) same)
  meant-back (Err e) is = absurd cc

module _ (depth : ℕ) (old new : Direct) (same : new.counts ≡ old.counts) where
  stands-by : {X : Type 0} (read : Json → Read X) (json : Json) (x : X) → value depth old.cursor ≡ Ok (json, new.cursor) → is_null json ≡ false → read json ≡ Ok x
      → Stands (plainly read) depth old x new
  stands-by read json x spelled some is = record {
    json = json;
    spelled = spelled;
    not_null = some;
    meant = rw is (ap (λ (n : Counts). Ok (x, n)) (sym same));
  }

  pub text-stands : (t : List ℕ) → quoted old.cursor ≡ Ok (t, new.cursor) → Stands (plainly text_in) depth old t new
  unfolding text_in
  text-stands t read =
      let json : Json = json_at old.cursor (kinds.Text t) in
      stands-by text_in json t (text-spelled depth old.cursor new.cursor t read) (is_null-Text json t refl) (ap (or_wrong WrongKind json.at) (as_text-Text json t refl))

  pub numeral-stands : (s : List ℕ) → number old.cursor ≡ Ok (s, new.cursor) → Stands (plainly numeral_in) depth old s new
  unfolding numeral_in
  numeral-stands s read =
      let json : Json = json_at old.cursor (kinds.Number s) in
      stands-by numeral_in json s (number-spelled depth old.cursor new.cursor s read) (is_null-Number json s refl) (ap (or_wrong WrongKind json.at) (as_number-Number json s refl))

  truth-stands : (truth : Bool) → value depth old.cursor ≡ Ok (json_at old.cursor (kinds.Truth truth), new.cursor) → Stands (plainly truth_in) depth old truth new
  unfolding truth_in
  truth-stands truth spelled =
      let json : Json = json_at old.cursor (kinds.Truth truth) in
      stands-by truth_in json truth spelled (is_null-Truth json truth refl) (ap (or_wrong WrongKind json.at) (as_truth-Truth json truth refl))

  pub true-stands : these (codes "true") old.cursor ≡ Ok new.cursor → Stands (plainly truth_in) depth old true new
  true-stands read = truth-stands true (true-spelled depth old.cursor new.cursor read)

  pub false-stands : these (codes "false") old.cursor ≡ Ok new.cursor → Stands (plainly truth_in) depth old false new
  false-stands read = truth-stands false (false-spelled depth old.cursor new.cursor read)

  pub null-passes : these (codes "null") old.cursor ≡ Ok new.cursor → Passes depth old new
  null-passes read = record {
    json = json_at old.cursor kinds.Null;
    spelled = null-spelled depth old.cursor new.cursor read;
    counts = same;
  }

-- what stands is passed
pub stands-passes : {X : Type 0} (read : Json → Read X) (depth : ℕ) (old new : Direct) (x : X) → Stands (plainly read) depth old x new → Passes depth old new
stands-passes read depth old new x s = record {
  json = s.json;
  spelled = s.spelled;
  counts = sym (meant-back x old.counts new.counts (read s.json) s.meant).1;
}

-- a value that one reader reads, and another then too
pub stands-also : {A B : Type 0} (one : Json → Read A) (other : Json → Read B) (depth : ℕ) (old new : Direct) (a : A) (b : B) → ((json : Json) → one json ≡ Ok a → other json ≡ Ok b)
    → Stands (plainly one) depth old a new → Stands (plainly other) depth old b new
stands-also one other depth old new a b also s =
    let m = meant-back a old.counts new.counts (one s.json) s.meant in
    record {
      json = s.json;
      spelled = s.spelled;
      not_null = s.not_null;
      meant = rw (also s.json m.0) (ap (λ (n : Counts). Ok (b, n)) m.1);
    }

-- a field that what stands gives
pub field-stands : {A B : Type 0} (kind : PayloadKind) (one : Json → Read A) (f : A → Option B) (depth : ℕ) (old new : Direct) (a : A) (b : B) → f a ≡ Some b
    → Stands (plainly one) depth old a new → Stands (plainly (λ json. one json >>= λ x. or_wrong kind json.at (f x))) depth old b new
field-stands {B = B} kind one f depth old new a b gives s =
    stands-also one (λ json. ◌>>=◌ {B = B} (one json) (λ x. or_wrong kind json.at (f x))) depth old new a b (λ json is. rw is (ap (or_wrong kind json.at) gives)) s

-- the same, where it may give none
pub given-stands : {A B : Type 0} (kind : PayloadKind) (one : Json → Read A) (f : A → Option B) (depth : ℕ) (old new : Direct) (a : A) (r : Result B Bend) → IfOk r (λ b. f a ≡ Some b)
    → Stands (plainly one) depth old a new → IfOk r (λ b. Stands (plainly (λ json. one json >>= λ x. or_wrong kind json.at (f x))) depth old b new)
given-stands kind one f depth old new a (Ok b) gives s = field-stands kind one f depth old new a b gives s
given-stands kind one f depth old new a (Err e) gives s = tt

text-kind : (json : Json) (t : List ℕ) → text_in json ≡ Ok t → json.kind ≡ kinds.Text t
unfolding text_in
text-kind json t is = as_text-back json t (or_wrong-back WrongKind json.at (as_text json) t is)

numeral-kind : (json : Json) (s : List ℕ) → numeral_in json ≡ Ok s → json.kind ≡ kinds.Number s
unfolding numeral_in
numeral-kind json s is = as_number-back json s (or_wrong-back WrongKind json.at (as_number json) s is)

module _ (depth : ℕ) (old new : Direct) (t : List ℕ) where
  pub spelled-by-text : Stands (plainly text_in) depth old t new → Stands (plainly spelled_in) depth old t new
  spelled-by-text s = stands-also text_in spelled_in depth old new t t (λ json is. spelled_in-Text json t (text-kind json t is)) s

  pub spelled-by-numeral : Stands (plainly numeral_in) depth old t new → Stands (plainly spelled_in) depth old t new
  spelled-by-numeral s = stands-also numeral_in spelled_in depth old new t t (λ json is. spelled_in-Number json t (numeral-kind json t is)) s

  pub double-by-numeral : Stands (plainly numeral_in) depth old t new → Stands (plainly double_in) depth old t new
  double-by-numeral s = stands-also numeral_in double_in depth old new t t (λ json is. double_in-Number json t (numeral-kind json t is)) s

  pub double-by-text : is_spelling t ≡ true → Stands (plainly text_in) depth old t new → Stands (plainly double_in) depth old t new
  double-by-text spelling s =
      stands-also text_in double_in depth old new t t
      (λ json is. double_in-Text json t (text-kind json t is) ∙ rw spelling refl) s
