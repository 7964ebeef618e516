-- What is read is no larger than what was counted.
use Rattle.std.proofs.Common.{◌≡◌, ◌∙◌, ℕ, zero, suc, ◌+◌, ◌≤◌, Bool, true, false, List, [], ◌∷◌, ◌++◌, Ok, Err, refl, ap, subst, arith}
use Rattle.std.specs.Prelude.{◌&&◌, cond, nat_lt}
use Rattle.std.specs.Str.{bytes_eq}
use Rattle.std.proofs.lemmas.Bool.Decides.{nat_tests}
use Rattle.json_text.specs.Kinds.{Member}
use Rattle.json_text.specs.Members.{stands}
use Rattle.json_text.specs.declared.json.Json.{Json}
use Rattle.otlp_json.specs.declared.counts.Counts.{Counts}
use Rattle.otlp_json.specs.declared.error.PayloadFault.{PayloadFault}
use Rattle.otlp_json.specs.Reads.{Read, Reader, ◌>>=◌, each, wrong}
use Rattle.otlp_json.specs.Fields.{items_in, members_in}
use Rattle.otlp_json.specs.Limits.{most_records, most_holders, most_values, none_counted, one_record, one_holder, one_value, level}
use Rattle.otlp_json.specs.Objects.{Row, plain, nested, by_key, by_row, fields, object, list}
use Rattle.otlp_json.specs.WellFormed.{plus, Within, sizes}

-- one count is no more than another
pub record AtMost (a b : Counts) : Type 0 where
  pub records : a.records ≤ b.records
  pub holders : a.holders ≤ b.holders
  pub values : a.values ≤ b.values

pub same-at-most : (a : Counts) → AtMost a a
same-at-most a = record { records = omega arith; holders = omega arith; values = omega arith }

pub at-most-on : (a b c : Counts) → AtMost a b → AtMost b c → AtMost a c
at-most-on a b c h k = record {
  records = omega (arith, h.records, k.records);
  holders = omega (arith, h.holders, k.holders);
  values = omega (arith, h.values, k.values);
}

-- what came, where so much was counted before and so much behind
pub record Comes (base size : Counts) (m : Counts) : Type 0 where
  pub counted : AtMost (plus base size) m
  pub within : Within m

-- A reading that came to something came from a first reading that did.
pub first_read : {A B : Type 0} (r : Read A) (f : A → Read B) (y : B) → (r >>= f) ≡ Ok y → (x : A) × (r ≡ Ok x) × (f x ≡ Ok y)
first_read (Ok x) f y is = (x, refl, is)
first_read (Err e) f y is = absurd (cc is)

-- what a reader reads is no larger than what it counts
abbrev pub Measures : {X : Type 0} → (X → Counts) → Reader X → Type 0
Measures {X} size reader = (json : Json) (n : Counts) (x : X) (m : Counts) → reader json n ≡ Ok (x, m) → Within n → Comes n (size x) m

-- so with a row: what it makes of an object
abbrev pub MeasuresRow : {X : Type 0} → (X → Counts) → Row X → Type 0
MeasuresRow {X} size row = (json : Json) (x : X) (n : Counts) (y : X) (m base : Counts) → row.1 json x n ≡ Ok (y, m) → Comes base (size x) n → Comes base (size y) m

abbrev pub MeasuresTable : {X : Type 0} → (X → Counts) → List (Row X) → Type 0
MeasuresTable size [] = Unit {0}
MeasuresTable size (row ∷ rows) = MeasuresRow size row × MeasuresTable size rows

pub same_read : {Y : Type 0} (x y : Y) → ◌≡◌ {A = Read Y} (Ok x) (Ok y) → x ≡ y
same_read x y is = cc is

pub pair_is : {X : Type 0} (x y : X) (n m : Counts) → ◌≡◌ {A = Read (X × Counts)} (Ok (x, n)) (Ok (y, m)) → (x ≡ y) × (n ≡ m)
pair_is {X = X} x y n m is =
    let same = same_read {Y = X × Counts} (x, n) (y, m) is in
    (ap (λ (p : X × Counts). p.0) same, ap (λ (p : X × Counts). p.1) same)

-- a field in which nothing is counted doesn't grow the object
pub plain-measures : {X F : Type 0} (size : X → Counts) (key : List ℕ) (read : Json → Read F) (put : X → F → X)
    → ((x : X) (f : F) → AtMost (size (put x f)) (size x)) → MeasuresRow size (plain key read put)
plain-measures {X = X} {F = F} size key read put small json x n y m base is comes =
    let went = first_read {A = F} {B = X × Counts} (read json) (λ f. Ok (put x f, n)) (y, m) is in
    let same = pair_is (put x went.0) y n m went.2 in
    let less = small x went.0 in
    subst (λ (z : X). Comes base (size z) m) same.0
    (subst (λ (k : Counts). Comes base (size (put x went.0)) k) same.1
    (record {
      counted =
          record {
            records = omega (arith, less.records, comes.counted.records);
            holders = omega (arith, less.holders, comes.counted.holders);
            values = omega (arith, less.values, comes.counted.values);
          };
      within = comes.within;
    }))

-- one in which something is counted grows it by as much at most
pub nested-measures : {X F : Type 0} (size : X → Counts) (field : F → Counts) (key : List ℕ) (read : Reader F) (put : X → F → X) → Measures field read
    → ((x : X) (f : F) → AtMost (size (put x f)) (plus (size x) (field f))) → MeasuresRow size (nested key read put)
nested-measures {X = X} {F = F} size field key read put measures small json x n y m base is comes =
    let went = first_read {A = F × Counts} {B = X × Counts} (read json n) (λ p. Ok (put x p.0, p.1)) (y, m) is in
    let f = went.0.0 in
    let k = went.0.1 in
    let same = pair_is (put x f) y k m went.2 in
    let less = small x f in
    let grew = measures json n f k went.1 comes.within in
    subst (λ (z : X). Comes base (size z) m) same.0
    (subst (λ (c : Counts). Comes base (size (put x f)) c) same.1
    (record {
      counted =
          record {
            records = omega (arith, less.records, comes.counted.records, grew.counted.records);
            holders = omega (arith, less.holders, comes.counted.holders, grew.counted.holders);
            values = omega (arith, less.values, comes.counted.values, grew.counted.values);
          };
      within = grew.within;
    }))

-- Objects.

module _ {X : Type 0} (size : X → Counts) where
  by_test : (t : Bool) (one other : Read (X × Counts)) (y : X) (m base : Counts) → (one ≡ Ok (y, m) → Comes base (size y) m)
      → (other ≡ Ok (y, m) → Comes base (size y) m) → cond t one other ≡ Ok (y, m) → Comes base (size y) m
  by_test true one other y m base first second is = first is
  by_test false one other y m base first second is = second is

  pub key-measures : (table : List (Row X)) → MeasuresTable size table → (key : List ℕ) (json : Json) (x : X) (n : Counts) (y : X) (m base : Counts)
      → by_key table key json x n ≡ Ok (y, m) → Comes base (size x) n → Comes base (size y) m
  key-measures [] all key json x n y m base is comes =
      let same = pair_is x y n m is in
      subst (λ (z : X). Comes base (size z) m) same.0 (subst (λ (c : Counts). Comes base (size x) c) same.1 comes)
  key-measures (row ∷ rows) all key json x n y m base is comes =
      by_test (bytes_eq key row.0) (row.1 json x n) (by_key rows key json x n) y m base (λ h. all.0 json x n y m base h comes)
      (λ h. key-measures rows all.1 key json x n y m base h comes) is

  pub row-measures : (table : List (Row X)) → MeasuresTable size table → (member : Member) (behind : List Member) (x : X) (n : Counts) (y : X) (m base : Counts)
      → by_row table member behind x n ≡ Ok (y, m) → Comes base (size x) n → Comes base (size y) m
  row-measures [] all member behind x n y m base is comes =
      let same = pair_is x y n m is in
      subst (λ (z : X). Comes base (size z) m) same.0 (subst (λ (c : Counts). Comes base (size x) c) same.1 comes)
  row-measures (row ∷ rows) all member behind x n y m base is comes =
      by_test (bytes_eq member.0 row.0 && stands member behind) (row.1 member.1 x n) (by_row rows member behind x n) y m base
      (λ h. all.0 member.1 x n y m base h comes) (λ h. row-measures rows all.1 member behind x n y m base h comes) is

  pub fields-measure : (table : List (Row X)) → MeasuresTable size table → (members : List Member) (x : X) (n : Counts) (y : X) (m base : Counts)
      → fields table members x n ≡ Ok (y, m) → Comes base (size x) n → Comes base (size y) m
  fields-measure table all [] x n y m base is comes =
      let same = pair_is x y n m is in
      subst (λ (z : X). Comes base (size z) m) same.0 (subst (λ (c : Counts). Comes base (size x) c) same.1 comes)
  fields-measure table all (member ∷ members) x n y m base is comes =
      let went = first_read {A = X × Counts} {B = X × Counts} (by_row table member members x n) (λ p. fields table members p.0 p.1) (y, m) is in
      fields-measure table all members went.0.0 went.0.1 y m base went.2
      (row-measures table all member members x n went.0.0 went.0.1 base went.1 comes)

  -- an object, where its beginning is counted
  pub object-comes : (table : List (Row X)) → MeasuresTable size table → (empty : X) → (json : Json) (n : Counts) (x : X) (m base : Counts)
      → object table empty json n ≡ Ok (x, m) → Comes base (size empty) n → Comes base (size x) m
  object-comes table all empty json n x m base is comes =
      let went = first_read {A = List Member} {B = X × Counts} (members_in json) (λ members. fields table members empty n) (x, m) is in
      fields-measure table all went.0 empty n x m base went.2 comes

  -- an object that begins with nothing
  pub object-measures : (table : List (Row X)) → MeasuresTable size table → (empty : X) → AtMost (size empty) none_counted → Measures size (object table empty)
  object-measures table all empty none json n x m is within =
      object-comes table all empty json n x m n is (record {
        counted = record { records = omega (arith, none.records); holders = omega (arith, none.holders); values = omega (arith, none.values) };
        within = within;
      })

  -- Lists.

  sizes-more : (xs : List X) (x : X) → AtMost (sizes size (xs ++ x ∷ [])) (plus (sizes size xs) (size x))
  sizes-more [] x = record { records = omega arith; holders = omega arith; values = omega arith }
  sizes-more (y ∷ ys) x =
      let more = sizes-more ys x in
      record { records = omega (arith, more.records); holders = omega (arith, more.holders); values = omega (arith, more.values) }

  each-measures : (one : Reader X) → Measures size one → (xs : List X) (jsons : List Json) (n : Counts) (ys : List X) (m base : Counts)
      → each one xs jsons n ≡ Ok (ys, m) → Comes base (sizes size xs) n → Comes base (sizes size ys) m
  each-measures one measures xs [] n ys m base is comes =
      let same = pair_is xs ys n m is in
      subst (λ (zs : List X). Comes base (sizes size zs) m) same.0 (subst (λ (c : Counts). Comes base (sizes size xs) c) same.1 comes)
  each-measures one measures xs (json ∷ jsons) n ys m base is comes =
      let went = first_read {A = X × Counts} {B = List X × Counts} (one json n) (λ x. each one (xs ++ x.0 ∷ []) jsons x.1) (ys, m) is in
      let grew = measures json n went.0.0 went.0.1 went.1 comes.within in
      let more = sizes-more xs went.0.0 in
      each-measures one measures (xs ++ went.0.0 ∷ []) jsons went.0.1 ys m base went.2 (record {
        counted =
            record {
              records = omega (arith, more.records, comes.counted.records, grew.counted.records);
              holders = omega (arith, more.holders, comes.counted.holders, grew.counted.holders);
              values = omega (arith, more.values, comes.counted.values, grew.counted.values);
            };
        within = grew.within;
      })

  pub all-measure : (one : Reader X) → Measures size one → (jsons : List Json) (n : Counts) (ys : List X) (m : Counts)
      → each one [] jsons n ≡ Ok (ys, m) → Within n → Comes n (sizes size ys) m
  all-measure one measures jsons n ys m is within =
      each-measures one measures [] jsons n ys m n is (record {
        counted = record { records = omega arith; holders = omega arith; values = omega arith };
        within = within;
      })

  pub list-measures : (one : Reader X) → Measures size one → Measures (sizes size) (list one)
  list-measures one measures json n xs m is within =
      let went = first_read {A = List Json} {B = List X × Counts} (items_in json) (λ items. each one [] items n) (xs, m) is in
      all-measure one measures went.0 n xs m went.2 within

-- One more.

lower : (a b : ℕ) → nat_lt a b ≡ true → a + 1 ≤ b
lower a b is = grind (arith, nat_tests)

module _ (limit count : ℕ) (at : ℕ) where
  room : {X : Type 0} (t : Bool) (one : Read X) (other : Read X) (x : X) (fault : PayloadFault) → other ≡ Err fault → cond t one other ≡ Ok x → (t ≡ true) × (one ≡ Ok x)
  room true one other x fault none is = (refl, is)
  room false one other x fault none is = absurd (cc (none, is))

pub one_record-measures : (at : ℕ) (n m : Counts) → one_record at n ≡ Ok m → Within n → Comes n (record { records = 1; holders = 0; values = 0 }) m
one_record-measures at n m is within =
    let more : Counts = record n { records = n.records + 1 } in
    let went = room most_records n.records at {X = Counts} (nat_lt n.records most_records) (Ok more) _ m _ refl is in
    let same : more ≡ m = cc went.1 in
    subst (λ (c : Counts). Comes n (record { records = 1; holders = 0; values = 0 }) c) same (record {
      counted = record { records = omega arith; holders = omega arith; values = omega arith };
      within = (lower n.records most_records went.0, within.1, within.2);
    })

pub one_holder-measures : (at : ℕ) (n m : Counts) → one_holder at n ≡ Ok m → Within n → Comes n (record { records = 0; holders = 1; values = 0 }) m
one_holder-measures at n m is within =
    let more : Counts = record n { holders = n.holders + 1 } in
    let went = room most_holders n.holders at {X = Counts} (nat_lt n.holders most_holders) (Ok more) _ m _ refl is in
    let same : more ≡ m = cc went.1 in
    subst (λ (c : Counts). Comes n (record { records = 0; holders = 1; values = 0 }) c) same (record {
      counted = record { records = omega arith; holders = omega arith; values = omega arith };
      within = (within.0, lower n.holders most_holders went.0, within.2);
    })

level-keeps : (levels at : ℕ) (n m : Counts) → level levels at n ≡ Ok m → n ≡ m
level-keeps zero at n m is = absurd (cc is)
level-keeps (suc levels) at n m is = cc is

pub one_value-measures : (levels at : ℕ) (n m : Counts) → one_value levels at n ≡ Ok m → Within n → Comes n (record { records = 0; holders = 0; values = 1 }) m
one_value-measures levels at n m is within =
    let more : Counts = record n { values = n.values + 1 } in
    let went = first_read {A = Counts} {B = Counts} (cond (nat_lt n.values most_values) (Ok more) (wrong _ at)) (level levels at) m is in
    let there = room most_values n.values at {X = Counts} (nat_lt n.values most_values) (Ok more) _ went.0 _ refl went.1 in
    let same : more ≡ m = cc there.1 ∙ level-keeps levels at went.0 m went.2 in
    subst (λ (c : Counts). Comes n (record { records = 0; holders = 0; values = 1 }) c) same (record {
      counted = record { records = omega arith; holders = omega arith; values = omega arith };
      within = (within.0, within.1, lower n.values most_values there.0);
    })
