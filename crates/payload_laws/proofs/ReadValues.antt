-- Values and pairs that are read are those that a payload may hold.
use Rattle.std.proofs.Common.{◌≡◌, ◌⊎◌, inl, inr, ℕ, ℤ, zero, suc, Bool, true, false, List, [], ◌∷◌, Option, Some, None, Ok, refl, sym, subst, w64}
use Rattle.std.specs.Prelude.{◌&&◌, ◌||◌, cond, codes}
use Rattle.std.specs.Int.RustNames.{FitsSigned}
use Rattle.std.specs.List.{All}
use Rattle.std.specs.Str.{IsUtf8, bytes_eq}
use Rattle.std.proofs.lemmas.List.Elements.{All-nil}
use Rattle.std.proofs.lemmas.Str.{IsUtf8-nil}
use Rattle.hex.specs.Hex.{IsBytes}
use Rattle.pdata_value.specs.Numeral.{IsSpelling}
use Rattle.pdata_value.specs.Value.{items, pairs}
use Rattle.pdata_value.specs.declared.value.Value.{Value}
use Rattle.pdata_value.specs.declared.value.Value.TheVariants as values
use Rattle.pdata_value.specs.declared.values.Values.{Values}
use Rattle.pdata_value.specs.declared.pairs.Pairs.{Pairs}
use Rattle.json_text.specs.Kinds.{Member}
use Rattle.json_text.specs.Members.{stands, has_standing, last_standing}
use Rattle.json_text.specs.declared.json.Json.{Json}
use Rattle.otlp_json.specs.Reads.{Read, Reader, ◌>>=◌, each}
use Rattle.otlp_json.specs.Fields.{text_in, truth_in, i64_in, double_in, bytes_in, items_in, members_in}
use Rattle.otlp_json.specs.Limits.{one_value, level}
use Rattle.otlp_json.specs.Objects.{by_row, fields, object}
use Rattle.otlp_json.specs.Values.{absent_value, array_table, is_value_key, map_table, only, pair_by, pair_table, pairs_by, value_by, value_in, value_table, values_by}
use Rattle.otlp_json.specs.WellFormed.{holds, IsValue}
use Rattle.otlp_json.proofs.Measured.{first_read, pair_is}
use Rattle.otlp_json.proofs.Once.{key_is}
use Rattle.payload_laws.proofs.ReadJson.{Good, GoodMembers}
use Rattle.payload_laws.proofs.ReadFields.{FieldGives, text-gives, i64-gives, double-gives, bytes-give, items-give, members-give}
use Rattle.payload_laws.proofs.ReadObjects.{Counts, Gives, TableKeeps, plain-keeps, nested-keeps, key-keeps, fields-keep, object-gives, all-give}

-- By their kinds.
module _ (levels : ℕ) where
  pub empty-is : IsValue (suc levels) values.Empty
  unfolding IsValue
  empty-is = subst (holds (IsValue levels)) (sym values.outs-Empty) tt

  text-is : (text : List ℕ) → IsUtf8 text → IsValue (suc levels) (values.Text text)
  unfolding IsValue
  text-is text h = subst (holds (IsValue levels)) (sym (values.outs-Text text)) h

  truth-is : (truth : Bool) → IsValue (suc levels) (values.Truth truth)
  unfolding IsValue
  truth-is truth = subst (holds (IsValue levels)) (sym (values.outs-Truth truth)) tt

  int-is : (int : ℤ) → FitsSigned w64 int → IsValue (suc levels) (values.Int int)
  unfolding IsValue
  int-is int h = subst (holds (IsValue levels)) (sym (values.outs-Int int)) h

  double-is : (spelling : List ℕ) → IsSpelling spelling → IsValue (suc levels) (values.Double spelling)
  unfolding IsValue
  double-is spelling h = subst (holds (IsValue levels)) (sym (values.outs-Double spelling)) h

  bytes-are : (bytes : List ℕ) → IsBytes bytes → IsValue (suc levels) (values.Bytes bytes)
  unfolding IsValue
  bytes-are bytes h = subst (holds (IsValue levels)) (sym (values.outs-Bytes bytes)) h

  list-is : (list : Values) → All (IsValue levels) (items list) → IsValue (suc levels) (values.List list)
  unfolding IsValue
  list-is list h = subst (holds (IsValue levels)) (sym (values.outs-List list)) h

  map-is : (map : Pairs) → All (λ (p : List ℕ × Value). IsUtf8 p.0 × IsValue levels p.1) (pairs map) → IsValue (suc levels) (values.Map map)
  unfolding IsValue
  map-is map h = subst (holds (IsValue levels)) (sym (values.outs-Map map)) h

and_false : (t : Bool) → (t && false) ≡ false
and_false true = refl
and_false false = refl

-- a value that is counted may have a level
some_level : (levels at : ℕ) (n m : Counts) → one_value levels at n ≡ Ok m → (below : ℕ) × (levels ≡ suc below)
some_level zero at n m is =
    let went = first_read {A = Counts} {B = Counts} _ (level zero at) m is in
    absurd (cc went.2)
some_level (suc levels) at n m is = (levels, refl)

module _ (levels : ℕ) (value : Reader Value) (gives : Gives (IsValue levels) value) where
  -- Pairs.

  abbrev pub IsPair : List ℕ × Value → Type 0
  IsPair p = IsUtf8 p.0 × IsValue levels p.1

  pair_table-keeps : TableKeeps IsPair (pair_table value)
  pair_table-keeps = (
    plain-keeps IsPair IsUtf8 (codes "key") text_in (λ pair key. (key, pair.1)) text-gives (λ x f h q. (q, h.1)),
    (nested-keeps IsPair (IsValue levels) (codes "value") value (λ pair v. (pair.0, v)) gives (λ x f h q. (h.0, q)), tt),
  )

  abbrev Pair : Type 0
  Pair = List ℕ × Value

  abbrev keyed : Pair → Counts → List ℕ → Read (Pair × Counts)
  keyed x n key = Ok ((key, x.1), n)

  abbrev valued : Pair → Value × Counts → Read (Pair × Counts)
  valued x v = Ok ((x.0, v.0), v.1)

  abbrev unread : Pair → Counts → Read (Pair × Counts)
  unread x n = Ok (x, n)

  -- a member of a pair: the value is still to be read, or it is read
  abbrev Goes : Bool → Pair → Type 0
  Goes has z = ((has ≡ true) × IsUtf8 z.0) ⊎ IsPair z

  pair-step : (t v has : Bool) (json : Json) (x : Pair) (n : Counts) (z : Pair) (k : Counts) → Good json → (t ≡ true → v ≡ false) → (v || has) ≡ true
      → cond t (text_in json >>= keyed x n) (cond v (value json n >>= valued x) (unread x n)) ≡ Ok (z, k) → IsUtf8 x.0 → Goes has z
  pair-step true true has json x n z k good one there is key = absurd (cc (one refl))
  pair-step true false has json x n z k good one there is key =
      let went = first_read {A = List ℕ} {B = Pair × Counts} (text_in json) (keyed x n) (z, k) is in
      inl (there, subst (λ (p : Pair). IsUtf8 p.0) (pair_is {X = Pair} (went.0, x.1) z n k went.2).0 (text-gives json went.0 good went.1))
  pair-step false true has json x n z k good one there is key =
      let went = first_read {A = Value × Counts} {B = Pair × Counts} (value json n) (valued x) (z, k) is in
      inr (subst IsPair (pair_is {X = Pair} (x.0, went.0.0) z went.0.1 k went.2).0 (key, gives json n went.0.0 went.0.1 good went.1))
  pair-step false false has json x n z k good one there is key = inl (there, subst (λ (p : Pair). IsUtf8 p.0) (pair_is {X = Pair} x z n k is).0 key)

  one_key : (key : List ℕ) (behind : Bool) → (bytes_eq key (codes "key") && behind) ≡ true → (bytes_eq key (codes "value") && behind) ≡ false
  one_key key true is = by_key_is (bytes_eq key (codes "key")) refl is where
    by_key_is : (t : Bool) → bytes_eq key (codes "key") ≡ t → (t && true) ≡ true → (bytes_eq key (codes "value") && true) ≡ false
    by_key_is true same both = subst (λ (k : List ℕ). (bytes_eq k (codes "value") && true) ≡ false) (sym (key_is key (codes "key") same)) refl
    by_key_is false same both = absurd (cc both)
  one_key key false is = and_false (bytes_eq key (codes "value"))

  -- a pair whose value is still to be read
  pair-reads : (members : List Member) (x : Pair) (n : Counts) (y : Pair) (m : Counts) → GoodMembers members → has_standing (codes "value") members ≡ true
      → fields (pair_table value) members x n ≡ Ok (y, m) → IsUtf8 x.0 → IsPair y
  pair-reads [] x n y m good has is key = absurd (cc has)
  pair-reads (member ∷ members) x n y m good has is key =
      let went = first_read {A = Pair × Counts} {B = Pair × Counts} (by_row (pair_table value) member members x n) (λ p. fields (pair_table value) members p.0 p.1) (y, m) is in
      let z = went.0.0 in
      let k = went.0.1 in
      let goes = pair-step (bytes_eq member.0 (codes "key") && stands member members) (bytes_eq member.0 (codes "value") && stands member members) (has_standing (codes "value") members)
      member.1 x n z k good.0 (one_key member.0 (stands member members)) has went.1 key in
      elim goes [
        | inl still ↦ pair-reads members z k y m good.1 still.0 went.2 still.1
        | inr read ↦ fields-keep IsPair (pair_table value) pair_table-keeps members z k y m good.1 went.2 read
      ]

  -- where it has none, it is empty
  empty_pair-is : (members : List Member) (at : ℕ) (n k : Counts) (y : Pair) (m : Counts) → GoodMembers members → (t : Bool) → has_standing (codes "value") members ≡ t
      → cond t (Ok n) (one_value levels at n) ≡ Ok k → fields (pair_table value) members ([], values.Empty) k ≡ Ok (y, m) → IsPair y
  empty_pair-is members at n k y m good true has counted is = pair-reads members ([], values.Empty) k y m good has is IsUtf8-nil
  empty_pair-is members at n k y m good false has counted is =
      let some = some_level levels at n k counted in
      let empty : IsValue levels values.Empty = subst (λ (l : ℕ). IsValue l values.Empty) (sym some.1) (empty-is some.0) in
      fields-keep IsPair (pair_table value) pair_table-keeps members ([], values.Empty) k y m good is (IsUtf8-nil, empty)

  pub pair-gives : Gives IsPair (pair_by levels value)
  pair-gives json n y m good is =
      let members = first_read {A = List Member} {B = Pair × Counts} (members_in json)
      (λ members. absent_value levels json.at members n >>= fields (pair_table value) members ([], values.Empty)) (y, m) is in
      let counted = first_read {A = Counts} {B = Pair × Counts} (absent_value levels json.at members.0 n) (fields (pair_table value) members.0 ([], values.Empty)) (y, m) members.2 in
      empty_pair-is members.0 json.at n counted.0 y m (members-give json members.0 good members.1) (has_standing (codes "value") members.0) refl counted.1 counted.2

  -- Lists and maps.

  abbrev pub ArePairs : Pairs → Type 0
  ArePairs map = All IsPair (pairs map)

  abbrev pub AreValues : Values → Type 0
  AreValues list = All (IsValue levels) (items list)

  pub pairs-give : Gives ArePairs (pairs_by levels value)
  pairs-give json n ps m good is =
      let went = first_read {A = List Json} {B = Pairs × Counts} (items_in json)
      (λ items. each (pair_by levels value) [] items n >>= λ p. Ok (record { items = p.0 }, p.1)) (ps, m) is in
      let read = first_read {A = List Pair × Counts} {B = Pairs × Counts} (each (pair_by levels value) [] went.0 n) (λ p. Ok (record { items = p.0 }, p.1)) (ps, m) went.2 in
      subst ArePairs (pair_is {X = Pairs} (record { items = read.0.0 }) ps read.0.1 m read.2).0
      (all-give IsPair (pair_by levels value) pair-gives went.0 n read.0.0 read.0.1 (items-give json went.0 good went.1) read.1)

  pub values-give : Gives AreValues (values_by value)
  values-give json n vs m good is =
      let went = first_read {A = List Json} {B = Values × Counts} (items_in json) (λ items. each value [] items n >>= λ p. Ok (record { items = p.0 }, p.1)) (vs, m) is in
      let read = first_read {A = List Value × Counts} {B = Values × Counts} (each value [] went.0 n) (λ p. Ok (record { items = p.0 }, p.1)) (vs, m) went.2 in
      subst AreValues (pair_is {X = Values} (record { items = read.0.0 }) vs read.0.1 m read.2).0
      (all-give (IsValue levels) value gives went.0 n read.0.0 read.0.1 (items-give json went.0 good went.1) read.1)

  array-gives : Gives AreValues (object (array_table value) (record { items = [] }))
  array-gives =
      object-gives AreValues (array_table value) (nested-keeps AreValues AreValues (codes "values") (values_by value) (λ _ vs. vs) values-give (λ x f h q. q), tt) (record { items = [] })
      (All-nil (IsValue levels))

  map-gives : Gives ArePairs (object (map_table levels value) (record { items = [] }))
  map-gives =
      object-gives ArePairs (map_table levels value) (nested-keeps ArePairs ArePairs (codes "values") (pairs_by levels value) (λ _ ps. ps) pairs-give (λ x f h q. q), tt) (record { items = [] })
      (All-nil IsPair)

  -- Values.

  abbrev Deep : Value → Type 0
  Deep = IsValue (suc levels)

  truth-gives : FieldGives {F = Bool} (λ _. Unit {0}) truth_in
  truth-gives json truth good is = tt

  value_table-keeps : TableKeeps Deep (value_table levels value)
  value_table-keeps = (
    plain-keeps Deep IsUtf8 (codes "stringValue") text_in (λ _ text. values.Text text) text-gives (λ x f h q. text-is levels f q),
    (
      plain-keeps Deep (λ _. Unit {0}) (codes "boolValue") truth_in (λ _ truth. values.Truth truth) truth-gives (λ x f h q. truth-is levels f),
      (
        plain-keeps Deep (FitsSigned w64) (codes "intValue") i64_in (λ _ int. values.Int int) i64-gives (λ x f h q. int-is levels f q),
        (
          plain-keeps Deep IsSpelling (codes "doubleValue") double_in (λ _ spelling. values.Double spelling) double-gives (λ x f h q. double-is levels f q),
          (
            nested-keeps Deep AreValues (codes "arrayValue") (object (array_table value) (record { items = [] })) (λ _ list. values.List list) array-gives (λ x f h q. list-is levels f q),
            (
              nested-keeps Deep ArePairs (codes "kvlistValue") (object (map_table levels value) (record { items = [] })) (λ _ pairs. values.Map pairs) map-gives
                  (λ x f h q. map-is levels f q),
              (plain-keeps Deep IsBytes (codes "bytesValue") bytes_in (λ _ bytes. values.Bytes bytes) bytes-give (λ x f h q. bytes-are levels f q), tt),
            ),
          ),
        ),
      ),
    ),
  )

  -- the member that counts
  abbrev GoodOption : Option Member → Type 0
  GoodOption None = Unit {0}
  GoodOption (Some m) = Good m.1

  last-good : (is_known : List ℕ → Bool) (found : Option Member) (members : List Member) → GoodOption found → GoodMembers members → GoodOption (last_standing is_known found members)
  last-good is_known found [] here good = here
  last-good is_known found (m ∷ ms) here good =
      by (is_known m.0 && stands m ms) (last-good is_known (Some m) ms good.0 good.1) (last-good is_known found ms here good.1) where
        by : (t : Bool) → GoodOption (last_standing is_known (Some m) ms) → GoodOption (last_standing is_known found ms)
            → GoodOption (cond t (last_standing is_known (Some m) ms) (last_standing is_known found ms))
        by true one other = one
        by false one other = other

  only-is : (o : Option Member) (n : Counts) (v : Value) (m : Counts) → GoodOption o → only (value_table levels value) o n ≡ Ok (v, m) → Deep v
  only-is None n v m good is = subst Deep (pair_is {X = Value} values.Empty v n m is).0 (empty-is levels)
  only-is (Some member) n v m good is = key-keeps Deep (value_table levels value) value_table-keeps member.0 member.1 values.Empty n v m good is (empty-is levels)

  inner-gives : Gives Deep (value_by levels value)
  inner-gives json n v m good is =
      let members = first_read {A = List Member} {B = Value × Counts} (members_in json) (λ members. only (value_table levels value) (last_standing is_value_key None members) n) (v, m) is in
      only-is (last_standing is_value_key None members.0) n v m (last-good is_value_key None members.0 tt (members-give json members.0 good members.1)) members.2

pub value-gives : (levels : ℕ) → Gives (IsValue levels) (value_in levels)
unfolding value_in
value-gives zero json n v m good is =
    let one = first_read {A = Counts} {B = Value × Counts} (one_value zero json.at n) (λ k. Ok (values.Empty, k)) (v, m) is in
    let some = some_level zero json.at n one.0 one.1 in
    absurd (cc some.1)
value-gives (suc levels) json n v m good is =
    let one = first_read {A = Counts} {B = Value × Counts} (one_value (suc levels) json.at n) (value_by levels (value_in levels) json) (v, m) is in
    inner-gives levels (value_in levels) (value-gives levels) json one.0 v m good one.2
