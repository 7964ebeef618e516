-- A pair that is read straight from the text, and whether a value stands among its members.
use Rattle.std.proofs.Common.{◌≡◌, ◌∙◌, ℕ, Bool, true, false, List, [], ◌∷◌, codes, Some, None, Ok, Err, refl, sym, ap}
use Rattle.std.specs.Prelude.{◌||◌, ◌&&◌, cond, option_map, suc}
use Rattle.std.specs.Str.{bytes_eq}
use Rattle.pdata_value.specs.declared.value.Value.{Value}
use Rattle.pdata_value.specs.declared.value.Value.TheVariants as values
use Rattle.pdata_value.specs.Value.{items, pairs}
use Rattle.pdata_value.specs.declared.values.Values.{Values}
use Rattle.pdata_value.specs.declared.pairs.Pairs.{Pairs}
use Rattle.json_text.specs.Kinds.{Member, as_members}
use Rattle.json_text.specs.Members.{stands, has_standing}
use Rattle.json_text.specs.declared.json.Json.{Json}
use Rattle.otlp_json.specs.declared.counts.Counts.{Counts}
use Rattle.otlp_json.specs.declared.direct.Direct.{Direct}
use Rattle.otlp_json.specs.Reads.{Read, Reader, ◌>>=◌}
use Rattle.otlp_json.specs.Fields.{text_in, members_in}
use Rattle.otlp_json.specs.Limits.{one_value}
use Rattle.otlp_json.specs.Objects.{fields}
use Rattle.otlp_json.specs.Values.{pair_table, absent_value, pair_by}
use Rattle.otlp_json.specs.Direct.{row_of, is_taken, Opens, Stands}
use Rattle.otlp_json.proofs.Once.{key_is, is_slot, has_slot, Marks, NoneNull, standing-slot, no-standing-slot, or-left, or-right}
use Rattle.otlp_json.proofs.Passing.{Closed, Passed-end}
use Rattle.otlp_json.proofs.ObjectsPassed.{ObjectSoFar, members_in-is}

abbrev Pair : Type 0
Pair = List ℕ × Value

abbrev good : Pair × Counts → Read (Pair × Counts)
good a = Ok a

pair_same : (a b : Pair × Counts) → good a ≡ good b → a ≡ b
pair_same a b is = cc

module _ (value : Reader Value) where
  -- members give a pair and count nothing
  abbrev Uncounted : List Member → Pair → Pair → Counts → Counts → Counts → Type 0
  Uncounted ms x y n k m = (k ≡ n) × (fields (pair_table value) ms x m ≡ Ok (y, m))

  -- a key, where it counts
  abbrev keyed : Bool → Read (List ℕ) → Pair → Counts → Read (Pair × Counts)
  keyed t r x n = cond t (r >>= λ f. Ok ((f, x.1), n)) (Ok (x, n))

  key_step : (t : Bool) (r : Read (List ℕ)) (ps : List Member) (x y : Pair) (n k m : Counts)
      → ((z : Pair) → fields (pair_table value) ps z n ≡ Ok (y, k) → Uncounted ps z y n k m)
      → (keyed t r x n >>= λ q. fields (pair_table value) ps q.0 q.1) ≡ Ok (y, k)
      → (k ≡ n) × ((keyed t r x m >>= λ q. fields (pair_table value) ps q.0 q.1) ≡ Ok (y, m))
  key_step false r ps x y n k m below read = below x read
  key_step true (Ok f) ps x y n k m below read = below (f, x.1) read
  key_step true (Err e) ps x y n k m below read = absurd cc

  -- where no value stands nothing is counted
  pub uncounted : (ms : List Member) (x y : Pair) (n k m : Counts) → has_standing (codes "value") ms ≡ false → fields (pair_table value) ms x n ≡ Ok (y, k) → Uncounted ms x y n k m
  uncounted [] x y n k m none read =
      let same = pair_same (x, n) (y, k) read in (
        sym (ap (λ (p : Pair × Counts). p.1) same),
        ap (λ (p : Pair × Counts). Ok (p.0, m)) same,
      )
  uncounted (p ∷ ps) x y n k m none read =
      let off : (bytes_eq p.0 (codes "value") && stands p ps) ≡ false = or-left _ (has_standing (codes "value") ps) none in
      let step = key_step (bytes_eq p.0 (codes "key") && stands p ps) (text_in p.1) ps x y n k m
      (λ z is. uncounted ps z y n k m (or-right (bytes_eq p.0 (codes "value") && stands p ps) (has_standing (codes "value") ps) none) is) (rw off at read) in (
        step.0,
        rw off step.1,
      )

  value_slot : (k : List ℕ) (t u : Bool) → bytes_eq k (codes "key") ≡ t → bytes_eq k (codes "value") ≡ u
      → is_slot (cond t (Some 0) (option_map suc (cond u (Some 0) None))) 1 ≡ true → k ≡ codes "value"
  value_slot k true u t_is u_is slot = absurd cc
  value_slot k false true t_is u_is slot = key_is k (codes "value") u_is
  value_slot k false false t_is u_is slot = absurd cc

  slot_is_value : (k : List ℕ) → is_slot (row_of (pair_table value) k) 1 ≡ true → k ≡ codes "value"
  slot_is_value k slot = value_slot k (bytes_eq k (codes "key")) (bytes_eq k (codes "value")) refl refl slot

  with_value : (levels : ℕ) (json : Json) (ms : List Member) (n k : Counts) (x : Pair) → members_in json ≡ Ok ms → has_standing (codes "value") ms ≡ true
      → fields (pair_table value) ms ([], values.Empty) n ≡ Ok (x, k) → pair_by levels value json n ≡ Ok (x, k)
  with_value levels json ms n k x members stood gives = rw (members, stood) gives

  module _ (levels depth : ℕ) (old opened now : Direct) (goes : Bool) (x : Pair) (taken : List Bool) (opens : Opens 123 125 depth old goes opened)
      (so_far : ObjectSoFar (pair_table value) ([], values.Empty) opened.counts depth old.cursor x taken false now) where
    closed : Closed (λ ms. fields (pair_table value) ms ([], values.Empty) opened.counts) (row_of (pair_table value)) depth old x taken now
    closed = Passed-end (λ ms. fields (pair_table value) ms ([], values.Empty) opened.counts) (row_of (pair_table value)) depth old opened now goes x taken opens so_far

    -- a pair with a value
    pub pair-stands : is_taken taken 1 ≡ true → Stands (pair_by levels value) depth old x now
    unfolding closed
    pair-stands has =
        let stood : has_standing (codes "value") closed.ms ≡ true =
        standing-slot (row_of (pair_table value)) (codes "value") 1 slot_is_value refl closed.ms closed.some (sym (closed.marks 1) ∙ has) in
        record {
          json = closed.json;
          spelled = closed.spelled;
          not_null = closed.not_null;
          meant = ap (λ (n : Counts). pair_by levels value closed.json n) (sym opens.counts)
              ∙ with_value levels closed.json closed.ms opened.counts now.counts x (members_in-is closed.json closed.ms closed.members) stood closed.gives;
        }

    -- a pair without one, which is one more value itself
    pub empty-stands : (at : ℕ) (last : Direct) → is_taken taken 1 ≡ false → at ≡ old.cursor.at → last.cursor ≡ now.cursor → one_value levels at now.counts ≡ Ok last.counts
        → Stands (pair_by levels value) depth old x last
    unfolding closed
    empty-stands at last free place same counted =
        let none : has_standing (codes "value") closed.ms ≡ false =
        no-standing-slot (row_of (pair_table value)) (codes "value") 1 refl closed.ms (sym (closed.marks 1) ∙ free) in
        let counts = uncounted closed.ms ([], values.Empty) x opened.counts now.counts last.counts none closed.gives in
        let count_is : one_value levels closed.json.at old.counts ≡ Ok last.counts =
        ap (λ (p : ℕ). one_value levels p old.counts) (closed.at ∙ sym place) ∙ ap (one_value levels at) (sym (counts.0 ∙ opens.counts)) ∙ counted in
        record {
          json = closed.json;
          spelled = closed.spelled ∙ ap (λ r. Ok (closed.json, r)) (sym same);
          not_null = closed.not_null;
          meant = rw (members_in-is closed.json closed.ms closed.members, none, count_is) counts.1;
        }

-- A list of values and a list of pairs are what they hold.

pub values-is : (vs : Values) (xs : List Value) → items vs ≡ xs → vs ≡ record { items = xs }
values-is vs xs is = ap (λ (ys : List Value). record { items = ys }) is

pub pairs-is : (ps : Pairs) (xs : List Pair) → pairs ps ≡ xs → ps ≡ record { items = xs }
pairs-is ps xs is = ap (λ (ys : List Pair). record { items = ys }) is
