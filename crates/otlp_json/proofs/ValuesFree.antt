-- Values and pairs are read as before wherever they stand.
use Rattle.std.proofs.Common.{◌≡◌, ◌∙◌, ℕ, zero, suc, ◌+◌, Bool, true, false, not, List, [], ◌∷◌, ◌++◌, length, map, Option, Some, None, Ok, Err, refl, ap, nat_lt}
use Rattle.std.specs.Prelude.{◌||◌, ◌&&◌, cond, codes}
use Rattle.std.specs.Str.{bytes_eq}
use Rattle.pdata_value.specs.Pairs.{has_key}
use Rattle.pdata_value.specs.declared.value.Value.{Value}
use Rattle.pdata_value.specs.declared.value.Value.TheVariants as values
use Rattle.json_text.specs.Placed.{Placing, placed_items, behind_key, placing, placed}
use Rattle.json_text.specs.declared.json.Json.{Json}
use Rattle.json_text.specs.declared.json.JsonKind.TheVariants as kinds
use Rattle.json_text.proofs.Layers.{placing-List, placing-Object}
use Rattle.otlp_json.specs.declared.counts.Counts.{Counts}
use Rattle.otlp_json.specs.declared.error.PayloadKind.TheVariants.{TooMany}
use Rattle.otlp_json.specs.Reads.{Read, Reader, wrong, ◌>>=◌, each}
use Rattle.json_text.specs.Kinds.{Member, is_null}
use Rattle.json_text.specs.Members.{stands, has_standing, last_standing}
use Rattle.otlp_json.specs.Limits.{most_values, level, one_value}
use Rattle.otlp_json.specs.Fields.{text_in, i64_in, double_in, bytes_in, items_in, members_in}
use Rattle.otlp_json.specs.Objects.{Row, nested, by_key, fields, object}
use Rattle.otlp_json.specs.Values.{is_value_key, pair_table, absent_value, pair_by, pairs_by, values_by, array_table, map_table, value_table, only, value_by, value_in}
use Rattle.json_text.proofs.NullPlaces.{null-placed}
use Rattle.otlp_json.proofs.PlaceFree.{bind-free, test-free, text-free, truth-free, i64-free, double-free, bytes-free, items-back, items_in-List, members-back, members_in-Object, placed_all, behind_member, has_key-placed, FreeRow, FreeRows, plain-free, fields-free, object-free}

abbrev pub ReaderFree : {X : Type 0} → Reader X → Type 0
ReaderFree {X} one = (json : Json) (at : ℕ) (n : Counts) (p : X × Counts) → one json n ≡ Ok p → one (placed at json) n ≡ Ok p

-- Limits name the place in their faults alone.

level-free : (levels at to : ℕ) (n m : Counts) → level levels at n ≡ Ok m → level levels to n ≡ Ok m
level-free zero at to n m ok = absurd cc
level-free (suc levels) at to n m ok = ok

pub one_value-free : (levels at to : ℕ) (n m : Counts) → one_value levels at n ≡ Ok m → one_value levels to n ≡ Ok m
one_value-free levels at to n m ok =
    bind-free (cond (nat_lt n.values most_values) (Ok _) (wrong TooMany at)) (cond (nat_lt n.values most_values) (Ok _) (wrong TooMany to)) _ _ m
    (λ k is. test-free (nat_lt n.values most_values) (Ok _) (wrong TooMany at) (Ok _) (wrong TooMany to) k (λ same. same) (λ never. absurd cc) is)
    (λ k is. level-free levels at to k m is) ok

-- Lists.

module _ {X : Type 0} (one : Reader X) (free : ReaderFree one) where
  pub each-free : (js : List Json) (at : ℕ) (xs : List X) (n : Counts) (p : List X × Counts) → each one xs js n ≡ Ok p → each one xs (placed_items at (map placing js)) n ≡ Ok p
  each-free [] at xs n p ok = ok
  each-free (j ∷ js) at xs n p ok =
      bind-free (one j n) (one (placed at j) n) _ _ p (λ q is. free j at n q is) (λ q is. each-free js (at + length (placing j).0 + 1) (xs ++ q.0 ∷ []) q.1 p is) ok

  list_by : {Y : Type 0} (made : List X × Counts → Read (Y × Counts)) (json : Json) (at : ℕ) (n : Counts) (p : Y × Counts) (r : Read (List Json)) → items_in json ≡ r
      → (r >>= λ js. each one [] js n >>= made) ≡ Ok p → (items_in (placed at json) >>= λ js. each one [] js n >>= made) ≡ Ok p
  list_by made json at n p (Ok js) is ok =
      let there = placed_items (at + 1) (map placing js) in
      ap (λ (q : Placing Json). items_in (q.1 at) >>= λ ks. each one [] ks n >>= made) (placing-List json js (items-back json js is))
      ∙ ap (λ (r : Read (List Json)). r >>= λ ks. each one [] ks n >>= made) (items_in-List (record { at = at; kind = kinds.List there }) there refl)
      ∙ bind-free (each one [] js n) (each one [] there n) _ _ p (λ q same. each-free js (at + 1) [] n q same) (λ q same. same) ok
  list_by made json at n p (Err e) is ok = absurd cc

  pub list-free : {Y : Type 0} (made : List X × Counts → Read (Y × Counts)) → ReaderFree (λ json n. items_in json >>= λ js. each one [] js n >>= made)
  list-free made json at n p ok = list_by made json at n p (items_in json) refl ok

pub nested-free : {X F : Type 0} (key : List ℕ) (read : Reader F) (put : X → F → X) → ReaderFree read → FreeRow (nested key read put)
nested-free key read put free json at x n p ok = bind-free (read json n) (read (placed at json) n) _ _ p (λ q is. free json at n q is) (λ q is. is) ok

-- Members.

stands-placed : (m : Member) (ms : List Member) (at to : ℕ) → stands (m.0, placed at m.1) (placed_all to ms) ≡ stands m ms
stands-placed m ms at to =
    ap (λ (b : Bool). not b && not (has_key (placed_all to ms) m.0)) (null-placed m.1 at) ∙ ap (λ (b : Bool). not (is_null m.1) && not b) (has_key-placed ms to m.0)

has_standing-placed : (key : List ℕ) (ms : List Member) (at : ℕ) → has_standing key (placed_all at ms) ≡ has_standing key ms
has_standing-placed key [] at = refl
has_standing-placed key (m ∷ ms) at =
    ap (λ (b : Bool). bytes_eq m.0 key && b || has_standing key (placed_all (behind_member at m) ms)) (stands-placed m ms (behind_key at m.0) (behind_member at m))
    ∙ ap (λ (b : Bool). bytes_eq m.0 key && stands m ms || b) (has_standing-placed key ms (behind_member at m))

-- the same member at another place, or none
data Moved : Option Member → Option Member → Type 0 where
  nowhere : Moved None None
  somewhere : (m : Member) (at : ℕ) → Moved (Some m) (Some (m.0, placed at m.1))

module _ (is_known : List ℕ → Bool) where
  moved_by : (t : Bool) (m : Member) (ms : List Member) (at to : ℕ) (found there : Option Member) → Moved found there
      → ((f g : Option Member) → Moved f g → Moved (last_standing is_known f ms) (last_standing is_known g (placed_all to ms)))
      → Moved (cond t (last_standing is_known (Some m) ms) (last_standing is_known found ms))
      (cond t (last_standing is_known (Some (m.0, placed at m.1)) (placed_all to ms)) (last_standing is_known there (placed_all to ms)))
  moved_by true m ms at to found there moved also = also (Some m) (Some (m.0, placed at m.1)) (somewhere m at)
  moved_by false m ms at to found there moved also = also found there moved

  last-moved : (ms : List Member) (at : ℕ) (found there : Option Member) → Moved found there → Moved (last_standing is_known found ms) (last_standing is_known there (placed_all at ms))
  last-moved [] at found there moved = moved
  last-moved (m ∷ ms) at found there moved =
      rw (stands-placed m ms (behind_key at m.0) (behind_member at m))
      (moved_by (is_known m.0 && stands m ms) m ms (behind_key at m.0) (behind_member at m) found there moved (λ f g same. last-moved ms (behind_member at m) f g same))

module _ {X : Type 0} where
  by_key-free : (rows : List (Row X)) → FreeRows rows → (key : List ℕ) (json : Json) (at : ℕ) (x : X) (n : Counts) (p : X × Counts)
      → by_key rows key json x n ≡ Ok p → by_key rows key (placed at json) x n ≡ Ok p
  by_key-free [] free key json at x n p ok = ok
  by_key-free (row ∷ rows) free key json at x n p ok =
      test-free (bytes_eq key row.0) _ _ _ _ p (λ is. free.0 json at x n p is) (λ is. by_key-free rows free.1 key json at x n p is) ok

only-free : (table : List (Row Value)) → FreeRows table → (o q : Option Member) → Moved o q → (n : Counts) (p : Value × Counts) → only table o n ≡ Ok p → only table q n ≡ Ok p
only-free table free _ _ nowhere n p ok = ok
only-free table free _ _ (somewhere m at) n p ok = by_key-free table free m.0 m.1 at values.Empty n p ok

module _ {X : Type 0} (made : List Member → Counts → Read (X × Counts))
    (moves : (ms : List Member) (at : ℕ) (n : Counts) (p : X × Counts) → made ms n ≡ Ok p → made (placed_all at ms) n ≡ Ok p) where
  members_by : (json : Json) (at : ℕ) (n : Counts) (p : X × Counts) (r : Read (List Member)) → members_in json ≡ r
      → (r >>= λ ms. made ms n) ≡ Ok p → (members_in (placed at json) >>= λ ms. made ms n) ≡ Ok p
  members_by json at n p (Ok ms) is ok =
      ap (λ (q : Placing Json). members_in (q.1 at) >>= λ ns. made ns n) (placing-Object json ms (members-back json ms is))
      ∙ ap (λ (r : Read (List Member)). r >>= λ ns. made ns n) (members_in-Object (record { at = at; kind = kinds.Object (placed_all (at + 1) ms) }) (placed_all (at + 1) ms) refl)
      ∙ moves ms (at + 1) n p ok
  members_by json at n p (Err e) is ok = absurd cc

  pub members-free : ReaderFree (λ json n. members_in json >>= λ ms. made ms n)
  members-free json at n p ok = members_by json at n p (members_in json) refl ok

-- Pairs and values, where a value is.

module _ (levels : ℕ) (value : Reader Value) (free : ReaderFree value) where
  pair_rows : FreeRows (pair_table value)
  pair_rows = (plain-free (codes "key") text_in _ text-free, (nested-free (codes "value") value _ free, tt))

  absent-free : (ms : List Member) (at to : ℕ) (n m : Counts) (place : ℕ) → absent_value levels at ms n ≡ Ok m → absent_value levels to (placed_all place ms) n ≡ Ok m
  absent-free ms at to n m place ok =
      ap (λ (b : Bool). cond b (Ok n) (one_value levels to n)) (has_standing-placed (codes "value") ms place)
      ∙ test-free (has_standing (codes "value") ms) (Ok n) (one_value levels at n) (Ok n) (one_value levels to n) m (λ is. is) (λ is. one_value-free levels at to n m is) ok

  pair_at : (json : Json) (at : ℕ) (n : Counts) (p : (List ℕ × Value) × Counts) (r : Read (List Member)) → members_in json ≡ r
      → (r >>= λ ms. absent_value levels json.at ms n >>= fields (pair_table value) ms ([], values.Empty)) ≡ Ok p → pair_by levels value (placed at json) n ≡ Ok p
  pair_at json at n p (Ok ms) is ok =
      let there = placed_all (at + 1) ms in
      ap (λ (q : Placing Json). pair_by levels value (q.1 at) n) (placing-Object json ms (members-back json ms is))
      ∙ ap (λ (r : Read (List Member)). r >>= λ ns. absent_value levels at ns n >>= fields (pair_table value) ns ([], values.Empty))
      (members_in-Object (record { at = at; kind = kinds.Object there }) there refl)
      ∙ bind-free (absent_value levels json.at ms n) (absent_value levels at there n) _ _ p (λ m same. absent-free ms json.at at n m (at + 1) same)
      (λ m same. fields-free (pair_table value) pair_rows ms (at + 1) ([], values.Empty) m p same) ok
  pair_at json at n p (Err e) is ok = absurd cc

  pub pair_by-free : ReaderFree (pair_by levels value)
  pair_by-free json at n p ok = pair_at json at n p (members_in json) refl ok

  pub pairs_by-free : ReaderFree (pairs_by levels value)
  pairs_by-free json at n p ok = list-free (pair_by levels value) pair_by-free _ json at n p ok

  values_by-free : ReaderFree (values_by value)
  values_by-free json at n p ok = list-free value free _ json at n p ok

  array-free : ReaderFree (object (array_table value) (record { items = [] }))
  array-free json at n p ok = object-free (array_table value) (nested-free (codes "values") (values_by value) _ values_by-free, tt) _ json at n p ok

  map-free : ReaderFree (object (map_table levels value) (record { items = [] }))
  map-free json at n p ok = object-free (map_table levels value) (nested-free (codes "values") (pairs_by levels value) _ pairs_by-free, tt) _ json at n p ok

  value_rows : FreeRows (value_table levels value)
  value_rows = (
    plain-free (codes "stringValue") text_in _ text-free,
    (
      plain-free (codes "boolValue") _ _ truth-free,
      (
        plain-free (codes "intValue") i64_in _ i64-free,
        (
          plain-free (codes "doubleValue") double_in _ double-free,
          (
            nested-free (codes "arrayValue") _ _ array-free,
            (
              nested-free (codes "kvlistValue") _ _ map-free,
              (plain-free (codes "bytesValue") bytes_in _ bytes-free, tt),
            ),
          ),
        ),
      ),
    ),
  )

  pub value_by-free : ReaderFree (value_by levels value)
  value_by-free json at n p ok =
      members-free (λ ms m. only (value_table levels value) (last_standing is_value_key None ms) m)
      (λ ms to m q same. only-free (value_table levels value) value_rows _ _ (last-moved is_value_key ms to None None nowhere) m q same) json at n p ok

-- a value is read as before wherever it stands
pub value-free : (levels : ℕ) → ReaderFree (value_in levels)
unfolding value_in
value-free zero json at n p ok =
    bind-free (one_value zero json.at n) (one_value zero (placed at json).at n) _ _ p (λ m is. one_value-free zero json.at (placed at json).at n m is) (λ m is. is) ok
value-free (suc levels) json at n p ok =
    bind-free (one_value (suc levels) json.at n) (one_value (suc levels) (placed at json).at n) _ _ p (λ m is. one_value-free (suc levels) json.at (placed at json).at n m is)
    (λ m is. value_by-free levels (value_in levels) (value-free levels) json at m p is) ok
