-- Reading doesn't depend on places, where it gives a value.
use Rattle.std.proofs.Common.{◌≡◌, ◌∙◌, ℕ, ◌+◌, ◌^◌, Bool, true, false, not, List, [], ◌∷◌, length, Option, Some, None, Ok, Err, refl, ap, map, ◌⊎◌, inl, inr}
use Rattle.std.specs.Prelude.{◌||◌, ◌&&◌, cond}
use Rattle.std.specs.Str.{bytes_eq}
use Rattle.std.specs.Result.{result_ok}
use Rattle.base64.specs.Engines.{standard}
use Rattle.base64.specs.GeneralPurpose as base64
use Rattle.pdata_value.specs.Pairs.{has_key, first_of}
use Rattle.json_text.specs.Placed.{Placing, placed_members, behind_key, placing, placed}
use Rattle.json_text.specs.Kinds.{Member, as_text, as_truth, as_number, as_items, as_members, is_null}
use Rattle.json_text.specs.Members.{stands}
use Rattle.json_text.specs.declared.json.Json.{Json}
use Rattle.json_text.specs.declared.json.JsonKind.TheVariants as kinds
use Rattle.json_text.proofs.Layers.{placing-Truth, placing-Number, placing-Text, placing-Object}
use Rattle.json_text.proofs.KindLemmas.{as_text-Text, as_text-back, as_truth-Truth, as_truth-back, as_number-Number, as_number-back, as_number-Text, as_items-List, as_items-back, as_members-Object, as_members-back}
use Rattle.json_text.proofs.NullPlaces.{null-placed}
use Rattle.otlp_json.specs.declared.counts.Counts.{Counts}
use Rattle.otlp_json.specs.declared.error.PayloadKind.{PayloadKind}
use Rattle.otlp_json.specs.declared.error.PayloadKind.TheVariants.{WrongKind, BadNumber, BadId, BadBase64}
use Rattle.otlp_json.specs.Reads.{Read, or_wrong, ◌>>=◌}
use Rattle.otlp_json.specs.Fields.{text_in, truth_in, items_in, members_in, spelled_in, numeral_in, below, around, whole, u64_in, u32_in, i64_in, i32_in, id_bytes, id_in, bytes_in, double, double_by, double_in}
use Rattle.otlp_json.specs.Objects.{Row, plain, by_row, fields, object}

abbrev pub PlaceFree : {X : Type 0} → (Json → Read X) → Type 0
PlaceFree {X} read = (json : Json) (at : ℕ) (x : X) → read json ≡ Ok x → read (placed at json) ≡ Ok x

module _ {X : Type 0} where
  pub bind-free : {Y : Type 0} (r s : Read Y) (f g : Y → Read X) (x : X) → ((y : Y) → r ≡ Ok y → s ≡ Ok y) → ((y : Y) → f y ≡ Ok x → g y ≡ Ok x)
      → (r >>= f) ≡ Ok x → (s >>= g) ≡ Ok x
  bind-free (Ok y) s f g x same also is = rw (same y refl) (also y is)
  bind-free (Err e) s f g x same also is = absurd cc

  pub test-free : (t : Bool) (a b c d : Read X) (x : X) → (a ≡ Ok x → c ≡ Ok x) → (b ≡ Ok x → d ≡ Ok x) → cond t a b ≡ Ok x → cond t c d ≡ Ok x
  test-free true a b c d x first second is = first is
  test-free false a b c d x first second is = second is

  good : X → Read X
  good x = Ok x

  good-same : (a b : X) → good a ≡ good b → a ≡ b
  unfolding good
  good-same a b is = cc

  -- what was found
  pub or_wrong-back : (kind : PayloadKind) (at : ℕ) (o : Option X) (x : X) → or_wrong kind at o ≡ Ok x → o ≡ Some x
  unfolding good
  or_wrong-back kind at (Some y) x is = ap Some (good-same y x is)
  or_wrong-back kind at None x is = absurd cc

  pub or_wrong-free : (kind : PayloadKind) (at to : ℕ) (o : Option X) (x : X) → or_wrong kind at o ≡ Ok x → or_wrong kind to o ≡ Ok x
  or_wrong-free kind at to (Some y) x is = is
  or_wrong-free kind at to None x is = absurd cc

  -- a field that is made of what another reading gives
  pub field-free : {Y : Type 0} (kind : PayloadKind) (read : Json → Read Y) (f : Y → Option X) → PlaceFree read → PlaceFree (λ json. read json >>= λ y. or_wrong kind json.at (f y))
  field-free kind read f free json at x ok =
      bind-free (read json) (read (placed at json)) _ _ x (λ y is. free json at y is) (λ y is. or_wrong-free kind json.at (placed at json).at (f y) x is) ok

-- Kinds.

pub text-free : PlaceFree text_in
unfolding text_in
text-free json at t ok =
    let is = as_text-back json t (or_wrong-back WrongKind json.at (as_text json) t ok) in
    ap (λ (p : Placing Json). text_in (p.1 at)) (placing-Text json t is) ∙ ap (or_wrong WrongKind at) (as_text-Text (record { at = at; kind = kinds.Text t }) t refl)

pub truth-free : PlaceFree truth_in
unfolding truth_in
truth-free json at t ok =
    let is = as_truth-back json t (or_wrong-back WrongKind json.at (as_truth json) t ok) in
    ap (λ (p : Placing Json). truth_in (p.1 at)) (placing-Truth json t is) ∙ ap (or_wrong WrongKind at) (as_truth-Truth (record { at = at; kind = kinds.Truth t }) t refl)

pub numeral-free : PlaceFree numeral_in
unfolding numeral_in
numeral-free json at t ok =
    let is = as_number-back json t (or_wrong-back WrongKind json.at (as_number json) t ok) in
    ap (λ (p : Placing Json). numeral_in (p.1 at)) (placing-Number json t is) ∙ ap (or_wrong WrongKind at) (as_number-Number (record { at = at; kind = kinds.Number t }) t refl)

pub items-back : (json : Json) (js : List Json) → items_in json ≡ Ok js → json.kind ≡ kinds.List js
unfolding items_in
items-back json js ok = as_items-back json js (or_wrong-back WrongKind json.at (as_items json) js ok)

pub items_in-List : (json : Json) (js : List Json) → json.kind ≡ kinds.List js → items_in json ≡ Ok js
unfolding items_in
items_in-List json js is = ap (or_wrong WrongKind json.at) (as_items-List json js is)

pub members-back : (json : Json) (ms : List Member) → members_in json ≡ Ok ms → json.kind ≡ kinds.Object ms
unfolding members_in
members-back json ms ok = as_members-back json ms (or_wrong-back WrongKind json.at (as_members json) ms ok)

pub members_in-Object : (json : Json) (ms : List Member) → json.kind ≡ kinds.Object ms → members_in json ≡ Ok ms
unfolding members_in
members_in-Object json ms is = ap (or_wrong WrongKind json.at) (as_members-Object json ms is)

-- a numeral or a text
pub spelled_in-Number : (json : Json) (s : List ℕ) → json.kind ≡ kinds.Number s → spelled_in json ≡ Ok s
unfolding spelled_in
spelled_in-Number json s is = ap (λ (o : Option (List ℕ)). or_wrong WrongKind json.at (first_of o (as_text json))) (as_number-Number json s is)

pub spelled_in-Text : (json : Json) (s : List ℕ) → json.kind ≡ kinds.Text s → spelled_in json ≡ Ok s
unfolding spelled_in
spelled_in-Text json s is =
    ap (λ (o : Option (List ℕ)). or_wrong WrongKind json.at (first_of o (as_text json))) (as_number-Text json s is) ∙ ap (or_wrong WrongKind json.at) (as_text-Text json s is)

first-back : (o p : Option (List ℕ)) (s : List ℕ) → first_of o p ≡ Some s → (o ≡ Some s) ⊎ (p ≡ Some s)
first-back (Some x) p s is = inl is
first-back None p s is = inr is

spelled_by : (json : Json) (at : ℕ) (t : List ℕ) → (as_number json ≡ Some t) ⊎ (as_text json ≡ Some t) → spelled_in (placed at json) ≡ Ok t
spelled_by json at t (inl is) =
    ap (λ (p : Placing Json). spelled_in (p.1 at)) (placing-Number json t (as_number-back json t is)) ∙ spelled_in-Number (record { at = at; kind = kinds.Number t }) t refl
spelled_by json at t (inr is) =
    ap (λ (p : Placing Json). spelled_in (p.1 at)) (placing-Text json t (as_text-back json t is)) ∙ spelled_in-Text (record { at = at; kind = kinds.Text t }) t refl

spelled-back : (json : Json) (t : List ℕ) → spelled_in json ≡ Ok t → (as_number json ≡ Some t) ⊎ (as_text json ≡ Some t)
unfolding spelled_in
spelled-back json t ok = first-back (as_number json) (as_text json) t (or_wrong-back WrongKind json.at (first_of (as_number json) (as_text json)) t ok)

pub spelled-free : PlaceFree spelled_in
spelled-free json at t ok = spelled_by json at t (spelled-back json t ok)

-- Fields.

pub u64-free : PlaceFree u64_in
unfolding u64_in
u64-free json at x ok = field-free BadNumber spelled_in (λ t. below (2 ^ 64) (whole t)) spelled-free json at x ok

pub u32-free : PlaceFree u32_in
unfolding u32_in
u32-free json at x ok = field-free BadNumber spelled_in (λ t. below (2 ^ 32) (whole t)) spelled-free json at x ok

pub i64-free : PlaceFree i64_in
unfolding i64_in
i64-free json at x ok = field-free BadNumber spelled_in (λ t. around (2 ^ 63) (whole t)) spelled-free json at x ok

pub i32-free : PlaceFree i32_in
unfolding i32_in
i32-free json at x ok = field-free BadNumber numeral_in (λ t. around (2 ^ 31) (whole t)) numeral-free json at x ok

pub id-free : (size : ℕ) → PlaceFree (id_in size)
unfolding id_in
id-free size json at x ok = field-free BadId text_in (id_bytes size) text-free json at x ok

pub bytes-free : PlaceFree bytes_in
unfolding bytes_in
bytes-free json at x ok = field-free BadBase64 text_in (λ t. result_ok (base64.decode_of standard t)) text-free json at x ok

pub double_in-Number : (json : Json) (s : List ℕ) → json.kind ≡ kinds.Number s → double_in json ≡ Ok s
unfolding double_in
double_in-Number json s is = ap (λ (o : Option (List ℕ)). double_by json.at o (as_text json)) (as_number-Number json s is)

pub double_in-Text : (json : Json) (s : List ℕ) → json.kind ≡ kinds.Text s → double_in json ≡ or_wrong BadNumber json.at (double s)
unfolding double_in
double_in-Text json s is =
    ap (λ (o : Option (List ℕ)). double_by json.at o (as_text json)) (as_number-Text json s is) ∙ ap (double_by json.at None) (as_text-Text json s is)

double_cases : (json : Json) (at : ℕ) (x : List ℕ) (o p : Option (List ℕ)) → as_number json ≡ o → as_text json ≡ p → double_by json.at o p ≡ Ok x → double_in (placed at json) ≡ Ok x
double_cases json at x (Some s) p number text ok =
    ap (λ (q : Placing Json). double_in (q.1 at)) (placing-Number json s (as_number-back json s number)) ∙ double_in-Number (record { at = at; kind = kinds.Number s }) s refl ∙ ok
double_cases json at x None (Some s) number text ok =
    ap (λ (q : Placing Json). double_in (q.1 at)) (placing-Text json s (as_text-back json s text)) ∙ double_in-Text (record { at = at; kind = kinds.Text s }) s refl
    ∙ or_wrong-free BadNumber json.at at (double s) x ok
double_cases json at x None None number text ok = absurd cc

pub double-free : PlaceFree double_in
unfolding double_in
double-free json at x ok = double_cases json at x (as_number json) (as_text json) refl refl ok

-- Members.

-- members with the places of their own text
abbrev pub placed_all : ℕ → List Member → List Member
placed_all at ms = placed_members at (map (λ (m : Member). (m.0, placing m.1)) ms)

-- behind a member and its comma
abbrev pub behind_member : ℕ → Member → ℕ
behind_member at m = behind_key at m.0 + length (placing m.1).0 + 1

pub has_key-placed : (ms : List Member) (at : ℕ) (key : List ℕ) → has_key (placed_all at ms) key ≡ has_key ms key
has_key-placed [] at key = refl
has_key-placed (m ∷ ms) at key = ap (λ (b : Bool). bytes_eq m.0 key || b) (has_key-placed ms (behind_member at m) key)

module _ {X : Type 0} where
  -- a row that doesn't depend on places
  abbrev pub FreeRow : Row X → Type 0
  FreeRow row = (json : Json) (at : ℕ) (x : X) (n : Counts) (p : X × Counts) → row.1 json x n ≡ Ok p → row.1 (placed at json) x n ≡ Ok p

  abbrev pub FreeRows : List (Row X) → Type 0
  FreeRows [] = Unit {0}
  FreeRows (row ∷ rows) = FreeRow row × FreeRows rows

  pub plain-free : {F : Type 0} (key : List ℕ) (read : Json → Read F) (put : X → F → X) → PlaceFree read → FreeRow (plain key read put)
  plain-free key read put free json at x n p ok =
      bind-free (read json) (read (placed at json)) _ _ p (λ f is. free json at f is) (λ f is. is) ok

  by_row-free : (rows : List (Row X)) → FreeRows rows → (m : Member) (at : ℕ) (behind others : List Member) (x : X) (n : Counts) (p : X × Counts)
      → stands (m.0, placed at m.1) others ≡ stands m behind → by_row rows m behind x n ≡ Ok p → by_row rows (m.0, placed at m.1) others x n ≡ Ok p
  by_row-free [] free m at behind others x n p same ok = ok
  by_row-free (row ∷ rows) free m at behind others x n p same ok =
      ap (λ (b : Bool). cond (bytes_eq m.0 row.0 && b) (row.1 (placed at m.1) x n) (by_row rows (m.0, placed at m.1) others x n)) same
      ∙ test-free (bytes_eq m.0 row.0 && stands m behind) _ _ _ _ p (λ is. free.0 m.1 at x n p is) (λ is. by_row-free rows free.1 m at behind others x n p same is) ok

  pub fields-free : (table : List (Row X)) → FreeRows table → (ms : List Member) (at : ℕ) (x : X) (n : Counts) (p : X × Counts)
      → fields table ms x n ≡ Ok p → fields table (placed_all at ms) x n ≡ Ok p
  fields-free table free [] at x n p ok = ok
  fields-free table free (m ∷ ms) at x n p ok =
      let others = placed_all (behind_member at m) ms in
      bind-free (by_row table m ms x n) (by_row table (m.0, placed (behind_key at m.0) m.1) others x n) _ _ p
      (λ q is. by_row-free table free m (behind_key at m.0) ms others x n q
      (ap (λ (b : Bool). not b && not (has_key others m.0)) (null-placed m.1 (behind_key at m.0))
      ∙ ap (λ (b : Bool). not (is_null m.1) && not b) (has_key-placed ms (behind_member at m) m.0)) is)
      (λ q is. fields-free table free ms (behind_member at m) q.0 q.1 p is) ok

  object_by : (table : List (Row X)) → FreeRows table → (empty : X) (json : Json) (at : ℕ) (n : Counts) (p : X × Counts) (r : Read (List Member)) → members_in json ≡ r
      → (r >>= λ ms. fields table ms empty n) ≡ Ok p → object table empty (placed at json) n ≡ Ok p
  object_by table free empty json at n p (Ok ms) is ok =
      ap (λ (q : Placing Json). object table empty (q.1 at) n) (placing-Object json ms (members-back json ms is))
      ∙ ap (λ (r : Read (List Member)). r >>= λ ns. fields table ns empty n) (members_in-Object (record { at = at; kind = kinds.Object (placed_all (at + 1) ms) }) (placed_all (at + 1) ms) refl)
      ∙ fields-free table free ms (at + 1) empty n p ok
  object_by table free empty json at n p (Err e) is ok = absurd cc

  pub object-free : (table : List (Row X)) → FreeRows table → (empty : X) (json : Json) (at : ℕ) (n : Counts) (p : X × Counts)
      → object table empty json n ≡ Ok p → object table empty (placed at json) n ≡ Ok p
  object-free table free empty json at n p ok = object_by table free empty json at n p (members_in json) refl ok
