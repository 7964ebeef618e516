-- The members of a value that is read straight from the text: at most one of the seven kinds stands among them.
use Rattle.std.proofs.Common.{◌≡◌, ◌∙◌, ℕ, Bool, true, false, List, [], ◌∷◌, ◌++◌, codes, Option, Some, None, Ok, refl, sym, ap, subst}
use Rattle.std.specs.Prelude.{◌||◌, ◌&&◌, cond}
use Rattle.std.specs.Str.{bytes_eq}
use Rattle.pdata_value.specs.declared.value.Value.{Value}
use Rattle.pdata_value.specs.declared.value.Value.TheVariants as values
use Rattle.json_text.specs.Kinds.{Member, is_null}
use Rattle.json_text.specs.Members.{stands, last_standing}
use Rattle.otlp_json.specs.declared.counts.Counts.{Counts}
use Rattle.otlp_json.specs.Reads.{Read, Reader}
use Rattle.otlp_json.specs.Objects.{Row, by_key}
use Rattle.otlp_json.specs.Values.{value_table, is_value_key, only}
use Rattle.otlp_json.specs.Direct.{kind_slot}
use Rattle.otlp_json.proofs.Once.{key_is, has_slot, is_slot, is_row, stands-push, by_key-none, or-left, or-right}
use Rattle.otlp_json.proofs.Passing.{Extends}

-- Slots of kinds.

-- the slot that a test gives
abbrev slot_if : Bool → Option ℕ
slot_if t = cond t (Some 0) None

kind_known : (t : Bool) (slot : ℕ) → slot_if t ≡ Some slot → (t ≡ true) × (0 ≡ slot)
kind_known true slot is = (refl, cc)
kind_known false slot is = absurd cc

kind_unknown : (t : Bool) → slot_if t ≡ None → t ≡ false
kind_unknown true is = absurd cc
kind_unknown false is = refl

-- a key that isn't one of the seven has no slot
pub no_slot : (key : List ℕ) → is_value_key key ≡ false → kind_slot key ≡ None
no_slot key none = ap slot_if none

free_key : (t : Bool) → is_slot (slot_if t) 0 ≡ false → t ≡ false
free_key true is = absurd cc
free_key false is = refl

-- Which member counts.

module _ (m : Member) where
  other_key : (p : Member) → is_value_key p.0 ≡ true → is_value_key m.0 ≡ false → (t : Bool) → bytes_eq m.0 p.0 ≡ t → t ≡ false
  other_key p known unknown false same = refl
  other_key p known unknown true same =
      let both : is_value_key m.0 ≡ true = ap is_value_key (key_is m.0 p.0 same) ∙ known in
      absurd cc

  by_stands : (p : Member) (ps : List Member) (found : Option Member) → ((found : Option Member) → last_standing is_value_key found (ps ++ m ∷ []) ≡ last_standing is_value_key found ps)
      → (s : Bool) → cond s (last_standing is_value_key (Some p) (ps ++ m ∷ [])) (last_standing is_value_key found (ps ++ m ∷ []))
      ≡ cond s (last_standing is_value_key (Some p) ps) (last_standing is_value_key found ps)
  by_stands p ps found below true = below (Some p)
  by_stands p ps found below false = below found

  unknown_step : is_value_key m.0 ≡ false → (p : Member) (ps : List Member) (found : Option Member) → (t : Bool) → is_value_key p.0 ≡ t
      → ((found : Option Member) → last_standing is_value_key found (ps ++ m ∷ []) ≡ last_standing is_value_key found ps)
      → last_standing is_value_key found (p ∷ ps ++ m ∷ []) ≡ last_standing is_value_key found (p ∷ ps)
  unknown_step none p ps found true known below =
      let same : stands p (ps ++ m ∷ []) ≡ stands p ps = stands-push p ps m (other_key p known none (bytes_eq m.0 p.0) refl) in
      rw (known, same) (by_stands p ps found below (stands p ps))
  unknown_step none p ps found false unknown below = rw unknown (below found)

  -- a member of no kind changes nothing behind others
  unknown_push : is_value_key m.0 ≡ false → (ms : List Member) (found : Option Member) → last_standing is_value_key found (ms ++ m ∷ []) ≡ last_standing is_value_key found ms
  unknown_push none [] found = rw none refl
  unknown_push none (p ∷ ps) found = unknown_step none p ps found (is_value_key p.0) refl (unknown_push none ps)

  -- the only one of a kind is the one that counts
  known_push : is_value_key m.0 ≡ true → is_null m.1 ≡ false → (ms : List Member) (found : Option Member) → has_slot kind_slot ms 0 ≡ false
      → last_standing is_value_key found (ms ++ m ∷ []) ≡ Some m
  known_push known some [] found free =
      let counts : stands m [] ≡ true = rw some refl in
      rw (known, counts) refl
  known_push known some (p ∷ ps) found free =
      let here : is_value_key p.0 ≡ false = free_key (is_value_key p.0) (or-left (is_slot (kind_slot p.0) 0) (has_slot kind_slot ps 0) free) in
      rw here (known_push known some ps found (or-right (is_slot (kind_slot p.0) 0) (has_slot kind_slot ps 0) free))

-- where none is of a kind none counts
none_counts : (ms : List Member) (found : Option Member) → has_slot kind_slot ms 0 ≡ false → last_standing is_value_key found ms ≡ found
none_counts [] found free = refl
none_counts (p ∷ ps) found free =
    let here : is_value_key p.0 ≡ false = free_key (is_value_key p.0) (or-left (is_slot (kind_slot p.0) 0) (has_slot kind_slot ps 0) free) in
    rw here (none_counts ps found (or-right (is_slot (kind_slot p.0) 0) (has_slot kind_slot ps 0) free))

-- The rows of the table are the seven keys.

seven : (a b c d e f g : Bool) → (a || (b || (c || (d || (e || (f || (g || false))))))) ≡ (a || b || c || d || e || f || g)
seven true b c d e f g = refl
seven false true c d e f g = refl
seven false false true d e f g = refl
seven false false false true e f g = refl
seven false false false false true f g = refl
seven false false false false false true g = refl
seven false false false false false false true = refl
seven false false false false false false false = refl

module _ (levels : ℕ) (value : Reader Value) where
  rows_are_kinds : (key : List ℕ) → is_row (value_table levels value) key ≡ is_value_key key
  unfolding is_value_key
  rows_are_kinds key =
      seven (bytes_eq key (codes "stringValue")) (bytes_eq key (codes "boolValue")) (bytes_eq key (codes "intValue")) (bytes_eq key (codes "doubleValue"))
      (bytes_eq key (codes "arrayValue")) (bytes_eq key (codes "kvlistValue")) (bytes_eq key (codes "bytesValue"))

  -- a key that is none of the seven has no row
  pub no_kind : (key : List ℕ) → is_value_key key ≡ false → is_row (value_table levels value) key ≡ false
  no_kind key none = rows_are_kinds key ∙ none

  -- what the members of a value give
  abbrev pub kinds_meant : Counts → List Member → Read (Value × Counts)
  kinds_meant n ms = only (value_table levels value) (last_standing is_value_key None ms) n

  abbrev good : Value × Counts → Read (Value × Counts)
  good a = Ok a

  pair_same : (a b : Value × Counts) → good a ≡ good b → a ≡ b
  pair_same a b is = cc

  pub kinds-Extends : (n0 : Counts) → Extends (value_table levels value) kind_slot (kinds_meant n0)
  kinds-Extends n0 = record {
    known = λ ms m slot x y n k is free some gives read.
        let parts = kind_known (is_value_key m.0) slot is in
        let none : has_slot kind_slot ms 0 ≡ false = ap (has_slot kind_slot ms) parts.1 ∙ free in
        let empty : kinds_meant n0 ms ≡ Ok (values.Empty, n0) = ap (λ o. only (value_table levels value) o n0) (none_counts ms None none) in
        let same = pair_same (values.Empty, n0) (x, n) (sym empty ∙ gives) in
        ap (λ o. only (value_table levels value) o n0) (known_push m parts.0 some ms None none)
        ∙ ap (λ (p : Value × Counts). by_key (value_table levels value) m.0 m.1 p.0 p.1) same ∙ read;
    unknown = λ ms m x y n k is gives read.
        let none = kind_unknown (is_value_key m.0) is in
        ap (λ o. only (value_table levels value) o n0) (unknown_push m none ms None) ∙ gives
        ∙ sym (by_key-none (value_table levels value) m.0 m.1 x n (rows_are_kinds m.0 ∙ none)) ∙ read;
  }
