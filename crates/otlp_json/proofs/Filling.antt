-- A value that is read straight from the text fills the field of its key.
use Rattle.std.proofs.Common.{◌≡◌, ◌∙◌, ℕ, Bool, true, false, List, Option, Some, None, Ok, Err, refl, sym, ap}
use Rattle.std.specs.Prelude.{IfSome}
use Rattle.std.specs.Str.{bytes_eq}
use Rattle.json_text.specs.declared.json.Json.{Json}
use Rattle.otlp_json.specs.declared.counts.Counts.{Counts}
use Rattle.otlp_json.specs.declared.direct.Direct.{Direct}
use Rattle.otlp_json.specs.Reads.{Read, Reader, ◌>>=◌}
use Rattle.otlp_json.specs.Objects.{Row, plain, nested, by_key}
use Rattle.otlp_json.specs.Direct.{plainly, row_of, Stands, Passes, Fills}
use Rattle.otlp_json.proofs.Once.{key_is, is_row, no_row, by_key-none}

module _ {X F : Type 0} (x : X) (put : X → F → X) (f : F) (n k : Counts) where
  abbrev good : F × Counts → Read (F × Counts)
  good a = Ok a

  pair_same : (a b : F × Counts) → good a ≡ good b → a ≡ b
  pair_same a b is = cc

  plain_meant : (r : Read F) → ◌>>=◌ {B = F × Counts} r (λ y. Ok (y, n)) ≡ Ok (f, k) → ◌>>=◌ {B = X × Counts} r (λ y. Ok (put x y, n)) ≡ Ok (put x f, k)
  plain_meant (Ok y) is =
      let same = pair_same (y, n) (f, k) is in
      ap (λ (p : F × Counts). Ok (put x p.0, p.1)) same
  plain_meant (Err e) is = absurd cc

module _ {X : Type 0} (table : List (Row X)) (slot_of : List ℕ → Option ℕ) (depth : ℕ) (old : Direct) (x : X) (key word : List ℕ) (same : bytes_eq key word ≡ true) (i : ℕ) (slot : slot_of word ≡ Some i) where
  pub plain-fills : {F : Type 0} (read : Json → Read F) (put : X → F → X) (computes : (json : Json) (n : Counts) → by_key table word json x n ≡ (read json >>= λ f. Ok (put x f, n)))
      (f : F) (new : Direct) → Stands (plainly read) depth old f new → Fills table slot_of key depth (old, x) (Some i) (new, put x f)
  plain-fills read put computes f new s = record {
    json = s.json;
    spelled = s.spelled;
    meant = ap (λ (k : List ℕ). by_key table k s.json x old.counts) (key_is key word same) ∙ computes s.json old.counts
        ∙ plain_meant x put f old.counts new.counts (read s.json) s.meant;
    slot_is = ap slot_of (key_is key word same) ∙ slot;
    not_null = s.not_null;
  }

  pub nested-fills : {F : Type 0} (read : Reader F) (put : X → F → X) (computes : (json : Json) (n : Counts) → by_key table word json x n ≡ (read json n >>= λ p. Ok (put x p.0, p.1)))
      (f : F) (new : Direct) → Stands read depth old f new → Fills table slot_of key depth (old, x) (Some i) (new, put x f)
  nested-fills {F = F} read put computes f new s = record {
    json = s.json;
    spelled = s.spelled;
    meant = ap (λ (k : List ℕ). by_key table k s.json x old.counts) (key_is key word same) ∙ computes s.json old.counts
        ∙ ap (λ (r : Read (F × Counts)). r >>= λ p. Ok (put x p.0, p.1)) s.meant;
    slot_is = ap slot_of (key_is key word same) ∙ slot;
    not_null = s.not_null;
  }

-- a member of no row fills nothing
pub other-slot-fills : {X : Type 0} (table : List (Row X)) (slot_of : List ℕ → Option ℕ) (depth : ℕ) (old new : Direct) (x : X) (key : List ℕ) → is_row table key ≡ false → slot_of key ≡ None
    → Passes depth old new → Fills table slot_of key depth (old, x) None (new, x)
other-slot-fills table slot_of depth old new x key none slot p = record {
  json = p.json;
  spelled = p.spelled;
  meant = by_key-none table key p.json x old.counts none ∙ ap (λ (n : Counts). Ok (x, n)) (sym p.counts);
  slot_is = slot;
  not_null = tt;
}

-- the same where the slots are the rows
pub other-fills : {X : Type 0} (table : List (Row X)) (depth : ℕ) (old new : Direct) (x : X) (key : List ℕ) → row_of table key ≡ None
    → Passes depth old new → Fills table (row_of table) key depth (old, x) None (new, x)
other-fills table depth old new x key none p = other-slot-fills table (row_of table) depth old new x key (no_row table key none) none p

-- a value that is read as another reader reads it
pub stands-same : {X : Type 0} (one other : Reader X) → ((json : Json) (n : Counts) → other json n ≡ one json n) → (depth : ℕ) (old : Direct) (x : X) (new : Direct)
    → Stands one depth old x new → Stands other depth old x new
stands-same one other same depth old x new s = record {
  json = s.json;
  spelled = s.spelled;
  not_null = s.not_null;
  meant = same s.json old.counts ∙ s.meant;
}
