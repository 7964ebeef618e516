-- Members of which each known key stands once: what a table makes of them, and then of one more.
use Rattle.std.proofs.Common.{◌≡◌, ◌∙◌, ◌⊎◌, inl, inr, ℕ, suc, ◌<◌, length, set, Bool, true, false, not, List, [], ◌∷◌, ◌++◌, Option, Some, None, Ok, Err, refl, sym, ap, subst, arith}
use Rattle.std.specs.Prelude.{◌&&◌, ◌||◌, ◌==◌, cond, option_map, get_or, IfSome, ⊤}
use Rattle.std.specs.Str.{bytes_eq}
use Rattle.std.proofs.lemmas.Bool.Decides.{nat_tests}
use Rattle.std.proofs.lemmas.List.{get_or-set_same, get_or-set_other}
use Rattle.std.proofs.lemmas.Slice.Eq.{bytes_eq-Decides}
use Rattle.pdata_value.specs.Pairs.{has_key}
use Rattle.json_text.specs.Kinds.{Member, is_null}
use Rattle.json_text.specs.Members.{stands, has_standing}
use Rattle.json_text.specs.declared.json.Json.{Json}
use Rattle.otlp_json.specs.declared.counts.Counts.{Counts}
use Rattle.otlp_json.specs.Reads.{Read, ◌>>=◌}
use Rattle.otlp_json.specs.Objects.{Row, by_key, by_row, fields}
use Rattle.otlp_json.specs.Direct.{row_of, is_taken, Takes}

-- Truths.

or-false : (a : Bool) → (a || false) ≡ a
or-false true = refl
or-false false = refl

or-assoc : (a b c : Bool) → (a || (b || c)) ≡ ((a || b) || c)
or-assoc true b c = refl
or-assoc false b c = refl

pub or-right : (a b : Bool) → (a || b) ≡ false → b ≡ false
or-right true b h = absurd cc
or-right false b h = h

pub or-left : (a b : Bool) → (a || b) ≡ false → a ≡ false
or-left true b h = absurd cc
or-left false b h = refl

pub key_is : (k word : List ℕ) → bytes_eq k word ≡ true → k ≡ word
key_is k word is = (bytes_eq-Decides k word).0 is

pub same_key : (k : List ℕ) → bytes_eq k k ≡ true
same_key k = (bytes_eq-Decides k k).1 refl

-- Keys of members.

has_key-push : (ms : List Member) (m : Member) (key : List ℕ) → has_key (ms ++ m ∷ []) key ≡ (has_key ms key || bytes_eq m.0 key)
has_key-push [] m key = or-false (bytes_eq m.0 key)
has_key-push (p ∷ ps) m key = ap (λ (b : Bool). bytes_eq p.0 key || b) (has_key-push ps m key) ∙ or-assoc (bytes_eq p.0 key) (has_key ps key) (bytes_eq m.0 key)

-- another key behind a member doesn't matter to it
pub stands-push : (p : Member) (ps : List Member) (m : Member) → bytes_eq m.0 p.0 ≡ false → stands p (ps ++ m ∷ []) ≡ stands p ps
stands-push p ps m other =
    ap (λ (b : Bool). not (is_null p.1) && not b) (has_key-push ps m p.0 ∙ ap (λ (b : Bool). has_key ps p.0 || b) other ∙ or-false (has_key ps p.0))

-- Slots of keys.

-- the slot is this one
abbrev pub is_slot : Option ℕ → ℕ → Bool
is_slot None slot = false
is_slot (Some s) slot = s == slot

-- a member has a key of this slot
abbrev pub has_slot : (List ℕ → Option ℕ) → List Member → ℕ → Bool
has_slot slot_of [] slot = false
has_slot slot_of (m ∷ ms) slot = is_slot (slot_of m.0) slot || has_slot slot_of ms slot

same_number : (n : ℕ) → (n == n) ≡ true
same_number n = grind (arith, nat_tests)

slot_is : (o : Option ℕ) (slot : ℕ) → o ≡ Some slot → is_slot o slot ≡ true
slot_is o slot is = rw is (same_number slot)

module _ (slot_of : List ℕ → Option ℕ) where
  pub has_slot-push : (ms : List Member) (m : Member) (slot : ℕ) → has_slot slot_of (ms ++ m ∷ []) slot ≡ (has_slot slot_of ms slot || is_slot (slot_of m.0) slot)
  has_slot-push [] m slot = or-false (is_slot (slot_of m.0) slot)
  has_slot-push (p ∷ ps) m slot =
      ap (λ (b : Bool). is_slot (slot_of p.0) slot || b) (has_slot-push ps m slot) ∙ or-assoc (is_slot (slot_of p.0) slot) (has_slot slot_of ps slot) (is_slot (slot_of m.0) slot)

  other_key : (p : Member) (k : List ℕ) (slot : ℕ) → slot_of k ≡ Some slot → is_slot (slot_of p.0) slot ≡ false → (t : Bool) → bytes_eq p.0 k ≡ t → t ≡ false
  other_key p k slot is none false same = refl
  other_key p k slot is none true same =
      let there : slot_of p.0 ≡ Some slot = ap slot_of (key_is p.0 k same) ∙ is in
      let taken : is_slot (slot_of p.0) slot ≡ true = slot_is (slot_of p.0) slot there in
      absurd cc

  -- a key of a free slot is new
  pub new_key : (ms : List Member) (k : List ℕ) (slot : ℕ) → slot_of k ≡ Some slot → has_slot slot_of ms slot ≡ false → has_key ms k ≡ false
  new_key [] k slot is none = refl
  new_key (p ∷ ps) k slot is none =
      let here : bytes_eq p.0 k ≡ false = other_key p k slot is (or-left (is_slot (slot_of p.0) slot) (has_slot slot_of ps slot) none) (bytes_eq p.0 k) refl in
      rw here (new_key ps k slot is (or-right (is_slot (slot_of p.0) slot) (has_slot slot_of ps slot) none))

  -- the slots that are taken are those of the members
  abbrev pub Marks : List Member → List Bool → Type 0
  Marks ms taken = (s : ℕ) → is_taken taken s ≡ has_slot slot_of ms s

  -- and so they are behind one more
  pub Marks-push : (ms : List Member) (m : Member) (old new : List Bool) (slot : Option ℕ) → slot_of m.0 ≡ slot → Takes old slot new → Marks ms old → Marks (ms ++ m ∷ []) new
  Marks-push ms m old new None is same marks = λ s.
      ap (λ (t : List Bool). is_taken t s) same ∙ marks s ∙ sym (has_slot-push ms m s ∙ ap (λ (o : Option ℕ). has_slot slot_of ms s || is_slot o s) is ∙ or-false (has_slot slot_of ms s))
  Marks-push ms m old new (Some slot) is takes marks = λ s.
      takes.1 s ∙ ap (λ (b : Bool). b || s == slot) (marks s) ∙ ap (λ (b : Bool). has_slot slot_of ms s || b) (turned s slot)
      ∙ sym (has_slot-push ms m s ∙ ap (λ (o : Option ℕ). has_slot slot_of ms s || is_slot o s) is)
    where
      turned : (a b : ℕ) → (a == b) ≡ (b == a)
      turned a b = grind (arith, nat_tests)

-- Members that stand.

-- no member of a known key is null
abbrev pub NoneNull : (List ℕ → Option ℕ) → List Member → Type 0
NoneNull slot_of [] = ⊤
NoneNull slot_of (m ∷ ms) = IfSome (slot_of m.0) (λ _. is_null m.1 ≡ false) × NoneNull slot_of ms

pub NoneNull-push : (slot_of : List ℕ → Option ℕ) (ms : List Member) (m : Member) → NoneNull slot_of ms → IfSome (slot_of m.0) (λ _. is_null m.1 ≡ false) → NoneNull slot_of (ms ++ m ∷ [])
NoneNull-push slot_of [] m some new = (new, tt)
NoneNull-push slot_of (p ∷ ps) m some new = (some.0, NoneNull-push slot_of ps m some.1 new)

or-true : (a b : Bool) → b ≡ true → (a || b) ≡ true
or-true true b is = refl
or-true false b is = is

module _ (slot_of : List ℕ → Option ℕ) (word : List ℕ) (slot : ℕ) where
  standing_by : ((k : List ℕ) → is_slot (slot_of k) slot ≡ true → k ≡ word) → slot_of word ≡ Some slot → (m : Member) (ms : List Member)
      → IfSome (slot_of m.0) (λ _. is_null m.1 ≡ false) → (t : Bool) → has_slot slot_of ms slot ≡ t → (is_slot (slot_of m.0) slot || t) ≡ true
      → (has_slot slot_of ms slot ≡ true → has_standing word ms ≡ true) → (bytes_eq m.0 word && stands m ms || has_standing word ms) ≡ true
  standing_by alone is m ms some true behind has below = or-true (bytes_eq m.0 word && stands m ms) (has_standing word ms) (below behind)
  standing_by alone is m ms some false behind has below =
      let taken : is_slot (slot_of m.0) slot ≡ true = sym (or-false (is_slot (slot_of m.0) slot)) ∙ has in
      let key : m.0 ≡ word = alone m.0 taken in
      let there : slot_of m.0 ≡ Some slot = ap slot_of key ∙ is in
      let not_null : is_null m.1 ≡ false = subst (λ (o : Option ℕ). IfSome o (λ _. is_null m.1 ≡ false)) there some in
      let new : has_key ms m.0 ≡ false = new_key slot_of ms m.0 slot there behind in
      let same : bytes_eq m.0 word ≡ true = (bytes_eq-Decides m.0 word).1 key in
      rw (same, not_null, new) refl

  -- where a slot is that of one key alone, a member that takes it stands
  pub standing-slot : ((k : List ℕ) → is_slot (slot_of k) slot ≡ true → k ≡ word) → slot_of word ≡ Some slot → (ms : List Member) → NoneNull slot_of ms → has_slot slot_of ms slot ≡ true
      → has_standing word ms ≡ true
  standing-slot alone is [] some has = absurd cc
  standing-slot alone is (m ∷ ms) some has =
      standing_by alone is m ms some.0 (has_slot slot_of ms slot) refl has (standing-slot alone is ms some.1)

  -- where none takes it no member of that key stands
  pub no-standing-slot : slot_of word ≡ Some slot → (ms : List Member) → has_slot slot_of ms slot ≡ false → has_standing word ms ≡ false
  no-standing-slot is [] none = refl
  no-standing-slot is (m ∷ ms) none =
      let here : bytes_eq m.0 word ≡ false = other_key slot_of m word slot is (or-left (is_slot (slot_of m.0) slot) (has_slot slot_of ms slot) none) (bytes_eq m.0 word) refl in
      rw here (no-standing-slot is ms (or-right (is_slot (slot_of m.0) slot) (has_slot slot_of ms slot) none))

-- A table's rows.

-- whether a table has a row for a key
abbrev pub is_row : {X : Type 0} → List (Row X) → List ℕ → Bool
is_row [] key = false
is_row (row ∷ rows) key = bytes_eq key row.0 || is_row rows key

suc_none : (o : Option ℕ) → option_map suc o ≡ None → o ≡ None
suc_none None is = refl
suc_none (Some n) is = absurd cc

and-true : (a b : Bool) → b ≡ true → (a && b) ≡ a
and-true true b is = is
and-true false b is = refl

module _ {X : Type 0} where
  no_slot : (row : Row X) (rows : List (Row X)) (key : List ℕ) → (t : Bool) → bytes_eq key row.0 ≡ t
      → cond t (Some 0) (option_map suc (row_of rows key)) ≡ None → (row_of rows key ≡ None → is_row rows key ≡ false) → (t || is_row rows key) ≡ false
  no_slot row rows key true is none below = absurd cc
  no_slot row rows key false is none below = below (suc_none (row_of rows key) none)

  -- a key without a slot has no row
  pub no_row : (rows : List (Row X)) (key : List ℕ) → row_of rows key ≡ None → is_row rows key ≡ false
  no_row [] key none = refl
  no_row (row ∷ rows) key none = no_slot row rows key (bytes_eq key row.0) refl none (no_row rows key)

  by_row-same : (rows : List (Row X)) (p : Member) (behind others : List Member) (x : X) (n : Counts) → stands p behind ≡ stands p others
      → by_row rows p behind x n ≡ by_row rows p others x n
  by_row-same [] p behind others x n same = refl
  by_row-same (row ∷ rows) p behind others x n same =
      ap (λ (b : Bool). cond (bytes_eq p.0 row.0 && b) (row.1 p.1 x n) (by_row rows p behind x n)) same
      ∙ ap (λ (r : Read (X × Counts)). cond (bytes_eq p.0 row.0 && stands p others) (row.1 p.1 x n) r) (by_row-same rows p behind others x n same)

  cond-off : (a b : Bool) (r s : Read (X × Counts)) → a ≡ false → cond (a && b) r s ≡ s
  cond-off true b r s h = absurd cc
  cond-off false b r s h = refl

  -- a member whose key is unknown leaves all as it is
  pub by_row-none : (rows : List (Row X)) (p : Member) (behind : List Member) (x : X) (n : Counts) → is_row rows p.0 ≡ false → by_row rows p behind x n ≡ Ok (x, n)
  by_row-none [] p behind x n none = refl
  by_row-none (row ∷ rows) p behind x n none =
      cond-off (bytes_eq p.0 row.0) (stands p behind) _ _ (or-left (bytes_eq p.0 row.0) (is_row rows p.0) none)
      ∙ by_row-none rows p behind x n (or-right (bytes_eq p.0 row.0) (is_row rows p.0) none)

  pub by_key-none : (rows : List (Row X)) (key : List ℕ) (json : Json) (x : X) (n : Counts) → is_row rows key ≡ false → by_key rows key json x n ≡ Ok (x, n)
  by_key-none [] key json x n none = refl
  by_key-none (row ∷ rows) key json x n none =
      rw (or-left (bytes_eq key row.0) (is_row rows key) none) (by_key-none rows key json x n (or-right (bytes_eq key row.0) (is_row rows key) none))

  -- the last member counts by its key
  pub by_row-last : (rows : List (Row X)) (m : Member) (x : X) (n : Counts) → is_null m.1 ≡ false → by_row rows m [] x n ≡ by_key rows m.0 m.1 x n
  by_row-last [] m x n some = refl
  by_row-last (row ∷ rows) m x n some =
      let counts : stands m [] ≡ true = rw some refl in
      ap (λ (b : Bool). cond b (row.1 m.1 x n) (by_row rows m [] x n)) (and-true (bytes_eq m.0 row.0) (stands m []) counts)
      ∙ ap (λ (r : Read (X × Counts)). cond (bytes_eq m.0 row.0) (row.1 m.1 x n) r) (by_row-last rows m x n some)

  -- the key is unknown, or none of the members has it
  abbrev pub IsNew : List (Row X) → List Member → List ℕ → Type 0
  IsNew table ms k = is_row table k ≡ false ⊎ has_key ms k ≡ false

  by_row-push : (table : List (Row X)) (p : Member) (ps : List Member) (m : Member) (x : X) (n : Counts) → IsNew table (p ∷ ps) m.0 → (t : Bool) → bytes_eq m.0 p.0 ≡ t
      → by_row table p (ps ++ m ∷ []) x n ≡ by_row table p ps x n
  by_row-push table p ps m x n once false other = by_row-same table p (ps ++ m ∷ []) ps x n (stands-push p ps m other)
  by_row-push table p ps m x n (inl none) true is =
      let here = subst (λ (k : List ℕ). is_row table k ≡ false) (key_is m.0 p.0 is) none in
      by_row-none table p (ps ++ m ∷ []) x n here ∙ sym (by_row-none table p ps x n here)
  by_row-push table p ps m x n (inr none) true is =
      let back : bytes_eq p.0 m.0 ≡ true = (bytes_eq-Decides p.0 m.0).1 (sym (key_is m.0 p.0 is)) in
      let not_here : bytes_eq p.0 m.0 ≡ false = or-left (bytes_eq p.0 m.0) (has_key ps m.0) none in
      absurd cc

  bind-unit : (r : Read (X × Counts)) → (r >>= λ p. Ok (p.0, p.1)) ≡ r
  bind-unit (Ok p) = refl
  bind-unit (Err e) = refl

  below : (m : Member) (p : Member) (ps : List Member) (table : List (Row X)) → IsNew table (p ∷ ps) m.0 → IsNew table ps m.0
  below m p ps table (inl none) = inl none
  below m p ps table (inr none) = inr (or-right (bytes_eq p.0 m.0) (has_key ps m.0) none)

  bind-assoc : (r : Read (X × Counts)) (f g h : X × Counts → Read (X × Counts)) → ((q : X × Counts) → f q ≡ (g q >>= h)) → (r >>= f) ≡ (r >>= g >>= h)
  bind-assoc (Ok p) f g h same = same p
  bind-assoc (Err e) f g h same = refl

  -- members, and one more whose key is unknown or new among them
  pub fields-push : (table : List (Row X)) (ms : List Member) (m : Member) (x : X) (n : Counts) → IsNew table ms m.0
      → fields table (ms ++ m ∷ []) x n ≡ (fields table ms x n >>= λ p. by_row table m [] p.0 p.1)
  fields-push table [] m x n once = bind-unit (by_row table m [] x n)
  fields-push table (p ∷ ps) m x n once =
      ap (λ (r : Read (X × Counts)). r >>= λ q. fields table (ps ++ m ∷ []) q.0 q.1) (by_row-push table p ps m x n once (bytes_eq m.0 p.0) refl)
      ∙ bind-assoc (by_row table p ps x n) _ _ _ (λ q. fields-push table ps m q.0 q.1 (below m p ps table once))

-- A slot that is taken.

taken_by : (old : List Bool) (slot s : ℕ) → slot < length old → (t : Bool) → (s == slot) ≡ t → get_or (set old slot true) s false ≡ (get_or old s false || t)
taken_by old slot s within true is =
    let same : s ≡ slot = grind (arith, nat_tests) in
    rw same (get_or-set_same old slot true false within) ∙ sym (or-true (get_or old s false) true refl)
taken_by old slot s within false is =
    let other : s ≡ slot → ⊥ = λ e. absurd (grind (arith, nat_tests)) in
    get_or-set_other old slot s true false other ∙ sym (or-false (get_or old s false))

pub Takes-set : (old new : List Bool) (slot : ℕ) → slot < length old → get_or old slot false ≡ false → new ≡ set old slot true → Takes old (Some slot) new
Takes-set old new slot within free is = (free, λ s. ap (λ (t : List Bool). get_or t s false) is ∙ taken_by old slot s within (s == slot) refl)
