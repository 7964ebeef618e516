-- Members that may be left out, and what a table makes of those that are there.
use Rattle.std.proofs.Common.{◌≡◌, ◌∙◌, ℕ, Bool, true, false, not, List, [], ◌∷◌, ◌++◌, Option, Some, None, Ok, Err, refl, ap}
use Rattle.std.specs.Prelude.{◌&&◌, ◌||◌, cond}
use Rattle.std.specs.Str.{bytes_eq}
use Rattle.pdata_value.specs.Pairs.{has_key, is_distinct}
use Rattle.json_text.specs.Kinds.{Member, is_null}
use Rattle.json_text.specs.Members.{stands}
use Rattle.json_text.specs.declared.json.Json.{Json}
use Rattle.otlp_json.specs.declared.counts.Counts.{Counts}
use Rattle.otlp_json.specs.Reads.{Read, ◌>>=◌}
use Rattle.otlp_json.specs.Line.{unless, list_member, list_json, is_empty}
use Rattle.otlp_json.specs.Objects.{Row, by_key, by_row, fields}

-- a member that may be left out
abbrev pub Piece : Type 0
Piece = List ℕ × Option Json

abbrev pub members_by : List ℕ → Option Json → List Member
members_by key None = []
members_by key (Some json) = (key, json) ∷ []

-- the members that are there
abbrev pub present : List Piece → List Member
present [] = []
present (p ∷ ps) = members_by p.0 p.1 ++ present ps

-- one that is left out by a test
abbrev pub optional : Bool → Json → Option Json
optional absent json = cond absent None (Some json)

pub unless-is : (absent : Bool) (key : List ℕ) (json : Json) → unless absent key json ≡ members_by key (optional absent json)
unless-is true key json = refl
unless-is false key json = refl

pub list_member-is : (key : List ℕ) (js : List Json) → list_member key js ≡ members_by key (optional (is_empty js) (list_json js))
list_member-is key [] = refl
list_member-is key (j ∷ js) = refl

-- it isn't null
abbrev pub IsSome : Option Json → Type 0
IsSome None = Unit {0}
IsSome (Some json) = is_null json ≡ false

-- none of them is null
abbrev pub AreSome : List Piece → Type 0
AreSome [] = Unit {0}
AreSome (p ∷ ps) = IsSome p.1 × AreSome ps

pub optional-some : (absent : Bool) (json : Json) → is_null json ≡ false → IsSome (optional absent json)
optional-some true json is = tt
optional-some false json is = is

or-none : (a b : Bool) → a ≡ false → b ≡ false → (a || b) ≡ false
or-none a b x y = rw (x, y) refl

or-left : (a b : Bool) → (a || b) ≡ false → a ≡ false
or-left true b h = absurd cc
or-left false b h = refl

or-right : (a b : Bool) → (a || b) ≡ false → b ≡ false
or-right true b h = absurd cc
or-right false b h = h

and-left : (a b : Bool) → (not a && b) ≡ true → a ≡ false
and-left true b h = absurd cc
and-left false b h = refl

and-right : (a b : Bool) → (not a && b) ≡ true → b ≡ true
and-right true b h = absurd cc
and-right false b h = h

no_key-piece : (key k : List ℕ) (o : Option Json) (rest : List Member) → bytes_eq k key ≡ false → has_key rest key ≡ false → has_key (members_by k o ++ rest) key ≡ false
no_key-piece key k None rest other none = none
no_key-piece key k (Some json) rest other none = or-none (bytes_eq k key) (has_key rest key) other none

no_key-present : (ps : List Piece) (key : List ℕ) → has_key ps key ≡ false → has_key (present ps) key ≡ false
no_key-present [] key none = refl
no_key-present (p ∷ ps) key none =
    no_key-piece key p.0 p.1 (present ps) (or-left (bytes_eq p.0 key) (has_key ps key) none) (no_key-present ps key (or-right (bytes_eq p.0 key) (has_key ps key) none))

module _ {X : Type 0} where
  -- what a table makes of one of them
  abbrev pub filled_by : List (Row X) → List ℕ → Option Json → X → Counts → Read (X × Counts)
  filled_by table key None x n = Ok (x, n)
  filled_by table key (Some json) x n = by_key table key json x n

  -- and of all
  abbrev pub filled : List (Row X) → List Piece → X → Counts → Read (X × Counts)
  filled table [] x n = Ok (x, n)
  filled table (p ∷ ps) x n = filled_by table p.0 p.1 x n >>= λ q. filled table ps q.0 q.1

  known : (t : Bool) (r a b : Read (X × Counts)) → a ≡ b → cond (t && true) r a ≡ cond t r b
  known true r a b same = refl
  known false r a b same = same

  -- a member that counts is read by its key
  by_row-stands : (rows : List (Row X)) (m : Member) (behind : List Member) (x : X) (n : Counts) → stands m behind ≡ true → by_row rows m behind x n ≡ by_key rows m.0 m.1 x n
  by_row-stands [] m behind x n is = refl
  by_row-stands (row ∷ rows) m behind x n is =
      ap (λ (b : Bool). cond (bytes_eq m.0 row.0 && b) (row.1 m.1 x n) (by_row rows m behind x n)) is
      ∙ known (bytes_eq m.0 row.0) (row.1 m.1 x n) _ _ (by_row-stands rows m behind x n is)

  one_piece : (table : List (Row X)) (key : List ℕ) (o : Option Json) (rest : List Member) (x : X) (n : Counts) → IsSome o → has_key rest key ≡ false
      → fields table (members_by key o ++ rest) x n ≡ (filled_by table key o x n >>= λ q. fields table rest q.0 q.1)
  one_piece table key None rest x n some none = refl
  one_piece table key (Some json) rest x n some none =
      ap (λ (r : Read (X × Counts)). r >>= λ q. fields table rest q.0 q.1)
      (by_row-stands table (key, json) rest x n (rw (some, none) refl))

  bind-same : (r : Read (X × Counts)) (f g : X × Counts → Read (X × Counts)) → ((q : X × Counts) → f q ≡ g q) → (r >>= f) ≡ (r >>= g)
  bind-same (Ok q) f g same = same q
  bind-same (Err e) f g same = refl

  -- members with names of their own are read one after another
  pub fields-present : (table : List (Row X)) (ps : List Piece) (x : X) (n : Counts) → is_distinct ps ≡ true → AreSome ps
      → fields table (present ps) x n ≡ filled table ps x n
  fields-present table [] x n distinct some = refl
  fields-present table (p ∷ ps) x n distinct some =
      one_piece table p.0 p.1 (present ps) x n some.0 (no_key-present ps p.0 (and-left (has_key ps p.0) (is_distinct ps) distinct))
      ∙ bind-same (filled_by table p.0 p.1 x n) _ _ (λ q. fields-present table ps q.0 q.1 (and-right (has_key ps p.0) (is_distinct ps) distinct) some.1)

  optional_step : (table : List (Row X)) (key : List ℕ) (absent : Bool) (json : Json) (x y : X) (n m : Counts)
      → (absent ≡ true → filled_by table key None x n ≡ Ok (y, m)) → (absent ≡ false → by_key table key json x n ≡ Ok (y, m))
      → filled_by table key (optional absent json) x n ≡ Ok (y, m)
  optional_step table key true json x y n m left there = left refl
  optional_step table key false json x y n m left there = there refl

  -- a member that is there or not, and then the others
  pub filled-step : (table : List (Row X)) (key : List ℕ) (absent : Bool) (json : Json) (ps : List Piece) (x y z : X) (n m l : Counts)
      → (absent ≡ true → (x ≡ y) × (n ≡ m)) → (absent ≡ false → by_key table key json x n ≡ Ok (y, m)) → filled table ps y m ≡ Ok (z, l)
      → filled table ((key, optional absent json) ∷ ps) x n ≡ Ok (z, l)
  filled-step table key absent json ps x y z n m l left there rest =
      rw (optional_step table key absent json x y n m (λ is. let same = left is in rw (same.0, same.1) refl) there) rest
