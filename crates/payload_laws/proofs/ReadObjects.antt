-- Properties that hold of what is read, through tables and lists.
use Rattle.std.proofs.Common.{◌≡◌, Bool, true, false, ℕ, List, [], ◌∷◌, ◌++◌, Ok, subst}
use Rattle.std.specs.Prelude.{◌&&◌, cond}
use Rattle.std.specs.List.{All}
use Rattle.std.specs.Str.{bytes_eq}
use Rattle.std.proofs.lemmas.List.Elements.{All-nil, All-push}
use Rattle.json_text.specs.Kinds.{Member}
use Rattle.json_text.specs.Members.{stands}
use Rattle.json_text.specs.declared.json.Json.{Json}
use Rattle.otlp_json.specs.Reads.{Read, Reader, each}
use Rattle.otlp_json.specs.Fields.{items_in, members_in}
use Rattle.otlp_json.specs.Limits.{none_counted}
use Rattle.otlp_json.specs.Objects.{Row, plain, nested, by_key, by_row, fields, object, list}
use Rattle.otlp_json.proofs.Measured.{first_read, pair_is}
use Rattle.payload_laws.proofs.ReadJson.{Good, GoodItems, GoodMembers}
use Rattle.payload_laws.proofs.ReadFields.{FieldGives, items-give, members-give}

-- the type of a thing
abbrev type_of : {A : Type 0} → A → Type 0
type_of {A} x = A

-- what is counted while a payload is read
abbrev pub Counts : Type 0
Counts = type_of none_counted

-- what is read of a good value has this property
abbrev pub Gives : {X : Type 0} → (X → Type 0) → Reader X → Type 0
Gives {X} P reader = (json : Json) (n : Counts) (x : X) (m : Counts) → Good json → reader json n ≡ Ok (x, m) → P x

-- a row keeps it, and so do those of a table
abbrev pub RowKeeps : {X : Type 0} → (X → Type 0) → Row X → Type 0
RowKeeps {X} P row = (json : Json) (x : X) (n : Counts) (y : X) (m : Counts) → Good json → row.1 json x n ≡ Ok (y, m) → P x → P y

abbrev pub TableKeeps : {X : Type 0} → (X → Type 0) → List (Row X) → Type 0
TableKeeps P [] = Unit {0}
TableKeeps P (row ∷ rows) = RowKeeps P row × TableKeeps P rows

pub plain-keeps : {X F : Type 0} (P : X → Type 0) (Q : F → Type 0) (key : List ℕ) (read : Json → Read F) (put : X → F → X) → FieldGives Q read
    → ((x : X) (f : F) → P x → Q f → P (put x f)) → RowKeeps P (plain key read put)
plain-keeps {X = X} {F = F} P Q key read put gives keeps json x n y m good is before =
    let went = first_read {A = F} {B = X × Counts} (read json) (λ f. Ok (put x f, n)) (y, m) is in
    subst P (pair_is (put x went.0) y n m went.2).0 (keeps x went.0 before (gives json went.0 good went.1))

pub nested-keeps : {X F : Type 0} (P : X → Type 0) (Q : F → Type 0) (key : List ℕ) (read : Reader F) (put : X → F → X) → Gives Q read
    → ((x : X) (f : F) → P x → Q f → P (put x f)) → RowKeeps P (nested key read put)
nested-keeps {X = X} {F = F} P Q key read put gives keeps json x n y m good is before =
    let went = first_read {A = F × Counts} {B = X × Counts} (read json n) (λ p. Ok (put x p.0, p.1)) (y, m) is in
    subst P (pair_is (put x went.0.0) y went.0.1 m went.2).0 (keeps x went.0.0 before (gives json n went.0.0 went.0.1 good went.1))

module _ {X : Type 0} (P : X → Type 0) where
  by_test : (t : Bool) (one other : Read (X × Counts)) (y : X) (m : Counts) → (one ≡ Ok (y, m) → P y) → (other ≡ Ok (y, m) → P y) → cond t one other ≡ Ok (y, m) → P y
  by_test true one other y m first second is = first is
  by_test false one other y m first second is = second is

  pub key-keeps : (table : List (Row X)) → TableKeeps P table → (key : List ℕ) (json : Json) (x : X) (n : Counts) (y : X) (m : Counts) → Good json
      → by_key table key json x n ≡ Ok (y, m) → P x → P y
  key-keeps [] all key json x n y m good is before = subst P (pair_is x y n m is).0 before
  key-keeps (row ∷ rows) all key json x n y m good is before =
      by_test (bytes_eq key row.0) (row.1 json x n) (by_key rows key json x n) y m (λ h. all.0 json x n y m good h before) (λ h. key-keeps rows all.1 key json x n y m good h before) is

  pub row-keeps : (table : List (Row X)) → TableKeeps P table → (member : Member) (behind : List Member) (x : X) (n : Counts) (y : X) (m : Counts) → Good member.1
      → by_row table member behind x n ≡ Ok (y, m) → P x → P y
  row-keeps [] all member behind x n y m good is before = subst P (pair_is x y n m is).0 before
  row-keeps (row ∷ rows) all member behind x n y m good is before =
      by_test (bytes_eq member.0 row.0 && stands member behind) (row.1 member.1 x n) (by_row rows member behind x n) y m (λ h. all.0 member.1 x n y m good h before)
      (λ h. row-keeps rows all.1 member behind x n y m good h before) is

  pub fields-keep : (table : List (Row X)) → TableKeeps P table → (members : List Member) (x : X) (n : Counts) (y : X) (m : Counts) → GoodMembers members
      → fields table members x n ≡ Ok (y, m) → P x → P y
  fields-keep table all [] x n y m good is before = subst P (pair_is x y n m is).0 before
  fields-keep table all (member ∷ members) x n y m good is before =
      let went = first_read {A = X × Counts} {B = X × Counts} (by_row table member members x n) (λ p. fields table members p.0 p.1) (y, m) is in
      fields-keep table all members went.0.0 went.0.1 y m good.1 went.2 (row-keeps table all member members x n went.0.0 went.0.1 good.0 went.1 before)

  pub object-gives : (table : List (Row X)) → TableKeeps P table → (empty : X) → P empty → Gives P (object table empty)
  object-gives table all empty begins json n x m good is =
      let went = first_read {A = List Member} {B = X × Counts} (members_in json) (λ members. fields table members empty n) (x, m) is in
      fields-keep table all went.0 empty n x m (members-give json went.0 good went.1) went.2 begins

  each-keeps : (one : Reader X) → Gives P one → (xs : List X) (jsons : List Json) (n : Counts) (ys : List X) (m : Counts) → GoodItems jsons
      → each one xs jsons n ≡ Ok (ys, m) → All P xs → All P ys
  each-keeps one gives xs [] n ys m good is before = subst (All P) (pair_is xs ys n m is).0 before
  each-keeps one gives xs (json ∷ jsons) n ys m good is before =
      let went = first_read {A = X × Counts} {B = List X × Counts} (one json n) (λ x. each one (xs ++ x.0 ∷ []) jsons x.1) (ys, m) is in
      each-keeps one gives (xs ++ went.0.0 ∷ []) jsons went.0.1 ys m good.1 went.2
      (All-push P xs went.0.0 before (gives json n went.0.0 went.0.1 good.0 went.1))

  pub all-give : (one : Reader X) → Gives P one → (jsons : List Json) (n : Counts) (ys : List X) (m : Counts) → GoodItems jsons → each one [] jsons n ≡ Ok (ys, m) → All P ys
  all-give one gives jsons n ys m good is = each-keeps one gives [] jsons n ys m good is (All-nil P)

  pub list-gives : (one : Reader X) → Gives P one → Gives (All P) (list one)
  list-gives one gives json n xs m good is =
      let went = first_read {A = List Json} {B = List X × Counts} (items_in json) (λ items. each one [] items n) (xs, m) is in
      all-give one gives went.0 n xs m (items-give json went.0 good went.1) went.2
