-- Objects and lists of a payload that are read straight from the text: their loops begin, go on and end.
use Rattle.std.proofs.Common.{◌≡◌, ◌∙◌, ℕ, ◌-◌, ◌<◌, Bool, true, false, List, [], ◌∷◌, ◌++◌, length, replicate, Option, Some, None, Ok, refl, sym, ap}
use Rattle.std.specs.Prelude.{◌==◌}
use Rattle.json_text.specs.Place.{Rest, blanks}
use Rattle.json_text.specs.Kinds.{Member, as_members, as_items}
use Rattle.json_text.specs.Reading.{comma_or, value, ended, document}
use Rattle.pdata_tree.specs.declared.batch.Batch.{Batch}
use Rattle.json_text.specs.declared.json.Json.{Json}
use Rattle.otlp_json.specs.declared.counts.Counts.{Counts}
use Rattle.otlp_json.specs.declared.direct.Direct.{Direct}
use Rattle.otlp_json.specs.declared.error.PayloadKind.TheVariants.{NotObject}
use Rattle.otlp_json.specs.Reads.{Read, Reader, or_wrong, ◌>>=◌, each}
use Rattle.otlp_json.specs.Fields.{members_in, items_in}
use Rattle.otlp_json.specs.Objects.{Row, fields, object, list}
use Rattle.otlp_json.specs.Limits.{none_counted, most_containers}
use Rattle.otlp_json.specs.Trees.{batch_in}
use Rattle.otlp_json.specs.Payload.{payload_of}
use Rattle.otlp_json.specs.Direct.{row_of, Opens, Stands, Fills, Takes, key_of}
use Rattle.otlp_json.proofs.Once.{no_row}
use Rattle.otlp_json.proofs.Passing.{Passed, Passed-begin, Passed-more, Passed-end, Extends, fields-Extends, Listed, Listed-end}

pub members_in-is : (json : Json) (ms : List Member) → as_members json ≡ Some ms → members_in json ≡ Ok ms
unfolding members_in
members_in-is json ms is = rw is refl

items_in-is : (json : Json) (items : List Json) → as_items json ≡ Some items → items_in json ≡ Ok items
unfolding items_in
items_in-is json items is = rw is refl

module _ {X : Type 0} (meant : Counts → List Member → Read (X × Counts)) (slot_of : List ℕ → Option ℕ) (depth : ℕ) where
  -- an object, where something is counted before its members
  pub members-stand : (count : ℕ → Counts → Read Counts) (old begun opened now : Direct) (at : ℕ) (goes : Bool) (x : X) (taken : List Bool) → Opens 123 125 depth begun goes opened
      → begun.cursor ≡ old.cursor → at ≡ old.cursor.at → count at old.counts ≡ Ok begun.counts
      → Passed (meant opened.counts) slot_of depth begun.cursor x taken false now → Stands (λ json n. count json.at n >>= λ m. members_in json >>= meant m) depth old x now
  members-stand count old begun opened now at goes x taken opens same place counted so_far =
      let closed = Passed-end (meant opened.counts) slot_of depth begun opened now goes x taken opens so_far in
      let counted_there : count closed.json.at old.counts ≡ Ok opened.counts =
      ap (λ (p : ℕ). count p old.counts) (closed.at ∙ ap (λ (r : Rest). r.at) same ∙ sym place) ∙ counted ∙ ap (λ (n : Counts). Ok n) (sym opens.counts) in
      record {
        json = closed.json;
        spelled = ap (λ (r : Rest). value depth r) (sym same) ∙ closed.spelled;
        not_null = closed.not_null;
        meant = rw (counted_there, members_in-is closed.json closed.ms closed.members) closed.gives;
      }

-- how far the object of a table is read that begins at a place
abbrev pub ObjectSoFar : {X : Type 0} → List (Row X) → X → Counts → ℕ → Rest → X → List Bool → Bool → Direct → Type 0
ObjectSoFar table empty n0 depth whole x taken goes now = Passed (λ ms. fields table ms empty n0) (row_of table) depth whole x taken goes now

module _ {X : Type 0} (table : List (Row X)) (empty : X) (depth : ℕ) where
  extends : (n0 : Counts) → Extends table (row_of table) (λ ms. fields table ms empty n0)
  extends n0 = fields-Extends table (row_of table) (no_row table) empty n0

  pub object-begin : (size : ℕ) (old new : Direct) (x : X) (goes : Bool) → x ≡ empty → Opens 123 125 depth old goes new → length new.cursor.left < length old.cursor.left
      → ObjectSoFar table empty new.counts depth old.cursor x (replicate size false) goes new
  object-begin size old new x goes is opens less =
      Passed-begin table (row_of table) (λ ms. fields table ms empty new.counts) (extends new.counts) depth size old new x goes opens less
      (ap (λ (y : X). Ok (y, new.counts)) (sym is) ∙ ap (λ (n : Counts). Ok (x, n)) opens.counts)

  pub object-more : (n0 : Counts) (whole : Rest) (here keyed mid after : Direct) (x y : X) (key : List ℕ) (slot : Option ℕ) (old new : List Bool) (goes : Bool)
      → ObjectSoFar table empty n0 depth whole x old true here → key_of here.cursor ≡ Ok (key, keyed.cursor) → keyed.counts ≡ here.counts
      → Fills table (row_of table) key (depth - 1) (keyed, x) slot (mid, y) → Takes old slot new
      → comma_or 125 (blanks mid.cursor) ≡ Ok (goes, after.cursor) → after.counts ≡ mid.counts → length after.cursor.left < length here.cursor.left
      → ObjectSoFar table empty n0 depth whole y new goes after
  object-more n0 = Passed-more table (row_of table) (λ ms. fields table ms empty n0) (extends n0) depth

  -- an object of a table, where something is counted before its members
  pub counted-stands : (count : ℕ → Counts → Read Counts) (old begun opened now : Direct) (at : ℕ) (goes : Bool) (x : X) (taken : List Bool) → Opens 123 125 depth begun goes opened
      → begun.cursor ≡ old.cursor → at ≡ old.cursor.at → count at old.counts ≡ Ok begun.counts
      → ObjectSoFar table empty opened.counts depth begun.cursor x taken false now → Stands (λ json n. count json.at n >>= object table empty json) depth old x now
  counted-stands = members-stand (λ n ms. fields table ms empty n) (row_of table) depth

  -- an object of which only its members are counted
  pub object-stands : (old opened now : Direct) (goes : Bool) (x : X) (taken : List Bool) → Opens 123 125 depth old goes opened
      → ObjectSoFar table empty opened.counts depth old.cursor x taken false now → Stands (object table empty) depth old x now
  object-stands old opened now goes x taken opens so_far =
      let closed = Passed-end (λ ms. fields table ms empty opened.counts) (row_of table) depth old opened now goes x taken opens so_far in
      record {
        json = closed.json;
        spelled = closed.spelled;
        not_null = closed.not_null;
        meant = ap (λ (n : Counts). object table empty closed.json n) (sym opens.counts)
            ∙ ap (λ (r : Read (List Member)). r >>= λ members. fields table members empty opened.counts) (members_in-is closed.json closed.ms closed.members) ∙ closed.gives;
      }

  -- the object that a payload has to be
  pub payload-stands : (old opened now : Direct) (goes : Bool) (x : X) (taken : List Bool) → Opens 123 125 depth old goes opened
      → ObjectSoFar table empty opened.counts depth old.cursor x taken false now
      → Stands (λ json n. or_wrong NotObject json.at (as_members json) >>= λ members. fields table members empty n) depth old x now
  payload-stands old opened now goes x taken opens so_far =
      let closed = Passed-end (λ ms. fields table ms empty opened.counts) (row_of table) depth old opened now goes x taken opens so_far in
      record {
        json = closed.json;
        spelled = closed.spelled;
        not_null = closed.not_null;
        meant = rw closed.members (ap (λ (n : Counts). fields table closed.ms empty n) (sym opens.counts) ∙ closed.gives);
      }

module _ {X : Type 0} (one : Reader X) (depth : ℕ) where
  pub list-stands : (old opened now : Direct) (goes : Bool) (xs : List X) → Opens 91 93 depth old goes opened → Listed one depth old opened.counts xs false now → Stands (list one) depth old xs now
  list-stands old opened now goes xs opens so_far =
      let ended = Listed-end one depth old opened.counts opened now goes xs opens so_far in
      record {
        json = ended.json;
        spelled = ended.spelled;
        not_null = ended.not_null;
        meant = ap (λ (n : Counts). list one ended.json n) (sym opens.counts)
            ∙ ap (λ (r : Read (List Json)). r >>= λ items. each one [] items opened.counts) (items_in-is ended.json ended.items ended.elements) ∙ ended.gives;
      }

  -- the same as a value that has the list in it
  pub wrapped-list-stands : {Y : Type 0} (wrap : List X → Y) (old opened now : Direct) (goes : Bool) (xs : List X) → Opens 91 93 depth old goes opened
      → Listed one depth old opened.counts xs false now → Stands (λ json n. items_in json >>= λ items. each one [] items n >>= λ p. Ok (wrap p.0, p.1)) depth old (wrap xs) now
  wrapped-list-stands {Y = Y} wrap old opened now goes xs opens so_far =
      let ended = Listed-end one depth old opened.counts opened now goes xs opens so_far in
      record {
        json = ended.json;
        spelled = ended.spelled;
        not_null = ended.not_null;
        meant = ap (λ (r : Read (List Json)). r >>= λ items. each one [] items old.counts >>= λ p. Ok (wrap p.0, p.1)) (items_in-is ended.json ended.items ended.elements)
            ∙ ap (λ (n : Counts). each one [] ended.items n >>= λ p. Ok (wrap p.0, p.1)) (sym opens.counts)
            ∙ ap (λ (r : Read (List X × Counts)). r >>= λ p. Ok (wrap p.0, p.1)) ended.gives;
      }

-- The whole text.

none_left : (json : Json) (r : Rest) → (length r.left == 0) ≡ true → ended json r ≡ Ok json
none_left json r is = rw is refl

pub payload-read : (text : List ℕ) (old new : Direct) (last : Rest) (batch : Batch) → old.cursor ≡ blanks (record { at = 0; left = text }) → old.counts ≡ none_counted
    → Stands batch_in most_containers old batch new → last ≡ blanks new.cursor → (length last.left == 0) ≡ true → payload_of (document most_containers text) ≡ Ok batch
unfolding document
payload-read text old new last batch begun none s behind is =
    let value_is : value most_containers (blanks (record { at = 0; left = text })) ≡ Ok (s.json, new.cursor) = ap (value most_containers) (sym begun) ∙ s.spelled in
    let whole : ended s.json (blanks new.cursor) ≡ Ok s.json = ap (ended s.json) (sym behind) ∙ none_left s.json last is in
    let meant : batch_in s.json none_counted ≡ Ok (batch, new.counts) = ap (batch_in s.json) (sym none) ∙ s.meant in
    rw (value_is, whole, meant) refl
