-- How far a container is read straight from its text: the elements passed, and what they give.
use Rattle.std.proofs.Common.{◌≡◌, ◌∙◌, inl, inr, ℕ, zero, suc, ◌+◌, ◌-◌, ◌<◌, Bool, true, false, List, [], ◌∷◌, ◌++◌, length, replicate, Option, Some, None, Result, Ok, Err, refl, sym, ap, subst, arith, append-nil}
use Rattle.std.specs.Prelude.{◌==◌, IfSome, cond}
use Rattle.std.proofs.lemmas.Bool.Decides.{nat_tests}
use Rattle.json_text.specs.Place.{Rest, head, blanks, past}
use Rattle.json_text.specs.Kinds.{Member, is_null, as_members, as_items}
use Rattle.json_text.specs.Reading.{Reads, make, with_front, comma_or, elements, sequence, member, value, quoted, this}
use Rattle.json_text.specs.Reading as json_reading
use Rattle.json_text.specs.declared.json.Json.{Json}
use Rattle.json_text.specs.declared.json.JsonKind.TheVariants as kinds
use Rattle.json_text.specs.declared.error.JsonFault.{JsonFault}
use Rattle.json_text.specs.declared.error.JsonFault.TheVariants.{BadJson}
use Rattle.json_text.proofs.Turns.{with_front-nil, with_front-append, elements-goes, elements-end}
use Rattle.json_text.proofs.Values.{value-list, value-object}
use Rattle.json_text.proofs.KindLemmas.{as_members-Object, as_items-List, is_null-Object, is_null-List}
use Rattle.otlp_json.specs.declared.counts.Counts.{Counts}
use Rattle.otlp_json.specs.declared.direct.Direct.{Direct}
use Rattle.otlp_json.specs.Reads.{Read, Reader, ◌>>=◌, each}
use Rattle.otlp_json.specs.Objects.{Row, by_key, by_row, fields}
use Rattle.otlp_json.specs.Direct.{Opens, Stands, Fills, Takes, key_of, is_taken}
use Rattle.otlp_json.proofs.Once.{Marks, Marks-push, NoneNull, NoneNull-push, has_slot, new_key, is_row, by_row-none, by_row-last, by_key-none, fields-push}

-- Elements.

-- what is left of the elements: more behind a comma, or none behind the byte that closes
abbrev pub left_of : {X : Type 0} → (Rest → Reads X) → ℕ → Bool → ℕ → Rest → Reads (List X)
left_of one close true turns here = elements one close turns here
left_of one close false turns here = Ok ([], here)

-- the elements found, with what is left of them, are those of the container that begins at a place
pub record Found {X : Type 0} (one : Rest → Reads X) (close : ℕ) (whole : Rest) (found : List X) (goes : Bool) (here : Rest) : Type 0 where
  pub turns : ℕ
  pub enough : length here.left < turns
  pub reads : sequence one close (length whole.left) (past 1 whole) ≡ with_front found (left_of one close goes turns here)

same_byte : (b c : ℕ) → b ≡ c → (b == c) ≡ true
same_byte b c h = grind (arith, nat_tests)

module _ {X : Type 0} (one : Rest → Reads X) (close : ℕ) where
  pub Found-opens : (opening depth : ℕ) (old new : Direct) (goes : Bool) → Opens opening close depth old goes new → length new.cursor.left < length old.cursor.left
      → Found one close old.cursor [] goes new.cursor
  Found-opens opening depth old new true opens less =
      let stays = opens.stays refl in
      record {
        turns = length old.cursor.left;
        enough = less;
        reads = rw (stays.1, stays.0) (sym (with_front-nil (elements one close (length old.cursor.left) (blanks (past 1 old.cursor)))));
      }
  Found-opens opening depth old new false opens less =
      let closed = opens.closed refl in
      record {
        turns = length new.cursor.left + 1;
        enough = omega arith;
        reads = rw (closed.1, same_byte (head (blanks (past 1 old.cursor))) close closed.0) refl;
      }

  elements-step : (goes : Bool) (t : ℕ) (here mid after : Rest) (x : X) → one here ≡ Ok (x, mid) → comma_or close (blanks mid) ≡ Ok (goes, after)
      → elements one close (suc t) here ≡ with_front (x ∷ []) (left_of one close goes t after)
  elements-step true t here mid after x read comma = elements-goes one close t here mid after x read comma
  elements-step false t here mid after x read comma = elements-end one close t here mid after x read comma

  step : (whole : Rest) (turns : ℕ) (found : List X) (here mid after : Rest) (x : X) (goes : Bool) → length here.left < turns
      → sequence one close (length whole.left) (past 1 whole) ≡ with_front found (elements one close turns here)
      → one here ≡ Ok (x, mid) → comma_or close (blanks mid) ≡ Ok (goes, after) → length after.left < length here.left
      → Found one close whole (found ++ x ∷ []) goes after
  step whole zero found here mid after x goes enough reads read comma less = absurd (omega arith)
  step whole (suc t) found here mid after x goes enough reads read comma less = record {
    turns = t;
    enough = omega arith;
    reads = reads ∙ ap (with_front found) (elements-step goes t here mid after x read comma) ∙ with_front-append found (x ∷ []) (left_of one close goes t after);
  }

  pub Found-more : (whole : Rest) (found : List X) (here mid after : Rest) (x : X) (goes : Bool) → Found one close whole found true here → one here ≡ Ok (x, mid)
      → comma_or close (blanks mid) ≡ Ok (goes, after) → length after.left < length here.left → Found one close whole (found ++ x ∷ []) goes after
  Found-more whole found here mid after x goes f read comma less = step whole f.turns found here mid after x goes f.enough f.reads read comma less

  pub Found-all : (whole : Rest) (found : List X) (here : Rest) → Found one close whole found false here
      → sequence one close (length whole.left) (past 1 whole) ≡ Ok (found, here)
  Found-all whole found here f = f.reads ∙ ap (λ (xs : List X). Ok (xs, here)) (append-nil found)

-- A key, and then a value, is a member.

abbrev good : List ℕ × Rest → Reads (List ℕ)
good a = Ok a

ok-same : (a b : List ℕ × Rest) → good a ≡ good b → a ≡ b
ok-same a b is = cc

module _ (one : Rest → Reads Json) (k : List ℕ) (v : Json) (c to : Rest) (read : one c ≡ Ok (v, to)) where
  -- a key with its colon, and what is then read
  keyed : List ℕ → Rest → Reads (List ℕ)
  keyed front d = Ok (front, blanks d)

  whole_member : List ℕ → Rest → Reads (List ℕ × Json)
  whole_member front d = json_reading.◌>>=◌ (one (blanks d)) (λ w. Ok ((front, w.0), w.1))

  behind_colon : (front : List ℕ) (colon : Result Rest JsonFault) → json_reading.◌>>=◌ colon (keyed front) ≡ Ok (k, c)
      → json_reading.◌>>=◌ colon (whole_member front) ≡ Ok ((k, v), to)
  unfolding keyed whole_member
  behind_colon front (Ok d) is =
      let same = ok-same (front, blanks d) (k, c) is in
      let place : blanks d ≡ c = ap (λ (p : List ℕ × Rest). p.1) same in
      let front_is : front ≡ k = ap (λ (p : List ℕ × Rest). p.0) same in
      rw (place, read, front_is) refl
  behind_colon front (Err e) is = absurd cc

  behind_quote : (q : Reads (List ℕ)) → json_reading.◌>>=◌ q (λ p. json_reading.◌>>=◌ (this 58 (blanks p.1)) (keyed p.0)) ≡ Ok (k, c)
      → json_reading.◌>>=◌ q (λ p. json_reading.◌>>=◌ (this 58 (blanks p.1)) (whole_member p.0)) ≡ Ok ((k, v), to)
  behind_quote (Ok p) is = behind_colon p.0 (this 58 (blanks p.1)) is
  behind_quote (Err e) is = absurd cc

  pub member-by_key : (r : Rest) → key_of r ≡ Ok (k, c) → member one r ≡ Ok ((k, v), to)
  unfolding keyed whole_member
  member-by_key r is = behind_quote (quoted r) is

-- Objects.

-- how far the object is read that begins at a place: the members passed, what they give behind these counts, and which slots they take.
-- `meant` says what members give.
pub record Passed {X : Type 0} (meant : List Member → Read (X × Counts)) (slot_of : List ℕ → Option ℕ) (depth : ℕ) (whole : Rest) (x : X) (taken : List Bool) (goes : Bool) (now : Direct) : Type 0 where
  pub ms : List Member
  pub found : Found (member (value (depth - 1))) 125 whole ms goes now.cursor
  pub gives : meant ms ≡ Ok (x, now.counts)
  pub marks : Marks slot_of ms taken
  pub some : NoneNull slot_of ms
  pub less : length now.cursor.left < length whole.left

-- what a meaning of members has to be for one more member
pub record Extends {X : Type 0} (table : List (Row X)) (slot_of : List ℕ → Option ℕ) (meant : List Member → Read (X × Counts)) : Type 0 where
  pub known : (ms : List Member) (m : Member) (slot : ℕ) (x y : X) (n k : Counts) → slot_of m.0 ≡ Some slot → has_slot slot_of ms slot ≡ false → is_null m.1 ≡ false
      → meant ms ≡ Ok (x, n) → by_key table m.0 m.1 x n ≡ Ok (y, k) → meant (ms ++ m ∷ []) ≡ Ok (y, k)
  pub unknown : (ms : List Member) (m : Member) (x y : X) (n k : Counts) → slot_of m.0 ≡ None
      → meant ms ≡ Ok (x, n) → by_key table m.0 m.1 x n ≡ Ok (y, k) → meant (ms ++ m ∷ []) ≡ Ok (y, k)

none_marked : (size s : ℕ) → is_taken (replicate size false) s ≡ false
none_marked zero s = refl
none_marked (suc size) zero = refl
none_marked (suc size) (suc s) = none_marked size s

module _ {X : Type 0} (table : List (Row X)) (slot_of : List ℕ → Option ℕ) (meant : List Member → Read (X × Counts)) (extends : Extends table slot_of meant) (depth : ℕ) where
  pub Passed-begin : (size : ℕ) (old new : Direct) (x : X) (goes : Bool) → Opens 123 125 depth old goes new → length new.cursor.left < length old.cursor.left
      → meant [] ≡ Ok (x, old.counts) → Passed meant slot_of depth old.cursor x (replicate size false) goes new
  Passed-begin size old new x goes opens less none = record {
    ms = [];
    found = Found-opens (member (value (depth - 1))) 125 123 depth old new goes opens less;
    gives = none ∙ ap (λ (n : Counts). Ok (x, n)) (sym opens.counts);
    marks = none_marked size;
    some = tt;
    less = less;
  }

  gives-more : (ms : List Member) (key : List ℕ) (json : Json) (slot : Option ℕ) (x y : X) (n k : Counts) (old new : List Bool) → slot_of key ≡ slot
      → IfSome slot (λ _. is_null json ≡ false) → Takes old slot new → Marks slot_of ms old → meant ms ≡ Ok (x, n) → by_key table key json x n ≡ Ok (y, k)
      → meant (ms ++ (key, json) ∷ []) ≡ Ok (y, k)
  gives-more ms key json None x y n k old new is some takes marks gives read = extends.unknown ms (key, json) x y n k is gives read
  gives-more ms key json (Some slot) x y n k old new is some takes marks gives read =
      extends.known ms (key, json) slot x y n k is (sym (marks slot) ∙ takes.0) some gives read

  not_null_by : (json : Json) (key : List ℕ) (slot : Option ℕ) → slot_of key ≡ slot → IfSome slot (λ _. is_null json ≡ false) → IfSome (slot_of key) (λ _. is_null json ≡ false)
  not_null_by json key slot is some = subst (λ (o : Option ℕ). IfSome o (λ _. is_null json ≡ false)) (sym is) some

  pub Passed-more : (whole : Rest) (here keyed mid after : Direct) (x y : X) (key : List ℕ) (slot : Option ℕ) (old new : List Bool) (goes : Bool)
      → Passed meant slot_of depth whole x old true here → key_of here.cursor ≡ Ok (key, keyed.cursor) → keyed.counts ≡ here.counts
      → Fills table slot_of key (depth - 1) (keyed, x) slot (mid, y) → Takes old slot new
      → comma_or 125 (blanks mid.cursor) ≡ Ok (goes, after.cursor) → after.counts ≡ mid.counts → length after.cursor.left < length here.cursor.left
      → Passed meant slot_of depth whole y new goes after
  Passed-more whole here keyed mid after x y key slot old new goes p is_key same_counts f takes comma counts less =
      let m : Member = (key, f.json) in
      record {
        ms = p.ms ++ m ∷ [];
        found = Found-more (member (value (depth - 1))) 125 whole p.ms here.cursor mid.cursor after.cursor m goes p.found
            (member-by_key (value (depth - 1)) key f.json keyed.cursor mid.cursor f.spelled here.cursor is_key) comma less;
        gives = gives-more p.ms key f.json slot x y here.counts after.counts old new f.slot_is f.not_null takes p.marks p.gives
            (ap (λ (n : Counts). by_key table key f.json x n) (sym same_counts) ∙ f.meant ∙ ap (λ (n : Counts). Ok (y, n)) (sym counts));
        marks = Marks-push slot_of p.ms m old new slot f.slot_is takes p.marks;
        some = NoneNull-push slot_of p.ms m p.some (not_null_by f.json key slot f.slot_is f.not_null);
        less = omega (arith, p.less, less);
      }

-- an object that is read to its end
pub record Closed {X : Type 0} (meant : List Member → Read (X × Counts)) (slot_of : List ℕ → Option ℕ) (depth : ℕ) (old : Direct) (x : X) (taken : List Bool) (new : Direct) : Type 0 where
  pub json : Json
  pub at : json.at ≡ old.cursor.at
  pub ms : List Member
  pub members : as_members json ≡ Some ms
  pub not_null : is_null json ≡ false
  pub spelled : value depth old.cursor ≡ Ok (json, new.cursor)
  pub gives : meant ms ≡ Ok (x, new.counts)
  pub marks : Marks slot_of ms taken
  pub some : NoneNull slot_of ms

module _ {X : Type 0} (meant : List Member → Read (X × Counts)) (slot_of : List ℕ → Option ℕ) (depth : ℕ) where
  pub Passed-end : (old opened now : Direct) (begun : Bool) (x : X) (taken : List Bool) → Opens 123 125 depth old begun opened
      → Passed meant slot_of depth old.cursor x taken false now → Closed meant slot_of depth old x taken now
  Passed-end old opened now begun x taken opens p =
      let json : Json = record { at = old.cursor.at; kind = kinds.Object p.ms } in
      record {
        json = json;
        at = refl;
        ms = p.ms;
        members = as_members-Object json p.ms refl;
        not_null = is_null-Object json p.ms refl;
        spelled = value-object depth old.cursor opens.first opens.deep
            ∙ ap (make old.cursor kinds.Object) (Found-all (member (value (depth - 1))) 125 old.cursor p.ms now.cursor p.found);
        gives = p.gives;
        marks = p.marks;
        some = p.some;
      }

-- what a table makes of members
module _ {X : Type 0} (table : List (Row X)) (slot_of : List ℕ → Option ℕ) (rows : (key : List ℕ) → slot_of key ≡ None → is_row table key ≡ false) (x0 : X) (n0 : Counts) where
  pub fields-Extends : Extends table slot_of (λ ms. fields table ms x0 n0)
  fields-Extends = record {
    known = λ ms m slot x y n k is free some gives read.
        fields-push table ms m x0 n0 (inr (new_key slot_of ms m.0 slot is free))
        ∙ ap (λ (r : Read (X × Counts)). r >>= λ p. by_row table m [] p.0 p.1) gives ∙ by_row-last table m x n some ∙ read;
    unknown = λ ms m x y n k is gives read.
        let none = rows m.0 is in
        fields-push table ms m x0 n0 (inl none)
        ∙ ap (λ (r : Read (X × Counts)). r >>= λ p. by_row table m [] p.0 p.1) gives ∙ by_row-none table m [] x n none ∙ sym (by_key-none table m.0 m.1 x n none) ∙ read;
  }

-- Lists.

-- how far the list is read that begins at a place: its values so far, and what they give behind these counts
pub record Listed {X : Type 0} (one : Reader X) (depth : ℕ) (old : Direct) (n0 : Counts) (xs : List X) (goes : Bool) (now : Direct) : Type 0 where
  pub items : List Json
  pub found : Found (value (depth - 1)) 93 old.cursor items goes now.cursor
  pub gives : each one [] items n0 ≡ Ok (xs, now.counts)
  pub less : length now.cursor.left < length old.cursor.left

push_by : {X : Type 0} (one : Reader X) (done : List X) (items : List Json) (json : Json) (r : Read (X × Counts))
    → ((x : X × Counts) → each one (done ++ x.0 ∷ []) (items ++ json ∷ []) x.1 ≡ (each one (done ++ x.0 ∷ []) items x.1 >>= λ p. each one p.0 (json ∷ []) p.1))
    → (r >>= λ x. each one (done ++ x.0 ∷ []) (items ++ json ∷ []) x.1) ≡ ((r >>= λ x. each one (done ++ x.0 ∷ []) items x.1) >>= λ p. each one p.0 (json ∷ []) p.1)
push_by one done items json (Ok x) below = below x
push_by one done items json (Err e) below = refl

each-push : {X : Type 0} (one : Reader X) (done : List X) (items : List Json) (json : Json) (n : Counts)
    → each one done (items ++ json ∷ []) n ≡ (each one done items n >>= λ p. each one p.0 (json ∷ []) p.1)
each-push one done [] json n = refl
each-push one done (item ∷ items) json n = push_by one done items json (one item n) (λ x. each-push one (done ++ x.0 ∷ []) items json x.1)

module _ {X : Type 0} (one : Reader X) (depth : ℕ) (old : Direct) (n0 : Counts) where
  pub Listed-begin : (new : Direct) (goes : Bool) → Opens 91 93 depth old goes new → length new.cursor.left < length old.cursor.left → n0 ≡ new.counts
      → Listed one depth old n0 [] goes new
  Listed-begin new goes opens less counts = record {
    items = [];
    found = Found-opens (value (depth - 1)) 93 91 depth old new goes opens less;
    gives = ap (λ (n : Counts). Ok ([], n)) counts;
    less = less;
  }

  pub Listed-more : (here mid after : Direct) (xs : List X) (x : X) (goes : Bool) → Listed one depth old n0 xs true here → Stands one (depth - 1) here x mid
      → comma_or 93 (blanks mid.cursor) ≡ Ok (goes, after.cursor) → after.counts ≡ mid.counts → length after.cursor.left < length here.cursor.left
      → Listed one depth old n0 (xs ++ x ∷ []) goes after
  Listed-more here mid after xs x goes l s comma counts less = record {
    items = l.items ++ s.json ∷ [];
    found = Found-more (value (depth - 1)) 93 old.cursor l.items here.cursor mid.cursor after.cursor s.json goes l.found s.spelled comma less;
    gives = each-push one [] l.items s.json n0 ∙ rw (l.gives, s.meant, counts) refl;
    less = omega (arith, l.less, less);
  }

-- a list that is read to its end
pub record Ended {X : Type 0} (one : Reader X) (depth : ℕ) (old : Direct) (n0 : Counts) (xs : List X) (new : Direct) : Type 0 where
  pub json : Json
  pub items : List Json
  pub elements : as_items json ≡ Some items
  pub not_null : is_null json ≡ false
  pub spelled : value depth old.cursor ≡ Ok (json, new.cursor)
  pub gives : each one [] items n0 ≡ Ok (xs, new.counts)

module _ {X : Type 0} (one : Reader X) (depth : ℕ) (old : Direct) (n0 : Counts) where
  pub Listed-end : (opened now : Direct) (begun : Bool) (xs : List X) → Opens 91 93 depth old begun opened → Listed one depth old n0 xs false now → Ended one depth old n0 xs now
  Listed-end opened now begun xs opens l =
      let json : Json = record { at = old.cursor.at; kind = kinds.List l.items } in
      record {
        json = json;
        items = l.items;
        elements = as_items-List json l.items refl;
        not_null = is_null-List json l.items refl;
        spelled = value-list depth old.cursor opens.first opens.deep
            ∙ ap (make old.cursor kinds.List) (Found-all (value (depth - 1)) 93 old.cursor l.items now.cursor l.found);
        gives = l.gives;
      }

-- A byte that stands next.

this_by : (b : ℕ) (r to : Rest) (t : Bool) → (head r == b) ≡ t → cond t (Ok (past 1 r)) (Err (BadJson r.at)) ≡ Ok to → (head r ≡ b) × (to ≡ past 1 r)
this_by b r to true is read = (grind (arith, nat_tests), cc)
this_by b r to false is read = absurd cc

-- where a byte is passed it stood there
pub this-passed : (b : ℕ) (r to : Rest) → this b r ≡ Ok to → (head r ≡ b) × (to ≡ past 1 r)
this-passed b r to read = this_by b r to (head r == b) refl read

-- a key without escapes, its colon and the blanks behind it
pub key-passed : (r closed at colon behind : Rest) (k : List ℕ) → quoted r ≡ Ok (k, closed) → at ≡ blanks closed → this 58 at ≡ Ok colon → behind ≡ blanks colon
    → key_of r ≡ Ok (k, behind)
key-passed r closed at colon behind k text moved read blank =
    let there : this 58 (blanks closed) ≡ Ok colon = ap (this 58) (sym moved) ∙ read in
    rw (text, there) (ap (λ (to : Rest). Ok (k, to)) (sym blank))
