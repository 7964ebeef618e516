-- A value has no fault in its shape exactly where it has a right shape.
use Rattle.std.proofs.Common.{◌≡◌, ℕ, suc, Bool, true, false, ◌&&◌, not, cond, List, [], ◌∷◌, Option, Some, None, is_some, Result, Ok, Err, refl, sym, true≢false}
use Rattle.serde_json.specs.Data.{Data, null, boolean, number, string, array, object, Items, no_items, item, Members, no_members, member}
use Rattle.serde_json.specs.Find.{get_member}
use Rattle.conf_shape.specs.declared.kind.FaultKind.{FaultKind}
use Rattle.conf_shape.specs.declared.kind.FaultKind.TheVariants.{UnknownKey}
use Rattle.conf_shape.specs.declared.fault.PointedFault.{PointedFault}
use Rattle.conf_shape.specs.declared.table.Part.{Part}
use Rattle.conf_shape.specs.declared.table.Rule.{Rule}
use Rattle.conf_shape.specs.declared.table.Rule.TheVariants.{AnyText, FilledText, Word, Texts, Object, Objects, Components, Component}
use Rattle.conf_shape.specs.Table.{Row, rows_of}
use Rattle.conf_shape.specs.Pointer.{member_of, element_of}
use Rattle.conf_shape.specs.Fault.{first_of}
use Rattle.conf_shape.specs.Shape.{rule_in, or_fault, member_rule, element_rule, text_fault, unknown_fault, absent_fault, before_fault, count_fault, after_fault, by_rule, by_list_rule, shape_fault, elements_fault, members_fault}
use Rattle.conf_shape.specs.HasShape.{IsText, HasMusts, IsOne, IsFull, OnRule, OnListRule, HasShape, ElementsHave, MembersHave}

-- neither of two walks has a fault
record BothNone (a b : Option PointedFault) : Type 0 where
  first : a ≡ None
  later : b ≡ None

none_of : (a b : Option PointedFault) → first_of a b ≡ None → BothNone a b
none_of (Some f) b h = cc
none_of None b h = record { first = refl; later = h }

first_of-none : (a b : Option PointedFault) → a ≡ None → b ≡ None → first_of a b ≡ None
first_of-none (Some f) b h k = h
first_of-none None b h k = k

-- texts

unless_true : (b : Bool) (f : PointedFault) → cond b None (Some f) ≡ None → b ≡ true
unless_true true f h = refl
unless_true false f h = cc

IsText-from : (rule : Rule) (at text : List ℕ) → text_fault rule at text ≡ None → IsText rule text
IsText-from AnyText at text h = tt
IsText-from FilledText at [] h = cc
IsText-from FilledText at (b ∷ rest) h = λ e. cc
IsText-from (Word words) at text h = unless_true _ _ h
IsText-from Texts at text h = cc
IsText-from (Object part) at text h = cc
IsText-from (Objects part) at text h = cc
IsText-from (Components section) at text h = cc
IsText-from (Component section) at text h = cc

text_fault-none : (rule : Rule) (at text : List ℕ) → IsText rule text → text_fault rule at text ≡ None
text_fault-none AnyText at text h = refl
text_fault-none FilledText at [] h = absurd (h refl)
text_fault-none FilledText at (b ∷ rest) h = refl
text_fault-none (Word words) at text h = rw h refl
text_fault-none Texts at text h = absurd h
text_fault-none (Object part) at text h = absurd h
text_fault-none (Objects part) at text h = absurd h
text_fault-none (Components section) at text h = absurd h
text_fault-none (Component section) at text h = absurd h

-- members that must stand

absent_step : (must there : Bool) (f : PointedFault) (rest : Option PointedFault) → cond (must && not there) (Some f) rest ≡ None → (must ≡ true → there ≡ true) × (rest ≡ None)
absent_step true true f rest h = (λ e. refl, h)
absent_step true false f rest h = cc
absent_step false there f rest h = (λ e. cc, h)

HasMusts-from : (rows : List Row) (at : List ℕ) (ms : Members) → absent_fault rows at ms ≡ None → HasMusts rows ms
HasMusts-from [] at ms h = tt
HasMusts-from (row ∷ rows) at ms h =
    let step = absent_step row.must (is_some (get_member row.name ms)) _ _ h in (step.0, HasMusts-from rows at ms step.1)

present_step : (must there : Bool) (f : PointedFault) (rest : Option PointedFault) → (must ≡ true → there ≡ true) → rest ≡ None → cond (must && not there) (Some f) rest ≡ None
present_step true true f rest h k = k
present_step true false f rest h k = absurd (true≢false (sym (h refl)))
present_step false there f rest h k = k

absent_fault-none : (rows : List Row) (at : List ℕ) (ms : Members) → HasMusts rows ms → absent_fault rows at ms ≡ None
absent_fault-none [] at ms h = refl
absent_fault-none (row ∷ rows) at ms h = present_step row.must _ _ _ h.0 (absent_fault-none rows at ms h.1)

-- members that are listed

listed_step : (o : Option Rule) (kind : FaultKind) (P : Rule → Type 0) (f : PointedFault) (rest : Option PointedFault) → OnRule (or_fault o kind) P → rest ≡ None → cond (is_some o) rest (Some f) ≡ None
listed_step (Some r) kind P f rest h k = k
listed_step None kind P f rest h k = absurd h

-- before and after the members

IsOne-from : (at : List ℕ) (ms : Members) → count_fault at ms ≡ None → IsOne ms
IsOne-from at no_members h = cc
IsOne-from at (member name d no_members) h = tt
IsOne-from at (member name d (member second e ms)) h = cc

count_fault-none : (at : List ℕ) (ms : Members) → IsOne ms → count_fault at ms ≡ None
count_fault-none at no_members h = absurd h
count_fault-none at (member name d no_members) h = refl
count_fault-none at (member name d (member second e ms)) h = absurd h

IsFull-from : (rule : Rule) (at : List ℕ) (ms : Members) → before_fault rule at ms ≡ None → after_fault rule at ms ≡ None → IsFull rule ms
IsFull-from (Object part) at ms h k = HasMusts-from (rows_of part) at ms (none_of (unknown_fault (rows_of part) at ms) (absent_fault (rows_of part) at ms) h).later
IsFull-from (Components section) at ms h k = tt
IsFull-from (Component section) at ms h k = IsOne-from at ms k
IsFull-from AnyText at ms h k = cc
IsFull-from FilledText at ms h k = cc
IsFull-from (Word words) at ms h k = cc
IsFull-from Texts at ms h k = cc
IsFull-from (Objects part) at ms h k = cc

-- rules

OnRule-from : (r : Result Rule FaultKind) (at : List ℕ) (go : Rule → Option PointedFault) (P : Rule → Type 0) → ((x : Rule) → go x ≡ None → P x) → by_rule r at go ≡ None → OnRule r P
OnRule-from (Ok x) at go P back h = back x h
OnRule-from (Err kind) at go P back h = cc

by_rule-none : (r : Result Rule FaultKind) (at : List ℕ) (go : Rule → Option PointedFault) (P : Rule → Type 0) → ((x : Rule) → P x → go x ≡ None) → OnRule r P → by_rule r at go ≡ None
by_rule-none (Ok x) at go P forth h = forth x h
by_rule-none (Err kind) at go P forth h = absurd h

OnListRule-from : (r : Option Rule) (at : List ℕ) (go : Rule → Option PointedFault) (P : Rule → Type 0) → ((x : Rule) → go x ≡ None → P x) → by_list_rule r at go ≡ None → OnListRule r P
OnListRule-from (Some x) at go P back h = back x h
OnListRule-from None at go P back h = cc

by_list_rule-none : (r : Option Rule) (at : List ℕ) (go : Rule → Option PointedFault) (P : Rule → Type 0) → ((x : Rule) → P x → go x ≡ None) → OnListRule r P → by_list_rule r at go ≡ None
by_list_rule-none (Some x) at go P forth h = forth x h
by_list_rule-none None at go P forth h = absurd h

-- the law

mutual
  pub HasShape-from : (rule : Rule) (at : List ℕ) (d : Data) → shape_fault rule at d ≡ None → HasShape rule d
  HasShape-from rule at null h = cc
  HasShape-from rule at (boolean b) h = cc
  HasShape-from rule at (number n) h = cc
  HasShape-from rule at (string text) h = IsText-from rule at text h
  HasShape-from rule at (array ds) h =
      OnListRule-from (element_rule rule) at (λ r. elements_fault r at 0 ds) (λ r. ElementsHave r ds) (λ r k. ElementsHave-from r at 0 ds k) h
  HasShape-from rule at (object ms) h =
      let outer = none_of (before_fault rule at ms) (first_of (members_fault rule at ms) (after_fault rule at ms)) h in
      let inner = none_of (members_fault rule at ms) (after_fault rule at ms) outer.later in
      (IsFull-from rule at ms outer.first inner.later, MembersHave-from rule at ms inner.first)

  ElementsHave-from : (rule : Rule) (at : List ℕ) (index : ℕ) (ds : Items) → elements_fault rule at index ds ≡ None → ElementsHave rule ds
  ElementsHave-from rule at index no_items h = tt
  ElementsHave-from rule at index (item d ds) h =
      let both = none_of (shape_fault rule (element_of at index) d) (elements_fault rule at (suc index) ds) h in
      (HasShape-from rule (element_of at index) d both.first, ElementsHave-from rule at (suc index) ds both.later)

  MembersHave-from : (rule : Rule) (at : List ℕ) (ms : Members) → members_fault rule at ms ≡ None → MembersHave rule ms
  MembersHave-from rule at no_members h = tt
  MembersHave-from rule at (member name d ms) h =
      let both = none_of (by_rule (member_rule rule name) (member_of at name) (λ r. shape_fault r (member_of at name) d)) (members_fault rule at ms) h in
      (OnRule-from (member_rule rule name) (member_of at name) (λ r. shape_fault r (member_of at name) d) (λ r. HasShape r d) (λ r k. HasShape-from r (member_of at name) d k) both.first, MembersHave-from rule at ms both.later)

unknown_fault-none : (part : Part) (at : List ℕ) (ms : Members) → MembersHave (Object part) ms → unknown_fault (rows_of part) at ms ≡ None
unknown_fault-none part at no_members h = refl
unknown_fault-none part at (member name d ms) h =
    listed_step (rule_in (rows_of part) name) UnknownKey (λ r. HasShape r d) _ _ h.0 (unknown_fault-none part at ms h.1)

before_fault-none : (rule : Rule) (at : List ℕ) (ms : Members) → IsFull rule ms → MembersHave rule ms → before_fault rule at ms ≡ None
before_fault-none (Object part) at ms h k = first_of-none _ _ (unknown_fault-none part at ms k) (absent_fault-none (rows_of part) at ms h)
before_fault-none (Components section) at ms h k = refl
before_fault-none (Component section) at ms h k = refl
before_fault-none AnyText at ms h k = absurd h
before_fault-none FilledText at ms h k = absurd h
before_fault-none (Word words) at ms h k = absurd h
before_fault-none Texts at ms h k = absurd h
before_fault-none (Objects part) at ms h k = absurd h

after_fault-none : (rule : Rule) (at : List ℕ) (ms : Members) → IsFull rule ms → after_fault rule at ms ≡ None
after_fault-none (Component section) at ms h = count_fault-none at ms h
after_fault-none (Object part) at ms h = refl
after_fault-none (Components section) at ms h = refl
after_fault-none AnyText at ms h = refl
after_fault-none FilledText at ms h = refl
after_fault-none (Word words) at ms h = refl
after_fault-none Texts at ms h = refl
after_fault-none (Objects part) at ms h = refl

mutual
  pub shape_fault-none : (rule : Rule) (at : List ℕ) (d : Data) → HasShape rule d → shape_fault rule at d ≡ None
  shape_fault-none rule at null h = absurd h
  shape_fault-none rule at (boolean b) h = absurd h
  shape_fault-none rule at (number n) h = absurd h
  shape_fault-none rule at (string text) h = text_fault-none rule at text h
  shape_fault-none rule at (array ds) h =
      by_list_rule-none (element_rule rule) at (λ r. elements_fault r at 0 ds) (λ r. ElementsHave r ds) (λ r k. elements_fault-none r at 0 ds k) h
  shape_fault-none rule at (object ms) h =
      first_of-none _ _ (before_fault-none rule at ms h.0 h.1) (first_of-none _ _ (members_fault-none rule at ms h.1) (after_fault-none rule at ms h.0))

  elements_fault-none : (rule : Rule) (at : List ℕ) (index : ℕ) (ds : Items) → ElementsHave rule ds → elements_fault rule at index ds ≡ None
  elements_fault-none rule at index no_items h = refl
  elements_fault-none rule at index (item d ds) h =
      first_of-none _ _ (shape_fault-none rule (element_of at index) d h.0) (elements_fault-none rule at (suc index) ds h.1)

  members_fault-none : (rule : Rule) (at : List ℕ) (ms : Members) → MembersHave rule ms → members_fault rule at ms ≡ None
  members_fault-none rule at no_members h = refl
  members_fault-none rule at (member name d ms) h =
      first_of-none _ _ (by_rule-none (member_rule rule name) (member_of at name) (λ r. shape_fault r (member_of at name) d) (λ r. HasShape r d) (λ r k. shape_fault-none r (member_of at name) d k) h.0)
      (members_fault-none rule at ms h.1)
