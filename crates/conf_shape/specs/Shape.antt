-- The first fault in the shape of a configuration.
use Rattle.std.specs.Prelude.{ℕ, suc, ◌&&◌, not, List, [], ◌∷◌, Option, Some, None, is_some, Result, Ok, Err, if◌then◌else◌, codes}
use Rattle.std.specs.List.{list_any}
use Rattle.std.specs.Str.{bytes_eq}
use Rattle.serde_json.specs.Data.{Data, null, boolean, number, string, array, object, Items, no_items, item, Members, no_members, member}
use Rattle.serde_json.specs.Find.{get_member}
use Rattle.conf_shape.specs.declared.kind.FaultKind.{FaultKind}
use Rattle.conf_shape.specs.declared.kind.FaultKind.TheVariants.{WrongKind, UnknownKey, MissingKey, BadName, UnknownComponent, BadMode}
use Rattle.conf_shape.specs.declared.fault.PointedFault.{PointedFault}
use Rattle.conf_shape.specs.declared.table.Rule.{Rule}
use Rattle.conf_shape.specs.declared.table.Rule.TheVariants.{AnyText, FilledText, Word, Texts, Object, Objects, Components, Component}
use Rattle.conf_shape.specs.Table.{Row, rows_of, Kind, kinds_of, words_of}
use Rattle.conf_shape.specs.ComponentName.{type_of}
use Rattle.conf_shape.specs.Pointer.{member_of, element_of}
use Rattle.conf_shape.specs.Fault.{fault, first_of}

-- the rule of the member with that name; None where it isn't listed
abbrev pub rule_in : List Row → List ℕ → Option Rule
rule_in [] name = None
rule_in (row ∷ rows) name = if bytes_eq row.name name then Some row.rule else rule_in rows name

-- what stands under a component of that type; None where the section has no such type
abbrev pub kind_in : List Kind → List ℕ → Option Rule
kind_in [] name = None
kind_in (k ∷ kinds) name =
    if bytes_eq k.type_name name then Some (Object k.part) else kind_in kinds name

-- the rule, or a fault of that kind where there is none
abbrev pub or_fault : Option Rule → FaultKind → Result Rule FaultKind
or_fault (Some rule) kind = Ok rule
or_fault None kind = Err kind

-- what stands under a component; BadName for a name of another form, UnknownComponent for
-- another type
abbrev pub of_type : List Kind → Option (List ℕ) → Result Rule FaultKind
of_type kinds None = Err BadName
of_type kinds (Some type_name) = or_fault (kind_in kinds type_name) UnknownComponent

-- what stands under a member with that name
abbrev pub member_rule : Rule → List ℕ → Result Rule FaultKind
member_rule (Object part) name = or_fault (rule_in (rows_of part) name) UnknownKey
member_rule (Components section) name = of_type (kinds_of section) (type_of name)
member_rule (Component section) name = of_type (kinds_of section) (type_of name)
member_rule _ name = Err WrongKind

-- what stands at each element of a list; None where no list may stand
abbrev pub element_rule : Rule → Option Rule
element_rule Texts = Some AnyText
element_rule (Objects part) = Some (Object part)
element_rule _ = None

-- WrongKind where no text may stand, or no empty one; BadMode where it isn't one of the set
abbrev pub text_fault : Rule → List ℕ → List ℕ → Option PointedFault
text_fault AnyText at text = None
text_fault FilledText at [] = Some (fault WrongKind at)
text_fault FilledText at (b ∷ rest) = None
text_fault (Word words) at text =
    if list_any (bytes_eq text) (words_of words) then None else Some (fault BadMode at)
text_fault _ at text = Some (fault WrongKind at)

-- UnknownKey at the least member that isn't listed
abbrev pub unknown_fault : List Row → List ℕ → Members → Option PointedFault
unknown_fault rows at no_members = None
unknown_fault rows at (member name d ms) =
    if is_some (rule_in rows name) then unknown_fault rows at ms
    else Some (fault UnknownKey (member_of at name))

-- MissingKey at the first member of the table that must stand and doesn't
abbrev pub absent_fault : List Row → List ℕ → Members → Option PointedFault
absent_fault [] at ms = None
absent_fault (row ∷ rows) at ms =
    if row.must && not (is_some (get_member row.name ms))
    then Some (fault MissingKey (member_of at row.name)) else absent_fault rows at ms

-- what is told of an object before its members
abbrev pub before_fault : Rule → List ℕ → Members → Option PointedFault
before_fault (Object part) at ms =
    first_of (unknown_fault (rows_of part) at ms) (absent_fault (rows_of part) at ms)
before_fault (Components section) at ms = None
before_fault (Component section) at ms = None
before_fault _ at ms = Some (fault WrongKind at)

-- MissingKey where there is no component, UnknownKey at a second one
abbrev pub count_fault : List ℕ → Members → Option PointedFault
count_fault at no_members = Some (fault MissingKey (member_of at (codes "otlpjsonfile")))
count_fault at (member name d no_members) = None
count_fault at (member name d (member second e ms)) =
    Some (fault UnknownKey (member_of at second))

-- what is told of it after them
abbrev pub after_fault : Rule → List ℕ → Members → Option PointedFault
after_fault (Component section) at ms = count_fault at ms
after_fault _ at ms = None

-- the first fault under a rule, or that of its absence
abbrev pub by_rule : {R : Type 0} → Result R FaultKind → List ℕ → (R → Option PointedFault)
    → Option PointedFault
by_rule (Ok rule) at go = go rule
by_rule (Err kind) at go = Some (fault kind at)

-- the same where only lists have a rule
abbrev pub by_list_rule : Option Rule → List ℕ → (Rule → Option PointedFault) → Option PointedFault
by_list_rule (Some rule) at go = go rule
by_list_rule None at go = Some (fault WrongKind at)

abbrev mutual
  -- the first fault of what stands at the pointer
  pub shape_fault : Rule → List ℕ → Data → Option PointedFault
  shape_fault rule at null = Some (fault WrongKind at)
  shape_fault rule at (boolean b) = Some (fault WrongKind at)
  shape_fault rule at (number n) = Some (fault WrongKind at)
  shape_fault rule at (string text) = text_fault rule at text
  shape_fault rule at (array ds) =
      by_list_rule (element_rule rule) at (λ r. elements_fault r at 0 ds)
  shape_fault rule at (object ms) =
      first_of (before_fault rule at ms)
      (first_of (members_fault rule at ms) (after_fault rule at ms))

  -- of a list's elements from that index on
  pub elements_fault : Rule → List ℕ → ℕ → Items → Option PointedFault
  elements_fault rule at index no_items = None
  elements_fault rule at index (item d ds) =
      first_of (shape_fault rule (element_of at index) d) (elements_fault rule at (suc index) ds)

  -- of an object's members, in the order of their keys
  pub members_fault : Rule → List ℕ → Members → Option PointedFault
  members_fault rule at no_members = None
  members_fault rule at (member name d ms) =
      first_of
      (by_rule (member_rule rule name) (member_of at name)
      (λ r. shape_fault r (member_of at name) d))
      (members_fault rule at ms)
