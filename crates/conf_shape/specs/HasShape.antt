-- Which values have a right shape, in whatever order one looks.
use Rattle.std.specs.Prelude.{◌≡◌, ◌≢◌, ℕ, true, List, [], ◌∷◌, Option, Some, None, IsSome, Result, Ok, Err, ⊤}
use Rattle.std.specs.List.{list_any}
use Rattle.std.specs.Str.{bytes_eq}
use Rattle.serde_json.specs.Data.{Data, null, boolean, number, string, array, object, Items, no_items, item, Members, no_members, member}
use Rattle.serde_json.specs.Find.{get_member}
use Rattle.conf_shape.specs.declared.kind.FaultKind.{FaultKind}
use Rattle.conf_shape.specs.declared.table.Rule.{Rule}
use Rattle.conf_shape.specs.declared.table.Rule.TheVariants.{AnyText, FilledText, Word, Object, Components, Component}
use Rattle.conf_shape.specs.Table.{Row, rows_of, words_of}
use Rattle.conf_shape.specs.Shape.{member_rule, element_rule}

-- the text may stand there
abbrev pub IsText : Rule → List ℕ → Type 0
IsText AnyText text = ⊤
IsText FilledText text = text ≢ []
IsText (Word words) text = list_any (bytes_eq text) (words_of words) ≡ true
IsText _ text = ⊥

-- each member that must stand does
abbrev pub HasMusts : List Row → Members → Type 0
HasMusts [] ms = ⊤
HasMusts (row ∷ rows) ms = (row.must ≡ true → IsSome (get_member row.name ms)) × HasMusts rows ms

-- there is one member
abbrev pub IsOne : Members → Type 0
IsOne no_members = ⊥
IsOne (member name d no_members) = ⊤
IsOne (member name d (member second e ms)) = ⊥

-- the object has as many members as it must
abbrev pub IsFull : Rule → Members → Type 0
IsFull (Object part) ms = HasMusts (rows_of part) ms
IsFull (Components section) ms = ⊤
IsFull (Component section) ms = IsOne ms
IsFull _ ms = ⊥

-- there is a rule, and it holds
abbrev pub OnRule : Result Rule FaultKind → (Rule → Type 0) → Type 0
OnRule (Ok rule) Holds = Holds rule
OnRule (Err kind) Holds = ⊥

-- only lists have a rule there, and it holds
abbrev pub OnListRule : Option Rule → (Rule → Type 0) → Type 0
OnListRule (Some rule) Holds = Holds rule
OnListRule None Holds = ⊥

abbrev mutual
  -- what stands there has the shape
  pub HasShape : Rule → Data → Type 0
  HasShape rule null = ⊥
  HasShape rule (boolean b) = ⊥
  HasShape rule (number n) = ⊥
  HasShape rule (string text) = IsText rule text
  HasShape rule (array ds) = OnListRule (element_rule rule) (λ r. ElementsHave r ds)
  HasShape rule (object ms) = IsFull rule ms × MembersHave rule ms

  -- each element has the shape
  pub ElementsHave : Rule → Items → Type 0
  ElementsHave rule no_items = ⊤
  ElementsHave rule (item d ds) = HasShape rule d × ElementsHave rule ds

  -- each member is listed, and has its own shape
  pub MembersHave : Rule → Members → Type 0
  MembersHave rule no_members = ⊤
  MembersHave rule (member name d ms) =
      OnRule (member_rule rule name) (λ r. HasShape r d) × MembersHave rule ms
