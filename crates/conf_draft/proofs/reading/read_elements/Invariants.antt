use Rattle.std.proofs.Common.{◌≡◌, ◌++◌, drop}
use Rattle.serde_json.specs.View.{items_view}
use Rattle.conf_draft.specs.Draft.{each}
use Rattle.conf_draft.proofs.reading.read_elements.Given as goal

-- what was read, then the elements left, is the whole
abbrev pub invariant-loop-element : goal.invariant-loop-element
invariant-loop-element g l =
    l.list ++ each g.T.Element.of (items_view (drop l.element-index l.element-items)) ≡ each g.T.Element.of (items_view l.elements.items)
