use Rattle.std.proofs.Common.{◌≡◌, drop}
use Rattle.serde_json.specs.View.{items_view, members_view}
use Rattle.conf_shape.specs.Path.{pointer_of}
use Rattle.conf_shape.specs.Shape.{elements_fault, members_fault}
use Rattle.conf_shape.proofs.shape.+walk.Given as goal

-- the elements left answer as all of them do
abbrev pub invariant-check_elements-loop-index : goal.invariant-check_elements-loop-index
invariant-check_elements-loop-index l =
    elements_fault l.rule (pointer_of l.path) l.index (items_view (drop l.index l.elements.items))
    ≡ elements_fault l.rule (pointer_of l.path) 0 (items_view l.elements.items)

-- the members left answer as all of them do
abbrev pub invariant-check_members-loop-name : goal.invariant-check_members-loop-name
invariant-check_members-loop-name l =
    members_fault l.rule (pointer_of l.path) (members_view l.name-iterator)
    ≡ members_fault l.rule (pointer_of l.path) (members_view l.members.entries)
