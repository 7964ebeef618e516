use Rattle.std.proofs.Common.{map}
use Rattle.json_text.specs.Writing.{text_of}
use Rattle.json_text.proofs.Written.{pair_text, ListedSoFar}
use Rattle.json_text.proofs.writer.+write.Given as goal

abbrev pub invariant-loop-index : goal.invariant-loop-index
invariant-loop-index l = ListedSoFar l.initial.out.items (map text_of l.item-items) l.index l.out.items

abbrev pub invariant-loop-index-2 : goal.invariant-loop-index-2
invariant-loop-index-2 l = ListedSoFar l.initial.out.items (map pair_text l.member-items) l.index l.out.items
