use Rattle.json_text.proofs.Turns.{WordSoFar}
use Rattle.json_text.proofs.reader.literal.Given as goal

abbrev pub invariant-loop-byte : goal.invariant-loop-byte
invariant-loop-byte l = WordSoFar l.word l.fn.cursor l.byte-index l.cursor
