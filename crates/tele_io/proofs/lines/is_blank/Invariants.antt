use Rattle.std.proofs.Common.{◌≡◌, drop}
use Rattle.contract_words.specs.InputLines.{is_blank_line}
use Rattle.tele_io.proofs.lines.is_blank.Given as goal

abbrev pub invariant-loop-b : goal.invariant-loop-b
invariant-loop-b l = is_blank_line (drop l.b-index l.line) ≡ is_blank_line l.line
