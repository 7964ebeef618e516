use Rattle.std.proofs.Common.{◌≡◌, false, drop}
use Rattle.func_time.specs.Formats.{has_from}
use Rattle.func_time.proofs.reading.has.Given as goal

abbrev pub invariant-loop-byte : goal.invariant-loop-byte
invariant-loop-byte l = has_from l.after l.letter (drop l.byte-index l.format) ≡ has_from false l.letter l.format
