use Rattle.std.proofs.Common.{◌≡◌, false, drop}
use Rattle.func_time.specs.Formats.{is_format_from}
use Rattle.func_time.proofs.printing.is_time_format.Given as goal

abbrev pub invariant-loop-byte : goal.invariant-loop-byte
invariant-loop-byte l = is_format_from l.after (drop l.byte-index l.bytes) ≡ is_format_from false l.fn.format
