use Rattle.std.proofs.Common.{◌≡◌, ◌++◌, length}
use Rattle.json_text.specs.Writing.{bytes_text}
use Rattle.json_text.proofs.writer.push_bytes.Given as goal

abbrev pub invariant-runs : goal.invariant-runs
invariant-runs l = l.out.items ++ bytes_text l.rest ≡ l.fn.out.items ++ bytes_text l.bytes

abbrev pub decreases-runs : goal.decreases-runs
decreases-runs l = length l.rest
