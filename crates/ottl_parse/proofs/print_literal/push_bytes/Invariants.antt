use Rattle.std.proofs.Common.{◌≡◌, ◌++◌, drop}
use Rattle.std.specs.Prelude.{string_bytes}
use Rattle.ottl_parse.specs.Printing.{hex_digits}
use Rattle.ottl_parse.proofs.print_literal.push_bytes.Given as goal

abbrev pub invariant-loop-byte : goal.invariant-loop-byte
invariant-loop-byte l = string_bytes l.out ++ hex_digits (drop l.byte-index l.bytes) ≡ string_bytes l.fn.out ++ hex_digits l.bytes
