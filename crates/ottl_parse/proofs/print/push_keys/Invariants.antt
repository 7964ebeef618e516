use Rattle.std.proofs.Common.{◌≡◌, ◌++◌, drop}
use Rattle.std.specs.Prelude.{string_bytes}
use Rattle.ottl_parse.specs.Printing.{keys_text}
use Rattle.ottl_parse.proofs.print.push_keys.Given as goal

abbrev pub invariant-loop-key : goal.invariant-loop-key
invariant-loop-key l = string_bytes l.out ++ keys_text (drop l.key-index l.keys) ≡ string_bytes l.fn.out ++ keys_text l.keys
