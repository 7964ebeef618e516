use denote.Shadow.{shadow}
use denote.Text.{Utf8}
use Rattle.std.proofs.Common.{◌≡◌, ◌++◌, length}
use Rattle.std.specs.Prelude.{string_bytes}
use Rattle.ottl_parse.specs.Printing.{contents_text}
use Rattle.ottl_parse.proofs.print_literal.push_contents.Given as goal

abbrev pub invariant-runs : goal.invariant-runs
invariant-runs l = shadow (Utf8 l.rest) × (string_bytes l.out ++ contents_text l.rest ≡ string_bytes l.fn.out ++ contents_text l.text)

abbrev pub decreases-runs : goal.decreases-runs
decreases-runs l = length l.rest
