use Rattle.std.proofs.Common.{◌≡◌, ◌++◌, drop, map}
use Rattle.std.specs.Prelude.{codes, string_bytes}
use Rattle.ottl_parse.specs.Printing.{piece, further}
use Rattle.ottl_parse.proofs.print.push_names.Given as goal

abbrev pub invariant-loop-name : goal.invariant-loop-name
invariant-loop-name l =
    string_bytes l.out ++ further (map (piece (codes ".")) (drop l.name-index l.rest)) ≡ string_bytes l.initial.out ++ further (map (piece (codes ".")) l.rest)
