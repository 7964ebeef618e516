use Rattle.std.proofs.Common.{◌≡◌, ◌++◌, ℕ, drop}
use Rattle.regex.specs.Names.{names_of}
use Rattle.regex.specs.Replace.{bytes_of}
use Rattle.regex.specs.Strings.{captures_span, captures_haystack}
use Rattle.func_text.specs.Patterns.{named_from}
use Rattle.pdata_value.specs.Value.{pairs}
use Rattle.func_text.proofs.groups.named_groups_of.Given as goal

abbrev pub invariant-names : goal.invariant-names
invariant-names l =
    let bytes = λ (n : ℕ). bytes_of (captures_haystack l.captures) (captures_span l.captures n) in
    pairs l.groups ++ named_from bytes l.index (drop l.index (names_of l.names)) ≡ named_from bytes 0 (names_of l.names)
