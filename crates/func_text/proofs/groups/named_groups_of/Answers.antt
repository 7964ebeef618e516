use Rattle.std.proofs.Common.{ℕ, option_map, string_bytes}
use Rattle.regex.specs.Replace.{bytes_of}
use Rattle.regex.specs.Strings.{captures_span, captures_haystack}
use Rattle.func_text.proofs.Bridge.{named_step}
use Rattle.func_text.proofs.groups.named_groups_of.Goals as goal

pub names-preserved : goal.names-preserved
names-preserved c =
    named_step (option_map string_bytes) (λ (n : ℕ). bytes_of (captures_haystack c.args.captures.now) (captures_span c.args.captures.now n))
    c.args.names.now c.names.index c.index-names-index.result _ _ _ c.names-test.true c.index-names-index.is c.in_ok-push_named.ensures c.names.invariant
