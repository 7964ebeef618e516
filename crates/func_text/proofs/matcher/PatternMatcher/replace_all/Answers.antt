use Rattle.std.proofs.Common.{ap, ap₂, ◌∙◌, arith, string_bytes}
use Rattle.regex.proofs.ReplaceLemmas.{IfOk-weaker}
use Rattle.regex.specs.Patterns.{Re, find_all_str}
use Rattle.regex.specs.Replace.{replaced_by}
use Rattle.regex.specs.Strings.{IsWrittenBy}
use Rattle.regex_syntax.specs.Grammar.{Names}
use Rattle.func_text.specs.Patterns.{replaced, written_at}
use Rattle.func_text.proofs.Bridge.{replaced_as_read}
use Rattle.func_text.proofs.matcher.PatternMatcher.replace_all.Goals as goal

pub returns-clause-replaced : goal.returns-clause-replaced
returns-clause-replaced c =
    let text = c.args.text.now in
    let template = c.args.template.now in
    IfOk-weaker (λ out. IsWrittenBy c.in_ok-template.template _ _ (string_bytes out)) _
    (λ out written.
    written.read _ _ c.in_ok-template.ensures.read
    ∙ (ap₂ (λ (names : Names) (re : Re). replaced_by (written_at names template text) text 0 (find_all_str re text)) c.capture_names.ensures c.self.invariant.pattern
    ∙ (replaced_as_read c.self.inside.regex.now c.self.invariant.read c.self.invariant.config text (λ k. omega (arith, c.type_inv.text k)) template
    ∙ ap (λ source. replaced source template text) c.self.view_is)))
    _ c.replace_all.ensures.written
