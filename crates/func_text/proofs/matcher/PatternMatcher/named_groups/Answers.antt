use Rattle.std.proofs.Common.{◌≡◌, Some, ap, sym, ◌∙◌, arith}
use Rattle.regex.proofs.ReplaceLemmas.{IfOk-weaker}
use Rattle.regex.specs.Names.{names_of}
use Rattle.regex.specs.Patterns.{Re, find_str}
use Rattle.regex.specs.Replace.{bytes_of}
use Rattle.regex.specs.Strings.{captures_span, captures_haystack, regex_names}
use Rattle.regex_syntax.specs.Grammar.{Names}
use Rattle.func_text.specs.Patterns.{named_groups, named_from, groups_at}
use Rattle.pdata_value.specs.Value.{pairs}
use Rattle.func_text.proofs.Bridge.{named_by_captures, groups_as_read}
use Rattle.func_text.proofs.matcher.PatternMatcher.named_groups.Goals as goal
use Rattle.func_text.proofs.matcher.PatternMatcher.named_groups.Goals.{in-Some, in-None}

pub returns-clause-groups : goal.returns-clause-groups
returns-clause-groups c =
    let text = c.args.text.now in
    let r = c.self.inside.regex.now in
    let read = groups_as_read r c.self.invariant.read c.self.invariant.config text (λ k. omega (arith, c.type_inv.text k)) in
    let seen = ap (λ source. named_groups source text) c.self.view_is in
    let whole = ap (λ (re : Re). find_str re text 0) c.self.invariant.pattern in
    elim c.match-captures.branch [
      | in-Some w ↦
          let found = w.in-Some.ensures.found in
          rw w.result-is (IfOk-weaker (λ groups. pairs groups ≡ named_from (λ n. bytes_of (captures_haystack w.in-Some.captures) (captures_span w.in-Some.captures n)) 0 (names_of w.capture_names.result.now)) _
          (λ groups e.
          e ∙ (named_by_captures w.in-Some.captures (names_of w.capture_names.result.now) text found.0 found.2
          ∙ (ap (λ (names : Names). groups_at names text (Some found.0)) w.capture_names.ensures
          ∙ (ap (groups_at (regex_names r) text) (sym found.1 ∙ whole) ∙ (read ∙ seen)))))
          _ w.named_groups_of.ensures)
      | in-None w ↦
          rw w.result-is (w.new.ensures
          ∙ (ap (groups_at (regex_names r) text) (sym w.in-None.ensures.found ∙ whole) ∙ (read ∙ seen)))
    ]
