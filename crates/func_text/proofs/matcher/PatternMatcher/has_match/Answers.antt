use Rattle.std.proofs.Common.{is_some, ap, ◌∙◌, arith}
use Rattle.regex.specs.Patterns.{Re, find_str}
use Rattle.func_text.specs.Patterns.{has_match}
use Rattle.func_text.proofs.Bridge.{has_match_as_read}
use Rattle.func_text.proofs.matcher.PatternMatcher.has_match.Goals as goal

pub returns-clause-found : goal.returns-clause-found
returns-clause-found c =
    c.is_match.ensures.found
    ∙ (ap (λ (re : Re). is_some (find_str re c.args.text.now 0)) c.self.invariant.pattern
    ∙ (has_match_as_read c.self.inside.regex.now c.self.invariant.read c.self.invariant.config c.args.text.now (λ k. omega (arith, c.type_inv.text k))
    ∙ ap (λ source. has_match source c.args.text.now) c.self.view_is))
