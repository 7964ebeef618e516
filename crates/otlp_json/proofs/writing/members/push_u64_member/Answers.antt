use Rattle.std.proofs.Common.{◌==◌, ◌++◌, ◌∙◌, List, ℕ, sym, ap}
use Rattle.std.specs.Fmt.{decimal}
use Rattle.json_text.specs.Writing.{quoted_text}
use Rattle.otlp_json.specs.Line.{text_json}
use Rattle.otlp_json.proofs.Words.{text_of-text, Adds-present, nonzero}
use Rattle.otlp_json.proofs.writing.members.push_u64_member.Goals as goal

pub returns : goal.returns
returns c =
    Adds-present (c.args.n == 0) c.args.key.now (text_json (decimal c.args.n)) c.args.some c.args.out.now.items _ _ (nonzero c.args.n c.if-n-eq0.false) c.in_ok-push_key.ensures
    (c.in_ok-push_text.ensures ∙ ap (λ (t : List ℕ). c.push_key.new.out.items ++ t) (ap quoted_text c.format.ensures.text ∙ sym (text_of-text (decimal c.args.n))))
