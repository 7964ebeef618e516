use Rattle.std.proofs.Common.{◌==◌, ◌++◌, ◌∙◌, List, ℕ, sym, ap}
use Rattle.std.specs.Fmt.{decimal}
use Rattle.otlp_json.specs.Line.{number_json}
use Rattle.otlp_json.proofs.Words.{text_of-number, Adds-present, nonzero}
use Rattle.otlp_json.proofs.writing.members.push_u32_member.Goals as goal

pub returns : goal.returns
returns c =
    Adds-present (c.args.n == 0) c.args.key.now (number_json (decimal c.args.n)) c.args.some c.args.out.now.items _ _ (nonzero c.args.n c.if-n-eq0.false) c.in_ok-push_key.ensures
    (c.in_ok-extend_from_slice.ensures.items ∙ ap (λ (t : List ℕ). c.push_key.new.out.items ++ t) (c.as_bytes.ensures.value ∙ c.format.ensures.text ∙ sym (text_of-number (decimal c.args.n))))
