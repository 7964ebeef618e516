use Rattle.std.proofs.Common.{◌++◌, ◌==◌, length, ◌∙◌, List, ℕ, sym, ap}
use Rattle.json_text.specs.Writing.{quoted_text}
use Rattle.otlp_json.specs.Line.{text_json, is_empty}
use Rattle.otlp_json.proofs.Words.{text_of-text, Adds-present, some_text}
use Rattle.otlp_json.proofs.writing.members.push_text_member.Goals as goal

pub returns : goal.returns
returns c =
    Adds-present (is_empty c.args.text.now) c.args.key.now (text_json c.args.text.now) c.args.some c.args.out.now.items _ _ (some_text c.args.text.now (ap (λ (t : List ℕ). length t == 0) (sym c.as_str-text.ensures.value) ∙ sym c.if-is_empty.ensures)) c.in_ok-push_key.ensures
    (c.in_ok-push_text.ensures ∙ ap (λ (t : List ℕ). c.push_key.new.out.items ++ t) (ap quoted_text c.as_str-text.ensures.value ∙ sym (text_of-text c.args.text.now)))
