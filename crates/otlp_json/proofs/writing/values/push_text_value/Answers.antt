use Rattle.std.proofs.Common.{codes, refl, sym}
use Rattle.json_text.specs.Writing.{quoted_text}
use Rattle.otlp_json.specs.Line.{text_json}
use Rattle.otlp_json.proofs.Words.{text_of-text, one-pushed}
use Rattle.otlp_json.proofs.writing.values.push_text_value.Goals as goal

pub returns : goal.returns
returns c =
    one-pushed (codes "stringValue") (codes "{\"stringValue\":") (text_json c.args.text.now) c.args.out.now.items (quoted_text c.args.text.now) _ _ _ refl
    (sym (text_of-text c.args.text.now)) c.in_ok-extend_from_slice.ensures.items c.in_ok-push_text.ensures c.in_ok-push.ensures.items
