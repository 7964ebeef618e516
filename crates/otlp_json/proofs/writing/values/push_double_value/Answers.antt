use Rattle.std.proofs.Common.{codes, refl, ap}
use Rattle.json_text.specs.Writing.{text_of}
use Rattle.otlp_json.specs.Line.{double_json}
use Rattle.otlp_json.proofs.Words.{one-pushed}
use Rattle.otlp_json.proofs.writing.values.push_double_value.Goals as goal

pub returns : goal.returns
returns c =
    one-pushed (codes "doubleValue") (codes "{\"doubleValue\":") (double_json c.args.spelling.now) c.args.out.now.items (text_of (double_json c.as_str.result.now)) _ _ _ refl
    (ap (λ s. text_of (double_json s)) c.as_str.ensures.value) c.in_ok-extend_from_slice.ensures.items c.in_ok-push_spelling.ensures c.in_ok-push.ensures.items
