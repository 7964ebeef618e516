use Rattle.std.proofs.Common.{◌∙◌, codes, refl, sym, ap}
use Rattle.base64.specs.Engines.{standard}
use Rattle.base64.specs.GeneralPurpose as base64
use Rattle.json_text.specs.Writing.{quoted_text}
use Rattle.otlp_json.specs.Line.{text_json}
use Rattle.otlp_json.proofs.Words.{text_of-text, one-pushed}
use Rattle.otlp_json.proofs.writing.values.push_bytes_value.Goals as goal

pub returns : goal.returns
returns c =
    one-pushed (codes "bytesValue") (codes "{\"bytesValue\":") (text_json (base64.encode_of standard c.args.bytes.now)) c.args.out.now.items (quoted_text c.as_str.result.now) _ _ _ refl
    (ap quoted_text (c.as_str.ensures.value ∙ c.in_ok-text.ensures.text) ∙ sym (text_of-text (base64.encode_of standard c.args.bytes.now)))
    c.in_ok-extend_from_slice.ensures.items c.in_ok-push_text.ensures c.in_ok-push.ensures.items
