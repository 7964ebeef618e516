use Rattle.std.proofs.Common.{◌≡◌, ◌∙◌, codes, refl, sym, ap, to_z-of_z, SFits, w64, to_z, of_z}
use Rattle.std.specs.Fmt.{signed_decimal}
use Rattle.json_text.specs.Writing.{quoted_text}
use Rattle.otlp_json.specs.Line.{text_json}
use Rattle.otlp_json.proofs.Words.{text_of-text, one-pushed}
use Rattle.otlp_json.proofs.writing.values.push_int_value.Goals as goal

pub returns : goal.returns
returns c =
    let fits : SFits w64 c.args.int = c.ranges.int in
    let same : to_z w64 (of_z w64 c.args.int) ≡ c.args.int = to_z-of_z fits in
    one-pushed (codes "intValue") (codes "{\"intValue\":") (text_json (signed_decimal c.args.int)) c.args.out.now.items (quoted_text c.format.result.now) _ _ _ refl
    (ap quoted_text (c.format.ensures.text ∙ ap signed_decimal same) ∙ sym (text_of-text (signed_decimal c.args.int)))
    c.in_ok-extend_from_slice.ensures.items c.in_ok-push_text.ensures c.in_ok-push.ensures.items
