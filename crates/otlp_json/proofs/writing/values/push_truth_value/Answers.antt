use Rattle.std.proofs.Common.{codes, refl, sym}
use Rattle.json_text.specs.Writing.{truth_text}
use Rattle.otlp_json.specs.Line.{truth_json}
use Rattle.otlp_json.proofs.Words.{text_of-truth, one-pushed}
use Rattle.otlp_json.proofs.writing.values.push_truth_value.Goals as goal

pub returns : goal.returns
returns c =
    one-pushed (codes "boolValue") (codes "{\"boolValue\":") (truth_json c.args.truth) c.args.out.now.items (truth_text c.args.truth) _ _ _ refl
    (sym (text_of-truth c.args.truth)) c.in_ok-extend_from_slice.ensures.items c.in_ok-push_truth.ensures c.in_ok-push.ensures.items
