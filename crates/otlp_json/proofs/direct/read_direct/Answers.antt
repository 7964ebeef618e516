use Rattle.std.proofs.Common.{◌≡◌, ◌∙◌, true, length, ap, rules}
use Rattle.std.specs.Prelude.{◌==◌}
use Rattle.json_text.specs.Place.{blanks}
use Rattle.otlp_json.proofs.ObjectsPassed.{payload-read}
use Rattle.otlp_json.proofs.direct.read_direct.Goals as goal

pub returns : goal.returns
returns c =
    let last = c.skip_blanks-2.new.self in
    let ends : (length last.left == 0) ≡ true = search rules in
    payload-read c.args.text.now _ c.batch.new.direct last c.in_ok-batch.batch (c.skip_blanks.ensures.moved ∙ ap blanks c.new.ensures) c.new-2.ensures
    c.in_ok-batch.ensures.stands c.skip_blanks-2.ensures.moved ends
