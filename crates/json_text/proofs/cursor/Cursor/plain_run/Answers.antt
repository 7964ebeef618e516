use Rattle.std.proofs.Common.{◌∙◌, ap, sym}
use Rattle.json_text.specs.Place.{Rest}
use Rattle.json_text.proofs.Scans.{cut_before, plain_ascii}
use Rattle.json_text.proofs.cursor.Cursor.plain_run.Goals as goal

pub range-run-requires-clause-end_boundary : goal.range-run-requires-clause-end_boundary
range-run-requires-clause-end_boundary c =
    cut_before _ plain_ascii _ _ (sym c.as_bytes.ensures.value) _ c.plain_len-count.ensures.value c.plain_len-count.ensures.within

pub pass-requires : goal.pass-requires
pass-requires c =
    cut_before _ plain_ascii _ _ (ap (λ (r : Rest). r.left) (sym c.self.view_is) ∙ sym c.as_bytes.ensures.value) _
    c.plain_len-count.ensures.value c.plain_len-count.ensures.within
