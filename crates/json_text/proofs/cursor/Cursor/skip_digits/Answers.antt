use Rattle.std.proofs.Common.{◌∙◌, ap, sym}
use Rattle.json_text.specs.Place.{Rest}
use Rattle.json_text.proofs.Scans.{cut_behind, digit_ascii}
use Rattle.json_text.proofs.cursor.Cursor.skip_digits.Goals as goal

pub pass-requires : goal.pass-requires
pass-requires c =
    cut_behind _ digit_ascii _ _ (ap (λ (r : Rest). r.left) (sym c.self.view_is) ∙ sym c.as_bytes.ensures.value) c.as_bytes.ensures.utf8 _
    c.digit_len-count.ensures.value c.digit_len-count.ensures.within
