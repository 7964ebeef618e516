use Rattle.std.proofs.Common.{ap}
use Rattle.json_text.specs.Place.{Rest}
use Rattle.json_text.proofs.Scans.{cut_after_first}
use Rattle.json_text.proofs.cursor.Cursor.step.Goals as goal

pub range_from-self-inside-requires : goal.range_from-self-inside-requires
range_from-self-inside-requires c =
    λ some. cut_after_first c.self.inside.rest.now c.args.self.now (ap (λ (r : Rest). r.left) c.self.view_is) c.self.ranges.1.0.1 c.requires.some c.requires.ascii
