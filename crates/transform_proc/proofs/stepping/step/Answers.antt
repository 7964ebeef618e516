use Rattle.std.proofs.Common.{subst, sym}
use Rattle.share_cow.specs.Scene.{tree_of}
use Rattle.transform_proc.specs.Progress.{Fits, Progress}
use Rattle.transform_proc.proofs.stepping.step.Goals as goal

pub step_in_group-end-requires-clause-fits : goal.step_in_group-end-requires-clause-fits
step_in_group-end-requires-clause-fits c =
    subst (λ (y : Progress). Fits c.args.site.now.settings.now (tree_of c.args.forest.now c.args.site.now.root.now) y) (sym c.cursor.view_is) c.requires.fits
