use Rattle.std.proofs.Common.{◌≡◌, ◌≤◌, ◌-◌, ◌^◌}
use Rattle.share_cow.specs.Kept.{KeepsOthers}
use Rattle.share_cow.specs.Scene.{tree_of}
use Rattle.transform_proc.proofs.Going.{stands}
use Rattle.transform_proc.specs.Progress.{Fits, run_of, run_steps}
use Rattle.transform_proc.proofs.stepping.advance_on.Given as goal

-- the steps that were done came to the run as it stands, and all other roots are kept
abbrev pub invariant-loop-cursor : goal.invariant-loop-cursor
invariant-loop-cursor l =
    let settings = l.site.settings.now in
    let root = l.site.root.now in
    record {
      steps :
          run_steps settings.error_mode (l.cursor.steps - l.initial.cursor.steps)
          (run_of settings (tree_of l.initial.forest root) l.initial.cursor l.initial.book)
          ≡ stands (run_of settings (tree_of l.forest root) l.cursor l.book);
      counted : l.initial.cursor.steps ≤ l.cursor.steps;
      fits : Fits settings (tree_of l.forest root) l.cursor;
      over : l.cursor.over ≡ l.initial.cursor.over;
      keeps : KeepsOthers root l.initial.forest l.forest;
    }

abbrev pub decreases-loop-cursor : goal.decreases-loop-cursor
decreases-loop-cursor l = 2 ^ 64 - l.cursor.steps
