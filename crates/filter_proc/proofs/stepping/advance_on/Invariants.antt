use Rattle.std.proofs.Common.{◌≡◌, ◌≤◌, ◌-◌, ◌^◌}
use Rattle.proc_targets.specs.Stepping.{On}
use Rattle.share_cow.specs.Scene.{tree_of}
use Rattle.filter_proc.specs.Progress.{Fits, run_of, run_steps}
use Rattle.filter_proc.proofs.stepping.advance_on.Given as goal

-- the steps that were done came to the run as it stands, and left the forest as it was
abbrev pub invariant-steps : goal.invariant-steps
invariant-steps l =
    let settings = l.site.settings.now in
    let root = l.site.root.now in
    record {
      steps :
          run_steps settings (l.cursor.steps - l.initial.cursor.steps)
          (run_of (tree_of l.initial.forest root) l.initial.cursor l.initial.book)
          ≡ On (run_of (tree_of l.forest root) l.cursor l.book);
      counted : l.initial.cursor.steps ≤ l.cursor.steps;
      fits : Fits (tree_of l.forest root) l.cursor;
      over : l.cursor.over ≡ l.initial.cursor.over;
      same : l.forest ≡ l.initial.forest;
    }

abbrev pub decreases-steps : goal.decreases-steps
decreases-steps l = 2 ^ 64 - l.cursor.steps
