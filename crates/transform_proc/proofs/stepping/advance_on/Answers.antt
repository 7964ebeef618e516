use Rattle.std.proofs.Common.{◌∙◌, ◌-◌, ℕ, suc, drop, ap, arith, subst, sym}
use Rattle.conf_json.specs.declared.account.StepEnd.{StepEnd}
use Rattle.pdata_tree.specs.Operations.{log_trees}
use Rattle.proc_targets.specs.Stepping.{Came, came, steps_after}
use Rattle.share_cow.specs.Keeping.{keeps_on}
use Rattle.share_cow.specs.Scene.{tree_of}
use Rattle.transform_proc.proofs.Going.{goes_from, one_more_came, stands_on, steps_since}
use Rattle.transform_proc.proofs.Moving.{drop_within}
use Rattle.transform_proc.specs.Progress.{Progress, run_of, run_steps}
use Rattle.transform_proc.specs.Steps.{transform_step}
use Rattle.transform_proc.proofs.stepping.advance_on.Goals.{in-More, in_default}
use Rattle.transform_proc.proofs.stepping.advance_on.Goals as goal

pub returns-then-not-matches-clause-steps : goal.returns-then-not-matches-clause-steps
returns-then-not-matches-clause-steps c =
    let settings = c.args.site.now.settings.now in
    let root = c.args.site.now.root.now in
    let mode = settings.error_mode in
    let first = run_of settings (tree_of c.args.forest.now root) c.args.cursor.now c.args.book.now in
    let p = c.loop-cursor.cursor in
    let s = run_of settings (tree_of c.loop-cursor.forest root) p c.loop-cursor.book in
    let t = run_of settings (tree_of c.step-end.new.forest root) c.step-end.new.cursor c.step-end.new.book in
    let n = p.steps - c.args.cursor.now.steps in
    let there = drop_within settings.log_statements p.group
    (omega (arith, c.loop-cursor-test.true, c.len.ensures, ap (λ (y : Progress). y.group) c.cursor.view_is)) in
    let at = c.loop-cursor.invariant.steps ∙ stands_on s there.0 (drop (suc p.group) settings.log_statements) there.1 in
    let came_to = one_more_came mode n first s t c.step-end.result at c.step-end.ensures.step in
    let counted = ap (λ (k : ℕ). k - c.args.cursor.now.steps) c.step-end.ensures.counted
    ∙ steps_since c.step-end.result p.steps c.args.cursor.now.steps c.loop-cursor.invariant.counted in
    let so_far = ap (λ (k : ℕ). run_steps mode k first) counted ∙ came_to in
    so_far

pub loop-cursor-preserved : goal.loop-cursor-preserved
loop-cursor-preserved c =
    let settings = c.args.site.now.settings.now in
    let root = c.args.site.now.root.now in
    let mode = settings.error_mode in
    let first = run_of settings (tree_of c.args.forest.now root) c.args.cursor.now c.args.book.now in
    let p = c.loop-cursor.cursor in
    let s = run_of settings (tree_of c.loop-cursor.forest root) p c.loop-cursor.book in
    let t = run_of settings (tree_of c.step-end.new.forest root) c.step-end.new.cursor c.step-end.new.book in
    let n = p.steps - c.args.cursor.now.steps in
    let there = drop_within settings.log_statements p.group
    (omega (arith, c.loop-cursor-test.true, c.len.ensures, ap (λ (y : Progress). y.group) c.cursor.view_is)) in
    let at = c.loop-cursor.invariant.steps ∙ stands_on s there.0 (drop (suc p.group) settings.log_statements) there.1 in
    let came_to = one_more_came mode n first s t c.step-end.result at c.step-end.ensures.step in
    let counted = ap (λ (k : ℕ). k - c.args.cursor.now.steps) c.step-end.ensures.counted
    ∙ steps_since c.step-end.result p.steps c.args.cursor.now.steps c.loop-cursor.invariant.counted in
    let so_far = ap (λ (k : ℕ). run_steps mode k first) counted ∙ came_to in
    elim c.match-matches.branch [
      | in-More w ↦
          let is = w.in-More.is in
          let step = subst (λ (r : StepEnd). Came (transform_step log_trees mode s) s t r) is c.step-end.ensures.step in
          record {
            steps = so_far ∙ ap (λ (r : StepEnd). came r t) is ∙ sym (goes_from mode s t step);
            counted =
                omega (
                  arith,
                  c.loop-cursor.invariant.counted,
                  c.step-end.ensures.counted,
                  ap (λ (r : StepEnd). steps_after r p.steps) is,
                );
            fits = c.step-end.ensures.fits;
            over = c.step-end.ensures.over ∙ c.loop-cursor.invariant.over;
            keeps =
                keeps_on root c.args.forest.now c.loop-cursor.forest c.step-end.new.forest c.loop-cursor.invariant.keeps
                c.step-end.ensures.keeps;
          }
      | in_default w ↦ absurd (cc (w.matches-is, c.if-not-matches.false))
    ]
