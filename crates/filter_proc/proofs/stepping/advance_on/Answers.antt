use Rattle.std.proofs.Common.{◌∙◌, ◌-◌, ℕ, ap, arith, subst}
use Rattle.conf_json.specs.declared.account.StepEnd.{StepEnd}
use Rattle.proc_targets.specs.Stepping.{came, steps_after}
use Rattle.share_cow.specs.Scene.{tree_of}
use Rattle.share_cow.specs.Store.{Store}
use Rattle.filter_proc.proofs.Going.{one_more_came, steps_since}
use Rattle.filter_proc.specs.Progress.{FitsBehind, KeepsBehind, run_of, run_steps}
use Rattle.filter_proc.proofs.stepping.advance_on.Goals.{in-More, in_default}
use Rattle.filter_proc.proofs.stepping.advance_on.Goals as goal

pub returns-then-not-matches-clause-steps : goal.returns-then-not-matches-clause-steps
returns-then-not-matches-clause-steps c =
    let settings = c.args.site.now.settings.now in
    let root = c.args.site.now.root.now in
    let first = run_of (tree_of c.args.forest.now root) c.args.cursor.now c.args.book.now in
    let p = c.steps.cursor in
    let s = run_of (tree_of c.steps.forest root) p c.steps.book in
    let t = run_of (tree_of c.step-end.new.forest root) c.step-end.new.cursor c.step-end.new.book in
    let n = p.steps - c.args.cursor.now.steps in
    let came_to = one_more_came settings n first s t c.step-end.result c.steps.invariant.steps c.step-end.ensures.leaves.step in
    let counted = ap (λ (k : ℕ). k - c.args.cursor.now.steps) c.step-end.ensures.leaves.counted
    ∙ steps_since c.step-end.result p.steps c.args.cursor.now.steps c.steps.invariant.counted in
    ap (λ (k : ℕ). run_steps settings k first) counted ∙ came_to

pub returns-then-not-matches-clause-keeps : goal.returns-then-not-matches-clause-keeps
returns-then-not-matches-clause-keeps c =
    subst (λ (f : Store). KeepsBehind c.step-end.result c.args.site.now.root.now f c.step-end.new.forest) c.steps.invariant.same c.step-end.ensures.leaves.keeps

pub steps-preserved : goal.steps-preserved
steps-preserved c =
    let settings = c.args.site.now.settings.now in
    let root = c.args.site.now.root.now in
    let first = run_of (tree_of c.args.forest.now root) c.args.cursor.now c.args.book.now in
    let p = c.steps.cursor in
    let s = run_of (tree_of c.steps.forest root) p c.steps.book in
    let t = run_of (tree_of c.step-end.new.forest root) c.step-end.new.cursor c.step-end.new.book in
    let n = p.steps - c.args.cursor.now.steps in
    let came_to = one_more_came settings n first s t c.step-end.result c.steps.invariant.steps c.step-end.ensures.leaves.step in
    let counted = ap (λ (k : ℕ). k - c.args.cursor.now.steps) c.step-end.ensures.leaves.counted
    ∙ steps_since c.step-end.result p.steps c.args.cursor.now.steps c.steps.invariant.counted in
    let so_far = ap (λ (k : ℕ). run_steps settings k first) counted ∙ came_to in
    elim c.match-matches.branch [
      | in-More w ↦
          let is = w.in-More.is in
          record {
            steps = so_far ∙ ap (λ (r : StepEnd). came r t) is;
            counted =
                omega (
                  arith,
                  c.steps.invariant.counted,
                  c.step-end.ensures.leaves.counted,
                  ap (λ (r : StepEnd). steps_after r p.steps) is,
                );
            fits = subst (λ (r : StepEnd). FitsBehind r (tree_of c.step-end.new.forest root) c.step-end.new.cursor) is c.step-end.ensures.leaves.fits;
            over = c.step-end.ensures.leaves.over ∙ c.steps.invariant.over;
            same = subst (λ (r : StepEnd). KeepsBehind r root c.steps.forest c.step-end.new.forest) is c.step-end.ensures.leaves.keeps ∙ c.steps.invariant.same;
          }
      | in_default w ↦ absurd (cc (w.matches-is, c.if-not-matches.false))
    ]
