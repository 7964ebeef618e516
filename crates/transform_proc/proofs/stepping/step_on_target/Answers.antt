use Rattle.std.proofs.Common.{◌≡◌, ◌∙◌, ℕ, Bool, drop, None, Some, ap, subst, sym}
use Rattle.pdata_tree.specs.Operations.{log_trees}
use Rattle.pdata_tree.specs.declared.batch.Batch.{Batch}
use Rattle.proc_targets.specs.Judging.{no_pairs}
use Rattle.share_cow.specs.Scene.{tree_of}
use Rattle.transform_proc.proofs.Leaving.{leaves_beside, run_begun}
use Rattle.transform_proc.proofs.Moving.{same_progress}
use Rattle.transform_proc.specs.Progress.{Leaves, Progress, begins_with, first_running, here, run_of, work_at}
use Rattle.transform_proc.specs.Steps.{State, Work, first_work, running, target_step}
use Rattle.transform_proc.specs.declared.cursor.Running.{Running}
use Rattle.transform_proc.proofs.stepping.step_on_target.Goals as goal

pub returns-then-runs_at_once : goal.returns-then-runs_at_once
returns-then-runs_at_once c =
    let settings = c.args.site.now.settings.now in
    let root = c.args.site.now.root.now in
    let mode = settings.error_mode in
    let forest = c.args.forest.now in
    let tree = tree_of forest root in
    let p = c.args.cursor.now in
    let t = c.args.target.now in
    let g = t.turn.group.now in
    let book = c.args.book.now in
    let inside = c.cursor.inside in
    let r = c.begin-running.result in
    let was : Progress = record {
      group = inside.group;
      target = inside.target;
      running = c.take.new.self;
      listed = inside.listed;
      steps = inside.steps;
      ended = inside.ended;
      over = inside.over;
    } in
    let at_first : Progress = record p { running = Some first_running } in
    let none_there : inside.running ≡ None = cc (c.in_default.is, c.in_default.ensures.value, c.take.ensures.value) in
    let none : p.running ≡ None = sym (ap (λ (y : Progress). y.running) c.cursor.view_is) ∙ none_there in
    let first : first_work g ≡ running 0 g.statements no_pairs = c.runs_at_once.ensures ∙ ap (λ (b : Bool). begins_with b g) c.if-runs_at_once.true in
    let is = same_progress (record was { running = Some r }) at_first (ap (λ (y : Progress). y.group) c.cursor.view_is)
    (ap (λ (y : Progress). y.target) c.cursor.view_is) (ap (λ (y : Running). Some y) c.begin-running.ensures)
    (ap (λ (y : Progress). y.listed) c.cursor.view_is) (ap (λ (y : Progress). y.steps) c.cursor.view_is)
    (ap (λ (y : Progress). y.ended) c.cursor.view_is) (ap (λ (y : Progress). y.over) c.cursor.view_is) in
    let begun = run_begun settings tree p g c.requires.at.group book none first in
    let left : Running → Work = λ y. running y.index (drop y.index g.statements) y.cache in
    let meant =
    ap (λ (y : Progress). target_step log_trees mode (run_of settings tree y book) (here settings tree y g t.place) (left r)) is
    ∙ ap (λ (s : State Batch). target_step log_trees mode s (here settings tree p g t.place) (left r)) begun
    ∙ ap (λ (w : Work). target_step log_trees mode (run_of settings tree p book) (here settings tree p g t.place) w)
    (ap left c.begin-running.ensures ∙ sym first ∙ sym (ap (work_at g) none)) in
    leaves_beside settings root
    (target_step log_trees mode (run_of settings tree p book) (here settings tree p g t.place) (work_at g p.running))
    (target_step log_trees mode (run_of settings tree (record was { running = Some r }) book) (here settings tree was g t.place) (left r))
    (run_of settings tree p book) (run_of settings tree (record was { running = Some r }) book) p.steps p was c.run_next-then-runs_at_once.new.cursor forest
    c.run_next-then-runs_at_once.new.forest c.run_next-then-runs_at_once.new.book c.run_next-then-runs_at_once.result meant
    (ap (λ (y : Progress). run_of settings tree y book) is ∙ begun) (ap (λ (y : Progress). y.over) c.cursor.view_is)
    (subst (λ (n : ℕ). Leaves settings root
    (target_step log_trees mode (run_of settings tree (record was { running = Some r }) book) (here settings tree was g t.place) (left r))
    (run_of settings tree (record was { running = Some r }) book) n was c.run_next-then-runs_at_once.new.cursor forest
    c.run_next-then-runs_at_once.new.forest c.run_next-then-runs_at_once.new.book c.run_next-then-runs_at_once.result)
    (ap (λ (y : Progress). y.steps) c.cursor.view_is) c.run_next-then-runs_at_once.ensures)
