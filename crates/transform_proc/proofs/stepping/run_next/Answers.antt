use Rattle.std.proofs.Common.{◌≡◌, ◌∙◌, ◌+◌, ◌≤◌, List, drop, length, Some, ap, arith, refl, subst, sym}
use Rattle.std.specs.Prelude.{slice_get}
use Rattle.std.proofs.lemmas.Option.{slice_get_read}
use Rattle.conf_json.specs.Account.{Account}
use Rattle.conf_json.specs.declared.account.StepEnd.{StepEnd}
use Rattle.ottl_eval.specs.Stages.{Stage}
use Rattle.ottl_plan.specs.declared.planned.PlannedStatement.{PlannedStatement}
use Rattle.pdata_tree.specs.Operations.{log_trees}
use Rattle.pdata_tree.specs.declared.batch.Batch.{Batch}
use Rattle.proc_targets.proofs.Inside.{target_inside}
use Rattle.proc_targets.specs.Ends.{end_at}
use Rattle.share_cow.specs.Keeping.{keeps_refl}
use Rattle.share_cow.specs.Scene.{tree_of}
use Rattle.transform_proc.proofs.Leaving.{at_fits, at_on, at_statement, leaves_moved, leaves_stopped, none_left, same_running, statement_step, stops_run, went_on}
use Rattle.transform_proc.proofs.Moving.{drop_past, same_progress}
use Rattle.transform_proc.specs.Progress.{Fits, Leaves, Progress, here, run_of}
use Rattle.transform_proc.specs.Steps.{running, target_step}
use Rattle.transform_proc.specs.declared.cursor.Running.{Running}
use Rattle.transform_proc.proofs.stepping.run_next.Goals as goal

pub returns-in_default : goal.returns-in_default
returns-in_default c =
    let settings = c.args.site.now.settings.now in
    let root = c.args.site.now.root.now in
    let forest = c.args.forest.now in
    let tree = tree_of forest root in
    let p = c.args.cursor.now in
    let t = c.args.target.now in
    let r = c.args.running in
    let book = c.args.book.now in
    let before = run_of settings tree (record p { running = Some r }) book in
    let statements = t.turn.group.now.statements in
    let past : length statements ≤ r.index = omega (arith, c.in_default.ensures.lookup.3, ap length c.as_slice.ensures) in
    leaves_moved settings root
    (target_step log_trees settings.error_mode before (here settings tree p t.turn.group.now t.place) (running r.index (drop r.index statements) r.cache)) before
    p c.next_target.new.self forest forest book c.next_target.result c.next_target.ensures.moved
    (none_left settings tree p t c.requires.at r book (drop_past statements r.index past) ∙ c.next_target.ensures.value tree book c.requires.at.listed)
    c.next_target.ensures.beside (c.next_target.ensures.fits tree (at_fits settings tree p t c.requires.at)) (keeps_refl root forest)

pub run_here-requires-clause-inside : goal.run_here-requires-clause-inside
run_here-requires-clause-inside c =
    target_inside (tree_of c.args.forest.now c.args.site.now.root.now) c.args.target.now.turn.group.now.context c.args.cursor.now.target c.args.target.now.place
    c.requires.at.place

pub returns-in-Ok : goal.returns-in-Ok
returns-in-Ok c =
    let settings = c.args.site.now.settings.now in
    let root = c.args.site.now.root.now in
    let forest = c.args.forest.now in
    let tree = tree_of forest root in
    let other = tree_of c.run_here.new.forest root in
    let p = c.args.cursor.now in
    let t = c.args.target.now in
    let r = c.args.running in
    let x = c.in-Some.statement.now in
    let book = c.args.book.now in
    let now = c.run_here.new.book in
    let statements = t.turn.group.now.statements in
    let next : slice_get statements r.index ≡ Some x =
    subst (λ (xs : List PlannedStatement). slice_get xs r.index ≡ Some x) c.as_slice.ensures
    (slice_get_read c.as_slice.result.now (length c.as_slice.result.now) r.index x refl c.in-Some.ensures.lookup.3.0 c.in-Some.ensures.lookup.1) in
    let went = c.in-Ok.ensures.value in
    let cache = c.run_here.new.running.cache in
    let at = at_on settings tree p t c.requires.at r x next book other cache now went in
    leaves_moved settings root (statement_step settings tree p t c.requires.at r x next book) (at_statement settings tree p t c.requires.at r x next book)
    p c.go_on.new.self forest c.run_here.new.forest now c.go_on.result c.go_on.ensures.moved
    (went_on settings tree p t c.requires.at r x next book other cache now went (c.run_here.new.running.index + 1) (omega (arith, c.in-Ok.ensures.index))
    ∙ c.go_on.ensures.value other now t.place at.listed at.place)
    c.go_on.ensures.beside (c.go_on.ensures.fits other (at_fits settings other p t at)) c.in-Ok.ensures.keeps

pub returns-in-Err : goal.returns-in-Err
returns-in-Err c =
    let settings = c.args.site.now.settings.now in
    let root = c.args.site.now.root.now in
    let forest = c.args.forest.now in
    let tree = tree_of forest root in
    let other = tree_of c.run_here.new.forest root in
    let p = c.args.cursor.now in
    let t = c.args.target.now in
    let r = c.args.running in
    let x = c.in-Some.statement.now in
    let book = c.args.book.now in
    let now = c.run_here.new.book in
    let statements = t.turn.group.now.statements in
    let inside = c.cursor.inside in
    let next : slice_get statements r.index ≡ Some x =
    subst (λ (xs : List PlannedStatement). slice_get xs r.index ≡ Some x) c.as_slice.ensures
    (slice_get_read c.as_slice.result.now (length c.as_slice.result.now) r.index x refl c.in-Some.ensures.lookup.3.0 c.in-Some.ensures.lookup.1) in
    let stop = c.in-Err.stop in
    let q : Progress = record p { running = Some r } in
    let left : Progress = record {
      group = inside.group;
      target = inside.target;
      running = Some c.run_here.new.running;
      listed = inside.listed;
      steps = inside.steps;
      ended = inside.ended;
      over = inside.over;
    } in
    let back = c.in-Err.ensures.back in
    let same_tree : other ≡ tree = ap (λ (u : Stage Batch). u.tree) back in
    let same_cache = ap (λ (u : Stage Batch). u.cache) back in
    let is = same_progress q left (sym (ap (λ (y : Progress). y.group) c.cursor.view_is)) (sym (ap (λ (y : Progress). y.target) c.cursor.view_is))
    (ap (λ (y : Running). Some y) (sym (same_running c.run_here.new.running r c.in-Err.ensures.index same_cache)))
    (sym (ap (λ (y : Progress). y.listed) c.cursor.view_is)) (sym (ap (λ (y : Progress). y.steps) c.cursor.view_is))
    (sym (ap (λ (y : Progress). y.ended) c.cursor.view_is)) (sym (ap (λ (y : Progress). y.over) c.cursor.view_is)) in
    let meant = statement_step settings tree p t c.requires.at r x next book in
    let before = at_statement settings tree p t c.requires.at r x next book in
    subst (λ (e : StepEnd). Leaves settings root meant before p.steps p left forest c.run_here.new.forest now e) (sym c.end_of.ensures)
    (subst (λ (y : Progress). Leaves settings root meant before p.steps p y forest c.run_here.new.forest now (end_at stop)) is
    (leaves_stopped settings root meant before p q forest c.run_here.new.forest now stop t.turn.mode
    (stops_run settings tree p t c.requires.at r x next book stop c.in-Err.ensures.value)
    (ap (λ (b : Batch). run_of settings b q now) same_tree ∙ ap (λ (a : Account). run_of settings tree q a) c.in-Err.ensures.book) refl refl
    (subst (λ (b : Batch). Fits settings b q) (sym same_tree) (at_fits settings tree p t c.requires.at)) c.in-Err.ensures.keeps c.requires.at.mode
    c.in-Err.ensures.failed))
