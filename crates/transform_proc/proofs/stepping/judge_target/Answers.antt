use Rattle.std.proofs.Common.{◌∙◌, drop, true, false, Ok, ap, refl, subst, sym}
use Rattle.proc_targets.proofs.Inside.{target_inside}
use Rattle.proc_targets.specs.Ends.{end_at}
use Rattle.share_cow.specs.Keeping.{keeps_refl}
use Rattle.share_cow.specs.Scene.{tree_of}
use Rattle.share_cow.specs.Store.{Store}
use Rattle.conf_json.specs.Account.{Account}
use Rattle.conf_json.specs.declared.account.StepEnd.{StepEnd}
use Rattle.pdata_tree.specs.Operations.{log_trees}
use Rattle.transform_proc.proofs.Leaving.{at_fits, leaves_moved, leaves_stopped, stops_judged, was_judged}
use Rattle.transform_proc.specs.Progress.{Leaves, here, run_of}
use Rattle.transform_proc.specs.Steps.{judging, left_on, running, target_step}
use Rattle.transform_proc.specs.declared.cursor.Running.{Running}
use Rattle.transform_proc.proofs.stepping.judge_target.Goals as goal

pub is_taken-requires-clause-inside : goal.is_taken-requires-clause-inside
is_taken-requires-clause-inside c =
    target_inside (tree_of c.args.forest.now c.args.site.now.root.now) c.args.target.now.turn.group.now.context c.args.cursor.now.target c.args.target.now.place
    c.requires.at.place

pub returns-in-Ok-true : goal.returns-in-Ok-true
returns-in-Ok-true c =
    let settings = c.args.site.now.settings.now in
    let root = c.args.site.now.root.now in
    let tree = tree_of c.args.forest.now root in
    let p = c.args.cursor.now in
    let t = c.args.target.now in
    let book = c.is_taken.new.book in
    let before = run_of settings tree p c.args.book.now in
    let meant = target_step log_trees settings.error_mode before (here settings tree p t.turn.group.now t.place) judging in
    let judged = was_judged settings tree p t c.requires.at c.args.book.now (Ok (true, book))
    (c.in-Ok-true.ensures.value ∙ ap (λ b. Ok (b, book)) c.in-Ok-true.field-0-test) in
    subst (λ (f : Store). Leaves settings root meant before p.steps p c.go_on.new.self c.args.forest.now f book c.go_on.result) (sym c.is_taken.ensures.forest)
    (leaves_moved settings root meant before p c.go_on.new.self c.args.forest.now c.args.forest.now book c.go_on.result c.go_on.ensures.moved
    (judged
    ∙ ap (λ (r : Running). left_on log_trees (run_of settings tree p book) (here settings tree p t.turn.group.now t.place)
    (running r.index (drop r.index t.turn.group.now.statements) r.cache)) (sym c.begin-running.ensures)
    ∙ c.go_on.ensures.value tree book t.place c.requires.at.listed c.requires.at.place) c.go_on.ensures.beside
    (c.go_on.ensures.fits tree (at_fits settings tree p t c.requires.at)) (keeps_refl root c.args.forest.now))

pub returns-in-Ok-false : goal.returns-in-Ok-false
returns-in-Ok-false c =
    let settings = c.args.site.now.settings.now in
    let root = c.args.site.now.root.now in
    let tree = tree_of c.args.forest.now root in
    let p = c.args.cursor.now in
    let t = c.args.target.now in
    let book = c.is_taken.new.book in
    let before = run_of settings tree p c.args.book.now in
    let meant = target_step log_trees settings.error_mode before (here settings tree p t.turn.group.now t.place) judging in
    let judged = was_judged settings tree p t c.requires.at c.args.book.now (Ok (false, book))
    (c.in-Ok-false.ensures.value ∙ ap (λ b. Ok (b, book)) c.in-Ok-false.field-0-test) in
    subst (λ (f : Store). Leaves settings root meant before p.steps p c.next_target.new.self c.args.forest.now f book c.next_target.result) (sym c.is_taken.ensures.forest)
    (leaves_moved settings root meant before p c.next_target.new.self c.args.forest.now c.args.forest.now book c.next_target.result c.next_target.ensures.moved
    (judged ∙ c.next_target.ensures.value tree book c.requires.at.listed) c.next_target.ensures.beside
    (c.next_target.ensures.fits tree (at_fits settings tree p t c.requires.at)) (keeps_refl root c.args.forest.now))

pub returns-in-Err : goal.returns-in-Err
returns-in-Err c =
    let settings = c.args.site.now.settings.now in
    let root = c.args.site.now.root.now in
    let forest = c.args.forest.now in
    let tree = tree_of forest root in
    let p = c.args.cursor.now in
    let t = c.args.target.now in
    let book = c.args.book.now in
    let before = run_of settings tree p book in
    let meant = target_step log_trees settings.error_mode before (here settings tree p t.turn.group.now t.place) judging in
    subst (λ (r : StepEnd). Leaves settings root meant before p.steps p p forest c.is_taken.new.forest c.is_taken.new.book r) (sym c.end_of.ensures)
    (subst (λ (f : Store). Leaves settings root meant before p.steps p p forest f c.is_taken.new.book (end_at c.in-Err.stop)) (sym c.is_taken.ensures.forest)
    (subst (λ (b : Account). Leaves settings root meant before p.steps p p forest forest b (end_at c.in-Err.stop)) (sym c.in-Err.ensures.back)
    (leaves_stopped settings root meant before p p forest forest book c.in-Err.stop t.turn.mode
    (stops_judged settings tree p t c.requires.at book c.in-Err.stop c.in-Err.ensures.value) refl refl refl
    (at_fits settings tree p t c.requires.at) (keeps_refl root forest) c.requires.at.mode c.in-Err.ensures.failed)))
