use Rattle.std.proofs.Common.{◌≡◌, ◌∙◌, suc, Some, ap, subst, sym, refl}
use Rattle.conf_json.specs.declared.account.StepEnd.{StepEnd}
use Rattle.conf_json.specs.declared.account.StepEnd.TheVariants as end
use Rattle.proc_targets.specs.Stepping.{steps_after}
use Rattle.filter_proc.specs.Progress.{Leaves, Progress}
use Rattle.filter_proc.proofs.Leaving.{behind, counts, leaves_step, same_progress}
use Rattle.filter_proc.proofs.stepping.step.Goals.{in-NoMemory, in_default-matches}
use Rattle.filter_proc.proofs.stepping.step.Goals as goal

pub returns-then-not-matches-clause-leaves : goal.returns-then-not-matches-clause-leaves
returns-then-not-matches-clause-leaves c =
    let settings = c.args.site.now.settings.now in
    let root = c.args.site.now.root.now in
    let old = c.args.forest.now in
    let new = c.step_on_records-end.new.forest in
    let p = c.args.cursor.now in
    let j = c.in-Ok-take_judged.judged in
    let k = c.step_on_records-end.new.judged in
    let before = c.args.book.now in
    let after = c.step_on_records-end.new.book in
    let result = c.step_on_records-end.result in
    let q : Progress = record { judged = Some k; steps = c.in-Ok.counted; over = c.cursor-2.inside.over } in
    let leaves = leaves_step settings root p j k old new before after c.in-Ok-take_judged.ensures.same c.in-Ok-take_judged.ensures.places result c.step_on_records-end.ensures in
    let over = sym (ap (λ (y : Progress). y.over) c.cursor-2.view_is ∙ ap (λ (y : Progress). y.over) c.in-Ok-take_judged.ensures.rest) in
    let counted : c.in-Ok.counted ≡ suc p.steps = c.in-Ok.ensures ∙ ap (λ (y : Progress). suc y.steps) c.cursor.view_is in
    let more : steps_after result p.steps ≡ c.in-Ok.counted =
    elim c.match-matches.branch [
      | in-NoMemory w ↦ absurd (cc (w.matches-is, c.if-not-matches.true))
      | in_default-matches w ↦ counts result p.steps w.in_default-matches.not-NoMemory ∙ sym counted
    ] in
    subst (λ (y : Progress). Leaves settings root p y old new before after result)
    (same_progress (behind settings root p j k old new before after c.in-Ok-take_judged.ensures.same c.in-Ok-take_judged.ensures.places result) q refl more over) leaves

pub returns-else-not-matches-clause-leaves : goal.returns-else-not-matches-clause-leaves
returns-else-not-matches-clause-leaves c =
    let settings = c.args.site.now.settings.now in
    let root = c.args.site.now.root.now in
    let old = c.args.forest.now in
    let new = c.step_on_records-end.new.forest in
    let p = c.args.cursor.now in
    let j = c.in-Ok-take_judged.judged in
    let k = c.step_on_records-end.new.judged in
    let before = c.args.book.now in
    let after = c.step_on_records-end.new.book in
    let result = c.step_on_records-end.result in
    let q : Progress = record { judged = Some k; steps = c.cursor-2.inside.steps; over = c.cursor-2.inside.over } in
    let leaves = leaves_step settings root p j k old new before after c.in-Ok-take_judged.ensures.same c.in-Ok-take_judged.ensures.places result c.step_on_records-end.ensures in
    let rest = c.cursor-2.view_is ∙ c.in-Ok-take_judged.ensures.rest in
    let wanting : result ≡ end.NoMemory =
    elim c.match-matches.branch [
      | in-NoMemory w ↦ w.in-NoMemory.is
      | in_default-matches w ↦ absurd (cc (w.matches-is, c.if-not-matches.false))
    ] in
    let steps = ap (λ (r : StepEnd). steps_after r p.steps) wanting ∙ sym (ap (λ (y : Progress). y.steps) rest) in
    subst (λ (y : Progress). Leaves settings root p y old new before after result)
    (same_progress (behind settings root p j k old new before after c.in-Ok-take_judged.ensures.same c.in-Ok-take_judged.ensures.places result) q refl steps
    (sym (ap (λ (y : Progress). y.over) rest))) leaves
