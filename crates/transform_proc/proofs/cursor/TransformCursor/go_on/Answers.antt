use Rattle.std.proofs.Common.{◌∙◌, Some, ap, sym, refl, arith}
use Rattle.conf_json.specs.declared.account.StepEnd.TheVariants as end
use Rattle.proc_targets.specs.Stepping.{came}
use Rattle.transform_proc.proofs.Moving.{same_progress, statements_go_on}
use Rattle.transform_proc.specs.Progress.{Progress, run_of}
use Rattle.transform_proc.proofs.cursor.TransformCursor.go_on.Goals as goal

pub returns-then-running-len-clause-value : goal.returns-then-running-len-clause-value
returns-then-running-len-clause-value c tree account place listed stands =
    let p = c.args.self.now in
    let inside = c.self.inside in
    let q : Progress = record {
      group = inside.group;
      target = inside.target;
      running = Some c.args.running;
      listed = inside.listed;
      steps = inside.steps;
      ended = inside.ended;
      over = inside.over;
    } in
    statements_go_on c.args.settings.now tree account p c.args.group.now c.requires.at place stands c.args.running
    (omega (arith, c.if-running-len.true, c.len.ensures))
    ∙ ap (λ (r : Progress). came end.More (run_of c.args.settings.now tree r account))
    (same_progress (record p { running = Some c.args.running }) q
    (sym (ap (λ (x : Progress). x.group) c.self.view_is))
    (sym (ap (λ (x : Progress). x.target) c.self.view_is))
    refl
    (sym (ap (λ (x : Progress). x.listed) c.self.view_is))
    (sym (ap (λ (x : Progress). x.steps) c.self.view_is))
    (sym (ap (λ (x : Progress). x.ended) c.self.view_is))
    (sym (ap (λ (x : Progress). x.over) c.self.view_is)))
