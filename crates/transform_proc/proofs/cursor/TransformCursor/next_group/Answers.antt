use Rattle.std.proofs.Common.{◌+◌, suc, ap, sym, refl, None, arith}
use Rattle.conf_json.specs.declared.account.StepEnd.TheVariants as end
use Rattle.transform_proc.proofs.Moving.{behind_group, ends_past, ends_within, group_ended, same_progress}
use Rattle.transform_proc.specs.Progress.{Progress}
use Rattle.transform_proc.proofs.cursor.TransformCursor.next_group.Goals as goal

pub returns-then-self-count-clause-value : goal.returns-then-self-count-clause-value
returns-then-self-count-clause-value c tree account =
    let p = c.args.self.now in
    let inside = c.self.inside in
    let q : Progress = record {
      group = inside.group + 1;
      target = 0;
      running = None;
      listed = None;
      steps = inside.steps;
      ended = inside.ended;
      over = inside.over;
    } in
    let is = same_progress (behind_group p) q (omega (arith, ap (λ (x : Progress). x.group) c.self.view_is)) refl refl refl
    (sym (ap (λ (x : Progress). x.steps) c.self.view_is)) (sym (ap (λ (x : Progress). x.ended) c.self.view_is))
    (sym (ap (λ (x : Progress). x.over) c.self.view_is)) in
    group_ended c.args.settings.now tree account p q end.More
    (ends_within c.args.settings.now.log_statements (suc p.group)
    (omega (arith, c.if-self-count.true, c.len-count.ensures, ap (λ (x : Progress). x.group) c.self.view_is))) is

pub returns-clause-value : goal.returns-clause-value
returns-clause-value c tree account =
    let p = c.args.self.now in
    let inside = c.self.inside in
    let q : Progress = record {
      group = inside.group + 1;
      target = 0;
      running = None;
      listed = None;
      steps = inside.steps;
      ended = inside.ended;
      over = inside.over;
    } in
    let is = same_progress (behind_group p) q (omega (arith, ap (λ (x : Progress). x.group) c.self.view_is)) refl refl refl
    (sym (ap (λ (x : Progress). x.steps) c.self.view_is)) (sym (ap (λ (x : Progress). x.ended) c.self.view_is))
    (sym (ap (λ (x : Progress). x.over) c.self.view_is)) in
    group_ended c.args.settings.now tree account p q end.Finished
    (ends_past c.args.settings.now.log_statements (suc p.group)
    (omega (arith, c.if-self-count.false, c.len-count.ensures, ap (λ (x : Progress). x.group) c.self.view_is))) is
