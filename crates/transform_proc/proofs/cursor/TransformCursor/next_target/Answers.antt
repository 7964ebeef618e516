use Rattle.std.proofs.Common.{◌≡◌, ◌∙◌, ◌+◌, None, length, ap, sym, refl, arith}
use Rattle.std.proofs.lemmas.Option.{slice_get_within}
use Rattle.pdata_tree.specs.Places.{targets}
use Rattle.transform_proc.proofs.Moving.{behind_target, of_listed, one_ended, same_progress, target_last, target_left}
use Rattle.transform_proc.specs.Progress.{Progress}
use Rattle.transform_proc.proofs.cursor.TransformCursor.next_target.Goals as goal

pub returns-then-next-count-clause-value : goal.returns-then-next-count-clause-value
returns-then-next-count-clause-value c tree account listed =
    let p = c.args.self.now in
    let inside = c.self.inside in
    let places = targets tree c.args.group.now.context in
    let q : Progress = record {
      group = inside.group;
      target = c.saturating_add-next.result;
      running = None;
      listed = inside.listed;
      steps = inside.steps;
      ended = inside.ended + 1;
      over = inside.over;
    } in
    let count = of_listed inside.listed places (λ ps. c.count.result ≡ length ps) (ap (λ (x : Progress). x.listed) c.self.view_is ∙ listed) c.count.ensures in
    let target = ap (λ (x : Progress). x.target) c.self.view_is in
    target_left c.args.settings.now tree account p c.args.group.now c.requires.at q
    (omega (arith, c.if-next-count.true, c.saturating_add-next.ensures, c.count.type_inv, count, target))
    (same_progress (behind_target c.args.settings.now tree account p c.args.group.now c.requires.at) q
    (sym (ap (λ (x : Progress). x.group) c.self.view_is))
    (omega (arith, c.if-next-count.true, c.saturating_add-next.ensures, c.count.type_inv, target))
    refl
    (sym (ap (λ (x : Progress). x.listed) c.self.view_is))
    (sym (ap (λ (x : Progress). x.steps) c.self.view_is))
    (omega (arith, ap (λ (x : Progress). x.ended) c.self.view_is))
    (sym (ap (λ (x : Progress). x.over) c.self.view_is)))

pub next_group-requires : goal.next_group-requires
next_group-requires c =
    omega (
      arith,
      ap (λ (x : Progress). x.group) c.self.view_is,
      slice_get_within c.args.settings.now.log_statements c.args.self.now.group c.args.group.now c.requires.at,
    )

pub returns-clause-value : goal.returns-clause-value
returns-clause-value c tree account listed =
    let p = c.args.self.now in
    let inside = c.self.inside in
    let places = targets tree c.args.group.now.context in
    let q : Progress = record {
      group = inside.group;
      target = inside.target;
      running = inside.running;
      listed = inside.listed;
      steps = inside.steps;
      ended = inside.ended + 1;
      over = inside.over;
    } in
    let count = of_listed inside.listed places (λ ps. c.count.result ≡ length ps) (ap (λ (x : Progress). x.listed) c.self.view_is ∙ listed) c.count.ensures in
    target_last c.args.settings.now tree account p c.args.group.now c.requires.at q
    (omega (arith, c.if-next-count.false, c.saturating_add-next.ensures, count, ap (λ (x : Progress). x.target) c.self.view_is))
    (same_progress (one_ended c.args.settings.now tree account p c.args.group.now c.requires.at) q
    (sym (ap (λ (x : Progress). x.group) c.self.view_is))
    (sym (ap (λ (x : Progress). x.target) c.self.view_is))
    (sym (ap (λ (x : Progress). x.running) c.self.view_is))
    (sym (ap (λ (x : Progress). x.listed) c.self.view_is))
    (sym (ap (λ (x : Progress). x.steps) c.self.view_is))
    (omega (arith, ap (λ (x : Progress). x.ended) c.self.view_is))
    (sym (ap (λ (x : Progress). x.over) c.self.view_is)))
    ∙ c.next_group.ensures.value tree account
