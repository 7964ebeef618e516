-- A burst that stops within its part has ended as many targets as a turn may: a step ends one at most.
use Rattle.std.proofs.Common.{◌≡◌, ◌∙◌, ◌+◌, ◌<◌, ◌≤◌, ◌==◌, ◌&&◌, Bool, true, false, ℕ, zero, suc, List, [], ◌∷◌, Some, None, nat_lt, Result, Ok, Err, refl, sym, ap, subst, arith, eq-eqb}
use Rattle.std.proofs.lemmas.Bool.Decides.{nat_tests}
use Rattle.conf_draft.specs.declared.draft.ErrorMode.{ErrorMode}
use Rattle.conf_json.specs.Account.{Account}
use Rattle.conf_json.specs.declared.account.Note.{Note}
use Rattle.conf_json.specs.declared.account.Part.TheVariants.{GroupCondition, Statement}
use Rattle.conf_json.specs.declared.settings.FilterSettings.{FilterSettings}
use Rattle.conf_json.specs.declared.settings.Group.{Group}
use Rattle.conf_json.specs.declared.settings.ProcessorSettings.TheVariants.{Filter, Transform}
use Rattle.conf_json.specs.declared.settings.TransformSettings.{TransformSettings}
use Rattle.filter_proc.specs.Meaning.{dropped}
use Rattle.filter_proc.specs.Steps as filter
use Rattle.graph_build.specs.Conf.{Conf}
use Rattle.graph_build.specs.declared.leg.Leg.{Leg}
use Rattle.leg_model.proofs.Lengths.{clash, steps_go_on}
use Rattle.leg_model.proofs.Turning.{stops_behind_filter, stops_behind_transform}
use Rattle.leg_model.specs.Bursts.{IsBurst, goes_on}
use Rattle.leg_model.specs.Course.{Course, after_processor}
use Rattle.leg_model.specs.Exports.{logs}
use Rattle.leg_model.specs.Steps.{LegState, Standing, entering, ending, filter_came, filtering, grouping, leg_step, over, parts_on, routing, state_alone, transform_came, transforming}
use Rattle.ottl_eval.specs.Stages.{Stage, stage}
use Rattle.ottl_plan.specs.declared.planned.PlannedStatement.{PlannedStatement}
use Rattle.pdata_tree.specs.Operations.{TreeOps}
use Rattle.pdata_tree.specs.declared.batch.Batch.{Batch}
use Rattle.pdata_tree.specs.declared.path.PathTo.{PathTo}
use Rattle.pdata_tree.specs.declared.place.Place.{Place}
use Rattle.proc_targets.specs.Judging.{no_pairs}
use Rattle.proc_targets.specs.Stepping.{Stepped, On, End, Fail}
use Rattle.transform_proc.specs.Meaning.{spot_of, statement_run, taken}
use Rattle.transform_proc.specs.Steps as transform
use Rattle.transform_proc.specs.Steps.{Here, Work, judging, running}

-- One step.

module _ {T : Type 0} (ops : TreeOps T PathTo) where
  -- what a step came to has ended one target more, at most
  abbrev OneMore : ℕ → Stepped (transform.State T) → Type 0
  OneMore count (On run) = run.cursor.ended ≤ suc count
  OneMore count (End run) = Unit {0}
  OneMore count (Fail run note) = Unit {0}

  group-one : (run : transform.State T) (gs : List Group) (count : ℕ) → run.cursor.ended ≤ suc count
      → OneMore count (transform.next_group ops run gs)
  group-one run [] count few = tt
  group-one run (g ∷ gs) count few = few

  target-one : (run : transform.State T) (g : Group) (gs : List Group) (ps : List Place)
      → OneMore run.cursor.ended (transform.next_target ops run g gs ps)
  target-one run g gs [] = group-one (transform.ended_one run) gs run.cursor.ended (omega arith)
  target-one run g gs (p ∷ ps) = omega arith

  left-one : (run : transform.State T) (h : Here) (work : Work) → OneMore run.cursor.ended (transform.left_on ops run h work)
  left-one run h (running index [] cache) = target-one run h.group h.groups h.places
  left-one run h (running index (x ∷ xs) cache) = omega arith
  left-one run h judging = omega arith

  judged-one : (run : transform.State T) (h : Here) (r : Result (Bool × Account) Note)
      → OneMore run.cursor.ended (transform.judged ops run h r)
  judged-one run h (Ok (true, account)) = left-one (record run { account = account }) h (running 0 h.group.statements no_pairs)
  judged-one run h (Ok (false, account)) = target-one (record run { account = account }) h.group h.groups h.places
  judged-one run h (Err note) = tt

  ran-one : (run : transform.State T) (h : Here) (index : ℕ) (xs : List PlannedStatement) (r : Result (Stage T × Account) Note)
      → OneMore run.cursor.ended (transform.ran_one ops run h index xs r)
  ran-one run h index xs (Ok t) =
      left-one (record run { tree = t.0.tree; account = t.1 }) h (running index xs t.0.cache)
  ran-one run h index xs (Err note) = tt

  work-one : (mode : ErrorMode) (run : transform.State T) (h : Here) (work : Work)
      → OneMore run.cursor.ended (transform.target_step ops mode run h work)
  work-one mode run h judging =
      judged-one run h (taken ops (spot_of (transform.turn mode run.cursor h.group) GroupCondition h.place)
      h.group.conditions (stage run.tree h.group.context h.place no_pairs) run.account)
  work-one mode run h (running index [] cache) = target-one run h.group h.groups h.places
  work-one mode run h (running index (x ∷ xs) cache) =
      ran-one run h (suc index) xs
      (statement_run ops (spot_of (transform.turn mode run.cursor h.group) Statement h.place) index x
      (stage run.tree h.group.context h.place cache) run.account)

  targets-one : (mode : ErrorMode) (run : transform.State T) (g : Group) (gs : List Group) (ps : List Place)
      → OneMore run.cursor.ended (transform.targets_step ops mode run g gs ps)
  targets-one mode run g gs [] = group-one run gs run.cursor.ended (omega arith)
  targets-one mode run g gs (p ∷ ps) =
      work-one mode run (record { group = g; groups = gs; place = p; places = ps }) run.cursor.work

  groups-one : (mode : ErrorMode) (run : transform.State T) (gs : List Group)
      → OneMore run.cursor.ended (transform.groups_step ops mode run gs)
  groups-one mode run [] = tt
  groups-one mode run (g ∷ gs) = targets-one mode run g gs run.cursor.targets

  transform-one : (mode : ErrorMode) (run : transform.State T) → OneMore run.cursor.ended (transform.transform_step ops mode run)
  transform-one mode run = groups-one mode (transform.stepped_one run) run.cursor.groups

  -- the same of a filter
  abbrev OneJudged : ℕ → Stepped (filter.State T) → Type 0
  OneJudged count (On run) = run.cursor.ended ≤ suc count
  OneJudged count (End run) = Unit {0}
  OneJudged count (Fail run note) = Unit {0}

  record-one : (run : filter.State T) (ps : List Place) (r : Result (Bool × Account) Note)
      → OneJudged run.cursor.ended (filter.judged ops run ps r)
  record-one run ps (Ok t) = omega arith
  record-one run ps (Err note) = tt

  records-one : (s : FilterSettings) (run : filter.State T) (ps : List Place)
      → OneJudged run.cursor.ended (filter.targets_step ops s run ps)
  records-one s run [] = tt
  records-one s run (p ∷ ps) = record-one run ps (dropped ops s run.tree p run.account)

  filter-one : (s : FilterSettings) (run : filter.State T) → OneJudged run.cursor.ended (filter.filter_step ops s run)
  filter-one s run = records-one s (filter.stepped_one run) run.cursor.targets

-- Where a turn goes on.

first_of : (a b : Bool) → (a && b) ≡ true → a ≡ true
first_of true b is = refl
first_of false b is = absurd cc

second_of : (a b : Bool) → (a && b) ≡ true → b ≡ true
second_of true b is = is
second_of false b is = absurd cc

not_second : (a b : Bool) → a ≡ true → (a && b) ≡ false → b ≡ false
not_second true b is isnt = isnt
not_second false b is isnt = absurd cc

same_part : (a b : ℕ) → (a == b) ≡ true → b ≡ a
same_part a b is = grind (arith, nat_tests, is)

few_is : (most before now : ℕ) → nat_lt now (before + most) ≡ true → now < before + most
few_is most before now is = grind (arith, nat_tests, is)

many_is : (most before now : ℕ) → nat_lt now (before + most) ≡ false → before + most ≤ now
many_is most before now is = grind (arith, nat_tests, is)

-- A state at that part of transform, behind fewer targets than these.
record Transforms (part bound : ℕ) (state : LegState Batch) : Type 0 where
  s : TransformSettings
  run : transform.State Batch
  c : Course Batch
  at : Standing
  is : state ≡ transforming s run c at
  same : at.part ≡ part
  few : run.cursor.ended < bound

transform-goes : (most : ℕ) (s : TransformSettings) (run : transform.State Batch) (c : Course Batch) (at : Standing) (state : LegState Batch)
    → goes_on (Some most) (transforming s run c at) state ≡ true → Transforms at.part (run.cursor.ended + most) state
transform-goes most s run c at (transforming t now d here) goes = record {
  s = t;
  run = now;
  c = d;
  at = here;
  is = refl;
  same = same_part at.part here.part (first_of (at.part == here.part) (nat_lt now.cursor.ended (run.cursor.ended + most)) goes);
  few = few_is most run.cursor.ended now.cursor.ended
      (second_of (at.part == here.part) (nat_lt now.cursor.ended (run.cursor.ended + most)) goes);
}
transform-goes most s run c at (entering tree) goes = absurd cc
transform-goes most s run c at (filtering t now d here) goes = absurd cc
transform-goes most s run c at (grouping t d here) goes = absurd cc
transform-goes most s run c at (routing t d here) goes = absurd cc
transform-goes most s run c at (ending taken d) goes = absurd cc
transform-goes most s run c at (over o) goes = absurd cc

-- One that is at that part of a filter.
record Filters (part bound : ℕ) (state : LegState Batch) : Type 0 where
  s : FilterSettings
  run : filter.State Batch
  c : Course Batch
  at : Standing
  is : state ≡ filtering s run c at
  same : at.part ≡ part
  few : run.cursor.ended < bound

filter-goes : (most : ℕ) (s : FilterSettings) (run : filter.State Batch) (c : Course Batch) (at : Standing) (state : LegState Batch)
    → goes_on (Some most) (filtering s run c at) state ≡ true → Filters at.part (run.cursor.ended + most) state
filter-goes most s run c at (filtering t now d here) goes = record {
  s = t;
  run = now;
  c = d;
  at = here;
  is = refl;
  same = same_part at.part here.part (first_of (at.part == here.part) (nat_lt now.cursor.ended (run.cursor.ended + most)) goes);
  few = few_is most run.cursor.ended now.cursor.ended
      (second_of (at.part == here.part) (nat_lt now.cursor.ended (run.cursor.ended + most)) goes);
}
filter-goes most s run c at (entering tree) goes = absurd cc
filter-goes most s run c at (transforming t now d here) goes = absurd cc
filter-goes most s run c at (grouping t d here) goes = absurd cc
filter-goes most s run c at (routing t d here) goes = absurd cc
filter-goes most s run c at (ending taken d) goes = absurd cc
filter-goes most s run c at (over o) goes = absurd cc

-- The last step of a burst.

-- behind a part no state is at it
not_behind : (a b : ℕ) → b ≡ a → (a == b && true) ≡ false → ⊥
not_behind a b same isnt = clash (not_second (a == b) true (eq-eqb a b (sym same)) isnt) refl

transform-last : (most : ℕ) (s : TransformSettings) (run : transform.State Batch) (c : Course Batch) (at : Standing)
    (state : LegState Batch) (b : Transforms at.part (run.cursor.ended + most) state) (came : Stepped (transform.State Batch))
    → OneMore logs.ops b.run.cursor.ended came
    → (t : TransformSettings) (now : transform.State Batch) (d : Course Batch) (here : Standing)
    → transform_came logs.ops logs.group b.s b.c b.at came ≡ transforming t now d here → here.part ≡ at.part
    → run.cursor.ended + most ≤ now.cursor.ended → now.cursor.ended ≡ run.cursor.ended + most
transform-last most s run c at state b (On r) one t now d here is same many =
    let ran : r ≡ now = cc in
    let few = b.few in
    let count : r.cursor.ended ≡ now.cursor.ended = ap (λ (u : transform.State Batch). u.cursor.ended) ran in
    omega (arith, one, few, count, many)
transform-last most s run c at state b (End r) one t now d here is same many =
    let came = after_processor logs.ops logs.group b.at.part (Transform b.s) b.c (Ok (r.tree, r.account)) in
    absurd (not_behind b.at.part here.part (same ∙ sym b.same)
    (subst (λ x. goes_on None (transforming b.s b.run b.c b.at) x ≡ false) is
    (stops_behind_transform None b.s b.run b.c b.at came)))
transform-last most s run c at state b (Fail r note) one t now d here is same many =
    let came = after_processor logs.ops logs.group b.at.part (Transform b.s) b.c (Err note) in
    absurd (not_behind b.at.part here.part (same ∙ sym b.same)
    (subst (λ x. goes_on None (transforming b.s b.run b.c b.at) x ≡ false) is
    (stops_behind_transform None b.s b.run b.c b.at came)))

filter-last : (most : ℕ) (s : FilterSettings) (run : filter.State Batch) (c : Course Batch) (at : Standing)
    (state : LegState Batch) (b : Filters at.part (run.cursor.ended + most) state) (came : Stepped (filter.State Batch))
    → OneJudged logs.ops b.run.cursor.ended came
    → (t : FilterSettings) (now : filter.State Batch) (d : Course Batch) (here : Standing)
    → filter_came logs.ops logs.group b.s b.c b.at came ≡ filtering t now d here → here.part ≡ at.part
    → run.cursor.ended + most ≤ now.cursor.ended → now.cursor.ended ≡ run.cursor.ended + most
filter-last most s run c at state b (On r) one t now d here is same many =
    let ran : r ≡ now = cc in
    let few = b.few in
    let count : r.cursor.ended ≡ now.cursor.ended = ap (λ (u : filter.State Batch). u.cursor.ended) ran in
    omega (arith, one, few, count, many)
filter-last most s run c at state b (End r) one t now d here is same many =
    let came = after_processor logs.ops logs.group b.at.part (Filter b.s) b.c (Ok (r.tree, r.account)) in
    absurd (not_behind b.at.part here.part (same ∙ sym b.same)
    (subst (λ x. goes_on None (filtering b.s b.run b.c b.at) x ≡ false) is
    (stops_behind_filter None b.s b.run b.c b.at came)))
filter-last most s run c at state b (Fail r note) one t now d here is same many =
    let came = after_processor logs.ops logs.group b.at.part (Filter b.s) b.c (Err note) in
    absurd (not_behind b.at.part here.part (same ∙ sym b.same)
    (subst (λ x. goes_on None (filtering b.s b.run b.c b.at) x ≡ false) is
    (stops_behind_filter None b.s b.run b.c b.at came)))

module _ (most : ℕ) (some : 0 < most) (conf : Conf) (tree : Batch) (leg : Leg) (done : ℕ) where
  -- one step more
  one_more_step : (m : ℕ) → state_alone conf tree leg (done + suc m)
      ≡ leg_step logs.ops logs.group (parts_on conf leg) (state_alone conf tree leg (done + m))
  one_more_step m =
      let next : done + suc m ≡ done + m + 1 = omega arith in
      ap (state_alone conf tree leg) next ∙ steps_go_on conf tree leg (done + m) 1

  -- what stands at the end of a burst that is at its part still has ended as many as that
  many_at : (a b before now : ℕ) → b ≡ a → (a == b && nat_lt now (before + most)) ≡ false → before + most ≤ now
  many_at a b before now same stops =
      many_is most before now (not_second (a == b) (nat_lt now (before + most)) (eq-eqb a b (sym same)) stops)

  module _ (s : TransformSettings) (run : transform.State Batch) (c : Course Batch) (at : Standing)
      (here : state_alone conf tree leg done ≡ transforming s run c at) where
    transform-before : (m : ℕ) → IsBurst (Some most) (state_alone conf tree leg) done (suc m)
        → Transforms at.part (run.cursor.ended + most) (state_alone conf tree leg (done + m))
    transform-before zero burst =
        let same : done + 0 ≡ done = omega arith in
        record {
          s = s;
          run = run;
          c = c;
          at = at;
          is = ap (state_alone conf tree leg) same ∙ here;
          same = refl;
          few = omega (arith, some);
        }
    transform-before (suc m) burst =
        transform-goes most s run c at (state_alone conf tree leg (done + suc m))
        (subst (λ x. goes_on (Some most) x (state_alone conf tree leg (done + suc m)) ≡ true) here
        (burst.going (suc m) (omega arith) (omega arith)))

    transform-counts : (steps : ℕ) → IsBurst (Some most) (state_alone conf tree leg) done steps
        → (t : TransformSettings) (now : transform.State Batch) (d : Course Batch) (there : Standing)
        → state_alone conf tree leg (done + steps) ≡ transforming t now d there → there.part ≡ at.part
        → now.cursor.ended ≡ run.cursor.ended + most
    transform-counts zero burst t now d there is same = let none = burst.some in absurd (omega (arith, none))
    transform-counts (suc m) burst t now d there is same =
        let b = transform-before m burst in
        let many : run.cursor.ended + most ≤ now.cursor.ended =
        many_at at.part there.part run.cursor.ended now.cursor.ended same
        (subst (λ x. goes_on (Some most) (transforming s run c at) x ≡ false) is
        (subst (λ x. goes_on (Some most) x (state_alone conf tree leg (done + suc m)) ≡ false) here burst.stops)) in
        transform-last most s run c at (state_alone conf tree leg (done + m)) b
        (transform.transform_step logs.ops b.s.error_mode b.run) (transform-one logs.ops b.s.error_mode b.run) t now d there
        (sym (one_more_step m ∙ ap (leg_step logs.ops logs.group (parts_on conf leg)) b.is) ∙ is) same many

  module _ (s : FilterSettings) (run : filter.State Batch) (c : Course Batch) (at : Standing)
      (here : state_alone conf tree leg done ≡ filtering s run c at) where
    filter-before : (m : ℕ) → IsBurst (Some most) (state_alone conf tree leg) done (suc m)
        → Filters at.part (run.cursor.ended + most) (state_alone conf tree leg (done + m))
    filter-before zero burst =
        let same : done + 0 ≡ done = omega arith in
        record {
          s = s;
          run = run;
          c = c;
          at = at;
          is = ap (state_alone conf tree leg) same ∙ here;
          same = refl;
          few = omega (arith, some);
        }
    filter-before (suc m) burst =
        filter-goes most s run c at (state_alone conf tree leg (done + suc m))
        (subst (λ x. goes_on (Some most) x (state_alone conf tree leg (done + suc m)) ≡ true) here
        (burst.going (suc m) (omega arith) (omega arith)))

    filter-counts : (steps : ℕ) → IsBurst (Some most) (state_alone conf tree leg) done steps
        → (t : FilterSettings) (now : filter.State Batch) (d : Course Batch) (there : Standing)
        → state_alone conf tree leg (done + steps) ≡ filtering t now d there → there.part ≡ at.part
        → now.cursor.ended ≡ run.cursor.ended + most
    filter-counts zero burst t now d there is same = let none = burst.some in absurd (omega (arith, none))
    filter-counts (suc m) burst t now d there is same =
        let b = filter-before m burst in
        let many : run.cursor.ended + most ≤ now.cursor.ended =
        many_at at.part there.part run.cursor.ended now.cursor.ended same
        (subst (λ x. goes_on (Some most) (filtering s run c at) x ≡ false) is
        (subst (λ x. goes_on (Some most) x (state_alone conf tree leg (done + suc m)) ≡ false) here burst.stops)) in
        filter-last most s run c at (state_alone conf tree leg (done + m)) b
        (filter.filter_step logs.ops b.s b.run) (filter-one logs.ops b.s b.run) t now d there
        (sym (one_more_step m ∙ ap (leg_step logs.ops logs.group (parts_on conf leg)) b.is) ∙ is) same many

pub transform_burst_counts : (most : ℕ) (conf : Conf) (tree : Batch) (leg : Leg) (done steps : ℕ)
    (s t : TransformSettings) (run now : transform.State Batch) (c d : Course Batch) (at there : Standing)
    → 0 < most → IsBurst (Some most) (state_alone conf tree leg) done steps
    → state_alone conf tree leg done ≡ transforming s run c at
    → state_alone conf tree leg (done + steps) ≡ transforming t now d there → there.part ≡ at.part
    → now.cursor.ended ≡ run.cursor.ended + most
transform_burst_counts most conf tree leg done steps s t run now c d at there some burst here is same =
    transform-counts most some conf tree leg done s run c at here steps burst t now d there is same

pub filter_burst_counts : (most : ℕ) (conf : Conf) (tree : Batch) (leg : Leg) (done steps : ℕ)
    (s t : FilterSettings) (run now : filter.State Batch) (c d : Course Batch) (at there : Standing)
    → 0 < most → IsBurst (Some most) (state_alone conf tree leg) done steps
    → state_alone conf tree leg done ≡ filtering s run c at
    → state_alone conf tree leg (done + steps) ≡ filtering t now d there → there.part ≡ at.part
    → now.cursor.ended ≡ run.cursor.ended + most
filter_burst_counts most conf tree leg done steps s t run now c d at there some burst here is same =
    filter-counts most some conf tree leg done s run c at here steps burst t now d there is same
