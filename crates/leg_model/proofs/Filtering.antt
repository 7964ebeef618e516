-- The bursts of a filter whose errors end no leg: each step but the last judges one log record.
use Rattle.std.proofs.Common.{◌≡◌, ◌≢◌, ◌∙◌, ◌+◌, ◌-◌, ◌<◌, ◌≤◌, ◌&&◌, Bool, true, false, cond, not, ℕ, zero, suc, List, [], ◌∷◌, length, drop, length-drop, Option, Some, None, nat_lt, Result, Ok, Err, refl, sym, ap, ap₂, subst, arith, drop_of_length-le, eq-eqb}
use Rattle.std.proofs.lemmas.Bool.Decides.{nat_tests}
use Rattle.conf_draft.specs.declared.draft.ErrorMode.{ErrorMode}
use Rattle.conf_draft.specs.declared.draft.ErrorMode.TheVariants.{Ignore, Silent, Propagate}
use Rattle.conf_json.specs.Account.{Account, noted, under}
use Rattle.conf_json.specs.declared.account.Note.{Note}
use Rattle.conf_json.specs.declared.settings.FilterSettings.{FilterSettings}
use Rattle.conf_json.specs.declared.settings.ProcessorSettings.TheVariants.{Filter}
use Rattle.filter_proc.specs.Meaning.{dropped, spot_of}
use Rattle.filter_proc.specs.Steps as filter
use Rattle.graph_build.specs.Conf.{Conf}
use Rattle.graph_build.specs.declared.leg.Leg.{Leg}
use Rattle.leg_model.proofs.Lengths.{steps_go_on}
use Rattle.leg_model.proofs.Turning.{stops_behind_filter}
use Rattle.leg_model.specs.Bursts.{IsBurst, are_few, goes_on, max_targets}
use Rattle.leg_model.specs.Course.{Course, after_processor}
use Rattle.leg_model.specs.Exports.{logs}
use Rattle.leg_model.specs.Steps.{Standing, filter_came, filtering, is_over, leg_step, leg_steps, parts_on, state_alone}
use Rattle.leg_model.specs.Parts.{Parts}
use Rattle.ottl_eval.specs.Stages.{Stage, stage}
use Rattle.ottl_eval.specs.Values.{holds}
use Rattle.ottl_plan.specs.declared.planned.PlannedCondition.{PlannedCondition}
use Rattle.pdata_tree.specs.Operations.{TreeOps}
use Rattle.pdata_tree.specs.declared.batch.Batch.{Batch}
use Rattle.pdata_tree.specs.declared.path.PathTo.{PathTo}
use Rattle.pdata_tree.specs.declared.place.Context.TheVariants.{Log}
use Rattle.pdata_tree.specs.declared.place.Place.{Place}
use Rattle.pdata_value.specs.declared.error.EvalErr.{EvalErr}
use Rattle.proc_targets.specs.Judging.{◌>>=◌, any_holds, no_pairs, note_at, truth_after}
use Rattle.proc_targets.specs.declared.spot.Spot.{Spot}

-- Where the mode isn't propagate, work goes on.

abbrev pub GoesOn : {X : Type 0} → Result X Note → Type 0
GoesOn {X} r = (x : X) × (r ≡ Ok x)

pub under-goes : (mode : ErrorMode) (note : Note) (account : Account) → mode ≢ Propagate → GoesOn (under mode note account)
under-goes Ignore note account is = (noted note account, refl)
under-goes Silent note account is = (account, refl)
under-goes Propagate note account is = absurd (is refl)

pub bind-goes : {X Y : Type 0} (r : Result X Note) (f : X → Result Y Note) → GoesOn r → ((x : X) → GoesOn (f x)) → GoesOn (r >>= f)
bind-goes r f first second =
    let next = second first.0 in
    (next.0, ap (λ (q : Result _ Note). q >>= f) first.1 ∙ next.1)

cond-goes : {X : Type 0} (t : Bool) (r q : Result X Note) → GoesOn r → GoesOn q → GoesOn (cond t r q)
cond-goes true r q first second = first
cond-goes false r q first second = second

truth-goes : (spot : Spot) (index : ℕ) (r : Result Bool EvalErr) (account : Account) → spot.mode ≢ Propagate
    → GoesOn (truth_after spot index r account)
truth-goes spot index (Ok truth) account is = ((truth, account), refl)
truth-goes spot index (Err err) account is =
    bind-goes (under spot.mode (note_at spot index err) account) (λ now. Ok (false, now))
    (under-goes spot.mode (note_at spot index err) account is) (λ now. ((false, now), refl))

module _ {T : Type 0} (ops : TreeOps T PathTo) where
  any-goes : (spot : Spot) → spot.mode ≢ Propagate → (index : ℕ) (cs : List PlannedCondition) (s : Stage T) (account : Account)
      → GoesOn (any_holds ops spot index cs s account)
  any-goes spot is index [] s account = ((false, account), refl)
  any-goes spot is index (c ∷ cs) s account =
      bind-goes (truth_after spot index (holds ops c.expr s) account)
      (λ t. cond t.0 (Ok t) (any_holds ops spot (suc index) cs s t.1))
      (truth-goes spot index (holds ops c.expr s) account is)
      (λ t. cond-goes t.0 (Ok t) (any_holds ops spot (suc index) cs s t.1) (t, refl)
      (any-goes spot is (suc index) cs s t.1))

  dropped-goes : (settings : FilterSettings) (tree : T) (place : Place) (account : Account)
      → settings.error_mode ≢ Propagate → GoesOn (dropped ops settings tree place account)
  dropped-goes settings tree place account is =
      any-goes (spot_of settings place) is 0 settings.log_record (stage tree Log place no_pairs) account

module _ {T : Type 0} (ops : TreeOps T PathTo) (group : List (List ℕ) → T → T) (parts : Parts)
    (s : FilterSettings) (c : Course T) (at : Standing) (is : s.error_mode ≢ Propagate) where
  -- A filter after some of its steps, each of which ended one target.
  record Judged (k : ℕ) (run : filter.State T) : Type 0 where
    now : filter.State T
    there : leg_steps ops group parts k (filtering s run c at) ≡ filtering s now c at
    count : now.cursor.ended ≡ run.cursor.ended + k
    left : now.cursor.targets ≡ drop k run.cursor.targets

  step-judges : (run : filter.State T) (p : Place) (ps : List Place) → run.cursor.targets ≡ p ∷ ps
      → (now : filter.State T) × (leg_step ops group parts (filtering s run c at) ≡ filtering s now c at)
      × (now.cursor.ended ≡ suc run.cursor.ended) × (now.cursor.targets ≡ ps)
  step-judges run p ps there =
      let goes = dropped-goes ops s run.tree p run.account is in (
        filter.record_ended (filter.stepped_one run) (not goes.0.0) ps goes.0.1,
        ap (λ (places : List Place). filter_came ops group s c at (filter.targets_step ops s (filter.stepped_one run) places)) there
            ∙ ap (λ r. filter_came ops group s c at (filter.judged ops (filter.stepped_one run) ps r)) goes.1,
        refl,
        refl,
      )

  steps-judge : (k : ℕ) (run : filter.State T) (places : List Place) → run.cursor.targets ≡ places → k ≤ length places → Judged k run
  steps-judge zero run places there few = record { now = run; there = refl; count = omega arith; left = refl }
  steps-judge (suc k) run [] there few = absurd (omega (arith, few))
  steps-judge (suc k) run (p ∷ ps) there few =
      let one = step-judges run p ps there in
      let more = steps-judge k one.0 ps one.3 (omega (arith, few)) in
      let first = one.2 in
      let second = more.count in
      record {
        now = more.now;
        there = ap (leg_steps ops group parts k) one.1 ∙ more.there;
        count = omega (arith, first, second);
        left = more.left ∙ ap (drop k) one.3 ∙ sym (ap (drop (suc k)) there);
      }

-- Whether few targets were ended.

pub few-below : (most before k : ℕ) → k < most → nat_lt (before + k) (before + most) ≡ true
few-below most before k less = grind (arith, nat_tests, less)

pub few-not-at : (most before : ℕ) → nat_lt (before + most) (before + most) ≡ false
few-not-at most before = grind (arith, nat_tests)

pub few-all : (most : Option ℕ) (before count k : ℕ) → are_few most 0 count ≡ true → k ≤ count → are_few most before (before + k) ≡ true
few-all None before count k few less = refl
few-all (Some most) before count k few less = grind (arith, nat_tests, few, less)

module _ (conf : Conf) (tree : Batch) (leg : Leg) (done : ℕ) (s : FilterSettings) (run : filter.State Batch) (c : Course Batch)
    (at : Standing) (here : state_alone conf tree leg done ≡ filtering s run c at) (is : s.error_mode ≢ Propagate) where
  judged-after : (k : ℕ) → k ≤ length run.cursor.targets → Judged logs.ops logs.group (parts_on conf leg) s c at is k run
  judged-after k few = steps-judge logs.ops logs.group (parts_on conf leg) s c at is k run run.cursor.targets refl few

  state-after : (k : ℕ) (few : k ≤ length run.cursor.targets)
      → state_alone conf tree leg (done + k) ≡ filtering s (judged-after k few).now c at
  state-after k few =
      steps_go_on conf tree leg done k
      ∙ ap (leg_steps logs.ops logs.group (parts_on conf leg) k) here
      ∙ (judged-after k few).there

  goes-after : (most : Option ℕ) (k : ℕ) → k ≤ length run.cursor.targets
      → goes_on most (state_alone conf tree leg done) (state_alone conf tree leg (done + k))
      ≡ are_few most run.cursor.ended (run.cursor.ended + k)
  goes-after most k few =
      let j = judged-after k few in
      ap₂ (goes_on most) here (state-after k few)
      ∙ ap (λ t. t && are_few most run.cursor.ended j.now.cursor.ended) (eq-eqb at.part at.part refl)
      ∙ ap (are_few most run.cursor.ended) j.count

  pub judges_many : (most : ℕ) → 0 < most → most ≤ length run.cursor.targets
      → IsBurst (Some most) (state_alone conf tree leg) done most
  judges_many most some enough = record {
    begins = ap is_over here;
    some = some;
    going = λ k first less.
        goes-after (Some most) k (omega (arith, less, enough)) ∙ few-below most run.cursor.ended k less;
    stops = goes-after (Some most) most enough ∙ few-not-at most run.cursor.ended;
  }

  -- what the step behind the last target comes to
  removes : (n : ℕ) → n ≡ length run.cursor.targets → (few : n ≤ length run.cursor.targets)
      → leg_steps logs.ops logs.group (parts_on conf leg) 1 (filtering s (judged-after n few).now c at)
      ≡ filter_came logs.ops logs.group s c at (filter.targets_step logs.ops s (filter.stepped_one (judged-after n few).now) [])
  removes n all few =
      let none_left : length run.cursor.targets ≤ n = omega (arith, all) in
      ap (λ (places : List Place). filter_came logs.ops logs.group s c at
      (filter.targets_step logs.ops s (filter.stepped_one (judged-after n few).now) places))
      ((judged-after n few).left ∙ drop_of_length-le run.cursor.targets none_left)

  pub judges_rest : (most : Option ℕ) → are_few most 0 (length run.cursor.targets) ≡ true
      → IsBurst most (state_alone conf tree leg) done (length run.cursor.targets + 1)
  judges_rest most few = record {
    begins = ap is_over here;
    some = omega arith;
    going = λ k first less.
        goes-after most k (omega (arith, less))
        ∙ few-all most run.cursor.ended (length run.cursor.targets) k few (omega (arith, less));
    stops =
        let n : ℕ = length run.cursor.targets in
        let enough : n ≤ length run.cursor.targets = omega arith in
        let now = (judged-after n enough).now in
        let next : done + (n + 1) ≡ done + n + 1 = omega arith in
        ap₂ (goes_on most) here
        (ap (state_alone conf tree leg) next
        ∙ steps_go_on conf tree leg (done + n) 1
        ∙ ap (leg_steps logs.ops logs.group (parts_on conf leg) 1) (state-after n enough)
        ∙ removes n refl enough)
        ∙ stops_behind_filter most s run c at
        (after_processor logs.ops logs.group at.part (Filter s) c (Ok (logs.ops.kept now.cursor.flags now.tree, now.account)));
  }

-- 300 log records with bursts of 256 targets at most
pub judges_300 : (conf : Conf) (tree : Batch) (leg : Leg) (done : ℕ) (s : FilterSettings) (run : filter.State Batch) (c : Course Batch)
    (at : Standing) → state_alone conf tree leg done ≡ filtering s run c at → s.error_mode ≢ Propagate
    → length run.cursor.targets ≡ 300
    → IsBurst (Some max_targets) (state_alone conf tree leg) done 256
    × IsBurst (Some max_targets) (state_alone conf tree leg) (done + 256) 45
judges_300 conf tree leg done s run c at here is count =
    let enough : 256 ≤ length run.cursor.targets = omega (arith, count) in
    let j = judged-after conf tree leg done s run c at here is 256 enough in
    let dropped : length (drop 256 run.cursor.targets) ≡ length run.cursor.targets - 256 = length-drop 256 run.cursor.targets in
    let rest : length j.now.cursor.targets ≡ 44 = ap length j.left ∙ omega (arith, dropped, count) in
    let all : length j.now.cursor.targets + 1 ≡ 45 = omega (arith, rest) in (
      judges_many conf tree leg done s run c at here is 256 (omega arith) enough,
      subst (IsBurst (Some max_targets) (state_alone conf tree leg) (done + 256)) all
          (judges_rest conf tree leg (done + 256) s j.now c at (state-after conf tree leg done s run c at here is 256 enough) is
          (Some max_targets) (ap (λ n. nat_lt n (0 + max_targets)) rest)),
    )
