-- The bursts of a transform processor with one statement, whose errors end no leg: each step ends one target.
use Rattle.std.proofs.Common.{◌≡◌, ◌≢◌, ◌∙◌, ◌+◌, ◌-◌, ◌<◌, ◌≤◌, ◌&&◌, false, ℕ, zero, suc, List, [], ◌∷◌, length, drop, length-drop, Option, Some, nat_lt, Ok, refl, sym, ap, ap₂, subst, arith, eq-eqb}
use Rattle.conf_draft.specs.declared.draft.ErrorMode.TheVariants.{Propagate}
use Rattle.conf_json.specs.Account.{Account}
use Rattle.conf_json.specs.declared.account.Part.TheVariants.{Statement}
use Rattle.conf_json.specs.declared.settings.Group.{Group}
use Rattle.conf_json.specs.declared.settings.ProcessorSettings.TheVariants.{Transform}
use Rattle.conf_json.specs.declared.settings.TransformSettings.{TransformSettings}
use Rattle.graph_build.specs.Conf.{Conf}
use Rattle.graph_build.specs.declared.leg.Leg.{Leg}
use Rattle.leg_model.proofs.Filtering.{GoesOn, bind-goes, few-below, few-not-at, under-goes}
use Rattle.leg_model.proofs.Lengths.{steps_go_on}
use Rattle.leg_model.proofs.Turning.{stops_behind_transform}
use Rattle.leg_model.specs.Bursts.{IsBurst, goes_on, max_targets}
use Rattle.leg_model.specs.Course.{Course, after_processor}
use Rattle.leg_model.specs.Exports.{logs}
use Rattle.leg_model.specs.Parts.{Parts}
use Rattle.leg_model.specs.Steps.{Standing, is_over, leg_step, leg_steps, parts_on, state_alone, transform_came, transforming}
use Rattle.ottl_eval.specs.Stages.{Stage, stage}
use Rattle.ottl_eval.specs.Statements.{ran}
use Rattle.ottl_eval.specs.declared.outcome.Outcome.{Outcome}
use Rattle.ottl_eval.specs.declared.outcome.Outcome.TheVariants as outcome
use Rattle.ottl_plan.specs.declared.planned.PlannedStatement.{PlannedStatement}
use Rattle.pdata_tree.specs.Operations.{TreeOps}
use Rattle.pdata_tree.specs.declared.batch.Batch.{Batch}
use Rattle.pdata_tree.specs.declared.path.PathTo.{PathTo}
use Rattle.pdata_tree.specs.declared.place.Place.{Place}
use Rattle.proc_targets.specs.Judging.{no_pairs, note_at}
use Rattle.proc_targets.specs.declared.spot.Spot.{Spot}
use Rattle.transform_proc.specs.Meaning.{account_after, spot_of, statement_run}
use Rattle.transform_proc.specs.Steps as transform
use Rattle.transform_proc.specs.Steps.{Here}

account-goes : (spot : Spot) (index : ℕ) (o : Outcome) (account : Account) → spot.mode ≢ Propagate
    → GoesOn (account_after spot index o account)
account-goes spot index (outcome.Err err) account is = under-goes spot.mode (note_at spot index err) account is
account-goes spot index outcome.Done account is = (account, refl)
account-goes spot index outcome.Skipped account is = (account, refl)
account-goes spot index outcome.NoMemory account is = (account, refl)

statement-goes : {T : Type 0} (ops : TreeOps T PathTo) (spot : Spot) (index : ℕ) (x : PlannedStatement) (st : Stage T) (account : Account)
    → spot.mode ≢ Propagate → GoesOn (statement_run ops spot index x st account)
statement-goes ops spot index x st account is =
    let r = ran ops x st in
    bind-goes (account_after spot index r.0 account) (λ now. Ok (r.1, now)) (account-goes spot index r.0 account is)
    (λ now. ((r.1, now), refl))

module _ {T : Type 0} (ops : TreeOps T PathTo) (group : List (List ℕ) → T → T) (parts : Parts)
    (s : TransformSettings) (c : Course T) (at : Standing) (is : s.error_mode ≢ Propagate)
    (g : Group) (x : PlannedStatement) (no_conditions : g.conditions ≡ []) (one_statement : g.statements ≡ x ∷ []) where
  -- A run at the beginning of the first of these targets, in its last group.
  record IsAt (places : List Place) (run : transform.State T) : Type 0 where
    groups : run.cursor.groups ≡ g ∷ []
    targets : run.cursor.targets ≡ places
    work : run.cursor.work ≡ transform.first_work g

  -- what a step comes to at the first of these targets
  step-states : (run : transform.State T) (p : Place) (ps : List Place) → IsAt (p ∷ ps) run
      → (now : transform.State T) × (leg_step ops group parts (transforming s run c at)
      ≡ transform_came ops group s c at (transform.next_target ops now g [] ps)) × (now.cursor.ended ≡ run.cursor.ended)
  step-states run p ps there =
      let r = transform.stepped_one run in
      let h : Here = record { group = g; groups = []; place = p; places = ps } in
      let spot = spot_of (transform.turn s.error_mode r.cursor g) Statement p in
      let goes = statement-goes ops spot 0 x (stage r.tree g.context p no_pairs) r.account is in (
        record r { tree = goes.0.0.tree; account = goes.0.1 },
        ap (λ gs. transform_came ops group s c at (transform.groups_step ops s.error_mode r gs)) there.groups
            ∙ ap (λ places. transform_came ops group s c at (transform.targets_step ops s.error_mode r g [] places)) there.targets
            ∙ ap (λ work. transform_came ops group s c at (transform.target_step ops s.error_mode r h work))
            (there.work ∙ ap₂ transform.work_of no_conditions one_statement)
            ∙ ap (λ q. transform_came ops group s c at (transform.ran_one ops r h 1 [] q)) goes.1,
        refl,
      )

  -- A run after some of its steps, each of which ended one target.
  record Stated (k : ℕ) (run : transform.State T) : Type 0 where
    now : transform.State T
    there : leg_steps ops group parts k (transforming s run c at) ≡ transforming s now c at
    count : now.cursor.ended ≡ run.cursor.ended + k
    left : IsAt (drop k run.cursor.targets) now

  steps-state : (k : ℕ) (run : transform.State T) (places : List Place) → IsAt places run → k < length places → Stated k run
  steps-state zero run places is_at few = record {
    now = run;
    there = refl;
    count = omega arith;
    left = record { groups = is_at.groups; targets = refl; work = is_at.work };
  }
  steps-state (suc k) run [] is_at few = absurd (omega (arith, few))
  steps-state (suc k) run (p ∷ []) is_at few = absurd (omega (arith, few))
  steps-state (suc k) run (p ∷ q ∷ ps) is_at few =
      let one = step-states run p (q ∷ ps) is_at in
      let next = transform.with_groups (transform.ended_one one.0) one.0.cursor.number (g ∷ []) (q ∷ ps) (transform.first_work g) in
      let more = steps-state k next (q ∷ ps) (record { groups = refl; targets = refl; work = refl }) (omega (arith, few)) in
      let first = one.2 in
      let second = more.count in
      record {
        now = more.now;
        there = ap (leg_steps ops group parts k) one.1 ∙ more.there;
        count = omega (arith, first, second);
        left = subst (λ places. IsAt places more.now) (sym (ap (drop (suc k)) is_at.targets)) more.left;
      }

last-of : {X : Type 0} (m : ℕ) (xs : List X) → length xs ≡ suc m → (x : X) × (drop m xs ≡ x ∷ [])
last-of m [] is = absurd (omega (arith, is))
last-of zero (x ∷ []) is = (x, refl)
last-of zero (x ∷ y ∷ xs) is = absurd (omega (arith, is))
last-of (suc m) (x ∷ xs) is = last-of m xs (omega (arith, is))

module _ (conf : Conf) (tree : Batch) (leg : Leg) (s : TransformSettings) (c : Course Batch) (at : Standing)
    (is : s.error_mode ≢ Propagate) (g : Group) (x : PlannedStatement) (no_conditions : g.conditions ≡ [])
    (one_statement : g.statements ≡ x ∷ []) where
  -- a run of this leg at the beginning of its first target
  abbrev Begins : transform.State Batch → Type 0
  Begins run = IsAt logs.ops logs.group (parts_on conf leg) s c at is g x no_conditions one_statement run.cursor.targets run

  -- and after some steps
  abbrev After : ℕ → transform.State Batch → Type 0
  After k run = Stated logs.ops logs.group (parts_on conf leg) s c at is g x no_conditions one_statement k run

  module _ (done : ℕ) (run : transform.State Batch) (here : state_alone conf tree leg done ≡ transforming s run c at)
      (begins : Begins run) where
    stated-after : (k : ℕ) → k < length run.cursor.targets → After k run
    stated-after k few =
        steps-state logs.ops logs.group (parts_on conf leg) s c at is g x no_conditions one_statement k run
        run.cursor.targets begins few

    state-after : (k : ℕ) (few : k < length run.cursor.targets)
        → state_alone conf tree leg (done + k) ≡ transforming s (stated-after k few).now c at
    state-after k few =
        steps_go_on conf tree leg done k
        ∙ ap (leg_steps logs.ops logs.group (parts_on conf leg) k) here
        ∙ (stated-after k few).there

    begins-after : (k : ℕ) (few : k < length run.cursor.targets) → Begins (stated-after k few).now
    begins-after k few =
        let left = (stated-after k few).left in
        record { groups = left.groups; targets = refl; work = left.work }

    left-after : (k : ℕ) (few : k < length run.cursor.targets)
        → length (stated-after k few).now.cursor.targets ≡ length run.cursor.targets - k
    left-after k few = ap length (stated-after k few).left.targets ∙ length-drop k run.cursor.targets

    goes-after : (most k : ℕ) → k < length run.cursor.targets
        → goes_on (Some most) (state_alone conf tree leg done) (state_alone conf tree leg (done + k))
        ≡ nat_lt (run.cursor.ended + k) (run.cursor.ended + most)
    goes-after most k few =
        let after = stated-after k few in
        ap₂ (goes_on (Some most)) here (state-after k few)
        ∙ ap (λ t. t && nat_lt after.now.cursor.ended (run.cursor.ended + most)) (eq-eqb at.part at.part refl)
        ∙ ap (λ n. nat_lt n (run.cursor.ended + most)) after.count

    states_many : (most : ℕ) → 0 < most → most < length run.cursor.targets
        → IsBurst (Some most) (state_alone conf tree leg) done most
    states_many most some enough = record {
      begins = ap is_over here;
      some = some;
      going = λ k first less.
          goes-after most k (omega (arith, less, enough)) ∙ few-below most run.cursor.ended k less;
      stops = goes-after most most enough ∙ few-not-at most run.cursor.ended;
    }

    -- the step at the last target ends the part
    ends-part : (m : ℕ) → length run.cursor.targets ≡ suc m → (most : Option ℕ)
        → goes_on most (state_alone conf tree leg done) (state_alone conf tree leg (done + suc m)) ≡ false
    ends-part m count most =
        let few : m < length run.cursor.targets = omega (arith, count) in
        let after = stated-after m few in
        let last = last-of m run.cursor.targets count in
        let next : done + suc m ≡ done + m + 1 = omega arith in
        let step = step-states logs.ops logs.group (parts_on conf leg) s c at is g x no_conditions one_statement after.now last.0 []
        (record { groups = after.left.groups; targets = after.left.targets ∙ last.1; work = after.left.work }) in
        let ended = transform.with_groups (transform.ended_one step.0) (suc step.0.cursor.number) [] [] transform.judging in
        ap₂ (goes_on most) here
        (ap (state_alone conf tree leg) next
        ∙ steps_go_on conf tree leg (done + m) 1
        ∙ ap (leg_steps logs.ops logs.group (parts_on conf leg) 1) (state-after m few)
        ∙ step.1)
        ∙ stops_behind_transform most s run c at
        (after_processor logs.ops logs.group at.part (Transform s) c (Ok (ended.tree, ended.account)))

    states_rest : (most m : ℕ) → length run.cursor.targets ≡ suc m → suc m ≤ most
        → IsBurst (Some most) (state_alone conf tree leg) done (suc m)
    states_rest most m count few = record {
      begins = ap is_over here;
      some = omega arith;
      going = λ k first less.
          goes-after most k (omega (arith, less, count)) ∙ few-below most run.cursor.ended k (omega (arith, less, few));
      stops = ends-part m count (Some most);
    }

  -- as many as a turn may end, and then those that are left
  states_two : (done : ℕ) (run : transform.State Batch) (here : state_alone conf tree leg done ≡ transforming s run c at)
      (begins : Begins run) (most m : ℕ) → 0 < most → length run.cursor.targets ≡ most + suc m → suc m ≤ most
      → IsBurst (Some most) (state_alone conf tree leg) done most
      × IsBurst (Some most) (state_alone conf tree leg) (done + most) (suc m)
  states_two done run here begins most m some count few =
      let enough : most < length run.cursor.targets = omega (arith, count) in
      let left : length (stated-after done run here begins most enough).now.cursor.targets ≡ length run.cursor.targets - most =
      left-after done run here begins most enough in (
        states_many done run here begins most some enough,
        states_rest (done + most) (stated-after done run here begins most enough).now (state-after done run here begins most enough)
            (begins-after done run here begins most enough) most m (omega (arith, left, count)) few,
      )

  -- 600 targets, and 512 of them
  states_600 : (done : ℕ) (run : transform.State Batch) (here : state_alone conf tree leg done ≡ transforming s run c at)
      (begins : Begins run) → length run.cursor.targets ≡ 600
      → IsBurst (Some max_targets) (state_alone conf tree leg) done 256
      × IsBurst (Some max_targets) (state_alone conf tree leg) (done + 256) 256
      × IsBurst (Some max_targets) (state_alone conf tree leg) (done + 256 + 256) 88
  states_600 done run here begins count =
      let enough : 256 < length run.cursor.targets = omega (arith, count) in
      let left : length (stated-after done run here begins 256 enough).now.cursor.targets ≡ length run.cursor.targets - 256 =
      left-after done run here begins 256 enough in
      let more = states_two (done + 256) (stated-after done run here begins 256 enough).now (state-after done run here begins 256 enough)
      (begins-after done run here begins 256 enough) 256 87 (omega arith) (omega (arith, left, count)) (omega arith) in
      (states_many done run here begins 256 (omega arith) enough, more.0, more.1)

pub states_long : (conf : Conf) (tree : Batch) (leg : Leg) (done : ℕ) (s : TransformSettings) (g : Group) (x : PlannedStatement)
    (t : Batch) (account : Account) (c : Course Batch) (at : Standing)
    → state_alone conf tree leg done ≡ transforming s (transform.state_of logs.ops (g ∷ []) t account) c at
    → s.error_mode ≢ Propagate → g.conditions ≡ [] → g.statements ≡ x ∷ [] → length (logs.ops.targets t g.context) ≡ 600
    → IsBurst (Some max_targets) (state_alone conf tree leg) done 256
    × IsBurst (Some max_targets) (state_alone conf tree leg) (done + 256) 256
    × IsBurst (Some max_targets) (state_alone conf tree leg) (done + 256 + 256) 88
states_long conf tree leg done s g x t account c at here is no_conditions one_statement count =
    states_600 conf tree leg s c at is g x no_conditions one_statement done (transform.state_of logs.ops (g ∷ []) t account) here
    (record { groups = refl; targets = refl; work = refl }) count

pub states_even : (conf : Conf) (tree : Batch) (leg : Leg) (done : ℕ) (s : TransformSettings) (g : Group) (x : PlannedStatement)
    (t : Batch) (account : Account) (c : Course Batch) (at : Standing)
    → state_alone conf tree leg done ≡ transforming s (transform.state_of logs.ops (g ∷ []) t account) c at
    → s.error_mode ≢ Propagate → g.conditions ≡ [] → g.statements ≡ x ∷ [] → length (logs.ops.targets t g.context) ≡ 512
    → IsBurst (Some max_targets) (state_alone conf tree leg) done 256
    × IsBurst (Some max_targets) (state_alone conf tree leg) (done + 256) 256
states_even conf tree leg done s g x t account c at here is no_conditions one_statement count =
    states_two conf tree leg s c at is g x no_conditions one_statement done (transform.state_of logs.ops (g ∷ []) t account) here
    (record { groups = refl; targets = refl; work = refl }) 256 255 (omega arith) (omega (arith, count)) (omega arith)
