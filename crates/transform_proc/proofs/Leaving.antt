-- What the parts of a step leave.
use Rattle.std.proofs.Common.{◌≡◌, ◌∙◌, ◌≤◌, ℕ, suc, Bool, List, [], ◌∷◌, drop, length, Option, None, Some, Result, Ok, Err, ap, refl, subst, sym}
use Rattle.std.specs.Prelude.{IfSome, slice_get}
use Rattle.conf_draft.specs.declared.draft.ErrorMode.{ErrorMode}
use Rattle.conf_json.specs.Account.{Account}
use Rattle.conf_json.specs.declared.account.Note.{Note}
use Rattle.conf_json.specs.declared.account.Part.TheVariants as part
use Rattle.conf_json.specs.declared.account.PlainStop.{PlainStop}
use Rattle.conf_json.specs.declared.account.PlainStop.TheVariants.{Failed, NoMemory}
use Rattle.conf_json.specs.declared.account.StepEnd.{StepEnd}
use Rattle.conf_json.specs.declared.account.StepEnd.TheVariants as end
use Rattle.conf_json.specs.declared.settings.Group.{Group}
use Rattle.conf_json.specs.declared.settings.TransformSettings.{TransformSettings}
use Rattle.ottl_eval.specs.Stages.{Stage, stage}
use Rattle.ottl_eval.specs.Statements.{ran}
use Rattle.ottl_plan.specs.declared.planned.PlannedStatement.{PlannedStatement}
use Rattle.pdata_tree.specs.Operations.{log_trees}
use Rattle.pdata_tree.specs.Places.{targets}
use Rattle.pdata_tree.specs.declared.batch.Batch.{Batch}
use Rattle.pdata_tree.specs.declared.place.Place.{Place}
use Rattle.pdata_value.specs.declared.pairs.Pairs.{Pairs}
use Rattle.proc_targets.proofs.Stepping.{came_moved}
use Rattle.proc_targets.specs.Ends.{EndsUnder, StopsAs, StopsUnder, end_at}
use Rattle.proc_targets.specs.Judging.{◌>>=◌, no_pairs}
use Rattle.transform_proc.proofs.Moving.{drop_past, drop_there, with_left}
use Rattle.transform_proc.proofs.Targets.{keeps_targets}
use Rattle.transform_proc.specs.declared.cursor.Running.{Running}
use Rattle.proc_targets.specs.Stepping.{Stepped, Fail, Came, Moved, came}
use Rattle.share_cow.specs.Kept.{KeepsOthers}
use Rattle.share_cow.specs.Scene.{tree_of}
use Rattle.share_cow.specs.Store.{Store}
use Rattle.transform_proc.specs.Meaning.{GroupTurn, account_after, spot_of, statement_run, taken}
use Rattle.transform_proc.specs.Progress.{AtTarget, Beside, Fits, Leaves, Progress, first_at, first_running, here, run_of, targets_at, work_at}
use Rattle.transform_proc.specs.Steps.{Here, State, Work, ended_one, first_work, groups_step, judged, judging, left_on, next_group, next_target, ran_one, running, target_step, targets_step, turn}
use Rattle.transform_proc.specs.Turns.{turn_of}
use Rattle.transform_proc.specs.declared.stepping.Target.{Target}

moved_under : (mode : ErrorMode) (result : StepEnd) → Moved result → EndsUnder mode result
moved_under mode end.More moved = tt
moved_under mode end.Finished moved = tt
moved_under mode (end.Failed note) moved = absurd moved
moved_under mode end.NoMemory moved = absurd moved

-- a move that is what is meant
pub leaves_moved : (settings : TransformSettings) (root : ℕ) (meant : Stepped (State Batch)) (before : State Batch) (p q : Progress) (old new : Store)
    (account : Account) (result : StepEnd) → Moved result → meant ≡ came result (run_of settings (tree_of new root) q account) → Beside p q
    → Fits settings (tree_of new root) q → KeepsOthers root old new → Leaves settings root meant before p.steps p q old new account result
leaves_moved settings root meant before p q old new account result moved is beside fits keeps = record {
  step = came_moved meant before (run_of settings (tree_of new root) q account) result moved is;
  counted = beside.steps;
  over = beside.over;
  fits = fits;
  keeps = keeps;
  failed = moved_under settings.error_mode result moved;
}

-- the same beside a run that is as much over
pub leaves_beside : (settings : TransformSettings) (root : ℕ) (meant other : Stepped (State Batch)) (before was : State Batch) (steps : ℕ) (p o q : Progress)
    (old new : Store) (account : Account) (result : StepEnd) → other ≡ meant → was ≡ before → o.over ≡ p.over
    → Leaves settings root other was steps o q old new account result → Leaves settings root meant before steps p q old new account result
leaves_beside settings root meant other before was steps p o q old new account result meant_is before_is over leaves = record {
  step =
      subst (λ (m : Stepped (State Batch)). Came m before (run_of settings (tree_of new root) q account) result) meant_is
      (subst (λ (s : State Batch). Came other s (run_of settings (tree_of new root) q account) result) before_is leaves.step);
  counted = leaves.counted;
  over = leaves.over ∙ over;
  fits = leaves.fits;
  keeps = leaves.keeps;
  failed = leaves.failed;
}

-- a stop fails with its note, and leaves all
abbrev pub Stops : PlainStop → Stepped (State Batch) → State Batch → Type 0
Stops (Failed note) meant before = meant ≡ Fail before note
Stops NoMemory meant before = Unit {0}

came_stopped : (stop : PlainStop) (meant : Stepped (State Batch)) (before after : State Batch) → Stops stop meant before → after ≡ before
    → Came meant before after (end_at stop)
came_stopped (Failed note) meant before after stops same = stops ∙ ap (λ (s : State Batch). Fail s note) (sym same)
came_stopped NoMemory meant before after stops same = same

stopped_under : (one mode : ErrorMode) (stop : PlainStop) → one ≡ mode → StopsUnder one stop → EndsUnder mode (end_at stop)
stopped_under one mode (Failed note) is under = sym is ∙ under
stopped_under one mode NoMemory is under = tt

pub leaves_stopped : (settings : TransformSettings) (root : ℕ) (meant : Stepped (State Batch)) (before : State Batch) (p q : Progress) (old new : Store)
    (account : Account) (stop : PlainStop) (mode : ErrorMode) → Stops stop meant before → run_of settings (tree_of new root) q account ≡ before
    → q.steps ≡ p.steps → q.over ≡ p.over → Fits settings (tree_of new root) q → KeepsOthers root old new → mode ≡ settings.error_mode
    → StopsUnder mode stop → Leaves settings root meant before p.steps p q old new account (end_at stop)
leaves_stopped settings root meant before p q old new account stop mode stops same steps over fits keeps is under = record {
  step = came_stopped stop meant before (run_of settings (tree_of new root) q account) stops same;
  counted = steps;
  over = over;
  fits = fits;
  keeps = keeps;
  failed = stopped_under mode settings.error_mode stop is under;
}

-- the run with other work left of the group at hand, which a move puts anew
abbrev pub with_work : State Batch → List Group → List Place → Work → State Batch
with_work s groups places work = record s { cursor = record s.cursor { groups = groups; targets = places; work = work } }

group_apart : (s : State Batch) (gs groups : List Group) (places : List Place) (work : Work)
    → next_group log_trees (with_work s groups places work) gs ≡ next_group log_trees s gs
group_apart s [] groups places work = refl
group_apart s (g ∷ gs) groups places work = refl

pub target_apart : (s : State Batch) (g : Group) (gs : List Group) (ps : List Place) (groups : List Group) (places : List Place) (work : Work)
    → next_target log_trees (with_work s groups places work) g gs ps ≡ next_target log_trees s g gs ps
target_apart s g gs [] groups places work = group_apart (ended_one s) gs groups places work
target_apart s g gs (p ∷ ps) groups places work = refl

work_apart : (s : State Batch) (h : Here) (left : Work) (groups : List Group) (places : List Place) (work : Work)
    → left_on log_trees (with_work s groups places work) h left ≡ left_on log_trees s h left
work_apart s h (running index [] cache) groups places work = target_apart s h.group h.groups h.places groups places work
work_apart s h (running index (x ∷ xs) cache) groups places work = refl
work_apart s h judging groups places work = refl

-- what a statement that went on left
abbrev beside_account : {X : Type 0} → X → Account → Result (X × Account) Note
beside_account x account = Ok (x, account)

ok_same : {Y E : Type 0} (u v : Y) → ◌≡◌ {A = Result Y E} (Ok u) (Ok v) → u ≡ v
ok_same u v is = cc is

ran_to : {X : Type 0} (noted : Result Account Note) (one other : X) (now : Account) → (noted >>= beside_account one) ≡ beside_account other now → one ≡ other
ran_to {X = X} (Ok a) one other now is = ap (λ (u : X × Account). u.0) (ok_same {Y = X × Account} {E = Note} (one, a) (other, now) is)
ran_to (Err note) one other now is = absurd (cc is)

abbrev running_of : ℕ → Pairs → Running
running_of index cache = record { index = index; cache = cache }

-- statements that run are the same where their parts are
pub same_running : (a b : Running) → a.index ≡ b.index → a.cache ≡ b.cache → a ≡ b
same_running a b index cache =
    ap (λ (n : ℕ). running_of n a.cache) index ∙ ap (λ (c : Pairs). running_of b.index c) cache

module _ (settings : TransformSettings) (tree : Batch) (p : Progress) (t : Target) (at : AtTarget settings tree p t) where
  -- the turn of the target's group is that of the run
  same_turn : (account : Account) → turn_of t.turn ≡ turn settings.error_mode (run_of settings tree p account).cursor t.turn.group.now
  same_turn account =
      ap (λ (mode : ErrorMode). record { mode = mode; number = t.turn.number; group = t.turn.group.now }) at.mode
      ∙ ap (λ (number : ℕ). record { mode = settings.error_mode; number = number; group = t.turn.group.now }) at.number

  -- the conditions were judged on the target
  pub was_judged : (account : Account) (r : Result (Bool × Account) Note)
      → taken log_trees (spot_of (turn_of t.turn) part.GroupCondition t.place) t.turn.group.now.conditions
      (stage tree t.turn.group.now.context t.place no_pairs) account ≡ r
      → target_step log_trees settings.error_mode (run_of settings tree p account) (here settings tree p t.turn.group.now t.place) judging
      ≡ judged log_trees (run_of settings tree p account) (here settings tree p t.turn.group.now t.place) r
  was_judged account r is =
      ap (λ (u : GroupTurn). judged log_trees (run_of settings tree p account) (here settings tree p t.turn.group.now t.place)
      (taken log_trees (spot_of u part.GroupCondition t.place) t.turn.group.now.conditions (stage tree t.turn.group.now.context t.place no_pairs) account))
      (sym (same_turn account))
      ∙ ap (judged log_trees (run_of settings tree p account) (here settings tree p t.turn.group.now t.place)) is

  -- its targets are those that are listed
  pub at_fits : Fits settings tree p
  at_fits group is =
      let same : t.turn.group.now ≡ group = cc (at.group, is) in
      subst (λ (listed : Option (List Place)). IfSome listed (λ places. places ≡ targets tree group.context)) (sym at.listed)
      (ap (λ (g : Group). targets tree g.context) same)

  pub stops_judged : (account : Account) (stop : PlainStop)
      → StopsAs stop
      (taken log_trees (spot_of (turn_of t.turn) part.GroupCondition t.place) t.turn.group.now.conditions
      (stage tree t.turn.group.now.context t.place no_pairs) account)
      → Stops stop
      (target_step log_trees settings.error_mode (run_of settings tree p account) (here settings tree p t.turn.group.now t.place) judging)
      (run_of settings tree p account)
  stops_judged account (Failed note) is = was_judged account (Err note) is
  stops_judged account NoMemory is = tt

  -- A statement was run on the target.
  module _ (r : Running) (x : PlannedStatement) (next : slice_get t.turn.group.now.statements r.index ≡ Some x) (account : Account) where
    abbrev pub at_statement : State Batch
    at_statement = run_of settings tree (record p { running = Some r }) account

    abbrev pub statement_step : Stepped (State Batch)
    statement_step =
        target_step log_trees settings.error_mode at_statement (here settings tree p t.turn.group.now t.place)
        (running r.index (drop r.index t.turn.group.now.statements) r.cache)

    pub was_run : (ran : Result (Stage Batch × Account) Note)
        → statement_run log_trees (spot_of (turn_of t.turn) part.Statement t.place) r.index x (stage tree t.turn.group.now.context t.place r.cache) account ≡ ran
        → statement_step
        ≡ ran_one log_trees at_statement (here settings tree p t.turn.group.now t.place) (suc r.index) (drop (suc r.index) t.turn.group.now.statements) ran
    was_run ran is =
        let h = here settings tree p t.turn.group.now t.place in
        let xs = drop (suc r.index) t.turn.group.now.statements in
        ap (λ (ys : List PlannedStatement). target_step log_trees settings.error_mode at_statement h (running r.index ys r.cache))
        (drop_there t.turn.group.now.statements r.index x next)
        ∙ ap (λ (u : GroupTurn). ran_one log_trees at_statement h (suc r.index) xs
        (statement_run log_trees (spot_of u part.Statement t.place) r.index x (stage tree t.turn.group.now.context t.place r.cache) account))
        (sym (same_turn account))
        ∙ ap (ran_one log_trees at_statement h (suc r.index) xs) is

    pub stops_run : (stop : PlainStop)
        → StopsAs stop
        (statement_run log_trees (spot_of (turn_of t.turn) part.Statement t.place) r.index x (stage tree t.turn.group.now.context t.place r.cache) account)
        → Stops stop statement_step at_statement
    stops_run (Failed note) is = was_run (Err note) is
    stops_run NoMemory is = tt

    -- it went on, and left this tree, this cache and this account
    module _ (other : Batch) (cache : Pairs) (now : Account)
        (went : statement_run log_trees (spot_of (turn_of t.turn) part.Statement t.place) r.index x (stage tree t.turn.group.now.context t.place r.cache) account
        ≡ Ok (stage other t.turn.group.now.context t.place cache, now)) where
      pub same_targets : targets other t.turn.group.now.context ≡ targets tree t.turn.group.now.context
      same_targets =
          let s = stage tree t.turn.group.now.context t.place r.cache in
          let spot = spot_of (turn_of t.turn) part.Statement t.place in
          ap (λ (u : Stage Batch). targets u.tree t.turn.group.now.context)
          (sym (ran_to (account_after spot r.index (ran log_trees x s).0 account) (ran log_trees x s).1 (stage other t.turn.group.now.context t.place cache) now went))
          ∙ keeps_targets x s t.turn.group.now.context

      pub at_on : AtTarget settings other p t
      at_on = record {
        mode = at.mode;
        number = at.number;
        group = at.group;
        listed = at.listed ∙ ap (λ (ps : List Place). Some ps) (sym same_targets);
        place = ap (λ (ps : List Place). slice_get ps p.target) same_targets ∙ at.place;
      }

      pub went_on : (index : ℕ) → index ≡ suc r.index
          → statement_step
          ≡ left_on log_trees (run_of settings other p now) (here settings other p t.turn.group.now t.place)
          (running index (drop index t.turn.group.now.statements) cache)
      went_on index is =
          let h = here settings tree p t.turn.group.now t.place in
          let s : State Batch = record at_statement { tree = other; account = now } in
          let left = running (suc r.index) (drop (suc r.index) t.turn.group.now.statements) cache in
          was_run (Ok (stage other t.turn.group.now.context t.place cache, now)) went
          ∙ work_apart (run_of settings other p now) h left s.cursor.groups s.cursor.targets s.cursor.work
          ∙ ap (λ (ps : List Place). left_on log_trees (run_of settings other p now) (record h { places = drop (suc p.target) ps }) left) (sym same_targets)
          ∙ ap (λ (n : ℕ). left_on log_trees (run_of settings other p now) (here settings other p t.turn.group.now t.place)
          (running n (drop n t.turn.group.now.statements) cache)) (sym is)

  -- no statement is left
  pub none_left : (r : Running) (account : Account) → drop r.index t.turn.group.now.statements ≡ []
      → target_step log_trees settings.error_mode (run_of settings tree (record p { running = Some r }) account) (here settings tree p t.turn.group.now t.place)
      (running r.index (drop r.index t.turn.group.now.statements) r.cache)
      ≡ next_target log_trees (run_of settings tree p account) t.turn.group.now (drop (suc p.group) settings.log_statements)
      (drop (suc p.target) (targets tree t.turn.group.now.context))
  none_left r account none =
      let h = here settings tree p t.turn.group.now t.place in
      let s = run_of settings tree (record p { running = Some r }) account in
      ap (λ (ys : List PlannedStatement). target_step log_trees settings.error_mode s h (running r.index ys r.cache)) none
      ∙ target_apart (run_of settings tree p account) h.group h.groups h.places s.cursor.groups s.cursor.targets s.cursor.work

-- A step in a group.
module _ (settings : TransformSettings) (tree : Batch) (p : Progress) (g : Group) (at : slice_get settings.log_statements p.group ≡ Some g)
    (account : Account) where
  abbrev pub group_step : Stepped (State Batch)
  group_step = groups_step log_trees settings.error_mode (run_of settings tree p account) (drop p.group settings.log_statements)

  in_group : group_step
      ≡ targets_step log_trees settings.error_mode (run_of settings tree p account) g (drop (suc p.group) settings.log_statements)
      (drop p.target (targets tree g.context))
  in_group =
      let s = run_of settings tree p account in
      let behind = drop (suc p.group) settings.log_statements in
      let dropped = drop_there settings.log_statements p.group g at in
      ap (groups_step log_trees settings.error_mode s) dropped
      ∙ ap (λ (gs : List Group). targets_step log_trees settings.error_mode s g behind (targets_at p.target tree gs)) dropped

  pub no_target : length (targets tree g.context) ≤ p.target
      → group_step ≡ next_group log_trees (run_of settings tree p account) (drop (suc p.group) settings.log_statements)
  no_target past =
      in_group
      ∙ ap (targets_step log_trees settings.error_mode (run_of settings tree p account) g (drop (suc p.group) settings.log_statements))
      (drop_past (targets tree g.context) p.target past)

  pub on_target : (place : Place) → slice_get (targets tree g.context) p.target ≡ Some place
      → group_step
      ≡ target_step log_trees settings.error_mode (run_of settings tree p account) (here settings tree p g place) (work_at g p.running)
  on_target place is =
      let s = run_of settings tree p account in
      in_group
      ∙ ap (targets_step log_trees settings.error_mode s g (drop (suc p.group) settings.log_statements)) (drop_there (targets tree g.context) p.target place is)
      ∙ ap (λ (gs : List Group). target_step log_trees settings.error_mode s (here settings tree p g place) (first_at p.running gs))
      (drop_there settings.log_statements p.group g at)

  abbrev at_hand : Work → List Group → State Batch
  at_hand w behind = record {
    tree = tree;
    cursor = record { number = p.group; groups = g ∷ behind; targets = drop p.target (targets tree g.context); work = w; steps = p.steps; ended = p.ended };
    account = account;
  }

  -- at the first statement, where statements run at once
  pub run_begun : p.running ≡ None → first_work g ≡ running 0 g.statements no_pairs
      → run_of settings tree (record p { running = Some first_running }) account ≡ run_of settings tree p account
  run_begun none first =
      let dropped = drop_there settings.log_statements p.group g at in
      let behind = drop (suc p.group) settings.log_statements in
      ap (λ (gs : List Group). with_left tree (record p { running = Some first_running }) account gs) dropped
      ∙ ap (λ (w : Work). at_hand w behind) (sym first)
      ∙ ap (λ (o : Option Running). at_hand (work_at g o) behind) (sym none)
      ∙ sym (ap (λ (gs : List Group). with_left tree p account gs) dropped)
