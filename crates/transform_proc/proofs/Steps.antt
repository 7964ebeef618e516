-- The steps add up to the meaning.
use Rattle.std.proofs.Common.{◌≡◌, ℕ, suc, Bool, true, false, cond, List, [], ◌∷◌, ap, refl, subst, sym, Result, Ok, Err}
use Rattle.conf_draft.specs.declared.draft.ErrorMode.{ErrorMode}
use Rattle.conf_json.specs.Account.{Account}
use Rattle.conf_json.specs.declared.account.Note.{Note}
use Rattle.conf_json.specs.declared.account.Part.TheVariants.{GroupCondition, Statement}
use Rattle.conf_json.specs.declared.settings.Group.{Group}
use Rattle.conf_json.specs.declared.settings.TransformSettings.{TransformSettings}
use Rattle.ottl_eval.specs.Stages.{Stage, stage}
use Rattle.ottl_eval.specs.Statements.{ran}
use Rattle.ottl_plan.specs.declared.planned.PlannedCondition.{PlannedCondition}
use Rattle.ottl_plan.specs.declared.planned.PlannedStatement.{PlannedStatement}
use Rattle.pdata_tree.specs.Operations.{TreeOps}
use Rattle.pdata_tree.specs.declared.path.PathTo.{PathTo}
use Rattle.pdata_tree.specs.declared.place.Context.{Context}
use Rattle.pdata_tree.specs.declared.place.Place.{Place}
use Rattle.proc_targets.specs.Judging.{◌>>=◌, no_pairs}
use Rattle.transform_proc.proofs.Spots.{ran_beside}
use Rattle.transform_proc.specs.Meaning.{GroupTurn, account_after, spot_of, statement_run, statements_run, taken, target_run, targets_run, groups_run}
use Rattle.transform_proc.specs.Steps.{Work, judging, running, Cursor, State, work_of, first_work, turn, ended_one, stepped_one, Here, next_group, next_target, left_on, judged, ran_one, target_step, targets_step, groups_step, state_of, work_left, targets_left, groups_left, rest_of, Leaves, AddsUp, BeginsWhole}

module _ {T : Type 0} (ops : TreeOps T PathTo) where
  -- the work on a target at its start is the whole work on it
  started : (mode : ErrorMode) (number : ℕ) (context : Context) (cs : List PlannedCondition) (xs : List PlannedStatement) (p : Place) (tree : T)
      (account : Account)
      → work_left ops (record { mode = mode; number = number; group = record { context = context; conditions = cs; statements = xs } }) p (work_of cs xs) tree
      account
      ≡ target_run ops (record { mode = mode; number = number; group = record { context = context; conditions = cs; statements = xs } }) p tree account
  started mode number context [] [] p tree account = refl
  started mode number context [] (x ∷ xs) p tree account = refl
  started mode number context (c ∷ cs) [] p tree account = refl
  started mode number context (c ∷ cs) (x ∷ xs) p tree account = refl

  targets_started : (g : GroupTurn) (ps : List Place) (tree : T) (account : Account)
      → targets_left ops g ps (first_work g.group) tree account ≡ targets_run ops g ps tree account
  targets_started g [] tree account = refl
  targets_started g (p ∷ ps) tree account =
      ap (λ (r : Result (T × Account) Note). r >>= λ t. targets_run ops g ps t.0 t.1)
      (started g.mode g.number g.group.context g.group.conditions g.group.statements p tree account)

  -- the groups behind the first
  group_next : (mode : ErrorMode) (s : State T) (gs : List Group)
      → Leaves ops mode (groups_run ops mode (suc s.cursor.number) gs s.tree s.account) (next_group ops s gs)
  group_next mode s [] = refl
  group_next mode s (g ∷ gs) =
      let new : GroupTurn = record { mode = mode; number = suc s.cursor.number; group = g } in
      ap (λ (r : Result (T × Account) Note). r >>= λ t. groups_run ops mode (suc (suc s.cursor.number)) gs t.0 t.1)
      (targets_started new (ops.targets s.tree g.context) s.tree s.account)

  -- the targets behind the first
  target_next : (mode : ErrorMode) (s : State T) (g : Group) (gs : List Group) (ps : List Place)
      → Leaves ops mode
      (targets_run ops (turn mode s.cursor g) ps s.tree s.account >>= λ t. groups_run ops mode (suc s.cursor.number) gs t.0 t.1)
      (next_target ops s g gs ps)
  target_next mode s g gs [] = group_next mode (ended_one s) gs
  target_next mode s g gs (p ∷ ps) =
      ap (λ (r : Result (T × Account) Note). r >>= λ t. groups_run ops mode (suc s.cursor.number) gs t.0 t.1)
      (targets_started (turn mode s.cursor g) (p ∷ ps) s.tree s.account)

  -- what all that is left makes of a tree, where that was made on the target
  abbrev whole : ErrorMode → Cursor → Here → Result (T × Account) Note → Result (T × Account) Note
  whole mode c h r =
      (r >>= λ t. targets_run ops (turn mode c h.group) h.places t.0 t.1) >>= λ t. groups_run ops mode (suc c.number) h.groups t.0 t.1

  work_next : (mode : ErrorMode) (s : State T) (h : Here) (work : Work)
      → Leaves ops mode (whole mode s.cursor h (work_left ops (turn mode s.cursor h.group) h.place work s.tree s.account)) (left_on ops s h work)
  work_next mode s h judging = refl
  work_next mode s h (running index [] cache) = target_next mode s h.group h.groups h.places
  work_next mode s h (running index (x ∷ xs) cache) = refl

  -- the conditions
  judged_next : (mode : ErrorMode) (s : State T) (h : Here) (r : Result (Bool × Account) Note)
      → Leaves ops mode
      (whole mode s.cursor h (r >>= λ t. cond t.0
      (statements_run ops (spot_of (turn mode s.cursor h.group) Statement h.place) 0 h.group.statements (stage s.tree h.group.context h.place no_pairs) t.1)
      (Ok (s.tree, t.1))))
      (judged ops s h r)
  judged_next mode s h (Ok (true, account)) = work_next mode (record s { account = account }) h (running 0 h.group.statements no_pairs)
  judged_next mode s h (Ok (false, account)) = target_next mode (record s { account = account }) h.group h.groups h.places
  judged_next mode s h (Err note) = refl

  -- a stage that stands on the target
  abbrev Stands : Here → Result (Stage T × Account) Note → Type 0
  Stands h (Ok t) = t.0 ≡ stage t.0.tree h.group.context h.place t.0.cache
  Stands h (Err note) = Unit {0}

  stands : (h : Here) (st : Stage T) (a : Result Account Note) → st ≡ stage st.tree h.group.context h.place st.cache
      → Stands h (a >>= λ noted. Ok (st, noted))
  stands h st (Ok account) is = is
  stands h st (Err note) is = tt

  -- a statement
  ran_next : (mode : ErrorMode) (s : State T) (h : Here) (index : ℕ) (xs : List PlannedStatement) (r : Result (Stage T × Account) Note) → Stands h r
      → Leaves ops mode
      (whole mode s.cursor h (r >>= λ t. statements_run ops (spot_of (turn mode s.cursor h.group) Statement h.place) index xs t.0 t.1))
      (ran_one ops s h index xs r)
  ran_next mode s h index xs (Ok t) is =
      let new : State T = record s { tree = t.0.tree; account = t.1 } in
      subst
      (λ (st : Stage T). Leaves ops mode
      (whole mode s.cursor h (statements_run ops (spot_of (turn mode s.cursor h.group) Statement h.place) index xs st t.1))
      (ran_one ops s h index xs (Ok t)))
      (sym is) (work_next mode new h (running index xs t.0.cache))
  ran_next mode s h index xs (Err note) is = refl

  target_adds : (mode : ErrorMode) (s : State T) (h : Here) (work : Work)
      → Leaves ops mode (whole mode s.cursor h (work_left ops (turn mode s.cursor h.group) h.place work s.tree s.account)) (target_step ops mode s h work)
  target_adds mode s h judging =
      judged_next mode s h
      (taken ops (spot_of (turn mode s.cursor h.group) GroupCondition h.place) h.group.conditions (stage s.tree h.group.context h.place no_pairs)
      s.account)
  target_adds mode s h (running index [] cache) = target_next mode s h.group h.groups h.places
  target_adds mode s h (running index (x ∷ xs) cache) =
      let here : Stage T = stage s.tree h.group.context h.place cache in
      let spot = spot_of (turn mode s.cursor h.group) Statement h.place in
      ran_next mode s h (suc index) xs (statement_run ops spot index x here s.account)
      (stands h (ran ops x here).1 (account_after spot index (ran ops x here).0 s.account) (ran_beside ops x here))

  targets_add : (mode : ErrorMode) (s : State T) (g : Group) (gs : List Group) (places : List Place)
      → Leaves ops mode
      (targets_left ops (turn mode s.cursor g) places s.cursor.work s.tree s.account >>= λ t. groups_run ops mode (suc s.cursor.number) gs t.0 t.1)
      (targets_step ops mode s g gs places)
  targets_add mode s g gs [] = group_next mode s gs
  targets_add mode s g gs (p ∷ ps) = target_adds mode s (record { group = g; groups = gs; place = p; places = ps }) s.cursor.work

  groups_add : (mode : ErrorMode) (s : State T) (groups : List Group)
      → Leaves ops mode (groups_left ops mode s.cursor groups s.tree s.account) (groups_step ops mode s groups)
  groups_add mode s [] = refl
  groups_add mode s (g ∷ gs) = targets_add mode s g gs s.cursor.targets

  pub adds_up : (mode : ErrorMode) (s : State T) → AddsUp ops mode s
  adds_up mode s = groups_add mode (stepped_one s) s.cursor.groups

  begins : (mode : ErrorMode) (groups : List Group) (tree : T) (account : Account)
      → rest_of ops mode (state_of ops groups tree account) ≡ groups_run ops mode 0 groups tree account
  begins mode [] tree account = refl
  begins mode (g ∷ gs) tree account =
      let first : GroupTurn = record { mode = mode; number = 0; group = g } in
      ap (λ (r : Result (T × Account) Note). r >>= λ t. groups_run ops mode 1 gs t.0 t.1)
      (targets_started first (ops.targets tree g.context) tree account)

  pub begins_whole : (settings : TransformSettings) (tree : T) (account : Account) → BeginsWhole ops settings tree account
  begins_whole settings tree account = begins settings.error_mode settings.log_statements tree account

pub ruleset steps_law = (adds_up, begins_whole)
