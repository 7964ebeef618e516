-- The transform processor step by step. A step judges the conditions of a group on one target,
-- where there are any, or runs one statement on one target; a target of a group that has neither is
-- one step, and a group without targets is one step.
use Rattle.std.specs.Prelude.{◌≡◌, ℕ, suc, Bool, true, false, List, [], ◌∷◌, Result, Ok, Err}
use Rattle.conf_draft.specs.declared.draft.ErrorMode.{ErrorMode}
use Rattle.conf_json.specs.Account.{Account}
use Rattle.conf_json.specs.declared.account.Note.{Note}
use Rattle.conf_json.specs.declared.account.Part.TheVariants.{GroupCondition, Statement}
use Rattle.conf_json.specs.declared.settings.Group.{Group}
use Rattle.conf_json.specs.declared.settings.TransformSettings.{TransformSettings}
use Rattle.ottl_eval.specs.Stages.{Stage, stage}
use Rattle.ottl_plan.specs.declared.planned.PlannedCondition.{PlannedCondition}
use Rattle.ottl_plan.specs.declared.planned.PlannedStatement.{PlannedStatement}
use Rattle.pdata_tree.specs.Operations.{TreeOps}
use Rattle.pdata_tree.specs.declared.path.PathTo.{PathTo}
use Rattle.pdata_tree.specs.declared.place.Place.{Place}
use Rattle.pdata_value.specs.declared.pairs.Pairs.{Pairs}
use Rattle.proc_targets.specs.Judging.{◌>>=◌, no_pairs}
use Rattle.proc_targets.specs.Stepping.{Stepped, On, End, Fail}
use Rattle.transform_proc.specs.Meaning.{GroupTurn, spot_of, statement_run, statements_run, taken}
use Rattle.transform_proc.specs.Meaning.{target_run, targets_run, groups_run, transformed}

-- what is left to do on a target
pub data Work : Type 0 where
  -- its conditions are still to be judged, if there are any
  judging : Work
  -- these statements, from that number on, with that cache
  running : ℕ → List PlannedStatement → Pairs → Work

-- what is left to do: the groups that aren't ended, with the number of the first; the targets of
-- that one that aren't ended; and the work on the first of these
pub record Cursor : Type 0 where
  pub number : ℕ
  pub groups : List Group
  pub targets : List Place
  pub work : Work
  -- the steps that were done, and the targets that were ended
  pub steps : ℕ
  pub ended : ℕ

-- a run: the tree, what is left to do, and the account
pub record State (T : Type 0) : Type 0 where
  pub tree : T
  pub cursor : Cursor
  pub account : Account

-- the work on a target at its start: statements run at once where there are no conditions
abbrev pub work_of : List PlannedCondition → List PlannedStatement → Work
work_of [] (x ∷ xs) = running 0 (x ∷ xs) no_pairs
work_of _ _ = judging

-- the work on a target of a group at its start
abbrev pub first_work : Group → Work
first_work g = work_of g.conditions g.statements

-- the first group left, under a mode
abbrev pub turn : ErrorMode → Cursor → Group → GroupTurn
turn mode c g = record { mode = mode; number = c.number; group = g }

-- the state with one target more that was ended
abbrev pub ended_one : {T : Type 0} → State T → State T
ended_one s = record s { cursor = record s.cursor { ended = suc s.cursor.ended } }

-- the state with one step more that was done
abbrev pub stepped_one : {T : Type 0} → State T → State T
stepped_one s = record s { cursor = record s.cursor { steps = suc s.cursor.steps } }

-- the state with these groups left
abbrev pub with_groups : {T : Type 0} → State T → ℕ → List Group → List Place → Work → State T
with_groups s number groups places work = record s {
  cursor = record s.cursor {
    number = number;
    groups = groups;
    targets = places;
    work = work;
  };
}

-- the first group that is left and those behind it; its first target that is left, and those behind
pub record Here : Type 0 where
  pub group : Group
  pub groups : List Group
  pub place : Place
  pub places : List Place

-- the state with that work left on the target
abbrev pub at_work : {T : Type 0} → State T → Here → Work → State T
at_work s h work = with_groups s s.cursor.number (h.group ∷ h.groups) (h.place ∷ h.places) work

-- a cursor that has done no step
abbrev pub begun : List Group → List Place → Work → Cursor
begun groups places work = record {
  number = 0;
  groups = groups;
  targets = places;
  work = work;
  steps = 0;
  ended = 0;
}

module _ {T : Type 0} (ops : TreeOps T PathTo) where
  -- the groups behind the first are left
  abbrev pub next_group : State T → List Group → Stepped (State T)
  next_group s [] = End (with_groups s (suc s.cursor.number) [] [] judging)
  next_group s (g ∷ gs) =
      On (with_groups s (suc s.cursor.number) (g ∷ gs) (ops.targets s.tree g.context)
      (first_work g))

  -- the targets behind the first are left of a group
  abbrev pub next_target : State T → Group → List Group → List Place → Stepped (State T)
  next_target s g gs [] = next_group (ended_one s) gs
  next_target s g gs (p ∷ ps) =
      On (with_groups (ended_one s) s.cursor.number (g ∷ gs) (p ∷ ps) (first_work g))

  -- this is left to do on the target
  abbrev pub left_on : State T → Here → Work → Stepped (State T)
  left_on s h (running index [] cache) = next_target s h.group h.groups h.places
  left_on s h (running index (x ∷ xs) cache) = On (at_work s h (running index (x ∷ xs) cache))
  left_on s h judging = On (at_work s h judging)

  -- the conditions of the group were judged
  abbrev pub judged : State T → Here → Result (Bool × Account) Note → Stepped (State T)
  judged s h (Ok (true, account)) =
      left_on (record s { account = account }) h (running 0 h.group.statements no_pairs)
  judged s h (Ok (false, account)) =
      next_target (record s { account = account }) h.group h.groups h.places
  judged s h (Err note) = Fail s note

  -- a statement was run, and these from that number on stand behind it
  abbrev pub ran_one :
      State T → Here → ℕ → List PlannedStatement → Result (Stage T × Account) Note
      → Stepped (State T)
  ran_one s h index xs (Ok t) =
      left_on (record s { tree = t.0.tree; account = t.1 }) h (running index xs t.0.cache)
  ran_one s h index xs (Err note) = Fail s note

  -- a step on a target
  abbrev pub target_step : ErrorMode → State T → Here → Work → Stepped (State T)
  target_step mode s h judging =
      judged s h (taken ops (spot_of (turn mode s.cursor h.group) GroupCondition h.place)
      h.group.conditions (stage s.tree h.group.context h.place no_pairs) s.account)
  target_step mode s h (running index [] cache) = next_target s h.group h.groups h.places
  target_step mode s h (running index (x ∷ xs) cache) =
      ran_one s h (suc index) xs
      (statement_run ops (spot_of (turn mode s.cursor h.group) Statement h.place) index x
      (stage s.tree h.group.context h.place cache) s.account)

  -- a step on the targets that are left of a group
  abbrev pub targets_step : ErrorMode → State T → Group → List Group → List Place
      → Stepped (State T)
  targets_step mode s g gs [] = next_group s gs
  targets_step mode s g gs (p ∷ ps) =
      target_step mode s (record { group = g; groups = gs; place = p; places = ps }) s.cursor.work

  -- a step on the groups that are left
  abbrev pub groups_step : ErrorMode → State T → List Group → Stepped (State T)
  groups_step mode s [] = End s
  groups_step mode s (g ∷ gs) = targets_step mode s g gs s.cursor.targets

  -- a step; the one that fails counts as done
  abbrev pub transform_step : ErrorMode → State T → Stepped (State T)
  transform_step mode s = groups_step mode (stepped_one s) s.cursor.groups

  -- a run at its beginning; without groups it has no steps
  abbrev pub state_of : List Group → T → Account → State T
  state_of [] tree account = record {
    tree = tree;
    cursor = begun [] [] judging;
    account = account;
  }
  state_of (g ∷ gs) tree account = record {
    tree = tree;
    cursor = begun (g ∷ gs) (ops.targets tree g.context) (first_work g);
    account = account;
  }

  -- What the steps come to.

  -- what the work that is left makes of a tree
  abbrev pub work_left : GroupTurn → Place → Work → T → Account → Result (T × Account) Note
  work_left g p judging tree account = target_run ops g p tree account
  work_left g p (running index xs cache) tree account =
      statements_run ops (spot_of g Statement p) index xs (stage tree g.group.context p cache)
      account

  -- what the targets that are left make of it, with that work on the first
  abbrev pub targets_left : GroupTurn → List Place → Work → T → Account → Result (T × Account) Note
  targets_left g [] work tree account = Ok (tree, account)
  targets_left g (p ∷ ps) work tree account =
      work_left g p work tree account >>= λ t. targets_run ops g ps t.0 t.1

  -- what the groups that are left make of it
  abbrev pub groups_left :
      ErrorMode → Cursor → List Group → T → Account → Result (T × Account) Note
  groups_left mode c [] tree account = Ok (tree, account)
  groups_left mode c (g ∷ gs) tree account =
      targets_left (turn mode c g) c.targets c.work tree account
      >>= λ t. groups_run ops mode (suc c.number) gs t.0 t.1

  -- what all that is left makes of the tree
  abbrev pub rest_of : ErrorMode → State T → Result (T × Account) Note
  rest_of mode s = groups_left mode s.cursor s.cursor.groups s.tree s.account

  -- what a step came to leaves what is meant: the rest, what stands at the end, or the note
  abbrev pub Leaves : ErrorMode → Result (T × Account) Note → Stepped (State T) → Type 0
  Leaves mode meant (On t) = rest_of mode t ≡ meant
  Leaves mode meant (End t) = meant ≡ Ok (t.tree, t.account)
  Leaves mode meant (Fail t note) = meant ≡ Err note

  -- a step leaves what all that was left makes of the tree
  abbrev pub AddsUp : ErrorMode → State T → Type 0
  AddsUp mode s = Leaves mode (rest_of mode s) (transform_step mode s)

  -- all that is left at the beginning makes of the tree what the processor does
  abbrev pub BeginsWhole : TransformSettings → T → Account → Type 0
  BeginsWhole settings tree account =
      rest_of settings.error_mode (state_of settings.log_statements tree account)
      ≡ transformed ops settings tree account
