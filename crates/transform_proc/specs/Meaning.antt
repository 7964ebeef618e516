-- What the transform processor makes of a tree: a tree and an account, or the note with which the
-- work ends.
use Rattle.std.specs.Prelude.{ℕ, suc, Bool, true, cond, List, [], ◌∷◌, Result, Ok}
use Rattle.conf_draft.specs.declared.draft.ErrorMode.{ErrorMode}
use Rattle.conf_json.specs.Account.{Account, under}
use Rattle.conf_json.specs.declared.account.Note.{Note}
use Rattle.conf_json.specs.declared.account.Part.{Part}
use Rattle.conf_json.specs.declared.account.Part.TheVariants.{GroupCondition, Statement}
use Rattle.conf_json.specs.declared.settings.Group.{Group}
use Rattle.conf_json.specs.declared.settings.TransformSettings.{TransformSettings}
use Rattle.ottl_eval.specs.Stages.{Stage, stage}
use Rattle.ottl_eval.specs.Statements.{ran}
use Rattle.ottl_eval.specs.declared.outcome.Outcome.{Outcome}
use Rattle.ottl_eval.specs.declared.outcome.Outcome.TheVariants as outcome
use Rattle.ottl_plan.specs.declared.planned.PlannedCondition.{PlannedCondition}
use Rattle.ottl_plan.specs.declared.planned.PlannedStatement.{PlannedStatement}
use Rattle.pdata_tree.specs.Operations.{TreeOps}
use Rattle.pdata_tree.specs.declared.path.PathTo.{PathTo}
use Rattle.pdata_tree.specs.declared.place.Place.{Place}
use Rattle.proc_targets.specs.Judging.{◌>>=◌, any_holds, no_pairs, note_at}
use Rattle.proc_targets.specs.declared.spot.Spot.{Spot}

-- a group, its number, and the error mode
pub record GroupTurn : Type 0 where
  pub mode : ErrorMode
  pub number : ℕ
  pub group : Group

-- the spot of a group's conditions or statements on a target
abbrev pub spot_of : GroupTurn → Part → Place → Spot
spot_of g part place = record {
  mode = g.mode;
  part = part;
  group = g.number;
  context = g.group.context;
  place = place;
}

-- the account behind a statement: an error does what the mode says
abbrev pub account_after : Spot → ℕ → Outcome → Account → Result Account Note
account_after spot index (outcome.Err err) account =
    under spot.mode (note_at spot index err) account
account_after spot index _ account = Ok account

module _ {T : Type 0} (ops : TreeOps T PathTo) where
  -- a statement with that number: the stage and the account behind it
  abbrev pub statement_run :
      Spot → ℕ → PlannedStatement → Stage T → Account → Result (Stage T × Account) Note
  statement_run spot index x s account =
      let r = ran ops x s in
      account_after spot index r.0 account >>= λ noted. Ok (r.1, noted)

  -- statements in order, from that number on; each finds the cache that those before it left
  abbrev pub statements_run :
      Spot → ℕ → List PlannedStatement → Stage T → Account → Result (T × Account) Note
  statements_run spot index [] s account = Ok (s.tree, account)
  statements_run spot index (x ∷ xs) s account =
      statement_run spot index x s account
      >>= λ t. statements_run spot (suc index) xs t.0 t.1

  -- whether a target is taken: one of the group's conditions holds there, or it has none
  abbrev pub taken :
      Spot → List PlannedCondition → Stage T → Account → Result (Bool × Account) Note
  taken spot [] s account = Ok (true, account)
  taken spot (c ∷ cs) s account = any_holds ops spot 0 (c ∷ cs) s account

  -- a group on a target: where it is taken the statements run, both from the same stage
  abbrev pub scene_run : GroupTurn → Place → Stage T → Account → Result (T × Account) Note
  scene_run g place s account =
      taken (spot_of g GroupCondition place) g.group.conditions s account
      >>= λ t. cond t.0 (statements_run (spot_of g Statement place) 0 g.group.statements s t.1)
      (Ok (s.tree, t.1))

  -- the same from the empty cache
  abbrev pub target_run : GroupTurn → Place → T → Account → Result (T × Account) Note
  target_run g place tree account =
      scene_run g place (stage tree g.group.context place no_pairs) account

  -- a group on targets in order, each finished before the next
  abbrev pub targets_run : GroupTurn → List Place → T → Account → Result (T × Account) Note
  targets_run g [] tree account = Ok (tree, account)
  targets_run g (p ∷ ps) tree account =
      target_run g p tree account >>= λ t. targets_run g ps t.0 t.1

  -- a group on the targets of its context
  abbrev pub group_run : GroupTurn → T → Account → Result (T × Account) Note
  group_run g tree account = targets_run g (ops.targets tree g.group.context) tree account

  -- groups in order, from that number on
  abbrev pub groups_run : ErrorMode → ℕ → List Group → T → Account → Result (T × Account) Note
  groups_run mode number [] tree account = Ok (tree, account)
  groups_run mode number (g ∷ gs) tree account =
      group_run (record { mode = mode; number = number; group = g }) tree account
      >>= λ t. groups_run mode (suc number) gs t.0 t.1

  -- what the processor makes of a tree
  abbrev pub transformed : TransformSettings → T → Account → Result (T × Account) Note
  transformed settings tree account =
      groups_run settings.error_mode 0 settings.log_statements tree account
