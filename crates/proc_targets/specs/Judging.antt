-- Conditions that are judged on a target, in order until one holds.
use Rattle.std.specs.Prelude.{ℕ, suc, Bool, false, cond, List, [], ◌∷◌, Result, Ok, Err}
use Rattle.conf_json.specs.Account.{Account, under}
use Rattle.conf_json.specs.declared.account.Note.{Note}
use Rattle.ottl_eval.specs.Stages.{Stage}
use Rattle.ottl_eval.specs.Values.{holds}
use Rattle.ottl_plan.specs.declared.planned.PlannedCondition.{PlannedCondition}
use Rattle.pdata_tree.specs.Operations.{TreeOps}
use Rattle.pdata_tree.specs.declared.path.PathTo.{PathTo}
use Rattle.pdata_value.specs.declared.error.EvalErr.{EvalErr}
use Rattle.pdata_value.specs.declared.pairs.Pairs.{Pairs}
use Rattle.proc_targets.specs.declared.spot.Spot.{Spot}

infixl 10 ◌>>=◌
-- what follows, where no error ended the work before it
abbrev pub ◌>>=◌ : {X Y : Type 0} → Result X Note → (X → Result Y Note) → Result Y Note
(Ok x) >>= go = go x
(Err note) >>= go = Err note

-- the empty cache
abbrev pub no_pairs : Pairs
no_pairs = record { items = [] }

-- the note of an error of the condition or the statement with that number
abbrev pub note_at : Spot → ℕ → EvalErr → Note
note_at spot index err = record {
  part = spot.part;
  group = spot.group;
  index = index;
  context = spot.context;
  place = spot.place;
  err = err;
}

-- whether a condition holds, and the account behind it: one that errs doesn't hold where the work
-- goes on
abbrev pub truth_after : Spot → ℕ → Result Bool EvalErr → Account → Result (Bool × Account) Note
truth_after spot index (Ok truth) account = Ok (truth, account)
truth_after spot index (Err err) account =
    under spot.mode (note_at spot index err) account >>= λ noted. Ok (false, noted)

module _ {T : Type 0} (ops : TreeOps T PathTo) where
  -- whether one of the conditions from that number on holds, judged in order until one does
  abbrev pub any_holds :
      Spot → ℕ → List PlannedCondition → Stage T → Account → Result (Bool × Account) Note
  any_holds spot index [] s account = Ok (false, account)
  any_holds spot index (c ∷ cs) s account =
      truth_after spot index (holds ops c.expr s) account
      >>= λ t. cond t.0 (Ok t) (any_holds spot (suc index) cs s t.1)
