-- The nodes that rows make at most.
use Rattle.std.specs.Prelude.{◌≤◌, ◌+◌, ℕ, List, [], ◌∷◌, Result, Ok, Err, ⊤}
use Rattle.conf_draft.specs.declared.draft.Action.{Action}
use Rattle.conf_draft.specs.declared.draft.Action.TheVariants.{Move, Copy}
use Rattle.conf_json.specs.Account.{Account}
use Rattle.conf_json.specs.declared.account.Note.{Note}
use Rattle.conf_json.specs.declared.account.PlainStop.{PlainStop}
use Rattle.conf_json.specs.declared.account.PlainStop.TheVariants.{NoMemory}
use Rattle.conf_json.specs.declared.settings.RouteRow.{RouteRow}
use Rattle.conf_json.specs.declared.settings.RouteSettings.{RouteSettings}
use Rattle.pdata_tree.specs.Operations.{log_trees}
use Rattle.pdata_tree.specs.Tree.{spine}
use Rattle.pdata_tree.specs.declared.batch.Batch.{Batch}
use Rattle.routing_conn.specs.Meaning.{Judge, judges, row_gives}

-- the spine of a row's tree, and of the tree that it leaves where it moves
abbrev pub parts_bill : Action → Batch × Batch → ℕ
parts_bill Move parts = spine parts.0 + spine parts.1
parts_bill Copy parts = spine parts.0

-- so where the row was routed; one that errs makes nothing
abbrev pub row_bill : RouteRow → Result ((Batch × Batch) × Account) Note → ℕ
row_bill row (Ok gives) = parts_bill row.action gives.0
row_bill row (Err note) = 0

-- what comes behind a row that was routed
abbrev pub behind_bill :
    (Batch → Account → ℕ) → Result ((Batch × Batch) × Account) Note → ℕ
behind_bill rest (Ok gives) = rest gives.0.1 gives.1
behind_bill rest (Err note) = 0

-- the rows up to one that errs
abbrev pub bill_of : List Judge → Batch → Account → ℕ
bill_of [] tree account = 0
bill_of (judge ∷ judges) tree account =
    row_bill judge.row (row_gives log_trees judge tree account)
    + behind_bill (bill_of judges) (row_gives log_trees judge tree account)

-- the rows of a table
abbrev pub settings_bill : RouteSettings → Batch → Account → ℕ
settings_bill settings = bill_of (judges settings.error_mode 0 settings.table)

-- a call made no more nodes than the bill, unless memory ran out
abbrev pub MakesUpTo : {X : Type 0} → Result X PlainStop → ℕ → ℕ → ℕ → Type 0
MakesUpTo (Err NoMemory) old new bill = ⊤
MakesUpTo _ old new bill = new ≤ old + bill
