-- What the calls of a routing connector answer.
use Rattle.std.specs.Prelude.{◌≡◌, map, Result, Ok, Err}
use Rattle.conf_json.specs.Account.{Account}
use Rattle.conf_json.specs.declared.account.Note.{Note}
use Rattle.conf_json.specs.declared.account.PlainStop.{PlainStop}
use Rattle.pdata_tree.specs.declared.batch.Batch.{Batch}
use Rattle.proc_targets.specs.Ends.{StopsAs}
use Rattle.share_cow.specs.Scene.{tree_of}
use Rattle.share_cow.specs.Store.{Store}
use Rattle.routing_conn.specs.Meaning.{Judge, Routed}
use Rattle.routing_conn.specs.declared.forest.Routed.{Routed as GivenRoots}
use Rattle.routing_conn.specs.declared.judging.RowJudge.{RowJudge}
use Rattle.routing_conn.specs.declared.routing.PlainRouted.{PlainRouted}

-- the answer, seen by `view`, and the account are those that are meant, or the work ended with the
-- note that is meant
abbrev pub EndsBy :
    {R X : Type 0} → (R → X) → Account → Result R PlainStop → Result (X × Account) Note → Type 0
EndsBy view now (Ok answer) meant = meant ≡ Ok (view answer, now)
EndsBy view now (Err stop) meant = StopsAs stop meant

-- the trees that were given
abbrev pub trees_of : PlainRouted → Routed Batch
trees_of given = record { rows = given.rows; rest = given.rest }

-- the trees of the roots that were given
abbrev pub trees_in : Store → GivenRoots → Routed Batch
trees_in forest given = record {
  rows = map (tree_of forest) given.rows.roots;
  rest = tree_of forest given.rest;
}

-- Inside this crate: a row as it is judged.

-- the row that a judge holds
abbrev pub judge_of : RowJudge → Judge
judge_of judge = record { mode = judge.mode; index = judge.index; row = judge.row.now }
