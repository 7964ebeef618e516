-- The filter processor step by step. A step judges one log record, and the last one removes those
-- that go.
use Rattle.std.specs.Prelude.{◌≡◌, ℕ, suc, Bool, not, List, [], ◌∷◌, ◌++◌, Result, Ok, Err}
use Rattle.conf_json.specs.Account.{Account}
use Rattle.conf_json.specs.declared.account.Note.{Note}
use Rattle.conf_json.specs.declared.settings.FilterSettings.{FilterSettings}
use Rattle.pdata_tree.specs.Operations.{TreeOps}
use Rattle.pdata_tree.specs.declared.path.PathTo.{PathTo}
use Rattle.pdata_tree.specs.declared.place.Context.TheVariants.{Log}
use Rattle.pdata_tree.specs.declared.place.Place.{Place}
use Rattle.proc_targets.specs.Judging.{◌>>=◌}
use Rattle.proc_targets.specs.Stepping.{Stepped, On, End, Fail}
use Rattle.filter_proc.specs.Meaning.{dropped, filtered, flags_of}

-- what is left to do: the log records that aren't judged; and whether each of the others stays
pub record Cursor : Type 0 where
  pub targets : List Place
  pub flags : List Bool
  -- the steps that were done, and the targets that were ended
  pub steps : ℕ
  pub ended : ℕ

-- a run: the tree, what is left to do, and the account
pub record State (T : Type 0) : Type 0 where
  pub tree : T
  pub cursor : Cursor
  pub account : Account

-- the state with one step more that was done
abbrev pub stepped_one : {T : Type 0} → State T → State T
stepped_one s = record s { cursor = record s.cursor { steps = suc s.cursor.steps } }

-- the state behind a log record: whether it stays, the log records left, and the account
abbrev pub record_ended : {T : Type 0} → State T → Bool → List Place → Account → State T
record_ended s stays places account = record s {
  cursor = record s.cursor {
    targets = places;
    flags = s.cursor.flags ++ stays ∷ [];
    ended = suc s.cursor.ended;
  };
  account = account;
}

module _ {T : Type 0} (ops : TreeOps T PathTo) where
  -- a log record was judged, and these are left
  abbrev pub judged : State T → List Place → Result (Bool × Account) Note → Stepped (State T)
  judged s places (Ok t) = On (record_ended s (not t.0) places t.1)
  judged s places (Err note) = Fail s note

  -- a step on the log records that are left
  abbrev pub targets_step : FilterSettings → State T → List Place → Stepped (State T)
  targets_step settings s [] = End (record s { tree = ops.kept s.cursor.flags s.tree })
  targets_step settings s (p ∷ ps) = judged s ps (dropped ops settings s.tree p s.account)

  -- a step; the one that fails counts as done
  abbrev pub filter_step : FilterSettings → State T → Stepped (State T)
  filter_step settings s = targets_step settings (stepped_one s) s.cursor.targets

  -- a run at its beginning
  abbrev pub state_of : T → Account → State T
  state_of tree account = record {
    tree = tree;
    cursor = record { targets = ops.targets tree Log; flags = []; steps = 0; ended = 0 };
    account = account;
  }

  -- What the steps come to.

  -- what all that is left makes of the tree, where these log records aren't judged
  abbrev pub targets_left : FilterSettings → State T → List Place → Result (T × Account) Note
  targets_left settings s places =
      flags_of ops settings s.tree places s.account
      >>= λ u. Ok (ops.kept (s.cursor.flags ++ u.0) s.tree, u.1)

  -- what all that is left makes of the tree
  abbrev pub rest_of : FilterSettings → State T → Result (T × Account) Note
  rest_of settings s = targets_left settings s s.cursor.targets

  -- what a step came to leaves what is meant: the rest, what stands at the end, or the note
  abbrev pub Leaves : FilterSettings → Result (T × Account) Note → Stepped (State T) → Type 0
  Leaves settings meant (On t) = rest_of settings t ≡ meant
  Leaves settings meant (End t) = meant ≡ Ok (t.tree, t.account)
  Leaves settings meant (Fail t note) = meant ≡ Err note

  -- a step leaves what all that was left makes of the tree
  abbrev pub AddsUp : FilterSettings → State T → Type 0
  AddsUp settings s = Leaves settings (rest_of settings s) (filter_step settings s)

  -- all that is left at the beginning makes of the tree what the processor does
  abbrev pub BeginsWhole : FilterSettings → T → Account → Type 0
  BeginsWhole settings tree account =
      rest_of settings (state_of tree account) ≡ filtered ops settings tree account
