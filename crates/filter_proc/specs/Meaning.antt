-- What the filter processor keeps of a tree: a tree and an account, or the note with which the work
-- ends.
use Rattle.std.specs.Prelude.{Bool, not, List, [], ◌∷◌, Result, Ok}
use Rattle.conf_json.specs.Account.{Account}
use Rattle.conf_json.specs.declared.account.Note.{Note}
use Rattle.conf_json.specs.declared.account.Part.TheVariants.{FilterCondition}
use Rattle.conf_json.specs.declared.settings.FilterSettings.{FilterSettings}
use Rattle.ottl_eval.specs.Stages.{stage}
use Rattle.pdata_tree.specs.Operations.{TreeOps}
use Rattle.pdata_tree.specs.declared.path.PathTo.{PathTo}
use Rattle.pdata_tree.specs.declared.place.Context.TheVariants.{Log}
use Rattle.pdata_tree.specs.declared.place.Place.{Place}
use Rattle.proc_targets.specs.Judging.{◌>>=◌, any_holds, no_pairs}
use Rattle.proc_targets.specs.declared.spot.Spot.{Spot}

-- the spot of the conditions on a log record
abbrev pub spot_of : FilterSettings → Place → Spot
spot_of settings place = record {
  mode = settings.error_mode;
  part = FilterCondition;
  group = 0;
  context = Log;
  place = place;
}

module _ {T : Type 0} (ops : TreeOps T PathTo) where
  -- whether a log record goes: one of the conditions holds on it
  abbrev pub dropped : FilterSettings → T → Place → Account → Result (Bool × Account) Note
  dropped settings tree place account =
      any_holds ops (spot_of settings place) 0 settings.log_record (stage tree Log place no_pairs)
      account

  -- whether each of the log records stays, judged in order
  abbrev pub flags_of : FilterSettings → T → List Place → Account
      → Result (List Bool × Account) Note
  flags_of settings tree [] account = Ok ([], account)
  flags_of settings tree (p ∷ ps) account =
      dropped settings tree p account
      >>= λ t. flags_of settings tree ps t.1 >>= λ u. Ok (not t.0 ∷ u.0, u.1)

  -- What the processor keeps: each log record is judged in the tree as it came in; then those that
  -- go are removed, and scopes and resources without log records.
  abbrev pub filtered : FilterSettings → T → Account → Result (T × Account) Note
  filtered settings tree account =
      flags_of settings tree (ops.targets tree Log) account
      >>= λ u. Ok (ops.kept u.0 tree, u.1)
