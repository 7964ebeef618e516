-- The steps add up to the meaning.
use Rattle.std.proofs.Common.{◌≡◌, Bool, not, List, [], ◌∷◌, ◌++◌, ap, append_assoc, append-nil, refl, Result, Ok, Err}
use Rattle.conf_json.specs.Account.{Account}
use Rattle.conf_json.specs.declared.account.Note.{Note}
use Rattle.conf_json.specs.declared.settings.FilterSettings.{FilterSettings}
use Rattle.pdata_tree.specs.Operations.{TreeOps}
use Rattle.pdata_tree.specs.declared.path.PathTo.{PathTo}
use Rattle.pdata_tree.specs.declared.place.Place.{Place}
use Rattle.proc_targets.specs.Judging.{◌>>=◌}
use Rattle.filter_proc.specs.Meaning.{dropped, flags_of}
use Rattle.filter_proc.specs.Steps.{AddsUp, BeginsWhole, Leaves, State, judged, record_ended, stepped_one, targets_left, targets_step}

module _ {T : Type 0} (ops : TreeOps T PathTo) where
  -- what is kept by the flags so far and these
  abbrev with_flags : State T → Result (List Bool × Account) Note → Result (T × Account) Note
  with_flags s r = r >>= λ u. Ok (ops.kept (s.cursor.flags ++ u.0) s.tree, u.1)

  -- one flag before these
  abbrev one_before : Bool → Result (List Bool × Account) Note → Result (List Bool × Account) Note
  one_before stays r = r >>= λ u. Ok (stays ∷ u.0, u.1)

  -- the flags where a log record was judged
  abbrev flags_after : FilterSettings → State T → List Place → Result (Bool × Account) Note → Result (List Bool × Account) Note
  flags_after settings s ps r = r >>= λ t. flags_of ops settings s.tree ps t.1 >>= λ u. Ok (not t.0 ∷ u.0, u.1)

  more : (s : State T) (stays : Bool) (places : List Place) (account : Account) (r : Result (List Bool × Account) Note)
      → with_flags (record_ended s stays places account) r ≡ with_flags s (one_before stays r)
  more s stays places account (Ok u) =
      ap (λ (flags : List Bool). Ok (ops.kept flags s.tree, u.1)) (append_assoc s.cursor.flags (stays ∷ []) u.0)
  more s stays places account (Err note) = refl

  judged_next : (settings : FilterSettings) (s : State T) (ps : List Place) (r : Result (Bool × Account) Note)
      → Leaves ops settings (with_flags s (flags_after settings s ps r)) (judged ops s ps r)
  judged_next settings s ps (Ok t) = more s (not t.0) ps t.1 (flags_of ops settings s.tree ps t.1)
  judged_next settings s ps (Err note) = refl

  targets_add : (settings : FilterSettings) (s : State T) (places : List Place)
      → Leaves ops settings (targets_left ops settings s places) (targets_step ops settings s places)
  targets_add settings s [] =
      ap (λ (flags : List Bool). Ok (ops.kept flags s.tree, s.account)) (append-nil s.cursor.flags)
  targets_add settings s (p ∷ ps) = judged_next settings s ps (dropped ops settings s.tree p s.account)

  pub adds_up : (settings : FilterSettings) (s : State T) → AddsUp ops settings s
  adds_up settings s = targets_add settings (stepped_one s) s.cursor.targets

  pub begins_whole : (settings : FilterSettings) (tree : T) (account : Account) → BeginsWhole ops settings tree account
  begins_whole settings tree account = refl

pub ruleset steps_law = (adds_up, begins_whole)
