-- What a routing connector makes of a tree: one tree for each row of its table, and the rest.
use Rattle.std.specs.Prelude.{ℕ, ◌+◌, Bool, not, List, [], ◌∷◌, map, Result, Ok}
use Rattle.conf_draft.specs.declared.draft.Action.{Action}
use Rattle.conf_draft.specs.declared.draft.Action.TheVariants.{Move, Copy}
use Rattle.conf_draft.specs.declared.draft.ErrorMode.{ErrorMode}
use Rattle.conf_json.specs.Account.{Account}
use Rattle.conf_json.specs.declared.account.Note.{Note}
use Rattle.conf_json.specs.declared.account.Part.TheVariants.{RouteRow as the_row}
use Rattle.conf_json.specs.declared.settings.RouteRow.{RouteRow}
use Rattle.conf_json.specs.declared.settings.RouteSettings.{RouteSettings}
use Rattle.ottl_eval.specs.Stages.{stage}
use Rattle.ottl_eval.specs.Values.{holds}
use Rattle.pdata_tree.specs.Operations.{TreeOps}
use Rattle.pdata_tree.specs.declared.path.PathTo.{PathTo}
use Rattle.pdata_tree.specs.declared.place.Context.{Context}
use Rattle.pdata_tree.specs.declared.place.Context.TheVariants.{Resource}
use Rattle.pdata_tree.specs.declared.place.Place.{Place}
use Rattle.proc_targets.specs.Judging.{◌>>=◌, no_pairs, truth_after}
use Rattle.proc_targets.specs.declared.spot.Spot.{Spot}

-- a tree for each row, and what the rows left
pub record Routed (T : Type 0) : Type 0 where
  pub rows : List T
  pub rest : T

-- a row of a table: what an error does there, and the row's number
pub record Judge : Type 0 where
  pub mode : ErrorMode
  pub index : ℕ
  pub row : RouteRow

-- the rows of a table, numbered from this number on
abbrev pub judges : ErrorMode → ℕ → List RouteRow → List Judge
judges mode index [] = []
judges mode index (row ∷ rows) =
    record { mode = mode; index = index; row = row } ∷ judges mode (index + 1) rows

-- where the condition of a row stands on an object
abbrev pub spot_of : Judge → Place → Spot
spot_of judge place = record {
  mode = judge.mode;
  part = the_row;
  group = 0;
  context = judge.row.context;
  place = place;
}

module _ {T : Type 0} (ops : TreeOps T PathTo) where
  -- whether a row matches the object at a place
  abbrev pub matches : Judge → T → Place → Account → Result (Bool × Account) Note
  matches judge tree place account =
      truth_after (spot_of judge place) judge.index
      (holds ops judge.row.condition.expr (stage tree judge.row.context place no_pairs)) account

  -- whether a row matches each of these objects, in their order
  abbrev pub hits : Judge → T → List Place → Account → Result (List Bool × Account) Note
  hits judge tree [] account = Ok ([], account)
  hits judge tree (place ∷ places) account =
      matches judge tree place account
      >>= λ first. hits judge tree places first.1
      >>= λ others. Ok (first.0 ∷ others.0, others.1)

  -- the part of a tree that the flags tell: whole resources, or log records
  abbrev pub part_of : Context → List Bool → T → T
  part_of Resource flags tree = ops.kept_resources flags tree
  part_of _ flags tree = ops.kept flags tree

  -- what is left of a tree for later rows: a row that moves takes what it matched
  abbrev pub left_by : Action → Context → List Bool → T → T
  left_by Move context flags tree = part_of context (map not flags) tree
  left_by Copy context flags tree = tree

  -- the tree of a row, and the tree that it leaves
  abbrev pub parted : RouteRow → List Bool → T → T × T
  parted row flags tree =
      (part_of row.context flags tree, left_by row.action row.context flags tree)

  -- what a row gives and leaves, where its condition is judged on each object of its context
  abbrev pub row_gives : Judge → T → Account → Result ((T × T) × Account) Note
  row_gives judge tree account =
      hits judge tree (ops.targets tree judge.row.context) account
      >>= λ hit. Ok (parted judge.row hit.0 tree, hit.1)

  -- the trees of rows, each judged on what the rows before it left
  abbrev pub routed_by : List Judge → T → Account → Result (Routed T × Account) Note
  routed_by [] tree account = Ok (record { rows = []; rest = tree }, account)
  routed_by (judge ∷ judges) tree account =
      row_gives judge tree account
      >>= λ first. routed_by judges first.0.1 first.1
      >>= λ others.
      Ok (record { rows = first.0.0 ∷ others.0.rows; rest = others.0.rest }, others.1)

  -- what a routing connector gives
  abbrev pub routed : RouteSettings → T → Account → Result (Routed T × Account) Note
  routed settings = routed_by (judges settings.error_mode 0 settings.table)
