-- What comes of the rows that are left, behind one that was routed.
use Rattle.std.proofs.Common.{◌≡◌, ◌∙◌, ◌<◌, ◌≤◌, ◌+◌, ℕ, suc, List, [], ◌∷◌, ◌++◌, drop, get_or, length, map, Result, Ok, Err, refl, sym, ap, arith}
use Rattle.std.specs.Prelude.{Contains}
use Rattle.std.proofs.Math.Seq.{drop-cons}
use Rattle.conf_draft.specs.declared.draft.ErrorMode.{ErrorMode}
use Rattle.conf_json.specs.Account.{Account}
use Rattle.conf_json.specs.declared.account.Note.{Note}
use Rattle.conf_json.specs.declared.account.PlainStop.{PlainStop}
use Rattle.conf_json.specs.declared.account.PlainStop.TheVariants.{Failed, NoMemory}
use Rattle.conf_json.specs.declared.settings.RouteRow.{RouteRow}
use Rattle.pdata_tree.specs.Operations.{log_trees}
use Rattle.pdata_tree.specs.declared.batch.Batch.{Batch}
use Rattle.proc_targets.specs.Ends.{StopsAs}
use Rattle.proc_targets.specs.Judging.{◌>>=◌}
use Rattle.proc_targets.proofs.Stops.{stops_as, stops_on}
use Rattle.share_cow.specs.Scene.{tree_of}
use Rattle.share_cow.specs.Store.{IsLiveRoot, Store, made}
use Rattle.share_cow.specs.Views.{batch_or_empty}
use Rattle.routing_conn.specs.Bills.{MakesUpTo, behind_bill, bill_of, row_bill}
use Rattle.routing_conn.specs.Meaning.{Judge, Routed, judges, routed_by, row_gives}
use Rattle.routing_conn.specs.Rows.{Routes, row_trees}
use Rattle.routing_conn.proofs.Lists.{first_there, free_apart, later_there}
use Rattle.routing_conn.proofs.Turns.{trees_before, trees_more}

map_same : (f g : ℕ → Batch) (xs : List ℕ) → ((x : ℕ) → Contains xs x → f x ≡ g x) → map f xs ≡ map g xs
map_same f g [] same = refl
map_same f g (x ∷ xs) same =
    ap (λ (y : Batch). y ∷ map f xs) (same x (first_there x xs))
    ∙ ap (λ (ys : List Batch). g x ∷ ys) (map_same f g xs (λ y h. same y (later_there x y xs h)))

map_more : (f : ℕ → Batch) (xs : List ℕ) (x : ℕ) → map f (xs ++ x ∷ []) ≡ map f xs ++ f x ∷ []
map_more f [] x = refl
map_more f (y ∷ xs) x = ap (λ (ys : List Batch). f y ∷ ys) (map_more f xs x)

-- the trees of rows stay behind a further row
pub rows_stay : (rest : ℕ) (old now new : Store) (rows more : List ℕ) → IsLiveRoot old rest → Routes rest old now rows → Routes rest now new more
    → map (tree_of new) rows ≡ map (tree_of now) rows
rows_stay rest old now new rows more lived before step =
    map_same (tree_of new) (tree_of now) rows
    (λ r h. ap batch_or_empty (step.trees r (before.live r h) (λ is. free_apart old rest r lived (before.fresh r h) (sym is))).tree)

module _ (judge : Judge) (others : List Judge) (now new : Store) (rest taken : ℕ) (rows : List ℕ) (a b : Account) where
  abbrev gives : Result ((Batch × Batch) × Account) Note
  gives = row_gives log_trees judge (tree_of now rest) a

  -- what comes behind what a row gives
  abbrev behind_row : Result ((Batch × Batch) × Account) Note → Result (Routed Batch × Account) Note
  behind_row given =
      given
      >>= λ first. routed_by log_trees others first.0.1 first.1
      >>= λ later. Ok (record { rows = first.0.0 ∷ later.0.rows; rest = later.0.rest }, later.1)

  -- the rest of the rows comes to the same
  pub came_on : map (tree_of new) rows ≡ map (tree_of now) rows → gives ≡ Ok (row_trees new rest taken, b)
      → trees_before (map (tree_of new) (rows ++ taken ∷ [])) (routed_by log_trees others (tree_of new rest) b)
      ≡ trees_before (map (tree_of now) rows) (routed_by log_trees (judge ∷ others) (tree_of now rest) a)
  came_on same given =
      let left = routed_by log_trees others (tree_of new rest) b in
      ap (λ (front : List Batch). trees_before front left)
      (map_more (tree_of new) rows taken ∙ ap (λ (trees : List Batch). trees ++ tree_of new taken ∷ []) same)
      ∙ trees_more (map (tree_of now) rows) (tree_of new taken) left
      ∙ ap (λ (r : Result ((Batch × Batch) × Account) Note). trees_before (map (tree_of now) rows) (behind_row r)) (sym given)

  -- and so the nodes
  pub billed_on : gives ≡ Ok (row_trees new rest taken, b) → made new ≤ made now + row_bill judge.row gives
      → made new + bill_of others (tree_of new rest) b ≤ made now + bill_of (judge ∷ others) (tree_of now rest) a
  billed_on given bound =
      let left : behind_bill (bill_of others) gives ≡ bill_of others (tree_of new rest) b = ap (behind_bill (bill_of others)) given in
      let total : bill_of (judge ∷ others) (tree_of now rest) a ≡ row_bill judge.row gives + behind_bill (bill_of others) gives = refl in
      omega (arith, bound, left, total)

  -- a stop of the row is one of all that are left
  pub came_to_stop : (stop : PlainStop) (all : Result (Routed Batch × Account) Note)
      → trees_before (map (tree_of now) rows) (routed_by log_trees (judge ∷ others) (tree_of now rest) a) ≡ all
      → StopsAs stop gives → StopsAs stop all
  came_to_stop stop all is stopped =
      stops_as stop (trees_before (map (tree_of now) rows) (behind_row gives)) all is
      (stops_on stop (behind_row gives) (λ later. Ok (record { rows = map (tree_of now) rows ++ later.0.rows; rest = later.0.rest }, later.1))
      (stops_on stop gives
      (λ first. routed_by log_trees others first.0.1 first.1
      >>= λ later. Ok (record { rows = first.0.0 ∷ later.0.rows; rest = later.0.rest }, later.1)) stopped))

  pub billed_to_stop : (X Y : Type 0) (stop : PlainStop) (first all : ℕ)
      → made now + bill_of (judge ∷ others) (tree_of now rest) a ≤ first + all
      → MakesUpTo {X = X} (Err stop) (made now) (made new) (row_bill judge.row gives) → MakesUpTo {X = Y} (Err stop) first (made new) all
  billed_to_stop X Y (Failed note) first all before bound =
      let total : bill_of (judge ∷ others) (tree_of now rest) a ≡ row_bill judge.row gives + behind_bill (bill_of others) gives = refl in
      omega (arith, before, bound, total)
  billed_to_stop X Y NoMemory first all before bound = tt

-- the rows from one on
pub rows_from : (mode : ErrorMode) (rows : List RouteRow) (i : ℕ) (row : RouteRow) → i < length rows → row ≡ get_or rows i row
    → judges mode i (drop i rows) ≡ record { mode = mode; index = i; row = row } ∷ judges mode (i + 1) (drop (i + 1) rows)
rows_from mode rows i row within is =
    let more : suc i ≡ i + 1 = omega arith in
    ap (judges mode i)
    (drop-cons rows i row within ∙ ap (λ (first : RouteRow). first ∷ drop (suc i) rows) (sym is)
    ∙ ap (λ (n : ℕ). row ∷ drop n rows) more)

-- no row is left
pub came_to_end : (trees : List Batch) (rest : Batch) (account : Account)
    → trees_before trees (Ok (record { rows = []; rest = rest }, account)) ≡ Ok (record { rows = trees; rest = rest }, account)
came_to_end trees rest account = ap (λ (rows : List Batch). Ok (record { rows = rows; rest = rest }, account)) (no_more trees) where
  no_more : (xs : List Batch) → xs ++ [] ≡ xs
  no_more [] = refl
  no_more (x ∷ xs) = ap (λ (ys : List Batch). x ∷ ys) (no_more xs)
