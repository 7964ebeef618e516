-- The number of log records that processors leave.
use Rattle.std.proofs.Common.{◌≡◌, ◌∙◌, ℕ, suc, ◌+◌, ◌-◌, ◌≤◌, Bool, true, false, List, [], ◌∷◌, cond, Result, Ok, Err, refl, arith}
use Rattle.conf_draft.specs.declared.draft.ErrorMode.{ErrorMode}
use Rattle.conf_json.specs.Account.{Account}
use Rattle.conf_json.specs.declared.account.Note.{Note}
use Rattle.conf_json.specs.declared.account.Part.TheVariants.{GroupCondition, Statement}
use Rattle.conf_json.specs.declared.settings.FilterSettings.{FilterSettings}
use Rattle.conf_json.specs.declared.settings.Group.{Group}
use Rattle.conf_json.specs.declared.settings.ProcessorSettings.{ProcessorSettings}
use Rattle.conf_json.specs.declared.settings.ProcessorSettings.TheVariants.{Transform, Filter, GroupByAttrs}
use Rattle.conf_json.specs.declared.settings.TransformSettings.{TransformSettings}
use Rattle.filter_proc.specs.Meaning.{flags_of}
use Rattle.leg_model.proofs.Records.{records-grouped, records-kept, records-targets}
use Rattle.leg_model.specs.Course.{dropped, processed}
use Rattle.ottl_eval.specs.Stages.{Stage, stage}
use Rattle.ottl_eval.specs.Statements.{ran}
use Rattle.ottl_plan.specs.declared.planned.PlannedStatement.{PlannedStatement}
use Rattle.pdata_tree.specs.Grouping.{grouped}
use Rattle.pdata_tree.specs.Operations.{log_trees}
use Rattle.pdata_tree.specs.Places.{targets}
use Rattle.pdata_tree.specs.Selecting.{kept}
use Rattle.pdata_tree.specs.Tree.{records}
use Rattle.pdata_tree.specs.declared.batch.Batch.{Batch}
use Rattle.pdata_tree.specs.declared.place.Context.TheVariants.{Log}
use Rattle.pdata_tree.specs.declared.place.Place.{Place}
use Rattle.proc_targets.specs.Judging.{◌>>=◌, no_pairs}
use Rattle.proc_targets.specs.declared.spot.Spot.{Spot}
use Rattle.transform_proc.proofs.Targets.{keeps_targets}
use Rattle.transform_proc.specs.Meaning.{GroupTurn, account_after, group_run, groups_run, scene_run, spot_of, statement_run, statements_run, taken, target_run, targets_run, transformed}

-- what was made, and is seen so, has that many log records
abbrev Has : {X : Type 0} → (X → Batch) → ℕ → Result (X × Account) Note → Type 0
Has seen count (Ok t) = records (seen t.0) ≡ count
Has seen count (Err note) = Unit {0}

abbrev itself : Batch → Batch
itself tree = tree

abbrev tree_on : Stage Batch → Batch
tree_on s = s.tree

has-more : {X Y : Type 0} (f : X → Batch) (g : Y → Batch) (count : ℕ) (r : Result (X × Account) Note)
    (go : X × Account → Result (Y × Account) Note) → Has f count r
    → ((t : X × Account) → records (f t.0) ≡ count → Has g count (go t)) → Has g count (r >>= go)
has-more f g count (Ok t) go here more = more t here
has-more f g count (Err note) go here more = tt

has-behind : {X Y : Type 0} (g : Y → Batch) (count : ℕ) (r : Result (X × Account) Note)
    (go : X × Account → Result (Y × Account) Note)
    → ((t : X × Account) → Has g count (go t)) → Has g count (r >>= go)
has-behind g count (Ok t) go more = more t
has-behind g count (Err note) go more = tt

has-either : (count : ℕ) (b : Bool) (r q : Result (Batch × Account) Note) → Has itself count r → Has itself count q
    → Has itself count (cond b r q)
has-either count true r q first second = first
has-either count false r q first second = second

-- Statements keep the log records.

noted-has : (s : Stage Batch) (count : ℕ) → records s.tree ≡ count → (r : Result Account Note)
    → Has tree_on count (r >>= λ noted. Ok (s, noted))
noted-has s count same (Ok a) = same
noted-has s count same (Err note) = tt

statement-has : (spot : Spot) (index : ℕ) (x : PlannedStatement) (s : Stage Batch) (account : Account) (count : ℕ)
    → records s.tree ≡ count → Has tree_on count (statement_run log_trees spot index x s account)
statement-has spot index x s account count same =
    noted-has (ran log_trees x s).1 count (records-targets s.tree (ran log_trees x s).1.tree (keeps_targets x s Log) ∙ same)
    (account_after spot index (ran log_trees x s).0 account)

statements-have : (spot : Spot) (index : ℕ) (xs : List PlannedStatement) (s : Stage Batch) (account : Account) (count : ℕ)
    → records s.tree ≡ count → Has itself count (statements_run log_trees spot index xs s account)
statements-have spot index [] s account count same = same
statements-have spot index (x ∷ xs) s account count same =
    has-more tree_on itself count (statement_run log_trees spot index x s account)
    (λ t. statements_run log_trees spot (suc index) xs t.0 t.1) (statement-has spot index x s account count same)
    (λ t here. statements-have spot (suc index) xs t.0 t.1 count here)

scene-has : (g : GroupTurn) (p : Place) (s : Stage Batch) (account : Account) (count : ℕ) → records s.tree ≡ count
    → Has itself count (scene_run log_trees g p s account)
scene-has g p s account count same =
    has-behind itself count (taken log_trees (spot_of g GroupCondition p) g.group.conditions s account)
    (λ t. cond t.0 (statements_run log_trees (spot_of g Statement p) 0 g.group.statements s t.1) (Ok (s.tree, t.1)))
    (λ t. has-either count t.0 (statements_run log_trees (spot_of g Statement p) 0 g.group.statements s t.1) (Ok (s.tree, t.1))
    (statements-have (spot_of g Statement p) 0 g.group.statements s t.1 count same) same)

targets-have : (g : GroupTurn) (ps : List Place) (tree : Batch) (account : Account) (count : ℕ) → records tree ≡ count
    → Has itself count (targets_run log_trees g ps tree account)
targets-have g [] tree account count same = same
targets-have g (p ∷ ps) tree account count same =
    has-more itself itself count (target_run log_trees g p tree account) (λ t. targets_run log_trees g ps t.0 t.1)
    (scene-has g p (stage tree g.group.context p no_pairs) account count same)
    (λ t here. targets-have g ps t.0 t.1 count here)

groups-have : (mode : ErrorMode) (number : ℕ) (gs : List Group) (tree : Batch) (account : Account) (count : ℕ)
    → records tree ≡ count → Has itself count (groups_run log_trees mode number gs tree account)
groups-have mode number [] tree account count same = same
groups-have mode number (g ∷ gs) tree account count same =
    has-more itself itself count (group_run log_trees (record { mode = mode; number = number; group = g }) tree account)
    (λ t. groups_run log_trees mode (suc number) gs t.0 t.1)
    (targets-have (record { mode = mode; number = number; group = g }) (targets tree g.context) tree account count same)
    (λ t here. groups-have mode (suc number) gs t.0 t.1 count here)

-- What a processor leaves, and what it dropped.

-- of so many log records what it made has those that it didn't drop
abbrev pub Keeps : ProcessorSettings → ℕ → Result (Batch × Account) Note → Type 0
Keeps s before (Ok t) = records t.0 + dropped s before (records t.0) ≡ before
Keeps s before (Err note) = Unit {0}

none_dropped : (a b : ℕ) → a ≡ b → a + 0 ≡ b
none_dropped a b same = omega (arith, same)

transform-keeps : (settings : TransformSettings) (before : ℕ) (r : Result (Batch × Account) Note) → Has itself before r
    → Keeps (Transform settings) before r
transform-keeps settings before (Ok t) has = none_dropped (records t.0) before has
transform-keeps settings before (Err note) has = tt

left_and_dropped : (a b : ℕ) → a ≤ b → a + (b - a) ≡ b
left_and_dropped a b less = omega (arith, less)

filter-keeps : (settings : FilterSettings) (tree : Batch) (r : Result (List Bool × Account) Note)
    → Keeps (Filter settings) (records tree) (r >>= λ u. Ok (kept u.0 tree, u.1))
filter-keeps settings tree (Ok u) = left_and_dropped (records (kept u.0 tree)) (records tree) (records-kept u.0 tree)
filter-keeps settings tree (Err note) = tt

pub processor-keeps : (s : ProcessorSettings) (tree : Batch) (account : Account)
    → Keeps s (records tree) (processed log_trees grouped s tree account)
processor-keeps (Transform s) tree account =
    transform-keeps s (records tree) (transformed log_trees s tree account)
    (groups-have s.error_mode 0 s.log_statements tree account (records tree) refl)
processor-keeps (Filter s) tree account = filter-keeps s tree (flags_of log_trees s tree (targets tree Log) account)
processor-keeps (GroupByAttrs s) tree account =
    none_dropped (records (grouped s.keys tree)) (records tree) (records-grouped s.keys tree)
