-- Statements leave the targets.
use Rattle.std.proofs.Common.{◌≡◌, ℕ, ◌+◌, zero, suc, Bool, true, false, cond, List, [], ◌∷◌, length, map, ap, refl, Option, Some, None, Result, Ok, Err}
use Rattle.std.specs.Prelude.{slice_get, slice_set}
use Rattle.ottl_eval.specs.Stages.{Stage, is_cache}
use Rattle.ottl_eval.specs.Statements.{applies, by_condition, edit_leaves, new_value, with_new}
use Rattle.ottl_plan.specs.declared.planned.PlannedStatement.{PlannedStatement}
use Rattle.pdata_tree.specs.Access.{change_at, change_log, scope_written, there, with_path, written_in}
use Rattle.pdata_tree.specs.Fields.{log_takes, map_with, resource_takes, scope_takes}
use Rattle.pdata_tree.specs.Operations.{log_trees}
use Rattle.pdata_tree.specs.Paths.{is_field_of, level_of}
use Rattle.pdata_tree.specs.Places.{log_places, logs_of_scopes, place_of, scope_places, targets_from}
use Rattle.pdata_tree.specs.declared.batch.Batch.{Batch}
use Rattle.pdata_tree.specs.declared.path.Field.{Field}
use Rattle.pdata_tree.specs.declared.path.Key.{Key}
use Rattle.pdata_tree.specs.declared.path.PathTo.{PathTo}
use Rattle.pdata_tree.specs.declared.place.Context.{Context}
use Rattle.pdata_tree.specs.declared.place.Context.TheVariants.{Resource, Scope, Log}
use Rattle.pdata_tree.specs.declared.place.Place.{Place}
use Rattle.pdata_tree.specs.declared.record.LogRecord.{LogRecord}
use Rattle.pdata_tree.specs.declared.resource.ResourceNode.{ResourceNode}
use Rattle.pdata_tree.specs.declared.resource.ResourceTree.{ResourceTree}
use Rattle.pdata_tree.specs.declared.scope.ScopeNode.{ScopeNode}
use Rattle.pdata_tree.specs.declared.scope.ScopeTree.{ScopeTree}
use Rattle.pdata_value.specs.Answers.{◌>>=◌}
use Rattle.pdata_value.specs.declared.error.EvalErr.{EvalErr}
use Rattle.pdata_value.specs.declared.error.EvalErr.TheVariants.{KindOf}
use Rattle.pdata_value.specs.declared.pairs.Pairs.{Pairs}
use Rattle.pdata_value.specs.declared.value.Value.{Value}
use Rattle.transform_proc.specs.Targets.{SameTargets, KeepsTargets}

-- what a call made has the number that was there before
abbrev Keeps : {X Y : Type 0} → (X → Y) → X → Result X EvalErr → Type 0
Keeps f old (Ok new) = f new ≡ f old
Keeps f old (Err e) = Unit {0}

first : {X Y : Type 0} (f : X → Y) (x : X) (xs : List X) (new : Result X EvalErr) → Keeps f x new
    → Keeps (map f) (x ∷ xs) (new >>= λ y. Ok (y ∷ xs))
first f x xs (Ok y) same = ap (λ z. z ∷ map f xs) same
first f x xs (Err e) same = tt

later : {X Y : Type 0} (f : X → Y) (x : X) (xs : List X) (i : ℕ) (new : Result X EvalErr)
    → Keeps (map f) xs (new >>= λ y. Ok (slice_set xs i y)) → Keeps (map f) (x ∷ xs) (new >>= λ y. Ok (x ∷ slice_set xs i y))
later f x xs i (Ok y) same = ap (λ zs. f x ∷ zs) same
later f x xs i (Err e) same = tt

-- one item of a list changes, and keeps its number
changed : {X Y : Type 0} (f : X → Y) (change : X → Result X EvalErr) → ((x : X) → Keeps f x (change x)) → (i : ℕ) (xs : List X)
    → Keeps (map f) xs (change_at i change xs)
changed f change keeps i [] = tt
changed f change keeps zero (x ∷ xs) = first f x xs (change x) (keeps x)
changed f change keeps (suc i) (x ∷ xs) = later f x xs i (there (slice_get xs i) change) (changed f change keeps i xs)

-- the number of log records of each scope
abbrev sizes : ResourceTree → List ℕ
sizes r = map (λ s. length s.logs) r.scopes

same_logs : (i j k : ℕ) (ls ms : List LogRecord) → length ls ≡ length ms → log_places i j k ls ≡ log_places i j k ms
same_logs i j k [] [] same = refl
same_logs i j k [] (m ∷ ms) same = absurd cc
same_logs i j k (l ∷ ls) [] same = absurd cc
same_logs i j k (l ∷ ls) (m ∷ ms) same = ap (λ ps. place_of i j k ∷ ps) (same_logs i j (k + 1) ls ms cc)

same_scopes : (i j : ℕ) (ss ts : List ScopeTree) → map (λ (s : ScopeTree). length s.logs) ss ≡ map (λ (s : ScopeTree). length s.logs) ts
    → scope_places i j ss ≡ scope_places i j ts
same_scopes i j [] [] same = refl
same_scopes i j [] (t ∷ ts) same = absurd cc
same_scopes i j (s ∷ ss) [] same = absurd cc
same_scopes i j (s ∷ ss) (t ∷ ts) same = ap (λ ps. place_of i j 0 ∷ ps) (same_scopes i (j + 1) ss ts cc)

same_logs_of : (i j : ℕ) (ss ts : List ScopeTree) → map (λ (s : ScopeTree). length s.logs) ss ≡ map (λ (s : ScopeTree). length s.logs) ts
    → logs_of_scopes i j ss ≡ logs_of_scopes i j ts
same_logs_of i j [] [] same = refl
same_logs_of i j [] (t ∷ ts) same = absurd cc
same_logs_of i j (s ∷ ss) [] same = absurd cc
same_logs_of i j (s ∷ ss) (t ∷ ts) same =
    let here : log_places i j 0 s.logs ≡ log_places i j 0 t.logs = same_logs i j 0 s.logs t.logs cc in
    let behind : logs_of_scopes i (j + 1) ss ≡ logs_of_scopes i (j + 1) ts = same_logs_of i (j + 1) ss ts cc in
    cc

same_targets : (c : Context) (i : ℕ) (rs qs : List ResourceTree) → map sizes rs ≡ map sizes qs → targets_from c i rs ≡ targets_from c i qs
same_targets c i [] [] same = refl
same_targets c i [] (q ∷ qs) same = absurd cc
same_targets c i (r ∷ rs) [] same = absurd cc
same_targets Resource i (r ∷ rs) (q ∷ qs) same = ap (λ ps. place_of i 0 0 ∷ ps) (same_targets Resource (i + 1) rs qs cc)
same_targets Scope i (r ∷ rs) (q ∷ qs) same =
    let here : scope_places i 0 r.scopes ≡ scope_places i 0 q.scopes = same_scopes i 0 r.scopes q.scopes cc in
    let behind : targets_from Scope (i + 1) rs ≡ targets_from Scope (i + 1) qs = same_targets Scope (i + 1) rs qs cc in
    cc
same_targets Log i (r ∷ rs) (q ∷ qs) same =
    let here : logs_of_scopes i 0 r.scopes ≡ logs_of_scopes i 0 q.scopes = same_logs_of i 0 r.scopes q.scopes cc in
    let behind : targets_from Log (i + 1) rs ≡ targets_from Log (i + 1) qs = same_targets Log (i + 1) rs qs cc in
    cc

-- lists with as many items
lengths : {X Y Z : Type 0} (f : X → Y) (g : Z → Y) (xs : List X) (zs : List Z) → map f xs ≡ map g zs → length xs ≡ length zs
lengths f g [] [] same = refl
lengths f g [] (z ∷ zs) same = absurd cc
lengths f g (x ∷ xs) [] same = absurd cc
lengths f g (x ∷ xs) (z ∷ zs) same = let more : length xs ≡ length zs = lengths f g xs zs cc in cc

-- what is written below an object

abbrev size : ScopeTree → ℕ
size s = length s.logs

-- one number for all log records
abbrev same_number : LogRecord → ℕ
same_number l = 0

in_log : (s : ScopeTree) (logs : Result (List LogRecord) EvalErr) → Keeps (map same_number) s.logs logs
    → Keeps size s (logs >>= λ ls. Ok (record s { logs = ls }))
in_log s (Ok ls) same = lengths same_number same_number ls s.logs same
in_log s (Err e) same = tt

in_scope : (r : ResourceTree) (scopes : Result (List ScopeTree) EvalErr) → Keeps (map size) r.scopes scopes
    → Keeps sizes r (scopes >>= λ ss. Ok (record r { scopes = ss }))
in_scope r (Ok ss) same = same
in_scope r (Err e) same = tt

with_node : (r : ResourceTree) (node : Result ResourceNode EvalErr) → Keeps sizes r (node >>= λ n. Ok (record r { node = n }))
with_node r (Ok n) = refl
with_node r (Err e) = tt

with_scope_node : (s : ScopeTree) (node : Result ScopeNode EvalErr) → Keeps size s (node >>= λ n. Ok (record s { node = n }))
with_scope_node s (Ok n) = refl
with_scope_node s (Err e) = tt

any_log : (l : LogRecord) (new : Result LogRecord EvalErr) → Keeps same_number l new
any_log l (Ok m) = refl
any_log l (Err e) = tt

written : (level : Context) (field : Field) (keys : List Key) (v : Value) (place : Place) (r : ResourceTree)
    → Keeps sizes r (written_in level field keys v place r)
written Resource field keys v place r = with_node r (resource_takes field keys v r.node)
written Scope field keys v place r =
    in_scope r (change_at place.scope (scope_written field keys v) r.scopes)
    (changed size (scope_written field keys v) (λ s. with_scope_node s (scope_takes field keys v s.node)) place.scope r.scopes)
written Log field keys v place r =
    in_scope r (change_at place.scope (change_log place (log_takes field keys v)) r.scopes)
    (changed size (change_log place (log_takes field keys v))
    (λ s. in_log s (change_at place.log (log_takes field keys v) s.logs)
    (changed same_number (log_takes field keys v) (λ l. any_log l (log_takes field keys v l)) place.log s.logs))
    place.scope r.scopes)

-- a tree that was made has the targets of the old one
abbrev Same : Batch → Result Batch EvalErr → Type 0
Same old (Ok new) = SameTargets old new
Same old (Err e) = Unit {0}

in_tree : (old : Batch) (resources : Result (List ResourceTree) EvalErr) → Keeps (map sizes) old.resources resources
    → Same old (resources >>= λ rs. Ok (record old { resources = rs }))
in_tree old (Ok rs) same = λ c. same_targets c 0 rs old.resources same
in_tree old (Err e) same = tt

chosen : (old : Batch) (b : Bool) (new : Result Batch EvalErr) → Same old new → Same old (cond b new (Err KindOf))
chosen old true new same = same
chosen old false new same = tt

tree_written : (path : PathTo) (v : Value) (tree : Batch) (context : Context) (place : Place) → Same tree (with_path path v tree context place)
tree_written path v tree context place =
    let level : Context = level_of context path.field in
    let change = written_in level path.field path.keys v place in
    let resources = change_at place.resource change tree.resources in
    chosen tree (is_field_of context path.field) (resources >>= λ rs. Ok (record tree { resources = rs }))
    (in_tree tree resources (changed sizes change (written level path.field path.keys v place) place.resource tree.resources))

-- what a statement does to a stage

abbrev SameStage : Stage Batch → Result (Stage Batch) EvalErr → Type 0
SameStage s (Ok t) = SameTargets s.tree t.tree
SameStage s (Err e) = Unit {0}

stage_written : (s : Stage Batch) (b : Bool) (cache : Result Pairs EvalErr) (tree : Result Batch EvalErr) → Same s.tree tree
    → SameStage s (cond b (cache >>= λ c. Ok (record s { cache = c })) (tree >>= λ t. Ok (record s { tree = t })))
stage_written s true (Ok c) tree same = λ context. refl
stage_written s true (Err e) tree same = tt
stage_written s false cache (Ok t) same = same
stage_written s false cache (Err e) same = tt

newly : (path : PathTo) (s : Stage Batch) (v : Result (Option Value) EvalErr) → SameStage s (v >>= with_new log_trees path s)
newly path s (Ok None) = λ context. refl
newly path s (Ok (Some v)) =
    stage_written s (is_cache path.field) (map_with path.keys v s.cache) (with_path path v s.tree s.context s.place)
    (tree_written path v s.tree s.context s.place)
newly path s (Err e) = tt

conditioned : (s : Stage Batch) (b : Result Bool EvalErr) (e : Result (Stage Batch) EvalErr) → SameStage s e
    → SameTargets s.tree (by_condition b e s).1.tree
conditioned s (Ok true) (Ok t) same = same
conditioned s (Ok true) (Err e) same = λ context. refl
conditioned s (Ok false) e same = λ context. refl
conditioned s (Err x) e same = λ context. refl

pub keeps_targets : (x : PlannedStatement) (s : Stage Batch) → KeepsTargets x s
keeps_targets x s =
    conditioned s (applies log_trees x.condition s) (edit_leaves log_trees x.edit s)
    (newly x.edit.target s (new_value log_trees x.edit s))
