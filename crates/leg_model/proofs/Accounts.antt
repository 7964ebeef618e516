-- Accounts note their first errors: as many notes as errors, until there are eight.
use Rattle.std.proofs.Common.{◌≡◌, ◌∙◌, ℕ, suc, ◌+◌, ◌-◌, ◌^◌, ◌≤◌, Bool, true, false, nat_lt, not, List, [], ◌∷◌, ◌++◌, length, cond, if◌then◌else◌, Result, Ok, Err, refl, arith, length-append}
use Rattle.std.specs.Prelude.{min}
use Rattle.std.proofs.lemmas.Bool.Decides.{nat_tests}
use Rattle.conf_draft.specs.declared.draft.ErrorMode.{ErrorMode}
use Rattle.conf_draft.specs.declared.draft.ErrorMode.TheVariants.{Ignore, Silent, Propagate}
use Rattle.conf_json.specs.Account.{Account, max_notes, noted, under}
use Rattle.conf_json.specs.declared.account.Note.{Note}
use Rattle.conf_json.specs.declared.account.Part.TheVariants.{GroupCondition, Statement}
use Rattle.conf_json.specs.declared.settings.FilterSettings.{FilterSettings}
use Rattle.conf_json.specs.declared.settings.Group.{Group}
use Rattle.conf_json.specs.declared.settings.TransformSettings.{TransformSettings}
use Rattle.filter_proc.specs.Meaning as filter
use Rattle.ottl_eval.specs.Stages.{Stage, stage}
use Rattle.ottl_eval.specs.Statements.{ran}
use Rattle.ottl_eval.specs.Values.{holds}
use Rattle.ottl_eval.specs.declared.outcome.Outcome.{Outcome}
use Rattle.ottl_eval.specs.declared.outcome.Outcome.TheVariants as outcome
use Rattle.ottl_plan.specs.declared.planned.PlannedCondition.{PlannedCondition}
use Rattle.ottl_plan.specs.declared.planned.PlannedStatement.{PlannedStatement}
use Rattle.pdata_tree.specs.Operations.{TreeOps}
use Rattle.pdata_tree.specs.declared.path.PathTo.{PathTo}
use Rattle.pdata_tree.specs.declared.place.Context.TheVariants.{Log}
use Rattle.pdata_tree.specs.declared.place.Place.{Place}
use Rattle.pdata_value.specs.declared.error.EvalErr.{EvalErr}
use Rattle.proc_targets.specs.Judging.{◌>>=◌, any_holds, no_pairs, note_at, truth_after}
use Rattle.proc_targets.specs.declared.spot.Spot.{Spot}
use Rattle.transform_proc.specs.Meaning.{GroupTurn, account_after, group_run, groups_run, scene_run, spot_of, statement_run, statements_run, taken, target_run, targets_run, transformed}

-- as many notes as errors, until there are eight
abbrev pub NotesFirst : Account → Type 0
NotesFirst a = length a.notes ≡ min a.count max_notes

-- an account that notes its first errors goes on to do so, and loses no note
pub record Grows (before now : Account) : Type 0 where
  pub notes : length before.notes ≤ length now.notes
  pub first : NotesFirst before → NotesFirst now

pub same-grows : (a : Account) → Grows a a
same-grows a = record { notes = omega arith; first = λ h. h }

pub grows-on : (a b c : Account) → Grows a b → Grows b c → Grows a c
grows-on a b c first second = record {
  notes = omega (arith, first.notes, second.notes);
  first = λ h. second.first (first.first h);
}

-- One error more.

room : (count notes : ℕ) → nat_lt notes 8 ≡ true → notes ≡ min count 8 → notes + 1 ≡ min (min (count + 1) (2 ^ 64 - 1)) 8
room count notes less is = grind (arith, nat_tests)

full : (count notes : ℕ) → nat_lt notes 8 ≡ false → notes ≡ min count 8 → notes ≡ min (min (count + 1) (2 ^ 64 - 1)) 8
full count notes less is = grind (arith, nat_tests)

noted-on : (t : Bool) (note : Note) (a : Account) → nat_lt (length a.notes) max_notes ≡ t
    → (length a.notes ≤ length (if t then a.notes ++ note ∷ [] else a.notes))
    × (NotesFirst a → length (if t then a.notes ++ note ∷ [] else a.notes) ≡ min (min (a.count + 1) (2 ^ 64 - 1)) max_notes)
noted-on true note a is = (
  omega (arith, length-append a.notes (note ∷ [])),
  λ h. length-append a.notes (note ∷ []) ∙ room a.count (length a.notes) is h,
)
noted-on false note a is = (omega arith, λ h. full a.count (length a.notes) is h)

noted-grows : (note : Note) (a : Account) → Grows a (noted note a)
noted-grows note a =
    let both = noted-on (nat_lt (length a.notes) max_notes) note a refl in
    record { notes = both.0; first = both.1 }

-- the account of what was made grows from this one
abbrev pub GrowsIn : {X : Type 0} → Account → Result (X × Account) Note → Type 0
GrowsIn before (Ok t) = Grows before t.1
GrowsIn before (Err note) = Unit {0}

abbrev pub GrowsTo : Account → Result Account Note → Type 0
GrowsTo before (Ok now) = Grows before now
GrowsTo before (Err note) = Unit {0}

pub under-grows : (mode : ErrorMode) (note : Note) (a : Account) → GrowsTo a (under mode note a)
under-grows Ignore note a = noted-grows note a
under-grows Silent note a = same-grows a
under-grows Propagate note a = tt

pub later : {X : Type 0} (a b : Account) (r : Result (X × Account) Note) → Grows a b → GrowsIn b r → GrowsIn a r
later a b (Ok t) here more = grows-on a b t.1 here more
later a b (Err note) here more = tt

pub grows-more : {X Y : Type 0} (a : Account) (r : Result (X × Account) Note) (go : X × Account → Result (Y × Account) Note)
    → GrowsIn a r → ((t : X × Account) → GrowsIn t.1 (go t)) → GrowsIn a (r >>= go)
grows-more a (Ok t) go here more = later a t.1 (go t) here (more t)
grows-more a (Err note) go here more = tt

grows-into : {Y : Type 0} (a : Account) (r : Result Account Note) (go : Account → Result (Y × Account) Note)
    → GrowsTo a r → ((b : Account) → GrowsIn b (go b)) → GrowsIn a (r >>= go)
grows-into a (Ok b) go here more = later a b (go b) here (more b)
grows-into a (Err note) go here more = tt

grows-either : {X : Type 0} (a : Account) (b : Bool) (r q : Result (X × Account) Note) → GrowsIn a r → GrowsIn a q
    → GrowsIn a (cond b r q)
grows-either a true r q first second = first
grows-either a false r q first second = second

-- Conditions.

pub truth-grows : (spot : Spot) (index : ℕ) (truth : Result Bool EvalErr) (a : Account) → GrowsIn a (truth_after spot index truth a)
truth-grows spot index (Ok truth) a = same-grows a
truth-grows spot index (Err err) a =
    grows-into a (under spot.mode (note_at spot index err) a) (λ b. Ok (false, b))
    (under-grows spot.mode (note_at spot index err) a) (λ b. same-grows b)

module _ {T : Type 0} (ops : TreeOps T PathTo) where
  conditions-grow : (spot : Spot) (index : ℕ) (cs : List PlannedCondition) (s : Stage T) (a : Account)
      → GrowsIn a (any_holds ops spot index cs s a)
  conditions-grow spot index [] s a = same-grows a
  conditions-grow spot index (c ∷ cs) s a =
      grows-more a (truth_after spot index (holds ops c.expr s) a) (λ t. cond t.0 (Ok t) (any_holds ops spot (suc index) cs s t.1))
      (truth-grows spot index (holds ops c.expr s) a)
      (λ t. grows-either t.1 t.0 (Ok t) (any_holds ops spot (suc index) cs s t.1) (same-grows t.1)
      (conditions-grow spot (suc index) cs s t.1))

  -- Filter.

  flags-grow : (settings : FilterSettings) (tree : T) (ps : List Place) (a : Account)
      → GrowsIn a (filter.flags_of ops settings tree ps a)
  flags-grow settings tree [] a = same-grows a
  flags-grow settings tree (p ∷ ps) a =
      grows-more a (filter.dropped ops settings tree p a)
      (λ t. filter.flags_of ops settings tree ps t.1 >>= λ u. Ok (not t.0 ∷ u.0, u.1))
      (conditions-grow (filter.spot_of settings p) 0 settings.log_record (stage tree Log p no_pairs) a)
      (λ t. grows-more t.1 (filter.flags_of ops settings tree ps t.1) (λ u. Ok (not t.0 ∷ u.0, u.1))
      (flags-grow settings tree ps t.1) (λ u. same-grows u.1))

  pub filter-grows : (settings : FilterSettings) (tree : T) (a : Account) → GrowsIn a (filter.filtered ops settings tree a)
  filter-grows settings tree a =
      grows-more a (filter.flags_of ops settings tree (ops.targets tree Log) a) (λ u. Ok (ops.kept u.0 tree, u.1))
      (flags-grow settings tree (ops.targets tree Log) a) (λ u. same-grows u.1)

  -- Transform.

  outcome-grows : (spot : Spot) (index : ℕ) (o : Outcome) (a : Account) → GrowsTo a (account_after spot index o a)
  outcome-grows spot index outcome.Done a = same-grows a
  outcome-grows spot index outcome.Skipped a = same-grows a
  outcome-grows spot index outcome.NoMemory a = same-grows a
  outcome-grows spot index (outcome.Err err) a = under-grows spot.mode (note_at spot index err) a

  statements-grow : (spot : Spot) (index : ℕ) (xs : List PlannedStatement) (s : Stage T) (a : Account)
      → GrowsIn a (statements_run ops spot index xs s a)
  statements-grow spot index [] s a = same-grows a
  statements-grow spot index (x ∷ xs) s a =
      grows-more a (statement_run ops spot index x s a) (λ t. statements_run ops spot (suc index) xs t.0 t.1)
      (grows-into a (account_after spot index (ran ops x s).0 a) (λ b. Ok ((ran ops x s).1, b))
      (outcome-grows spot index (ran ops x s).0 a) (λ b. same-grows b))
      (λ t. statements-grow spot (suc index) xs t.0 t.1)

  taken-grows : (spot : Spot) (cs : List PlannedCondition) (s : Stage T) (a : Account) → GrowsIn a (taken ops spot cs s a)
  taken-grows spot [] s a = same-grows a
  taken-grows spot (c ∷ cs) s a = conditions-grow spot 0 (c ∷ cs) s a

  scene-grows : (g : GroupTurn) (p : Place) (s : Stage T) (a : Account) → GrowsIn a (scene_run ops g p s a)
  scene-grows g p s a =
      grows-more a (taken ops (spot_of g GroupCondition p) g.group.conditions s a)
      (λ t. cond t.0 (statements_run ops (spot_of g Statement p) 0 g.group.statements s t.1) (Ok (s.tree, t.1)))
      (taken-grows (spot_of g GroupCondition p) g.group.conditions s a)
      (λ t. grows-either t.1 t.0 (statements_run ops (spot_of g Statement p) 0 g.group.statements s t.1) (Ok (s.tree, t.1))
      (statements-grow (spot_of g Statement p) 0 g.group.statements s t.1) (same-grows t.1))

  targets-grow : (g : GroupTurn) (ps : List Place) (tree : T) (a : Account) → GrowsIn a (targets_run ops g ps tree a)
  targets-grow g [] tree a = same-grows a
  targets-grow g (p ∷ ps) tree a =
      grows-more a (target_run ops g p tree a) (λ t. targets_run ops g ps t.0 t.1)
      (scene-grows g p (stage tree g.group.context p no_pairs) a) (λ t. targets-grow g ps t.0 t.1)

  groups-grow : (mode : ErrorMode) (number : ℕ) (gs : List Group) (tree : T) (a : Account)
      → GrowsIn a (groups_run ops mode number gs tree a)
  groups-grow mode number [] tree a = same-grows a
  groups-grow mode number (g ∷ gs) tree a =
      grows-more a (group_run ops (record { mode = mode; number = number; group = g }) tree a)
      (λ t. groups_run ops mode (suc number) gs t.0 t.1)
      (targets-grow (record { mode = mode; number = number; group = g }) (ops.targets tree g.context) tree a)
      (λ t. groups-grow mode (suc number) gs t.0 t.1)

  pub transform-grows : (settings : TransformSettings) (tree : T) (a : Account) → GrowsIn a (transformed ops settings tree a)
  transform-grows settings tree a = groups-grow settings.error_mode 0 settings.log_statements tree a
