-- How a run on a root moves on, by numbers.
use Rattle.std.proofs.Common.{◌≡◌, ◌∙◌, ◌<◌, ◌≤◌, ℕ, zero, suc, List, [], ◌∷◌, length, drop, Option, None, Some, Bool, ap, sym, refl, subst, arith}
use Rattle.std.specs.Prelude.{IfSome, slice_get}
use Rattle.conf_json.specs.Account.{Account}
use Rattle.conf_json.specs.declared.account.StepEnd.{StepEnd}
use Rattle.conf_json.specs.declared.account.StepEnd.TheVariants as end
use Rattle.conf_json.specs.declared.settings.Group.{Group}
use Rattle.conf_json.specs.declared.settings.TransformSettings.{TransformSettings}
use Rattle.ottl_plan.specs.declared.planned.PlannedStatement.{PlannedStatement}
use Rattle.pdata_tree.specs.Operations.{log_trees}
use Rattle.pdata_tree.specs.Places.{targets}
use Rattle.pdata_tree.specs.declared.batch.Batch.{Batch}
use Rattle.pdata_tree.specs.declared.place.Place.{Place}
use Rattle.proc_targets.specs.Stepping.{On, came}
use Rattle.transform_proc.specs.Progress.{Progress, here, left_at, run_of}
use Rattle.transform_proc.specs.Steps.{Work, running, State, first_work, left_on, next_group, next_target}
use Rattle.transform_proc.specs.declared.cursor.Running.{Running}

abbrev of : ℕ → ℕ → Option Running → Option (List Place) → ℕ → ℕ → Bool → Progress
of group target at listed steps ended over =
    record { group = group; target = target; running = at; listed = listed; steps = steps; ended = ended; over = over }

-- places in a run are the same where their parts are
pub same_progress : (p q : Progress) → p.group ≡ q.group → p.target ≡ q.target → p.running ≡ q.running → p.listed ≡ q.listed → p.steps ≡ q.steps
    → p.ended ≡ q.ended → p.over ≡ q.over → p ≡ q
same_progress p q group target at listed steps ended over =
    ap (λ (x : ℕ). of x p.target p.running p.listed p.steps p.ended p.over) group
    ∙ ap (λ (x : ℕ). of q.group x p.running p.listed p.steps p.ended p.over) target
    ∙ ap (λ (x : Option Running). of q.group q.target x p.listed p.steps p.ended p.over) at
    ∙ ap (λ (x : Option (List Place)). of q.group q.target q.running x p.steps p.ended p.over) listed
    ∙ ap (λ (x : ℕ). of q.group q.target q.running q.listed x p.ended p.over) steps
    ∙ ap (λ (x : ℕ). of q.group q.target q.running q.listed q.steps x p.over) ended
    ∙ ap (λ (x : Bool). of q.group q.target q.running q.listed q.steps q.ended x) over

-- what is said of the targets that are listed holds of them
pub of_listed : (listed : Option (List Place)) (places : List Place) (Says : List Place → Type 0) → listed ≡ Some places → IfSome listed Says → Says places
of_listed listed places Says is said = subst (λ (o : Option (List Place)). IfSome o Says) is said

-- what is left of a list from an item on
pub drop_there : {X : Type 0} (xs : List X) (i : ℕ) (x : X) → slice_get xs i ≡ Some x → drop i xs ≡ x ∷ drop (suc i) xs
drop_there [] i x is = absurd (cc is)
drop_there (y ∷ ys) zero x is = ap (λ z. z ∷ ys) (cc is)
drop_there (y ∷ ys) (suc i) x is = drop_there ys i x is

-- nothing is left behind the end
pub drop_past : {X : Type 0} (xs : List X) (i : ℕ) → length xs ≤ i → drop i xs ≡ []
drop_past [] zero past = refl
drop_past [] (suc i) past = refl
drop_past (x ∷ xs) zero past = absurd (omega (arith, past))
drop_past (x ∷ xs) (suc i) past = drop_past xs i (omega (arith, past))

-- an item is there within the list
pub drop_within : {X : Type 0} (xs : List X) (i : ℕ) → i < length xs → (x : X) × (drop i xs ≡ x ∷ drop (suc i) xs)
drop_within [] i within = absurd (omega (arith, within))
drop_within (x ∷ xs) zero within = (x, refl)
drop_within (x ∷ xs) (suc i) within = drop_within xs i (omega (arith, within))

-- the end of a step behind which these are left
abbrev pub EndsBefore : {X : Type 0} → List X → StepEnd → Type 0
EndsBefore [] result = result ≡ end.Finished
EndsBefore (x ∷ xs) result = result ≡ end.More

pub ends_within : {X : Type 0} (xs : List X) (i : ℕ) → i < length xs → EndsBefore (drop i xs) end.More
ends_within {X = X} xs i within = let there = drop_within xs i within in subst (λ (ys : List X). EndsBefore ys end.More) (sym there.1) refl

pub ends_past : {X : Type 0} (xs : List X) (i : ℕ) → length xs ≤ i → EndsBefore (drop i xs) end.Finished
ends_past {X = X} xs i past = subst (λ (ys : List X). EndsBefore ys end.Finished) (sym (drop_past xs i past)) refl

-- the run with these groups left
abbrev pub with_left : Batch → Progress → Account → List Group → State Batch
with_left tree p account groups = record { tree = tree; cursor = left_at p tree groups; account = account }

-- at the next group
abbrev pub behind_group : Progress → Progress
behind_group p = record p { group = suc p.group; target = 0; running = None; listed = None }

group_over : (settings : TransformSettings) (tree : Batch) (account : Account) (p : Progress) (result : StepEnd) (groups : List Group)
    → EndsBefore groups result
    → next_group log_trees (run_of settings tree p account) groups ≡ came result (with_left tree (behind_group p) account groups)
group_over settings tree account p result [] ends = ap (λ (r : StepEnd). came r (with_left tree (behind_group p) account [])) (sym ends)
group_over settings tree account p result (g ∷ gs) ends = ap (λ (r : StepEnd). came r (with_left tree (behind_group p) account (g ∷ gs))) (sym ends)

pub group_ended : (settings : TransformSettings) (tree : Batch) (account : Account) (p q : Progress) (result : StepEnd)
    → EndsBefore (drop (suc p.group) settings.log_statements) result → behind_group p ≡ q
    → next_group log_trees (run_of settings tree p account) (drop (suc p.group) settings.log_statements)
    ≡ came result (run_of settings tree q account)
group_ended settings tree account p q result ends is =
    group_over settings tree account p result (drop (suc p.group) settings.log_statements) ends
    ∙ ap (λ (r : Progress). came result (run_of settings tree r account)) is

module _ (settings : TransformSettings) (tree : Batch) (account : Account) (p : Progress) (g : Group) (at : slice_get settings.log_statements p.group ≡ Some g) where
  -- the groups left are the group at hand and those behind it
  abbrev pub behind : List Group
  behind = drop (suc p.group) settings.log_statements

  pub groups_are : drop p.group settings.log_statements ≡ g ∷ behind
  groups_are = drop_there settings.log_statements p.group g at

  -- with another target of the group at hand
  abbrev pub at_target : Progress → List Place → Work → State Batch
  at_target q places work = record {
    tree = tree;
    cursor = record { number = q.group; groups = g ∷ behind; targets = places; work = work; steps = q.steps; ended = q.ended };
    account = account;
  }

  -- the run at one that is ended by one more
  abbrev pub behind_target : Progress
  behind_target = record p { target = suc p.target; running = None; ended = suc p.ended }

  abbrev pub one_ended : Progress
  one_ended = record p { ended = suc p.ended }

  pub target_left : (q : Progress) → suc p.target < length (targets tree g.context) → behind_target ≡ q
      → next_target log_trees (run_of settings tree p account) g behind (drop (suc p.target) (targets tree g.context))
      ≡ came end.More (run_of settings tree q account)
  target_left q within is =
      let there = drop_within (targets tree g.context) (suc p.target) within in
      ap (λ (ps : List Place). next_target log_trees (run_of settings tree p account) g behind ps) there.1
      ∙ sym (ap (λ (ps : List Place). On (at_target behind_target ps (first_work g))) there.1)
      ∙ sym (ap (λ (gs : List Group). On (with_left tree behind_target account gs)) groups_are)
      ∙ ap (λ (r : Progress). On (run_of settings tree r account)) is

  pub target_last : (q : Progress) → length (targets tree g.context) ≤ suc p.target → one_ended ≡ q
      → next_target log_trees (run_of settings tree p account) g behind (drop (suc p.target) (targets tree g.context))
      ≡ next_group log_trees (run_of settings tree q account) (drop (suc q.group) settings.log_statements)
  target_last q past is =
      ap (λ (ps : List Place). next_target log_trees (run_of settings tree p account) g behind ps) (drop_past (targets tree g.context) (suc p.target) past)
      ∙ ap (λ (r : Progress). next_group log_trees (run_of settings tree r account) (drop (suc r.group) settings.log_statements)) is

  -- statements that are left to run on the target at hand
  module _ (place : Place) (stands : slice_get (targets tree g.context) p.target ≡ Some place) (r : Running) where
    abbrev pub statements_left : Work
    statements_left = running r.index (drop r.index g.statements) r.cache

    pub run_at : run_of settings tree (record p { running = Some r }) account
        ≡ at_target p (place ∷ drop (suc p.target) (targets tree g.context)) statements_left
    run_at = ap (λ (gs : List Group). with_left tree (record p { running = Some r }) account gs) groups_are
        ∙ ap (λ (ps : List Place). at_target p ps statements_left) (drop_there (targets tree g.context) p.target place stands)

    pub statements_go_on : r.index < length g.statements
        → left_on log_trees (run_of settings tree p account) (here settings tree p g place) statements_left
        ≡ came end.More (run_of settings tree (record p { running = Some r }) account)
    statements_go_on within =
        let there = drop_within g.statements r.index within in
        ap (λ (xs : List PlannedStatement). left_on log_trees (run_of settings tree p account) (here settings tree p g place) (running r.index xs r.cache)) there.1
        ∙ sym (ap (λ (xs : List PlannedStatement). On (at_target p (place ∷ drop (suc p.target) (targets tree g.context)) (running r.index xs r.cache))) there.1)
        ∙ sym (ap (λ (t : State Batch). On t) run_at)

    pub statements_end : length g.statements ≤ r.index
        → left_on log_trees (run_of settings tree p account) (here settings tree p g place) statements_left
        ≡ next_target log_trees (run_of settings tree p account) g behind (drop (suc p.target) (targets tree g.context))
    statements_end past =
        ap (λ (xs : List PlannedStatement). left_on log_trees (run_of settings tree p account) (here settings tree p g place) (running r.index xs r.cache))
        (drop_past g.statements r.index past)

-- an item that isn't there is past the end
pub none_past : {X : Type 0} (xs : List X) (i : ℕ) → slice_get xs i ≡ None → length xs ≤ i
none_past [] i is = omega arith
none_past (x ∷ xs) zero is = absurd (cc is)
none_past (x ∷ xs) (suc i) is = omega (arith, none_past xs i is)
