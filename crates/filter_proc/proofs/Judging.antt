-- What a step makes of the log records that are left.
use Rattle.std.proofs.Common.{◌≡◌, ◌∙◌, ◌≤◌, ◌++◌, ℕ, zero, suc, Bool, List, [], ◌∷◌, length, drop, Some, Result, Ok, Err, ap, sym, subst, arith}
use Rattle.std.specs.Prelude.{false, not, slice_get, is_err, OnOk}
use Rattle.std.proofs.lemmas.List.{drop_all, length-append}
use Rattle.conf_json.specs.Account.{Account}
use Rattle.conf_json.specs.declared.account.Note.{Note}
use Rattle.conf_json.specs.declared.settings.FilterSettings.{FilterSettings}
use Rattle.ottl_eval.specs.Stages.{Stage, stage}
use Rattle.ottl_plan.specs.declared.planned.PlannedCondition.{PlannedCondition}
use Rattle.pdata_tree.specs.Operations.{log_trees}
use Rattle.pdata_tree.specs.declared.batch.Batch.{Batch}
use Rattle.pdata_tree.specs.declared.place.Context.{Context}
use Rattle.pdata_tree.specs.declared.place.Place.{Place}
use Rattle.proc_targets.specs.Ends.{Ends}
use Rattle.proc_targets.specs.Judging.{any_holds, no_pairs}
use Rattle.proc_targets.specs.Stepping.{Stepped, On, End}
use Rattle.proc_targets.specs.declared.spot.Spot.{Spot}
use Rattle.conf_json.specs.declared.account.PlainStop.{PlainStop}
use Rattle.share_cow.specs.Scene.{tree_of}
use Rattle.share_cow.specs.Store.{Store}
use Rattle.filter_proc.specs.Meaning.{dropped}
use Rattle.filter_proc.specs.Progress.{run_in}
use Rattle.filter_proc.specs.Steps.{State, judged, targets_step}
use Rattle.filter_proc.specs.declared.cursor.Judged.{Judged}

-- what is left of a list from an item on
pub drop_there : {X : Type 0} (xs : List X) (i : ℕ) (x : X) → slice_get xs i ≡ Some x → drop i xs ≡ x ∷ drop (suc i) xs
drop_there [] i x is = absurd (cc is)
drop_there (y ∷ ys) zero x is = ap (λ z. z ∷ ys) (cc is)
drop_there (y ∷ ys) (suc i) x is = drop_there ys i x is

-- where a call answered Ok
pub on_ok : {X E : Type 0} (P : Type 0) (r : Result X E) → OnOk r P → false ≡ is_err r → P
on_ok P (Ok x) h is = h
on_ok P (Err e) h is = absurd (cc is)

pub same_judged : (a b : Judged) → a.places ≡ b.places → a.flags ≡ b.flags → a ≡ b
same_judged a b places flags =
    ap (λ (ps : List Place). record { places = ps; flags = a.flags }) places
    ∙ ap (λ (fs : List Bool). record { places = b.places; flags = fs }) flags

-- a run with these left, of which so many are ended
abbrev with_left : Batch → List Place → List Bool → ℕ → ℕ → Account → State Batch
with_left tree places flags steps ended account = record {
  tree = tree;
  cursor = record { targets = places; flags = flags; steps = steps; ended = ended };
  account = account;
}

module _ (settings : FilterSettings) (tree : Batch) (j : Judged) (steps : ℕ) (before : Account) where
  abbrev pub at : State Batch
  at = run_in tree (Some j) steps before

  abbrev pub step_at : Stepped (State Batch)
  step_at = targets_step log_trees settings at (drop (length j.flags) j.places)

  -- none is left
  pub were_removed : length j.places ≤ length j.flags → step_at ≡ End (run_in (log_trees.kept j.flags tree) (Some j) steps before)
  were_removed past = ap (λ (ps : List Place). targets_step log_trees settings at ps) (drop_all (length j.flags) j.places past)

  -- the next one was judged
  module _ (place : Place) (next : slice_get j.places (length j.flags) ≡ Some place) where
    pub was_judged : (r : Result (Bool × Account) Note) → dropped log_trees settings tree place before ≡ r
        → step_at ≡ judged log_trees at (drop (suc (length j.flags)) j.places) r
    was_judged r is =
        ap (λ (ps : List Place). targets_step log_trees settings at ps) (drop_there j.places (length j.flags) place next)
        ∙ ap (judged log_trees at (drop (suc (length j.flags)) j.places)) is

    pub went_on : (goes : Bool) (after : Account) (k : Judged) → dropped log_trees settings tree place before ≡ Ok (goes, after) → k.places ≡ j.places
        → k.flags ≡ j.flags ++ not goes ∷ [] → step_at ≡ On (run_in tree (Some k) steps after)
    went_on goes after k is places flags =
        let more = j.flags ++ not goes ∷ [] in
        let one_more : length more ≡ suc (length j.flags) = omega (arith, length-append j.flags (not goes ∷ [])) in
        was_judged (Ok (goes, after)) is
        ∙ ap (λ (n : ℕ). On (with_left tree (drop n j.places) more steps n after)) (sym one_more)
        ∙ ap (λ (fs : List Bool). On (with_left tree (drop (length fs) j.places) fs steps (length fs) after)) (sym flags)
        ∙ ap (λ (ps : List Place). On (with_left tree (drop (length k.flags) ps) k.flags steps (length k.flags) after)) (sym places)

abbrev stage_on : Store → ℕ → Context → Place → Stage Batch
stage_on forest root context place = stage (tree_of forest root) context place no_pairs

-- conditions that were judged on a scene are judged on the forest that it was lent
pub judged_on : (result : Result Bool PlainStop) (spot meant : Spot) (one other : List PlannedCondition) (account now : Account) (given lent : Store)
    (at_first root : ℕ) (context_first context : Context) (place_first place : Place) → spot ≡ meant → one ≡ other → given ≡ lent → at_first ≡ root
    → context_first ≡ context → place_first ≡ place
    → Ends now result (any_holds log_trees spot 0 one (stage_on given at_first context_first place_first) account)
    → Ends now result (any_holds log_trees meant 0 other (stage_on lent root context place) account)
judged_on result spot meant one other account now given lent at_first root context_first context place_first place spot_is conditions_are forest_is root_is
    context_is place_is h =
    let stages = ap (λ (f : Store). stage_on f at_first context_first place_first) forest_is
    ∙ ap (λ (r : ℕ). stage_on lent r context_first place_first) root_is
    ∙ ap (λ (c : Context). stage_on lent root c place_first) context_is
    ∙ ap (λ (p : Place). stage_on lent root context p) place_is in
    subst (λ (s : Stage Batch). Ends now result (any_holds log_trees meant 0 other s account)) stages
    (subst (λ (cs : List PlannedCondition). Ends now result (any_holds log_trees meant 0 cs (stage_on given at_first context_first place_first) account)) conditions_are
    (subst (λ (s : Spot). Ends now result (any_holds log_trees s 0 one (stage_on given at_first context_first place_first) account)) spot_is h))
