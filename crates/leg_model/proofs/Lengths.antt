-- The number of steps of a leg, and what it holds from there on.
use Rattle.std.proofs.Common.{◌≡◌, ◌≢◌, ◌∙◌, ◌+◌, ◌-◌, ◌<◌, ◌≤◌, ℕ, zero, suc, Bool, true, false, List, [], ◌∷◌, Some, None, slice_get, refl, ap, subst, arith}
use Rattle.graph_build.specs.Conf.{Conf}
use Rattle.graph_build.specs.declared.leg.Leg.{Leg}
use Rattle.leg_model.proofs.Ending.{length_leaves, steps-add}
use Rattle.leg_model.specs.Exports.{logs}
use Rattle.leg_model.proofs.Handing.{below_entry, failed_hands_empty}
use Rattle.leg_model.specs.Course.{start}
use Rattle.leg_model.specs.Facts.{ParentsFirst, entry}
use Rattle.leg_model.specs.Legs.{leg_outcome, parent_of}
use Rattle.leg_model.specs.Parts.{Parts}
use Rattle.leg_model.specs.Steps.{IsLength, entered, entering, ending, is_over, leg_step, leg_steps, parts_on, state_alone}
use Rattle.pdata_tree.specs.Operations.{log_trees}
use Rattle.pdata_tree.specs.Places.{targets_from}
use Rattle.pdata_tree.specs.declared.batch.Batch.{Batch}
use Rattle.pdata_tree.specs.declared.resource.ResourceTree.{ResourceTree}
use Rattle.pdata_tree.specs.declared.place.Context.TheVariants.{Resource}
use Rattle.pdata_tree.specs.Grouping.{grouped}

pub clash : {X : Type 0} {t : Bool} → t ≡ false → t ≡ true → X
clash isnt does = absurd cc

-- a leg has one length
pub length_unique : (conf : Conf) (tree : Batch) (leg : Leg) (a b : ℕ) → IsLength conf tree leg a → IsLength conf tree leg b → a ≡ b
length_unique conf tree leg a b is also =
    let p : (a < b) → ⊥ = λ less. clash (also.before a less) is.ends in
    let q : (b < a) → ⊥ = λ less. clash (is.before b less) also.ends in
    omega (arith, p, q)

-- steps after steps
pub steps_go_on : (conf : Conf) (tree : Batch) (leg : Leg) (done more : ℕ)
    → state_alone conf tree leg (done + more)
    ≡ leg_steps logs.ops logs.group (parts_on conf leg) more (state_alone conf tree leg done)
steps_go_on conf tree leg done more =
    steps-add logs.ops logs.group (parts_on conf leg) done more (entering (entry conf tree leg))

-- from its length on a leg is at its end
pub over_from : (conf : Conf) (tree : Batch) (leg : Leg) (steps k : ℕ) → IsLength conf tree leg steps → steps ≤ k
    → is_over (state_alone conf tree leg k) ≡ true
over_from conf tree leg steps k is less =
    let there : steps + (k - steps) ≡ k = omega (arith, less) in
    subst (λ n. is_over (state_alone conf tree leg n) ≡ true) there
    (ap is_over (length_leaves conf tree leg steps (k - steps) is))

-- before it isn't
pub over_not_before : (conf : Conf) (tree : Batch) (leg : Leg) (steps k : ℕ) → IsLength conf tree leg steps
    → is_over (state_alone conf tree leg k) ≡ true → steps ≤ k
over_not_before conf tree leg steps k is over =
    let p : (k < steps) → ⊥ = λ less. clash (is.before k less) over in
    omega (arith, p)

pub open_below : (conf : Conf) (tree : Batch) (leg : Leg) (steps k : ℕ) → IsLength conf tree leg steps
    → is_over (state_alone conf tree leg k) ≡ false → k < steps
open_below conf tree leg steps k is begins =
    let p : (steps ≤ k) → ⊥ = λ less. clash begins (over_from conf tree leg steps k is less) in
    omega (arith, p)

-- a leg has its first step at least
pub length_some : (conf : Conf) (tree : Batch) (leg : Leg) (steps : ℕ) → IsLength conf tree leg steps → 0 < steps
length_some conf tree leg steps is = open_below conf tree leg steps 0 is refl

-- one that gets a tree without resources has no other
pub length_of_nothing : (conf : Conf) (tree : Batch) (leg : Leg) → (entry conf tree leg).resources ≡ [] → IsLength conf tree leg 1
length_of_nothing conf tree leg none = record {
  ends = ap is_over (ap (λ rs. entered log_trees grouped (parts_on conf leg) (entry conf tree leg) (targets_from Resource 0 rs)) none);
  before = first;
}
  where
    first : (k : ℕ) → k < 1 → is_over (state_alone conf tree leg k) ≡ false
    first zero less = refl
    first (suc k) less = absurd (omega (arith, less))

-- one without parts has its first step and its last
bare_entered : (parts : Parts) (tree : Batch) (rs : List ResourceTree) → parts ≡ record { processors = []; connectors = [] }
    → tree.resources ≡ rs → rs ≢ []
    → entered log_trees grouped parts tree (targets_from Resource 0 tree.resources) ≡ ending (log_trees.records tree) (start tree)
bare_entered parts tree [] none is some = absurd (some refl)
bare_entered parts tree (r ∷ rs) none is some =
    ap (λ (ps : Parts). entered log_trees grouped ps tree (targets_from Resource 0 tree.resources)) none
    ∙ ap (λ (xs : List ResourceTree). entered log_trees grouped (record { processors = []; connectors = [] }) tree (targets_from Resource 0 xs)) is

pub length_of_bare : (conf : Conf) (tree : Batch) (leg : Leg) → parts_on conf leg ≡ record { processors = []; connectors = [] }
    → (entry conf tree leg).resources ≢ [] → IsLength conf tree leg 2
length_of_bare conf tree leg none some = record {
  ends = ap (λ s. is_over (leg_step logs.ops logs.group (parts_on conf leg) s)) first;
  before = before_two (λ k. is_over (state_alone conf tree leg k)) refl (ap is_over first);
}
  where
    first : entered log_trees grouped (parts_on conf leg) (entry conf tree leg) (targets_from Resource 0 (entry conf tree leg).resources)
        ≡ ending (log_trees.records (entry conf tree leg)) (start (entry conf tree leg))
    first = bare_entered (parts_on conf leg) (entry conf tree leg) (entry conf tree leg).resources none refl some

    before_two : (f : ℕ → Bool) → f 0 ≡ false → f 1 ≡ false → (k : ℕ) → k < 2 → f k ≡ false
    before_two f zeroth once zero less = zeroth
    before_two f zeroth once (suc zero) less = once
    before_two f zeroth once (suc (suc k)) less = absurd (omega (arith, less))

-- One below a leg that failed has one step.

pub length_under_failed : (conf : Conf) (tree : Batch) (number : ℕ) (leg parent : Leg) → ParentsFirst conf.legs
    → slice_get conf.legs number ≡ Some leg → parent_of conf.legs leg ≡ Some parent
    → (leg_outcome logs conf tree parent).tree ≡ None → IsLength conf tree leg 1
length_under_failed conf tree number leg parent order at is failed =
    length_of_nothing conf tree leg
    (ap (λ (t : Batch). t.resources) (below_entry conf order tree number leg parent at is ∙ failed_hands_empty conf tree parent leg failed))
