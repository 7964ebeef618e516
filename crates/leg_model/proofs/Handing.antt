-- What a leg gets is what the leg above it hands to it, and nothing where that failed.
use Rattle.std.proofs.Common.{◌≡◌, ◌∙◌, ℕ, zero, suc, ◌<◌, ◌≤◌, List, [], ◌∷◌, length, Option, Some, None, Result, Ok, Err, slice_get, refl, sym, ap, arith}
use Rattle.std.proofs.lemmas.Option.{slice_get_within}
use Rattle.std.specs.Prelude.{unwrap_or}
use Rattle.graph_build.specs.Conf.{Conf}
use Rattle.graph_build.specs.declared.leg.Leg.{Leg}
use Rattle.leg_model.specs.Course.{Course, Failure, Outcome, ended, left_of, untouched}
use Rattle.leg_model.specs.Exports.{lines_left, lines_of, logs}
use Rattle.leg_model.specs.Facts.{LeavesNothing, ParentsFirst, entry}
use Rattle.leg_model.specs.Legs.{Kind, below, gets, handed, leaves, leg_outcome, parent_of, routed_to}
use Rattle.leg_model.specs.Parts.{Parts, parts_of}
use Rattle.pdata_tree.specs.Grouping.{grouped}
use Rattle.pdata_tree.specs.Operations.{log_trees}
use Rattle.pdata_tree.specs.Places.{targets_from, within}
use Rattle.pdata_tree.specs.declared.batch.Batch.{Batch}
use Rattle.pdata_tree.specs.declared.place.Context.TheVariants.{Resource}
use Rattle.pdata_tree.specs.declared.place.Place.{Place}
use Rattle.routing_conn.specs.Meaning.{Routed}

module _ {T : Type 0} (kind : Kind T) where
  -- a root
  root_below : (leg : Leg) (f : Leg → Outcome T) (legs : List Leg) (o : Option ℕ) (tree : T)
      → ((parent : ℕ) → o ≡ Some parent → ⊥) → below kind leg f (within (slice_get legs) o) tree ≡ tree
  root_below leg f legs None tree none = refl
  root_below leg f legs (Some p) tree none = absurd (none p refl)

  pub root_gets : (conf : Conf) (tree : T) (above : ℕ) (leg : Leg) → leg.parent ≡ None
      → gets kind conf tree above leg ≡ tree
  root_gets conf tree zero leg root = refl
  root_gets conf tree (suc above) leg root =
      root_below leg (λ parent. leaves kind conf parent (gets kind conf tree above parent)) conf.legs leg.parent tree
      (λ p is. absurd cc)

  -- the leg above, where it leaves the same by two ways
  same_found : (leg : Leg) (f g : Leg → Outcome T) (tree : T) (o : Option Leg)
      → ((q : Leg) → o ≡ Some q → f q ≡ g q) → below kind leg f o tree ≡ below kind leg g o tree
  same_found leg f g tree None same = refl
  same_found leg f g tree (Some q) same = ap (handed kind leg) (same q refl)

  same_below : (leg : Leg) (f g : Leg → Outcome T) (tree : T) (legs : List Leg) (o : Option ℕ)
      → ((p : ℕ) (q : Leg) → o ≡ Some p → slice_get legs p ≡ Some q → f q ≡ g q)
      → below kind leg f (within (slice_get legs) o) tree ≡ below kind leg g (within (slice_get legs) o) tree
  same_below leg f g tree legs None same = refl
  same_below leg f g tree legs (Some p) same = same_found leg f g tree (slice_get legs p) (λ q at. same p q refl at)

  -- as many looks as there are legs before it are enough for a leg
  settled : (conf : Conf) → ParentsFirst conf.legs → (tree : T) (m n number : ℕ) (leg : Leg)
      → slice_get conf.legs number ≡ Some leg → number ≤ m → number ≤ n
      → gets kind conf tree m leg ≡ gets kind conf tree n leg
  settled conf order tree zero zero number leg at first second = refl
  settled conf order tree zero (suc n) number leg at first second =
      sym (root_below leg (λ parent. leaves kind conf parent (gets kind conf tree n parent)) conf.legs leg.parent tree
      (λ p is. let less : p < number = order number p leg at is in omega (arith, less, first)))
  settled conf order tree (suc m) zero number leg at first second =
      root_below leg (λ parent. leaves kind conf parent (gets kind conf tree m parent)) conf.legs leg.parent tree
      (λ p is. let less : p < number = order number p leg at is in omega (arith, less, second))
  settled conf order tree (suc m) (suc n) number leg at first second =
      same_below leg (λ parent. leaves kind conf parent (gets kind conf tree m parent))
      (λ parent. leaves kind conf parent (gets kind conf tree n parent)) tree conf.legs leg.parent
      (λ p q is found. let less : p < number = order number p leg at is in
      ap (leaves kind conf q) (settled conf order tree m n p q found (omega (arith, less, first)) (omega (arith, less, second))))

  pub handed_gets : (conf : Conf) → ParentsFirst conf.legs → (tree : T) (number : ℕ) (leg parent : Leg)
      → slice_get conf.legs number ≡ Some leg → parent_of conf.legs leg ≡ Some parent
      → gets kind conf tree (length conf.legs) leg ≡ handed kind leg (leg_outcome kind conf tree parent)
  handed_gets conf order tree number leg parent at is =
      let within_legs : number < length conf.legs = slice_get_within conf.legs number leg at in
      settled conf order tree (length conf.legs) (suc (length conf.legs)) number leg at (omega (arith, within_legs)) (omega (arith, within_legs))
      ∙ ap (λ o. below kind leg (λ q. leaves kind conf q (gets kind conf tree (length conf.legs) q)) o tree) is

  -- Nothing is handed on where there is nothing.

  nothing_at : (leg : Leg) (c : Option ℕ)
      → unwrap_or (within (routed_to leg.row) (within (slice_get {X = Routed T} []) c)) kind.empty ≡ kind.empty
  nothing_at leg None = refl
  nothing_at leg (Some i) = refl

  pub nothing_handed : (leg : Leg) (o : Outcome T) → o.routed ≡ [] → handed kind leg o ≡ kind.empty
  nothing_handed leg o none =
      ap (λ (rs : List (Routed T)). unwrap_or (within (routed_to leg.row) (within (slice_get rs) leg.connector)) kind.empty) none
      ∙ nothing_at leg leg.connector

  failed_end : (taken : ℕ) (r : Result (Course T) Failure) → (ended kind.ops taken r).tree ≡ None
      → (ended kind.ops taken r).routed ≡ []
  failed_end taken (Ok c) failed = absurd cc
  failed_end taken (Err f) failed = refl

  failed_left : (parts : Parts) (tree : T) (places : List Place)
      → (left_of kind.ops kind.group parts tree places).tree ≡ None
      → (left_of kind.ops kind.group parts tree places).routed ≡ []
  failed_left parts tree [] failed = absurd cc
  failed_left parts tree (p ∷ ps) failed = failed_end (kind.ops.records tree) _ failed

  -- a leg that failed has nothing for other legs
  pub failed_routes : (conf : Conf) (leg : Leg) (tree : T) → (leaves kind conf leg tree).tree ≡ None
      → (leaves kind conf leg tree).routed ≡ []
  failed_routes conf leg tree failed =
      failed_left (parts_of conf.meant leg.pipeline) tree (kind.ops.targets tree Resource) failed

  pub failed_hands : (conf : Conf) (tree : T) (parent leg : Leg) → (leg_outcome kind conf tree parent).tree ≡ None
      → handed kind leg (leg_outcome kind conf tree parent) ≡ kind.empty
  failed_hands conf tree parent leg failed =
      nothing_handed leg (leg_outcome kind conf tree parent)
      (failed_routes conf parent (gets kind conf tree (length conf.legs) parent) failed)

-- A tree without resources is left as it is.

pub empty_left : (conf : Conf) (leg : Leg) (tree : Batch) → tree.resources ≡ [] → leaves logs conf leg tree ≡ untouched tree
empty_left conf leg tree none =
    ap (λ rs. left_of log_trees grouped (parts_of conf.meant leg.pipeline) tree (targets_from Resource 0 rs)) none

nothing_left : (tree : Batch) → tree.resources ≡ [] → (o : Outcome Batch) → o ≡ untouched tree → LeavesNothing o
nothing_left tree none o is = record {
  line = ap (λ (x : Outcome Batch). lines_left x.tree) is ∙ none_of tree none;
  routed = ap (λ (x : Outcome Batch). x.routed) is;
  counts = ap (λ (x : Outcome Batch). x.counts) is;
  notes = ap (λ (x : Outcome Batch). x.notes) is;
  fault = ap (λ (x : Outcome Batch). x.fault) is;
}
  where
    none_of : (t : Batch) → t.resources ≡ [] → lines_left (Some t) ≡ []
    none_of t h = ap (lines_of t) h

pub empty_leaves_nothing : (conf : Conf) (tree : Batch) (leg : Leg) → (entry conf tree leg).resources ≡ []
    → LeavesNothing (leg_outcome logs conf tree leg)
empty_leaves_nothing conf tree leg none =
    nothing_left (entry conf tree leg) none (leg_outcome logs conf tree leg) (empty_left conf leg (entry conf tree leg) none)

-- under a leg that has nothing for other legs
under_nothing : (conf : Conf) (tree : Batch) (number : ℕ) (leg parent : Leg) → ParentsFirst conf.legs
    → slice_get conf.legs number ≡ Some leg → parent_of conf.legs leg ≡ Some parent
    → (leg_outcome logs conf tree parent).routed ≡ [] → LeavesNothing (leg_outcome logs conf tree leg)
under_nothing conf tree number leg parent order at is none =
    empty_leaves_nothing conf tree leg
    (ap (λ (t : Batch). t.resources) (handed_gets logs conf order tree number leg parent at is
    ∙ nothing_handed logs leg (leg_outcome logs conf tree parent) none))

pub under_failed : (conf : Conf) (tree : Batch) (number : ℕ) (leg parent : Leg) → ParentsFirst conf.legs
    → slice_get conf.legs number ≡ Some leg → parent_of conf.legs leg ≡ Some parent
    → (leg_outcome logs conf tree parent).tree ≡ None → LeavesNothing (leg_outcome logs conf tree leg)
under_failed conf tree number leg parent order at is failed =
    under_nothing conf tree number leg parent order at is (failed_routes logs conf parent (entry conf tree parent) failed)

pub under_empty : (conf : Conf) (tree : Batch) (number : ℕ) (leg parent : Leg) → ParentsFirst conf.legs
    → slice_get conf.legs number ≡ Some leg → parent_of conf.legs leg ≡ Some parent
    → (entry conf tree parent).resources ≡ [] → LeavesNothing (leg_outcome logs conf tree leg)
under_empty conf tree number leg parent order at is none =
    under_nothing conf tree number leg parent order at is ((empty_leaves_nothing conf tree parent none).routed)

-- What the laws say.

pub root_entry : (conf : Conf) (tree : Batch) (leg : Leg) → leg.parent ≡ None → entry conf tree leg ≡ tree
root_entry conf tree leg root = root_gets logs conf tree (length conf.legs) leg root

pub below_entry : (conf : Conf) → ParentsFirst conf.legs → (tree : Batch) (number : ℕ) (leg parent : Leg)
    → slice_get conf.legs number ≡ Some leg → parent_of conf.legs leg ≡ Some parent
    → entry conf tree leg ≡ handed logs leg (leg_outcome logs conf tree parent)
below_entry conf order tree number leg parent at is = handed_gets logs conf order tree number leg parent at is

pub failed_hands_empty : (conf : Conf) (tree : Batch) (parent leg : Leg) → (leg_outcome logs conf tree parent).tree ≡ None
    → handed logs leg (leg_outcome logs conf tree parent) ≡ logs.empty
failed_hands_empty conf tree parent leg failed = failed_hands logs conf tree parent leg failed
