-- What the legs before a leg left tells what it gets.
use Rattle.std.proofs.Common.{◌≡◌, ℕ, zero, suc, ◌<◌, ◌≤◌, List, length, Option, Some, None, slice_get, get_or, refl, sym, ap, ◌∙◌, subst, arith}
use Rattle.std.proofs.lemmas.Option.{slice_get_within, slice_get-get_or}
use Rattle.graph_build.specs.declared.leg.Leg.{Leg}
use Rattle.leg_model.specs.Course.{Outcome}
use Rattle.leg_model.specs.Facts.{ParentsFirst}
use Rattle.leg_model.specs.Exports.{logs}
use Rattle.graph_build.specs.Conf.{Conf}
use Rattle.leg_model.specs.Legs.{below, gets, handed, leaves, leg_outcome}
use Rattle.pdata_tree.specs.Places.{within}
use Rattle.pdata_tree.specs.declared.batch.Batch.{Batch}
use Rattle.plain_legs.specs.Views.{entry_below, entry_by}

-- the first legs, so many, left this
abbrev pub Left : Conf → Batch → ℕ → List (Outcome Batch) → Type 0
Left conf tree number before = (p : ℕ) → p < number → (q : Leg) → slice_get conf.legs p ≡ Some q
    → slice_get before p ≡ Some (leg_outcome logs conf tree q)

-- what a leg gets, by the leg above it
abbrev by_above : Conf → Batch → ℕ → Leg → Option Leg → Batch
by_above conf tree above leg o =
    below logs leg (λ q. leaves logs conf q (gets logs conf tree above q)) o tree

-- with one look more, as long as the leg above gets the same
one_more : (conf : Conf) (tree : Batch) (above : ℕ) (leg : Leg) (parent : Option ℕ) → leg.parent ≡ parent
    → ((p : ℕ) (q : Leg) → parent ≡ Some p → slice_get conf.legs p ≡ Some q
    → gets logs conf tree (suc above) q ≡ gets logs conf tree above q)
    → gets logs conf tree (suc (suc above)) leg ≡ gets logs conf tree (suc above) leg
one_more conf tree above leg None is same =
    ap (λ p. by_above conf tree (suc above) leg (within (slice_get conf.legs) p)) is
    ∙ sym (ap (λ p. by_above conf tree above leg (within (slice_get conf.legs) p)) is)
one_more conf tree above leg (Some parent) is same =
    ap (λ p. by_above conf tree (suc above) leg (within (slice_get conf.legs) p)) is
    ∙ by_leg (slice_get conf.legs parent) refl
    ∙ sym (ap (λ p. by_above conf tree above leg (within (slice_get conf.legs) p)) is)
  where
    by_leg : (o : Option Leg) → slice_get conf.legs parent ≡ o
        → by_above conf tree (suc above) leg o ≡ by_above conf tree above leg o
    by_leg None at = refl
    by_leg (Some q) at = ap (λ t. handed logs leg (leaves logs conf q t)) (same parent q refl at)

-- a leg without one above it gets the payload's tree
at_root : (conf : Conf) (tree : Batch) (above : ℕ) (leg : Leg) → leg.parent ≡ None
    → gets logs conf tree (suc above) leg ≡ tree
at_root conf tree above leg is = ap (λ p. by_above conf tree above leg (within (slice_get conf.legs) p)) is

no_parent : (conf : Conf) → ParentsFirst conf.legs → (leg : Leg) → slice_get conf.legs 0 ≡ Some leg
    → (parent : Option ℕ) → leg.parent ≡ parent → leg.parent ≡ None
no_parent conf first leg at None is = is
no_parent conf first leg at (Some parent) is = absurd (omega (arith, first 0 parent leg at is))

-- a leg needs no more looks above it than there are legs before it
gets_enough : (conf : Conf) → ParentsFirst conf.legs → (tree : Batch)
    → (above number : ℕ) (leg : Leg) → slice_get conf.legs number ≡ Some leg → number ≤ above
    → gets logs conf tree (suc above) leg ≡ gets logs conf tree above leg
gets_enough conf first tree zero number leg at few =
    let same : number ≡ 0 = omega (arith, few) in
    at_root conf tree zero leg
    (no_parent conf first leg (subst (λ n. slice_get conf.legs n ≡ Some leg) same at) leg.parent refl)
gets_enough conf first tree (suc above) number leg at few =
    one_more conf tree above leg leg.parent refl
    (λ p q is there. gets_enough conf first tree above p q there (omega (arith, first number p leg at is, few)))

-- what the legs before a leg left tells what it gets, by the leg above it
by_parent : (conf : Conf) → ParentsFirst conf.legs → (tree : Batch) (number : ℕ) (leg : Leg)
    → slice_get conf.legs number ≡ Some leg → (before : List (Outcome Batch)) → Left conf tree number before
    → (most : ℕ) → length conf.legs ≡ suc most → (parent : Option ℕ) → leg.parent ≡ parent
    → entry_below leg (within (slice_get before) parent) tree
    ≡ by_above conf tree most leg (within (slice_get conf.legs) parent)
by_parent conf first tree number leg at before known most all None is = refl
by_parent conf first tree number leg at before known most all (Some p) is =
    let less : p < number = first number p leg at is in
    let here : number < length conf.legs = slice_get_within conf.legs number leg at in
    let there : slice_get conf.legs p ≡ Some (get_or conf.legs p leg) =
    slice_get-get_or conf.legs p leg (omega (arith, less, here)) in
    ap (λ o. entry_below leg o tree) (known p less (get_or conf.legs p leg) there)
    ∙ ap (λ t. handed logs leg (leaves logs conf (get_or conf.legs p leg) t))
    (ap (λ n. gets logs conf tree n (get_or conf.legs p leg)) all
    ∙ gets_enough conf first tree most p (get_or conf.legs p leg) there (omega (arith, less, here, all)))
    ∙ sym (ap (by_above conf tree most leg) there)

by_length : (conf : Conf) → ParentsFirst conf.legs → (tree : Batch) (number : ℕ) (leg : Leg)
    → slice_get conf.legs number ≡ Some leg → (before : List (Outcome Batch)) → Left conf tree number before
    → (count : ℕ) → length conf.legs ≡ count
    → entry_by leg before tree ≡ gets logs conf tree count leg
by_length conf first tree number leg at before known zero all =
    absurd (omega (arith, slice_get_within conf.legs number leg at, all))
by_length conf first tree number leg at before known (suc most) all =
    by_parent conf first tree number leg at before known most all leg.parent refl

-- what the legs before a leg left tells what it gets
pub entry_is : (conf : Conf) → ParentsFirst conf.legs → (tree : Batch) (number : ℕ) (leg : Leg)
    → slice_get conf.legs number ≡ Some leg → (before : List (Outcome Batch)) → Left conf tree number before
    → entry_by leg before tree ≡ gets logs conf tree (length conf.legs) leg
entry_is conf first tree number leg at before known =
    by_length conf first tree number leg at before known (length conf.legs) refl

-- only a leg without one above it gets the payload's tree
pub same_entry : (conf : Conf) → ParentsFirst conf.legs → (tree kept : Batch) (number : ℕ) (leg : Leg)
    → slice_get conf.legs number ≡ Some leg → (before : List (Outcome Batch)) → Left conf tree number before
    → (leg.parent ≡ None → kept ≡ tree) → entry_by leg before kept ≡ entry_by leg before tree
same_entry conf first tree kept number leg at before known root = by leg.parent refl
  where
    by : (parent : Option ℕ) → leg.parent ≡ parent
        → entry_below leg (within (slice_get before) parent) kept ≡ entry_below leg (within (slice_get before) parent) tree
    by None is = root is
    by (Some p) is =
        let less : p < number = first number p leg at is in
        let here : number < length conf.legs = slice_get_within conf.legs number leg at in
        let q : Leg = get_or conf.legs p leg in
        let there : slice_get conf.legs p ≡ Some q = slice_get-get_or conf.legs p leg (omega (arith, less, here)) in
        ap (λ o. entry_below leg o kept) (known p less q there) ∙ sym (ap (λ o. entry_below leg o tree) (known p less q there))
