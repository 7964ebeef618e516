-- Each leg stands behind the one above it.
use Rattle.leg_model.specs.Facts.{ParentsFirst}
use Rattle.std.proofs.Common.{◌≡◌, ℕ, zero, suc, ◌+◌, ◌<◌, List, [], ◌∷◌, ◌++◌, length, Option, Some, None, Result, Ok, Err, Bool, true, false, if◌then◌else◌, slice_get, refl, sym, ap, ◌∙◌, subst, arith}
use Rattle.conf_draft.specs.declared.draft.Draft.{Draft}
use Rattle.conf_draft.specs.declared.draft.Pipeline.{Pipeline}
use Rattle.graph_build.specs.declared.exits.Exit.{Exit}
use Rattle.graph_build.specs.declared.leg.Leg.{Leg}
use Rattle.conf_json.specs.Fault.{lifted, ◌>>=◌}
use Rattle.conf_json.specs.Settings.{settings_of}
use Rattle.conf_json.specs.declared.fault.ConfFault.{ConfFault}
use Rattle.conf_json.specs.declared.settings.Meant.{Meant}
use Rattle.conf_draft.specs.References.{pipelines_at}
use Rattle.conf_shape.specs.Fault.{first_of, unless}
use Rattle.conf_shape.specs.declared.fault.PointedFault.{PointedFault}
use Rattle.graph_build.specs.Built.{legs_fault, legs_of, roots_fault}
use Rattle.graph_build.specs.Conf.{HasLegs, conf_of, with_legs}
use Rattle.graph_build.specs.Cycles.{cycles_fault}
use Rattle.graph_build.specs.Exits.{exits_of}
use Rattle.graph_build.specs.Legs.{all_legs, child_leg, children, is_root, legs_below, legs_from, legs_of_root, max_legs, root_leg}

-- the leg above has a smaller number
abbrev IsBelow : ℕ → Leg → Type 0
IsBelow number leg = (parent : ℕ) → leg.parent ≡ Some parent → parent < number

-- so it is of each of these legs, the first of which has that number
abbrev InOrder : ℕ → List Leg → Type 0
InOrder number [] = Unit {0}
InOrder number (leg ∷ legs) = IsBelow number leg × InOrder (suc number) legs

InOrder-append : (number : ℕ) (xs ys : List Leg) → InOrder number xs → InOrder (number + length xs) ys
    → InOrder number (xs ++ ys)
InOrder-append number [] ys o p =
    let same : number + length {A = Leg} [] ≡ number = omega (arith) in
    subst (λ n. InOrder n ys) same p
InOrder-append number (x ∷ xs) ys o p =
    let same : number + length (x ∷ xs) ≡ suc number + length xs = omega (arith) in
    (o.0, InOrder-append (suc number) xs ys o.1 (subst (λ n. InOrder n ys) same p))

-- legs below a leg, as one more level finds them
abbrev Finds : (ℕ → Leg → List Leg) → Type 0
Finds below = (number : ℕ) (leg : Leg) → IsBelow number leg → InOrder number (below number leg)

child-below : (draft : Draft) (parent next : ℕ) (exit : Exit) → parent < next
    → IsBelow next (child_leg draft parent exit)
child-below draft parent next exit less p h =
    let same : parent ≡ p = cc in omega (arith, same, less)

children-in_order : (draft : Draft) (below : ℕ → Leg → List Leg) → Finds below
    → (parent next : ℕ) (exits : List Exit) → parent < next
    → InOrder next (children draft below parent next exits)
children-in_order draft below finds parent next [] less = tt
children-in_order draft below finds parent next (exit ∷ exits) less =
    InOrder-append next (below next (child_leg draft parent exit))
    (children draft below parent (next + length (below next (child_leg draft parent exit))) exits)
    (finds next (child_leg draft parent exit) (child-below draft parent next exit less))
    (children-in_order draft below finds parent (next + length (below next (child_leg draft parent exit))) exits
    (omega (arith, less)))

legs_below-in_order : (draft : Draft) (levels : ℕ) → Finds (legs_below draft levels)
legs_below-in_order draft zero number leg b = tt
legs_below-in_order draft (suc levels) number leg b = (
  b,
  children-in_order draft (legs_below draft levels) (legs_below-in_order draft levels) number (suc number)
      (exits_of draft leg.pipeline) (omega (arith)),
)

root-below : (draft : Draft) (number : ℕ) (name : List ℕ) → IsBelow number (root_leg draft name)
root-below draft number name p h = absurd (cc)

legs_of_root-in_order : (draft : Draft) (number : ℕ) (p : Pipeline) → InOrder number (legs_of_root draft number p)
legs_of_root-in_order draft number p = by_root (is_root draft p)
  where
    by_root : (b : Bool)
        → InOrder number (if b then legs_below draft (suc max_legs) number (root_leg draft p.name) else [])
    by_root true = legs_below-in_order draft (suc max_legs) number (root_leg draft p.name) (root-below draft number p.name)
    by_root false = tt

legs_from-in_order : (draft : Draft) (next : ℕ) (ps : List Pipeline) → InOrder next (legs_from draft next ps)
legs_from-in_order draft next [] = tt
legs_from-in_order draft next (p ∷ ps) =
    InOrder-append next (legs_of_root draft next p) (legs_from draft (next + length (legs_of_root draft next p)) ps)
    (legs_of_root-in_order draft next p)
    (legs_from-in_order draft (next + length (legs_of_root draft next p)) ps)

at-below : (number : ℕ) (legs : List Leg) → InOrder number legs → (index : ℕ) (leg : Leg)
    → slice_get legs index ≡ Some leg → IsBelow (number + index) leg
at-below number [] o index leg at p h = absurd (cc)
at-below number (l ∷ legs) o zero leg at p h =
    let same : l ≡ leg = cc in omega (arith, o.0 p (ap (λ (x : Leg). x.parent) same ∙ h))
at-below number (l ∷ legs) o (suc index) leg at p h =
    omega (arith, at-below (suc number) legs o.1 index leg at p h)

pub all_legs-parents_first : (draft : Draft) → ParentsFirst (all_legs draft)
all_legs-parents_first draft number parent leg at is =
    omega (arith, at-below 0 (all_legs draft) (legs_from-in_order draft 0 draft.pipelines) number leg at parent is)

-- what stands where there is no fault
of_unless : (o : Option PointedFault) (x legs : List Leg) → unless o x ≡ Ok legs → x ≡ legs
of_unless None x legs is = cc
of_unless (Some f) x legs is = absurd (cc)

by_found : (meant : Meant) (found : Result (List Leg) PointedFault) → legs_of meant.draft ≡ found
    → (legs : List Leg)
    → HasLegs legs (lifted found >>= λ ls. Ok (record { meant = meant; legs = ls })) → ParentsFirst legs
by_found meant (Err f) is legs has = absurd has
by_found meant (Ok ls) is legs has =
    let all : all_legs meant.draft ≡ ls = of_unless (first_of (cycles_fault meant.draft pipelines_at meant.draft.pipelines)
    (first_of (roots_fault meant.draft pipelines_at) (legs_fault pipelines_at (all_legs meant.draft))))
    (all_legs meant.draft) ls is in
    subst ParentsFirst (all ∙ sym has) (all_legs-parents_first meant.draft)

by_settings : (r : Result Meant ConfFault) (legs : List Leg) → HasLegs legs (r >>= with_legs) → ParentsFirst legs
by_settings (Err f) legs has = absurd has
by_settings (Ok meant) legs has = by_found meant (legs_of meant.draft) refl legs has

-- so it is of the legs of a configuration
pub legs_in_order : (bytes : List ℕ) (legs : List Leg) → HasLegs legs (conf_of bytes) → ParentsFirst legs
unfolding conf_of
legs_in_order bytes legs has = by_settings (settings_of bytes) legs has
