-- Where there are fewer legs than levels were looked at, one more level finds the same legs.
use Rattle.std.proofs.Common.{◌≡◌, ℕ, zero, suc, ◌+◌, ◌≤◌, List, [], ◌∷◌, ◌++◌, length, refl, ap, arith, length-append}
use Rattle.conf_draft.specs.declared.draft.Draft.{Draft}
use Rattle.graph_build.specs.declared.exits.Exit.{Exit}
use Rattle.graph_build.specs.declared.leg.Leg.{Leg}
use Rattle.graph_build.specs.Exits.{exits_of}
use Rattle.graph_build.specs.Legs.{child_leg, children, legs_below}

-- the two find the same legs behind whatever has so few
abbrev Same : (ℕ → Leg → List Leg) → (ℕ → Leg → List Leg) → ℕ → Type 0
Same below deeper few = (number : ℕ) (leg : Leg) → length (below number leg) ≤ few → deeper number leg ≡ below number leg

children-same : (draft : Draft) (below deeper : ℕ → Leg → List Leg) (few : ℕ) → Same below deeper few
    → (parent next : ℕ) (exits : List Exit) → length (children draft below parent next exits) ≤ few
    → children draft deeper parent next exits ≡ children draft below parent next exits
children-same draft below deeper few same parent next [] h = refl
children-same draft below deeper few same parent next (exit ∷ exits) h =
    let first : length (below next (child_leg draft parent exit)) ≤ few = omega (arith, length-append {A = Leg}, h) in
    let rest : length (children draft below parent (next + length (below next (child_leg draft parent exit))) exits) ≤ few =
    omega (arith, length-append {A = Leg}, h) in
    rw (same next (child_leg draft parent exit) first)
    (ap (λ more. below next (child_leg draft parent exit) ++ more)
    (children-same draft below deeper few same parent (next + length (below next (child_leg draft parent exit))) exits rest))

pub legs_below-deeper : (draft : Draft) (levels number : ℕ) (leg : Leg) → length (legs_below draft (suc levels) number leg) ≤ levels
    → legs_below draft (suc (suc levels)) number leg ≡ legs_below draft (suc levels) number leg
legs_below-deeper draft zero number leg h = absurd (omega (arith, h))
legs_below-deeper draft (suc levels) number leg h =
    ap (λ more. leg ∷ more)
    (children-same draft (legs_below draft (suc levels)) (legs_below draft (suc (suc levels))) levels
    (λ n child k. legs_below-deeper draft levels n child k) number (suc number) (exits_of draft leg.pipeline) (omega (arith, h)))
