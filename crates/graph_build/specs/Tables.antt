-- Truths, one for each pipeline, and a list of them for each pipeline.
use Rattle.std.specs.Prelude.{Bool, false, ◌&&◌, ◌||◌, List, [], ◌∷◌, map}

-- some pipeline has the truth of the first list and that of one of the others
abbrev pub meets : List Bool → List Bool → List Bool → Bool
meets [] bs cs = false
meets (a ∷ more) [] cs = false
meets (a ∷ more) (b ∷ bs) [] = false
meets (a ∷ more) (b ∷ bs) (c ∷ cs) = (a && (b || c)) || meets more bs cs

-- the same for each row
abbrev pub next_truths : List (List Bool) → List Bool → List Bool → List Bool
next_truths rows target flags = map (λ row. meets row target flags) rows
