-- A change of a part is a change of the whole.
use Rattle.std.proofs.Common.{◌≡◌, ◌∙◌, ℕ, zero, suc, List, [], ◌∷◌, refl, sym, ap}
use Rattle.std.specs.Prelude.{slice_get, slice_set, Result, Ok, Err, Some}
use Rattle.pdata_value.specs.Answers.{◌>>=◌}
use Rattle.pdata_value.specs.declared.error.EvalErr.{EvalErr}
use Rattle.pdata_value.specs.declared.error.EvalStop.{EvalStop}
use Rattle.pdata_value.specs.declared.error.EvalStop.TheVariants as stop
use Rattle.pdata_tree.specs.Access.{there, change_at}
use Rattle.pdata_tree.specs.Changes.{Changes}

-- what is set to what it is stays
set_same : {X : Type 0} (xs : List X) (i : ℕ) (x : X) → slice_get xs i ≡ Some x → slice_set xs i x ≡ xs
set_same [] i x e = refl
set_same {X} (y ∷ xs) zero x e = ap (λ (z : X). z ∷ xs) (sym (same e))
  where
    same : Some y ≡ Some x → y ≡ x
    same e = cc
set_same {X} (y ∷ xs) (suc i) x e = ap (λ (ys : List X). y ∷ ys) (set_same xs i x e)

-- an object holds a part that changes
pub change_of_part : {X Y Z : Type 0} (meant : Result X EvalErr) (old new : X) (whole : X → Y) (result : Result Z EvalStop)
    → Changes meant old new result → Changes (meant >>= λ x. Ok (whole x)) (whole old) (whole new) result
change_of_part meant old new whole (Ok done) h = ap (λ m. m >>= λ x. Ok (whole x)) h
change_of_part meant old new whole (Err (stop.Err error)) h = (ap whole h.0, ap (λ m. m >>= λ x. Ok (whole x)) h.1)
change_of_part meant old new whole (Err stop.NoMemory) h = (ap whole h.0, h.1)

-- a list holds an item that changes
pub change_of_item : {X Z : Type 0} (change : X → Result X EvalErr) (xs : List X) (i : ℕ) (old new : X) (result : Result Z EvalStop)
    → slice_get xs i ≡ Some old → Changes (change old) old new result
    → Changes (change_at i change xs) xs (slice_set xs i new) result
change_of_item change xs i old new (Ok done) e h =
    ap (λ found. there found change >>= λ x. Ok (slice_set xs i x)) e ∙ ap (λ m. m >>= λ x. Ok (slice_set xs i x)) h
change_of_item change xs i old new (Err (stop.Err error)) e h = (
  ap (slice_set xs i) h.0 ∙ set_same xs i old e,
  ap (λ found. there found change >>= λ x. Ok (slice_set xs i x)) e ∙ ap (λ m. m >>= λ x. Ok (slice_set xs i x)) h.1,
)
change_of_item change xs i old new (Err stop.NoMemory) e h = (ap (slice_set xs i) h.0 ∙ set_same xs i old e, h.1)
