-- Steps below nil.
use Rattle.std.proofs.Common.{◌≡◌, ◌∙◌, List, [], ◌∷◌, refl, ap}
use Rattle.std.specs.Prelude.{Ok}
use Rattle.pdata_value.specs.Answers.{◌>>=◌}
use Rattle.pdata_value.specs.declared.value.Value.TheVariants as variants
use Rattle.pdata_value.specs.declared.value.Value.TheVariants.{Empty}
use Rattle.pdata_tree.specs.declared.path.Key.{Key}
use Rattle.pdata_tree.specs.declared.path.Key.TheVariants.{Name, Index}
use Rattle.pdata_tree.specs.Walk.{at_index, under_name, walk}

-- below nil there is nil
pub walk_of_nil : (ks : List Key) → walk ks Empty ≡ Ok Empty
walk_of_nil [] = refl
walk_of_nil (Name name ∷ ks) = ap (λ layer. under_name name layer >>= walk ks) variants.outs-Empty ∙ walk_of_nil ks
walk_of_nil (Index i ∷ ks) = ap (λ layer. at_index i layer >>= walk ks) variants.outs-Empty ∙ walk_of_nil ks
