-- How a leg ends that got some resource.
use Rattle.std.proofs.Common.{◌≡◌, ◌↔◌, ℕ, Bool, true, false, IsTrue, List, [], ◌∷◌, Result, refl, sym, ap, ◌∙◌}
use Rattle.leg_model.specs.Course.{Course, Failure, Outcome, by_parts, ended, left_of, outcome, start}
use Rattle.leg_model.specs.Parts.{Parts}
use Rattle.pdata_tree.specs.Grouping.{grouped}
use Rattle.pdata_tree.specs.Operations.{log_trees}
use Rattle.pdata_tree.specs.Places.{targets_from}
use Rattle.pdata_tree.specs.Tree.{records}
use Rattle.pdata_tree.specs.declared.batch.Batch.{Batch}
use Rattle.pdata_tree.specs.declared.place.Context.TheVariants.{Resource}
use Rattle.pdata_tree.specs.declared.resource.ResourceTree.{ResourceTree}

by_resources : (parts : Parts) (tree : Batch) (rs : List ResourceTree) → tree.resources ≡ rs
    → (b : Bool) → b ≡ false → (IsTrue b ↔ (tree.resources ≡ []))
    → left_of log_trees grouped parts tree (targets_from Resource 0 rs)
    ≡ ended log_trees (records tree) (by_parts log_trees grouped parts (start tree))
by_resources parts tree [] is b is_false iff = absurd (let t : b ≡ true = iff.1 is in cc)
by_resources parts tree (r ∷ rs) is b is_false iff = refl

-- it comes to the end of its parts
pub ends_so : (parts : Parts) (tree : Batch) (b : Bool) → b ≡ false → (IsTrue b ↔ (tree.resources ≡ []))
    → (taken : ℕ) → taken ≡ records tree → (end : Result (Course Batch) Failure)
    → by_parts log_trees grouped parts (start tree) ≡ end → (left : Outcome Batch) → left ≡ ended log_trees taken end
    → left ≡ outcome log_trees grouped parts tree
ends_so parts tree b is_false iff taken count end came left is =
    is ∙ ap (λ n. ended log_trees n end) count ∙ sym (ap (ended log_trees (records tree)) came)
    ∙ sym (by_resources parts tree tree.resources refl b is_false iff)
