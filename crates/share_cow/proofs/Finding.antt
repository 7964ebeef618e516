-- The nodes on the way to a place are live.
use Rattle.std.proofs.Common.{◌≡◌, ◌<◌, ◌↔◌, ℕ, zero, suc, refl, List, [], ◌∷◌, length, get_or, map, Some, ap, ◌∙◌, subst, arith}
use Rattle.std.specs.Prelude.{IsTrue, cond, nat_le, nat_lt}
use Rattle.std.proofs.lemmas.Bool.Decides.{nat_tests}
use Rattle.shelf.specs.Places.{count_at}
use Rattle.share_cow.specs.Copies.{InTree, end_of}
use Rattle.share_cow.specs.Levels.{list_at}
use Rattle.share_cow.specs.Store.{IsSound, Store, batch_made, batch_named, children_of, levels, resource_made, root_at, scope_made}
use Rattle.share_cow.proofs.OwnBatch.{names_live}
use Rattle.share_cow.proofs.Table.{root_list}

pub batch_is : (s : Store) (root b : ℕ) → root_at s root ≡ Some b → get_or (list_at (map batch_named s.roots) root) 0 0 ≡ b
batch_is s root b is = ap (λ (qs : List ℕ). get_or qs 0 0) (root_list s.roots root ∙ ap batch_named is)

few : (n : ℕ) → IsTrue (nat_le n 1) ↔ (cond {A = ℕ} (nat_lt 1 n) 1 0 ≡ 0)
few zero = (λ h. refl, λ h. refl)
few (suc zero) = (λ h. refl, λ h. refl)
few (suc (suc n)) = (λ h. grind (arith, nat_tests), λ h. grind (arith, nat_tests))

-- a node owes nothing where it counts no more than once
pub few_owed : (n m : ℕ) → n ≡ m → IsTrue (nat_le n 1) ↔ (cond {A = ℕ} (nat_lt 1 m) 1 0 ≡ 0)
few_owed n m same = subst (λ (k : ℕ). IsTrue (nat_le n 1) ↔ (cond {A = ℕ} (nat_lt 1 k) 1 0 ≡ 0)) same (few n)

module _ (s : Store) (root : ℕ) (sound : IsSound s) where
  pub batch_on_way : (i b : ℕ) → InTree (levels s) root (0 ∷ i ∷ []) → end_of (levels s) root (0 ∷ []) ≡ b → 0 < count_at s.batches b
  batch_on_way i b there ends =
      names_live batch_made s.batches b i sound.batches (subst (λ (q : ℕ). i < length (list_at (map children_of s.batches.slots) q)) ends there.1.0)

  pub resource_on_way : (i j r : ℕ) → InTree (levels s) root (0 ∷ i ∷ j ∷ []) → end_of (levels s) root (0 ∷ i ∷ []) ≡ r → 0 < count_at s.resources r
  resource_on_way i j r there ends =
      names_live resource_made s.resources r j sound.resources (subst (λ (q : ℕ). j < length (list_at (map children_of s.resources.slots) q)) ends there.1.1.0)

  pub scope_on_way : (i j k t : ℕ) → InTree (levels s) root (0 ∷ i ∷ j ∷ k ∷ []) → end_of (levels s) root (0 ∷ i ∷ j ∷ []) ≡ t → 0 < count_at s.scopes t
  scope_on_way i j k t there ends =
      names_live scope_made s.scopes t k sound.scopes (subst (λ (q : ℕ). k < length (list_at (map children_of s.scopes.slots) q)) ends there.1.1.1.0)
