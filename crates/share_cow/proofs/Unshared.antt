-- New nodes are shared with nobody, and where no root is live no node is left.
use Rattle.std.proofs.Common.{◌≡◌, ◌≤◌, ℕ, zero, suc, false, List, [], ◌∷◌, refl, ◌∙◌, arith, inl, inr}
use Rattle.std.specs.Prelude.{nat_lt}
use Rattle.share_cow.specs.Emptied.{HoldsNothing}
use Rattle.share_cow.specs.Levels.{AllCounted, Counted, Level, list_at, shared_places}
use Rattle.share_cow.specs.Lowering.{AllAgree}
use Rattle.share_cow.specs.Planting.{AllMore}
use Rattle.share_cow.specs.Store.{IsSound, Part, Store, batch_level, batch_made, log_level, resource_level, resource_made, scope_level, scope_made, spare}
use Rattle.share_cow.proofs.Apart.{new_children, sum_none}
use Rattle.share_cow.proofs.Growing.{AllTidy, New, Tidy, tidy_level}
use Rattle.share_cow.proofs.Lists.{named_same}
use Rattle.share_cow.proofs.Table.{named_by_roots}

not_over : (n : ℕ) → n ≤ 1 → nat_lt 1 n ≡ false
not_over zero h = refl
not_over (suc zero) h = refl
not_over (suc (suc n)) h = absurd (omega (arith, h))

few : (l m : Level Part) (p : ℕ) → New l m p → l.count p ≡ 0 → m.count p ≤ 1
few l m p (inl same) new = omega (arith, same, new)
few l m p (inr came) new = omega (arith, came.1)

-- no place of a new node's tree is shared
pub new_unshared : (l m : Level Part) (ls ms : List (Level Part)) → AllCounted (l ∷ ls) → AllCounted (m ∷ ms) → AllAgree (l ∷ ls) (l ∷ ls) (m ∷ ms) → AllTidy (l ∷ ls)
    → AllMore (l ∷ ls) (m ∷ ms) → (p : ℕ) → l.count p ≡ 0 → shared_places false (m ∷ ms) p ≡ 0
new_unshared l m [] [] before after agree tidy more p new =
    rw (not_over (m.count p) (few l m p (more.0 p) new)) (omega (arith, sum_none (shared_places {X = Part} false []) (list_at m.children p) (λ q h. refl)))
new_unshared l m [] (m2 ∷ ms) before after agree tidy more p new = absurd more.1
new_unshared l m (l2 ∷ ls) [] before after agree tidy more p new = absurd more.1
new_unshared l m (l2 ∷ ls) (m2 ∷ ms) before after agree tidy more p new =
    let below = sum_none (shared_places false (m2 ∷ ms)) (list_at m.children p)
    (λ q h. new_unshared l2 m2 ls ms before.1 after.1 agree.1 tidy.1 more.1 q (new_children l m l2 m2 before.0 after.0 agree.0 tidy.0 more.1.0 p q new h)) in
    rw (not_over (m.count p) (few l m p (more.0 p) new)) (omega (arith, below))

-- below nodes that aren't there nothing is named
none_below : (l m : Level Part) → Counted l m → Tidy l → ((p : ℕ) → l.count p ≡ 0) → (p : ℕ) → m.count p ≡ 0
none_below l m counted tidy none p = counted p ∙ named_same p [] l.children (λ i. tidy i (none i))

pub emptied : (s : Store) → IsSound s → spare s ≡ s.most → HoldsNothing s
emptied s sound all =
    let no_batches : (p : ℕ) → (batch_level s.batches).count p ≡ 0 =
    λ p. omega (arith, sound.counts.0 p, named_by_roots p s.roots, all, sound.roots) in
    let no_resources = none_below (batch_level s.batches) (resource_level s.resources) sound.counts.1.0 (tidy_level batch_made s.batches sound.batches) no_batches in
    let no_scopes = none_below (resource_level s.resources) (scope_level s.scopes) sound.counts.1.1.0 (tidy_level resource_made s.resources sound.resources) no_resources in
    let no_logs = none_below (scope_level s.scopes) (log_level s.logs) sound.counts.1.1.1.0 (tidy_level scope_made s.scopes sound.scopes) no_scopes in
    record {
      batches = λ p. sound.batches.tidy p (no_batches p);
      resources = λ p. sound.resources.tidy p (no_resources p);
      scopes = λ p. sound.scopes.tidy p (no_scopes p);
      logs = λ p. sound.logs.tidy p (no_logs p);
    }
