-- One item after another, by its flag.
use Rattle.std.proofs.Common.{◌≡◌, ◌∙◌, ◌+◌, ◌<◌, ◌≤◌, ◌^◌, ℕ, Bool, true, false, List, [], ◌∷◌, ◌++◌, length, map, Option, refl, sym, ap, arith, append_assoc, append-nil}
use Rattle.std.specs.Prelude.{IsSome, filter_map}
use Rattle.pdata_tree.specs.Selecting.{flagged}
use Rattle.shelf.specs.Places.{Places}
use Rattle.share_cow.specs.Levels.{Level, list_at, named, sum_over, times}
use Rattle.share_cow.specs.Store.{IsKept, Part, children_of}
use Rattle.share_cow.specs.declared.node.Node.{Node}
use Rattle.share_cow.proofs.Lists.{times_at, times_head}
use Rattle.share_cow.proofs.Looks.{some_is}
use Rattle.share_cow.proofs.OwnBatch.{child_room}

-- an item whose flag is true is taken
pub taken : {X : Type 0} (flag : Bool) (flags : List Bool) (x : X) (xs before now total : List X) → flag ≡ true → now ≡ before ++ x ∷ []
    → before ++ flagged (flag ∷ flags) (x ∷ xs) ≡ total → now ++ flagged flags xs ≡ total
taken true flags x xs before now total is more inv =
    ap (λ ys. ys ++ flagged flags xs) more ∙ append_assoc before (x ∷ []) (flagged flags xs) ∙ inv
taken false flags x xs before now total is more inv = absurd cc

-- another is left out
pub left : {X : Type 0} (flag : Bool) (flags : List Bool) (x : X) (xs before total : List X) → flag ≡ false
    → before ++ flagged (flag ∷ flags) (x ∷ xs) ≡ total → before ++ flagged flags xs ≡ total
left true flags x xs before total is inv = absurd cc
left false flags x xs before total is inv = inv

pub flagged_none : {X : Type 0} (flags : List Bool) → flagged {X = X} flags [] ≡ []
flagged_none [] = refl
flagged_none (flag ∷ flags) = refl

-- nothing is left
pub ended : {X : Type 0} (flags : List Bool) (rest before total : List X) → length rest ≡ 0 → before ++ flagged flags rest ≡ total → before ≡ total
ended flags [] before total none inv =
    sym (append-nil before) ∙ ap (λ ys. before ++ ys) (sym (flagged_none flags)) ∙ inv
ended flags (x ∷ rest) before total none inv = absurd (omega (arith, none))

-- flagged places are among all
pub flagged_times : (p : ℕ) (bs : List Bool) (qs : List ℕ) → times p (flagged bs qs) ≤ times p qs
flagged_times p [] qs = omega arith
flagged_times p (b ∷ bs) [] = omega arith
flagged_times p (true ∷ bs) (q ∷ qs) = omega (arith, flagged_times p bs qs)
flagged_times p (false ∷ bs) (q ∷ qs) = omega (arith, flagged_times p bs qs)

pub flagged_sum : (f : ℕ → ℕ) (bs : List Bool) (qs : List ℕ) → sum_over f (flagged bs qs) ≤ sum_over f qs
flagged_sum f [] qs = omega arith
flagged_sum f (b ∷ bs) [] = omega arith
flagged_sum f (true ∷ bs) (q ∷ qs) = omega (arith, flagged_sum f bs qs)
flagged_sum f (false ∷ bs) (q ∷ qs) = omega (arith, flagged_sum f bs qs)

pub flagged_length : (bs : List Bool) (qs : List ℕ) → length (flagged bs qs) ≤ length qs
flagged_length [] qs = omega arith
flagged_length (b ∷ bs) [] = omega arith
flagged_length (true ∷ bs) (q ∷ qs) = omega (arith, flagged_length bs qs)
flagged_length (false ∷ bs) (q ∷ qs) = omega (arith, flagged_length bs qs)

-- what they stand for is what is flagged of what all stand for
pub flagged_parts : {Y : Type 0} (kind : Part → Option Y) (v : ℕ → Part) (bs : List Bool) (qs : List ℕ) → ((q : ℕ) → 0 < times q qs → IsSome (kind (v q)))
    → filter_map kind (map v (flagged bs qs)) ≡ flagged bs (filter_map kind (map v qs))
flagged_parts kind v [] qs all = refl
flagged_parts kind v (b ∷ bs) [] all = refl
flagged_parts {Y} kind v (true ∷ bs) (q ∷ qs) all =
    let head = some_is (kind (v q)) (all q (omega (arith, times_head q qs))) in
    rw head.1 (ap (λ (ys : List Y). head.0 ∷ ys) (flagged_parts kind v bs qs (λ r n. all r (omega arith))))
flagged_parts kind v (false ∷ bs) (q ∷ qs) all =
    let head = some_is (kind (v q)) (all q (omega (arith, times_head q qs))) in
    rw head.1 (flagged_parts kind v bs qs (λ r n. all r (omega arith)))

-- what is flagged of what a node names is live, and can be named once more
pub flagged_live : {D : Type 0} (s : Places (Node D)) (lower : Level Part) → ((q : ℕ) → lower.count q ≡ named q (map children_of s.slots)) → (places : List ℕ) (flags : List Bool) (p : ℕ)
    → places ≡ flagged flags (list_at (map children_of s.slots) p) → (q : ℕ) → 0 < times q places → 0 < lower.count q
flagged_live s lower counted places flags p are q h =
    omega (arith, h, ap (times q) are, flagged_times q flags (list_at (map children_of s.slots) p), counted q, times_at q (map children_of s.slots) p)

pub flagged_room : {D : Type 0} (s : Places (Node D)) (lower : Level Part) → ((q : ℕ) → lower.count q ≡ named q (map children_of s.slots)) → IsKept s → (places : List ℕ) (flags : List Bool) (p : ℕ)
    → places ≡ flagged flags (list_at (map children_of s.slots) p) → (q : ℕ) → lower.count q + length places < 2 ^ 128
flagged_room s lower counted kept places flags p are q =
    omega (arith, ap length are, flagged_length flags (list_at (map children_of s.slots) p), child_room s lower counted kept (list_at (map children_of s.slots) p) p refl q)

pub flagged_short : (flags : List Bool) (qs : List ℕ) → length qs < 2 ^ 64 → length (flagged flags qs) < 2 ^ 64
flagged_short flags qs h = omega (arith, h, flagged_length flags qs)
