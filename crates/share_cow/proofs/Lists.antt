-- Lists of places, and what changes with one entry.
use Rattle.std.proofs.Common.{◌≡◌, ◌≢◌, ◌+◌, ◌<◌, ◌≤◌, ℕ, zero, suc, pred, List, [], ◌∷◌, ◌++◌, length, get_or, take, drop, map, refl, ap, arith}
use Rattle.std.proofs.lemmas.Bool.Decides.{nat_tests}
use Rattle.std.proofs.lemmas.List.{drop_more, take-append-drop}
use Rattle.share_cow.specs.Levels.{times, named, list_at, sum_over}

pub times_head : (p : ℕ) (qs : List ℕ) → times p (p ∷ qs) ≡ 1 + times p qs
times_head p qs = grind (arith, nat_tests)

pub times_other : (p q : ℕ) (qs : List ℕ) → q ≢ p → times p (q ∷ qs) ≡ times p qs
times_other p q qs d = grind (arith, nat_tests)

pub times_append : (p : ℕ) (xs ys : List ℕ) → times p (xs ++ ys) ≡ times p xs + times p ys
times_append p [] ys = omega arith
times_append p (x ∷ xs) ys = omega (arith, times_append p xs ys)

pub sum_append : (f : ℕ → ℕ) (xs ys : List ℕ) → sum_over f (xs ++ ys) ≡ sum_over f xs + sum_over f ys
sum_append f [] ys = omega arith
sum_append f (x ∷ xs) ys = omega (arith, sum_append f xs ys)

-- a list that names a place adds its part to the sum
pub sum_at_least : (f : ℕ → ℕ) (q : ℕ) (qs : List ℕ) → 0 < times q qs → f q ≤ sum_over f qs
sum_at_least f q [] h = omega arith
sum_at_least f q (r ∷ qs) h = grind (arith, nat_tests, sum_at_least f q qs)

pub times_at : (p : ℕ) (ls : List (List ℕ)) (i : ℕ) → times p (list_at ls i) ≤ named p ls
times_at p [] i = omega arith
times_at p (l ∷ ls) zero = omega arith
times_at p (l ∷ ls) (suc i) = omega (arith, times_at p ls i)

-- two lists that both name a place count twice
pub both_name : (p : ℕ) (ls : List (List ℕ)) (i j : ℕ) → i ≢ j → times p (list_at ls i) + times p (list_at ls j) ≤ named p ls
both_name p [] i j d = omega arith
both_name p (l ∷ ls) zero zero d = absurd (d refl)
both_name p (l ∷ ls) zero (suc j) d = omega (arith, times_at p ls j)
both_name p (l ∷ ls) (suc i) zero d = omega (arith, times_at p ls i)
both_name p (l ∷ ls) (suc i) (suc j) d = omega (arith, both_name p ls i j (λ e. d (ap suc e)))

-- lists that are the same place by place name the same
pub named_same : (p : ℕ) (ls ls2 : List (List ℕ)) → ((i : ℕ) → list_at ls2 i ≡ list_at ls i) → named p ls2 ≡ named p ls
named_same p [] [] same = refl
named_same p [] (m ∷ ms) same =
    let rest = named_same p [] ms (λ i. same (suc i)) in
    omega (arith, rest, ap (times p) (same zero))
named_same p (l ∷ ls) [] same =
    let rest = named_same p ls [] (λ i. same (suc i)) in
    omega (arith, rest, ap (times p) (same zero))
named_same p (l ∷ ls) (m ∷ ms) same =
    let rest = named_same p ls ms (λ i. same (suc i)) in
    omega (arith, rest, ap (times p) (same zero))

-- where one list differs, that list's part alone changes
pub named_but : (p : ℕ) (ls ls2 : List (List ℕ)) (i : ℕ) → ((j : ℕ) → j ≢ i → list_at ls2 j ≡ list_at ls j)
    → named p ls2 + times p (list_at ls i) ≡ named p ls + times p (list_at ls2 i)
named_but p [] [] i same = refl
named_but p [] (m ∷ ms) zero same =
    omega (arith, named_same p [] ms (λ j. same (suc j) (λ e. absurd (omega (arith, e)))))
named_but p [] (m ∷ ms) (suc i) same =
    omega (arith, named_but p [] ms i (λ j d. same (suc j) (λ e. d (ap pred e))), ap (times p) (same zero (λ e. absurd (omega (arith, e)))))
named_but p (l ∷ ls) [] zero same =
    omega (arith, named_same p ls [] (λ j. same (suc j) (λ e. absurd (omega (arith, e)))))
named_but p (l ∷ ls) [] (suc i) same =
    omega (arith, named_but p ls [] i (λ j d. same (suc j) (λ e. d (ap pred e))), ap (times p) (same zero (λ e. absurd (omega (arith, e)))))
named_but p (l ∷ ls) (m ∷ ms) zero same =
    omega (arith, named_same p ls ms (λ j. same (suc j) (λ e. absurd (omega (arith, e)))))
named_but p (l ∷ ls) (m ∷ ms) (suc i) same =
    omega (arith, named_but p ls ms i (λ j d. same (suc j) (λ e. d (ap pred e))), ap (times p) (same zero (λ e. absurd (omega (arith, e)))))

-- where two functions agree on what a list names, so do the sums and the lists of their values
pub sum_same : (f g : ℕ → ℕ) (qs : List ℕ) → ((q : ℕ) → 0 < times q qs → f q ≡ g q) → sum_over f qs ≡ sum_over g qs
sum_same f g [] same = refl
sum_same f g (q ∷ qs) same =
    let head = same q (omega (arith, times_head q qs)) in
    let rest = sum_same f g qs (λ r h. same r (omega arith)) in
    omega arith

pub sum_below : (f g : ℕ → ℕ) (qs : List ℕ) → ((q : ℕ) → 0 < times q qs → f q ≤ g q) → sum_over f qs ≤ sum_over g qs
sum_below f g [] below = omega arith
sum_below f g (q ∷ qs) below =
    let head = below q (omega (arith, times_head q qs)) in
    let rest = sum_below f g qs (λ r h. below r (omega arith)) in
    omega arith

pub map_same : {X : Type 0} (f g : ℕ → X) (qs : List ℕ) → ((q : ℕ) → 0 < times q qs → f q ≡ g q) → map f qs ≡ map g qs
map_same f g [] same = refl
map_same f g (q ∷ qs) same =
    let head = same q (omega (arith, times_head q qs)) in
    let rest = map_same f g qs (λ r h. same r (omega arith)) in
    cc

pub split_at : (qs : List ℕ) (i : ℕ) → i < length qs → qs ≡ take i qs ++ get_or qs i 0 ∷ drop (i + 1) qs
split_at qs i h = let a = take-append-drop i qs in let b = drop_more qs i 0 h in cc

-- the next of a list is listed once more than in the part before it
pub times_next : (qs : List ℕ) (i : ℕ) → i < length qs → times (get_or qs i 0) (take i qs) < times (get_or qs i 0) qs
times_next qs i h =
    omega (
      arith,
      ap (times (get_or qs i 0)) (split_at qs i h),
      times_append (get_or qs i 0) (take i qs) (get_or qs i 0 ∷ drop (i + 1) qs),
      times_head (get_or qs i 0) (drop (i + 1) qs),
    )

-- what is named in a list is met in it
pub entry_times : (qs : List ℕ) (i : ℕ) → i < length qs → 0 < times (get_or qs i 0) qs
entry_times [] i h = absurd (omega arith)
entry_times (q ∷ qs) zero h = omega (arith, times_head q qs)
entry_times (q ∷ qs) (suc i) h = omega (arith, entry_times qs i (omega arith))
