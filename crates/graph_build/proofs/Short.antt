-- What can be reached is reached in as many steps as there are pipelines: each round that changes the
-- truths adds one, and a round that changes none is followed by no other that does.
use Rattle.std.proofs.Common.{◌≡◌, ℕ, zero, suc, ◌+◌, ◌<◌, ◌≤◌, ◌-◌, ◌⊎◌, inl, inr, true≢false, Bool, true, false, ◌&&◌, ◌||◌, List, [], ◌∷◌, length, Some, slice_get, refl, sym, ap, subst, ◌∙◌, arith}
use Rattle.std.specs.Prelude.{unwrap_or}
use Rattle.std.specs.List.{list_any}
use Rattle.std.specs.Str.{bytes_eq}
use Rattle.conf_draft.specs.declared.draft.Draft.{Draft}
use Rattle.conf_draft.specs.declared.draft.Pipeline.{Pipeline}
use Rattle.graph_build.specs.Cycles.{leads, reaches, is_on_cycle}
use Rattle.graph_build.specs.Reach.{rows_in, named_in, reach_in}
use Rattle.graph_build.specs.Tables.{next_truths}
use Rattle.graph_build.proofs.Reaching.{reach_in-suc, truth-in}

-- the truths of so many steps
abbrev flags : Draft → List ℕ → ℕ → List Bool
flags draft to steps = reach_in draft steps to draft.pipelines

-- the same truths lead to the same truths
next-same : (draft : Draft) (to : List ℕ) (a b : ℕ) → flags draft to a ≡ flags draft to b
    → flags draft to (suc a) ≡ flags draft to (suc b)
next-same draft to a b e =
    sym (reach_in-suc draft a to draft.pipelines)
    ∙ ap (next_truths (rows_in draft draft.pipelines) (named_in to draft.pipelines)) e
    ∙ reach_in-suc draft b to draft.pipelines

-- so many steps more
abbrev up : ℕ → ℕ → ℕ
up zero k = k
up (suc d) k = suc (up d k)

up-sum : (d k : ℕ) → up d k ≡ d + k
up-sum zero k = omega arith
up-sum (suc d) k = let e : suc (d + k) ≡ suc d + k = omega arith in ap suc (up-sum d k) ∙ e

up-swap : (a b : ℕ) → up a b ≡ up b a
up-swap a b = let e : a + b ≡ b + a = omega arith in up-sum a b ∙ e ∙ sym (up-sum b a)

-- truths that a round doesn't change stay
stays : (draft : Draft) (to : List ℕ) (k : ℕ) → flags draft to (suc k) ≡ flags draft to k → (d : ℕ)
    → flags draft to (up d k) ≡ flags draft to k
stays draft to k e zero = refl
stays draft to k e (suc d) = next-same draft to (up d k) k (stays draft to k e d) ∙ e

-- more steps reach no less

and_or-later : (a b c d : Bool) → (c ≡ true → d ≡ true) → (a && (b || c)) ≡ true → (a && (b || d)) ≡ true
and_or-later true true c d h e = refl
and_or-later true false c d h e = h e
and_or-later false b c d h e = e

or-later : (a b x y : Bool) → (a ≡ true → b ≡ true) → (x ≡ true → y ≡ true) → (a || x) ≡ true → (b || y) ≡ true
or-later true b x y h k e = rw (h refl) refl
or-later false true x y h k e = refl
or-later false false x y h k e = k e

any-later : {A : Type 0} (f g : A → Bool) → ((x : A) → f x ≡ true → g x ≡ true) → (xs : List A)
    → list_any f xs ≡ true → list_any g xs ≡ true
any-later f g h [] e = e
any-later f g h (x ∷ xs) e = or-later (f x) (g x) (list_any f xs) (list_any g xs) (h x) (any-later f g h xs) e

later : (draft : Draft) (k : ℕ) (from to : List ℕ) → reaches draft k from to ≡ true → reaches draft (suc k) from to ≡ true
later draft zero from to e = cc
later draft (suc k) from to e =
    any-later _ _ (λ p. and_or-later (leads draft from p.name) (bytes_eq to p.name) (reaches draft k p.name to) (reaches draft (suc k) p.name to) (later draft k p.name to)) draft.pipelines e

up-later : (draft : Draft) (d k : ℕ) (from to : List ℕ) → reaches draft k from to ≡ true → reaches draft (up d k) from to ≡ true
up-later draft zero k from to e = e
up-later draft (suc d) k from to e = later draft (up d k) from to (up-later draft d k from to e)

-- a round that changes the truths adds one

abbrev count : List Bool → ℕ
count [] = 0
count (true ∷ bs) = suc (count bs)
count (false ∷ bs) = count bs

-- the same truths, or fewer
abbrev Fewer : List Bool → List Bool → Type 0
Fewer xs ys = (ys ≡ xs) ⊎ (count xs < count ys)

cons-fewer : (a b : Bool) (xs ys : List Bool) → (a ≡ true → b ≡ true) → count xs ≤ count ys → Fewer xs ys
    → Fewer (a ∷ xs) (b ∷ ys)
cons-fewer true true xs ys h k (inl e) = inl (ap (λ rest. true ∷ rest) e)
cons-fewer true true xs ys h k (inr e) = inr (omega (arith, e))
cons-fewer true false xs ys h k f = absurd (true≢false (sym (h refl)))
cons-fewer false true xs ys h k f = inr (omega (arith, k))
cons-fewer false false xs ys h k (inl e) = inl (ap (λ rest. false ∷ rest) e)
cons-fewer false false xs ys h k (inr e) = inr e

count-cons : (a b : Bool) (xs ys : List Bool) → (a ≡ true → b ≡ true) → count xs ≤ count ys → count (a ∷ xs) ≤ count (b ∷ ys)
count-cons true true xs ys h k = omega (arith, k)
count-cons true false xs ys h k = absurd (true≢false (sym (h refl)))
count-cons false true xs ys h k = omega (arith, k)
count-cons false false xs ys h k = k

count-later : (draft : Draft) (k : ℕ) (to : List ℕ) (ps : List Pipeline) → count (reach_in draft k to ps) ≤ count (reach_in draft (suc k) to ps)
count-later draft k to [] = omega arith
count-later draft k to (p ∷ ps) = count-cons _ _ _ _ (later draft k p.name to) (count-later draft k to ps)

fewer-later : (draft : Draft) (k : ℕ) (to : List ℕ) (ps : List Pipeline) → Fewer (reach_in draft k to ps) (reach_in draft (suc k) to ps)
fewer-later draft k to [] = inl refl
fewer-later draft k to (p ∷ ps) = cons-fewer _ _ _ _ (later draft k p.name to) (count-later draft k to ps) (fewer-later draft k to ps)

count-one : (a : Bool) (xs : List Bool) (n : ℕ) → count xs ≤ n → count (a ∷ xs) ≤ suc n
count-one true xs n h = omega (arith, h)
count-one false xs n h = omega (arith, h)

count-most : (draft : Draft) (k : ℕ) (to : List ℕ) (ps : List Pipeline) → count (reach_in draft k to ps) ≤ length ps
count-most draft k to [] = omega arith
count-most draft k to (p ∷ ps) = count-one (reaches draft k p.name to) _ _ (count-most draft k to ps)

-- a round before that one changes nothing
record Steady (draft : Draft) (to : List ℕ) (k : ℕ) : Type 0 where
  at : ℕ
  before : at < k
  same : flags draft to (suc at) ≡ flags draft to at

after_round : (draft : Draft) (to : List ℕ) (k : ℕ) → Steady draft to k ⊎ (k ≤ count (flags draft to k))
    → Fewer (flags draft to k) (flags draft to (suc k)) → Steady draft to (suc k) ⊎ (suc k ≤ count (flags draft to (suc k)))
after_round draft to k (inl s) f = inl (record { at = s.at; before = omega (arith, s.before); same = s.same })
after_round draft to k (inr many) (inl e) = inl (record { at = k; before = omega arith; same = e })
after_round draft to k (inr many) (inr less) = inr (omega (arith, many, less))

rounds : (draft : Draft) (to : List ℕ) (k : ℕ) → Steady draft to k ⊎ (k ≤ count (flags draft to k))
rounds draft to zero = inr (omega arith)
rounds draft to (suc k) = after_round draft to k (rounds draft to k) (fewer-later draft k to draft.pipelines)

steady : (draft : Draft) (to : List ℕ) → Steady draft to (suc (length draft.pipelines)) ⊎ (suc (length draft.pipelines) ≤ count (flags draft to (suc (length draft.pipelines))))
    → Steady draft to (suc (length draft.pipelines))
steady draft to (inl s) = s
steady draft to (inr many) = absurd (omega (arith, many, count-most draft (suc (length draft.pipelines)) to draft.pipelines))

-- after as many rounds as there are pipelines nothing changes
still : (draft : Draft) (to : List ℕ) (n : ℕ) → Steady draft to (suc n) → flags draft to (suc n) ≡ flags draft to n
still draft to n s =
    let there : up (n - s.at) s.at ≡ n = up-sum (n - s.at) s.at ∙ omega (arith, s.before) in
    subst (λ m. flags draft to (suc m) ≡ flags draft to m) there
    (stays draft to s.at s.same (suc (n - s.at)) ∙ sym (stays draft to s.at s.same (n - s.at)))

pub reaches-short : (draft : Draft) (steps index : ℕ) (p : Pipeline) → slice_get draft.pipelines index ≡ Some p
    → reaches draft steps p.name p.name ≡ true → is_on_cycle draft p.name ≡ true
reaches-short draft steps index p there e =
    let n = length draft.pipelines in
    let same = stays draft p.name n (still draft p.name n (steady draft p.name (rounds draft p.name (suc n)))) steps in
    sym (truth-in draft n p.name draft.pipelines index p there)
    ∙ ap (λ fs. unwrap_or (slice_get fs index) false) (sym same)
    ∙ truth-in draft (up steps n) p.name draft.pipelines index p there
    ∙ subst (λ k. reaches draft k p.name p.name ≡ true) (up-swap n steps) (up-later draft n steps p.name p.name e)
