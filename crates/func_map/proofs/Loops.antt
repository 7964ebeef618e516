-- One pair after another.
use Rattle.std.proofs.Common.{◌≡◌, ◌∙◌, Bool, true, false, List, [], ◌∷◌, ◌++◌, map, refl, sym, ap, append_assoc}
use Rattle.std.specs.Prelude.{filter}

picked : {A : Type 0} (test : A → Bool) (x : A) (xs : List A) → test x ≡ true → filter test (x ∷ xs) ≡ x ∷ filter test xs
picked test x xs is = rw is refl

passed : {A : Type 0} (test : A → Bool) (x : A) (xs : List A) → test x ≡ false → filter test (x ∷ xs) ≡ filter test xs
passed test x xs is = rw is refl

-- a pair that passes the test is taken
pub taken : {A : Type 0} (test : A → Bool) (x : A) (xs before now total : List A) → test x ≡ true → now ≡ before ++ x ∷ []
    → before ++ filter test (x ∷ xs) ≡ total → now ++ filter test xs ≡ total
taken test x xs before now total is more inv =
    ap (λ ys. ys ++ filter test xs) more ∙ append_assoc before (x ∷ []) (filter test xs)
    ∙ ap (λ ys. before ++ ys) (sym (picked test x xs is)) ∙ inv

-- another is left out
pub left : {A : Type 0} (test : A → Bool) (x : A) (xs before total : List A) → test x ≡ false
    → before ++ filter test (x ∷ xs) ≡ total → before ++ filter test xs ≡ total
left test x xs before total is inv = ap (λ ys. before ++ ys) (sym (passed test x xs is)) ∙ inv

-- one pair more is made
pub mapped : {A B : Type 0} (f : A → B) (x : A) (xs : List A) (before now total : List B) → now ≡ before ++ f x ∷ []
    → before ++ map f (x ∷ xs) ≡ total → now ++ map f xs ≡ total
mapped f x xs before now total more inv =
    ap (λ ys. ys ++ map f xs) more ∙ append_assoc before (f x ∷ []) (map f xs) ∙ inv
