-- The lines that are taken of an input, front by front.
use Rattle.std.proofs.Common.{◌≡◌, ◌∙◌, ◌++◌, ◌⊎◌, [], ◌∷◌, List, ℕ, Option, Some, None, IfSome, ap, sym, refl, inl, inr}
use Rattle.contract_words.specs.Held.{Held}
use Rattle.contract_words.specs.InputLines.{Taken, ended, too_long, taking}
use Rattle.collector.specs.Ends.{before, input_of, Took}
use Rattle.collector.specs.declared.status.Status.TheVariants.{WriteFault}

-- what holds of each holds where there is one
pub if-some : {X : Type 0} (P : X → Type 0) (o : Option X) → ((x : X) → P x) → IfSome o P
if-some P None all = tt
if-some P (Some x) all = all x

-- what follows of each follows where there is one
pub if-then : {X : Type 0} {P R : X → Type 0} (o : Option X) → IfSome o P → ((x : X) → P x → R x) → IfSome o R
if-then None p then_so = tt
if-then (Some x) p then_so = then_so x p

pub if-both : {X : Type 0} {P Q R : X → Type 0} (o : Option X) → IfSome o P → IfSome o Q → ((x : X) → P x → Q x → R x) → IfSome o R
if-both None p q both = tt
if-both (Some x) p q both = both x p q

pub before-append : (a b : List (List ℕ)) (t : Taken) → before (a ++ b) t ≡ before a (before b t)
before-append [] b t = refl
before-append (l ∷ a) b t = ap (taking l) (before-append a b t)

-- lines, up to the end or to one that passes a limit
pub in_lines : (t : Taken) → (more : List (List ℕ)) × ((t ≡ before more ended) ⊎ (t ≡ before more too_long))
in_lines ended = ([], inl refl)
in_lines too_long = ([], inr refl)
in_lines (taking l t) =
    let h = in_lines t in
    (l ∷ h.0, elim h.1 [ inl e ↦ inl (ap (taking l) e) | inr e ↦ inr (ap (taking l) e) ])

-- all lines of an input of which these are the first
pub all-first : (o : Option Held) (input : Held → Option (List ℕ)) (lines : List (List ℕ)) → IfSome o (λ held. (rest : Taken) × (input_of (input held) ≡ before lines rest))
    → (more : List (List ℕ)) × IfSome o (λ held. Took WriteFault (input held) (lines ++ more))
all-first None input lines is = ([], tt)
all-first (Some held) input lines is =
    let h = in_lines is.0 in
    let at : (t : Taken) → is.0 ≡ before h.0 t → input_of (input held) ≡ before (lines ++ h.0) t = λ t e. is.1 ∙ (ap (before lines) e ∙ sym (before-append lines h.0 t)) in
    (h.0, elim h.1 [ inl e ↦ inl (at ended e) | inr e ↦ inr (at too_long e) ])
