-- A text cut at the first occurrence of a separator.
use Rattle.std.proofs.Common.{◌≡◌, ◌∙◌, ℕ, zero, suc, ◌+◌, ◌-◌, ◌<◌, ◌≤◌, Bool, true, false, cond, List, [], ◌∷◌, ◌++◌, length, take, drop, refl, sym, ap, ap₂, map, append_assoc, arith}
use Rattle.std.specs.Prelude.{None}
use Rattle.std.specs.Str.{bytes_eq}
use Rattle.std.specs.Str.Pattern.{FindsText, LacksTextAt, SplitsAroundMatch}
use Rattle.std.proofs.Math.Seq.{take-append_seam}
use Rattle.std.proofs.lemmas.List.{take-append-drop}
use Rattle.std.proofs.lemmas.Slice.Eq.{bytes_eq-Decides}
use Rattle.pdata_value.specs.declared.value.Value.{Value}
use Rattle.pdata_value.specs.declared.value.Value.TheVariants as kind
use Rattle.func_text.specs.Texts.{starts_with, before_first, pieces_after, pieces}

pub picks : {A : Type 0} (t : Bool) (x y : A) → t ≡ true → cond t x y ≡ x
picks true x y h = refl
picks false x y h = absurd cc

pub skips : {A : Type 0} (t : Bool) (x y : A) → t ≡ false → cond t x y ≡ y
skips true x y h = absurd cc
skips false x y h = refl

same_bytes : (xs ys : List ℕ) → bytes_eq xs ys ≡ true → xs ≡ ys
same_bytes xs ys h = grind (arith, bytes_eq-Decides)

bytes_same : (xs ys : List ℕ) → xs ≡ ys → bytes_eq xs ys ≡ true
bytes_same xs ys h = grind (arith, bytes_eq-Decides)

begins : (separator text rest : List ℕ) → text ≡ separator ++ rest → starts_with separator text ≡ true
begins separator text rest e = bytes_same _ _ (ap (take (length separator)) e ∙ take-append_seam separator rest)

lacks : (separator text : List ℕ) → LacksTextAt separator text 0 → (t : Bool) → starts_with separator text ≡ t → t ≡ false
lacks separator text none false e = refl
lacks separator text none true e =
    absurd (none (drop (length separator) text)
    (sym (take-append-drop (length separator) text) ∙ ap (λ (front : List ℕ). front ++ drop (length separator) text) (same_bytes _ _ e)))

passed_over : (skip : ℕ) (separator text : List ℕ) → pieces_after skip separator text ≡ pieces_after 0 separator (drop skip text)
passed_over zero separator text = refl
passed_over (suc skip) separator [] = refl
passed_over (suc skip) separator (b ∷ bs) = passed_over skip separator bs

not_empty : (separator rest : List ℕ) → 0 < length separator → [] ≡ separator ++ rest → ⊥
not_empty [] rest some e = absurd (omega arith)
not_empty (b ∷ bs) rest some e = cc

-- a text that begins with the separator
at_start : (separator : List ℕ) (b : ℕ) (bs : List ℕ) (n : ℕ) → length separator ≡ suc n → starts_with separator (b ∷ bs) ≡ true
    → pieces separator (b ∷ bs) ≡ [] ∷ pieces separator (drop n bs)
at_start separator b bs n len is =
    picks _ _ _ is
    ∙ ap (λ (ps : List (List ℕ)). [] ∷ ps)
    (ap (λ (k : ℕ). pieces_after k separator bs) (let e : length separator - 1 ≡ n = omega arith in e) ∙ passed_over n separator bs)

found_at : (separator text : List ℕ) (i j : ℕ) → 0 < length separator → j ≡ i + length separator
    → ((k : ℕ) → k < i → LacksTextAt separator text k) → drop i text ≡ separator ++ drop j text
    → pieces separator text ≡ take i text ∷ pieces separator (drop j text)
found_at separator [] zero j some ends before at = absurd (not_empty separator _ some at)
found_at separator [] (suc i) j some ends before at = absurd (not_empty separator _ some at)
found_at separator (b ∷ bs) zero zero some ends before at = absurd (omega arith)
found_at separator (b ∷ bs) zero (suc j) some ends before at =
    at_start separator b bs j (omega arith) (begins separator (b ∷ bs) _ at)
found_at separator (b ∷ bs) (suc i) zero some ends before at = absurd (omega arith)
found_at separator (b ∷ bs) (suc i) (suc j) some ends before at =
    skips _ _ _ (lacks separator (b ∷ bs) (before 0 (omega arith)) _ refl)
    ∙ ap (before_first b) (found_at separator bs i j some (omega arith) (λ k h. before (suc k) (omega arith)) at)

none_from : (separator text : List ℕ) → ((k : ℕ) → k ≤ length text → LacksTextAt separator text k) → pieces separator text ≡ text ∷ []
none_from separator [] none = refl
none_from separator (b ∷ bs) none =
    skips _ _ _ (lacks separator (b ∷ bs) (none 0 (omega arith)) _ refl)
    ∙ ap (before_first b) (none_from separator bs (λ k h. none (suc k) (omega arith)))

-- where the first occurrence is, one piece ends, and the others are those of what follows
pub found : (separator text front back : List ℕ) → 0 < length separator → SplitsAroundMatch (FindsText separator) text front back
    → pieces separator text ≡ front ∷ pieces separator back
found separator text front back some (i, j, (before, at), front_is, back_is, _, _, _) =
    found_at separator text i j some at.ends before at.split
    ∙ ap₂ (λ (p q : List ℕ). p ∷ pieces separator q) (sym front_is) (sym back_is)

-- where there is none, the text is one piece
pub not_found : (separator text : List ℕ) → FindsText separator text None → pieces separator text ≡ text ∷ []
not_found separator text none = none_from separator text none

-- one piece more
pub one_more : (separator rest piece after : List ℕ) (before now total : List Value) → 0 < length separator
    → SplitsAroundMatch (FindsText separator) rest piece after → now ≡ before ++ kind.Text piece ∷ []
    → before ++ map (λ (p : List ℕ). kind.Text p) (pieces separator rest) ≡ total
    → now ++ map (λ (p : List ℕ). kind.Text p) (pieces separator after) ≡ total
one_more separator rest piece after before now total some splits more inv =
    ap (λ (vs : List Value). vs ++ map (λ (p : List ℕ). kind.Text p) (pieces separator after)) more
    ∙ append_assoc before (kind.Text piece ∷ []) (map (λ (p : List ℕ). kind.Text p) (pieces separator after))
    ∙ ap (λ (ps : List (List ℕ)). before ++ map (λ (p : List ℕ). kind.Text p) ps) (sym (found separator rest piece after some splits))
    ∙ inv

-- the last piece
pub last_one : (separator rest : List ℕ) (before now total : List Value) → FindsText separator rest None
    → now ≡ before ++ kind.Text rest ∷ [] → before ++ map (λ (p : List ℕ). kind.Text p) (pieces separator rest) ≡ total → now ≡ total
last_one separator rest before now total none more inv =
    more ∙ ap (λ (ps : List (List ℕ)). before ++ map (λ (p : List ℕ). kind.Text p) ps) (sym (not_found separator rest none)) ∙ inv
