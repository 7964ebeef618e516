-- The mask of the bytes that end a run of plain ones, 16 at a time.
use Rattle.std.proofs.Common.{◌≡◌, ◌∙◌, ◌<◌, ℕ, ◌+◌, ◌*◌, ◌^◌, Bool, true, false, not, ◌||◌, ◌&&◌, cond, eqb, leb, ltb, List, [], ◌∷◌, ◌++◌, length, drop, suc, ◌≤◌, map, take-append-drop, drop-drop, eq-eqb, ne_eqb, bit_or, refl, ap, sym, arith}
use Rattle.std.specs.List.{prefix_len}
use Rattle.std.proofs.lemmas.Bool.{leb-true, leb-false, ltb-true, ltb-false}
use Rattle.json_text.specs.Reading.{is_plain}
use Rattle.json_text.specs.Marks.{is_marked}
use Rattle.std.specs.Simd.Lanes.{mask_l, chunk}
use lib.Count.{count_trailing_zeros}
use Rattle.std.proofs.lemmas.Simd.{length-chunk, leading_from_mask_l, trailing_mask_l}
use Rattle.std.proofs.lemmas.List.Folds.{prefix_len-append}
use Rattle.std.proofs.lemmas.List.Sums.{prefix_len-le-length}
use Rattle.std.proofs.lemmas.Nat.{or_block}

bit-lt : (b : Bool) → cond {A = ℕ} b 1 0 < 2 ^ 1
bit-lt true = omega arith
bit-lt false = omega arith

or-bit : (b c : Bool) → bit_or (cond b 1 0) (cond c 1 0) ≡ cond (b || c) 1 0
or-bit true true = refl
or-bit true false = refl
or-bit false true = refl
or-bit false false = refl

front : (b n : ℕ) → b + 2 * n ≡ n * 2 ^ 1 + b
front b n = omega arith

pub or-mask_l : (p q : ℕ → Bool) (xs : List ℕ) → bit_or (mask_l (map p xs)) (mask_l (map q xs)) ≡ mask_l (map (λ x. p x || q x) xs)
or-mask_l p q [] = refl
or-mask_l p q (x ∷ xs) =
    let a = mask_l (map p xs) in
    let b = mask_l (map q xs) in
    (λ i. bit_or (front (cond (p x) 1 0) a i) (front (cond (q x) 1 0) b i))
    ∙ or_block 1 a b (cond (p x) 1 0) (cond (q x) 1 0) (bit-lt (p x)) (bit-lt (q x))
    ∙ (λ i. or-mask_l p q xs i * 2 ^ 1 + or-bit (p x) (q x) i)
    ∙ sym (front (cond (p x || q x) 1 0) (mask_l (map (λ y. p y || q y) xs)))

-- the lowest bit of the mask, and no bit
below : (b : ℕ) (c d : Bool) → ltb b 32 ≡ c → leb 32 b ≡ d → c ≡ not d
below b true true e f = absurd (omega (arith, ltb-true b 32 e, leb-true 32 b f))
below b true false e f = refl
below b false true e f = refl
below b false false e f = absurd (omega (arith, ltb-false b 32 e, leb-false 32 b f))

tests : (q s c d : Bool) → c ≡ not d → not ((q || s) || c) ≡ ((d && not q) && not s)
tests true s c true e = refl
tests true s c false e = refl
tests false true c true e = refl
tests false true c false e = refl
tests false false true true e = sym e
tests false false true false e = refl
tests false false false true e = refl
tests false false false false e = sym e

unmarked : (b : ℕ) → not (is_marked b) ≡ is_plain b
unmarked b = tests (eqb b 34) (eqb b 92) (ltb b 32) (leb 32 b) (below b _ _ refl refl)

pub plain-unmarked : (xs : List ℕ) → prefix_len (λ b. not (is_marked b)) xs ≡ prefix_len is_plain xs
plain-unmarked xs = λ i. prefix_len (λ b. unmarked b i) xs

split16 : (at : ℕ) (xs : List ℕ) → chunk at 16 xs ++ drop (at + 16) xs ≡ drop at xs
split16 at xs = ap (λ ys. chunk at 16 xs ++ ys) (sym (drop-drop 16 at xs ∙ ap (λ n. drop n xs) (omega arith))) ∙ take-append-drop 16 (drop at xs)

joined : (at : ℕ) (xs : List ℕ) → prefix_len is_plain (drop at xs)
    ≡ cond (eqb (prefix_len is_plain (chunk at 16 xs)) (length (chunk at 16 xs))) (length (chunk at 16 xs) + prefix_len is_plain (drop (at + 16) xs)) (prefix_len is_plain (chunk at 16 xs))
joined at xs = ap (prefix_len is_plain) (sym (split16 at xs)) ∙ prefix_len-append is_plain (chunk at 16 xs) (drop (at + 16) xs)

-- where all stand for themselves, no bit is set
clear : (b : Bool) (n m l : ℕ) → cond (not b) (1 + n) 0 ≡ suc l → (n ≡ l → m ≡ 0) → cond b 1 0 + 2 * m ≡ 0
clear true n m l e f = absurd (omega arith)
clear false n m l e f = omega (arith, f (omega arith))

all_clear : (xs : List ℕ) → prefix_len (λ b. not (is_marked b)) xs ≡ length xs → mask_l (map is_marked xs) ≡ 0
all_clear [] e = refl
all_clear (x ∷ xs) e = clear (is_marked x) (prefix_len (λ b. not (is_marked b)) xs) (mask_l (map is_marked xs)) (length xs) e (all_clear xs)

pub none_marked : (at : ℕ) (xs : List ℕ) (m : ℕ) → at + 16 ≤ length xs → m ≡ mask_l (map is_marked (chunk at 16 xs)) → m ≡ 0
    → prefix_len is_plain (drop at xs) ≡ 16 + prefix_len is_plain (drop (at + 16) xs)
none_marked at xs m le e z =
    let ys = chunk at 16 xs in
    let long : length ys ≡ 16 = length-chunk at 16 xs le in
    let all : prefix_len is_plain ys ≡ length ys = sym (plain-unmarked ys) ∙ leading_from_mask_l is_marked ys (sym e ∙ z) in
    joined at xs ∙ ap (λ b. cond b (length ys + prefix_len is_plain (drop (at + 16) xs)) (prefix_len is_plain ys)) (eq-eqb _ _ all)
    ∙ ap (λ n. n + prefix_len is_plain (drop (at + 16) xs)) long

pub first_marked : (at : ℕ) (xs : List ℕ) (m : ℕ) → at + 16 ≤ length xs → m ≡ mask_l (map is_marked (chunk at 16 xs)) → 0 < m
    → (prefix_len is_plain (drop at xs) ≡ count_trailing_zeros 64 m) × (at + count_trailing_zeros 64 m ≤ length xs)
first_marked at xs m le e some =
    let ys = chunk at 16 xs in
    let long : length ys ≡ 16 = length-chunk at 16 xs le in
    let found : prefix_len is_plain ys ≡ count_trailing_zeros 64 m =
    sym (plain-unmarked ys) ∙ sym (ap (count_trailing_zeros 64) e ∙ trailing_mask_l is_marked 64 ys (omega arith) (omega (arith, e))) in
    let part : prefix_len is_plain ys ≡ length ys → ⊥ = λ all. absurd (omega (arith, e, all_clear ys (plain-unmarked ys ∙ all))) in (
      joined at xs ∙ ap (λ b. cond b (length ys + prefix_len is_plain (drop (at + 16) xs)) (prefix_len is_plain ys)) (ne_eqb _ _ part) ∙ found,
      omega (arith, prefix_len-le-length is_plain ys, found),
    )
