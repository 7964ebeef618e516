-- What is read as a numeral is spelled by the grammar, and nothing else is.
use Rattle.std.proofs.Common.{◌≡◌, ◌∙◌, ℕ, zero, suc, Bool, true, false, List, [], ◌∷◌, ◌++◌, refl, ap, sym, subst, inl, inr, cond, arith, codes}
use Rattle.std.specs.Prelude.{◌⊎◌, ◌&&◌, ◌||◌, ◌==◌}
use Rattle.std.specs.Str.{bytes_eq}
use Rattle.std.proofs.lemmas.List.{append-nil}
use Rattle.std.proofs.lemmas.Bool.Decides.{nat_tests}
use Rattle.contract_words.specs.Grammar.{Rule, byte, seq, many, spells, Turns}
use Rattle.pdata_value.specs.Numeral.{optional, digits, int, frac, exp, numeral, is_digit, is_leading, is_e, is_sign, IsSpelling}
use Rattle.pdata_value.proofs.Bools.{picks, skips, both, left, right, same_bytes, bytes_same}
use Rattle.pdata_value.specs.Scan.{after_digits, is_nothing, are_digits, is_power, is_exponent, is_fraction, is_scale, is_unsigned, is_numeral, is_spelling}

-- kinds of bytes
digit_no-sign : (b : ℕ) → is_digit b ≡ true → is_sign b ≡ false
digit_no-sign b h = grind (arith, nat_tests)

e_no-digit : (b : ℕ) → is_e b ≡ true → is_digit b ≡ false
e_no-digit b h = grind (arith, nat_tests)

e_no-point : (b : ℕ) → is_e b ≡ true → (b == 46) ≡ false
e_no-point b h = grind (arith, nat_tests)

point_no-digit : (b : ℕ) → (b == 46) ≡ true → is_digit b ≡ false
point_no-digit b h = grind (arith, nat_tests)

leading_no-zero : (b : ℕ) → is_leading b ≡ true → (b == 48) ≡ false
leading_no-zero b h = grind (arith, nat_tests)

zero_no-minus : (b : ℕ) → (b == 48) ≡ true → (b == 45) ≡ false
zero_no-minus b h = grind (arith, nat_tests)

leading_no-minus : (b : ℕ) → is_leading b ≡ true → (b == 45) ≡ false
leading_no-minus b h = grind (arith, nat_tests)

-- what is read is spelled
abbrev Many : List ℕ → Type 0
Many text = spells (many (byte is_digit)) text

more : (b : ℕ) (ds : List ℕ) → is_digit b ≡ true → Many ds → Many (b ∷ ds)
more b ds h m = (suc m.0, (b ∷ [], ds, (b, h, refl), m.1, refl))

-- some digits and then the rest
abbrev Split : List ℕ → List ℕ → Type 0
Split text rest = (ds : List ℕ) × Many ds × (text ≡ ds ++ rest)

split_on : (b : ℕ) (bs rest : List ℕ) (t : Bool) → is_digit b ≡ t → Split bs rest → Split (b ∷ bs) (cond t rest (b ∷ bs))
split_on b bs rest true h s = (b ∷ s.0, more b s.0 h s.1, ap (λ (xs : List ℕ). b ∷ xs) s.2)
split_on b bs rest false h s = ([], (zero, refl), refl)

split : (text : List ℕ) → Split text (after_digits text)
split [] = ([], (zero, refl), refl)
split (b ∷ bs) = split_on b bs (after_digits bs) (is_digit b) refl (split bs)

no_more : (rest ds bs : List ℕ) → is_nothing rest ≡ true → bs ≡ ds ++ rest → Many ds → Many bs
no_more [] ds bs h e m = subst Many (sym (e ∙ append-nil ds)) m
no_more (b ∷ rest) ds bs h e m = absurd cc

digits_spelled : (text : List ℕ) → are_digits text ≡ true → spells digits text
digits_spelled [] h = absurd cc
digits_spelled (b ∷ bs) h =
    let s = split bs in
    (b ∷ [], bs, (b, left (is_digit b) (is_nothing (after_digits bs)) h, refl), no_more (after_digits bs) s.0 bs (right (is_digit b) (is_nothing (after_digits bs)) h) s.2 s.1, refl)

power_on : (b : ℕ) (bs : List ℕ) (t : Bool) → is_sign b ≡ t → cond t (are_digits bs) (are_digits (b ∷ bs)) ≡ true → spells (seq (optional (byte is_sign)) digits) (b ∷ bs)
power_on b bs true h k = (b ∷ [], bs, inl (b, h, refl), digits_spelled bs k, refl)
power_on b bs false h k = ([], b ∷ bs, inr refl, digits_spelled (b ∷ bs) k, refl)

power_spelled : (text : List ℕ) → is_power text ≡ true → spells (seq (optional (byte is_sign)) digits) text
power_spelled [] h = absurd cc
power_spelled (b ∷ bs) h = power_on b bs (is_sign b) refl h

exponent_spelled : (text : List ℕ) → is_exponent text ≡ true → spells (optional exp) text
exponent_spelled [] h = inr refl
exponent_spelled (b ∷ bs) h = inl (b ∷ [], bs, (b, left (is_e b) (is_power bs) h, refl), power_spelled bs (right (is_e b) (is_power bs) h), refl)

abbrev scale : Rule
scale = seq (optional frac) (optional exp)

fraction_spelled : (b : ℕ) (text : List ℕ) → (b == 46) ≡ true → is_fraction text ≡ true → spells scale (b ∷ text)
fraction_spelled b [] p h = absurd cc
fraction_spelled b (d ∷ bs) p h =
    let s = split bs in
    let is = left (is_digit d) (is_exponent (after_digits bs)) h in (
      b ∷ d ∷ s.0,
      after_digits bs,
      inl (b ∷ [], d ∷ s.0, (b, p, refl), (d ∷ [], s.0, (d, is, refl), s.1, refl), refl),
      exponent_spelled (after_digits bs) (right (is_digit d) (is_exponent (after_digits bs)) h),
      ap (λ (xs : List ℕ). b ∷ d ∷ xs) s.2,
    )

scale_on : (b : ℕ) (bs : List ℕ) (t : Bool) → (b == 46) ≡ t → cond t (is_fraction bs) (is_exponent (b ∷ bs)) ≡ true → spells scale (b ∷ bs)
scale_on b bs true h k = fraction_spelled b bs h k
scale_on b bs false h k = ([], b ∷ bs, inr refl, exponent_spelled (b ∷ bs) k, refl)

scale_spelled : (text : List ℕ) → is_scale text ≡ true → spells scale text
scale_spelled [] h = ([], [], inr refl, inr refl, refl)
scale_spelled (b ∷ bs) h = scale_on b bs (b == 46) refl h

unsigned_on : (b : ℕ) (bs : List ℕ) (t : Bool) → (b == 48) ≡ t → cond t (is_scale bs) (is_leading b && is_scale (after_digits bs)) ≡ true → spells (seq int scale) (b ∷ bs)
unsigned_on b bs true h k = (b ∷ [], bs, inl (b, h, refl), scale_spelled bs k, refl)
unsigned_on b bs false h k =
    let s = split bs in (
      b ∷ s.0,
      after_digits bs,
      inr (b ∷ [], s.0, (b, left (is_leading b) (is_scale (after_digits bs)) k, refl), s.1, refl),
      scale_spelled (after_digits bs) (right (is_leading b) (is_scale (after_digits bs)) k),
      ap (λ (xs : List ℕ). b ∷ xs) s.2,
    )

unsigned_spelled : (text : List ℕ) → is_unsigned text ≡ true → spells (seq int scale) text
unsigned_spelled [] h = absurd cc
unsigned_spelled (b ∷ bs) h = unsigned_on b bs (b == 48) refl h

numeral_on : (b : ℕ) (bs : List ℕ) (t : Bool) → (b == 45) ≡ t → cond t (is_unsigned bs) (is_unsigned (b ∷ bs)) ≡ true → spells numeral (b ∷ bs)
numeral_on b bs true h k = (b ∷ [], bs, inl (b, h, refl), unsigned_spelled bs k, refl)
numeral_on b bs false h k = ([], b ∷ bs, inr refl, unsigned_spelled (b ∷ bs) k, refl)

pub numeral_spelled : (text : List ℕ) → is_numeral text ≡ true → spells numeral text
numeral_spelled [] h = absurd cc
numeral_spelled (b ∷ bs) h = numeral_on b bs (b == 45) refl h

-- what is spelled is read
one : (text x y : List ℕ) (b : ℕ) → text ≡ x ++ y → x ≡ b ∷ [] → text ≡ b ∷ y
one text x y b e f = e ∙ ap (λ (xs : List ℕ). xs ++ y) f

digit_goes : (b : ℕ) (bs : List ℕ) → is_digit b ≡ true → after_digits (b ∷ bs) ≡ after_digits bs
digit_goes b bs h = picks (is_digit b) (after_digits bs) (b ∷ bs) h

other_stays : (b : ℕ) (bs : List ℕ) → is_digit b ≡ false → after_digits (b ∷ bs) ≡ b ∷ bs
other_stays b bs h = skips (is_digit b) (after_digits bs) (b ∷ bs) h

after-turns : (n : ℕ) (xs rest : List ℕ) → Turns (spells (byte is_digit)) n xs → after_digits (xs ++ rest) ≡ after_digits rest
after-turns zero xs rest t = ap (λ (ys : List ℕ). after_digits (ys ++ rest)) t
after-turns (suc n) xs rest t =
    let b = t.2.0 in
    let y = t.1 in
    ap (λ (ys : List ℕ). after_digits (ys ++ rest)) (one xs t.0 y b t.4 t.2.2)
    ∙ digit_goes b (y ++ rest) t.2.1 ∙ after-turns n y rest t.3

after-many : (xs rest : List ℕ) → Many xs → after_digits (xs ++ rest) ≡ after_digits rest
after-many xs rest m = after-turns m.0 xs rest m.1

digits_read : (text : List ℕ) → spells digits text → are_digits text ≡ true
digits_read text s =
    let b = s.2.0 in
    let y = s.1 in
    let gone : after_digits y ≡ [] = ap after_digits (sym (append-nil y)) ∙ after-many y [] s.3 in
    ap are_digits (one text s.0 y b s.4 s.2.2) ∙ both (is_digit b) (is_nothing (after_digits y)) s.2.1 (ap is_nothing gone)

digits_power : (text : List ℕ) → are_digits text ≡ true → is_power text ≡ true
digits_power [] h = absurd cc
digits_power (b ∷ bs) h =
    skips (is_sign b) (are_digits bs) (are_digits (b ∷ bs)) (digit_no-sign b (left (is_digit b) (is_nothing (after_digits bs)) h)) ∙ h

power_parts : (text x y : List ℕ) → spells (optional (byte is_sign)) x → spells digits y → text ≡ x ++ y → is_power text ≡ true
power_parts text x y (inl s) d e =
    ap is_power (one text x y s.0 e s.2) ∙ picks (is_sign s.0) (are_digits y) (are_digits (s.0 ∷ y)) s.1 ∙ digits_read y d
power_parts text x y (inr s) d e =
    ap is_power (e ∙ ap (λ (xs : List ℕ). xs ++ y) s) ∙ digits_power y (digits_read y d)

exponent_read : (text : List ℕ) → spells (optional exp) text → is_exponent text ≡ true
exponent_read text (inl s) =
    let b = s.2.0 in
    let y = s.1 in
    let p = s.3 in
    ap is_exponent (one text s.0 y b s.4 s.2.2) ∙ both (is_e b) (is_power y) s.2.1 (power_parts y p.0 p.1 p.2 p.3 p.4)
exponent_read text (inr s) = ap is_exponent s

exponent_ends : (text : List ℕ) → is_exponent text ≡ true → after_digits text ≡ text
exponent_ends [] h = refl
exponent_ends (b ∷ bs) h = other_stays b bs (e_no-digit b (left (is_e b) (is_power bs) h))

exponent_scale : (text : List ℕ) → is_exponent text ≡ true → is_scale text ≡ true
exponent_scale [] h = refl
exponent_scale (b ∷ bs) h = skips (b == 46) (is_fraction bs) (is_exponent (b ∷ bs)) (e_no-point b (left (is_e b) (is_power bs) h)) ∙ h

fraction_parts : (text v y : List ℕ) → spells digits v → is_exponent y ≡ true → text ≡ v ++ y → is_fraction text ≡ true
fraction_parts text v y s h e =
    let d = s.2.0 in
    let ds = s.1 in
    let whole : text ≡ d ∷ (ds ++ y) = e ∙ ap (λ (xs : List ℕ). xs ++ y) (one v s.0 ds d s.4 s.2.2) in
    let left_over : after_digits (ds ++ y) ≡ y = after-many ds y s.3 ∙ exponent_ends y h in
    ap is_fraction whole ∙ both (is_digit d) (is_exponent (after_digits (ds ++ y))) s.2.1 (ap is_exponent left_over ∙ h)

scale_parts : (text x y : List ℕ) → spells (optional frac) x → is_exponent y ≡ true → text ≡ x ++ y → is_scale text ≡ true
scale_parts text x y (inl s) h e =
    let p = s.2.0 in
    let v = s.1 in
    let whole : text ≡ p ∷ (v ++ y) = e ∙ ap (λ (xs : List ℕ). xs ++ y) (one x s.0 v p s.4 s.2.2) in
    ap is_scale whole ∙ picks (p == 46) (is_fraction (v ++ y)) (is_exponent (p ∷ (v ++ y))) s.2.1 ∙ fraction_parts (v ++ y) v y s.3 h refl
scale_parts text x y (inr s) h e = ap is_scale (e ∙ ap (λ (xs : List ℕ). xs ++ y) s) ∙ exponent_scale y h

scale_read : (text : List ℕ) → spells scale text → is_scale text ≡ true
scale_read text s = scale_parts text s.0 s.1 s.2 (exponent_read s.1 s.3) s.4

scale_ends_on : (b : ℕ) (bs : List ℕ) (t : Bool) → (b == 46) ≡ t → cond t (is_fraction bs) (is_exponent (b ∷ bs)) ≡ true → after_digits (b ∷ bs) ≡ b ∷ bs
scale_ends_on b bs true h k = other_stays b bs (point_no-digit b h)
scale_ends_on b bs false h k = exponent_ends (b ∷ bs) k

scale_ends : (text : List ℕ) → is_scale text ≡ true → after_digits text ≡ text
scale_ends [] h = refl
scale_ends (b ∷ bs) h = scale_ends_on b bs (b == 46) refl h

-- an unsigned numeral, which doesn't begin with a minus
abbrev Unsigned : List ℕ → Type 0
Unsigned text = (is_unsigned text ≡ true) × (is_numeral text ≡ true)

unsigned_here : (b : ℕ) (bs : List ℕ) → (b == 45) ≡ false → is_unsigned (b ∷ bs) ≡ true → Unsigned (b ∷ bs)
unsigned_here b bs h k = (k, skips (b == 45) (is_unsigned bs) (is_unsigned (b ∷ bs)) h ∙ k)

unsigned_parts : (text x y : List ℕ) → spells int x → is_scale y ≡ true → text ≡ x ++ y → Unsigned text
unsigned_parts text x y (inl s) h e =
    let b = s.0 in
    subst Unsigned (sym (one text x y b e s.2))
    (unsigned_here b y (zero_no-minus b s.1) (picks (b == 48) (is_scale y) (is_leading b && is_scale (after_digits y)) s.1 ∙ h))
unsigned_parts text x y (inr s) h e =
    let b = s.2.0 in
    let v = s.1 in
    let whole : text ≡ b ∷ (v ++ y) = e ∙ ap (λ (xs : List ℕ). xs ++ y) (one x s.0 v b s.4 s.2.2) in
    let left_over : after_digits (v ++ y) ≡ y = after-many v y s.3 ∙ scale_ends y h in
    subst Unsigned (sym whole)
    (unsigned_here b (v ++ y) (leading_no-minus b s.2.1)
    (skips (b == 48) (is_scale (v ++ y)) (is_leading b && is_scale (after_digits (v ++ y))) (leading_no-zero b s.2.1)
    ∙ both (is_leading b) (is_scale (after_digits (v ++ y))) s.2.1 (ap is_scale left_over ∙ h)))

unsigned_read : (text : List ℕ) → spells (seq int scale) text → Unsigned text
unsigned_read text s = unsigned_parts text s.0 s.1 s.2 (scale_read s.1 s.3) s.4

numeral_parts : (text x y : List ℕ) → spells (optional (byte (λ b. b == 45))) x → Unsigned y → text ≡ x ++ y → is_numeral text ≡ true
numeral_parts text x y (inl s) u e = ap is_numeral (one text x y s.0 e s.2) ∙ picks (s.0 == 45) (is_unsigned y) (is_unsigned (s.0 ∷ y)) s.1 ∙ u.0
numeral_parts text x y (inr s) u e = ap is_numeral (e ∙ ap (λ (xs : List ℕ). xs ++ y) s) ∙ u.1

pub numeral_read : (text : List ℕ) → spells numeral text → is_numeral text ≡ true
numeral_read text s = numeral_parts text s.0 s.1 s.2 (unsigned_read s.1 s.3) s.4

-- a numeral or one of the words
any_of : (a b c d : Bool) → (a || b || c || d) ≡ true → (a ≡ true) ⊎ (b ≡ true) ⊎ (c ≡ true) ⊎ (d ≡ true)
any_of true b c d h = inl refl
any_of false true c d h = inr (inl refl)
any_of false false true d h = inr (inr (inl refl))
any_of false false false d h = inr (inr (inr h))

of_any : (a b c d : Bool) → (a ≡ true) ⊎ (b ≡ true) ⊎ (c ≡ true) ⊎ (d ≡ true) → (a || b || c || d) ≡ true
of_any true b c d h = refl
of_any false true c d h = refl
of_any false false true d h = refl
of_any false false false d (inl h) = absurd cc
of_any false false false d (inr (inl h)) = absurd cc
of_any false false false d (inr (inr (inl h))) = absurd cc
of_any false false false d (inr (inr (inr h))) = h

abbrev Found : List ℕ → Type 0
Found text = (is_numeral text ≡ true) ⊎ (bytes_eq text (codes "NaN") ≡ true) ⊎ (bytes_eq text (codes "Infinity") ≡ true) ⊎ (bytes_eq text (codes "-Infinity") ≡ true)

found_spelled : (text : List ℕ) → Found text → IsSpelling text
found_spelled text (inl h) = inl (numeral_spelled text h)
found_spelled text (inr (inl h)) = inr (inl (same_bytes text (codes "NaN") h))
found_spelled text (inr (inr (inl h))) = inr (inr (inl (same_bytes text (codes "Infinity") h)))
found_spelled text (inr (inr (inr h))) = inr (inr (inr (same_bytes text (codes "-Infinity") h)))

spelled_found : (text : List ℕ) → IsSpelling text → Found text
spelled_found text (inl h) = inl (numeral_read text h)
spelled_found text (inr (inl h)) = inr (inl (bytes_same text (codes "NaN") h))
spelled_found text (inr (inr (inl h))) = inr (inr (inl (bytes_same text (codes "Infinity") h)))
spelled_found text (inr (inr (inr h))) = inr (inr (inr (bytes_same text (codes "-Infinity") h)))

pub is_spelled : (text : List ℕ) → is_spelling text ≡ true → IsSpelling text
is_spelled text h =
    found_spelled text (any_of (is_numeral text) (bytes_eq text (codes "NaN")) (bytes_eq text (codes "Infinity")) (bytes_eq text (codes "-Infinity")) h)

pub spelled_is : (text : List ℕ) → IsSpelling text → is_spelling text ≡ true
spelled_is text s =
    of_any (is_numeral text) (bytes_eq text (codes "NaN")) (bytes_eq text (codes "Infinity")) (bytes_eq text (codes "-Infinity")) (spelled_found text s)
