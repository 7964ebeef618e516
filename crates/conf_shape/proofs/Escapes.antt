-- Escapes, character by character.
use Rattle.std.proofs.Common.{◌≡◌, ℕ, ◌+◌, ◌<◌, ◌≤◌, ◌/◌, ◌%◌, Bool, true, false, cond, eqb, nat_lt, List, [], ◌∷◌, ◌++◌, refl, ap, ◌∙◌, arith}
use Rattle.std.specs.Char.{encode_utf8}
use Rattle.std.proofs.lemmas.Bool.Decides.{nat_tests}
use Rattle.conf_shape.specs.Pointer.{escape, escape_char}

abbrev escaped : Bool → Bool → ℕ → List ℕ
escaped p q b = cond p (126 ∷ 48 ∷ []) (cond q (126 ∷ 49 ∷ []) (b ∷ []))

by_itself : (p q : Bool) (b : ℕ) (rest : List ℕ) → p ≡ false → q ≡ false → escaped p q b ++ rest ≡ b ∷ rest
by_itself p q b rest e f = rw (e, f)

is_other : (b n : ℕ) → n < b → eqb b n ≡ false
is_other b n h = grind (arith, nat_tests)

-- a byte of a longer character stands for itself
above : (b : ℕ) (rest : List ℕ) → 128 ≤ b → escape (b ∷ rest) ≡ b ∷ escape rest
above b rest h = by_itself (eqb b 126) (eqb b 47) b (escape rest) (is_other b 126 (omega arith)) (is_other b 47 (omega arith))

-- each of the bytes is of a longer character
abbrev AreHigh : List ℕ → Type 0
AreHigh [] = Unit {0}
AreHigh (b ∷ bytes) = (128 ≤ b) × AreHigh bytes

escape-high : (bytes rest : List ℕ) → AreHigh bytes → escape (bytes ++ rest) ≡ bytes ++ escape rest
escape-high [] rest h = refl
escape-high (b ∷ bytes) rest h = above b (bytes ++ rest) h.0 ∙ ap (λ r. b ∷ r) (escape-high bytes rest h.1)

AreHigh-longer : (p q : Bool) (c : ℕ)
    → AreHigh (cond p ((192 + c / 64) ∷ (128 + c % 64) ∷ []) (cond q ((224 + c / 4096) ∷ (128 + (c / 64) % 64) ∷ (128 + c % 64) ∷ []) ((240 + c / 262144) ∷ (128 + (c / 4096) % 64) ∷ (128 + (c / 64) % 64) ∷ (128 + c % 64) ∷ [])))
AreHigh-longer true q c = (omega arith, (omega arith, tt))
AreHigh-longer false true c = (omega arith, (omega arith, (omega arith, tt)))
AreHigh-longer false false c = (omega arith, (omega arith, (omega arith, (omega arith, tt))))

at_width : (p : Bool) (c : ℕ) (rest : List ℕ) → nat_lt c 128 ≡ p → escape (encode_utf8 c ++ rest) ≡ escape_char c ++ escape rest
unfolding encode_utf8
at_width true c rest e = rw e refl
at_width false c rest e =
    let high : 128 ≤ c = grind (arith, nat_tests) in
    rw (e, is_other c 126 (omega arith), is_other c 47 (omega arith)) (escape-high _ rest (AreHigh-longer (nat_lt c 2048) (nat_lt c 65536) c))

-- a text's escape is that of its first character and then that of the rest
pub escape-encode : (c : ℕ) (rest : List ℕ) → escape (encode_utf8 c ++ rest) ≡ escape_char c ++ escape rest
escape-encode c rest = at_width _ c rest refl
