-- Values of digits, as a loop reads them.
use Rattle.std.proofs.Common.{◌≡◌, ℕ, suc, ◌+◌, ◌*◌, ◌^◌, ◌<◌, ◌≤◌, List, [], ◌∷◌, length, drop, arith, add-one, get_or, drop-cons}
use Rattle.std.proofs.Math.Nat.{mul-le-mul_left, mul-le-mul_right, pow-le-pow_right, pow-suc}
use Rattle.std.specs.Char.{digit_value}
use Rattle.ottl_lex.specs.Numbers.{value_after}

-- one more digit stays below one more power of 16
pub digit_room : (base before d i : ℕ) → base ≤ 16 → before < 16 ^ i → d < base → i < 8
    → (base * before + d < 16 ^ (i + 1)) × (16 ^ (i + 1) ≤ 2 ^ 32)
digit_room base before d i small below digit room =
    let row : base * before + base ≤ base * (16 ^ i) = omega (arith, mul-le-mul_left {m = suc before} {n = 16 ^ i} base below) in
    let wide : base * (16 ^ i) ≤ 16 * (16 ^ i) = mul-le-mul_right {m = base} {n = 16} (16 ^ i) small in
    let power : 16 ^ (i + 1) ≡ 16 ^ i * 16 = rw add-one (pow-suc 16 i) in
    let most : 16 ^ (i + 1) ≤ 16 ^ 8 = pow-le-pow_right {n = 16} (omega arith) {i = i + 1} {j = 8} (omega arith) in
    (omega arith, most)

-- further digits never make a number less
pub value_after-grows : (base before : ℕ) (digits : List ℕ) → 0 < base → before ≤ value_after base before digits
value_after-grows base before [] positive = omega arith
value_after-grows base before (b ∷ rest) positive =
    let step : 1 * before ≤ base * before = mul-le-mul_right {m = 1} {n = base} before positive in
    let more = value_after-grows base (base * before + digit_value b) rest positive in
    omega (arith, more)

-- the digit at an index is within the number that the digits from there on write
pub digit_counts : (before i : ℕ) (digits : List ℕ) → i < length digits
    → 10 * before + digit_value (get_or digits i 0) ≤ value_after 10 before (drop i digits)
digit_counts before i digits within =
    let more = value_after-grows 10 (10 * before + digit_value (get_or digits i 0)) (drop (suc i) digits) (omega arith) in
    rw (drop-cons digits i 0) more
