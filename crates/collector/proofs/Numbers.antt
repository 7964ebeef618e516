-- A word that is how a number is printed, and what is parsed of it.
use Rattle.std.proofs.Common.{◌≡◌, ◌∙◌, ◌<◌, ◌≤◌, ◌^◌, ℕ, Bool, true, false, List, Some, None, Result, Ok, Err, ap, sym, refl, cond, arith}
use Rattle.std.specs.Fmt.{decimal}
use Rattle.std.specs.Prelude.{◌&&◌, nat_le}
use Rattle.std.specs.Str.{bytes_eq}
use Rattle.std.specs.Str.Parse.{ParsesUnsigned, digits_value}
use Rattle.std.proofs.lemmas.Bool.Decides.{nat_tests}
use Rattle.std.proofs.lemmas.Fmt.{decimal_is_IsNumeral, parse-decimal}
use Rattle.pdata_value.proofs.Bools.{and_false, both, left, right, same_bytes}
use Rattle.collector.specs.Words.{number_in}

-- a word that is how this number is printed spells it
number-is : (word : List ℕ) (least most m : ℕ) → m < 2 ^ 64 → bytes_eq word (decimal m) ≡ true
    → number_in least most word ≡ cond (nat_le least m && nat_le m most) (Some m) None
number-is word least most m small is =
    let same : digits_value 10 word ≡ m = ap (digits_value 10) (same_bytes word (decimal m) is) ∙ (decimal_is_IsNumeral m small).1 in
    ap (λ (n : ℕ). cond (bytes_eq word (decimal n) && (nat_le least n && nat_le n most)) (Some n) None) same
    ∙ ap (λ (b : Bool). cond (b && (nat_le least m && nat_le m most)) (Some m) None) is

below : (least most n : ℕ) → (nat_le least n && nat_le n most) ≡ true → n ≤ most
below least most n is = let h = right (nat_le least n) (nat_le n most) is in grind (arith, nat_tests)

-- where it is not how what was parsed is printed, it spells none
number-none : {E : Type 0} (word : List ℕ) (least most : ℕ) (r : Result ℕ E) → most < 2 ^ 64 → ParsesUnsigned 64 10 word r
    → ((m : ℕ) → r ≡ Ok m → bytes_eq word (decimal m) ≡ false) → number_in least most word ≡ None
number-none word least most r small parses unprinted = by (digits_value 10 word) refl (bytes_eq word (decimal (digits_value 10 word)) && (nat_le least (digits_value 10 word) && nat_le (digits_value 10 word) most)) refl
  where
    by : (n : ℕ) → digits_value 10 word ≡ n → (b : Bool) → (bytes_eq word (decimal n) && (nat_le least n && nat_le n most)) ≡ b → cond b (Some n) None ≡ None
    by n value false is = refl
    by n value true is =
        let printed = left (bytes_eq word (decimal n)) (nat_le least n && nat_le n most) is in
        let fits : n < 2 ^ 64 = omega (arith, small, below least most n (right (bytes_eq word (decimal n)) (nat_le least n && nat_le n most) is)) in
        let other = unprinted n (parse-decimal 64 n word r fits fits (same_bytes word (decimal n) printed) parses) in
        absurd cc

module _ (word : List ℕ) (least most m : ℕ) (small : m < 2 ^ 64) (printed : bytes_eq word (decimal m) ≡ true) where
  pub number_low : m < least → None ≡ number_in least most word
  number_low less =
      let low : nat_le least m ≡ false = grind (arith, nat_tests) in
      sym (number-is word least most m small printed ∙ ap (λ (b : Bool). cond (b && nat_le m most) (Some m) None) low)

  pub number_high : most < m → None ≡ number_in least most word
  number_high more =
      let high : nat_le m most ≡ false = grind (arith, nat_tests) in
      sym (number-is word least most m small printed ∙ ap (λ (b : Bool). cond b (Some m) None) (and_false (nat_le least m) (nat_le m most) high))

  pub number_there : least ≤ m → m ≤ most → Some m ≡ number_in least most word
  number_there low high =
      let from : nat_le least m ≡ true = grind (arith, nat_tests) in
      let to : nat_le m most ≡ true = grind (arith, nat_tests) in
      sym (number-is word least most m small printed ∙ ap (λ (b : Bool). cond b (Some m) None) (both (nat_le least m) (nat_le m most) from to))

pub number_unparsed : {E : Type 0} (word : List ℕ) (least most : ℕ) (e : E) → most < 2 ^ 64 → ParsesUnsigned 64 10 word (Err e) → None ≡ number_in least most word
number_unparsed word least most e small parses = sym (number-none word least most (Err e) small parses (λ m is. absurd cc))

same-number : (E : Type 0) (m n : ℕ) (r : Result ℕ E) → r ≡ Ok m → r ≡ Ok n → m ≡ n
same-number E m n r one other = cc

pub number_unprinted : (E : Type 0) (word : List ℕ) (least most m : ℕ) → most < 2 ^ 64 → ParsesUnsigned {E = E} 64 10 word (Ok m) → bytes_eq word (decimal m) ≡ false → None ≡ number_in least most word
number_unprinted E word least most m small parses unprinted =
    sym (number-none {E = E} word least most (Ok m) small parses (λ n is. ap (λ (k : ℕ). bytes_eq word (decimal k)) (sym (same-number E m n (Ok m) refl is)) ∙ unprinted))
