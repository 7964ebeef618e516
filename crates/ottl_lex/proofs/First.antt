-- What a token's first byte tells of it.
use Rattle.std.proofs.Common.{◌≡◌, ℕ, suc, ◌+◌, ◌≤◌, List, [], ◌∷◌, ◌++◌, length, take, Bool, true, false, refl, arith, inl, inr}
use Rattle.std.specs.Prelude.{◌&&◌, not, ◌==◌, codes, ◌⊎◌}
use Rattle.std.specs.Char.{is_ascii_digit, is_ascii_lowercase, is_ascii_uppercase}
use Rattle.std.specs.List.{prefix_len}
use Rattle.std.specs.Str.{bytes_eq}
use Rattle.std.proofs.lemmas.Bool.Decides.{nat_tests}
use Rattle.std.proofs.lemmas.Slice.Eq.{bytes_eq-Decides}
use Rattle.ottl_lex.specs.Tokens.{in_lower, in_upper, is_one_of, is_name_of, keywords, is_keyword, is_sign, before_equals}
use Rattle.ottl_lex.proofs.Sides.{and_left, and_right}
use Rattle.ottl_lex.specs.Table.{Each, IsText, IsLiteral, IsSign, IsToken}
use Rattle.ottl_lex.specs.declared.token.TokenKind.{TokenKind}
use Rattle.ottl_lex.specs.declared.token.TokenKind.TheVariants.{Lower, Word, Upper, Quoted, Digits, Hex, Sign}

-- bytes that pass are no more than the bytes that pass from the front on
pub each-le : (p : ℕ → Bool) (front rest : List ℕ) → Each p front → length front ≤ prefix_len p (front ++ rest)
each-le p [] rest each = omega arith
each-le p (b ∷ front) rest each = rw each.0 (let more = each-le p front rest each.1 in omega (arith, more))

-- the bytes that pass from the front on
pub each-front : (p : ℕ → Bool) (text : List ℕ) → Each p (take (prefix_len p text) text)
each-front p [] = tt
each-front p (b ∷ rest) = by_test (p b) refl (each-front p rest) where
  by_test : (test : Bool) → p b ≡ test → Each p (take (prefix_len p rest) rest) → Each p (take (prefix_len p (b ∷ rest)) (b ∷ rest))
  by_test true is more =
      let one : 1 + prefix_len p rest ≡ suc (prefix_len p rest) = omega arith in
      rw (is, one) (is, more)
  by_test false is more = rw is tt

-- each byte of the list passes
abbrev pub all_pass : {X : Type 0} → (X → Bool) → List X → Bool
all_pass p [] = true
all_pass p (x ∷ xs) = p x && all_pass p xs

-- what all bytes of a list pass, one of them passes
pub one_of-passes : (p : ℕ → Bool) (xs : List ℕ) (b : ℕ) → all_pass p xs ≡ true → is_one_of xs b ≡ true → p b ≡ true
one_of-passes p [] b all is = cc
one_of-passes p (x ∷ xs) b all is = by_test (b == x) refl (one_of-passes p xs b (and_right (p x) (all_pass p xs) all)) where
  by_test : (test : Bool) → (b == x) ≡ test → (is_one_of xs b ≡ true → p b ≡ true) → p b ≡ true
  by_test true same more = let e : b ≡ x = grind (arith, nat_tests) in rw e (and_left (p x) (all_pass p xs) all)
  by_test false same more = more (rw same at is)

-- what all names of a list pass, one of them passes
pub name_of-passes : (p : List ℕ → Bool) (xs : List (List ℕ)) (name : List ℕ) → all_pass p xs ≡ true → is_name_of xs name ≡ true → p name ≡ true
name_of-passes p [] name all is = cc
name_of-passes p (x ∷ xs) name all is = by_test (bytes_eq name x) refl (name_of-passes p xs name (and_right (p x) (all_pass p xs) all)) where
  by_test : (test : Bool) → bytes_eq name x ≡ test → (is_name_of xs name ≡ true → p name ≡ true) → p name ≡ true
  by_test true same more = let e : name ≡ x = (bytes_eq-Decides name x).0 same in rw e (and_left (p x) (all_pass p xs) all)
  by_test false same more = more (rw same at is)

-- no byte begins tokens of two rows
pub lower_upper : (b : ℕ) → is_ascii_lowercase b ≡ true → is_ascii_uppercase b ≡ true → ⊥
lower_upper b l u = grind (arith, nat_tests)

pub lower_digit : (b : ℕ) → is_ascii_lowercase b ≡ true → is_ascii_digit b ≡ true → ⊥
lower_digit b l d = grind (arith, nat_tests)

pub upper_digit : (b : ℕ) → is_ascii_uppercase b ≡ true → is_ascii_digit b ≡ true → ⊥
upper_digit b u d = grind (arith, nat_tests)

-- a byte that begins a sign
abbrev pub is_other : ℕ → Bool
is_other b = not (is_ascii_lowercase b) && (not (is_ascii_uppercase b) && (not (is_ascii_digit b) && not (b == 34)))

pub sign-other : (b : ℕ) → is_sign b ≡ true → is_other b ≡ true
sign-other b is = one_of-passes is_other (codes "()[]{},.:<>+-*/") b refl is

pub equals-other : (b : ℕ) → before_equals b ≡ true → is_other b ≡ true
equals-other b is = one_of-passes is_other (codes "=!<>") b refl is

other-lower : (b : ℕ) → is_other b ≡ true → is_ascii_lowercase b ≡ true → ⊥
other-lower b is l = grind (arith, nat_tests)

other-upper : (b : ℕ) → is_other b ≡ true → is_ascii_uppercase b ≡ true → ⊥
other-upper b is u = grind (arith, nat_tests)

other-digit : (b : ℕ) → is_other b ≡ true → is_ascii_digit b ≡ true → ⊥
other-digit b is d = grind (arith, nat_tests)

other-quote : (b : ℕ) → is_other b ≡ true → b ≡ 34 → ⊥
other-quote b is q = grind (arith, nat_tests)

-- what all names are
abbrev lower_name : List ℕ → Bool
lower_name [] = false
lower_name (b ∷ rest) = is_ascii_lowercase b && all_pass in_lower rest

all-each : (p : ℕ → Bool) (xs : List ℕ) → all_pass p xs ≡ true → Each p xs
all-each p [] is = tt
all-each p (x ∷ xs) is = (and_left (p x) (all_pass p xs) is, all-each p xs (and_right (p x) (all_pass p xs) is))

pub keyword-first : (b : ℕ) (front : List ℕ) → is_keyword (b ∷ front) ≡ true → is_ascii_lowercase b ≡ true
keyword-first b front is = and_left (is_ascii_lowercase b) (all_pass in_lower front) (name_of-passes lower_name keywords (b ∷ front) refl is)

pub keyword-more : (b : ℕ) (front : List ℕ) → is_keyword (b ∷ front) ≡ true → Each in_lower front
keyword-more b front is = all-each in_lower front (and_right (is_ascii_lowercase b) (all_pass in_lower front) (name_of-passes lower_name keywords (b ∷ front) refl is))

pub lower-in_lower : (b : ℕ) → is_ascii_lowercase b ≡ true → in_lower b ≡ true
lower-in_lower b l = grind (arith, nat_tests)

pub upper-in_upper : (b : ℕ) → is_ascii_uppercase b ≡ true → in_upper b ≡ true
upper-in_upper b u = grind (arith, nat_tests)

text-first : (b : ℕ) (front : List ℕ) → IsText (b ∷ front) → b ≡ 34
text-first b front t = let w = t.whole in cc

literal-first : (b : ℕ) (front : List ℕ) → IsLiteral (b ∷ front) → b ≡ 48
literal-first b front t = let w = t.whole in cc

sign-first : (b : ℕ) (front : List ℕ) → IsSign (b ∷ front) → is_other b ≡ true
sign-first b [] t = sign-other b t
sign-first b (c ∷ []) t = equals-other b t.0
sign-first b (c ∷ d ∷ more) t = absurd t

-- the first byte of a token tells its row
abbrev pub Starts : TokenKind → ℕ → Type 0
Starts Lower b = is_ascii_lowercase b ≡ true
Starts Word b = is_ascii_lowercase b ≡ true
Starts Upper b = is_ascii_uppercase b ≡ true
Starts Quoted b = b ≡ 34
Starts Digits b = is_ascii_digit b ≡ true
Starts Hex b = b ≡ 48
Starts Sign b = is_other b ≡ true

pub token-starts : (kind : TokenKind) (b : ℕ) (front : List ℕ) → IsToken kind (b ∷ front) → Starts kind b
token-starts Lower b front t = t.0.0
token-starts Word b front t = keyword-first b front t
token-starts Upper b front t = t.0
token-starts Quoted b front t = text-first b front t
token-starts Digits b front t = t.0
token-starts Hex b front t = literal-first b front t
token-starts Sign b front t = sign-first b front t

pub token-some : (kind : TokenKind) → IsToken kind [] → ⊥
token-some Lower t = t.0
token-some Word t = let n : is_keyword [] ≡ false = refl in cc
token-some Upper t = t
token-some Quoted t = let w = t.whole in cc
token-some Digits t = t
token-some Hex t = let w = t.whole in cc
token-some Sign t = t

-- the bytes of a token that begins with a lower letter
pub lower-only : (kind : TokenKind) (b : ℕ) (front : List ℕ) → is_ascii_lowercase b ≡ true → IsToken kind (b ∷ front) → Each in_lower (b ∷ front)
lower-only Lower b front low t = (lower-in_lower b low, t.0.1)
lower-only Word b front low t = (lower-in_lower b low, keyword-more b front t)
lower-only Upper b front low t = absurd (lower_upper b low (token-starts Upper b front t))
lower-only Quoted b front low t = let e = token-starts Quoted b front t in absurd (grind (arith, nat_tests))
lower-only Digits b front low t = absurd (lower_digit b low (token-starts Digits b front t))
lower-only Hex b front low t = let e = token-starts Hex b front t in absurd (grind (arith, nat_tests))
lower-only Sign b front low t = absurd (other-lower b (token-starts Sign b front t) low)

-- the bytes of a token that begins with an upper letter
pub upper-only : (kind : TokenKind) (b : ℕ) (front : List ℕ) → is_ascii_uppercase b ≡ true → IsToken kind (b ∷ front) → Each in_upper (b ∷ front)
upper-only Lower b front up t = absurd (lower_upper b (token-starts Lower b front t) up)
upper-only Word b front up t = absurd (lower_upper b (token-starts Word b front t) up)
upper-only Upper b front up t = (upper-in_upper b up, t.1)
upper-only Quoted b front up t = let e = token-starts Quoted b front t in absurd (grind (arith, nat_tests))
upper-only Digits b front up t = absurd (upper_digit b up (token-starts Digits b front t))
upper-only Hex b front up t = let e = token-starts Hex b front t in absurd (grind (arith, nat_tests))
upper-only Sign b front up t = absurd (other-upper b (token-starts Sign b front t) up)

-- a token that begins with a digit
pub digit-only : (kind : TokenKind) (b : ℕ) (front : List ℕ) → is_ascii_digit b ≡ true → IsToken kind (b ∷ front)
    → Each is_ascii_digit (b ∷ front) ⊎ IsLiteral (b ∷ front)
digit-only Lower b front digit t = absurd (lower_digit b (token-starts Lower b front t) digit)
digit-only Word b front digit t = absurd (lower_digit b (token-starts Word b front t) digit)
digit-only Upper b front digit t = absurd (upper_digit b (token-starts Upper b front t) digit)
digit-only Quoted b front digit t = let e = token-starts Quoted b front t in absurd (grind (arith, nat_tests))
digit-only Digits b front digit t = inl t
digit-only Hex b front digit t = inr t
digit-only Sign b front digit t = absurd (other-digit b (token-starts Sign b front t) digit)

-- a token that begins with a quote
pub quote-only : (kind : TokenKind) (b : ℕ) (front : List ℕ) → b ≡ 34 → IsToken kind (b ∷ front) → IsText (b ∷ front)
quote-only Lower b front q t = let e = token-starts Lower b front t in absurd (grind (arith, nat_tests))
quote-only Word b front q t = let e = token-starts Word b front t in absurd (grind (arith, nat_tests))
quote-only Upper b front q t = let e = token-starts Upper b front t in absurd (grind (arith, nat_tests))
quote-only Quoted b front q t = t
quote-only Digits b front q t = let e = token-starts Digits b front t in absurd (grind (arith, nat_tests))
quote-only Hex b front q t = let e = token-starts Hex b front t in absurd (omega arith)
quote-only Sign b front q t = absurd (other-quote b (token-starts Sign b front t) q)

-- a token that begins with another byte
pub other-only : (kind : TokenKind) (b : ℕ) (front : List ℕ) → is_ascii_lowercase b ≡ false → is_ascii_uppercase b ≡ false → is_ascii_digit b ≡ false
    → (b == 34) ≡ false → IsToken kind (b ∷ front) → IsSign (b ∷ front)
other-only Lower b front l u d q t = let e = token-starts Lower b front t in absurd (cc)
other-only Word b front l u d q t = let e = token-starts Word b front t in absurd (cc)
other-only Upper b front l u d q t = let e = token-starts Upper b front t in absurd (cc)
other-only Quoted b front l u d q t = let e = token-starts Quoted b front t in absurd (grind (arith, nat_tests))
other-only Digits b front l u d q t = let e = token-starts Digits b front t in absurd (cc)
other-only Hex b front l u d q t = let e = token-starts Hex b front t in absurd (grind (arith, nat_tests))
other-only Sign b front l u d q t = t
