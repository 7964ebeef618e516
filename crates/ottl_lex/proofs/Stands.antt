-- The token that is read at a place is the longest of the table.
use Rattle.std.proofs.Common.{◌≡◌, ◌∙◌, ℕ, suc, ◌+◌, ◌-◌, ◌%◌, ◌≤◌, ◌<◌, List, [], ◌∷◌, ◌++◌, length, take, drop, Bool, true, false, refl, sym, ap, subst, arith, length-append, ◌⊎◌, inl, inr}
use Rattle.std.specs.Prelude.{Ok, Err, cond, ◌==◌, ◌&&◌, nat_lt}
use Rattle.std.specs.Char.{is_ascii_digit, is_ascii_hexdigit, is_ascii_lowercase, is_ascii_uppercase}
use Rattle.std.specs.List.{prefix_len}
use Rattle.std.proofs.lemmas.Bool.Decides.{nat_tests}
use Rattle.std.proofs.lemmas.List.{take-append-drop}
use Rattle.std.proofs.lemmas.List.Folds.{length-prefix_len}
use Rattle.ottl_lex.specs.declared.fault.SyntaxKind.TheVariants.{BadChar, Fraction, BadNumber}
use Rattle.ottl_lex.specs.declared.token.Token.{Token}
use Rattle.ottl_lex.specs.declared.token.TokenKind.{TokenKind}
use Rattle.ottl_lex.specs.declared.token.TokenKind.TheVariants.{Lower, Word, Upper, Quoted, Digits, Hex, Sign}
use Rattle.ottl_lex.specs.Quoted.{fault, closing}
use Rattle.ottl_lex.specs.Tokens.{in_lower, in_upper, in_word, is_keyword, is_sign, before_equals, equals_first, digit_first, hex_first, token, lower_at, hex_at, digits_before, number_at, quoted_at, sign_at, token_at}
use Rattle.ottl_lex.specs.Table.{Each, IsName, IsLiteral, IsSign, IsToken, IsLongest}
use Rattle.ottl_lex.proofs.First.{each-le, each-front, lower-in_lower, upper-in_upper, token-some, lower-only, upper-only, digit-only, quote-only, other-only}
use Rattle.ottl_lex.proofs.Sides.{and_left, and_right}
use Rattle.ottl_lex.proofs.Texts.{was-text, text-read}

-- a token stands at the place
pub record StandsAt (at : ℕ) (text : List ℕ) (t : Token) : Type 0 where
  pub begins : t.begin ≡ at
  pub more : t.begin < t.end
  pub within : t.end ≤ at + length text
  pub is : IsLongest text t.kind (t.end - t.begin)

stands : (at : ℕ) (text slice behind : List ℕ) (kind : TokenKind) → text ≡ slice ++ behind → IsToken kind slice → 0 < length slice
    → ((other : TokenKind) (front rest : List ℕ) → text ≡ front ++ rest → IsToken other front → length front ≤ length slice)
    → StandsAt at text (token kind at (length slice))
stands at text slice behind kind whole is some longest =
    let size : at + length slice - at ≡ length slice = omega arith in
    record {
      begins = refl;
      more = omega arith;
      within = omega (arith, ap length whole, length-append slice behind);
      is = record {
        slice = slice;
        behind = behind;
        whole = whole;
        sized = sym size;
        is = is;
        longest = λ other front rest split it. omega (arith, longest other front rest split it);
      };
    }

-- the first byte of a front is the text's
pub front-first : (b c : ℕ) (others front rest : List ℕ) (kind : TokenKind) → b ∷ others ≡ (c ∷ front) ++ rest → IsToken kind (c ∷ front) → IsToken kind (b ∷ front)
front-first b c others front rest kind whole is =
    let same : c ≡ b = cc in
    let P : ℕ → Type 0 = λ d. IsToken kind (d ∷ front) in
    subst P same is

module _ (p : ℕ → Bool) (b : ℕ) (others : List ℕ) (passes : p b ≡ true) where
  pub name-slice : take (prefix_len p (b ∷ others)) (b ∷ others) ≡ b ∷ take (prefix_len p others) others
  name-slice = let one : 1 + prefix_len p others ≡ suc (prefix_len p others) = omega arith in rw (passes, one) refl

  name-longest : ((other : TokenKind) (front : List ℕ) → IsToken other (b ∷ front) → Each p (b ∷ front))
      → (other : TokenKind) (front rest : List ℕ) → b ∷ others ≡ front ++ rest → IsToken other front → length front ≤ length (take (prefix_len p (b ∷ others)) (b ∷ others))
  name-longest only other [] rest whole is = absurd (token-some other is)
  name-longest only other (c ∷ front) rest whole is =
      let each = only other front (front-first b c others front rest other whole is) in
      let most = each-le p (b ∷ front) rest each in
      let tail : others ≡ front ++ rest = cc in
      let split : (b ∷ front) ++ rest ≡ b ∷ others = ap (λ xs. b ∷ xs) (sym tail) in
      omega (arith, most, ap (prefix_len p) split, length-prefix_len p (b ∷ others))

  name-stands : (at : ℕ) (kind : TokenKind) → IsToken kind (b ∷ take (prefix_len p others) others)
      → ((other : TokenKind) (front : List ℕ) → IsToken other (b ∷ front) → Each p (b ∷ front))
      → StandsAt at (b ∷ others) (token kind at (prefix_len p (b ∷ others)))
  name-stands at kind is only =
      let n : ℕ = prefix_len p (b ∷ others) in
      let slice : List ℕ = take n (b ∷ others) in
      let size : length slice ≡ n = length-prefix_len p (b ∷ others) in
      let named : IsToken kind slice = let P : List ℕ → Type 0 = λ xs. IsToken kind xs in subst P (sym name-slice) is in
      let some : 0 < length slice = omega (arith, ap length name-slice) in
      let P : ℕ → Type 0 = λ m. StandsAt at (b ∷ others) (token kind at m) in
      subst P size (stands at (b ∷ others) slice (drop n (b ∷ others)) kind (sym (take-append-drop n (b ∷ others))) named some (name-longest only))

-- a lower name or a keyword
lower-stands : (at b : ℕ) (others : List ℕ) → is_ascii_lowercase b ≡ true → StandsAt at (b ∷ others) (lower_at at (b ∷ others))
lower-stands at b others low = by_keyword (is_keyword (take (prefix_len in_lower (b ∷ others)) (b ∷ others))) refl where
  by_keyword : (test : Bool) → is_keyword (take (prefix_len in_lower (b ∷ others)) (b ∷ others)) ≡ test → StandsAt at (b ∷ others) (lower_at at (b ∷ others))
  by_keyword true test =
      let slice = name-slice in_lower b others (lower-in_lower b low) in
      let word : is_keyword (b ∷ take (prefix_len in_lower others) others) ≡ true = ap is_keyword (sym slice) ∙ test in
      rw test (name-stands in_lower b others (lower-in_lower b low) at Word word (λ other front is. lower-only other b front low is))
  by_keyword false test =
      let slice = name-slice in_lower b others (lower-in_lower b low) in
      let word : is_keyword (b ∷ take (prefix_len in_lower others) others) ≡ false = ap is_keyword (sym slice) ∙ test in
      rw test (name-stands in_lower b others (lower-in_lower b low) at Lower ((low, each-front in_lower others), word) (λ other front is. lower-only other b front low is))

-- an upper name
upper-stands : (at b : ℕ) (others : List ℕ) → is_ascii_uppercase b ≡ true → StandsAt at (b ∷ others) (token Upper at (prefix_len in_upper (b ∷ others)))
upper-stands at b others up =
    name-stands in_upper b others (upper-in_upper b up) at Upper (up, each-front in_upper others) (λ other front is. upper-only other b front up is)

-- what a text of two bytes and more begins with
pub record BeginsHex (text : List ℕ) : Type 0 where
  pub others : List ℕ
  pub whole : text ≡ 48 ∷ 120 ∷ others

pub begins-hex : (text : List ℕ) → hex_first text ≡ true → BeginsHex text
begins-hex [] is = absurd (cc)
begins-hex (a ∷ []) is = absurd (cc)
begins-hex (a ∷ b ∷ others) is =
    let x : a ≡ 48 = grind (arith, nat_tests) in
    let y : b ≡ 120 = grind (arith, nat_tests) in
    record { others = others; whole = rw (x, y) refl }

-- a bytes literal at the front
pub literal-first : (text front rest : List ℕ) → text ≡ front ++ rest → IsLiteral front → hex_first text ≡ true
literal-first text front rest whole is = let begins : text ≡ (48 ∷ 120 ∷ is.digits) ++ rest = whole ∙ ap (λ xs. xs ++ rest) is.whole in rw begins refl

pub literal-longest : (others front rest : List ℕ) → 48 ∷ 120 ∷ others ≡ front ++ rest → IsLiteral front → length front ≤ 2 + prefix_len is_ascii_hexdigit others
literal-longest others front rest whole is =
    let begins : 48 ∷ 120 ∷ others ≡ 48 ∷ 120 ∷ is.digits ++ rest = whole ∙ ap (λ xs. xs ++ rest) is.whole in
    let tail : others ≡ is.digits ++ rest = cc in
    let most = each-le is_ascii_hexdigit is.digits rest is.are in
    omega (arith, most, ap (prefix_len is_ascii_hexdigit) tail, ap length is.whole)

hex-longest : (others : List ℕ) → 0 < prefix_len is_ascii_hexdigit others → (other : TokenKind) (front rest : List ℕ)
    → 48 ∷ 120 ∷ others ≡ front ++ rest → IsToken other front → length front ≤ 2 + prefix_len is_ascii_hexdigit others
hex-longest others some other [] rest whole is = omega arith
hex-longest others some other (c ∷ front) rest whole is =
    by_kind (digit-only other 48 front refl (front-first 48 c (120 ∷ others) front rest other whole is))
  where
    by_kind : (Each is_ascii_digit (48 ∷ front) ⊎ IsLiteral (48 ∷ front)) → length (c ∷ front) ≤ 2 + prefix_len is_ascii_hexdigit others
    by_kind (inl each) =
        let tail : 120 ∷ others ≡ front ++ rest = cc in
        let most = each-le is_ascii_digit (48 ∷ front) rest each in
        let one : prefix_len is_ascii_digit (48 ∷ 120 ∷ others) ≡ 1 = refl in
        omega (arith, most, ap (λ xs. prefix_len is_ascii_digit (48 ∷ xs)) tail)
    by_kind (inr literal) =
        let tail : 120 ∷ others ≡ front ++ rest = cc in
        omega (arith, literal-longest others (48 ∷ front) rest (ap (λ xs. 48 ∷ xs) tail) literal)

-- a bytes literal
hex-stands : (at : ℕ) (others : List ℕ) (t : Token) → hex_at at (prefix_len is_ascii_hexdigit others) ≡ Ok t → StandsAt at (48 ∷ 120 ∷ others) t
hex-stands at others t is = by_test (nat_lt 0 (prefix_len is_ascii_hexdigit others) && prefix_len is_ascii_hexdigit others % 2 == 0) refl where
  by_test : (test : Bool) → (nat_lt 0 (prefix_len is_ascii_hexdigit others) && prefix_len is_ascii_hexdigit others % 2 == 0) ≡ test → StandsAt at (48 ∷ 120 ∷ others) t
  by_test true test =
      let count : ℕ = prefix_len is_ascii_hexdigit others in
      let some : 0 < count = grind (arith, nat_tests) in
      let even : count % 2 ≡ 0 = grind (arith, nat_tests) in
      let found : Ok (token Hex at (2 + count)) ≡ Ok t = rw test at is in
      let same : token Hex at (2 + count) ≡ t = cc in
      let digits : List ℕ = take count others in
      let size : length digits ≡ count = length-prefix_len is_ascii_hexdigit others in
      let literal : IsLiteral (48 ∷ 120 ∷ digits) = record { digits = digits; whole = refl; some = omega arith; even = rw size even; are = each-front is_ascii_hexdigit others } in
      let all : length (48 ∷ 120 ∷ digits) ≡ 2 + count = omega (arith, size) in
      let P : ℕ → Type 0 = λ m. StandsAt at (48 ∷ 120 ∷ others) (token Hex at m) in
      let Q : Token → Type 0 = λ u. StandsAt at (48 ∷ 120 ∷ others) u in
      subst Q same (subst P all (stands at (48 ∷ 120 ∷ others) (48 ∷ 120 ∷ digits) (drop count others) Hex
      (ap (λ xs. 48 ∷ 120 ∷ xs) (sym (take-append-drop count others))) literal (omega arith)
      (λ other front rest whole it. omega (arith, all, hex-longest others some other front rest whole it))))
  by_test false test = absurd (let wrong : Err (fault BadNumber at) ≡ Ok t = rw test at is in cc)

-- a whole number
digits-is : (at count : ℕ) (behind : List ℕ) (t : Token) → digits_before at count behind ≡ Ok t → token Digits at count ≡ t
digits-is at count [] t is = cc
digits-is at count (b ∷ rest) t is = by_word (in_word b) refl where
  by_point : (test : Bool) → in_word b ≡ false → (b == 46 && digit_first rest) ≡ test → token Digits at count ≡ t
  by_point true word test = absurd (let wrong : Err (fault Fraction at) ≡ Ok t = rw (word, test) at is in cc)
  by_point false word test = let found : Ok (token Digits at count) ≡ Ok t = rw (word, test) at is in cc

  by_word : (test : Bool) → in_word b ≡ test → token Digits at count ≡ t
  by_word true test = absurd (let wrong : Err (fault BadNumber at) ≡ Ok t = rw test at is in cc)
  by_word false test = by_point (b == 46 && digit_first rest) test refl

digits-stands : (at b : ℕ) (others : List ℕ) → is_ascii_digit b ≡ true → hex_first (b ∷ others) ≡ false
    → StandsAt at (b ∷ others) (token Digits at (prefix_len is_ascii_digit (b ∷ others)))
digits-stands at b others digit plain =
    let n : ℕ = prefix_len is_ascii_digit (b ∷ others) in
    let slice : List ℕ = take n (b ∷ others) in
    let size : length slice ≡ n = length-prefix_len is_ascii_digit (b ∷ others) in
    let named : IsName is_ascii_digit is_ascii_digit slice =
    let P : List ℕ → Type 0 = λ xs. IsName is_ascii_digit is_ascii_digit xs in
    subst P (sym (name-slice is_ascii_digit b others digit)) (digit, each-front is_ascii_digit others) in
    let some : 0 < length slice = omega (arith, ap length (name-slice is_ascii_digit b others digit)) in
    let P : ℕ → Type 0 = λ m. StandsAt at (b ∷ others) (token Digits at m) in
    subst P size (stands at (b ∷ others) slice (drop n (b ∷ others)) Digits (sym (take-append-drop n (b ∷ others))) named some
    (λ other front rest whole it. omega (arith, size, longest other front rest whole it)))
  where
    by_kind : (front rest : List ℕ) → others ≡ front ++ rest → (Each is_ascii_digit (b ∷ front) ⊎ IsLiteral (b ∷ front)) → suc (length front) ≤ prefix_len is_ascii_digit (b ∷ others)
    by_kind front rest tail (inl each) = omega (arith, each-le is_ascii_digit (b ∷ front) rest each, ap (λ xs. prefix_len is_ascii_digit (b ∷ xs)) tail)
    by_kind front rest tail (inr literal) = absurd (let hex = literal-first (b ∷ others) (b ∷ front) rest (ap (λ xs. b ∷ xs) tail) literal in cc)

    longest : (other : TokenKind) (front rest : List ℕ) → b ∷ others ≡ front ++ rest → IsToken other front → length front ≤ prefix_len is_ascii_digit (b ∷ others)
    longest other [] rest whole is = omega arith
    longest other (c ∷ front) rest whole is = let tail : others ≡ front ++ rest = cc in
        by_kind front rest tail (digit-only other b front digit (front-first b c others front rest other whole is))

number-stands : (at b : ℕ) (others : List ℕ) (t : Token) → is_ascii_digit b ≡ true → number_at at (b ∷ others) ≡ Ok t → StandsAt at (b ∷ others) t
number-stands at b others t digit is = by_hex (hex_first (b ∷ others)) refl where
  by_hex : (test : Bool) → hex_first (b ∷ others) ≡ test → StandsAt at (b ∷ others) t
  by_hex true test =
      let begins = begins-hex (b ∷ others) test in
      let found : hex_at at (prefix_len is_ascii_hexdigit (drop 2 (b ∷ others))) ≡ Ok t = rw test at is in
      let inner : hex_at at (prefix_len is_ascii_hexdigit begins.others) ≡ Ok t = ap (λ xs. hex_at at (prefix_len is_ascii_hexdigit (drop 2 xs))) (sym begins.whole) ∙ found in
      let P : List ℕ → Type 0 = λ xs. StandsAt at xs t in
      subst P (sym begins.whole) (hex-stands at begins.others t inner)
  by_hex false test =
      let n : ℕ = prefix_len is_ascii_digit (b ∷ others) in
      let found : digits_before at n (drop n (b ∷ others)) ≡ Ok t = rw test at is in
      let P : Token → Type 0 = λ u. StandsAt at (b ∷ others) u in
      subst P (digits-is at n (drop n (b ∷ others)) t found) (digits-stands at b others digit test)

-- a text
quoted-stands : (at : ℕ) (others : List ℕ) (t : Token) → quoted_at at (closing false others) others ≡ Ok t → StandsAt at (34 ∷ others) t
quoted-stands at others t is =
    let text = was-text at others t is in
    let P : Token → Type 0 = λ u. StandsAt at (34 ∷ others) u in
    let some : 0 < length text.slice = omega (arith, ap length text.is.whole) in
    subst P text.token-is (stands at (34 ∷ others) text.slice text.behind Quoted text.whole text.is some
    (λ other front rest whole it. longest other front rest whole it))
  where
    longest : (other : TokenKind) (front rest : List ℕ) → 34 ∷ others ≡ front ++ rest → IsToken other front → length front ≤ length (was-text at others t is).slice
    longest other [] rest whole it = omega arith
    longest other (c ∷ front) rest whole it =
        let quoted = quote-only other 34 front refl (front-first 34 c others front rest other whole it) in
        let tail : others ≡ front ++ rest = cc in
        let read = text-read at (34 ∷ front) others rest quoted (ap (λ xs. 34 ∷ xs) tail) in
        let twice : Ok (token Quoted at (length (34 ∷ front))) ≡ Ok t = sym read ∙ is in
        let once : token Quoted at (length (34 ∷ front)) ≡ t = cc in
        let same : at + length (34 ∷ front) ≡ at + length (was-text at others t is).slice = ap (λ (u : Token). u.end) (once ∙ sym (was-text at others t is).token-is) in
        omega (arith, same)

-- what begins with a sign's first byte and a `=`
pub equals-is : (rest : List ℕ) → equals_first rest ≡ true → (behind : List ℕ) × (rest ≡ 61 ∷ behind)
equals-is [] is = absurd (cc)
equals-is (c ∷ behind) is = let e : c ≡ 61 = grind (arith, nat_tests) in (behind, rw e refl)

-- a front that is a sign
sign-longest : (b : ℕ) (others : List ℕ) → (before_equals b && equals_first others) ≡ false → (front rest : List ℕ) → b ∷ others ≡ (b ∷ front) ++ rest → IsSign (b ∷ front) → suc (length front) ≤ 1
sign-longest b others single [] rest whole is = omega arith
sign-longest b others single (c ∷ []) rest whole is =
    let tail : others ≡ c ∷ rest = cc in
    let first : equals_first others ≡ true = rw (tail, is.1) refl in
    absurd (let both : (before_equals b && equals_first others) ≡ true = rw (is.0, first) refl in cc)
sign-longest b others single (c ∷ d ∷ more) rest whole is = absurd is

sign-short : (b : ℕ) (front : List ℕ) → IsSign (b ∷ front) → suc (length front) ≤ 2
sign-short b [] is = omega arith
sign-short b (c ∷ []) is = omega arith
sign-short b (c ∷ d ∷ more) is = absurd is

-- the first byte of no other row
pub record IsRest (b : ℕ) : Type 0 where
  pub lower : is_ascii_lowercase b ≡ false
  pub upper : is_ascii_uppercase b ≡ false
  pub digit : is_ascii_digit b ≡ false
  pub quote : (b == 34) ≡ false

sign-stands : (at b : ℕ) (others : List ℕ) (t : Token) → IsRest b → sign_at at b others ≡ Ok t → StandsAt at (b ∷ others) t
sign-stands at b others t other is = by_pair (before_equals b && equals_first others) refl where
  as_sign : (kind : TokenKind) (c : ℕ) (front rest : List ℕ) → b ∷ others ≡ (c ∷ front) ++ rest → IsToken kind (c ∷ front) → IsSign (b ∷ front)
  as_sign kind c front rest whole it = other-only kind b front other.lower other.upper other.digit other.quote (front-first b c others front rest kind whole it)

  of_pair : (kind : TokenKind) (front rest : List ℕ) → b ∷ others ≡ front ++ rest → IsToken kind front → length front ≤ 2
  of_pair kind [] rest whole it = omega arith
  of_pair kind (c ∷ front) rest whole it = sign-short b front (as_sign kind c front rest whole it)

  of_single : (before_equals b && equals_first others) ≡ false → (kind : TokenKind) (front rest : List ℕ) → b ∷ others ≡ front ++ rest → IsToken kind front → length front ≤ 1
  of_single single kind [] rest whole it = omega arith
  of_single single kind (c ∷ front) rest whole it =
      let tail : others ≡ front ++ rest = cc in
      sign-longest b others single front rest (ap (λ xs. b ∷ xs) tail) (as_sign kind c front rest whole it)

  by_sign : (test : Bool) → (before_equals b && equals_first others) ≡ false → is_sign b ≡ test → StandsAt at (b ∷ others) t
  by_sign true single test =
      let found : Ok (token Sign at 1) ≡ Ok t = rw (single, test) at is in
      let same : token Sign at 1 ≡ t = cc in
      let P : Token → Type 0 = λ u. StandsAt at (b ∷ others) u in
      subst P same (stands at (b ∷ others) (b ∷ []) others Sign refl test (omega arith) (of_single single))
  by_sign false single test = absurd (let wrong : Err (fault BadChar at) ≡ Ok t = rw (single, test) at is in cc)

  by_pair : (test : Bool) → (before_equals b && equals_first others) ≡ test → StandsAt at (b ∷ others) t
  by_pair true test =
      let found : Ok (token Sign at 2) ≡ Ok t = rw test at is in
      let same : token Sign at 2 ≡ t = cc in
      let equals = equals-is others (and_right (before_equals b) (equals_first others) test) in
      let P : Token → Type 0 = λ u. StandsAt at (b ∷ others) u in
      subst P same (stands at (b ∷ others) (b ∷ 61 ∷ []) equals.0 Sign (ap (λ xs. b ∷ xs) equals.1) (and_left (before_equals b) (equals_first others) test, refl) (omega arith) of_pair)
  by_pair false test = by_sign (is_sign b) test refl

-- the rows of the table, by the first byte
module _ (at b : ℕ) (others : List ℕ) (t : Token) where
  at-quote : (test : Bool) → is_ascii_lowercase b ≡ false → is_ascii_uppercase b ≡ false → is_ascii_digit b ≡ false → (b == 34) ≡ test
      → cond test (quoted_at at (closing false others) others) (sign_at at b others) ≡ Ok t → StandsAt at (b ∷ others) t
  at-quote true l u d q is =
      let same : b ≡ 34 = grind (arith, nat_tests) in
      let P : ℕ → Type 0 = λ c. StandsAt at (c ∷ others) t in
      subst P (sym same) (quoted-stands at others t is)
  at-quote false l u d q is = sign-stands at b others t (record { lower = l; upper = u; digit = d; quote = q }) is

  at-digit : (test : Bool) → is_ascii_lowercase b ≡ false → is_ascii_uppercase b ≡ false → is_ascii_digit b ≡ test
      → cond test (number_at at (b ∷ others)) (cond (b == 34) (quoted_at at (closing false others) others) (sign_at at b others)) ≡ Ok t → StandsAt at (b ∷ others) t
  at-digit true l u d is = number-stands at b others t d is
  at-digit false l u d is = at-quote (b == 34) l u d refl is

  at-upper : (test : Bool) → is_ascii_lowercase b ≡ false → is_ascii_uppercase b ≡ test
      → cond test (Ok (token Upper at (prefix_len in_upper (b ∷ others))))
      (cond (is_ascii_digit b) (number_at at (b ∷ others)) (cond (b == 34) (quoted_at at (closing false others) others) (sign_at at b others))) ≡ Ok t
      → StandsAt at (b ∷ others) t
  at-upper true l u is =
      let same : token Upper at (prefix_len in_upper (b ∷ others)) ≡ t = cc in
      let P : Token → Type 0 = λ v. StandsAt at (b ∷ others) v in
      subst P same (upper-stands at b others u)
  at-upper false l u is = at-digit (is_ascii_digit b) l u refl is

  at-lower : (test : Bool) → is_ascii_lowercase b ≡ test
      → cond test (Ok (lower_at at (b ∷ others)))
      (cond (is_ascii_uppercase b) (Ok (token Upper at (prefix_len in_upper (b ∷ others))))
      (cond (is_ascii_digit b) (number_at at (b ∷ others)) (cond (b == 34) (quoted_at at (closing false others) others) (sign_at at b others)))) ≡ Ok t
      → StandsAt at (b ∷ others) t
  at-lower true l is =
      let same : lower_at at (b ∷ others) ≡ t = cc in
      let P : Token → Type 0 = λ v. StandsAt at (b ∷ others) v in
      subst P same (lower-stands at b others l)
  at-lower false l is = at-upper (is_ascii_uppercase b) l refl is

pub token-stands : (at b : ℕ) (others : List ℕ) (t : Token) → token_at at (b ∷ others) ≡ Ok t → StandsAt at (b ∷ others) t
token-stands at b others t is = at-lower at b others t (is_ascii_lowercase b) refl is
