-- Printed tokens are read by the lexer.
use Rattle.std.proofs.Common.{◌≡◌, ◌∙◌, ℕ, suc, ◌+◌, ◌-◌, ◌<◌, Bool, true, false, List, [], ◌∷◌, ◌++◌, length, take, drop, Ok, refl, sym, ap, subst, arith, cond}
use Rattle.std.specs.Prelude.{not, ◌==◌, ◌&&◌, ◌%◌, nat_lt}
use Rattle.std.proofs.lemmas.Bool.Decides.{nat_tests}
use Rattle.std.specs.Char.{is_ascii_digit, is_ascii_hexdigit, is_ascii_lowercase, is_ascii_uppercase}
use Rattle.std.specs.List.{prefix_len}
use Rattle.std.proofs.lemmas.List.{drop-drop}
use Rattle.std.proofs.Math.Seq.{take-append_seam, drop-append_seam}
use Rattle.ottl_lex.specs.Quoted.{with_front}
use Rattle.ottl_lex.specs.Table.{Each, IsName, IsText, spelled}
use Rattle.ottl_lex.specs.Tokens.{is_blank, in_lower, in_upper, in_word, is_one_of, is_keyword, token, token_at, hex_at, hex_first, digits_before, tokens_from, slice_of}
use Rattle.ottl_lex.specs.declared.token.Token.{Token}
use Rattle.ottl_lex.specs.declared.token.TokenKind.{TokenKind}
use Rattle.ottl_lex.specs.declared.token.TokenKind.TheVariants.{Lower, Word, Upper, Quoted, Digits, Hex}
use Rattle.ottl_lex.proofs.First.{lower_upper, lower_digit, upper_digit, one_of-passes}
use Rattle.ottl_lex.proofs.Loop.{tokens-next}
use Rattle.ottl_lex.proofs.First.{lower-in_lower, upper-in_upper}
use Rattle.ottl_lex.proofs.Texts.{text-read}

-- the tokens from a place on
abbrev pub Lexes : ℕ → List ℕ → List Token → Type 0
Lexes at text tokens = tokens_from 0 at text ≡ Ok tokens

-- what follows doesn't go on with such bytes
abbrev pub Stops : (ℕ → Bool) → List ℕ → Type 0
Stops p [] = Unit {0}
Stops p (b ∷ rest) = p b ≡ false

-- behind a front
pub past-front : (at : ℕ) (whole front more : List ℕ) → drop at whole ≡ front ++ more → drop (at + length front) whole ≡ more
past-front at whole front more is =
    sym (drop-drop (length front) at whole) ∙ ap (drop (length front)) is ∙ drop-append_seam front more

-- the bytes of a token
pub slice-is : (kind : TokenKind) (at : ℕ) (whole tok more : List ℕ) → drop at whole ≡ tok ++ more → slice_of whole (token kind at (length tok)) ≡ tok
slice-is kind at whole tok more is =
    let size : at + length tok - at ≡ length tok = omega arith in
    ap (λ (n : ℕ). take n (drop at whole)) size ∙ ap (take (length tok)) is ∙ take-append_seam tok more

-- a token before others
pub lex-token : (kind : TokenKind) (at b : ℕ) (others more : List ℕ) (left : List Token) → is_blank b ≡ false
    → token_at at (b ∷ others ++ more) ≡ Ok (token kind at (length (b ∷ others)))
    → Lexes (at + length (b ∷ others)) more left → Lexes at (b ∷ others ++ more) (token kind at (length (b ∷ others)) ∷ left)
lex-token kind at b others more left solid is behind =
    let size : at + length (b ∷ others) - at ≡ length (b ∷ others) = omega arith in
    tokens-next at b (others ++ more) (token kind at (length (b ∷ others))) solid is (omega arith)
    ∙ ap (λ (n : ℕ). with_front (token kind at (length (b ∷ others)) ∷ []) (tokens_from 0 (at + length (b ∷ others)) (drop n (b ∷ others ++ more)))) size
    ∙ ap (λ (rest : List ℕ). with_front (token kind at (length (b ∷ others)) ∷ []) (tokens_from 0 (at + length (b ∷ others)) rest)) (drop-append_seam (b ∷ others) more)
    ∙ ap (with_front (token kind at (length (b ∷ others)) ∷ [])) behind

-- so many bytes are of a kind, and no more
pub prefix-exact : (p : ℕ → Bool) (front more : List ℕ) → Each p front → Stops p more → prefix_len p (front ++ more) ≡ length front
prefix-exact p [] [] each stop = refl
prefix-exact p [] (b ∷ more) each stop = rw stop refl
prefix-exact p (b ∷ front) more each stop =
    let one : 1 + prefix_len p (front ++ more) ≡ suc (prefix_len p (front ++ more)) = omega arith in
    rw (each.0, one) (ap suc (prefix-exact p front more each.1 stop))

pub when : {A : Type 0} (t : Bool) (x y : A) → t ≡ true → cond t x y ≡ x
when true x y is = refl
when false x y is = absurd (cc)

pub unless : {A : Type 0} (t : Bool) (x y : A) → t ≡ false → cond t x y ≡ y
unless false x y is = refl
unless true x y is = absurd (cc)

-- what a first byte is not
not-so : (t : Bool) → (t ≡ true → ⊥) → t ≡ false
not-so true h = absurd (h refl)
not-so false h = refl

turned : (t : Bool) → not t ≡ true → t ≡ false
turned true h = absurd (cc)
turned false h = refl

lower-solid : (b : ℕ) → is_ascii_lowercase b ≡ true → is_blank b ≡ false
lower-solid b h = grind (arith, nat_tests)

upper-solid : (b : ℕ) → is_ascii_uppercase b ≡ true → is_blank b ≡ false
upper-solid b h = grind (arith, nat_tests)

digit-solid : (b : ℕ) → is_ascii_digit b ≡ true → is_blank b ≡ false
digit-solid b h = grind (arith, nat_tests)

digit-no-x : (b : ℕ) → is_ascii_digit b ≡ true → (b == 120) ≡ false
digit-no-x b h = grind (arith, nat_tests)

-- the bytes that may follow what is printed of an expression
abbrev pub is_clear : ℕ → Bool
is_clear b = is_one_of (32 ∷ 41 ∷ 44 ∷ 93 ∷ 125 ∷ []) b

-- what follows is one of them, or nothing
abbrev pub Clear : List ℕ → Type 0
Clear [] = Unit {0}
Clear (b ∷ rest) = is_clear b ≡ true

pub clear-stops : (p : ℕ → Bool) (more : List ℕ) → (not (p 32) && (not (p 41) && (not (p 44) && (not (p 93) && not (p 125))))) ≡ true → Clear more → Stops p more
clear-stops p [] all clear = tt
clear-stops p (b ∷ more) all clear = turned (p b) (by (p 32) (p 41) (p 44) (p 93) (p 125) refl refl refl refl refl all) where
  by : (a c d e f : Bool) → p 32 ≡ a → p 41 ≡ c → p 44 ≡ d → p 93 ≡ e → p 125 ≡ f → (not a && (not c && (not d && (not e && not f)))) ≡ true → not (p b) ≡ true
  by false false false false false ga gc gd ge gf is = one_of-passes (λ n. not (p n)) (32 ∷ 41 ∷ 44 ∷ 93 ∷ 125 ∷ []) b (rw (ga, gc, gd, ge, gf) refl) clear
  by true c d e f ga gc gd ge gf is = absurd (cc)
  by false true d e f ga gc gd ge gf is = absurd (cc)
  by false false true e f ga gc gd ge gf is = absurd (cc)
  by false false false true f ga gc gd ge gf is = absurd (cc)
  by false false false false true ga gc gd ge gf is = absurd (cc)

-- names
pub lower-lexed : (at : ℕ) (tok more : List ℕ) (left : List Token) → IsName is_ascii_lowercase in_lower tok → Stops in_lower more
    → Lexes (at + length tok) more left → Lexes at (tok ++ more) (token (cond (is_keyword tok) Word Lower) at (length tok) ∷ left)
lower-lexed at [] more left is stop behind = absurd is
lower-lexed at (b ∷ others) more left is stop behind =
    let tok : List ℕ = b ∷ others in
    let size : prefix_len in_lower (tok ++ more) ≡ length tok = prefix-exact in_lower tok more (lower-in_lower b is.0, is.1) stop in
    lex-token (cond (is_keyword tok) Word Lower) at b others more left (lower-solid b is.0)
    (when (is_ascii_lowercase b) _ _ is.0 ∙ (ap (λ (n : ℕ). Ok (token (cond (is_keyword (take n (tok ++ more))) Word Lower) at n)) size
    ∙ ap (λ (s : List ℕ). Ok (token (cond (is_keyword s) Word Lower) at (length tok))) (take-append_seam tok more))) behind

pub upper-lexed : (at : ℕ) (tok more : List ℕ) (left : List Token) → IsName is_ascii_uppercase in_upper tok → Stops in_upper more
    → Lexes (at + length tok) more left → Lexes at (tok ++ more) (token Upper at (length tok) ∷ left)
upper-lexed at [] more left is stop behind = absurd is
upper-lexed at (b ∷ others) more left is stop behind =
    let tok : List ℕ = b ∷ others in
    let size : prefix_len in_upper (tok ++ more) ≡ length tok = prefix-exact in_upper tok more (upper-in_upper b is.0, is.1) stop in
    let low : is_ascii_lowercase b ≡ false = not-so (is_ascii_lowercase b) (λ h. lower_upper b h is.0) in
    lex-token Upper at b others more left (upper-solid b is.0)
    (unless (is_ascii_lowercase b) _ _ low ∙ when (is_ascii_uppercase b) _ _ is.0 ∙ ap (λ (n : ℕ). Ok (token Upper at n)) size) behind

-- digits
no-hex : (b : ℕ) (rest : List ℕ) → Stops (λ c. c == 120) rest → hex_first (b ∷ rest) ≡ false
no-hex b [] stop = refl
no-hex b (c ∷ rest) stop = by (b == 48) (c == 120) stop where
  by : (s t : Bool) → t ≡ false → (s && t) ≡ false
  by true t is = is
  by false t is = refl

no-hex-digits : (b : ℕ) (others more : List ℕ) → Each is_ascii_digit others → Clear more → hex_first (b ∷ others ++ more) ≡ false
no-hex-digits b [] more each clear = no-hex b more (clear-stops (λ c. c == 120) more refl clear)
no-hex-digits b (c ∷ others) more each clear = no-hex b (c ∷ others ++ more) (digit-no-x c each.0)

before-clear : (at count : ℕ) (more : List ℕ) → Clear more → digits_before at count more ≡ Ok (token Digits at count)
before-clear at count [] clear = refl
before-clear at count (b ∷ more) clear =
    let word : in_word b ≡ false = clear-stops in_word (b ∷ more) refl clear in
    let point : (b == 46) ≡ false = clear-stops (λ c. c == 46) (b ∷ more) refl clear in
    rw (word, point) refl

pub digits-lexed : (at : ℕ) (tok more : List ℕ) (left : List Token) → IsName is_ascii_digit is_ascii_digit tok → Clear more
    → Lexes (at + length tok) more left → Lexes at (tok ++ more) (token Digits at (length tok) ∷ left)
digits-lexed at [] more left is clear behind = absurd is
digits-lexed at (b ∷ others) more left is clear behind =
    let tok : List ℕ = b ∷ others in
    let size : prefix_len is_ascii_digit (tok ++ more) ≡ length tok = prefix-exact is_ascii_digit tok more is (clear-stops is_ascii_digit more refl clear) in
    let low : is_ascii_lowercase b ≡ false = not-so (is_ascii_lowercase b) (λ h. lower_digit b h is.0) in
    let up : is_ascii_uppercase b ≡ false = not-so (is_ascii_uppercase b) (λ h. upper_digit b h is.0) in
    lex-token Digits at b others more left (digit-solid b is.0)
    (unless (is_ascii_lowercase b) _ _ low ∙ unless (is_ascii_uppercase b) _ _ up ∙ when (is_ascii_digit b) _ _ is.0
    ∙ unless (hex_first (tok ++ more)) _ _ (no-hex-digits b others more is.1 clear)
    ∙ (ap (λ (n : ℕ). digits_before at n (drop n (tok ++ more))) size
    ∙ ap (digits_before at (length tok)) (drop-append_seam tok more) ∙ before-clear at (length tok) more clear)) behind

-- bytes
pub hex-lexed : (at : ℕ) (ds more : List ℕ) (left : List Token) → Each is_ascii_hexdigit ds → 0 < length ds → length ds % 2 ≡ 0 → Stops is_ascii_hexdigit more
    → Lexes (at + length (48 ∷ 120 ∷ ds)) more left → Lexes at (48 ∷ 120 ∷ ds ++ more) (token Hex at (length (48 ∷ 120 ∷ ds)) ∷ left)
hex-lexed at ds more left each some even stop behind =
    let size : prefix_len is_ascii_hexdigit (ds ++ more) ≡ length ds = prefix-exact is_ascii_hexdigit ds more each stop in
    let two : 2 + length ds ≡ length (48 ∷ 120 ∷ ds) = omega arith in
    let are : (nat_lt 0 (length ds) && (length ds % 2 == 0)) ≡ true = let a : nat_lt 0 (length ds) ≡ true = grind (arith, nat_tests) in rw (a, even) refl in
    lex-token Hex at 48 (120 ∷ ds) more left refl
    (ap (hex_at at) size ∙ rw are (ap (λ (n : ℕ). Ok (token Hex at n)) two)) behind

-- texts
pub quoted-lexed : (at : ℕ) (tok more : List ℕ) (left : List Token) → IsText tok
    → Lexes (at + length tok) more left → Lexes at (tok ++ more) (token Quoted at (length tok) ∷ left)
quoted-lexed at tok more left is behind = by tok is is.whole behind where
  by : (tok : List ℕ) (is : IsText tok) → tok ≡ 34 ∷ spelled is.pieces ++ 34 ∷ [] → Lexes (at + length tok) more left → Lexes at (tok ++ more) (token Quoted at (length tok) ∷ left)
  by [] is whole behind = absurd (cc)
  by (b ∷ others) is whole behind =
      let first : 34 ≡ b = cc in
      let P : ℕ → Type 0 = λ n. IsText (n ∷ others) → Lexes (at + length (b ∷ others)) more left → Lexes at (n ∷ others ++ more) (token Quoted at (length (b ∷ others)) ∷ left) in
      subst P first (λ it beyond. lex-token Quoted at 34 others more left refl (text-read at (34 ∷ others) (others ++ more) more it refl) beyond) is behind
