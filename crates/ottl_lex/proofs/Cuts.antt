-- Tokens begin and end between characters, since their first and last bytes are ASCII.
use Rattle.std.proofs.Common.{◌≡◌, ◌∙◌, ℕ, zero, suc, ◌+◌, ◌-◌, ◌≤◌, ◌<◌, List, [], ◌∷◌, ◌++◌, length, drop, get_or, Bool, true, false, refl, sym, ap, subst, arith, append_assoc, length-append, drop_at}
use Rattle.std.specs.Prelude.{Ok, All, nat_lt, codes}
use Rattle.std.specs.Char.{is_ascii_digit, is_ascii_hexdigit, is_ascii_lowercase, is_ascii_uppercase}
use Rattle.std.specs.Str.{IsUtf8, IsCharBoundary}
use Rattle.std.proofs.lemmas.Bool.Decides.{nat_tests}
use Rattle.std.proofs.lemmas.List.Elements.{All-nil, All-cons}
use Rattle.std.proofs.lemmas.Str.{IsCharBoundary-before_ascii, IsCharBoundary-after_ascii}
use Rattle.std.proofs.Math.Seq.{get_or-append_seam}
use Rattle.ottl_lex.specs.declared.token.Token.{Token}
use Rattle.ottl_lex.specs.declared.token.TokenKind.{TokenKind}
use Rattle.ottl_lex.specs.declared.token.TokenKind.TheVariants.{Lower, Word, Upper, Quoted, Digits, Hex, Sign}
use Rattle.ottl_lex.specs.Tokens.{in_lower, in_upper, is_one_of, is_keyword, is_sign, before_equals, tokens_of, IsCut}
use Rattle.ottl_lex.specs.Table.{Each, IsName, IsSign, spelled, IsToken, IsLongest, AreTokens}
use Rattle.ottl_lex.proofs.First.{one_of-passes, keyword-first, keyword-more}
use Rattle.ottl_lex.proofs.Longest.{tokens_are_longest}

-- the first and the last byte are ASCII
record Ends (slice : List ℕ) : Type 0 where
  first : ℕ
  others : List ℕ
  begins : slice ≡ first ∷ others
  first_ascii : first < 128
  front : List ℕ
  last : ℕ
  ends : slice ≡ front ++ last ∷ []
  last_ascii : last < 128

-- the last byte of ASCII
record Last (slice : List ℕ) : Type 0 where
  front : List ℕ
  last : ℕ
  ends : slice ≡ front ++ last ∷ []
  ascii : last < 128

last-of : (p : ℕ → Bool) → ((b : ℕ) → p b ≡ true → b < 128) → (b : ℕ) (rest : List ℕ) → b < 128 → Each p rest → Last (b ∷ rest)
last-of p ascii b [] is each = record { front = []; last = b; ends = refl; ascii = is }
last-of p ascii b (c ∷ rest) is each =
    let more = last-of p ascii c rest (ascii c each.0) each.1 in
    record { front = b ∷ more.front; last = more.last; ends = ap (λ xs. b ∷ xs) more.ends; ascii = more.ascii }

ends-each : (p : ℕ → Bool) → ((b : ℕ) → p b ≡ true → b < 128) → (b : ℕ) (rest : List ℕ) → b < 128 → Each p rest → Ends (b ∷ rest)
ends-each p ascii b rest is each =
    let more = last-of p ascii b rest is each in
    record { first = b; others = rest; begins = refl; first_ascii = is; front = more.front; last = more.last; ends = more.ends; last_ascii = more.ascii }

lower_ascii : (b : ℕ) → in_lower b ≡ true → b < 128
lower_ascii b is = grind (arith, nat_tests)

upper_ascii : (b : ℕ) → in_upper b ≡ true → b < 128
upper_ascii b is = grind (arith, nat_tests)

digit_ascii : (b : ℕ) → is_ascii_digit b ≡ true → b < 128
digit_ascii b is = grind (arith, nat_tests)

hex_ascii : (b : ℕ) → is_ascii_hexdigit b ≡ true → b < 128
hex_ascii b is = grind (arith, nat_tests)

small_first : (b : ℕ) → is_ascii_lowercase b ≡ true → b < 128
small_first b is = grind (arith, nat_tests)

great_first : (b : ℕ) → is_ascii_uppercase b ≡ true → b < 128
great_first b is = grind (arith, nat_tests)

ends-literal : (digits : List ℕ) → Each is_ascii_hexdigit digits → Ends (48 ∷ 120 ∷ digits)
ends-literal digits are =
    let more = last-of is_ascii_hexdigit hex_ascii 120 digits (omega arith) are in
    record {
      first = 48;
      others = 120 ∷ digits;
      begins = refl;
      first_ascii = omega arith;
      front = 48 ∷ more.front;
      last = more.last;
      ends = ap (λ xs. 48 ∷ xs) more.ends;
      last_ascii = more.ascii;
    }

ends-name : (p first : ℕ → Bool) → ((b : ℕ) → first b ≡ true → b < 128) → ((b : ℕ) → p b ≡ true → b < 128) → (slice : List ℕ) → IsName first p slice → Ends slice
ends-name p first first_is ascii [] is = absurd is
ends-name p first first_is ascii (b ∷ rest) is = ends-each p ascii b rest (first_is b is.0) is.1

ends-word : (slice : List ℕ) → is_keyword slice ≡ true → Ends slice
ends-word [] is = absurd (cc)
ends-word (b ∷ rest) is = ends-each in_lower lower_ascii b rest (small_first b (keyword-first b rest is)) (keyword-more b rest is)

below : (b : ℕ) → nat_lt b 128 ≡ true → b < 128
below b is = grind (arith, nat_tests)

sign_ascii : (b : ℕ) → is_sign b ≡ true → b < 128
sign_ascii b is = below b (one_of-passes (λ c. nat_lt c 128) (codes "()[]{},.:<>+-*/") b refl is)

two_ascii : (b : ℕ) → before_equals b ≡ true → b < 128
two_ascii b is = below b (one_of-passes (λ c. nat_lt c 128) (codes "=!<>") b refl is)

ends-sign : (slice : List ℕ) → IsSign slice → Ends slice
ends-sign [] is = absurd is
ends-sign (b ∷ []) is = ends-each is_sign sign_ascii b [] (sign_ascii b is) tt
ends-sign (b ∷ c ∷ []) is =
    let equals : c < 128 = omega (arith, is.1) in
    record { first = b; others = c ∷ []; begins = refl; first_ascii = two_ascii b is.0; front = b ∷ []; last = c; ends = refl; last_ascii = equals }
ends-sign (b ∷ c ∷ d ∷ rest) is = absurd is

ends-token : (kind : TokenKind) (slice : List ℕ) → IsToken kind slice → Ends slice
ends-token Lower slice is = ends-name in_lower is_ascii_lowercase small_first lower_ascii slice is.0
ends-token Word slice is = ends-word slice is
ends-token Upper slice is = ends-name in_upper is_ascii_uppercase great_first upper_ascii slice is
ends-token Quoted slice is = record {
  first = 34;
  others = spelled is.pieces ++ 34 ∷ [];
  begins = is.whole;
  first_ascii = omega arith;
  front = 34 ∷ spelled is.pieces;
  last = 34;
  ends = is.whole;
  last_ascii = omega arith;
}
ends-token Digits slice is = ends-name is_ascii_digit is_ascii_digit digit_ascii digit_ascii slice is
ends-token Hex slice is =
    subst Ends (sym is.whole) (ends-literal is.digits is.are)
ends-token Sign slice is = ends-sign slice is

-- before an ASCII byte, and behind one
cut-before : (whole front : List ℕ) (b : ℕ) (behind : List ℕ) → whole ≡ front ++ b ∷ behind → b < 128 → IsCharBoundary whole (length front)
cut-before whole front b behind is ascii =
    let at : get_or whole (length front) 0 ≡ b = ap (λ xs. get_or xs (length front) 0) is ∙ get_or-append_seam front b behind 0 in
    IsCharBoundary-before_ascii whole (length front) (omega (arith, ap length is, length-append front (b ∷ behind))) (omega (arith, at, ascii))

cut-behind : (whole front : List ℕ) (b : ℕ) (behind : List ℕ) → IsUtf8 whole → whole ≡ front ++ b ∷ behind → b < 128 → IsCharBoundary whole (length front + 1)
cut-behind whole front b behind utf8 is ascii =
    let at : get_or whole (length front) 0 ≡ b = ap (λ xs. get_or xs (length front) 0) is ∙ get_or-append_seam front b behind 0 in
    IsCharBoundary-after_ascii whole (length front) utf8 (omega (arith, ap length is, length-append front (b ∷ behind))) (omega (arith, at, ascii))

-- a token behind a front of the text
cut-token : (whole front slice behind : List ℕ) (t : Token) → IsUtf8 whole → whole ≡ front ++ (slice ++ behind) → Ends slice
    → t.begin ≡ length front → t.end ≡ length front + length slice → IsCut whole t
cut-token whole front slice behind t utf8 is ends begins stops =
    let before : whole ≡ front ++ ends.first ∷ (ends.others ++ behind) = is ∙ ap (λ xs. front ++ (xs ++ behind)) ends.begins in
    let after : whole ≡ (front ++ ends.front) ++ ends.last ∷ behind =
    is ∙ ap (λ xs. front ++ (xs ++ behind)) ends.ends ∙ ap (λ xs. front ++ xs) (append_assoc ends.front (ends.last ∷ []) behind)
    ∙ sym (append_assoc front ends.front (ends.last ∷ behind)) in
    let place : length (front ++ ends.front) + 1 ≡ t.end =
    omega (arith, stops, ap length ends.ends, length-append ends.front (ends.last ∷ []), length-append front ends.front) in (
      subst (IsCharBoundary whole) (sym begins) (cut-before whole front ends.first (ends.others ++ behind) before ends.first_ascii),
      subst (IsCharBoundary whole) place (cut-behind whole (front ++ ends.front) ends.last behind utf8 after ends.last_ascii),
    )

cuts : (whole : List ℕ) → IsUtf8 whole → (front text : List ℕ) (at : ℕ) (ts : List Token) (place : ℕ) (rest : List ℕ) → whole ≡ front ++ text → at ≡ length front
    → AreTokens at text ts place rest → All (IsCut whole) ts
cuts whole utf8 front text at [] place rest is at_is are = All-nil (IsCut whole)
cuts whole utf8 front text at (t ∷ ts) place rest is at_is are =
    let here = are.0 in
    let blanks = are.1 in
    let longest = are.3 in
    let slice = longest.slice in
    let before = front ++ blanks.blanks in
    let whole_is : whole ≡ before ++ (slice ++ longest.behind) =
    is ∙ ap (λ xs. front ++ xs) (blanks.whole ∙ ap (λ xs. blanks.blanks ++ xs) longest.whole) ∙ sym (append_assoc front blanks.blanks (slice ++ longest.behind)) in
    let begins : t.begin ≡ length before = omega (arith, blanks.placed, at_is, length-append front blanks.blanks) in
    let stops : t.end ≡ length before + length slice = omega (arith, begins, longest.sized, are.2) in
    let left : drop (t.end - t.begin) here ≡ longest.behind = ap (drop (t.end - t.begin)) longest.whole ∙ drop_at slice longest.behind (t.end - t.begin) longest.sized in
    let P : List ℕ → Type 0 = λ xs. AreTokens t.end xs ts place rest in
    let next : whole ≡ (before ++ slice) ++ longest.behind = whole_is ∙ sym (append_assoc before slice longest.behind) in
    All-cons (IsCut whole) t ts (cut-token whole before slice longest.behind t utf8 whole_is (ends-token t.kind slice longest.is) begins stops)
    (cuts whole utf8 (before ++ slice) longest.behind t.end ts place rest next (omega (arith, stops, length-append before slice)) (subst P left are.4))

pub tokens-cut : (text : List ℕ) (tokens : List Token) → IsUtf8 text → tokens_of text ≡ Ok tokens → All (IsCut text) tokens
tokens-cut text tokens utf8 is = cuts text utf8 [] text 0 tokens (length text) [] refl refl (tokens_are_longest text tokens is)
