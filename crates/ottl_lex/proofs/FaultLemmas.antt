-- A fault is right for the text where it stands.
use Rattle.std.proofs.Common.{◌≡◌, ◌≢◌, ◌∙◌, ℕ, zero, suc, ◌+◌, ◌%◌, ◌≤◌, ◌<◌, List, [], ◌∷◌, ◌++◌, length, take, drop, Bool, true, false, refl, sym, ap, subst, arith, append_assoc, length-append, inl, inr}
use Rattle.std.specs.Prelude.{Option, Some, None, Result, Ok, Err, cond, ◌==◌, ◌&&◌, nat_lt}
use Rattle.std.specs.Char.{is_ascii_digit, is_ascii_hexdigit, is_ascii_lowercase, is_ascii_uppercase}
use Rattle.std.specs.List.{prefix_len}
use Rattle.std.specs.Str.{is_utf8}
use Rattle.std.proofs.lemmas.Bool.Decides.{nat_tests}
use Rattle.std.proofs.lemmas.List.{take-append-drop, take-append-le}
use Rattle.std.proofs.lemmas.List.Folds.{length-prefix_len}
use Rattle.std.proofs.lemmas.Str.{is_utf8-from_IsUtf8}
use Rattle.std.proofs.Math.Seq.{take-append_seam}
use Rattle.ottl_lex.specs.declared.fault.SyntaxFault.{SyntaxFault}
use Rattle.ottl_lex.specs.declared.fault.SyntaxKind.{SyntaxKind}
use Rattle.ottl_lex.specs.declared.fault.SyntaxKind.TheVariants.{BadChar, OpenText, BadEscape, NotUtf8, Fraction, BadNumber}
use Rattle.ottl_lex.specs.declared.token.TokenKind.TheVariants.{Quoted, Digits, Hex, Sign, Upper}
use Rattle.ottl_lex.specs.Quoted.{fault, ◌>>=◌, with_front, one_more, closing, escape_at, escaped, unescaped, as_utf8}
use Rattle.ottl_lex.specs.Tokens.{in_upper, in_word, is_sign, before_equals, equals_first, digit_first, hex_first, token, lower_at, hex_at, digits_before, number_at, quoted_at, sign_at, token_at}
use Rattle.ottl_lex.specs.Table.{IsName, Piece, plain, letter, hex, octal, short, long, spelling, meaning, IsPiece, spelled, meant, ArePieces, IsSign, HasNoToken}
use Rattle.ottl_lex.specs.Faults.{Scanned, bare, slashed, scanned, AreScanned, IsClosed, FaultStands}
use Rattle.ottl_lex.proofs.Sides.{and_left, and_right}
use Rattle.ottl_lex.proofs.First.{each-front, token-some, quote-only, other-only}
use Rattle.ottl_lex.proofs.Closes.{plus, closing-plain, closing-slash, closing-piece, closing-splits}
use Rattle.ottl_lex.proofs.EscapeLemmas.{escape-is, escape-of}
use Rattle.ottl_lex.proofs.Texts.{WasRead, read-pieces, closes-inside, text-read, was-plus, closes-further, escape-passed}
use Rattle.ottl_lex.proofs.Stands.{front-first, begins-hex, literal-first, literal-longest, IsRest, name-slice}

-- a fault that was found is the one that stands
same-fault : (at place : ℕ) (text : List ℕ) (kind : SyntaxKind) (f : SyntaxFault) → fault kind at ≡ f → FaultStands kind at place text → FaultStands f.kind f.at place text
same-fault at place text kind f is stands = let P : SyntaxFault → Type 0 = λ g. FaultStands g.kind g.at place text in subst P is stands

-- a text that closes
scanned-closes : (us : List Scanned) (behind : List ℕ) → AreScanned us → closing false (scanned us ++ 34 ∷ behind) ≡ Some (length (scanned us))
scanned-closes [] behind are = refl
scanned-closes (bare b ∷ us) behind are =
    closing-plain b (scanned us ++ 34 ∷ behind) are.0 are.1 are.2 ∙ ap one_more (scanned-closes us behind are.3)
scanned-closes (slashed b ∷ us) behind are =
    closing-slash b (scanned us ++ 34 ∷ behind) are.0 ∙ ap (λ o. one_more (one_more o)) (scanned-closes us behind are.1)

record WasScanned (others : List ℕ) : Type 0 where
  inside : List Scanned
  behind : List ℕ
  are : AreScanned inside
  whole : others ≡ scanned inside ++ 34 ∷ behind

-- what stands behind a backslash
record WasSlashed (others : List ℕ) : Type 0 where
  byte : ℕ
  rest : List ℕ
  first : others ≡ byte ∷ rest
  newline : byte ≢ 10
  more : WasScanned rest

abbrev ScansTo : List ℕ → Type 0
ScansTo others = ((n : ℕ) → closing false others ≡ Some n → WasScanned others) × ((n : ℕ) → closing true others ≡ Some n → WasSlashed others)

had-more : (found : Option ℕ) (n : ℕ) → one_more found ≡ Some n → (m : ℕ) × (found ≡ Some m)
had-more None n is = absurd (cc)
had-more (Some m) n is = (m, refl)

module _ (b : ℕ) (rest : List ℕ) (scans : ScansTo rest) where
  scan-slashed : (n : ℕ) (newline : Bool) → (b == 10) ≡ newline → closing true (b ∷ rest) ≡ Some n → WasSlashed (b ∷ rest)
  scan-slashed n true e is = absurd (let wrong : None ≡ Some n = rw e at is in cc)
  scan-slashed n false e is =
      let found : one_more (closing false rest) ≡ Some n = rw e at is in
      let more = had-more (closing false rest) n found in
      record { byte = b; rest = rest; first = refl; newline = λ same. grind (arith, nat_tests); more = scans.0 more.0 more.1 }

  scan-slash : (n : ℕ) (slash : Bool) → (b == 10) ≡ false → (b == 34) ≡ false → (b == 92) ≡ slash → one_more (closing slash rest) ≡ Some n → WasScanned (b ∷ rest)
  scan-slash n true e q s found =
      let more = had-more (closing true rest) n found in
      let slashed-byte = scans.1 more.0 more.1 in
      let same : b ≡ 92 = grind (arith, nat_tests) in
      record {
        inside = slashed slashed-byte.byte ∷ slashed-byte.more.inside;
        behind = slashed-byte.more.behind;
        are = (slashed-byte.newline, slashed-byte.more.are);
        whole = rw same (ap (λ xs. 92 ∷ xs) (slashed-byte.first ∙ ap (λ xs. slashed-byte.byte ∷ xs) slashed-byte.more.whole));
      }
  scan-slash n false e q s found =
      let more = had-more (closing false rest) n found in
      let further = scans.0 more.0 more.1 in
      record {
        inside = bare b ∷ further.inside;
        behind = further.behind;
        are = ((λ same. grind (arith, nat_tests)), (λ same. grind (arith, nat_tests)), (λ same. grind (arith, nat_tests)), further.are);
        whole = ap (λ xs. b ∷ xs) further.whole;
      }

  scan-quote : (n : ℕ) (quote : Bool) → (b == 10) ≡ false → (b == 34) ≡ quote → cond quote (Some 0) (one_more (closing (b == 92) rest)) ≡ Some n → WasScanned (b ∷ rest)
  scan-quote n true e q found = let same : b ≡ 34 = grind (arith, nat_tests) in record { inside = []; behind = rest; are = tt; whole = rw same refl }
  scan-quote n false e q found = scan-slash n (b == 92) e q refl found

  scan-newline : (n : ℕ) (newline : Bool) → (b == 10) ≡ newline → closing false (b ∷ rest) ≡ Some n → WasScanned (b ∷ rest)
  scan-newline n true e is = absurd (let wrong : None ≡ Some n = rw e at is in cc)
  scan-newline n false e is = scan-quote n (b == 34) e refl (rw e at is)

scan : (others : List ℕ) → ScansTo others
scan [] = ((λ n is. absurd (let found : None ≡ Some n = is in cc)), (λ n is. absurd (let found : None ≡ Some n = is in cc)))
scan (b ∷ rest) = ((λ n is. scan-newline b rest (scan rest) n (b == 10) refl is), (λ n is. scan-slashed b rest (scan rest) n (b == 10) refl is))

closed-of : (others : List ℕ) (n : ℕ) → closing false others ≡ Some n → IsClosed (34 ∷ others)
closed-of others n found =
    let inner = (scan others).0 n found in
    record { inside = inner.inside; behind = inner.behind; are = inner.are; whole = ap (λ xs. 34 ∷ xs) inner.whole }

open-of : (others : List ℕ) → closing false others ≡ None → IsClosed (34 ∷ others) → ⊥
open-of others none is =
    let whole = is.whole in
    let inner : others ≡ scanned is.inside ++ 34 ∷ is.behind = cc in
    let found = ap (closing false) inner ∙ scanned-closes is.inside is.behind is.are in
    cc

-- no token begins with the quote of a text that isn't read
quoted-none : (at : ℕ) (others : List ℕ) (f : SyntaxFault) → quoted_at at (closing false others) others ≡ Err f → HasNoToken (34 ∷ others)
quoted-none at others f is kind [] rest whole it = token-some kind it
quoted-none at others f is kind (c ∷ front) rest whole it =
    let quoted = quote-only kind 34 front refl (front-first 34 c others front rest kind whole it) in
    let tail : others ≡ front ++ rest = cc in
    let read = text-read at (34 ∷ front) others rest quoted (ap (λ xs. 34 ∷ xs) tail) in
    let wrong : Ok (token Quoted at (length (34 ∷ front))) ≡ Err f = sym read ∙ is in
    cc

-- pieces, and a backslash that begins none
record WasBad (inside behind : List ℕ) (at : ℕ) (f : SyntaxFault) : Type 0 where
  pieces : List Piece
  rest : List ℕ
  are : ArePieces pieces
  whole : inside ≡ spelled pieces ++ 92 ∷ rest
  is : fault BadEscape (at + length (spelled pieces)) ≡ f
  none : (p : Piece) (more : List ℕ) → IsPiece p → spelling p ++ more ≢ 92 ∷ rest ++ 34 ∷ behind

abbrev ReadsBad : List ℕ → Type 0
ReadsBad text = (n at : ℕ) (behind : List ℕ) (f : SyntaxFault) → unescaped n at text ≡ Err f
    → closing false (drop n text ++ 34 ∷ behind) ≡ Some (length (drop n text)) → WasBad (drop n text) behind (at + n) f

err-front : (front : List ℕ) (read : Result (List ℕ) SyntaxFault) (f : SyntaxFault) → with_front front read ≡ Err f → read ≡ Err f
err-front front (Ok more) f is = absurd (cc)
err-front front (Err e) f is = is

-- of two texts that are one, the shorter front begins the other
front-of : (xs ys us vs : List ℕ) → xs ++ ys ≡ us ++ vs → length xs ≤ length us → us ≡ xs ++ drop (length xs) us
front-of xs ys us vs same within =
    let mine : take (length xs) (xs ++ ys) ≡ xs = take-append_seam xs ys in
    let theirs : take (length xs) (us ++ vs) ≡ take (length xs) us = take-append-le (length xs) us vs within in
    let front : take (length xs) us ≡ xs = sym theirs ∙ ap (take (length xs)) (sym same) ∙ mine in
    sym (take-append-drop (length xs) us) ∙ ap (λ zs. zs ++ drop (length xs) us) front

slash-tail : (p : Piece) (more rest : List ℕ) → IsPiece p → spelling p ++ more ≡ 92 ∷ rest → (tail : List ℕ) × (spelling p ≡ 92 ∷ tail)
slash-tail (plain b) more rest is same = absurd (is.2 (cc))
slash-tail (letter c b) more rest is same = (c ∷ [], refl)
slash-tail (hex ds) more rest is same = (120 ∷ ds, refl)
slash-tail (octal ds) more rest is same = (ds, refl)
slash-tail (short ds) more rest is same = (117 ∷ ds, refl)
slash-tail (long ds) more rest is same = (85 ∷ ds, refl)

-- where no escape is found, no piece stands, not even beyond the closing quote
no-piece : (rest behind : List ℕ) → escape_at rest ≡ None → closing false (92 ∷ rest ++ 34 ∷ behind) ≡ Some (suc (length rest))
    → (p : Piece) (more : List ℕ) → IsPiece p → spelling p ++ more ≢ 92 ∷ rest ++ 34 ∷ behind
no-piece rest behind none closes p more is same =
    let tail = slash-tail p more (rest ++ 34 ∷ behind) is same in
    let counted : plus (length (spelling p)) (closing false more) ≡ Some (suc (length rest)) = sym (closing-piece p more is) ∙ ap (closing false) same ∙ closes in
    let sum = was-plus (length (spelling p)) (closing false more) (suc (length rest)) counted in
    let room : length tail.0 ≤ length rest = omega (arith, sum.sum, ap length tail.1) in
    let begins : 92 ∷ tail.0 ++ more ≡ 92 ∷ rest ++ 34 ∷ behind = ap (λ xs. xs ++ more) (sym tail.1) ∙ same in
    let inner : tail.0 ++ more ≡ rest ++ 34 ∷ behind = cc in
    let front = front-of tail.0 more rest (34 ∷ behind) inner room in
    let found = escape-of p tail.0 (drop (length tail.0) rest) is tail.1 in
    let same : escape_at rest ≡ Some (meaning p, length tail.0) = ap escape_at front ∙ found in
    cc

module _ (b : ℕ) (rest : List ℕ) (at : ℕ) (behind : List ℕ) (f : SyntaxFault) (closes : closing false (b ∷ rest ++ 34 ∷ behind) ≡ Some (suc (length rest))) (reads : ReadsBad rest) where
  bad-plain : (b == 92) ≡ false → with_front (b ∷ []) (unescaped 0 (at + 1) rest) ≡ Err f → WasBad (b ∷ rest) behind (at + 0) f
  bad-plain slash is =
      let further = closes-further b (rest ++ 34 ∷ behind) (length rest) slash closes in
      let more = reads 0 (at + 1) behind f (err-front (b ∷ []) (unescaped 0 (at + 1) rest) f is) further.further in
      record {
        pieces = plain b ∷ more.pieces;
        rest = more.rest;
        are = ((further.newline, further.quote, λ e. grind (arith, nat_tests)), more.are);
        whole = ap (λ xs. b ∷ xs) more.whole;
        is = ap (fault BadEscape) (omega arith) ∙ more.is;
        none = more.none;
      }

  bad-escape : b ≡ 92 → (found : Option (List ℕ × ℕ)) → escape_at rest ≡ found → escaped at found (λ n. unescaped n (at + 1) rest) ≡ Err f → WasBad (b ∷ rest) behind (at + 0) f
  bad-escape slash None found is =
      let here : fault BadEscape at ≡ f = cc in
      let closed : closing false (92 ∷ rest ++ 34 ∷ behind) ≡ Some (suc (length rest)) = ap (λ c. closing false (c ∷ rest ++ 34 ∷ behind)) (sym slash) ∙ closes in
      record {
        pieces = [];
        rest = rest;
        are = tt;
        whole = ap (λ c. c ∷ rest) slash;
        is = ap (fault BadEscape) (omega arith) ∙ here;
        none = no-piece rest behind found closed;
      }
  bad-escape slash (Some e) found is =
      let passed = escape-passed b rest behind closes slash e.0 e.1 (escape-is rest e.0 e.1 found) in
      let more = reads e.1 (at + 1) behind f (err-front e.0 (unescaped e.1 (at + 1) rest) f is) passed.closes in
      let place : at + 0 + length (spelling passed.piece ++ spelled more.pieces) ≡ at + 1 + e.1 + length (spelled more.pieces) =
      omega (arith, passed.sized, length-append (spelling passed.piece) (spelled more.pieces)) in
      record {
        pieces = passed.piece ∷ more.pieces;
        rest = more.rest;
        are = (passed.is, more.are);
        whole = sym passed.whole ∙ ap (λ xs. spelling passed.piece ++ xs) more.whole ∙ sym (append_assoc (spelling passed.piece) (spelled more.pieces) (92 ∷ more.rest));
        is = ap (fault BadEscape) place ∙ more.is;
        none = more.none;
      }

bad-by : (b : ℕ) (rest : List ℕ) (at : ℕ) (behind : List ℕ) (f : SyntaxFault) (test : Bool) → (b == 92) ≡ test → unescaped 0 at (b ∷ rest) ≡ Err f
    → closing false (b ∷ rest ++ 34 ∷ behind) ≡ Some (suc (length rest)) → ReadsBad rest → WasBad (b ∷ rest) behind (at + 0) f
bad-by b rest at behind f true test is closes reads = bad-escape b rest at behind f closes reads (grind (arith, nat_tests)) (escape_at rest) refl (rw test at is)
bad-by b rest at behind f false test is closes reads = bad-plain b rest at behind f closes reads test (rw test at is)

read-bad : (text : List ℕ) → ReadsBad text
read-bad [] zero at behind f is closes = absurd (cc)
read-bad [] (suc n) at behind f is closes = absurd (cc)
read-bad (b ∷ rest) (suc n) at behind f is closes =
    let P : ℕ → Type 0 = λ m. WasBad (drop n rest) behind m f in
    subst P (omega arith) (read-bad rest n (at + 1) behind f is closes)
read-bad (b ∷ rest) zero at behind f is closes = bad-by b rest at behind f (b == 92) refl is closes (read-bad rest)

-- a backslash that begins no piece
bad-stands : (at : ℕ) (others inside behind : List ℕ) (f : SyntaxFault) → HasNoToken (34 ∷ others) → IsClosed (34 ∷ others) → others ≡ inside ++ 34 ∷ behind
    → WasBad inside behind (at + 1 + 0) f → FaultStands f.kind f.at at (34 ∷ others)
bad-stands at others inside behind f none closed split bad =
    let inner : others ≡ spelled bad.pieces ++ 92 ∷ (bad.rest ++ 34 ∷ behind) =
    split ∙ ap (λ xs. xs ++ 34 ∷ behind) bad.whole ∙ append_assoc (spelled bad.pieces) (92 ∷ bad.rest) (34 ∷ behind) in
    same-fault (at + 1 + 0 + length (spelled bad.pieces)) at (34 ∷ others) BadEscape f bad.is (
      none,
      closed,
      record {
        pieces = bad.pieces;
        behind = bad.rest ++ 34 ∷ behind;
        are = bad.are;
        whole = ap (λ xs. 34 ∷ xs) inner;
        placed = omega arith;
        none = bad.none;
      },
    )

-- pieces that aren't UTF-8
wrong-stands : (at : ℕ) (others inside behind bytes : List ℕ) → HasNoToken (34 ∷ others) → others ≡ inside ++ 34 ∷ behind
    → WasRead inside bytes → is_utf8 bytes ≡ false → FaultStands NotUtf8 at at (34 ∷ others)
wrong-stands at others inside behind bytes none split was test =
    let inner : others ≡ spelled was.pieces ++ 34 ∷ behind = split ∙ ap (λ xs. xs ++ 34 ∷ behind) (sym was.whole) in (
      refl,
      none,
      record {
        pieces = was.pieces;
        behind = behind;
        are = was.are;
        whole = ap (λ xs. 34 ∷ xs) inner;
        wrong = λ utf8.
            let yes = is_utf8-from_IsUtf8 (meant was.pieces) utf8 in
            let both : true ≡ false = sym yes ∙ ap is_utf8 was.means ∙ test in
            absurd (cc);
      },
    )

-- the fault of a text
module _ (at : ℕ) (others : List ℕ) (f : SyntaxFault) (is : quoted_at at (closing false others) others ≡ Err f) where
  text-fault : (n : ℕ) (found : closing false others ≡ Some n) (split : others ≡ take n others ++ 34 ∷ drop (suc n) others)
      → closing false (take n others ++ 34 ∷ drop (suc n) others) ≡ Some (length (take n others))
      → (read : Result (List ℕ) SyntaxFault) → unescaped 0 (at + 1) (take n others) ≡ read
      → ((read >>= as_utf8 at) >>= λ _. Ok (token Quoted at (2 + n))) ≡ Err f → FaultStands f.kind f.at at (34 ∷ others)
  text-fault n found split closes (Err e) read wrong =
      let same : e ≡ f = cc in
      let P : SyntaxFault → Type 0 = λ g. FaultStands g.kind g.at at (34 ∷ others) in
      subst P same (bad-stands at others (take n others) (drop (suc n) others) e (quoted-none at others f is) (closed-of others n found) split
      (read-bad (take n others) 0 (at + 1) (drop (suc n) others) e read closes))
  text-fault n found split closes (Ok bytes) read wrong = by_utf8 (is_utf8 bytes) refl where
    by_utf8 : (test : Bool) → is_utf8 bytes ≡ test → FaultStands f.kind f.at at (34 ∷ others)
    by_utf8 true test = absurd (let ok : Ok (token Quoted at (2 + n)) ≡ Err f = rw test at wrong in cc)
    by_utf8 false test =
        let failed : Err (fault NotUtf8 at) ≡ Err f = rw test at wrong in
        let same : fault NotUtf8 at ≡ f = cc in
        same-fault at at (34 ∷ others) NotUtf8 f same (wrong-stands at others (take n others) (drop (suc n) others) bytes (quoted-none at others f is) split
        (read-pieces (take n others) 0 (at + 1) (drop (suc n) others) bytes read closes) test)

  text-by : (found : Option ℕ) → closing false others ≡ found → quoted_at at found others ≡ Err f → FaultStands f.kind f.at at (34 ∷ others)
  text-by None found wrong =
      let same : fault OpenText at ≡ f = cc in
      same-fault at at (34 ∷ others) OpenText f same (refl, quoted-none at others f is, (others, refl), open-of others found)
  text-by (Some n) found wrong =
      let split = closing-splits false others n found in
      text-fault n found split (closes-inside others n found split) (unescaped 0 (at + 1) (take n others)) refl wrong

  quoted-fault : FaultStands f.kind f.at at (34 ∷ others)
  quoted-fault = text-by (closing false others) refl is

-- the fault of a number
run-ends : (p : ℕ → Bool) (text : List ℕ) (b : ℕ) (rest : List ℕ) → drop (prefix_len p text) text ≡ b ∷ rest → p b ≡ false
run-ends p [] b rest is = absurd (cc)
run-ends p (x ∷ text) b rest is = by_test (p x) refl (run-ends p text b rest) where
  by_test : (test : Bool) → p x ≡ test → (drop (prefix_len p text) text ≡ b ∷ rest → p b ≡ false) → p b ≡ false
  by_test true test more =
      let one : 1 + prefix_len p text ≡ suc (prefix_len p text) = omega arith in
      more (rw (test, one) at is)
  by_test false test more =
      let same : x ∷ text ≡ b ∷ rest = rw test at is in
      let first : x ≡ b = cc in
      ap p (sym first) ∙ test

hex-fault : (at : ℕ) (others : List ℕ) (f : SyntaxFault) → hex_at at (prefix_len is_ascii_hexdigit others) ≡ Err f → FaultStands f.kind f.at at (48 ∷ 120 ∷ others)
hex-fault at others f is = by_test (nat_lt 0 (prefix_len is_ascii_hexdigit others) && prefix_len is_ascii_hexdigit others % 2 == 0) refl where
  by_count : (test : Bool) → (prefix_len is_ascii_hexdigit others == 0) ≡ test → (nat_lt 0 (prefix_len is_ascii_hexdigit others) && prefix_len is_ascii_hexdigit others % 2 == 0) ≡ false
      → fault BadNumber at ≡ f → FaultStands f.kind f.at at (48 ∷ 120 ∷ others)
  by_count true empty wrong same =
      let count : prefix_len is_ascii_hexdigit others ≡ 0 = grind (arith, nat_tests) in
      same-fault at at (48 ∷ 120 ∷ others) BadNumber f same (
        refl,
        inl (record {
          digits = 48 ∷ [];
          byte = 120;
          behind = others;
          are = (refl, tt);
          follows = refl;
          whole = refl;
          none = λ front rest whole literal.
              let most = literal-longest others front rest whole literal in
              omega (arith, most, literal.some, ap length literal.whole, count);
        }),
      )
  by_count false empty wrong same =
      let some : 0 < prefix_len is_ascii_hexdigit others = grind (arith, nat_tests) in
      let odd : prefix_len is_ascii_hexdigit others % 2 ≡ 1 = grind (arith, nat_tests) in
      let size : length (take (prefix_len is_ascii_hexdigit others) others) ≡ prefix_len is_ascii_hexdigit others = length-prefix_len is_ascii_hexdigit others in
      same-fault at at (48 ∷ 120 ∷ others) BadNumber f same (
        refl,
        inr (record {
          digits = take (prefix_len is_ascii_hexdigit others) others;
          behind = drop (prefix_len is_ascii_hexdigit others) others;
          are = each-front is_ascii_hexdigit others;
          odd = ap (λ n. n % 2) size ∙ odd;
          whole = ap (λ xs. 48 ∷ 120 ∷ xs) (sym (take-append-drop (prefix_len is_ascii_hexdigit others) others));
          ends = run-ends is_ascii_hexdigit others;
        }),
      )

  by_test : (test : Bool) → (nat_lt 0 (prefix_len is_ascii_hexdigit others) && prefix_len is_ascii_hexdigit others % 2 == 0) ≡ test → FaultStands f.kind f.at at (48 ∷ 120 ∷ others)
  by_test true test = absurd (let ok : Ok (token Hex at (2 + prefix_len is_ascii_hexdigit others)) ≡ Err f = rw test at is in cc)
  by_test false test =
      let wrong : Err (fault BadNumber at) ≡ Err f = rw test at is in
      let same : fault BadNumber at ≡ f = cc in
      by_count (prefix_len is_ascii_hexdigit others == 0) refl test same

-- digits, and what stands behind them
module _ (at b : ℕ) (others : List ℕ) (f : SyntaxFault) (digits : List ℕ) (named : IsName is_ascii_digit is_ascii_digit digits) (plain-number : hex_first (b ∷ others) ≡ false) where
  point-fault : (count c : ℕ) (behind : List ℕ) → b ∷ others ≡ digits ++ c ∷ behind → (c == 46 && digit_first behind) ≡ true → fault Fraction at ≡ f → FaultStands f.kind f.at at (b ∷ others)
  point-fault count c [] whole point same = absurd (let wrong = and_right (c == 46) false point in cc)
  point-fault count c (d ∷ behind) whole point same =
      let dot : (c == 46) ≡ true = and_left (c == 46) (is_ascii_digit d) point in
      let e : c ≡ 46 = grind (arith, nat_tests) in
      same-fault at at (b ∷ others) Fraction f same (
        refl,
        record {
          digits = digits;
          digit = d;
          behind = behind;
          are = named;
          follows = and_right (c == 46) (is_ascii_digit d) point;
          whole = whole ∙ ap (λ x. digits ++ x ∷ d ∷ behind) e;
        },
      )

  digits-fault : (count : ℕ) (behind : List ℕ) → b ∷ others ≡ digits ++ behind → digits_before at count behind ≡ Err f → FaultStands f.kind f.at at (b ∷ others)
  digits-fault count [] whole is = absurd (cc)
  digits-fault count (c ∷ behind) whole is = by_word (in_word c) refl where
    by_point : (test : Bool) → in_word c ≡ false → (c == 46 && digit_first behind) ≡ test → FaultStands f.kind f.at at (b ∷ others)
    by_point true word test =
        let wrong : Err (fault Fraction at) ≡ Err f = rw (word, test) at is in
        let same : fault Fraction at ≡ f = cc in
        point-fault count c behind whole test same
    by_point false word test = absurd (let ok : Ok (token Digits at count) ≡ Err f = rw (word, test) at is in cc)

    by_word : (test : Bool) → in_word c ≡ test → FaultStands f.kind f.at at (b ∷ others)
    by_word true test =
        let wrong : Err (fault BadNumber at) ≡ Err f = rw test at is in
        let same : fault BadNumber at ≡ f = cc in
        same-fault at at (b ∷ others) BadNumber f same (
          refl,
          inl (record {
            digits = digits;
            byte = c;
            behind = behind;
            are = named;
            follows = test;
            whole = whole;
            none = λ front rest split literal. let hex = literal-first (b ∷ others) front rest split literal in absurd (cc);
          }),
        )
    by_word false test = by_point (c == 46 && digit_first behind) test refl

number-fault : (at b : ℕ) (others : List ℕ) (f : SyntaxFault) → is_ascii_digit b ≡ true → number_at at (b ∷ others) ≡ Err f → FaultStands f.kind f.at at (b ∷ others)
number-fault at b others f digit is = by_hex (hex_first (b ∷ others)) refl where
  by_hex : (test : Bool) → hex_first (b ∷ others) ≡ test → FaultStands f.kind f.at at (b ∷ others)
  by_hex true test =
      let begins = begins-hex (b ∷ others) test in
      let found : hex_at at (prefix_len is_ascii_hexdigit (drop 2 (b ∷ others))) ≡ Err f = rw test at is in
      let inner : hex_at at (prefix_len is_ascii_hexdigit begins.others) ≡ Err f = ap (λ xs. hex_at at (prefix_len is_ascii_hexdigit (drop 2 xs))) (sym begins.whole) ∙ found in
      let P : List ℕ → Type 0 = λ xs. FaultStands f.kind f.at at xs in
      subst P (sym begins.whole) (hex-fault at begins.others f inner)
  by_hex false test =
      let n : ℕ = prefix_len is_ascii_digit (b ∷ others) in
      let found : digits_before at n (drop n (b ∷ others)) ≡ Err f = rw test at is in
      let named : IsName is_ascii_digit is_ascii_digit (take n (b ∷ others)) =
      let P : List ℕ → Type 0 = λ xs. IsName is_ascii_digit is_ascii_digit xs in
      subst P (sym (name-slice is_ascii_digit b others digit)) (digit, each-front is_ascii_digit others) in
      digits-fault at b others f (take n (b ∷ others)) named test n (drop n (b ∷ others)) (sym (take-append-drop n (b ∷ others))) found

-- a byte that begins no token
sign-fault : (at b : ℕ) (others : List ℕ) (f : SyntaxFault) → IsRest b → sign_at at b others ≡ Err f → FaultStands f.kind f.at at (b ∷ others)
sign-fault at b others f other is = by_pair (before_equals b && equals_first others) refl where
  is-no-sign : (before_equals b && equals_first others) ≡ false → is_sign b ≡ false → (front rest : List ℕ) → others ≡ front ++ rest → IsSign (b ∷ front) → ⊥
  is-no-sign pair single [] rest tail sign = let both : true ≡ false = sym sign ∙ single in cc
  is-no-sign pair single (c ∷ []) rest tail sign =
      let first : equals_first others ≡ true = rw (tail, sign.1) refl in
      let both : (before_equals b && equals_first others) ≡ true = rw (sign.0, first) refl in
      cc
  is-no-sign pair single (c ∷ d ∷ more) rest tail sign = sign

  no-token : (before_equals b && equals_first others) ≡ false → is_sign b ≡ false → HasNoToken (b ∷ others)
  no-token pair single kind [] rest whole it = token-some kind it
  no-token pair single kind (c ∷ front) rest whole it =
      let tail : others ≡ front ++ rest = cc in
      is-no-sign pair single front rest tail (other-only kind b front other.lower other.upper other.digit other.quote (front-first b c others front rest kind whole it))

  by_sign : (test : Bool) → (before_equals b && equals_first others) ≡ false → is_sign b ≡ test → FaultStands f.kind f.at at (b ∷ others)
  by_sign true pair test = absurd (let ok : Ok (token Sign at 1) ≡ Err f = rw (pair, test) at is in cc)
  by_sign false pair test =
      let wrong : Err (fault BadChar at) ≡ Err f = rw (pair, test) at is in
      let same : fault BadChar at ≡ f = cc in
      same-fault at at (b ∷ others) BadChar f same (
        refl,
        no-token pair test,
        λ quote.
            let e : b ≡ 34 = (let w = quote.1 in cc) in
            let q = other.quote in
            absurd (grind (arith, nat_tests)),
      )

  by_pair : (test : Bool) → (before_equals b && equals_first others) ≡ test → FaultStands f.kind f.at at (b ∷ others)
  by_pair true test = absurd (let ok : Ok (token Sign at 2) ≡ Err f = rw test at is in cc)
  by_pair false test = by_sign (is_sign b) test refl

-- the rows of the table, by the first byte
module _ (at b : ℕ) (others : List ℕ) (f : SyntaxFault) where
  at-quote : (test : Bool) → is_ascii_lowercase b ≡ false → is_ascii_uppercase b ≡ false → is_ascii_digit b ≡ false → (b == 34) ≡ test
      → cond test (quoted_at at (closing false others) others) (sign_at at b others) ≡ Err f → FaultStands f.kind f.at at (b ∷ others)
  at-quote true l u d q is =
      let same : b ≡ 34 = grind (arith, nat_tests) in
      let P : ℕ → Type 0 = λ c. FaultStands f.kind f.at at (c ∷ others) in
      subst P (sym same) (quoted-fault at others f is)
  at-quote false l u d q is = sign-fault at b others f (record { lower = l; upper = u; digit = d; quote = q }) is

  at-digit : (test : Bool) → is_ascii_lowercase b ≡ false → is_ascii_uppercase b ≡ false → is_ascii_digit b ≡ test
      → cond test (number_at at (b ∷ others)) (cond (b == 34) (quoted_at at (closing false others) others) (sign_at at b others)) ≡ Err f → FaultStands f.kind f.at at (b ∷ others)
  at-digit true l u d is = number-fault at b others f d is
  at-digit false l u d is = at-quote (b == 34) l u d refl is

  at-upper : (test : Bool) → is_ascii_lowercase b ≡ false → is_ascii_uppercase b ≡ test
      → cond test (Ok (token Upper at (prefix_len in_upper (b ∷ others))))
      (cond (is_ascii_digit b) (number_at at (b ∷ others)) (cond (b == 34) (quoted_at at (closing false others) others) (sign_at at b others))) ≡ Err f
      → FaultStands f.kind f.at at (b ∷ others)
  at-upper true l u is = absurd (cc)
  at-upper false l u is = at-digit (is_ascii_digit b) l u refl is

  at-lower : (test : Bool) → is_ascii_lowercase b ≡ test
      → cond test (Ok (lower_at at (b ∷ others)))
      (cond (is_ascii_uppercase b) (Ok (token Upper at (prefix_len in_upper (b ∷ others))))
      (cond (is_ascii_digit b) (number_at at (b ∷ others)) (cond (b == 34) (quoted_at at (closing false others) others) (sign_at at b others)))) ≡ Err f
      → FaultStands f.kind f.at at (b ∷ others)
  at-lower true l is = absurd (cc)
  at-lower false l is = at-upper (is_ascii_uppercase b) l refl is

pub fault-stands : (at b : ℕ) (others : List ℕ) (f : SyntaxFault) → token_at at (b ∷ others) ≡ Err f → FaultStands f.kind f.at at (b ∷ others)
fault-stands at b others f is = at-lower at b others f (is_ascii_lowercase b) refl is
