-- Where a text closes, piece by piece.
use Rattle.std.proofs.Common.{◌≡◌, ◌≢◌, ◌∙◌, ℕ, suc, ◌+◌, ◌≤◌, List, [], ◌∷◌, ◌++◌, length, take, drop, Bool, true, false, refl, sym, ap, subst, arith, append_assoc, length-append}
use Rattle.std.specs.Prelude.{Option, Some, None, option_map, cond, ◌==◌, nat_lt}
use Rattle.std.specs.Char.{digit_value}
use Rattle.std.proofs.lemmas.Bool.Decides.{nat_tests}
use Rattle.ottl_lex.specs.Quoted.{one_more, closing, letter_escape}
use Rattle.ottl_lex.specs.Table.{Each, Piece, plain, letter, hex, octal, short, long, spelling, IsPiece, spelled, ArePieces}

-- so many bytes further
abbrev pub plus : ℕ → Option ℕ → Option ℕ
plus n found = option_map (λ k. n + k) found

pub plus-zero : (found : Option ℕ) → plus 0 found ≡ found
plus-zero None = refl
plus-zero (Some k) = ap Some (omega arith)

pub more-plus : (n : ℕ) (found : Option ℕ) → one_more (plus n found) ≡ plus (suc n) found
more-plus n None = refl
more-plus n (Some k) = ap Some (omega arith)

plus-plus : (m n : ℕ) (found : Option ℕ) → plus m (plus n found) ≡ plus (m + n) found
plus-plus m n None = refl
plus-plus m n (Some k) = ap Some (omega arith)

pub closing-plain : (b : ℕ) (rest : List ℕ) → b ≢ 10 → b ≢ 34 → b ≢ 92 → closing false (b ∷ rest) ≡ one_more (closing false rest)
closing-plain b rest newline quote slash =
    let n : (b == 10) ≡ false = grind (arith, nat_tests) in
    let q : (b == 34) ≡ false = grind (arith, nat_tests) in
    let s : (b == 92) ≡ false = grind (arith, nat_tests) in
    rw (n, q, s) refl

pub closing-slash : (c : ℕ) (rest : List ℕ) → c ≢ 10 → closing false (92 ∷ c ∷ rest) ≡ one_more (one_more (closing false rest))
closing-slash c rest newline =
    let n : (c == 10) ≡ false = grind (arith, nat_tests) in
    rw n refl

digit-not : (base d other : ℕ) → base ≤ 16 → digit_value other ≡ 36 → nat_lt (digit_value d) base ≡ true → d ≢ other
digit-not base d other small far is same =
    let e : digit_value d ≡ 36 = rw same far in
    absurd (grind (arith, nat_tests))

closing-digits : (base : ℕ) (ds rest : List ℕ) → base ≤ 16 → Each (λ b. nat_lt (digit_value b) base) ds
    → closing false (ds ++ rest) ≡ plus (length ds) (closing false rest)
closing-digits base [] rest small each = sym (plus-zero (closing false rest))
closing-digits base (d ∷ ds) rest small each =
    closing-plain d (ds ++ rest) (digit-not base d 10 small refl each.0) (digit-not base d 34 small refl each.0) (digit-not base d 92 small refl each.0)
    ∙ ap one_more (closing-digits base ds rest small each.1) ∙ more-plus (length ds) (closing false rest)

-- behind a backslash and a byte
closing-coded : (base c : ℕ) (ds rest : List ℕ) → base ≤ 16 → c ≢ 10 → Each (λ b. nat_lt (digit_value b) base) ds
    → closing false (92 ∷ c ∷ ds ++ rest) ≡ plus (suc (suc (length ds))) (closing false rest)
closing-coded base c ds rest small newline each =
    closing-slash c (ds ++ rest) newline ∙ ap (λ o. one_more (one_more o)) (closing-digits base ds rest small each)
    ∙ ap one_more (more-plus (length ds) (closing false rest)) ∙ more-plus (suc (length ds)) (closing false rest)

letter-not : (c b : ℕ) → letter_escape c ≡ Some b → c ≢ 10
letter-not c b is same =
    let P : ℕ → Type 0 = λ n. letter_escape n ≡ Some b in
    let none : None ≡ Some b = subst P same is in
    cc

pub closing-piece : (p : Piece) (rest : List ℕ) → IsPiece p → closing false (spelling p ++ rest) ≡ plus (length (spelling p)) (closing false rest)
closing-piece (plain b) rest is = closing-plain b rest is.0 is.1 is.2 ∙ ap one_more (sym (plus-zero (closing false rest))) ∙ more-plus 0 (closing false rest)
closing-piece (letter c b) rest is =
    closing-slash c rest (letter-not c b is) ∙ ap (λ o. one_more (one_more o)) (sym (plus-zero (closing false rest)))
    ∙ ap one_more (more-plus 0 (closing false rest)) ∙ more-plus 1 (closing false rest)
closing-piece (hex ds) rest is = closing-coded 16 120 ds rest (omega arith) (omega arith) is.1
closing-piece (octal []) rest is = absurd (omega (arith, is.0.0))
closing-piece (octal (d ∷ ds)) rest is = closing-coded 8 d ds rest (omega arith) (digit-not 8 d 10 (omega arith) refl is.0.1.0) is.0.1.1
closing-piece (short ds) rest is = closing-coded 16 117 ds rest (omega arith) (omega arith) is.0.1
closing-piece (long ds) rest is = closing-coded 16 85 ds rest (omega arith) (omega arith) is.0.1

pub closing-pieces : (ps : List Piece) (rest : List ℕ) → ArePieces ps → closing false (spelled ps ++ rest) ≡ plus (length (spelled ps)) (closing false rest)
closing-pieces [] rest are = sym (plus-zero (closing false rest))
closing-pieces (p ∷ ps) rest are =
    ap (closing false) (append_assoc (spelling p) (spelled ps) rest) ∙ closing-piece p (spelled ps ++ rest) are.0
    ∙ ap (plus (length (spelling p))) (closing-pieces ps rest are.1) ∙ plus-plus (length (spelling p)) (length (spelled ps)) (closing false rest)
    ∙ ap (λ n. plus n (closing false rest)) (sym (length-append (spelling p) (spelled ps)))

-- pieces before a quote
pub closing-text : (ps : List Piece) (rest : List ℕ) → ArePieces ps → closing false (spelled ps ++ 34 ∷ rest) ≡ Some (length (spelled ps))
closing-text ps rest are = closing-pieces ps (34 ∷ rest) are ∙ ap Some (omega arith)

-- what stands before a closing quote and behind it
abbrev pub Splits : Bool → List ℕ → Type 0
Splits taken text = (n : ℕ) → closing taken text ≡ Some n → text ≡ take n text ++ 34 ∷ drop (suc n) text

module _ (b : ℕ) (rest : List ℕ) (n : ℕ) where
  splits-one : (t : Bool) (found : Option ℕ) → closing t rest ≡ found → one_more found ≡ Some n → Splits t rest
      → b ∷ rest ≡ take n (b ∷ rest) ++ 34 ∷ drop (suc n) (b ∷ rest)
  splits-one t None found more splits = absurd (cc)
  splits-one t (Some m) found more splits = let e : suc m ≡ n = cc in rw (← e) (ap (λ xs. b ∷ xs) (splits m found))

  splits-quote : (q : Bool) → (b == 34) ≡ q → cond q (Some 0) (one_more (closing (b == 92) rest)) ≡ Some n → Splits (b == 92) rest
      → b ∷ rest ≡ take n (b ∷ rest) ++ 34 ∷ drop (suc n) (b ∷ rest)
  splits-quote true quote found splits = let e : 0 ≡ n = cc in let q : b ≡ 34 = grind (arith, nat_tests) in rw (← e, q) refl
  splits-quote false quote found splits = splits-one (b == 92) (closing (b == 92) rest) refl found splits

  splits-taken : (t : Bool) → cond t (one_more (closing false rest)) (cond (b == 34) (Some 0) (one_more (closing (b == 92) rest))) ≡ Some n
      → Splits false rest → Splits (b == 92) rest → b ∷ rest ≡ take n (b ∷ rest) ++ 34 ∷ drop (suc n) (b ∷ rest)
  splits-taken true found bare slash = splits-one false (closing false rest) refl found bare
  splits-taken false found bare slash = splits-quote (b == 34) refl found slash

  splits-newline : (newline t : Bool) → (b == 10) ≡ newline → closing t (b ∷ rest) ≡ Some n → Splits false rest → Splits (b == 92) rest
      → b ∷ rest ≡ take n (b ∷ rest) ++ 34 ∷ drop (suc n) (b ∷ rest)
  splits-newline true t e is bare slash = absurd (let none : closing t (b ∷ rest) ≡ None = rw e refl in cc)
  splits-newline false t e is bare slash = splits-taken t (rw e at is) bare slash

pub closing-splits : (taken : Bool) (text : List ℕ) → Splits taken text
closing-splits taken [] n is = absurd (cc)
closing-splits taken (b ∷ rest) n is =
    splits-newline b rest n (b == 10) taken refl is (closing-splits false rest) (closing-splits (b == 92) rest)
