-- A quoted text is read where the table has one, and only there.
use Rattle.std.proofs.Common.{◌≡◌, ◌≢◌, ◌∙◌, ℕ, zero, suc, ◌+◌, ◌-◌, List, [], ◌∷◌, ◌++◌, length, take, drop, Bool, true, false, refl, sym, ap, subst, arith, append_assoc, length-append, length-drop, length-take}
use Rattle.std.specs.Prelude.{Option, Some, None, Result, Ok, Err, ◌==◌}
use Rattle.std.specs.Str.{IsUtf8, is_utf8}
use Rattle.std.proofs.lemmas.Bool.Decides.{nat_tests}
use Rattle.std.proofs.lemmas.List.{length-take-le, take-append-drop}
use Rattle.std.proofs.lemmas.Str.{is_utf8-from_IsUtf8, IsUtf8-from_is_utf8}
use Rattle.std.proofs.Math.Seq.{take-append_seam, drop-append_seam}
use Rattle.ottl_lex.specs.declared.fault.SyntaxFault.{SyntaxFault}
use Rattle.ottl_lex.specs.declared.fault.SyntaxKind.TheVariants.{NotUtf8}
use Rattle.ottl_lex.specs.declared.token.Token.{Token}
use Rattle.ottl_lex.specs.declared.token.TokenKind.TheVariants.{Quoted}
use Rattle.ottl_lex.specs.Quoted.{fault, ◌>>=◌, with_front, one_more, closing, escape_at, escaped, unescaped, as_utf8, text_of, contents, between_quotes}
use Rattle.ottl_lex.specs.Tokens.{token, quoted_at}
use Rattle.ottl_lex.specs.Table.{Piece, plain, letter, hex, octal, short, long, spelling, meaning, IsPiece, spelled, meant, ArePieces, IsText, ContentsAreMeant}
use Rattle.ottl_lex.proofs.Pieces.{unescaped-passed}
use Rattle.ottl_lex.proofs.Closes.{plus, closing-piece, closing-text, closing-splits}
use Rattle.ottl_lex.proofs.EscapeLemmas.{EscapeIs, escape-is, escape-of}

-- an escape's spelling begins with a backslash
record IsEscape (p : Piece) : Type 0 where
  tail : List ℕ
  spells : spelling p ≡ 92 ∷ tail

-- what a piece that is an escape gives, before what is behind it
unescaped-escape : (at : ℕ) (p : Piece) (rest : List ℕ) (e : IsEscape p) → IsPiece p
    → unescaped 0 at (spelling p ++ rest) ≡ with_front (meaning p) (unescaped 0 (at + length (spelling p)) rest)
unescaped-escape at p rest e is =
    let first : spelling p ++ rest ≡ 92 ∷ e.tail ++ rest = rw e.spells refl in
    let behind : drop (length e.tail) (e.tail ++ rest) ≡ rest = drop-append_seam e.tail rest in
    let size : at + 1 + length e.tail ≡ at + length (spelling p) = rw e.spells (omega arith) in
    rw (first, escape-of p e.tail rest is e.spells) (ap (with_front (meaning p)) (unescaped-passed (length e.tail) (at + 1) (e.tail ++ rest) ∙ rw (behind, size) refl))

unescaped-piece : (at : ℕ) (p : Piece) (rest : List ℕ) → IsPiece p
    → unescaped 0 at (spelling p ++ rest) ≡ with_front (meaning p) (unescaped 0 (at + length (spelling p)) rest)
unescaped-piece at (plain b) rest is = let s : (b == 92) ≡ false = grind (arith, nat_tests) in rw s refl
unescaped-piece at (letter c b) rest is = unescaped-escape at (letter c b) rest (record { tail = c ∷ []; spells = refl }) is
unescaped-piece at (hex ds) rest is = unescaped-escape at (hex ds) rest (record { tail = 120 ∷ ds; spells = refl }) is
unescaped-piece at (octal ds) rest is = unescaped-escape at (octal ds) rest (record { tail = ds; spells = refl }) is
unescaped-piece at (short ds) rest is = unescaped-escape at (short ds) rest (record { tail = 117 ∷ ds; spells = refl }) is
unescaped-piece at (long ds) rest is = unescaped-escape at (long ds) rest (record { tail = 85 ∷ ds; spells = refl }) is

-- pieces stand for their bytes
pub unescaped-pieces : (at : ℕ) (ps : List Piece) → ArePieces ps → unescaped 0 at (spelled ps) ≡ Ok (meant ps)
unescaped-pieces at [] are = refl
unescaped-pieces at (p ∷ ps) are =
    unescaped-piece at p (spelled ps) are.0 ∙ ap (with_front (meaning p)) (unescaped-pieces (at + length (spelling p)) ps are.1)

-- the pieces of what was read
pub record WasRead (inside bytes : List ℕ) : Type 0 where
  pub pieces : List Piece
  pub are : ArePieces pieces
  pub whole : spelled pieces ≡ inside
  pub means : meant pieces ≡ bytes

record HadFront (front : List ℕ) (read : Result (List ℕ) SyntaxFault) (bytes : List ℕ) : Type 0 where
  more : List ℕ
  read-is : read ≡ Ok more
  whole : front ++ more ≡ bytes

had-front : (front : List ℕ) (read : Result (List ℕ) SyntaxFault) (bytes : List ℕ) → with_front front read ≡ Ok bytes → HadFront front read bytes
had-front front (Ok more) bytes is = record { more = more; read-is = refl; whole = cc }
had-front front (Err e) bytes is = absurd (cc)

pub record WasPlus (n : ℕ) (found : Option ℕ) (k : ℕ) : Type 0 where
  pub m : ℕ
  pub found-is : found ≡ Some m
  pub sum : n + m ≡ k

pub was-plus : (n : ℕ) (found : Option ℕ) (k : ℕ) → plus n found ≡ Some k → WasPlus n found k
was-plus n None k is = absurd (cc)
was-plus n (Some m) k is = record { m = m; found-is = refl; sum = cc }

was-more : (found : Option ℕ) (m : ℕ) → one_more found ≡ Some (suc m) → found ≡ Some m
was-more None m is = absurd (cc)
was-more (Some k) m is = let e : suc k ≡ suc m = cc in ap Some (omega (arith, e))

-- a plain byte of a text that closes further on
pub record ClosesFurther (b : ℕ) (rest : List ℕ) (m : ℕ) : Type 0 where
  pub newline : b ≢ 10
  pub quote : b ≢ 34
  pub further : closing false rest ≡ Some m

pub closes-further : (b : ℕ) (rest : List ℕ) (m : ℕ) → (b == 92) ≡ false → closing false (b ∷ rest) ≡ Some (suc m) → ClosesFurther b rest m
closes-further b rest m slash is = by_newline (b == 10) refl where
  by_quote : (q : Bool) → (b == 10) ≡ false → (b == 34) ≡ q → ClosesFurther b rest m
  by_quote true n q = absurd (let found : Some 0 ≡ Some (suc m) = rw (n, q) at is in cc)
  by_quote false n q =
      let found : one_more (closing false rest) ≡ Some (suc m) = rw (n, q, slash) at is in
      record { newline = λ e. grind (arith, nat_tests); quote = λ e. grind (arith, nat_tests); further = was-more (closing false rest) m found }

  by_newline : (n : Bool) → (b == 10) ≡ n → ClosesFurther b rest m
  by_newline true n = absurd (let found : None ≡ Some (suc m) = rw n at is in cc)
  by_newline false n = by_quote (b == 34) n refl

-- an escape of a text that closes further on
pub record EscapePassed (b : ℕ) (rest behind bytes : List ℕ) (size : ℕ) : Type 0 where
  pub piece : Piece
  pub is : IsPiece piece
  pub sized : length (spelling piece) ≡ suc size
  pub whole : spelling piece ++ drop size rest ≡ b ∷ rest
  pub means : meaning piece ≡ bytes
  pub closes : closing false (drop size rest ++ 34 ∷ behind) ≡ Some (length (drop size rest))

pub escape-passed : (b : ℕ) (rest behind : List ℕ) → closing false (b ∷ rest ++ 34 ∷ behind) ≡ Some (suc (length rest)) → b ≡ 92
    → (bytes : List ℕ) (size : ℕ) → EscapeIs rest bytes size → EscapePassed b rest behind bytes size
escape-passed b rest behind closes slash bytes size escape =
    let whole : spelling escape.piece ++ drop size rest ≡ b ∷ rest = rw (escape.spells, slash) (ap (λ xs. 92 ∷ xs) (take-append-drop size rest)) in
    let split : b ∷ rest ++ 34 ∷ behind ≡ spelling escape.piece ++ (drop size rest ++ 34 ∷ behind) =
    ap (λ xs. xs ++ 34 ∷ behind) (sym whole) ∙ append_assoc (spelling escape.piece) (drop size rest) (34 ∷ behind) in
    let counted : plus (length (spelling escape.piece)) (closing false (drop size rest ++ 34 ∷ behind)) ≡ Some (suc (length rest)) =
    sym (closing-piece escape.piece (drop size rest ++ 34 ∷ behind) escape.is) ∙ ap (closing false) (sym split) ∙ closes in
    let further = was-plus (length (spelling escape.piece)) (closing false (drop size rest ++ 34 ∷ behind)) (suc (length rest)) counted in
    let sized : length (spelling escape.piece) ≡ suc size = ap length escape.spells ∙ ap suc (length-take-le size rest escape.within) in
    let left : further.m ≡ length (drop size rest) = omega (arith, further.sum, sized, escape.within, length-drop size rest) in
    record { piece = escape.piece; is = escape.is; sized = sized; whole = whole; means = escape.means; closes = further.found-is ∙ ap Some left }

abbrev pub Reads : List ℕ → Type 0
Reads text = (n at : ℕ) (behind bytes : List ℕ) → unescaped n at text ≡ Ok bytes
    → closing false (drop n text ++ 34 ∷ behind) ≡ Some (length (drop n text)) → WasRead (drop n text) bytes

module _ (b : ℕ) (rest : List ℕ) (at : ℕ) (behind bytes : List ℕ) (closes : closing false (b ∷ rest ++ 34 ∷ behind) ≡ Some (suc (length rest))) (reads : Reads rest) where
  reads-plain : (b == 92) ≡ false → with_front (b ∷ []) (unescaped 0 (at + 1) rest) ≡ Ok bytes → WasRead (b ∷ rest) bytes
  reads-plain slash is =
      let front = had-front (b ∷ []) (unescaped 0 (at + 1) rest) bytes is in
      let further = closes-further b (rest ++ 34 ∷ behind) (length rest) slash closes in
      let more = reads 0 (at + 1) behind front.more front.read-is further.further in
      record {
        pieces = plain b ∷ more.pieces;
        are = ((further.newline, further.quote, λ e. grind (arith, nat_tests)), more.are);
        whole = ap (λ xs. b ∷ xs) more.whole;
        means = ap (λ xs. b ∷ xs) more.means ∙ front.whole;
      }

  reads-passed : (e : List ℕ × ℕ) (more : List ℕ) → unescaped e.1 (at + 1) rest ≡ Ok more → e.0 ++ more ≡ bytes → EscapePassed b rest behind e.0 e.1 → WasRead (b ∷ rest) bytes
  reads-passed e more read front passed = behind-piece (reads e.1 (at + 1) behind more read passed.closes) where
    behind-piece : WasRead (drop e.1 rest) more → WasRead (b ∷ rest) bytes
    behind-piece others = record {
      pieces = passed.piece ∷ others.pieces;
      are = (passed.is, others.are);
      whole = ap (λ xs. spelling passed.piece ++ xs) others.whole ∙ passed.whole;
      means = ap (λ xs. meaning passed.piece ++ xs) others.means ∙ ap (λ xs. xs ++ more) passed.means ∙ front;
    }

  reads-escape : b ≡ 92 → (found : Option (List ℕ × ℕ)) → escape_at rest ≡ found → escaped at found (λ n. unescaped n (at + 1) rest) ≡ Ok bytes → WasRead (b ∷ rest) bytes
  reads-escape slash None found is = absurd (cc)
  reads-escape slash (Some e) found is =
      let front = had-front e.0 (unescaped e.1 (at + 1) rest) bytes is in
      reads-passed e front.more front.read-is front.whole (escape-passed b rest behind closes slash e.0 e.1 (escape-is rest e.0 e.1 found))

reads-by : (b : ℕ) (rest : List ℕ) (at : ℕ) (behind bytes : List ℕ) (test : Bool) → (b == 92) ≡ test → unescaped 0 at (b ∷ rest) ≡ Ok bytes
    → closing false (b ∷ rest ++ 34 ∷ behind) ≡ Some (suc (length rest)) → Reads rest → WasRead (b ∷ rest) bytes
reads-by b rest at behind bytes true test is closes reads = reads-escape b rest at behind bytes closes reads (grind (arith, nat_tests)) (escape_at rest) refl (rw test at is)
reads-by b rest at behind bytes false test is closes reads = reads-plain b rest at behind bytes closes reads test (rw test at is)

pub read-pieces : (text : List ℕ) → Reads text
read-pieces [] zero at behind bytes is closes = record { pieces = []; are = tt; whole = refl; means = cc }
read-pieces [] (suc n) at behind bytes is closes = record { pieces = []; are = tt; whole = refl; means = cc }
read-pieces (b ∷ rest) (suc n) at behind bytes is closes = read-pieces rest n (at + 1) behind bytes is closes
read-pieces (b ∷ rest) zero at behind bytes is closes = reads-by b rest at behind bytes (b == 92) refl is closes (read-pieces rest)

-- the table's text is read
pub text-read : (at : ℕ) (front others rest : List ℕ) → IsText front → 34 ∷ others ≡ front ++ rest
    → quoted_at at (closing false others) others ≡ Ok (token Quoted at (length front))
text-read at front others rest is whole =
    let ps = is.pieces in
    let split : 34 ∷ others ≡ 34 ∷ (spelled ps ++ 34 ∷ []) ++ rest = whole ∙ ap (λ xs. xs ++ rest) is.whole in
    let inner : others ≡ (spelled ps ++ 34 ∷ []) ++ rest = cc in
    let behind : others ≡ spelled ps ++ 34 ∷ rest = inner ∙ append_assoc (spelled ps) (34 ∷ []) rest in
    let inside : take (length (spelled ps)) (spelled ps ++ 34 ∷ rest) ≡ spelled ps = take-append_seam (spelled ps) (34 ∷ rest) in
    let size : at + (2 + length (spelled ps)) ≡ at + length front = omega (arith, ap length is.whole, length-append (spelled ps) (34 ∷ [])) in
    rw (behind, closing-text ps rest is.are, inside, unescaped-pieces (at + 1) ps is.are, is_utf8-from_IsUtf8 (meant ps) is.utf8, size) refl

-- what is read is the table's text
pub record WasText (at : ℕ) (others : List ℕ) (t : Token) : Type 0 where
  pub slice : List ℕ
  pub behind : List ℕ
  pub whole : 34 ∷ others ≡ slice ++ behind
  pub is : IsText slice
  pub token-is : token Quoted at (length slice) ≡ t

utf8-is : (at : ℕ) (bytes whole : List ℕ) → as_utf8 at bytes ≡ Ok whole → IsUtf8 bytes
utf8-is at bytes whole is = by_test (is_utf8 bytes) refl where
  by_test : (test : Bool) → is_utf8 bytes ≡ test → IsUtf8 bytes
  by_test true test = IsUtf8-from_is_utf8 bytes test
  by_test false test = absurd (let wrong : Err (fault NotUtf8 at) ≡ Ok whole = rw test at is in cc)

-- what stands before a closing quote closes there
pub closes-inside : (others : List ℕ) (n : ℕ) → closing false others ≡ Some n → others ≡ take n others ++ 34 ∷ drop (suc n) others
    → closing false (take n others ++ 34 ∷ drop (suc n) others) ≡ Some (length (take n others))
closes-inside others n found split =
    let within : length (take n others) ≡ n = omega (arith, ap length split, length-append (take n others) (34 ∷ drop (suc n) others), length-take n others) in
    ap (closing false) (sym split) ∙ found ∙ ap Some (sym within)

-- a text that was read
text-of-pieces : (at : ℕ) (others inside behind bytes : List ℕ) (t : Token) → others ≡ inside ++ 34 ∷ behind → WasRead inside bytes → IsUtf8 bytes
    → token Quoted at (2 + length inside) ≡ t → WasText at others t
text-of-pieces at others inside behind bytes t split read utf8 same =
    let size : length (34 ∷ inside ++ 34 ∷ []) ≡ 2 + length inside = omega (arith, length-append inside (34 ∷ [])) in
    record {
      slice = 34 ∷ inside ++ 34 ∷ [];
      behind = behind;
      whole = ap (λ xs. 34 ∷ xs) (split ∙ sym (append_assoc inside (34 ∷ []) behind));
      is = record {
        pieces = read.pieces;
        are = read.are;
        whole = ap (λ xs. 34 ∷ xs ++ 34 ∷ []) (sym read.whole);
        utf8 = let P : List ℕ → Type 0 = λ xs. IsUtf8 xs in subst P (sym read.means) utf8;
      };
      token-is = ap (token Quoted at) size ∙ same;
    }

module _ (at : ℕ) (others : List ℕ) (t : Token) (n : ℕ) (found : closing false others ≡ Some n) where
  was-utf8 : (read : Result (List ℕ) SyntaxFault) → unescaped 0 (at + 1) (take n others) ≡ read
      → ((read >>= as_utf8 at) >>= λ _. Ok (token Quoted at (2 + n))) ≡ Ok t → WasText at others t
  was-utf8 (Err e) read is = absurd (cc)
  was-utf8 (Ok bytes) read is = by_utf8 (as_utf8 at bytes) refl is where
    by_utf8 : (utf8 : Result (List ℕ) SyntaxFault) → as_utf8 at bytes ≡ utf8 → (utf8 >>= λ _. Ok (token Quoted at (2 + n))) ≡ Ok t → WasText at others t
    by_utf8 (Err e) utf8 is = absurd (cc)
    by_utf8 (Ok whole) utf8 is =
        let split = closing-splits false others n found in
        let closes = closes-inside others n found split in
        let within : length (take n others) ≡ n = omega (arith, ap length split, length-append (take n others) (34 ∷ drop (suc n) others), length-take n others) in
        let same : token Quoted at (2 + n) ≡ t = cc in
        text-of-pieces at others (take n others) (drop (suc n) others) bytes t split
        (read-pieces (take n others) 0 (at + 1) (drop (suc n) others) bytes read closes) (utf8-is at bytes whole utf8)
        (ap (λ m. token Quoted at (2 + m)) within ∙ same)

was-text-by : (at : ℕ) (others : List ℕ) (t : Token) (found : Option ℕ) → closing false others ≡ found → quoted_at at found others ≡ Ok t → WasText at others t
was-text-by at others t None found is = absurd (cc)
was-text-by at others t (Some n) found is = was-utf8 at others t n found (unescaped 0 (at + 1) (take n others)) refl is

pub was-text : (at : ℕ) (others : List ℕ) (t : Token) → quoted_at at (closing false others) others ≡ Ok t → WasText at others t
was-text at others t is = was-text-by at others t (closing false others) refl is

-- contents of a text of the table
pub contents_are_meant : ContentsAreMeant
unfolding text_of
contents_are_meant at slice text =
    let inner : List ℕ = spelled text.pieces ++ 34 ∷ [] in
    let size : length (34 ∷ inner) - 2 ≡ length (spelled text.pieces) = omega (arith, length-append (spelled text.pieces) (34 ∷ [])) in
    let between : between_quotes (34 ∷ inner) ≡ spelled text.pieces = ap (λ n. take n inner) size ∙ take-append_seam (spelled text.pieces) (34 ∷ []) in
    ap (λ xs. contents at (between_quotes xs)) text.whole ∙ ap (contents at) between
    ∙ rw (unescaped-pieces (at + 1) text.pieces text.are, is_utf8-from_IsUtf8 (meant text.pieces) text.utf8) refl
