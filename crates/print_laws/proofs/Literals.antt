-- Printed literals are read again.
use Rattle.std.proofs.Common.{◌≡◌, ◌∙◌, ℕ, ◌+◌, ◌*◌, ◌/◌, ◌%◌, ◌<◌, Bool, true, false, List, [], ◌∷◌, ◌++◌, length, Ok, refl, sym, ap, subst, arith, append-nil}
use Rattle.std.specs.Prelude.{◌==◌, nat_lt}
use Rattle.std.specs.Char.{digit_char, digit_value, is_ascii_digit, is_ascii_hexdigit}
use Rattle.std.specs.Fmt.{decimal}
use Rattle.std.specs.List.{All}
use Rattle.std.specs.Str.{IsUtf8}
use Rattle.std.specs.Str.Parse as parse
use Rattle.std.proofs.lemmas.Bool.Decides.{nat_tests}
use Rattle.std.proofs.lemmas.Fmt.{decimal_is_IsNumeral}
use Rattle.std.proofs.lemmas.List.Elements.{All-head, All-tail}
use Rattle.std.proofs.lemmas.Str.{digit_value-digit_char}
use Rattle.std.proofs.lemmas.Str.Parse.{digit_from_value}
use Rattle.ottl_lex.specs.Numbers.{value_after, hex_value, byte_pairs}
use Rattle.ottl_lex.specs.Table.{Each, IsName, IsText, Piece, plain, letter, hex, spelling, meaning, spelled, meant, IsPiece, ArePieces}
use Rattle.ottl_lex.specs.Tokens.{tokens_of}
use Rattle.ottl_lex.proofs.Texts.{contents_are_meant}
use Rattle.ottl_parse.specs.Printing.{is_plain, byte_text, contents_text, quoted_text, hex_digits}
use Rattle.print_laws.specs.Literals.{TextsStay, NumbersStay, BytesStay, bytes_text}
use Rattle.print_laws.proofs.Lexed.{digits-lexed, hex-lexed, quoted-lexed}

-- Texts.

-- one byte as it is printed
record Printed (b : ℕ) : Type 0 where
  piece : Piece
  is : IsPiece piece
  spells : spelling piece ≡ byte_text b
  means : meaning piece ≡ b ∷ []

less : (a b : ℕ) → a < b → nat_lt a b ≡ true
less a b h = grind (arith, nat_tests)

no-quote : (b : ℕ) → is_plain b ≡ true → (b == 34) ≡ false
no-quote b h = grind (arith, nat_tests)

low : (b : ℕ) → is_plain b ≡ false → (b == 34) ≡ false → (b == 92) ≡ false → b < 32
low b h q s = grind (arith, nat_tests)

same : (a b : ℕ) → (a == b) ≡ true → a ≡ b
same a b is = grind (arith, nat_tests)

plain-piece : (b : ℕ) → is_plain b ≡ true → IsPiece (plain b)
plain-piece b h = (
  λ e. absurd (let k : is_plain 10 ≡ true = subst (λ (n : ℕ). is_plain n ≡ true) e h in cc),
  λ e. absurd (let k : is_plain 34 ≡ true = subst (λ (n : ℕ). is_plain n ≡ true) e h in cc),
  λ e. absurd (let k : is_plain 92 ≡ true = subst (λ (n : ℕ). is_plain n ≡ true) e h in cc),
)

hex-less : (d : ℕ) → d < 16 → nat_lt (digit_value (digit_char d)) 16 ≡ true
hex-less d h = let v : digit_value (digit_char d) ≡ d = digit_value-digit_char d (omega arith) in rw v (less d 16 h)

printed-byte : (b : ℕ) → Printed b
printed-byte b = at-plain (is_plain b) refl where
  escaped : (q s n r t : Bool) → is_plain b ≡ false → (b == 34) ≡ q → (b == 92) ≡ s → (b == 10) ≡ n → (b == 13) ≡ r → (b == 9) ≡ t → Printed b
  escaped true s n r t p eq es en er et = let e = same b 34 eq in rw e (record { piece = letter 34 34; is = refl; spells = refl; means = refl })
  escaped false true n r t p eq es en er et = let e = same b 92 es in rw e (record { piece = letter 92 92; is = refl; spells = refl; means = refl })
  escaped false false true r t p eq es en er et = let e = same b 10 en in rw e (record { piece = letter 110 10; is = refl; spells = refl; means = refl })
  escaped false false false true t p eq es en er et = let e = same b 13 er in rw e (record { piece = letter 114 13; is = refl; spells = refl; means = refl })
  escaped false false false false true p eq es en er et = let e = same b 9 et in rw e (record { piece = letter 116 9; is = refl; spells = refl; means = refl })
  escaped false false false false false p eq es en er et =
      let below = low b p eq es in
      let high : digit_value (digit_char (b / 16)) ≡ b / 16 = digit_value-digit_char (b / 16) (omega arith) in
      let rest : digit_value (digit_char (b % 16)) ≡ b % 16 = digit_value-digit_char (b % 16) (omega arith) in
      let value : 16 * (16 * 0 + digit_value (digit_char (b / 16))) + digit_value (digit_char (b % 16)) ≡ b = omega (arith, high, rest) in
      record {
        piece = hex (digit_char (b / 16) ∷ digit_char (b % 16) ∷ []);
        is = (refl, (hex-less (b / 16) (omega arith), (hex-less (b % 16) (omega arith), tt)));
        spells = rw (p, eq, es, en, er, et) refl;
        means = ap (λ (n : ℕ). n ∷ []) value;
      }

  at-plain : (p : Bool) → is_plain b ≡ p → Printed b
  at-plain true p = record { piece = plain b; is = plain-piece b p; spells = rw p refl; means = refl }
  at-plain false p = escaped (b == 34) (b == 92) (b == 10) (b == 13) (b == 9) p refl refl refl refl refl

-- the pieces of a printed text
abbrev pieces : List ℕ → List Piece
pieces [] = []
pieces (b ∷ bs) = (printed-byte b).piece ∷ pieces bs

pieces-are : (bs : List ℕ) → ArePieces (pieces bs)
pieces-are [] = tt
pieces-are (b ∷ bs) = ((printed-byte b).is, pieces-are bs)

pieces-spelled : (bs : List ℕ) → spelled (pieces bs) ≡ contents_text bs
pieces-spelled [] = refl
pieces-spelled (b ∷ bs) = ap (λ (t : List ℕ). t ++ spelled (pieces bs)) (printed-byte b).spells ∙ ap (λ (t : List ℕ). byte_text b ++ t) (pieces-spelled bs)

pieces-meant : (bs : List ℕ) → meant (pieces bs) ≡ bs
pieces-meant [] = refl
pieces-meant (b ∷ bs) = ap (λ (t : List ℕ). t ++ meant (pieces bs)) (printed-byte b).means ∙ ap (λ (t : List ℕ). b ∷ t) (pieces-meant bs)

is-text : (text : List ℕ) → IsUtf8 text → IsText (quoted_text text)
is-text text utf8 = record {
  pieces = pieces text;
  are = pieces-are text;
  whole = ap (λ (t : List ℕ). 34 ∷ t ++ 34 ∷ []) (sym (pieces-spelled text));
  utf8 = subst IsUtf8 (sym (pieces-meant text)) utf8;
}

pub texts_stay : TextsStay
unfolding tokens_of is-text
texts_stay text utf8 =
    let is : IsText (quoted_text text) = is-text text utf8 in (
      ap tokens_of (sym (append-nil (quoted_text text))) ∙ quoted-lexed 0 (quoted_text text) [] [] is refl,
      λ at. contents_are_meant at (quoted_text text) is ∙ ap Ok (pieces-meant text),
    )

-- Numbers.

digit-is : (b : ℕ) → digit_value b < 10 → is_ascii_digit b ≡ true
digit-is b h = let k = digit_from_value b h in grind (arith, nat_tests)

digits-each : (ds : List ℕ) → parse.AllDigits 10 ds → Each is_ascii_digit ds
digits-each [] all = tt
digits-each (b ∷ ds) all = (digit-is b all.0, digits-each ds all.1)

digits-name : (ds : List ℕ) → 0 < length ds → parse.AllDigits 10 ds → IsName is_ascii_digit is_ascii_digit ds
digits-name [] some all = absurd (omega (arith, some))
digits-name (b ∷ ds) some all = (digit-is b all.0, digits-each ds all.1)

value-is : (before : ℕ) (ds : List ℕ) → value_after 10 before ds ≡ parse.digits_value_after 10 before ds
value-is before [] = refl
value-is before (b ∷ ds) =
    let sum : 10 * before + digit_value b ≡ before * 10 + digit_value b = omega arith in
    ap (λ (n : ℕ). value_after 10 n ds) sum ∙ value-is (before * 10 + digit_value b) ds

pub numbers_stay : NumbersStay
unfolding tokens_of
numbers_stay n small =
    let k = decimal_is_IsNumeral n small in (
      ap tokens_of (sym (append-nil (decimal n))) ∙ digits-lexed 0 (decimal n) [] [] (digits-name (decimal n) k.0.0 k.0.1) tt refl,
      value-is 0 (decimal n) ∙ k.1,
    )

-- Bytes.

char-is : (d : ℕ) → d < 16 → is_ascii_hexdigit (digit_char d) ≡ true
char-is d h = grind (arith, nat_tests)

char-value : (d : ℕ) → d < 16 → hex_value (digit_char d) ≡ d
char-value d h = let v : digit_value (digit_char d) ≡ d = digit_value-digit_char d (omega arith) in rw (v, less d 16 h) refl

hex-each : (bs : List ℕ) → All (λ b. b < 256) bs → Each is_ascii_hexdigit (hex_digits bs)
hex-each [] all = tt
hex-each (b ∷ bs) all =
    let small : b < 256 = All-head (λ (n : ℕ). n < 256) b bs all in
    (char-is (b / 16) (omega arith), (char-is (b % 16) (omega arith), hex-each bs (All-tail (λ (n : ℕ). n < 256) b bs all)))

hex-length : (bs : List ℕ) → length (hex_digits bs) ≡ 2 * length bs
hex-length [] = refl
hex-length (b ∷ bs) = omega (arith, hex-length bs)

pairs-back : (bs : List ℕ) → All (λ b. b < 256) bs → byte_pairs (hex_digits bs) ≡ bs
pairs-back [] all = refl
pairs-back (b ∷ bs) all =
    let small : b < 256 = All-head (λ (n : ℕ). n < 256) b bs all in
    let high : hex_value (digit_char (b / 16)) ≡ b / 16 = char-value (b / 16) (omega arith) in
    let rest : hex_value (digit_char (b % 16)) ≡ b % 16 = char-value (b % 16) (omega arith) in
    let value : 16 * hex_value (digit_char (b / 16)) + hex_value (digit_char (b % 16)) ≡ b = omega (arith, high, rest) in
    ap (λ (n : ℕ). n ∷ byte_pairs (hex_digits bs)) value ∙ ap (λ (t : List ℕ). b ∷ t) (pairs-back bs (All-tail (λ (n : ℕ). n < 256) b bs all))

pub bytes_stay : BytesStay
unfolding tokens_of
bytes_stay bytes all some =
    let size = hex-length bytes in (
      ap tokens_of (sym (append-nil (bytes_text bytes)))
          ∙ hex-lexed 0 (hex_digits bytes) [] [] (hex-each bytes all) (omega (arith, size)) (omega (arith, size)) tt refl,
      pairs-back bytes all,
    )
