-- Values that were written are read again: elements between commas.
use Rattle.std.proofs.Common.{◌≡◌, ◌∙◌, ℕ, zero, suc, ◌+◌, ◌<◌, true, false, List, [], ◌∷◌, ◌++◌, length, map, Result, Ok, refl, sym, ap, subst, arith, cond, append_assoc, length-append}
use Rattle.std.specs.Prelude.{◌==◌, codes}
use Rattle.std.specs.List.{prefix_len}
use Rattle.std.proofs.lemmas.Bool.Decides.{nat_tests}
use Rattle.contract_words.specs.Grammar.{first}
use Rattle.contract_words.proofs.Viable.{spelled_viable}
use Rattle.contract_words.proofs.Predictive.{nullable_of, first_of}
use Rattle.pdata_value.specs.Numeral.{numeral, IsNumeral}
use Rattle.json_text.specs.Place.{Rest, head, past, is_blank, blanks}
use Rattle.json_text.specs.Reading.{Reads, ◌>>=◌, with_front, number, quoted, comma_or, more, elements, sequence, make, literal, scalar}
use Rattle.json_text.specs.Writing.{quoted_text, listed_from}
use Rattle.json_text.specs.declared.json.JsonKind.{JsonKind}
use Rattle.json_text.specs.declared.json.JsonKind.TheVariants as kinds
use Rattle.json_text.specs.declared.error.JsonFault.{JsonFault}
use Rattle.json_text.proofs.Turns.{cond-true, cond-false, elements-goes, elements-end}
use Rattle.json_text.proofs.Fitting.{opening}
use Rattle.json_text.proofs.TextBack.{rest_at, placed_rest, these_read, quoted_read}
use Rattle.json_text.proofs.NumberBack.{closing, Ended, at_end, closed, Stopped, number_read}

-- a text that begins as a value or a member does
pub data Starts (word : List ℕ) : Type 0 where
  starts : (c : ℕ) (cs : List ℕ) → word ≡ c ∷ cs → opening c ≡ true → Starts word

pub no_blank : (at c : ℕ) (cs : List ℕ) → is_blank c ≡ false → blanks (rest_at at (c ∷ cs)) ≡ rest_at at (c ∷ cs)
no_blank at c cs is =
    let none : prefix_len is_blank (c ∷ cs) ≡ 0 = cond-false (is_blank c) _ _ is in
    ap (λ (n : ℕ). past n (rest_at at (c ∷ cs))) none ∙ placed_rest (at + 0) at (c ∷ cs) (omega arith)

pub ended_blanks : (at : ℕ) (rest : List ℕ) → Ended rest → blanks (rest_at at rest) ≡ rest_at at rest
ended_blanks at [] at_end = placed_rest (at + 0) at [] (omega arith)
ended_blanks at (b ∷ tail) (closed c more is) = no_blank at b tail (no_closing b is) where
  no_closing : (b : ℕ) → closing b ≡ true → is_blank b ≡ false
  no_closing b h = grind (arith, nat_tests)

opening_blank : (b : ℕ) → opening b ≡ true → is_blank b ≡ false
opening_blank b h = grind (arith, nat_tests)

pub starts_blanks : (at : ℕ) (word rest : List ℕ) → Starts word → blanks (rest_at at (word ++ rest)) ≡ rest_at at (word ++ rest)
starts_blanks at word rest (starts c cs is opens) =
    subst (λ (w : List ℕ). blanks (rest_at at (w ++ rest)) ≡ rest_at at (w ++ rest)) (sym is) (no_blank at c (cs ++ rest) (opening_blank c opens))

pub starts_head : (at : ℕ) (word rest : List ℕ) → Starts word → opening (head (rest_at at (word ++ rest))) ≡ true
starts_head at word rest (starts c cs is opens) = subst (λ (w : List ℕ). opening (head (rest_at at (w ++ rest))) ≡ true) (sym is) opens

-- a numeral begins as a value does
numeral_first : (b : ℕ) → first numeral b ≡ true → opening b ≡ true
numeral_first b h = grind (arith, nat_tests)

pub numeral_begins : (c : ℕ) (cs : List ℕ) → IsNumeral (c ∷ cs) → first numeral c ≡ true
numeral_begins c cs h = first_of numeral c cs (spelled_viable numeral (c ∷ cs) h)

pub numeral_starts : (s : List ℕ) → IsNumeral s → Starts s
numeral_starts [] h = absurd (let none : false ≡ true = nullable_of numeral h in cc)
numeral_starts (c ∷ cs) h = starts c cs refl (numeral_first c (numeral_begins c cs h))

-- Scalars.
no_words : (c : ℕ) → first numeral c ≡ true → ((c == 34) ≡ false) × ((c == 116) ≡ false) × ((c == 102) ≡ false) × ((c == 110) ≡ false)
no_words c h = (grind (arith, nat_tests), grind (arith, nat_tests), grind (arith, nat_tests), grind (arith, nat_tests))

is_number : (r : Rest) → ((head r == 34) ≡ false) × ((head r == 116) ≡ false) × ((head r == 102) ≡ false) × ((head r == 110) ≡ false) → scalar r ≡ make r kinds.Number (number r)
unfolding scalar
is_number r h = cond-false (head r == 34) _ _ h.0 ∙ cond-false (head r == 116) _ _ h.1 ∙ cond-false (head r == 102) _ _ h.2 ∙ cond-false (head r == 110) _ _ h.3

pub make_read : {X : Type 0} (r : Rest) (kind : X → JsonKind) (read : Reads X) (x : X) (after : Rest) → read ≡ Ok (x, after) → make r kind read ≡ Ok (record { at = r.at; kind = kind x }, after)
make_read r kind read x after is = rw is refl

pub number_back : (s rest : List ℕ) (at : ℕ) → IsNumeral s → Stopped rest → scalar (rest_at at (s ++ rest)) ≡ Ok (record { at = at; kind = kinds.Number s }, rest_at (at + length s) rest)
number_back [] rest at h stops = absurd (let none : false ≡ true = nullable_of numeral h in cc)
number_back (c ∷ cs) rest at h stops =
    is_number (rest_at at (c ∷ (cs ++ rest))) (no_words c (numeral_begins c cs h))
    ∙ make_read (rest_at at (c ∷ (cs ++ rest))) kinds.Number (number (rest_at at (c ∷ (cs ++ rest)))) (c ∷ cs) _ (number_read (c ∷ cs) rest at h stops)

pub text_back : (t rest : List ℕ) (at : ℕ) → scalar (rest_at at (quoted_text t ++ rest)) ≡ Ok (record { at = at; kind = kinds.Text t }, rest_at (at + length (quoted_text t)) rest)
unfolding scalar
text_back t rest at = make_read (rest_at at (quoted_text t ++ rest)) kinds.Text (quoted (rest_at at (quoted_text t ++ rest))) t _ (quoted_read t rest at)

word_back : (word rest : List ℕ) (at : ℕ) (kind : JsonKind) → make (rest_at at (word ++ rest)) (λ k. k) (literal kind word (rest_at at (word ++ rest))) ≡ Ok (record { at = at; kind = kind }, rest_at (at + length word) rest)
word_back word rest at kind = make_read (rest_at at (word ++ rest)) (λ k. k) (literal kind word (rest_at at (word ++ rest))) kind _ (ap (λ (m : Result Rest JsonFault). m >>= λ e. Ok (kind, e)) (these_read word rest at))

pub null_back : (rest : List ℕ) (at : ℕ) → scalar (rest_at at (codes "null" ++ rest)) ≡ Ok (record { at = at; kind = kinds.Null }, rest_at (at + length (codes "null")) rest)
unfolding scalar
null_back rest at = word_back (codes "null") rest at kinds.Null

pub true_back : (rest : List ℕ) (at : ℕ) → scalar (rest_at at (codes "true" ++ rest)) ≡ Ok (record { at = at; kind = kinds.Truth true }, rest_at (at + length (codes "true")) rest)
unfolding scalar
true_back rest at = word_back (codes "true") rest at (kinds.Truth true)

pub false_back : (rest : List ℕ) (at : ℕ) → scalar (rest_at at (codes "false" ++ rest)) ≡ Ok (record { at = at; kind = kinds.Truth false }, rest_at (at + length (codes "false")) rest)
unfolding scalar
false_back rest at = word_back (codes "false") rest at (kinds.Truth false)

-- Elements with commas between them.
module _ {E X : Type 0} (words : E → List ℕ) (put : ℕ → E → X) (one : Rest → Reads X) (close : ℕ) (closes : closing close ≡ true) (no_comma : (close == 44) ≡ false)
    (not_open : (b : ℕ) → opening b ≡ true → (b == close) ≡ false) where
  abbrev pub ReadsOne : E → Type 0
  ReadsOne e = (at : ℕ) (rest : List ℕ) → Ended rest → one (rest_at at (words e ++ rest)) ≡ Ok (put at e, rest_at (at + length (words e)) rest)

  abbrev pub AllRead : List E → Type 0
  AllRead [] = Unit {0}
  AllRead (e ∷ es) = ReadsOne e × Starts (words e) × AllRead es

  abbrev pub put_all : ℕ → List E → List X
  put_all at [] = []
  put_all at (e ∷ es) = put at e ∷ put_all (at + length (words e) + 1) es

  -- what stands behind an element
  abbrev tail : ℕ → List E → List ℕ → List ℕ
  tail k es rest = listed_from (suc k) (map words es) ++ close ∷ rest

  tail_ended : (k : ℕ) (es : List E) (rest : List ℕ) → Ended (tail k es rest)
  tail_ended k [] rest = closed close rest closes
  tail_ended k (e ∷ es) rest = closed 44 _ refl

  close_read : (at : ℕ) (rest : List ℕ) → comma_or close (blanks (rest_at at (close ∷ rest))) ≡ Ok (false, rest_at (at + 1) rest)
  close_read at rest =
      ap (comma_or close) (ended_blanks at (close ∷ rest) (closed close rest closes)) ∙ cond-false (close == 44) _ _ no_comma ∙ cond-true (close == close) _ _ (same close)
    where
      same : (b : ℕ) → (b == b) ≡ true
      same b = grind (arith, nat_tests)

  comma_read : (at : ℕ) (word rest : List ℕ) → Starts word → comma_or close (blanks (rest_at at (44 ∷ (word ++ rest)))) ≡ Ok (true, rest_at (at + 1) (word ++ rest))
  comma_read at word rest opens =
      ap (comma_or close) (no_blank at 44 (word ++ rest) refl) ∙ ap (λ (r : Rest). Ok (true, r)) (starts_blanks (at + 1) word rest opens)

  elements_read : (es : List E) (e : E) (k n at : ℕ) (rest : List ℕ) → ReadsOne e → AllRead es → length (words e ++ tail k es rest) < n
      → elements one close n (rest_at at (words e ++ tail k es rest)) ≡ Ok (put_all at (e ∷ es), rest_at (at + length (words e ++ listed_from (suc k) (map words es)) + 1) rest)
  elements_read es e k zero at rest read all enough = absurd (omega arith)
  elements_read [] e k (suc n) at rest read all enough =
      let here : Rest = rest_at at (words e ++ close ∷ rest) in
      let mid : Rest = rest_at (at + length (words e)) (close ∷ rest) in
      elements-end one close n here mid (rest_at (at + length (words e) + 1) rest) (put at e) (read at (close ∷ rest) (closed close rest closes)) (close_read (at + length (words e)) rest)
      ∙ ap (λ (r : Rest). Ok (put at e ∷ [], r)) (placed_rest (at + length (words e) + 1) (at + length (words e ++ []) + 1) rest (omega (arith, length-append (words e) [])))
  elements_read (f ∷ es) e k (suc n) at rest read all enough =
      let list : List ℕ = listed_from (suc (suc k)) (map words es) in
      let others : List ℕ = words f ++ (list ++ close ∷ rest) in
      let left : words e ++ 44 ∷ ((words f ++ list) ++ close ∷ rest) ≡ words e ++ 44 ∷ others = ap (λ (z : List ℕ). words e ++ 44 ∷ z) (append_assoc (words f) list (close ∷ rest)) in
      let here : Rest = rest_at at (words e ++ 44 ∷ others) in
      let mid : Rest = rest_at (at + length (words e)) (44 ∷ others) in
      let after : Rest = rest_at (at + length (words e) + 1) others in
      let size : length (words e ++ 44 ∷ others) ≡ length (words e) + suc (length others) = length-append (words e) (44 ∷ others) in
      let written : length (words e ++ 44 ∷ (words f ++ list)) ≡ length (words e) + suc (length (words f ++ list)) = length-append (words e) (44 ∷ (words f ++ list)) in
      ap (λ (l : List ℕ). elements one close (suc n) (rest_at at l)) left
      ∙ elements-goes one close n here mid after (put at e) (read at (44 ∷ others) (closed 44 others refl)) (comma_read (at + length (words e)) (words f) (list ++ close ∷ rest) all.1)
      ∙ ap (with_front (put at e ∷ [])) (elements_read es f (suc k) n (at + length (words e) + 1) rest all.0 all.2 (omega (arith, size, ap (λ (z : List ℕ). length z) left)))
      ∙ ap (λ (r : Rest). Ok (put at e ∷ put_all (at + length (words e) + 1) (f ∷ es), r))
      (placed_rest (at + length (words e) + 1 + length (words f ++ list) + 1) (at + length (words e ++ 44 ∷ (words f ++ list)) + 1) rest (omega (arith, written)))

  -- what stands between brackets
  pub sequence_read : (es : List E) (n at : ℕ) (rest : List ℕ) → AllRead es → length (listed_from 0 (map words es) ++ close ∷ rest) < n
      → sequence one close n (rest_at at (listed_from 0 (map words es) ++ close ∷ rest)) ≡ Ok (put_all at es, rest_at (at + length (listed_from 0 (map words es)) + 1) rest)
  sequence_read [] n at rest all enough =
      let same : (b : ℕ) → (b == b) ≡ true = λ b. grind (arith, nat_tests) in
      ap (λ (r : Rest). cond (head r == close) (Ok ([], past 1 r)) (elements one close n r)) (ended_blanks at (close ∷ rest) (closed close rest closes))
      ∙ cond-true (close == close) _ _ (same close) ∙ ap (λ (r : Rest). Ok ([], r)) (placed_rest (at + 1) (at + 0 + 1) rest (omega arith))
  sequence_read (e ∷ es) n at rest all enough =
      let list : List ℕ = listed_from 1 (map words es) in
      let left : (words e ++ list) ++ close ∷ rest ≡ words e ++ (list ++ close ∷ rest) = append_assoc (words e) list (close ∷ rest) in
      let here : Rest = rest_at at (words e ++ (list ++ close ∷ rest)) in
      ap (λ (l : List ℕ). sequence one close n (rest_at at l)) left
      ∙ ap (λ (r : Rest). cond (head r == close) (Ok ([], past 1 r)) (elements one close n r)) (starts_blanks at (words e) (list ++ close ∷ rest) all.1)
      ∙ cond-false (head here == close) _ _ (not_open (head here) (starts_head at (words e) (list ++ close ∷ rest) all.1))
      ∙ elements_read es e 0 n at rest all.0 all.2 (omega (arith, ap (λ (z : List ℕ). length z) left))
