-- A value that is spelled is read.
use Rattle.std.proofs.Common.{◌≡◌, ◌∙◌, ℕ, zero, suc, ◌+◌, ◌<◌, Bool, true, false, List, [], ◌∷◌, ◌++◌, length, drop, Ok, inl, inr, refl, sym, ap, subst, arith, cond, append_assoc, length-append}
use Rattle.std.specs.Prelude.{◌==◌, ◌&&◌, codes, slice_index}
use Rattle.std.specs.List.{prefix_len, list_all, list_any}
use Rattle.std.specs.Str.{IsUtf8}
use Rattle.std.proofs.lemmas.Bool.Decides.{nat_tests}
use Rattle.std.proofs.lemmas.List.{append-nil}
use Rattle.std.proofs.lemmas.Str.{utf8_valid_len-IsUtf8}
use Rattle.contract_words.specs.Grammar.{first}
use Rattle.contract_words.proofs.Predictive.{nullable_of}
use Rattle.pdata_value.specs.Numeral.{numeral, IsNumeral}
use Rattle.json_text.specs.Place.{Rest, head, past, is_blank, blanks}
use Rattle.json_text.specs.Reading.{Reads, ◌>>=◌, with_front, this, quoted, comma_or, more, elements, sequence, member, scalar, value, ended, document, json_text}
use Rattle.json_text.specs.Spelling as spelling
use Rattle.json_text.specs.Spelling.{Spelling, SpellsText, IsBlank, Padded, SpellsMore, SpellsAll, SpellsMember, SpellsScalar, SpellsContainer, SpellsValue, SpellsJson}
use Rattle.json_text.specs.declared.json.Json.{Json}
use Rattle.json_text.specs.declared.json.JsonKind.{JsonKind}
use Rattle.json_text.specs.declared.json.JsonKind.TheVariants as kinds
use Rattle.json_text.proofs.Turns.{cond-true, cond-false, elements-goes, elements-end}
use Rattle.json_text.proofs.Values.{value-scalar, same_length}
use Rattle.json_text.proofs.Fitting.{opening}
use Rattle.json_text.proofs.TextBack.{rest_at, placed_rest}
use Rattle.json_text.proofs.NumberBack.{closing, stopping, Stopped, at_stop, stopped}
use Rattle.json_text.proofs.ValueBack.{make_read, numeral_begins, number_back, null_back, true_back, false_back}
use Rattle.json_text.proofs.TextRead.{bound, same_byte, this_read, quoted_read}

-- Blanks.
abbrev white : ℕ → Bool
white b = list_any (λ c. b == c) (32 ∷ 9 ∷ 10 ∷ 13 ∷ [])

white_blank : (b : ℕ) → white b ≡ true → is_blank b ≡ true
white_blank b is = grind (arith, nat_tests)

both_of : (s t : Bool) → (s && t) ≡ true → (s ≡ true) × (t ≡ true)
both_of true t h = (refl, h)
both_of false t h = absurd cc

-- no blank stands at once
abbrev Solid : List ℕ → Type 0
Solid rest = is_blank (slice_index rest 0) ≡ false

no_blanks : (rest : List ℕ) → Solid rest → prefix_len is_blank rest ≡ 0
no_blanks [] solid = refl
no_blanks (b ∷ rest) solid = cond-false (is_blank b) _ _ solid

blank_count : (blank rest : List ℕ) → IsBlank blank → Solid rest → prefix_len is_blank (blank ++ rest) ≡ length blank
blank_count [] rest all solid = no_blanks rest solid
blank_count (b ∷ blank) rest all solid =
    let parts = both_of (white b) (list_all white blank) all in
    cond-true (is_blank b) _ _ (white_blank b parts.0) ∙ (let below = blank_count blank rest parts.1 solid in omega (arith, below))

drop_front : (front rest : List ℕ) → drop (length front) (front ++ rest) ≡ rest
drop_front [] rest = refl
drop_front (b ∷ front) rest = drop_front front rest

blanks_read : (blank : List ℕ) (at : ℕ) (rest : List ℕ) → IsBlank blank → Solid rest → blanks (rest_at at (blank ++ rest)) ≡ rest_at (at + length blank) rest
blanks_read blank at rest all solid =
    ap (λ (n : ℕ). past n (rest_at at (blank ++ rest))) (blank_count blank rest all solid) ∙ ap (rest_at (at + length blank)) (drop_front blank rest)

blank_stops : (blank tail : List ℕ) → IsBlank blank → Stopped tail → Stopped (blank ++ tail)
blank_stops [] tail all stops = stops
blank_stops (b ∷ blank) tail all stops = stopped b (blank ++ tail) (stops_at b (both_of (white b) (list_all white blank) all).0) where
  stops_at : (b : ℕ) → white b ≡ true → stopping b ≡ true
  stops_at b h = grind (arith, nat_tests)

closing_stops : (b : ℕ) → closing b ≡ true → stopping b ≡ true
closing_stops b h = grind (arith, nat_tests)

closing_solid : (b : ℕ) → closing b ≡ true → is_blank b ≡ false
closing_solid b h = grind (arith, nat_tests)

opening_solid : (b : ℕ) → opening b ≡ true → is_blank b ≡ false
opening_solid b h = grind (arith, nat_tests)

-- a text that begins as a value or a member does
record Begins (word : List ℕ) : Type 0 where
  byte : ℕ
  behind : List ℕ
  is : word ≡ byte ∷ behind
  opens : opening byte ≡ true

begins_solid : (word rest : List ℕ) → Begins word → Solid (word ++ rest)
begins_solid word rest b = subst (λ (w : List ℕ). Solid (w ++ rest)) (sym b.is) (opening_solid b.byte b.opens)

begins_head : (at : ℕ) (word rest : List ℕ) → Begins word → opening (head (rest_at at (word ++ rest))) ≡ true
begins_head at word rest b = subst (λ (w : List ℕ). opening (head (rest_at at (w ++ rest))) ≡ true) (sym b.is) b.opens

-- What stands between brackets.
module _ {X : Type 0} (spell : Spelling X) (one : Rest → Reads X)
    (read : (at : ℕ) (word : List ℕ) (x : X) (rest : List ℕ) → spell at word x → Stopped rest → one (rest_at at (word ++ rest)) ≡ Ok (x, rest_at (at + length word) rest))
    (begins : (at : ℕ) (word : List ℕ) (x : X) → spell at word x → Begins word)
    (close : ℕ) (closes : closing close ≡ true) (no_comma : (close == 44) ≡ false) (not_open : (b : ℕ) → opening b ≡ true → (b == close) ≡ false) where
  -- what stands behind an element and its blanks
  abbrev tail : List ℕ → List ℕ → List ℕ
  tail back rest = back ++ close ∷ rest

  tail_stops : (at : ℕ) (back : List ℕ) (xs : List X) (rest : List ℕ) → SpellsMore spell at back xs → Stopped (tail back rest)
  tail_stops at back [] rest more = subst (λ (b : List ℕ). Stopped (tail b rest)) (sym more) (stopped close rest (closing_stops close closes))
  tail_stops at back (x ∷ xs) rest more = subst (λ (b : List ℕ). Stopped (tail b rest)) (sym more.2) (stopped 44 _ refl)

  close_read : (blank : List ℕ) (at : ℕ) (rest : List ℕ) → IsBlank blank → comma_or close (blanks (rest_at at (blank ++ close ∷ rest))) ≡ Ok (false, rest_at (at + length blank + 1) rest)
  close_read blank at rest all =
      ap (comma_or close) (blanks_read blank at (close ∷ rest) all (closing_solid close closes)) ∙ cond-false (close == 44) _ _ no_comma ∙ cond-true (close == close) _ _ (same_byte close)

  comma_read : (blank : List ℕ) (at : ℕ) (rest : List ℕ) → IsBlank blank → comma_or close (blanks (rest_at at (blank ++ 44 ∷ rest))) ≡ Ok (true, blanks (rest_at (at + length blank + 1) rest))
  comma_read blank at rest all = ap (comma_or close) (blanks_read blank at (44 ∷ rest) all refl)

  -- what is left, from an element on
  abbrev left_of : List ℕ → List ℕ → List ℕ → List ℕ → List ℕ
  left_of word after back rest = word ++ (after ++ tail back rest)

  padded_left : (before word after back rest : List ℕ) → (before ++ word ++ after ++ back) ++ close ∷ rest ≡ before ++ left_of word after back rest
  padded_left before word after back rest =
      append_assoc (before ++ word ++ after) back (close ∷ rest) ∙ append_assoc (before ++ word) after (tail back rest) ∙ append_assoc before word (after ++ tail back rest)

  front_length : (before word after : List ℕ) → length (before ++ word ++ after) ≡ length before + length word + length after
  front_length before word after = length-append (before ++ word) after ∙ ap (λ (n : ℕ). n + length after) (length-append before word)

  elements_read : (xs : List X) (x : X) (n at : ℕ) (word after back rest : List ℕ) → spell at word x → IsBlank after → SpellsMore spell (at + length word + length after) back xs
      → length word + length after + length back < n
      → elements one close n (rest_at at (left_of word after back rest)) ≡ Ok (x ∷ xs, rest_at (at + length word + length after + length back + 1) rest)
  elements_read xs x zero at word after back rest spelled blank others enough = absurd (omega arith)
  elements_read [] x (suc n) at word after back rest spelled blank others enough =
      let here : Rest = rest_at at (word ++ (after ++ close ∷ rest)) in
      let mid : Rest = rest_at (at + length word) (after ++ close ∷ rest) in
      let stops : Stopped (after ++ close ∷ rest) = blank_stops after (close ∷ rest) blank (stopped close rest (closing_stops close closes)) in
      let none : length back ≡ 0 = ap (λ (z : List ℕ). length z) others in
      ap (λ (b : List ℕ). elements one close (suc n) (rest_at at (left_of word after b rest))) others
      ∙ elements-end one close n here mid (rest_at (at + length word + length after + 1) rest) x (read at word x (after ++ close ∷ rest) spelled stops) (close_read after (at + length word) rest blank)
      ∙ ap (λ (r : Rest). Ok (x ∷ [], r)) (placed_rest (at + length word + length after + 1) (at + length word + length after + length back + 1) rest (omega (arith, none)))
  elements_read (y ∷ ys) x (suc n) at word after back rest spelled blank others enough =
      let front : List ℕ = others.0 in
      let behind : List ℕ = others.1 in
      let p = others.3 in
      let next : ℕ = at + length word + length after + 1 in
      let left : List ℕ = left_of p.word p.after behind rest in
      let back_is : tail back rest ≡ 44 ∷ (p.before ++ left) =
      ap (λ (z : List ℕ). z ++ close ∷ rest) others.2 ∙ ap (λ (z : List ℕ). 44 ∷ ((z ++ behind) ++ close ∷ rest)) p.whole ∙ ap (λ (z : List ℕ). 44 ∷ z) (padded_left p.before p.word p.after behind rest) in
      let here : Rest = rest_at at (word ++ (after ++ 44 ∷ (p.before ++ left))) in
      let mid : Rest = rest_at (at + length word) (after ++ 44 ∷ (p.before ++ left)) in
      let then : Rest = rest_at (next + length p.before) left in
      let opens : Begins p.word = begins (next + length p.before) p.word y p.spelled in
      let stops : Stopped (after ++ 44 ∷ (p.before ++ left)) = blank_stops after (44 ∷ (p.before ++ left)) blank (stopped 44 (p.before ++ left) refl) in
      let comma : comma_or close (blanks mid) ≡ Ok (true, then) =
      comma_read after (at + length word) (p.before ++ left) blank
      ∙ ap (λ (r : Rest). Ok (true, r)) (blanks_read p.before next left p.blank_before (begins_solid p.word (p.after ++ tail behind rest) opens)) in
      let front_size : length front ≡ length p.before + length p.word + length p.after = ap (λ (z : List ℕ). length z) p.whole ∙ front_length p.before p.word p.after in
      let back_size : length back ≡ suc (length front + length behind) = ap (λ (z : List ℕ). length z) others.2 ∙ ap suc (length-append front behind) in
      let place : next + length front ≡ next + length p.before + length p.word + length p.after = omega (arith, front_size) in
      let below = elements_read ys y n (next + length p.before) p.word p.after behind rest p.spelled p.blank_after (subst (λ (k : ℕ). SpellsMore spell k behind ys) place others.4)
      (omega (arith, enough, front_size, back_size)) in
      ap (λ (z : List ℕ). elements one close (suc n) (rest_at at (word ++ (after ++ z)))) back_is
      ∙ elements-goes one close n here mid then x (read at word x (after ++ 44 ∷ (p.before ++ left)) spelled stops) comma
      ∙ ap (with_front (x ∷ [])) below
      ∙ ap (λ (r : Rest). Ok (x ∷ y ∷ ys, r))
      (placed_rest (next + length p.before + length p.word + length p.after + length behind + 1) (at + length word + length after + length back + 1) rest (omega (arith, front_size, back_size)))

  sequence_read : (xs : List X) (n at : ℕ) (inside rest : List ℕ) → SpellsAll spell at inside xs → length inside < n
      → sequence one close n (rest_at at (inside ++ close ∷ rest)) ≡ Ok (xs, rest_at (at + length inside + 1) rest)
  sequence_read [] n at inside rest blank enough =
      ap (λ (r : Rest). cond (head r == close) (Ok ([], past 1 r)) (elements one close n r)) (blanks_read inside at (close ∷ rest) blank (closing_solid close closes))
      ∙ cond-true (close == close) _ _ (same_byte close)
  sequence_read (x ∷ xs) n at inside rest all enough =
      let front : List ℕ = all.0 in
      let back : List ℕ = all.1 in
      let p = all.3 in
      let left : List ℕ = left_of p.word p.after back rest in
      let here : Rest = rest_at (at + length p.before) left in
      let opens : Begins p.word = begins (at + length p.before) p.word x p.spelled in
      let left_is : inside ++ close ∷ rest ≡ p.before ++ left =
      ap (λ (z : List ℕ). z ++ close ∷ rest) (all.2 ∙ ap (λ (z : List ℕ). z ++ back) p.whole) ∙ padded_left p.before p.word p.after back rest in
      let front_size : length front ≡ length p.before + length p.word + length p.after = ap (λ (z : List ℕ). length z) p.whole ∙ front_length p.before p.word p.after in
      let size : length inside ≡ length front + length back = ap (λ (z : List ℕ). length z) all.2 ∙ length-append front back in
      let place : at + length front ≡ at + length p.before + length p.word + length p.after = omega (arith, front_size) in
      ap (λ (l : List ℕ). sequence one close n (rest_at at l)) left_is
      ∙ ap (λ (r : Rest). cond (head r == close) (Ok ([], past 1 r)) (elements one close n r)) (blanks_read p.before at left p.blank_before (begins_solid p.word (p.after ++ tail back rest) opens))
      ∙ cond-false (head here == close) _ _ (not_open (head here) (begins_head (at + length p.before) p.word (p.after ++ tail back rest) opens))
      ∙ elements_read xs x n (at + length p.before) p.word p.after back rest p.spelled p.blank_after (subst (λ (k : ℕ). SpellsMore spell k back xs) place all.4) (omega (arith, enough, front_size, size))
      ∙ ap (λ (r : Rest). Ok (x ∷ xs, r))
      (placed_rest (at + length p.before + length p.word + length p.after + length back + 1) (at + length inside + 1) rest (omega (arith, front_size, size)))

-- Scalars.
record ScalarBegins (word : List ℕ) : Type 0 where
  byte : ℕ
  behind : List ℕ
  is : word ≡ byte ∷ behind
  opens : opening byte ≡ true
  no_list : (byte == 91) ≡ false
  no_object : (byte == 123) ≡ false

number_facts : (b : ℕ) → first numeral b ≡ true → (opening b ≡ true) × ((b == 91) ≡ false) × ((b == 123) ≡ false)
number_facts b h = (grind (arith, nat_tests), grind (arith, nat_tests), grind (arith, nat_tests))

numeral_starts : (word : List ℕ) → IsNumeral word → ScalarBegins word
numeral_starts [] h = absurd (let none : false ≡ true = nullable_of numeral h in cc)
numeral_starts (c ∷ cs) h =
    let facts = number_facts c (numeral_begins c cs h) in
    record { byte = c; behind = cs; is = refl; opens = facts.0; no_list = facts.1; no_object = facts.2 }

scalar_begins : (word : List ℕ) (kind : JsonKind) → SpellsScalar word kind → ScalarBegins word
scalar_begins _ _ spelling.null_word = record { byte = 110; behind = codes "ull"; is = refl; opens = refl; no_list = refl; no_object = refl }
scalar_begins _ _ spelling.true_word = record { byte = 116; behind = codes "rue"; is = refl; opens = refl; no_list = refl; no_object = refl }
scalar_begins _ _ spelling.false_word = record { byte = 102; behind = codes "alse"; is = refl; opens = refl; no_list = refl; no_object = refl }
scalar_begins _ _ (spelling.numeral word h) = numeral_starts word h
scalar_begins _ _ (spelling.in_quotes word text h) = record { byte = 34; behind = (quoted_read word text h).behind; is = (quoted_read word text h).is; opens = refl; no_list = refl; no_object = refl }

text_case : (r to : Rest) (text : List ℕ) → head r ≡ 34 → quoted r ≡ Ok (text, to) → scalar r ≡ Ok (record { at = r.at; kind = kinds.Text text }, to)
unfolding scalar
text_case r to text first is = cond-true (head r == 34) _ _ (ap (λ (b : ℕ). b == 34) first) ∙ make_read r kinds.Text (quoted r) text to is

scalar_read : (word : List ℕ) (kind : JsonKind) → SpellsScalar word kind → (at : ℕ) (rest : List ℕ) → Stopped rest
    → scalar (rest_at at (word ++ rest)) ≡ Ok (record { at = at; kind = kind }, rest_at (at + length word) rest)
scalar_read _ _ spelling.null_word at rest stops = null_back rest at
scalar_read _ _ spelling.true_word at rest stops = true_back rest at
scalar_read _ _ spelling.false_word at rest stops = false_back rest at
scalar_read _ _ (spelling.numeral word h) at rest stops = number_back word rest at h stops
scalar_read _ _ (spelling.in_quotes word text h) at rest stops =
    let q = quoted_read word text h in
    text_case (rest_at at (word ++ rest)) _ text (ap (λ (w : List ℕ). head (rest_at at (w ++ rest))) q.is) (q.read at rest)

differs : (b c : ℕ) → (b == c) ≡ false → b ≡ c → ⊥
differs b c is h = grind (arith, nat_tests)

scalar_value : (depth : ℕ) (word : List ℕ) (kind : JsonKind) → SpellsScalar word kind → (at : ℕ) (rest : List ℕ) → Stopped rest
    → value depth (rest_at at (word ++ rest)) ≡ Ok (record { at = at; kind = kind }, rest_at (at + length word) rest)
scalar_value depth word kind h at rest stops =
    let b = scalar_begins word kind h in
    let is : head (rest_at at (word ++ rest)) ≡ b.byte = ap (λ (w : List ℕ). head (rest_at at (w ++ rest))) b.is in
    value-scalar depth (rest_at at (word ++ rest)) (λ e. differs b.byte 91 b.no_list (sym is ∙ e)) (λ e. differs b.byte 123 b.no_object (sym is ∙ e)) ∙ scalar_read word kind h at rest stops

-- Members.
member_left : (key before after word rest : List ℕ) → (key ++ before ++ codes ":" ++ after ++ word) ++ rest ≡ key ++ (before ++ 58 ∷ (after ++ (word ++ rest)))
member_left key before after word rest =
    append_assoc (key ++ before ++ codes ":" ++ after) word rest ∙ append_assoc (key ++ before ++ codes ":") after (word ++ rest) ∙ append_assoc (key ++ before) (codes ":") (after ++ (word ++ rest))
    ∙ append_assoc key before (58 ∷ (after ++ (word ++ rest)))

member_length : (key before after word : List ℕ) → length (key ++ before ++ codes ":" ++ after ++ word) ≡ length key + length before + 1 + length after + length word
member_length key before after word =
    length-append (key ++ before ++ codes ":" ++ after) word
    ∙ ap (λ (n : ℕ). n + length word) (length-append (key ++ before ++ codes ":") after ∙ ap (λ (n : ℕ). n + length after) (length-append (key ++ before) (codes ":") ∙ ap (λ (n : ℕ). n + 1) (length-append key before)))

-- how values are read
abbrev Reads_back : Spelling Json → (Rest → Reads Json) → Type 0
Reads_back spell one = (at : ℕ) (word : List ℕ) (json : Json) (rest : List ℕ) → spell at word json → Stopped rest → one (rest_at at (word ++ rest)) ≡ Ok (json, rest_at (at + length word) rest)

abbrev All_begin : Spelling Json → Type 0
All_begin spell = (at : ℕ) (word : List ℕ) (json : Json) → spell at word json → Begins word

module _ (spell : Spelling Json) (one : Rest → Reads Json) (read : Reads_back spell one) (begins : All_begin spell) where
  member_begins : (at : ℕ) (text : List ℕ) (m : List ℕ × Json) → SpellsMember spell at text m → Begins text
  member_begins at text m h =
      let q = quoted_read h.key m.0 h.key_spelled in
      record {
        byte = 34;
        behind = q.behind ++ h.before ++ codes ":" ++ h.after ++ h.word;
        is = h.whole ∙ ap (λ (k : List ℕ). k ++ h.before ++ codes ":" ++ h.after ++ h.word) q.is;
        opens = refl;
      }

  member_read : (at : ℕ) (text : List ℕ) (m : List ℕ × Json) (rest : List ℕ) → SpellsMember spell at text m → Stopped rest → member one (rest_at at (text ++ rest)) ≡ Ok (m, rest_at (at + length text) rest)
  member_read at text m rest h stops =
      let q = quoted_read h.key m.0 h.key_spelled in
      let start : ℕ = at + length h.key + length h.before + 1 + length h.after in
      let left : List ℕ = h.after ++ (h.word ++ rest) in
      let colon : Rest = rest_at (at + length h.key + length h.before) (58 ∷ left) in
      let left_is : text ++ rest ≡ h.key ++ (h.before ++ 58 ∷ left) = ap (λ (z : List ℕ). z ++ rest) h.whole ∙ member_left h.key h.before h.after h.word rest in
      let size : length text ≡ length h.key + length h.before + 1 + length h.after + length h.word = ap (λ (z : List ℕ). length z) h.whole ∙ member_length h.key h.before h.after h.word in
      let solid : Solid (h.word ++ rest) = begins_solid h.word rest (begins start h.word m.1 h.spelled) in
      ap (λ (l : List ℕ). member one (rest_at at l)) left_is
      ∙ bound _ _ _ _ (q.read at (h.before ++ 58 ∷ left))
      (ap (λ (r : Rest). this 58 r >>= λ c. one (blanks c) >>= λ v. Ok ((m.0, v.0), v.1)) (blanks_read h.before (at + length h.key) (58 ∷ left) h.blank_before refl)
      ∙ bound (this 58 colon) (λ c. one (blanks c) >>= λ v. Ok ((m.0, v.0), v.1)) _ _ (this_read 58 (at + length h.key + length h.before) left)
      (ap (λ (r : Rest). one r >>= λ v. Ok ((m.0, v.0), v.1)) (blanks_read h.after (at + length h.key + length h.before + 1) (h.word ++ rest) h.blank_after solid)
      ∙ bound _ _ _ _ (read start h.word m.1 rest h.spelled stops)
      (ap (λ (r : Rest). Ok (m, r)) (placed_rest (start + length h.word) (at + length text) rest (omega (arith, size))))))

-- Values.
no_bracket : (b : ℕ) → opening b ≡ true → ((b == 93) ≡ false) × ((b == 125) ≡ false)
no_bracket b h = (grind (arith, nat_tests), grind (arith, nat_tests))

list_case : (depth at : ℕ) (left : List ℕ) (items : List Json) (to : Rest) → sequence (value depth) 93 (suc (length left)) (rest_at (at + 1) left) ≡ Ok (items, to)
    → value (suc depth) (rest_at at (91 ∷ left)) ≡ Ok (record { at = at; kind = kinds.List items }, to)
unfolding value
list_case depth at left items to is = make_read (rest_at at (91 ∷ left)) kinds.List (sequence (value depth) 93 (suc (length left)) (rest_at (at + 1) left)) items to is

object_case : (depth at : ℕ) (left : List ℕ) (members : List (List ℕ × Json)) (to : Rest) → sequence (member (value depth)) 125 (suc (length left)) (rest_at (at + 1) left) ≡ Ok (members, to)
    → value (suc depth) (rest_at at (123 ∷ left)) ≡ Ok (record { at = at; kind = kinds.Object members }, to)
unfolding value
object_case depth at left members to is =
    make_read (rest_at at (123 ∷ left)) kinds.Object (sequence (member (value depth)) 125 (suc (length left)) (rest_at (at + 1) left)) members to is

module _ (depth : ℕ) (read : Reads_back (SpellsValue depth) (value depth)) (begins : All_begin (SpellsValue depth)) where
  container_read : (at : ℕ) (word : List ℕ) (kind : JsonKind) → SpellsContainer (SpellsValue depth) at word kind → (rest : List ℕ)
      → value (suc depth) (rest_at at (word ++ rest)) ≡ Ok (record { at = at; kind = kind }, rest_at (at + length word) rest)
  container_read _ _ _ (spelling.list at inside items all) rest =
      let left : (inside ++ 93 ∷ []) ++ rest ≡ inside ++ 93 ∷ rest = append_assoc inside (93 ∷ []) rest in
      let size : length (inside ++ 93 ∷ []) ≡ length inside + 1 = length-append inside (93 ∷ []) in
      let more : length (inside ++ 93 ∷ rest) ≡ length inside + suc (length rest) = length-append inside (93 ∷ rest) in
      ap (λ (l : List ℕ). value (suc depth) (rest_at at (91 ∷ l))) left
      ∙ list_case depth at (inside ++ 93 ∷ rest) items (rest_at (at + 1 + length inside + 1) rest)
      (sequence_read (SpellsValue depth) (value depth) read begins 93 refl refl (λ b h. (no_bracket b h).0) items (suc (length (inside ++ 93 ∷ rest))) (at + 1) inside rest all (omega (arith, more)))
      ∙ ap (λ (r : Rest). Ok (record { at = at; kind = kinds.List items }, r)) (placed_rest (at + 1 + length inside + 1) (at + suc (length (inside ++ 93 ∷ []))) rest (omega (arith, size)))
  container_read _ _ _ (spelling.object at inside members all) rest =
      let left : (inside ++ 125 ∷ []) ++ rest ≡ inside ++ 125 ∷ rest = append_assoc inside (125 ∷ []) rest in
      let size : length (inside ++ 125 ∷ []) ≡ length inside + 1 = length-append inside (125 ∷ []) in
      let more : length (inside ++ 125 ∷ rest) ≡ length inside + suc (length rest) = length-append inside (125 ∷ rest) in
      ap (λ (l : List ℕ). value (suc depth) (rest_at at (123 ∷ l))) left
      ∙ object_case depth at (inside ++ 125 ∷ rest) members (rest_at (at + 1 + length inside + 1) rest)
      (sequence_read (SpellsMember (SpellsValue depth)) (member (value depth)) (member_read (SpellsValue depth) (value depth) read begins) (member_begins (SpellsValue depth) (value depth) read begins) 125 refl refl
      (λ b h. (no_bracket b h).1) members (suc (length (inside ++ 125 ∷ rest))) (at + 1) inside rest all (omega (arith, more)))
      ∙ ap (λ (r : Rest). Ok (record { at = at; kind = kinds.Object members }, r)) (placed_rest (at + 1 + length inside + 1) (at + suc (length (inside ++ 125 ∷ []))) rest (omega (arith, size)))

scalar_opens : (word : List ℕ) (kind : JsonKind) → SpellsScalar word kind → Begins word
scalar_opens word kind h = let b = scalar_begins word kind h in record { byte = b.byte; behind = b.behind; is = b.is; opens = b.opens }

container_opens : (depth at : ℕ) (word : List ℕ) (kind : JsonKind) → SpellsContainer (SpellsValue depth) at word kind → Begins word
container_opens depth _ _ _ (spelling.list at inside items all) = record { byte = 91; behind = inside ++ 93 ∷ []; is = refl; opens = refl }
container_opens depth _ _ _ (spelling.object at inside members all) = record { byte = 123; behind = inside ++ 125 ∷ []; is = refl; opens = refl }

value_begins : (depth : ℕ) → All_begin (SpellsValue depth)
value_begins zero at word json h = scalar_opens word json.kind h.1
value_begins (suc depth) at word json (place, inl h) = scalar_opens word json.kind h
value_begins (suc depth) at word json (place, inr h) = container_opens depth at word json.kind h

-- with its place
placed_json : (at : ℕ) (json : Json) (to : Rest) → json.at ≡ at → ◌≡◌ {A = Reads Json} (Ok (record { at = at; kind = json.kind }, to)) (Ok (json, to))
placed_json at json to is = ap (λ (n : ℕ). Ok (record { at = n; kind = json.kind }, to)) (sym is)

value_read : (depth : ℕ) → Reads_back (SpellsValue depth) (value depth)
value_read zero at word json rest h stops = scalar_value zero word json.kind h.1 at rest stops ∙ placed_json at json (rest_at (at + length word) rest) h.0
value_read (suc depth) at word json rest (place, inl h) stops = scalar_value (suc depth) word json.kind h at rest stops ∙ placed_json at json (rest_at (at + length word) rest) place
value_read (suc depth) at word json rest (place, inr h) stops =
    container_read depth (value_read depth) (value_begins depth) at word json.kind h rest ∙ placed_json at json (rest_at (at + length word) rest) place

-- Whole texts.
blanks_end : (blank : List ℕ) (at : ℕ) → IsBlank blank → blanks (rest_at at blank) ≡ rest_at (at + length blank) []
blanks_end blank at all = ap (λ (l : List ℕ). blanks (rest_at at l)) (sym (append-nil blank)) ∙ blanks_read blank at [] all refl

document_read : (depth : ℕ) (bytes : List ℕ) (json : Json) → SpellsJson depth bytes json → document depth bytes ≡ Ok json
unfolding document
document_read depth bytes json h =
    let start : ℕ = 0 + length h.before in
    let last : ℕ = start + length h.word in
    let opens : Begins h.word = value_begins depth start h.word json h.spelled in
    let left : bytes ≡ h.before ++ (h.word ++ h.after) = h.whole ∙ append_assoc h.before h.word h.after in
    let stops : Stopped h.after = subst Stopped (append-nil h.after) (blank_stops h.after [] h.blank_after at_stop) in
    ap (λ (l : List ℕ). value depth (blanks (rest_at 0 l)) >>= λ p. ended p.0 (blanks p.1)) left
    ∙ ap (λ (r : Rest). value depth r >>= λ p. ended p.0 (blanks p.1)) (blanks_read h.before 0 (h.word ++ h.after) h.blank_before (begins_solid h.word h.after opens))
    ∙ bound _ _ _ _ (value_read depth start h.word json h.after h.spelled stops)
    (ap (ended json) (blanks_end h.after last h.blank_after))

-- what is spelled is read
pub value_back : (bytes : List ℕ) (depth : ℕ) (json : Json) → IsUtf8 bytes → SpellsJson depth bytes json → json_text bytes depth ≡ Ok json
value_back bytes depth json utf8 h = same_length bytes (utf8_valid_len-IsUtf8 bytes utf8) depth ∙ document_read depth bytes json h
