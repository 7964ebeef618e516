-- A value that is read is spelled.
use Rattle.std.proofs.Common.{◌≡◌, ◌∙◌, ℕ, zero, suc, ◌+◌, ◌-◌, Bool, true, false, List, [], ◌∷◌, ◌++◌, length, take, drop, Ok, Err, inl, inr, refl, sym, ap, subst, arith, cond, append_assoc, length-append}
use Rattle.std.specs.Prelude.{◌==◌, ◌&&◌, ◌||◌, not, codes, IsTrue}
use Rattle.std.specs.List.{prefix_len, list_all, list_any}
use Rattle.std.specs.Str.Lossy.{utf8_valid_len}
use Rattle.std.proofs.lemmas.Bool.Decides.{nat_tests}
use Rattle.std.proofs.lemmas.List.{append-nil}
use Rattle.pdata_value.specs.Numeral.{numeral}
use Rattle.json_text.specs.Place.{Rest, head, past, is_blank, blanks}
use Rattle.json_text.specs.Reading.{Reads, this, these, number_end, number, quoted, comma_or, more, elements, sequence, member, make, literal, scalar, value, document, json_text}
use Rattle.json_text.specs.Spelling as spelling
use Rattle.json_text.specs.Spelling.{Spelling, SpellsText, IsBlank, Padded, SpellsMore, SpellsAll, SpellsMember, SpellsScalar, SpellsContainer, SpellsValue, SpellsJson}
use Rattle.json_text.specs.declared.json.Json.{Json}
use Rattle.json_text.specs.declared.json.JsonKind.{JsonKind}
use Rattle.json_text.specs.declared.json.JsonKind.TheVariants as kinds
use Rattle.json_text.specs.declared.error.JsonFault.TheVariants.{TooDeep}
use Rattle.json_text.proofs.Numerals.{bind_ok, by_test, ok_same, number_end-spelled, Spelled-word}
use Rattle.json_text.proofs.TextBack.{rest_at}
use Rattle.json_text.proofs.TextSpelled.{Took, took_then, Just, took_byte, this_took, same_number, quoted_took}

-- Blanks and words.
abbrev pub white : ℕ → Bool
white b = list_any (λ c. b == c) (32 ∷ 9 ∷ 10 ∷ 13 ∷ [])

blank_white : (b : ℕ) → is_blank b ≡ true → white b ≡ true
blank_white b is = grind (arith, nat_tests)

both_true : (s t : Bool) → s ≡ true → t ≡ true → (s && t) ≡ true
both_true s t e f = rw (e, f) refl

blanks_step : (at x : ℕ) (xs : List ℕ) → Took IsBlank (rest_at (at + 1) xs) (rest_at (at + 1 + prefix_len is_blank xs) (drop (prefix_len is_blank xs) xs)) → (t : Bool) → is_blank x ≡ t
    → Took IsBlank (rest_at at (x ∷ xs)) (rest_at (at + cond t (suc (prefix_len is_blank xs)) 0) (drop (cond t (suc (prefix_len is_blank xs)) 0) (x ∷ xs)))
blanks_step at x xs rest true is = record {
  word = x ∷ rest.word;
  whole = ap (λ (z : List ℕ). x ∷ z) rest.whole;
  place = omega (arith, rest.place);
  spelled = both_true (white x) (list_all white rest.word) (blank_white x is) rest.spelled;
}
blanks_step at x xs rest false is = record { word = []; whole = refl; place = refl; spelled = refl }

blanks_at : (at : ℕ) (left : List ℕ) → Took IsBlank (rest_at at left) (rest_at (at + prefix_len is_blank left) (drop (prefix_len is_blank left) left))
blanks_at at [] = record { word = []; whole = refl; place = refl; spelled = refl }
blanks_at at (x ∷ xs) =
    let one_more : 1 + prefix_len is_blank xs ≡ suc (prefix_len is_blank xs) = omega arith in
    rw one_more (blanks_step at x xs (blanks_at (at + 1) xs) (is_blank x) refl)

blanks_took : (r : Rest) → Took IsBlank r (blanks r)
blanks_took r = blanks_at r.at r.left

first_two : (s t : Bool) → IsTrue (not s && t) → (s ≡ false) × IsTrue t
first_two true t h = absurd cc
first_two false t h = (refl, h)

these_took : (word : List ℕ) → IsTrue (list_all (λ b. not (0 == b)) word) → (r e : Rest) → these word r ≡ Ok e → Took (Just word) r e
these_took [] some r e is = subst (Took (Just []) r) (ok_same _ _ is) (record { word = []; whole = refl; place = omega arith; spelled = refl })
these_took (b ∷ bs) some r e is =
    let parts = first_two (0 == b) (list_all (λ b. not (0 == b)) bs) some in
    let one = bind_ok (this b r) (these bs) e is in
    took_then (Just (b ∷ [])) (Just bs) (Just (b ∷ bs)) r one.0 e (this_took b parts.0 r one.0 one.1) (these_took bs parts.1 one.0 e one.2)
    (λ x y place p q. ap (λ (z : List ℕ). z ++ y) p ∙ ap (λ (z : List ℕ). b ∷ z) q)

-- Scalars.
made_took : {X : Type 0} (Q : List ℕ → JsonKind → Type 0) (r : Rest) (kind : X → JsonKind) (read : Reads X) (p : Json × Rest) → make r kind read ≡ Ok p
    → ((q : X × Rest) → read ≡ Ok q → Took (λ w. Q w (kind q.0)) r q.1) → Took (λ w. (p.0.at ≡ r.at) × Q w p.0.kind) r p.1
made_took Q r kind read p is took =
    let q = bind_ok read (λ q. Ok (record { at = r.at; kind = kind q.0 }, q.1)) p is in
    let t = took q.0 q.1 in
    subst (λ (j : Json × Rest). Took (λ w. (j.0.at ≡ r.at) × Q w j.0.kind) r j.1) (ok_same _ _ q.2)
    (record { word = t.word; whole = t.whole; place = t.place; spelled = (refl, t.spelled) })

word_took : (kind : JsonKind) (word : List ℕ) → IsTrue (list_all (λ b. not (0 == b)) word) → SpellsScalar word kind → (r : Rest) (q : JsonKind × Rest) → literal kind word r ≡ Ok q
    → Took (λ w. SpellsScalar w q.0) r q.1
word_took kind word some spells r q is =
    let e = bind_ok (these word r) (λ e. Ok (kind, e)) q is in
    let t = these_took word some r e.0 e.1 in
    subst (λ (j : JsonKind × Rest). Took (λ w. SpellsScalar w j.0) r j.1) (ok_same _ _ e.2)
    (record { word = t.word; whole = t.whole; place = t.place; spelled = subst (λ (w : List ℕ). SpellsScalar w kind) (sym t.spelled) spells })

number_took : (r : Rest) (q : List ℕ × Rest) → number r ≡ Ok q → Took (λ w. SpellsScalar w (kinds.Number q.0)) r q.1
number_took r q is =
    let e = bind_ok (number_end r) (λ e. Ok (take (length r.left - length e.left) r.left, e)) q is in
    let s = number_end-spelled r e.0 e.1 in
    let same : (s.word, e.0) ≡ q = ap (λ (w : List ℕ). (w, e.0)) (sym (Spelled-word numeral r e.0 s)) ∙ ok_same _ _ e.2 in
    subst (λ (j : List ℕ × Rest). Took (λ w. SpellsScalar w (kinds.Number j.0)) r j.1) same
    (record { word = s.word; whole = s.whole; place = s.place; spelled = spelling.numeral s.word s.spelled })

text_took : (r : Rest) (q : List ℕ × Rest) → quoted r ≡ Ok q → Took (λ w. SpellsScalar w (kinds.Text q.0)) r q.1
text_took r q is =
    let t = quoted_took r q is in
    record { word = t.word; whole = t.whole; place = t.place; spelled = spelling.in_quotes t.word q.0 t.spelled }

scalar_took : (r : Rest) (p : Json × Rest) → scalar r ≡ Ok p → Took (λ w. (p.0.at ≡ r.at) × SpellsScalar w p.0.kind) r p.1
unfolding scalar
scalar_took r p is =
    elim (by_test (head r == 34) _ _ _ is) [
      | inl a ↦ made_took SpellsScalar r kinds.Text (quoted r) p a.1 (text_took r)
      | inr a ↦
          elim (by_test (head r == 116) _ _ _ a.1) [
            | inl b ↦ made_took SpellsScalar r (λ k. k) (literal (kinds.Truth true) (codes "true") r) p b.1 (word_took (kinds.Truth true) (codes "true") refl spelling.true_word r)
            | inr b ↦
                elim (by_test (head r == 102) _ _ _ b.1) [
                  | inl c ↦ made_took SpellsScalar r (λ k. k) (literal (kinds.Truth false) (codes "false") r) p c.1 (word_took (kinds.Truth false) (codes "false") refl spelling.false_word r)
                  | inr c ↦
                      elim (by_test (head r == 110) _ _ _ c.1) [
                        | inl d ↦ made_took SpellsScalar r (λ k. k) (literal kinds.Null (codes "null") r) p d.1 (word_took kinds.Null (codes "null") refl spelling.null_word r)
                        | inr d ↦ made_took SpellsScalar r kinds.Number (number r) p d.1 (number_took r)
                      ]
                ]
          ]
    ]

-- What stands between brackets.
front_back : (before word after back tail : List ℕ) → before ++ (word ++ (after ++ (back ++ tail))) ≡ (before ++ word ++ after ++ back) ++ tail
front_back before word after back tail =
    sym (append_assoc (before ++ word ++ after) back tail ∙ append_assoc (before ++ word) after (back ++ tail) ∙ append_assoc before word (after ++ (back ++ tail)))

front_length : (before word after : List ℕ) → length (before ++ word ++ after) ≡ length before + length word + length after
front_length before word after = length-append (before ++ word) after ∙ ap (λ (n : ℕ). n + length after) (length-append before word)

module _ {X : Type 0} (spell : Spelling X) (close : ℕ) where
  -- an element that begins at once, others, and the closing byte
  record Filled (at : ℕ) (found : List X) (text : List ℕ) : Type 0 where
    x : X
    xs : List X
    word : List ℕ
    after : List ℕ
    back : List ℕ
    all : found ≡ x ∷ xs
    whole : text ≡ word ++ (after ++ (back ++ close ∷ []))
    spelled : spell at word x
    blank : IsBlank after
    others : SpellsMore spell (at + length word + length after) back xs

  -- what stands up to the closing byte
  abbrev Closed : ℕ → List X → List ℕ → Type 0
  Closed at found text = (inside : List ℕ) × SpellsAll spell at inside found × (text ≡ inside ++ close ∷ [])

  -- what stands behind an element, up to the closing byte
  abbrev Tail : ℕ → List X → List ℕ → Type 0
  Tail at found text = (inside : List ℕ) × SpellsMore spell at inside found × (text ≡ inside ++ close ∷ [])

  module _ (at : ℕ) (before text : List ℕ) (found : List X) (blank : IsBlank before) (f : Filled (at + length before) found text) where
    abbrev front : List ℕ
    front = before ++ f.word ++ f.after

    whole_is : before ++ text ≡ (front ++ f.back) ++ close ∷ []
    whole_is = ap (λ (z : List ℕ). before ++ z) f.whole ∙ front_back before f.word f.after f.back (close ∷ [])

    padded : Padded spell at front f.x
    padded = record { before = before; word = f.word; after = f.after; whole = refl; blank_before = blank; blank_after = f.blank; spelled = f.spelled }

    others : SpellsMore spell (at + length front) f.back f.xs
    others =
        let place : at + length before + length f.word + length f.after ≡ at + length front = omega (arith, front_length before f.word f.after) in
        subst (λ (n : ℕ). SpellsMore spell n f.back f.xs) place f.others

    closed_of : Closed at found (before ++ text)
    closed_of = (front ++ f.back, subst (SpellsAll spell at (front ++ f.back)) (sym f.all) (front, f.back, refl, padded, others), whole_is)

  tail_of : (at : ℕ) (before text : List ℕ) (found : List X) → IsBlank before → Filled (at + 1 + length before) found text → Tail at found (44 ∷ (before ++ text))
  tail_of at before text found blank f =
      let front : List ℕ = before ++ f.word ++ f.after in (
        44 ∷ (front ++ f.back),
        subst (SpellsMore spell at (44 ∷ (front ++ f.back))) (sym f.all) (front, f.back, refl, padded (at + 1) before text found blank f, others (at + 1) before text found blank f),
        ap (λ (z : List ℕ). 44 ∷ z) (whole_is (at + 1) before text found blank f),
      )

  -- behind an element: its blanks, and what follows
  abbrev After : ℕ → List X → List ℕ → Type 0
  After at found text = (after : List ℕ) × (rest : List ℕ) × IsBlank after × Tail (at + length after) found rest × (text ≡ after ++ rest)

  filled_of : (at : ℕ) (x : X) (xs : List X) (word text : List ℕ) → spell at word x → After (at + length word) xs text → Filled at (x ∷ xs) (word ++ text)
  filled_of at x xs word text spelled a = record {
    x = x;
    xs = xs;
    word = word;
    after = a.0;
    back = a.3.0;
    all = refl;
    whole = ap (λ (z : List ℕ). word ++ z) (a.4 ∙ ap (λ (z : List ℕ). a.0 ++ z) a.3.2);
    spelled = spelled;
    blank = a.2;
    others = a.3.1;
  }

  module _ (one : Rest → Reads X) (sound : (r : Rest) (p : X × Rest) → one r ≡ Ok p → Took (λ w. spell r.at w p.0) r p.1) (some : (0 == close) ≡ false) where
    -- an element, and what stands behind it
    joined : (r mid to : Rest) (x : X) (xs : List X) → Took (λ w. spell r.at w x) r mid → Took (Tail (blanks mid).at xs) (blanks mid) to → Took (Filled r.at (x ∷ xs)) r to
    joined r mid to x xs here tail =
        took_then (λ w. spell r.at w x) (After mid.at xs) (Filled r.at (x ∷ xs)) r mid to here
        (took_then IsBlank (Tail (blanks mid).at xs) (After mid.at xs) mid (blanks mid) to (blanks_took mid) tail
        (λ u v place b t. (u, v, b, subst (λ (n : ℕ). Tail n xs v) place t, refl)))
        (λ u v place s a. filled_of r.at x xs u v s (subst (λ (n : ℕ). After n xs v) place a))

    elements_took : (n : ℕ) (r : Rest) (p : List X × Rest) → elements one close n r ≡ Ok p → Took (Filled r.at p.0) r p.1
    unfolding elements
    elements_took zero r p is = absurd cc
    elements_took (suc n) r p is =
        let a = bind_ok (one r) _ p is in
        let c = bind_ok (comma_or close (blanks a.0.1)) (more a.0.0 (elements one close n)) p a.2 in
        let mid : Rest = blanks a.0.1 in
        elim (by_test (head mid == 44) _ _ _ c.1) [
          | inl comma ↦
              let next : Rest = blanks (past 1 mid) in
              let goes : more a.0.0 (elements one close n) (true, next) ≡ Ok p = ap (more a.0.0 (elements one close n)) (ok_same _ _ comma.1) ∙ c.2 in
              let q = bind_ok (elements one close n next) _ p goes in
              let byte : Took (Just (44 ∷ [])) mid (past 1 mid) = subst (λ (b : ℕ). Took (Just (b ∷ [])) mid (past 1 mid)) (same_number (head mid) 44 comma.0) (took_byte (λ b. b == 44) mid comma.0 refl) in
              let behind = took_then IsBlank (Filled next.at q.0.0) (λ w. (before : List ℕ) × (rest : List ℕ) × IsBlank before × Filled ((past 1 mid).at + length before) q.0.0 rest × (w ≡ before ++ rest))
              (past 1 mid) next q.0.1 (blanks_took (past 1 mid)) (elements_took n next q.0 q.1) (λ u v place b f. (u, v, b, subst (λ (k : ℕ). Filled k q.0.0 v) place f, refl)) in
              let tail = took_then (Just (44 ∷ [])) (λ w. (before : List ℕ) × (rest : List ℕ) × IsBlank before × Filled ((past 1 mid).at + length before) q.0.0 rest × (w ≡ before ++ rest)) (Tail mid.at q.0.0)
              mid (past 1 mid) q.0.1 byte behind
              (λ u v place e f. subst (Tail mid.at q.0.0) (sym (ap (λ (z : List ℕ). z ++ v) e ∙ ap (λ (z : List ℕ). 44 ∷ z) f.4)) (tail_of mid.at f.0 f.1 q.0.0 f.2 f.3)) in
              subst (λ (j : List X × Rest). Took (Filled r.at j.0) r j.1) (ok_same _ _ q.2) (joined r a.0.1 q.0.1 a.0.0 q.0.0 (sound r a.0 a.1) tail)
          | inr other ↦ elim (by_test (head mid == close) _ _ _ other.1) [
            | inl closes ↦
                let ends : (a.0.0 ∷ [], past 1 mid) ≡ p = ok_same _ _ (ap (more a.0.0 (elements one close n)) (ok_same _ _ closes.1) ∙ c.2) in
                let byte = took_byte (λ b. b == close) mid closes.0 some in
                let tail : Took (Tail mid.at []) mid (past 1 mid) = record {
                  word = byte.word;
                  whole = byte.whole;
                  place = byte.place;
                  spelled = ([], refl, byte.spelled ∙ ap (λ (b : ℕ). b ∷ []) (same_number (head mid) close closes.0));
                } in
                subst (λ (j : List X × Rest). Took (Filled r.at j.0) r j.1) ends (joined r a.0.1 (past 1 mid) a.0.0 [] (sound r a.0 a.1) tail)
            | inr none ↦ absurd (let e = none.1 in cc)
          ]
        ]

    sequence_took : (n : ℕ) (r : Rest) (p : List X × Rest) → sequence one close n r ≡ Ok p → Took (Closed r.at p.0) r p.1
    sequence_took n r p is =
        elim (by_test (head (blanks r) == close) _ _ _ is) [
          | inl closes ↦
              subst (λ (j : List X × Rest). Took (Closed r.at j.0) r j.1) (ok_same _ _ closes.1)
              (took_then IsBlank (Just (head (blanks r) ∷ [])) (Closed r.at []) r (blanks r) (past 1 (blanks r)) (blanks_took r) (took_byte (λ b. b == close) (blanks r) closes.0 some)
              (λ u v place b e. (u, b, ap (λ (z : List ℕ). u ++ z) (e ∙ ap (λ (b : ℕ). b ∷ []) (same_number (head (blanks r)) close closes.0)))))
          | inr filled ↦
              took_then IsBlank (Filled (blanks r).at p.0) (Closed r.at p.0) r (blanks r) p.1 (blanks_took r) (elements_took n (blanks r) p filled.1)
              (λ u v place b f. closed_of r.at u v p.0 b (subst (λ (k : ℕ). Filled k p.0 v) place f))
        ]

-- Members.
member_whole : (key before after word : List ℕ) → key ++ (before ++ 58 ∷ (after ++ word)) ≡ key ++ before ++ codes ":" ++ after ++ word
member_whole key before after word =
    sym (append_assoc (key ++ before ++ codes ":") after word ∙ append_assoc (key ++ before) (codes ":") (after ++ word) ∙ append_assoc key before (58 ∷ (after ++ word)))

module _ (spell : Spelling Json) (read : Rest → Reads Json) (sound : (r : Rest) (p : Json × Rest) → read r ≡ Ok p → Took (λ w. spell r.at w p.0) r p.1) where
  abbrev Behind_colon : ℕ → Json → List ℕ → Type 0
  Behind_colon at v text = (after : List ℕ) × (word : List ℕ) × IsBlank after × spell (at + length after) word v × (text ≡ after ++ word)

  abbrev From_colon : ℕ → Json → List ℕ → Type 0
  From_colon at v text = (after : List ℕ) × (word : List ℕ) × IsBlank after × spell (at + 1 + length after) word v × (text ≡ 58 ∷ (after ++ word))

  abbrev Behind_key : ℕ → Json → List ℕ → Type 0
  Behind_key at v text = (before : List ℕ) × (rest : List ℕ) × IsBlank before × From_colon (at + length before) v rest × (text ≡ before ++ rest)

  member_took : (r : Rest) (p : (List ℕ × Json) × Rest) → member read r ≡ Ok p → Took (λ w. SpellsMember spell r.at w p.0) r p.1
  member_took r p is =
      let k = bind_ok (quoted r) _ p is in
      let c = bind_ok (this 58 (blanks k.0.1)) _ p k.2 in
      let v = bind_ok (read (blanks c.0)) _ p c.2 in
      let mid : Rest = blanks k.0.1 in
      let json : Json = v.0.0 in
      let to : Rest = v.0.1 in
      let behind = took_then IsBlank (λ w. spell (blanks c.0).at w json) (Behind_colon c.0.at json) c.0 (blanks c.0) to (blanks_took c.0) (sound (blanks c.0) v.0 v.1)
      (λ x y place b s. (x, y, b, subst (λ (n : ℕ). spell n y json) place s, refl)) in
      let colon = took_then (Just (58 ∷ [])) (Behind_colon c.0.at json) (From_colon mid.at json) mid c.0 to (this_took 58 refl mid c.0 c.1) behind
      (λ x y place e b. (
        b.0,
        b.1,
        b.2,
        subst (λ (n : ℕ). spell (n + length b.0) b.1 json) (place ∙ ap (λ (z : List ℕ). mid.at + length z) e) b.3,
        ap (λ (z : List ℕ). z ++ y) e ∙ ap (λ (z : List ℕ). 58 ∷ z) b.4,
      )) in
      let rest = took_then IsBlank (From_colon mid.at json) (Behind_key k.0.1.at json) k.0.1 mid to (blanks_took k.0.1) colon
      (λ x y place b f. (x, y, b, subst (λ (n : ℕ). From_colon n json y) place f, refl)) in
      subst (λ (j : (List ℕ × Json) × Rest). Took (λ w. SpellsMember spell r.at w j.0) r j.1) (ok_same _ _ v.2)
      (took_then (λ w. SpellsText w k.0.0) (Behind_key k.0.1.at json) (λ w. SpellsMember spell r.at w (k.0.0, json)) r k.0.1 to (quoted_took r k.0 k.1) rest
      (λ x y place t f. record {
        key = x;
        before = f.0;
        after = f.3.0;
        word = f.3.1;
        whole = ap (λ (z : List ℕ). x ++ z) (f.4 ∙ ap (λ (z : List ℕ). f.0 ++ z) f.3.4) ∙ member_whole x f.0 f.3.0 f.3.1;
        key_spelled = t;
        blank_before = f.2;
        blank_after = f.3.2;
        spelled = subst (λ (n : ℕ). spell (n + length f.0 + 1 + length f.3.0) f.3.1 json) place f.3.3;
      }))

-- Values.
abbrev Sound : ℕ → Type 0
Sound depth = (r : Rest) (p : Json × Rest) → value depth r ≡ Ok p → Took (λ w. SpellsValue depth r.at w p.0) r p.1

abbrev Inner : ℕ → ℕ → List ℕ → JsonKind → Type 0
Inner depth at = SpellsContainer (SpellsValue depth) at

module _ (depth : ℕ) (sound : Sound depth) where
  list_took : (r : Rest) → head r ≡ 91 → (q : List Json × Rest) → sequence (value depth) 93 (length r.left) (past 1 r) ≡ Ok q → Took (λ w. Inner depth r.at w (kinds.List q.0)) r q.1
  list_took r first q is =
      took_then (Just (head r ∷ [])) (Closed (SpellsValue depth) 93 (past 1 r).at q.0) (λ w. Inner depth r.at w (kinds.List q.0)) r (past 1 r) q.1 (took_byte (λ b. b == 91) r (ap (λ (b : ℕ). b == 91) first) refl)
      (sequence_took (SpellsValue depth) 93 (value depth) sound refl (length r.left) (past 1 r) q is)
      (λ x y place e c. subst (λ (w : List ℕ). Inner depth r.at w (kinds.List q.0)) (sym (ap (λ (z : List ℕ). z ++ y) (e ∙ ap (λ (b : ℕ). b ∷ []) first) ∙ ap (λ (z : List ℕ). 91 ∷ z) c.2))
      (spelling.list r.at c.0 q.0 c.1))

  object_took : (r : Rest) → head r ≡ 123 → (q : List (List ℕ × Json) × Rest) → sequence (member (value depth)) 125 (length r.left) (past 1 r) ≡ Ok q
      → Took (λ w. Inner depth r.at w (kinds.Object q.0)) r q.1
  object_took r first q is =
      took_then (Just (head r ∷ [])) (Closed (SpellsMember (SpellsValue depth)) 125 (past 1 r).at q.0) (λ w. Inner depth r.at w (kinds.Object q.0)) r (past 1 r) q.1
      (took_byte (λ b. b == 123) r (ap (λ (b : ℕ). b == 123) first) refl)
      (sequence_took (SpellsMember (SpellsValue depth)) 125 (member (value depth)) (member_took (SpellsValue depth) (value depth) sound) refl (length r.left) (past 1 r) q is)
      (λ x y place e c. subst (λ (w : List ℕ). Inner depth r.at w (kinds.Object q.0)) (sym (ap (λ (z : List ℕ). z ++ y) (e ∙ ap (λ (b : ℕ). b ∷ []) first) ∙ ap (λ (z : List ℕ). 123 ∷ z) c.2))
      (spelling.object r.at c.0 q.0 c.1))

value_took : (depth : ℕ) → Sound depth
unfolding value
value_took zero r p is = elim (by_test (head r == 91 || head r == 123) (Err (TooDeep r.at)) (scalar r) (Ok p) is) [ inl deep ↦ absurd (let e = deep.1 in cc) | inr flat ↦ scalar_took r p flat.1 ]
value_took (suc depth) r p is =
    let contained : Took (λ w. (p.0.at ≡ r.at) × Inner depth r.at w p.0.kind) r p.1 → Took (λ w. SpellsValue (suc depth) r.at w p.0) r p.1 =
    λ t. record { word = t.word; whole = t.whole; place = t.place; spelled = (t.spelled.0, inr t.spelled.1) } in
    elim (by_test (head r == 91) _ _ _ is) [
      | inl a ↦
          contained (made_took (Inner depth r.at) r kinds.List (sequence (value depth) 93 (length r.left) (past 1 r)) p a.1 (list_took depth (value_took depth) r (same_number (head r) 91 a.0)))
      | inr a ↦ elim (by_test (head r == 123) _ _ _ a.1) [
        | inl b ↦
            contained (made_took (Inner depth r.at) r kinds.Object (sequence (member (value depth)) 125 (length r.left) (past 1 r)) p b.1
            (object_took depth (value_took depth) r (same_number (head r) 123 b.0)))
        | inr b ↦ let t = scalar_took r p b.1 in record { word = t.word; whole = t.whole; place = t.place; spelled = (t.spelled.0, inl t.spelled.1) }
      ]
    ]

-- Whole texts.
none_left : (left : List ℕ) → (length left == 0) ≡ true → left ≡ []
none_left [] is = refl
none_left (x ∷ xs) is = absurd (no_length (length xs) is) where
  no_length : (n : ℕ) → (suc n == 0) ≡ true → ⊥
  no_length n h = grind (arith, nat_tests)

document_spelled : (depth : ℕ) (bytes : List ℕ) (json : Json) → document depth bytes ≡ Ok json → SpellsJson depth bytes json
unfolding document
document_spelled depth bytes json is =
    let start : Rest = rest_at 0 bytes in
    let v = bind_ok (value depth (blanks start)) _ json is in
    let last : Rest = blanks v.0.1 in
    elim (by_test (length last.left == 0) _ _ _ v.2) [
      | inl all ↦
          let before = blanks_took start in
          let inside = value_took depth (blanks start) v.0 v.1 in
          let after = blanks_took v.0.1 in
          let ends : v.0.1.left ≡ after.word = after.whole ∙ ap (λ (z : List ℕ). after.word ++ z) (none_left last.left all.0) ∙ append-nil after.word in
          let whole : bytes ≡ before.word ++ inside.word ++ after.word =
          before.whole ∙ ap (λ (z : List ℕ). before.word ++ z) (inside.whole ∙ ap (λ (z : List ℕ). inside.word ++ z) ends) ∙ sym (append_assoc before.word inside.word after.word) in
          subst (SpellsJson depth bytes) (ok_same _ _ all.1)
          (record {
            before = before.word;
            word = inside.word;
            after = after.word;
            whole = whole;
            blank_before = before.spelled;
            blank_after = after.spelled;
            spelled = subst (λ (n : ℕ). SpellsValue depth n inside.word v.0.0) before.place inside.spelled;
          })
      | inr more ↦ absurd (let e = more.1 in cc)
    ]

-- what is read is spelled
pub value_spelled : (bytes : List ℕ) (depth : ℕ) (json : Json) → json_text bytes depth ≡ Ok json → SpellsJson depth bytes json
value_spelled bytes depth json is =
    elim (by_test (utf8_valid_len bytes == length bytes) _ _ _ is) [ inl utf8 ↦ document_spelled depth bytes json utf8.1 | inr bad ↦ absurd (let e = bad.1 in cc) ]
