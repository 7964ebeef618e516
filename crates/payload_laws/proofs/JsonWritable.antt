-- A value of JSON that UTF-8 spells is writable.
use Rattle.std.proofs.Common.{◌≡◌, ◌∙◌, ℕ, zero, suc, ◌+◌, ◌≤◌, ◌<◌, Bool, true, false, List, [], ◌∷◌, ◌++◌, length, inl, inr, refl, sym, ap, subst, arith, append_assoc}
use Rattle.std.specs.Prelude.{◌==◌, ◌&&◌, codes}
use Rattle.std.specs.List.{All, list_all, list_any}
use Rattle.std.specs.Str.{IsUtf8}
use Rattle.std.proofs.lemmas.Bool.Decides.{nat_tests}
use Rattle.std.proofs.lemmas.List.{append-nil}
use Rattle.std.proofs.lemmas.List.Elements.{All-nil, All-cons, All-append}
use Rattle.std.proofs.lemmas.Str.{IsUtf8-nil}
use Rattle.pdata_value.specs.Numeral.{IsNumeral}
use Rattle.json_text.specs.Kinds.{Layer, Member}
use Rattle.json_text.specs.Placed.{containers, containers_step, containers_step_json}
use Rattle.json_text.specs.Spelling as spelling
use Rattle.json_text.specs.Spelling.{Spelling, IsBlank, Padded, SpellsMore, SpellsAll, SpellsMember, SpellsScalar, SpellsContainer, SpellsValue, SpellsJson}
use Rattle.json_text.specs.Writing.{numbers_of, numbers_step, numbers_step_json, texts_of, texts_step, texts_step_json}
use Rattle.json_text.specs.declared.json.Json.{Json}
use Rattle.json_text.specs.declared.json.JsonKind.{JsonKind, roll-JsonKind}
use Rattle.json_text.specs.declared.json.JsonKind.TheVariants as kinds
use Rattle.json_text.specs.declared.json.JsonKind.TheOpen.{JsonKind-F}
use Rattle.json_text.specs.declared.json.JsonKind.TheFolds.{fold-JsonKind, fold-roll-JsonKind, fold_out-Json}
use Rattle.json_text.proofs.Layers.{deepest_item, deepest_member, deepest-none, deepest-cons, item_numbers, item_texts, member_numbers, member_texts, containers-List, containers-Object, numbers-Truth, numbers-Number, numbers-List, numbers-Object, texts-Text, texts-List, texts-Object}
use Rattle.payload_laws.specs.Writable.{IsWritable}
use Rattle.payload_laws.proofs.Seams.{AllLow, before_byte, from_byte, after_byte, after_low, before_low}
use Rattle.payload_laws.proofs.TextUtf8.{text_utf8}

-- Values without brackets.

module _ (json : Json) where
  containers-flat : (layer : Layer) (n : ℕ) → json.kind ≡ roll-JsonKind layer
      → fold-JsonKind ℕ ℕ containers_step containers_step_json (roll-JsonKind layer) ≡ n → containers json ≡ n
  unfolding containers
  containers-flat layer n is none =
      fold_out-Json ℕ ℕ containers_step containers_step_json json ∙ ap (fold-JsonKind ℕ ℕ containers_step containers_step_json) is ∙ none

  numbers-flat : (layer : Layer) (ns : List (List ℕ)) → json.kind ≡ roll-JsonKind layer
      → fold-JsonKind (List (List ℕ)) (List (List ℕ)) numbers_step numbers_step_json (roll-JsonKind layer) ≡ ns → numbers_of json ≡ ns
  unfolding numbers_of
  numbers-flat layer ns is none =
      fold_out-Json (List (List ℕ)) (List (List ℕ)) numbers_step numbers_step_json json
      ∙ ap (fold-JsonKind (List (List ℕ)) (List (List ℕ)) numbers_step numbers_step_json) is ∙ none

  texts-flat : (layer : Layer) (ts : List (List ℕ)) → json.kind ≡ roll-JsonKind layer
      → fold-JsonKind (List (List ℕ)) (List (List ℕ)) texts_step texts_step_json (roll-JsonKind layer) ≡ ts → texts_of json ≡ ts
  unfolding texts_of
  texts-flat layer ts is none =
      fold_out-Json (List (List ℕ)) (List (List ℕ)) texts_step texts_step_json json
      ∙ ap (fold-JsonKind (List (List ℕ)) (List (List ℕ)) texts_step texts_step_json) is ∙ none

-- a value without brackets, of these numbers and texts
flat : (depth : ℕ) (json : Json) (ns ts : List (List ℕ)) → containers json ≡ 0 → numbers_of json ≡ ns → texts_of json ≡ ts → All IsNumeral ns → All IsUtf8 ts
    → IsWritable depth json
flat depth json ns ts nesting numbers texts numerals utf8 = record {
  nesting = omega (arith, nesting);
  numerals = rw numbers numerals;
  texts = rw texts utf8;
}

module _ (depth : ℕ) (json : Json) where
  null_writable : json.kind ≡ kinds.Null → IsWritable depth json
  null_writable is =
      let rolled : json.kind ≡ roll-JsonKind JsonKind-F.Null = is ∙ sym kinds.rolls-Null in
      flat depth json [] [] (containers-flat json JsonKind-F.Null 0 rolled (fold-roll-JsonKind ℕ ℕ containers_step containers_step_json JsonKind-F.Null))
      (numbers-flat json JsonKind-F.Null [] rolled (fold-roll-JsonKind (List (List ℕ)) (List (List ℕ)) numbers_step numbers_step_json JsonKind-F.Null))
      (texts-flat json JsonKind-F.Null [] rolled (fold-roll-JsonKind (List (List ℕ)) (List (List ℕ)) texts_step texts_step_json JsonKind-F.Null)) (All-nil IsNumeral)
      (All-nil IsUtf8)

  truth_writable : (b : Bool) → json.kind ≡ kinds.Truth b → IsWritable depth json
  truth_writable b is =
      let rolled : json.kind ≡ roll-JsonKind (JsonKind-F.Truth b) = is ∙ sym (kinds.rolls-Truth b) in
      flat depth json [] [] (containers-flat json (JsonKind-F.Truth b) 0 rolled (fold-roll-JsonKind ℕ ℕ containers_step containers_step_json (JsonKind-F.Truth b)))
      (numbers-Truth json b is)
      (texts-flat json (JsonKind-F.Truth b) [] rolled (fold-roll-JsonKind (List (List ℕ)) (List (List ℕ)) texts_step texts_step_json (JsonKind-F.Truth b))) (All-nil IsNumeral)
      (All-nil IsUtf8)

  number_writable : (s : List ℕ) → json.kind ≡ kinds.Number s → IsNumeral s → IsWritable depth json
  number_writable s is numeral =
      let rolled : json.kind ≡ roll-JsonKind (JsonKind-F.Number s) = is ∙ sym (kinds.rolls-Number s) in
      flat depth json (s ∷ []) []
      (containers-flat json (JsonKind-F.Number s) 0 rolled (fold-roll-JsonKind ℕ ℕ containers_step containers_step_json (JsonKind-F.Number s))) (numbers-Number json s is)
      (texts-flat json (JsonKind-F.Number s) [] rolled (fold-roll-JsonKind (List (List ℕ)) (List (List ℕ)) texts_step texts_step_json (JsonKind-F.Number s)))
      (All-cons IsNumeral s [] numeral (All-nil IsNumeral)) (All-nil IsUtf8)

  text_writable : (s : List ℕ) → json.kind ≡ kinds.Text s → IsUtf8 s → IsWritable depth json
  text_writable s is utf8 =
      let rolled : json.kind ≡ roll-JsonKind (JsonKind-F.Text s) = is ∙ sym (kinds.rolls-Text s) in
      flat depth json [] (s ∷ [])
      (containers-flat json (JsonKind-F.Text s) 0 rolled (fold-roll-JsonKind ℕ ℕ containers_step containers_step_json (JsonKind-F.Text s)))
      (numbers-flat json (JsonKind-F.Text s) [] rolled (fold-roll-JsonKind (List (List ℕ)) (List (List ℕ)) numbers_step numbers_step_json (JsonKind-F.Text s))) (texts-Text json s is)
      (All-nil IsNumeral) (All-cons IsUtf8 s [] utf8 (All-nil IsUtf8))

scalar_writable : (depth : ℕ) (json : Json) (text : List ℕ) (kind : JsonKind) → json.kind ≡ kind → SpellsScalar text kind → IsUtf8 text → IsWritable depth json
scalar_writable depth json _ _ is spelling.null_word utf8 = null_writable depth json is
scalar_writable depth json _ _ is spelling.true_word utf8 = truth_writable depth json true is
scalar_writable depth json _ _ is spelling.false_word utf8 = truth_writable depth json false is
scalar_writable depth json _ _ is (spelling.numeral s numeral) utf8 = number_writable depth json s is numeral
scalar_writable depth json _ _ is (spelling.in_quotes word text spelled) utf8 = text_writable depth json text is (text_utf8 word text spelled utf8)

-- Elements and members.

record WritableItems (depth : ℕ) (items : List Json) : Type 0 where
  nesting : deepest_item items ≤ depth
  numerals : All IsNumeral (item_numbers items)
  texts : All IsUtf8 (item_texts items)

no_items : (depth : ℕ) → WritableItems depth []
no_items depth = record { nesting = omega (arith, deepest-none); numerals = All-nil IsNumeral; texts = All-nil IsUtf8 }

more_items : (depth : ℕ) (j : Json) (js : List Json) → IsWritable depth j → WritableItems depth js → WritableItems depth (j ∷ js)
more_items depth j js here rest = record {
  nesting = rw (deepest-cons j js) (omega (arith, here.nesting, rest.nesting));
  numerals = All-append IsNumeral (numbers_of j) (item_numbers js) here.numerals rest.numerals;
  texts = All-append IsUtf8 (texts_of j) (item_texts js) here.texts rest.texts;
}

record WritableMembers (depth : ℕ) (members : List Member) : Type 0 where
  nesting : deepest_member members ≤ depth
  numerals : All IsNumeral (member_numbers members)
  texts : All IsUtf8 (member_texts members)

no_members : (depth : ℕ) → WritableMembers depth []
no_members depth = record { nesting = omega arith; numerals = All-nil IsNumeral; texts = All-nil IsUtf8 }

-- a key that is UTF-8, and a writable value
abbrev WritableMember : ℕ → Member → Type 0
WritableMember depth m = IsUtf8 m.0 × IsWritable depth m.1

more_members : (depth : ℕ) (m : Member) (ms : List Member) → WritableMember depth m → WritableMembers depth ms → WritableMembers depth (m ∷ ms)
more_members depth m ms here rest = record {
  nesting = omega (arith, here.1.nesting, rest.nesting);
  numerals = All-append IsNumeral (numbers_of m.1) (member_numbers ms) here.1.numerals rest.numerals;
  texts = All-cons IsUtf8 m.0 _ here.0 (All-append IsUtf8 (texts_of m.1) (member_texts ms) here.1.texts rest.texts);
}

-- What stands between brackets.

white_low : (b : ℕ) → list_any (λ c. b == c) (32 ∷ 9 ∷ 10 ∷ 13 ∷ []) ≡ true → b < 128
white_low b is = grind (arith, nat_tests)

both_of : (s t : Bool) → (s && t) ≡ true → (s ≡ true) × (t ≡ true)
both_of true t h = (refl, h)
both_of false t h = absurd cc

blank_low : (text : List ℕ) → IsBlank text → AllLow text
blank_low [] blank = tt
blank_low (b ∷ bs) blank =
    let parts = both_of (list_any (λ c. b == c) (32 ∷ 9 ∷ 10 ∷ 13 ∷ [])) (list_all (λ d. list_any (λ c. d == c) (32 ∷ 9 ∷ 10 ∷ 13 ∷ [])) bs) blank in
    (white_low b parts.0, blank_low bs parts.1)

module _ {X : Type 0} (spell : Spelling X) (One : X → Type 0) (Several : List X → Type 0)
    (one : (at : ℕ) (word : List ℕ) (x : X) → spell at word x → IsUtf8 word → One x) (none : Several [])
    (more : (x : X) (xs : List X) → One x → Several xs → Several (x ∷ xs)) where
  padded_utf8 : (at : ℕ) (text : List ℕ) (x : X) → Padded spell at text x → IsUtf8 text → One x
  padded_utf8 at text x p utf8 =
      let whole : IsUtf8 ((p.before ++ p.word) ++ p.after) = subst IsUtf8 p.whole utf8 in
      let word : IsUtf8 p.word = after_low p.before p.word (blank_low p.before p.blank_before) (before_low (p.before ++ p.word) p.after (blank_low p.after p.blank_after) whole) in
      one (at + length p.before) p.word x p.spelled word

  -- what follows an element is nothing, or begins with a comma
  cut : (at : ℕ) (front back : List ℕ) (xs : List X) → SpellsMore spell at back xs → IsUtf8 (front ++ back) → IsUtf8 front × IsUtf8 back
  cut at front back [] others utf8 =
      (subst IsUtf8 (append-nil front) (subst (λ (b : List ℕ). IsUtf8 (front ++ b)) others utf8), subst IsUtf8 (sym others) IsUtf8-nil)
  cut at front back (x ∷ xs) others utf8 =
      let whole : IsUtf8 (front ++ 44 ∷ (others.0 ++ others.1)) = subst (λ (b : List ℕ). IsUtf8 (front ++ b)) others.2 utf8 in
      (before_byte front 44 (others.0 ++ others.1) (omega arith) whole, subst IsUtf8 (sym others.2) (from_byte front 44 (others.0 ++ others.1) (omega arith) whole))

  more_utf8 : (at : ℕ) (text : List ℕ) (xs : List X) → SpellsMore spell at text xs → IsUtf8 text → Several xs
  more_utf8 at text [] h utf8 = none
  more_utf8 at text (x ∷ xs) h utf8 =
      let behind : IsUtf8 (h.0 ++ h.1) = after_byte [] 44 (h.0 ++ h.1) (omega arith) (subst IsUtf8 h.2 utf8) in
      let parts = cut (at + 1 + length h.0) h.0 h.1 xs h.4 behind in
      more x xs (padded_utf8 (at + 1) h.0 x h.3 parts.0) (more_utf8 (at + 1 + length h.0) h.1 xs h.4 parts.1)

  all_utf8 : (at : ℕ) (text : List ℕ) (xs : List X) → SpellsAll spell at text xs → IsUtf8 text → Several xs
  all_utf8 at text [] h utf8 = none
  all_utf8 at text (x ∷ xs) h utf8 =
      let parts = cut (at + length h.0) h.0 h.1 xs h.4 (subst IsUtf8 h.2 utf8) in
      more x xs (padded_utf8 at h.0 x h.3 parts.0) (more_utf8 (at + length h.0) h.1 xs h.4 parts.1)

-- Values.

abbrev Sound : ℕ → Type 0
Sound depth = (at : ℕ) (text : List ℕ) (json : Json) → SpellsValue depth at text json → IsUtf8 text → IsWritable depth json

module _ (depth : ℕ) (sound : Sound depth) where
  member_writable : (at : ℕ) (text : List ℕ) (m : Member) → SpellsMember (SpellsValue depth) at text m → IsUtf8 text → WritableMember depth m
  member_writable at text m h utf8 =
      let whole : text ≡ (h.key ++ h.before) ++ 58 ∷ (h.after ++ h.word) =
      h.whole ∙ append_assoc (h.key ++ h.before ++ codes ":") h.after h.word ∙ append_assoc (h.key ++ h.before) (codes ":") (h.after ++ h.word) in
      let cut : IsUtf8 ((h.key ++ h.before) ++ 58 ∷ (h.after ++ h.word)) = subst IsUtf8 whole utf8 in
      let key : IsUtf8 h.key = before_low h.key h.before (blank_low h.before h.blank_before) (before_byte (h.key ++ h.before) 58 (h.after ++ h.word) (omega arith) cut) in
      let word : IsUtf8 h.word = after_low h.after h.word (blank_low h.after h.blank_after) (after_byte (h.key ++ h.before) 58 (h.after ++ h.word) (omega arith) cut) in
      (text_utf8 h.key m.0 h.key_spelled key, sound (at + length h.key + length h.before + 1 + length h.after) h.word m.1 h.spelled word)

  list_writable : (json : Json) (items : List Json) → json.kind ≡ kinds.List items → WritableItems depth items → IsWritable (suc depth) json
  list_writable json items is all = record {
    nesting = rw (containers-List json items is) (omega (arith, all.nesting));
    numerals = rw (numbers-List json items is) all.numerals;
    texts = rw (texts-List json items is) all.texts;
  }

  object_writable : (json : Json) (members : List Member) → json.kind ≡ kinds.Object members → WritableMembers depth members → IsWritable (suc depth) json
  object_writable json members is all = record {
    nesting = rw (containers-Object json members is) (omega (arith, all.nesting));
    numerals = rw (numbers-Object json members is) all.numerals;
    texts = rw (texts-Object json members is) all.texts;
  }

  container_writable : (json : Json) (at : ℕ) (text : List ℕ) (kind : JsonKind) → json.kind ≡ kind → SpellsContainer (SpellsValue depth) at text kind → IsUtf8 text → IsWritable (suc depth) json
  container_writable json _ _ _ is (spelling.list at inside items all) utf8 =
      let inner : IsUtf8 inside = before_byte inside 93 [] (omega arith) (after_byte [] 91 (inside ++ 93 ∷ []) (omega arith) utf8) in
      list_writable json items is (all_utf8 (SpellsValue depth) (IsWritable depth) (WritableItems depth) sound (no_items depth) (more_items depth) (at + 1) inside items all inner)
  container_writable json _ _ _ is (spelling.object at inside members all) utf8 =
      let inner : IsUtf8 inside = before_byte inside 125 [] (omega arith) (after_byte [] 123 (inside ++ 125 ∷ []) (omega arith) utf8) in
      object_writable json members is
      (all_utf8 (SpellsMember (SpellsValue depth)) (WritableMember depth) (WritableMembers depth) member_writable (no_members depth) (more_members depth) (at + 1) inside members all inner)

value_writable : (depth : ℕ) → Sound depth
value_writable zero at text json h utf8 = scalar_writable zero json text json.kind refl h.1 utf8
value_writable (suc depth) at text json (place, inl h) utf8 = scalar_writable (suc depth) json text json.kind refl h utf8
value_writable (suc depth) at text json (place, inr h) utf8 = container_writable depth (value_writable depth) json at text json.kind refl h utf8

-- a whole text
pub spelled_writable : (depth : ℕ) (text : List ℕ) (json : Json) → SpellsJson depth text json → IsUtf8 text → IsWritable depth json
spelled_writable depth text json h utf8 =
    padded_utf8 (SpellsValue depth) (IsWritable depth) (WritableItems depth) (value_writable depth) (no_items depth) (more_items depth) 0 text json h utf8
