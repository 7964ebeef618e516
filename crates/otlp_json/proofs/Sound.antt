-- JSON that is written can be read again: few enough containers, numerals, and texts in UTF-8.
use Rattle.std.proofs.Common.{◌≡◌, ◌∙◌, ℕ, ℤ, zero, suc, ◌<◌, ◌≤◌, ◌^◌, ◌==◌, Bool, true, false, List, [], ◌∷◌, ◌++◌, Option, Some, None, nat_lt, refl, sym, ap, arith, cond, pos, negsuc, inl, inr, SFits, w64, get_or}
use Rattle.std.specs.Prelude.{◌&&◌, codes}
use Rattle.std.specs.List.{All, list_all}
use Rattle.std.specs.Str.{IsUtf8, IsAscii}
use Rattle.std.specs.Fmt as fmt
use Rattle.std.specs.Str.Parse.{AllDigits}
use Rattle.std.proofs.lemmas.Bool.Decides.{nat_tests}
use Rattle.std.proofs.lemmas.Int.{ints}
use Rattle.std.proofs.lemmas.List.Elements.{All-nil, All-cons, All-head, All-tail, All-append}
use Rattle.std.proofs.lemmas.Fmt.{decimal_is_IsNumeral, decimal_digit, first_decimal}
use Rattle.std.proofs.lemmas.Str.{IsUtf8-from_ascii}
use Rattle.std.proofs.lemmas.Str.Ascii.{IsAscii-nil, IsAscii-cons}
use Rattle.std.proofs.lemmas.Str.Parse.{digit_from_value}
use Rattle.hex.specs.Hex.{encode_lower, lower_digits}
use Rattle.hex.proofs.HexLemmas.{IsAscii-encode_with}
use Rattle.base64.specs.Engines.{standard}
use Rattle.base64.specs.GeneralPurpose as base64
use Rattle.base64.proofs.EngineFacts.{IsAscii-encode_of}
use Rattle.pdata_value.specs.Numeral.{IsNumeral, IsSpelling, is_digit, is_leading}
use Rattle.pdata_value.specs.Scan.{after_digits, is_unsigned, is_numeral}
use Rattle.pdata_value.proofs.Numerals.{numeral_spelled}
use Rattle.json_text.specs.Kinds.{Member}
use Rattle.json_text.specs.Placed.{containers, containers_step, containers_step_json}
use Rattle.json_text.specs.Writing.{numbers_of, texts_of, numbers_step, numbers_step_json, texts_step, texts_step_json}
use Rattle.json_text.specs.declared.json.Json.{Json}
use Rattle.json_text.specs.declared.json.JsonKind.TheVariants as kinds
use Rattle.json_text.specs.declared.json.JsonKind.TheOpen.{JsonKind-F}
use Rattle.json_text.specs.declared.json.JsonKind.TheFolds.{fold-JsonKind, fold-roll-JsonKind, fold_out-Json}
use Rattle.json_text.proofs.Layers.{deepest_item, deepest-none, deepest-cons, deepest_member, item_numbers, item_texts, member_numbers, member_texts, containers-List, containers-Object, numbers-Truth, numbers-Number, numbers-List, numbers-Object, texts-Text, texts-List, texts-Object}
use Rattle.json_text.proofs.Utf8.{numeral_utf8}
use Rattle.otlp_json.specs.Line.{text_json, number_json, truth_json, list_json, object_json, is_word, double_json}
use Rattle.otlp_json.proofs.Pieces.{Piece, members_by, present, optional}

-- a value of JSON that can be written and read again where containers may nest so deep
pub record Sound (json : Json) (depth : ℕ) : Type 0 where
  pub deep : containers json ≤ depth
  pub numerals : All IsNumeral (numbers_of json)
  pub texts : All IsUtf8 (texts_of json)

-- members likewise
pub record SoundMembers (ms : List Member) (depth : ℕ) : Type 0 where
  pub deep : deepest_member ms ≤ depth
  pub numerals : All IsNumeral (member_numbers ms)
  pub texts : All IsUtf8 (member_texts ms)

pub sound-deeper : (json : Json) (d e : ℕ) → d ≤ e → Sound json d → Sound json e
sound-deeper json d e more s = record { deep = omega (arith, s.deep); numerals = s.numerals; texts = s.texts }

pub members-deeper : (ms : List Member) (d e : ℕ) → d ≤ e → SoundMembers ms d → SoundMembers ms e
members-deeper ms d e more s = record { deep = omega (arith, s.deep); numerals = s.numerals; texts = s.texts }

-- Leaves.

containers-Text : (t : List ℕ) → containers (text_json t) ≡ 0
unfolding containers
containers-Text t =
    fold_out-Json ℕ ℕ containers_step containers_step_json (text_json t) ∙ ap (fold-JsonKind ℕ ℕ containers_step containers_step_json) (sym (kinds.rolls-Text t))
    ∙ fold-roll-JsonKind ℕ ℕ containers_step containers_step_json (JsonKind-F.Text t)

containers-Number : (t : List ℕ) → containers (number_json t) ≡ 0
unfolding containers
containers-Number t =
    fold_out-Json ℕ ℕ containers_step containers_step_json (number_json t) ∙ ap (fold-JsonKind ℕ ℕ containers_step containers_step_json) (sym (kinds.rolls-Number t))
    ∙ fold-roll-JsonKind ℕ ℕ containers_step containers_step_json (JsonKind-F.Number t)

containers-Truth : (b : Bool) → containers (truth_json b) ≡ 0
unfolding containers
containers-Truth b =
    fold_out-Json ℕ ℕ containers_step containers_step_json (truth_json b) ∙ ap (fold-JsonKind ℕ ℕ containers_step containers_step_json) (sym (kinds.rolls-Truth b))
    ∙ fold-roll-JsonKind ℕ ℕ containers_step containers_step_json (JsonKind-F.Truth b)

numbers-Text : (t : List ℕ) → numbers_of (text_json t) ≡ []
unfolding numbers_of
numbers-Text t =
    fold_out-Json (List (List ℕ)) (List (List ℕ)) numbers_step numbers_step_json (text_json t)
    ∙ ap (fold-JsonKind (List (List ℕ)) (List (List ℕ)) numbers_step numbers_step_json) (sym (kinds.rolls-Text t))
    ∙ fold-roll-JsonKind (List (List ℕ)) (List (List ℕ)) numbers_step numbers_step_json (JsonKind-F.Text t)

texts-Number : (t : List ℕ) → texts_of (number_json t) ≡ []
unfolding texts_of
texts-Number t =
    fold_out-Json (List (List ℕ)) (List (List ℕ)) texts_step texts_step_json (number_json t)
    ∙ ap (fold-JsonKind (List (List ℕ)) (List (List ℕ)) texts_step texts_step_json) (sym (kinds.rolls-Number t))
    ∙ fold-roll-JsonKind (List (List ℕ)) (List (List ℕ)) texts_step texts_step_json (JsonKind-F.Number t)

texts-Truth : (b : Bool) → texts_of (truth_json b) ≡ []
unfolding texts_of
texts-Truth b =
    fold_out-Json (List (List ℕ)) (List (List ℕ)) texts_step texts_step_json (truth_json b)
    ∙ ap (fold-JsonKind (List (List ℕ)) (List (List ℕ)) texts_step texts_step_json) (sym (kinds.rolls-Truth b))
    ∙ fold-roll-JsonKind (List (List ℕ)) (List (List ℕ)) texts_step texts_step_json (JsonKind-F.Truth b)

pub sound-text : (t : List ℕ) (d : ℕ) → IsUtf8 t → Sound (text_json t) d
sound-text t d utf8 = record {
  deep = rw (containers-Text t) (omega arith);
  numerals = rw (numbers-Text t) (All-nil IsNumeral);
  texts = rw (texts-Text (text_json t) t refl) (All-cons IsUtf8 t [] utf8 (All-nil IsUtf8));
}

pub sound-number : (t : List ℕ) (d : ℕ) → IsNumeral t → Sound (number_json t) d
sound-number t d numeral = record {
  deep = rw (containers-Number t) (omega arith);
  numerals = rw (numbers-Number (number_json t) t refl) (All-cons IsNumeral t [] numeral (All-nil IsNumeral));
  texts = rw (texts-Number t) (All-nil IsUtf8);
}

pub sound-truth : (b : Bool) (d : ℕ) → Sound (truth_json b) d
sound-truth b d = record {
  deep = rw (containers-Truth b) (omega arith);
  numerals = rw (numbers-Truth (truth_json b) b refl) (All-nil IsNumeral);
  texts = rw (texts-Truth b) (All-nil IsUtf8);
}

-- Lists and objects.

record SoundItems (js : List Json) (depth : ℕ) : Type 0 where
  pub deep : deepest_item js ≤ depth
  pub numerals : All IsNumeral (item_numbers js)
  pub texts : All IsUtf8 (item_texts js)

sound-items : (js : List Json) (d : ℕ) → All (λ j. Sound j d) js → SoundItems js d
sound-items [] d all = record { deep = rw deepest-none (omega arith); numerals = All-nil IsNumeral; texts = All-nil IsUtf8 }
sound-items (j ∷ js) d all =
    let here : Sound j d = All-head (λ j. Sound j d) j js all in
    let rest = sound-items js d (All-tail (λ j. Sound j d) j js all) in
    record {
      deep = rw (deepest-cons j js) (omega (arith, here.deep, rest.deep));
      numerals = All-append IsNumeral (numbers_of j) (item_numbers js) here.numerals rest.numerals;
      texts = All-append IsUtf8 (texts_of j) (item_texts js) here.texts rest.texts;
    }

pub sound-list : (js : List Json) (d : ℕ) → All (λ j. Sound j d) js → Sound (list_json js) (suc d)
sound-list js d all =
    let s = sound-items js d all in
    record {
      deep = rw (containers-List (list_json js) js refl) (omega (arith, s.deep));
      numerals = rw (numbers-List (list_json js) js refl) s.numerals;
      texts = rw (texts-List (list_json js) js refl) s.texts;
    }

pub sound-object : (ms : List Member) (d : ℕ) → SoundMembers ms d → Sound (object_json ms) (suc d)
sound-object ms d s = record {
  deep = rw (containers-Object (object_json ms) ms refl) (omega (arith, s.deep));
  numerals = rw (numbers-Object (object_json ms) ms refl) s.numerals;
  texts = rw (texts-Object (object_json ms) ms refl) s.texts;
}

pub members-none : (d : ℕ) → SoundMembers [] d
members-none d = record { deep = omega arith; numerals = All-nil IsNumeral; texts = All-nil IsUtf8 }

pub members-cons : (key : List ℕ) (json : Json) (ms : List Member) (d : ℕ) → IsUtf8 key → Sound json d → SoundMembers ms d → SoundMembers ((key, json) ∷ ms) d
members-cons key json ms d utf8 here rest = record {
  deep = omega (arith, here.deep, rest.deep);
  numerals = All-append IsNumeral (numbers_of json) (member_numbers ms) here.numerals rest.numerals;
  texts = All-cons IsUtf8 key _ utf8 (All-append IsUtf8 (texts_of json) (member_texts ms) here.texts rest.texts);
}

-- Members that may be left out.

abbrev pub SoundOption : Option Json → ℕ → Type 0
SoundOption None depth = Unit {0}
SoundOption (Some json) depth = Sound json depth

abbrev pub SoundPieces : List Piece → ℕ → Type 0
SoundPieces [] depth = Unit {0}
SoundPieces (p ∷ ps) depth = IsUtf8 p.0 × SoundOption p.1 depth × SoundPieces ps depth

pub sound-optional : (absent : Bool) (json : Json) (d : ℕ) → Sound json d → SoundOption (optional absent json) d
sound-optional true json d here = tt
sound-optional false json d here = here

piece-sound : (key : List ℕ) (o : Option Json) (ms : List Member) (d : ℕ) → IsUtf8 key → SoundOption o d → SoundMembers ms d → SoundMembers (members_by key o ++ ms) d
piece-sound key None ms d utf8 here rest = rest
piece-sound key (Some json) ms d utf8 here rest = members-cons key json ms d utf8 here rest

pub present-sound : (ps : List Piece) (d : ℕ) → SoundPieces ps d → SoundMembers (present ps) d
present-sound [] d sound = members-none d
present-sound (p ∷ ps) d sound = piece-sound p.0 p.1 (present ps) d sound.0 sound.1 (present-sound ps d sound.2)

-- Keys, and the texts that fields are written as.

low_is : (b : ℕ) → nat_lt b 128 ≡ true → b < 128
low_is b is = grind (arith, nat_tests)

ascii_step : (t u : Bool) → (t && u) ≡ true → (t ≡ true) × (u ≡ true)
ascii_step true u is = (refl, is)
ascii_step false u is = absurd cc

ascii-is : (t : List ℕ) → list_all (λ b. nat_lt b 128) t ≡ true → IsAscii t
ascii-is [] is = IsAscii-nil
ascii-is (b ∷ bs) is =
    let parts = ascii_step (nat_lt b 128) (list_all (λ c. nat_lt c 128) bs) is in
    IsAscii-cons b bs (low_is b parts.0) (ascii-is bs parts.1)

pub utf8-is : (t : List ℕ) → list_all (λ b. nat_lt b 128) t ≡ true → IsUtf8 t
utf8-is t is = IsUtf8-from_ascii t (ascii-is t is)

pub utf8-hex : (bytes : List ℕ) → IsUtf8 (encode_lower bytes)
utf8-hex bytes = IsUtf8-from_ascii (encode_lower bytes) (IsAscii-encode_with lower_digits bytes (ascii-is lower_digits refl))

pub utf8-base64 : (bytes : List ℕ) → IsUtf8 (base64.encode_of standard bytes)
utf8-base64 bytes = IsUtf8-from_ascii (base64.encode_of standard bytes) (IsAscii-encode_of standard bytes)

-- Decimals are numerals.

digit-is : (b : ℕ) → 48 ≤ b → b ≤ 57 → is_digit b ≡ true
digit-is b low high = grind (arith, nat_tests)

all-after : (ds : List ℕ) → AllDigits 10 ds → after_digits ds ≡ []
all-after [] d = refl
all-after (b ∷ bs) d =
    let k = digit_from_value b d.0 in
    rw (digit-is b (omega (arith, k)) (omega (arith, k))) (all-after bs d.1)

other-byte : (a b : ℕ) → a < b → (b == a) ≡ false
other-byte a b h = grind (arith, nat_tests)

lead-is : (b : ℕ) → 49 ≤ b → b ≤ 57 → is_leading b ≡ true
lead-is b low high = grind (arith, nat_tests)

unsigned-is : (ds : List ℕ) → AllDigits 10 ds → 48 < get_or ds 0 0 → is_unsigned ds ≡ true
unsigned-is [] d lead = absurd (omega arith)
unsigned-is (b ∷ bs) d lead =
    let k = digit_from_value b d.0 in
    rw (other-byte 48 b lead, lead-is b lead (omega (arith, k)), all-after bs d.1) refl

numeral-is : (ds : List ℕ) → AllDigits 10 ds → 48 < get_or ds 0 0 → is_numeral ds ≡ true
numeral-is [] d lead = absurd (omega arith)
numeral-is (b ∷ bs) d lead =
    let first : 48 < b = lead in
    rw (other-byte 45 b (omega (arith, first))) (unsigned-is (b ∷ bs) d lead)

pub numeral-decimal : (n : ℕ) → n < 2 ^ 64 → IsNumeral (fmt.decimal n)
numeral-decimal zero small = numeral_spelled (fmt.decimal 0) (rw (decimal_digit 0 (omega arith)) refl)
numeral-decimal (suc n) small =
    let k = decimal_is_IsNumeral (suc n) small in
    numeral_spelled (fmt.decimal (suc n)) (numeral-is (fmt.decimal (suc n)) k.0.1 (first_decimal (suc n) (omega arith) small))

pub numeral-signed : (z : ℤ) → SFits w64 z → IsNumeral (fmt.signed_decimal z)
numeral-signed (pos n) fits = numeral-decimal n (omega (arith, ints))
numeral-signed (negsuc n) fits =
    let small : suc n < 2 ^ 64 = omega (arith, ints) in
    let k = decimal_is_IsNumeral (suc n) small in
    numeral_spelled (fmt.signed_decimal (negsuc n)) (unsigned-is (fmt.decimal (suc n)) k.0.1 (first_decimal (suc n) (omega arith) small))

pub utf8-decimal : (n : ℕ) → n < 2 ^ 64 → IsUtf8 (fmt.decimal n)
utf8-decimal n small = numeral_utf8 (fmt.decimal n) (numeral-decimal n small)

pub utf8-signed : (z : ℤ) → SFits w64 z → IsUtf8 (fmt.signed_decimal z)
utf8-signed z fits = numeral_utf8 (fmt.signed_decimal z) (numeral-signed z fits)

-- Doubles.

utf8-spelling : (s : List ℕ) → IsSpelling s → IsUtf8 s
utf8-spelling s (inl h) = numeral_utf8 s h
utf8-spelling s (inr (inl e)) = rw e (utf8-is (codes "NaN") refl)
utf8-spelling s (inr (inr (inl e))) = rw e (utf8-is (codes "Infinity") refl)
utf8-spelling s (inr (inr (inr e))) = rw e (utf8-is (codes "-Infinity") refl)

true-false : {P : Type 0} → true ≡ false → P
true-false is = absurd cc

no_word-numeral : (s : List ℕ) → is_word s ≡ false → IsSpelling s → IsNumeral s
no_word-numeral s is (inl h) = h
no_word-numeral s is (inr (inl e)) = true-false (rw e at is)
no_word-numeral s is (inr (inr (inl e))) = true-false (rw e at is)
no_word-numeral s is (inr (inr (inr e))) = true-false (rw e at is)

double_by : (s : List ℕ) (d : ℕ) (t : Bool) → is_word s ≡ t → IsSpelling s → Sound (cond t (text_json s) (number_json s)) d
double_by s d true is spelling = sound-text s d (utf8-spelling s spelling)
double_by s d false is spelling = sound-number s d (no_word-numeral s is spelling)

pub sound-double : (s : List ℕ) (d : ℕ) → IsSpelling s → Sound (double_json s) d
sound-double s d spelling = double_by s d (is_word s) refl spelling
