-- What a value of JSON holds whose numbers are numerals and whose texts are UTF-8.
use Rattle.std.proofs.Common.{◌≡◌, ℕ, List, [], ◌∷◌, ◌++◌, Some, subst}
use Rattle.std.specs.List.{All}
use Rattle.std.specs.Str.{IsUtf8}
use Rattle.std.proofs.lemmas.List.Elements.{All-nil, All-cons, All-head, All-tail}
use Rattle.pdata_value.specs.Numeral.{IsNumeral}
use Rattle.json_text.specs.Kinds.{Member, as_text, as_number, as_items, as_members}
use Rattle.json_text.specs.Writing.{numbers_of, texts_of}
use Rattle.json_text.specs.declared.json.Json.{Json}
use Rattle.json_text.proofs.KindLemmas.{as_text-back, as_number-back, as_items-back, as_members-back}
use Rattle.json_text.proofs.Layers.{item_numbers, item_texts, member_numbers, member_texts, numbers-Number, numbers-List, numbers-Object, texts-Text, texts-List, texts-Object}

-- its numbers are numerals and its texts are UTF-8
pub record Good (json : Json) : Type 0 where
  pub numerals : All IsNumeral (numbers_of json)
  pub texts : All IsUtf8 (texts_of json)

abbrev pub GoodItems : List Json → Type 0
GoodItems [] = Unit {0}
GoodItems (j ∷ js) = Good j × GoodItems js

abbrev pub GoodMembers : List Member → Type 0
GoodMembers [] = Unit {0}
GoodMembers (m ∷ ms) = Good m.1 × GoodMembers ms

module _ {X : Type 0} (P : X → Type 0) where
  All-front : (xs ys : List X) → All P (xs ++ ys) → All P xs
  All-front [] ys all = All-nil P
  All-front (x ∷ xs) ys all = All-cons P x xs (All-head P x (xs ++ ys) all) (All-front xs ys (All-tail P x (xs ++ ys) all))

  All-back : (xs ys : List X) → All P (xs ++ ys) → All P ys
  All-back [] ys all = all
  All-back (x ∷ xs) ys all = All-back xs ys (All-tail P x (xs ++ ys) all)

pub text_good : (json : Json) (text : List ℕ) → Good json → as_text json ≡ Some text → IsUtf8 text
text_good json text good is = All-head IsUtf8 text [] (subst (All IsUtf8) (texts-Text json text (as_text-back json text is)) good.texts)

pub number_good : (json : Json) (spelling : List ℕ) → Good json → as_number json ≡ Some spelling → IsNumeral spelling
number_good json spelling good is = All-head IsNumeral spelling [] (subst (All IsNumeral) (numbers-Number json spelling (as_number-back json spelling is)) good.numerals)

items_of : (js : List Json) → All IsNumeral (item_numbers js) → All IsUtf8 (item_texts js) → GoodItems js
items_of [] numerals texts = tt
items_of (j ∷ js) numerals texts = (
  record {
    numerals = All-front IsNumeral (numbers_of j) (item_numbers js) numerals;
    texts = All-front IsUtf8 (texts_of j) (item_texts js) texts;
  },
  items_of js (All-back IsNumeral (numbers_of j) (item_numbers js) numerals) (All-back IsUtf8 (texts_of j) (item_texts js) texts),
)

pub items_good : (json : Json) (js : List Json) → Good json → as_items json ≡ Some js → GoodItems js
items_good json js good is =
    let kind = as_items-back json js is in
    items_of js (subst (All IsNumeral) (numbers-List json js kind) good.numerals) (subst (All IsUtf8) (texts-List json js kind) good.texts)

members_of : (ms : List Member) → All IsNumeral (member_numbers ms) → All IsUtf8 (member_texts ms) → GoodMembers ms
members_of [] numerals texts = tt
members_of (m ∷ ms) numerals texts =
    let values : All IsUtf8 (texts_of m.1 ++ member_texts ms) = All-tail IsUtf8 m.0 (texts_of m.1 ++ member_texts ms) texts in (
      record {
        numerals = All-front IsNumeral (numbers_of m.1) (member_numbers ms) numerals;
        texts = All-front IsUtf8 (texts_of m.1) (member_texts ms) values;
      },
      members_of ms (All-back IsNumeral (numbers_of m.1) (member_numbers ms) numerals) (All-back IsUtf8 (texts_of m.1) (member_texts ms) values),
    )

pub members_good : (json : Json) (ms : List Member) → Good json → as_members json ≡ Some ms → GoodMembers ms
members_good json ms good is =
    let kind = as_members-back json ms is in
    members_of ms (subst (All IsNumeral) (numbers-Object json ms kind) good.numerals) (subst (All IsUtf8) (texts-Object json ms kind) good.texts)
