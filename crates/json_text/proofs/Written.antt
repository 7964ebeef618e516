-- The text of a value, piece by piece.
use Rattle.std.proofs.Common.{◌≡◌, ◌∙◌, ℕ, zero, suc, ◌+◌, ◌-◌, ◌<◌, ◌≤◌, Bool, true, false, List, [], ◌∷◌, ◌++◌, length, map, take, drop, get_or, Result, Ok, Err, refl, sym, ap, arith, cond, append_assoc, drop-cons, length-drop}
use Rattle.std.proofs.Math.Seq.{take-length}
use Rattle.std.proofs.Math.ListN.{drop_of_length-le}
use Rattle.std.proofs.lemmas.List.{append-nil}
use Rattle.std.specs.Prelude.{codes, is_ok, OnOk}
use Rattle.std.specs.List.{prefix_len}
use Rattle.json_text.specs.Reading.{is_plain}
use Rattle.json_text.specs.Writing.{escape_of, bytes_text, quoted_text, truth_text, comma_before, listed_from, member_text, kind_step, json_step, text_of, kind_text}
use Rattle.json_text.specs.declared.json.Json.{Json}
use Rattle.json_text.specs.declared.json.JsonKind.{JsonKind}
use Rattle.json_text.specs.declared.json.JsonKind.TheVariants as kinds
use Rattle.json_text.specs.declared.json.JsonKind.TheOpen.{JsonKind-F}
use Rattle.json_text.specs.declared.json.JsonKind.TheFolds.{map-JsonKind, fold-JsonKind, fold-Json, fold-roll-JsonKind, fold_out-Json}
use Rattle.json_text.specs.declared.json.JsonKind.{roll-JsonKind}
use Rattle.json_text.proofs.Scans.{stopped}

run_step : (x : ℕ) (xs : List ℕ) → bytes_text xs ≡ take (prefix_len is_plain xs) xs ++ bytes_text (drop (prefix_len is_plain xs) xs)
    → (t : Bool) → is_plain x ≡ t
    → cond t (x ∷ []) (escape_of x) ++ bytes_text xs
    ≡ take (cond t (suc (prefix_len is_plain xs)) 0) (x ∷ xs) ++ bytes_text (drop (cond t (suc (prefix_len is_plain xs)) 0) (x ∷ xs))
run_step x xs below true plain = ap (λ (ys : List ℕ). x ∷ ys) below
run_step x xs below false plain = ap (λ (t : Bool). cond t (x ∷ []) (escape_of x) ++ bytes_text xs) (sym plain)

pub bytes_text-run : (bytes : List ℕ) → bytes_text bytes ≡ take (prefix_len is_plain bytes) bytes ++ bytes_text (drop (prefix_len is_plain bytes) bytes)
bytes_text-run [] = refl
bytes_text-run (x ∷ xs) =
    let one_more : 1 + prefix_len is_plain xs ≡ suc (prefix_len is_plain xs) = omega arith in
    rw one_more (run_step x xs (bytes_text-run xs) (is_plain x) refl)

escape_step : (bytes : List ℕ) (count : ℕ) → count < length bytes → is_plain (get_or bytes count 0) ≡ false
    → bytes_text (drop count bytes) ≡ escape_of (get_or bytes count 0) ++ bytes_text (drop (count + 1) bytes)
escape_step bytes count within is =
    let next : suc count ≡ count + 1 = omega arith in
    ap bytes_text (drop-cons bytes count 0 within)
    ∙ ap (λ (t : Bool). cond t (get_or bytes count 0 ∷ []) (escape_of (get_or bytes count 0)) ++ bytes_text (drop (suc count) bytes)) is
    ∙ ap (λ (n : ℕ). escape_of (get_or bytes count 0) ++ bytes_text (drop n bytes)) next

pub bytes_text-escape : (bytes : List ℕ) (count : ℕ) → count ≡ prefix_len is_plain bytes → count < length bytes
    → bytes_text bytes ≡ take count bytes ++ (escape_of (get_or bytes count 0) ++ bytes_text (drop (count + 1) bytes))
bytes_text-escape bytes count is within =
    let at_stop : is_plain (get_or bytes count 0) ≡ false = rw is (stopped is_plain bytes (omega arith)) in
    bytes_text-run bytes ∙ rw (← is) (ap (λ (ys : List ℕ). take count bytes ++ ys) (escape_step bytes count within at_stop))

take_all : (bytes : List ℕ) → take (length bytes) bytes ++ bytes_text (drop (length bytes) bytes) ≡ bytes
take_all [] = refl
take_all (x ∷ xs) = ap (λ (ys : List ℕ). x ∷ ys) (take_all xs)

pub bytes_text-plain : (bytes : List ℕ) (count : ℕ) → count ≡ prefix_len is_plain bytes → count ≡ length bytes → bytes_text bytes ≡ bytes
bytes_text-plain bytes count is all =
    bytes_text-run bytes ∙ rw (← is, all) (take_all bytes)

pub text_of-kind : (json : Json) → text_of json ≡ kind_text json.kind
unfolding text_of kind_text
text_of-kind json = fold_out-Json (List ℕ) (List ℕ) kind_step json_step json

at_kind : (kind : JsonKind-F JsonKind Json) → fold-JsonKind (List ℕ) (List ℕ) kind_step json_step (roll-JsonKind kind)
    ≡ kind_step (map-JsonKind JsonKind Json (List ℕ) (List ℕ) (fold-JsonKind (List ℕ) (List ℕ) kind_step json_step) (fold-Json (List ℕ) (List ℕ) kind_step json_step) kind)
at_kind kind = fold-roll-JsonKind (List ℕ) (List ℕ) kind_step json_step kind

pub kind_text-Null : kind_text kinds.Null ≡ codes "null"
unfolding kind_text
kind_text-Null = ap kind_text (sym kinds.rolls-Null) ∙ at_kind JsonKind-F.Null

pub kind_text-Truth : (b : Bool) → kind_text (kinds.Truth b) ≡ truth_text b
unfolding kind_text
kind_text-Truth b = ap kind_text (sym (kinds.rolls-Truth b)) ∙ at_kind (JsonKind-F.Truth b)

pub kind_text-Number : (s : List ℕ) → kind_text (kinds.Number s) ≡ s
unfolding kind_text
kind_text-Number s = ap kind_text (sym (kinds.rolls-Number s)) ∙ at_kind (JsonKind-F.Number s)

pub kind_text-Text : (s : List ℕ) → kind_text (kinds.Text s) ≡ quoted_text s
unfolding kind_text
kind_text-Text s = ap kind_text (sym (kinds.rolls-Text s)) ∙ at_kind (JsonKind-F.Text s)

pub kind_text-List : (js : List Json) → kind_text (kinds.List js) ≡ codes "[" ++ listed_from 0 (map text_of js) ++ codes "]"
unfolding kind_text text_of
kind_text-List js = ap kind_text (sym (kinds.rolls-List js)) ∙ at_kind (JsonKind-F.List js)

-- a key, a colon and the text of a value
abbrev pub pair_text : List ℕ × Json → List ℕ
pair_text p = quoted_text p.0 ++ codes ":" ++ text_of p.1

pairs : (ms : List (List ℕ × Json)) → map member_text (map (λ (m : List ℕ × Json). (m.0, text_of m.1)) ms) ≡ map pair_text ms
pairs [] = refl
pairs (m ∷ ms) = ap (λ (xs : List (List ℕ)). pair_text m ∷ xs) (pairs ms)

pub kind_text-Object : (ms : List (List ℕ × Json)) → kind_text (kinds.Object ms) ≡ codes "{" ++ listed_from 0 (map pair_text ms) ++ codes "}"
unfolding kind_text text_of
kind_text-Object ms = ap kind_text (sym (kinds.rolls-Object ms)) ∙ at_kind (JsonKind-F.Object ms)
    ∙ ap (λ (xs : List (List ℕ)). codes "{" ++ listed_from 0 xs ++ codes "}") (pairs ms)

-- The text of a value by its kind.
module _ (json : Json) where
  pub text-Null : json.kind ≡ kinds.Null → codes "null" ≡ text_of json
  text-Null is = sym (text_of-kind json ∙ ap kind_text is ∙ kind_text-Null)

  pub text-Truth : (b : Bool) → json.kind ≡ kinds.Truth b → truth_text b ≡ text_of json
  text-Truth b is = sym (text_of-kind json ∙ ap kind_text is ∙ kind_text-Truth b)

  pub text-Number : (s : List ℕ) → json.kind ≡ kinds.Number s → s ≡ text_of json
  text-Number s is = sym (text_of-kind json ∙ ap kind_text is ∙ kind_text-Number s)

  pub text-Text : (s : List ℕ) → json.kind ≡ kinds.Text s → quoted_text s ≡ text_of json
  text-Text s is = sym (text_of-kind json ∙ ap kind_text is ∙ kind_text-Text s)

  pub text-List : (js : List Json) → json.kind ≡ kinds.List js → codes "[" ++ listed_from 0 (map text_of js) ++ codes "]" ≡ text_of json
  text-List js is = sym (text_of-kind json ∙ ap kind_text is ∙ kind_text-List js)

  pub text-Object : (ms : List (List ℕ × Json)) → json.kind ≡ kinds.Object ms → codes "{" ++ listed_from 0 (map pair_text ms) ++ codes "}" ≡ text_of json
  text-Object ms is = sym (text_of-kind json ∙ ap kind_text is ∙ kind_text-Object ms)

-- what a call appended, where it succeeded
pub appended : {A E : Type 0} (r : Result A E) (old new piece text : List ℕ) → new ≡ cond (is_ok r) (old ++ piece) old → piece ≡ text → OnOk r (new ≡ old ++ text)
appended (Ok x) old new piece text grown is = rw (← is) grown
appended (Err e) old new piece text grown is = tt

pub on_ok_also : {A E : Type 0} (r : Result A E) (old new piece text : List ℕ) → OnOk r (new ≡ old ++ piece) → piece ≡ text → OnOk r (new ≡ old ++ text)
on_ok_also (Ok x) old new piece text grown is = rw (← is) grown
on_ok_also (Err e) old new piece text grown is = tt

-- what stands behind a range from its start on
pub take_rest : (bytes : List ℕ) (start count : ℕ) → count ≡ length bytes - start → take count (drop start bytes) ≡ drop start bytes
take_rest bytes start count is =
    let all : count ≡ length (drop start bytes) = omega (arith, is, length-drop start bytes) in
    rw all (take-length (drop start bytes))

-- how far the elements of a list are written
pub record ListedSoFar (before : List ℕ) (texts : List (List ℕ)) (index : ℕ) (now : List ℕ) : Type 0 where
  pub written : now ++ listed_from index (drop index texts) ≡ before ++ listed_from 0 texts

listed-more : (texts : List (List ℕ)) (index : ℕ) (text : List ℕ) → index < length texts → get_or texts index [] ≡ text
    → listed_from index (drop index texts) ≡ comma_before index ++ text ++ listed_from (suc index) (drop (suc index) texts)
listed-more texts index text within is = ap (listed_from index) (drop-cons texts index [] within) ∙ ap (λ (t : List ℕ). comma_before index ++ t ++ listed_from (suc index) (drop (suc index) texts)) is

-- one element more: its comma, then its text
pub ListedSoFar-more : (before : List ℕ) (texts : List (List ℕ)) (index : ℕ) (now with_comma after text : List ℕ) → ListedSoFar before texts index now
    → index < length texts → get_or texts index [] ≡ text → with_comma ≡ now ++ comma_before index → after ≡ with_comma ++ text
    → ListedSoFar before texts (index + 1) after
ListedSoFar-more before texts index now with_comma after text so_far within is comma grown =
    let next : index + 1 ≡ suc index = omega arith in
    let rest = listed_from (suc index) (drop (suc index) texts) in
    record {
      written = rw (next, grown, comma) (simp append_assoc (sym (sym so_far.written ∙ ap (λ (t : List ℕ). now ++ t) (listed-more texts index text within is ∙ append_assoc (comma_before index) text rest))));
    }

pub ListedSoFar-end : (before : List ℕ) (texts : List (List ℕ)) (index : ℕ) (now : List ℕ) → ListedSoFar before texts index now → length texts ≤ index
    → now ≡ before ++ listed_from 0 texts
ListedSoFar-end before texts index now so_far all =
    sym (append-nil now) ∙ ap (λ (t : List (List ℕ)). now ++ listed_from index t) (sym (drop_of_length-le texts all)) ∙ so_far.written

-- how far the bytes of a text are written
pub bytes-end : (before all now rest after : List ℕ) (count : ℕ) → now ++ bytes_text rest ≡ before ++ bytes_text all → count ≡ prefix_len is_plain rest
    → count ≡ length rest → after ≡ now ++ take count rest → after ≡ before ++ bytes_text all
bytes-end before all now rest after count so_far is end grown =
    let whole : take count rest ≡ rest = rw end (take-length rest) in
    grown ∙ ap (λ (t : List ℕ). now ++ t) (whole ∙ sym (bytes_text-plain rest count is end)) ∙ so_far

pub bytes-more : (before all now rest mid after : List ℕ) (count left : ℕ) → now ++ bytes_text rest ≡ before ++ bytes_text all → count ≡ prefix_len is_plain rest
    → count < length rest → mid ≡ now ++ take count rest → after ≡ mid ++ escape_of (get_or rest count 0) → left ≡ length rest - (count + 1)
    → after ++ bytes_text (take left (drop (count + 1) rest)) ≡ before ++ bytes_text all
bytes-more before all now rest mid after count left so_far is within ran grown left_is =
    let behind = drop (count + 1) rest in
    let escape = escape_of (get_or rest count 0) in
    ap (λ (t : List ℕ). after ++ bytes_text t) (take_rest rest (count + 1) left left_is)
    ∙ ap (λ (t : List ℕ). t ++ bytes_text behind) (grown ∙ ap (λ (t : List ℕ). t ++ escape) ran)
    ∙ append_assoc (now ++ take count rest) escape (bytes_text behind)
    ∙ append_assoc now (take count rest) (escape ++ bytes_text behind)
    ∙ ap (λ (t : List ℕ). now ++ t) (sym (bytes_text-escape rest count is within))
    ∙ so_far

pub mapped : {X : Type 0} (f : X → List ℕ) (xs : List X) (index : ℕ) (x : X) → index < length xs → x ≡ get_or xs index x → get_or (map f xs) index [] ≡ f x
mapped f [] index x within is = absurd (omega arith)
mapped f (y ∷ ys) zero x within is = ap f (sym is)
mapped f (y ∷ ys) (suc n) x within is = mapped f ys n x (omega arith) is

pub length-mapped : {X : Type 0} (f : X → List ℕ) (xs : List X) → length (map f xs) ≡ length xs
length-mapped f [] = refl
length-mapped f (x ∷ xs) = ap suc (length-mapped f xs)

-- a list or an object in its brackets
pub enclosed : (before opened filled closed text : List ℕ) (open_byte close_byte : ℕ) (texts : List (List ℕ)) → opened ≡ before ++ open_byte ∷ []
    → filled ≡ opened ++ listed_from 0 texts → closed ≡ filled ++ close_byte ∷ [] → (open_byte ∷ []) ++ listed_from 0 texts ++ close_byte ∷ [] ≡ text
    → closed ≡ before ++ text
enclosed before opened filled closed text open_byte close_byte texts opens fills closes is =
    closes ∙ ap (λ (t : List ℕ). t ++ close_byte ∷ []) (fills ∙ ap (λ (t : List ℕ). t ++ listed_from 0 texts) opens)
    ∙ simp append_assoc (ap (λ (t : List ℕ). before ++ t) (simp append_assoc at is))

-- one member more: its comma, its key, a colon and its value
pub members-more : (before : List ℕ) (members : List (List ℕ × Json)) (index : ℕ) (member : List ℕ × Json) (now with_comma with_key with_colon after : List ℕ)
    → ListedSoFar before (map pair_text members) index now → index < length members → member ≡ get_or members index member
    → with_comma ≡ now ++ comma_before index → with_key ≡ with_comma ++ quoted_text member.0 → with_colon ≡ with_key ++ codes ":" → after ≡ with_colon ++ text_of member.1
    → ListedSoFar before (map pair_text members) (index + 1) after
members-more before members index member now with_comma with_key with_colon after so_far within is comma key colon value =
    ListedSoFar-more before (map pair_text members) index now with_comma after (pair_text member) so_far (omega (arith, length-mapped pair_text members)) (mapped pair_text members index member within is) comma
    (value ∙ ap (λ (t : List ℕ). t ++ text_of member.1) (colon ∙ ap (λ (t : List ℕ). t ++ codes ":") key) ∙ simp append_assoc)
