-- What is written is read again.
use Rattle.std.proofs.Common.{◌≡◌, ◌∙◌, ℕ, zero, suc, ◌+◌, ◌-◌, ◌≤◌, true, false, max, List, [], ◌∷◌, ◌++◌, length, map, Ok, refl, sym, ap, subst, arith, append_assoc, length-append}
use Rattle.std.specs.Prelude.{◌==◌, codes}
use Rattle.std.specs.List.{All}
use Rattle.std.specs.Str.{IsUtf8}
use Rattle.std.proofs.lemmas.List.{append-nil}
use Rattle.std.proofs.lemmas.Bool.Decides.{nat_tests}
use Rattle.contract_words.specs.Grammar.{first}
use Rattle.pdata_value.specs.Numeral.{numeral, IsNumeral}
use Rattle.json_text.specs.Place.{Rest, blanks}
use Rattle.json_text.specs.Reading.{Reads, ◌>>=◌, this, sequence, member, make, value, ended, document, json_text}
use Rattle.json_text.specs.Writing.{quoted_text, listed_from, member_text, numbers_of, text_of}
use Rattle.json_text.specs.Placed.{Placing, placed_items, placed_members, behind_key, placing, placed, containers}
use Rattle.json_text.specs.declared.json.Json.{Json}
use Rattle.json_text.specs.declared.json.JsonKind.{JsonKind}
use Rattle.json_text.specs.declared.json.JsonKind.TheVariants as kinds
use Rattle.json_text.proofs.Written.{pair_text, text-Null, text-Truth, text-Number, text-Text, text-List, text-Object}
use Rattle.json_text.proofs.Values.{value-list, value-object, value-scalar, json_text-utf8}
use Rattle.json_text.proofs.Layers.{IsKind, is_null, is_truth, is_number, is_text, is_list, is_object, kind_of, deepest_item, deepest_member, deepest-cons, containers-List, containers-Object, numbers-Number, numbers-List, numbers-Object, item_numbers, member_numbers, placing-Null, placing-Truth, placing-Number, placing-Text, placing-List, placing-Object}
use Rattle.json_text.proofs.Fitting.{opening}
use Rattle.json_text.proofs.TextBack.{rest_at, placed_rest, quoted_read}
use Rattle.json_text.proofs.NumberBack.{Ended, at_end, ended_stops}
use Rattle.json_text.proofs.ValueBack.{Starts, starts, no_blank, starts_blanks, make_read, numeral_starts, numeral_begins, number_back, text_back, null_back, true_back, false_back, ReadsOne, AllRead, put_all, sequence_read}

-- The text in which a value is placed is its text.
abbrev SameText : ℕ → Type 0
SameText depth = (json : Json) → containers json ≤ depth → (placing json).0 ≡ text_of json

items_text : (depth : ℕ) → SameText depth → (js : List Json) → deepest_item js ≤ depth → map (λ (p : Placing Json). p.0) (map placing js) ≡ map text_of js
items_text depth same [] le = refl
items_text depth same (j ∷ js) le =
    let parts : max (containers j) (deepest_item js) ≤ depth = omega (arith, deepest-cons j js) in
    ap (λ (t : List ℕ). t ∷ map (λ (p : Placing Json). p.0) (map placing js)) (same j (omega arith)) ∙ ap (λ (ts : List (List ℕ)). text_of j ∷ ts) (items_text depth same js (omega arith))

members_text : (depth : ℕ) → SameText depth → (ms : List (List ℕ × Json)) → deepest_member ms ≤ depth
    → map member_text (map (λ (m : List ℕ × Placing Json). (m.0, m.1.0)) (map (λ (m : List ℕ × Json). (m.0, placing m.1)) ms)) ≡ map pair_text ms
members_text depth same [] le = refl
members_text depth same (m ∷ ms) le =
    ap (λ (t : List ℕ). (quoted_text m.0 ++ codes ":" ++ t) ∷ map member_text (map (λ (k : List ℕ × Placing Json). (k.0, k.1.0)) (map (λ (k : List ℕ × Json). (k.0, placing k.1)) ms))) (same m.1 (omega arith))
    ∙ ap (λ (ts : List (List ℕ)). pair_text m ∷ ts) (members_text depth same ms (omega arith))

text_by_kind : (depth : ℕ) → ((below : ℕ) → depth ≡ suc below → SameText below) → (json : Json) → containers json ≤ depth → IsKind json.kind → (placing json).0 ≡ text_of json
text_by_kind depth below json le (is_null e) = ap (λ (p : Placing Json). p.0) (placing-Null json e) ∙ text-Null json e
text_by_kind depth below json le (is_truth b e) = ap (λ (p : Placing Json). p.0) (placing-Truth json b e) ∙ text-Truth json b e
text_by_kind depth below json le (is_number s e) = ap (λ (p : Placing Json). p.0) (placing-Number json s e) ∙ text-Number json s e
text_by_kind depth below json le (is_text s e) = ap (λ (p : Placing Json). p.0) (placing-Text json s e) ∙ text-Text json s e
text_by_kind zero below json le (is_list js e) = absurd (omega (arith, containers-List json js e))
text_by_kind (suc d) below json le (is_list js e) =
    ap (λ (p : Placing Json). p.0) (placing-List json js e) ∙ ap (λ (ts : List (List ℕ)). codes "[" ++ listed_from 0 ts ++ codes "]") (items_text d (below d refl) js (omega (arith, containers-List json js e))) ∙ text-List json js e
text_by_kind zero below json le (is_object ms e) = absurd (omega (arith, containers-Object json ms e))
text_by_kind (suc d) below json le (is_object ms e) =
    ap (λ (p : Placing Json). p.0) (placing-Object json ms e) ∙ ap (λ (ts : List (List ℕ)). codes "{" ++ listed_from 0 ts ++ codes "}") (members_text d (below d refl) ms (omega (arith, containers-Object json ms e))) ∙ text-Object json ms e

pub same_text : (depth : ℕ) → SameText depth
same_text zero json le = text_by_kind zero (λ below e. absurd (omega (arith, e))) json le (kind_of json.kind)
same_text (suc d) json le = text_by_kind (suc d) (λ below e. subst SameText (let same : d ≡ below = omega (arith, e) in same) (same_text d)) json le (kind_of json.kind)

-- Each number is a numeral.
abbrev pub Numerals : List (List ℕ) → Type 0
Numerals [] = Unit {0}
Numerals (s ∷ ss) = IsNumeral s × Numerals ss

pub numerals_of : (ss : List (List ℕ)) → All IsNumeral ss → Numerals ss
numerals_of [] h = tt
numerals_of (s ∷ ss) h = (h 0 s (omega arith), numerals_of ss (λ k d within. h (suc k) d (omega arith)))

pub numerals_parts : (xs ys : List (List ℕ)) → Numerals (xs ++ ys) → Numerals xs × Numerals ys
numerals_parts [] ys h = (tt, h)
numerals_parts (x ∷ xs) ys h = let below = numerals_parts xs ys h.1 in ((h.0, below.0), below.1)

-- The text of a value begins as one.
starts_as : (text word : List ℕ) (c : ℕ) (cs : List ℕ) → word ≡ c ∷ cs → word ≡ text → opening c ≡ true → Starts text
starts_as text word c cs is same opens = starts c cs (sym same ∙ is) opens

starts_by_kind : (json : Json) → Numerals (numbers_of json) → IsKind json.kind → Starts (text_of json)
starts_by_kind json ns (is_null e) = starts_as (text_of json) (codes "null") 110 (codes "ull") refl (text-Null json e) refl
starts_by_kind json ns (is_truth true e) = starts_as (text_of json) (codes "true") 116 (codes "rue") refl (text-Truth json true e) refl
starts_by_kind json ns (is_truth false e) = starts_as (text_of json) (codes "false") 102 (codes "alse") refl (text-Truth json false e) refl
starts_by_kind json ns (is_number s e) = subst Starts (text-Number json s e) (numeral_starts s (subst Numerals (numbers-Number json s e) ns).0)
starts_by_kind json ns (is_text s e) = starts_as (text_of json) (quoted_text s) 34 _ refl (text-Text json s e) refl
starts_by_kind json ns (is_list js e) = starts_as (text_of json) (codes "[" ++ listed_from 0 (map text_of js) ++ codes "]") 91 _ refl (text-List json js e) refl
starts_by_kind json ns (is_object ms e) = starts_as (text_of json) (codes "{" ++ listed_from 0 (map pair_text ms) ++ codes "}") 123 _ refl (text-Object json ms e) refl

text_starts : (json : Json) → Numerals (numbers_of json) → Starts (text_of json)
text_starts json ns = starts_by_kind json ns (kind_of json.kind)

-- A value is read again.
abbrev ValueRead : ℕ → Type 0
ValueRead depth = (json : Json) → containers json ≤ depth → Numerals (numbers_of json) → (at : ℕ) (rest : List ℕ) → Ended rest
    → value depth (rest_at at (text_of json ++ rest)) ≡ Ok (placed at json, rest_at (at + length (text_of json)) rest)

-- a value whose text is this one
by_text : (depth : ℕ) (json : Json) (text rest : List ℕ) (at : ℕ) (kind : JsonKind) → text ≡ text_of json → placing json ≡ (text, λ (n : ℕ). record { at = n; kind = kind })
    → value depth (rest_at at (text ++ rest)) ≡ Ok (record { at = at; kind = kind }, rest_at (at + length text) rest)
    → value depth (rest_at at (text_of json ++ rest)) ≡ Ok (placed at json, rest_at (at + length (text_of json)) rest)
by_text depth json text rest at kind same placing_is read =
    let placed_is : placed at json ≡ record { at = at; kind = kind } = ap (λ (p : Placing Json). p.1 at) placing_is in
    subst (λ (t : List ℕ). value depth (rest_at at (t ++ rest)) ≡ Ok (placed at json, rest_at (at + length t) rest)) same
    (read ∙ ap (λ (j : Json). Ok (j, rest_at (at + length text) rest)) (sym placed_is))

numeral_head : (b : ℕ) → opening b ≡ true → first numeral b ≡ true → (b ≡ 91 → ⊥) × (b ≡ 123 → ⊥)
numeral_head b o h = (λ e. other b 91 e h refl, λ e. other b 123 e h refl) where
  other : (b c : ℕ) → b ≡ c → first numeral b ≡ true → first numeral c ≡ false → ⊥
  other b c e h k = let clash : true ≡ false = sym h ∙ ap (λ (n : ℕ). first numeral n) e ∙ k in cc

number_value : (depth : ℕ) (s rest : List ℕ) (at : ℕ) → IsNumeral s → Ended rest → value depth (rest_at at (s ++ rest)) ≡ Ok (record { at = at; kind = kinds.Number s }, rest_at (at + length s) rest)
number_value depth [] rest at h ended = absurd (empty (numeral_starts [] h)) where
  empty : Starts [] → ⊥
  empty (starts c cs is opens) = cc
number_value depth (c ∷ cs) rest at h ended =
    let not_bracket = numeral_head c (starts_opening c cs (numeral_starts (c ∷ cs) h)) (numeral_begins c cs h) in
    value-scalar depth (rest_at at (c ∷ (cs ++ rest))) not_bracket.0 not_bracket.1 ∙ number_back (c ∷ cs) rest at h (ended_stops rest ended)
  where
    starts_opening : (c : ℕ) (cs : List ℕ) → Starts (c ∷ cs) → opening c ≡ true
    starts_opening c cs (starts d ds is opens) = subst (λ (n : ℕ). opening n ≡ true) (let same : d ≡ c = cc in same) opens

-- elements of a list
not_open_93 : (b : ℕ) → opening b ≡ true → (b == 93) ≡ false
not_open_93 b h = grind (arith, nat_tests)

not_open_125 : (b : ℕ) → opening b ≡ true → (b == 125) ≡ false
not_open_125 b h = grind (arith, nat_tests)

abbrev items_put : ℕ → ℕ → List Json → List Json
items_put depth = put_all text_of (λ at j. placed at j) (value depth) 93 refl refl not_open_93

items_placed : (depth d : ℕ) → SameText d → (js : List Json) → deepest_item js ≤ d → (at : ℕ) → items_put depth at js ≡ placed_items at (map placing js)
items_placed depth d same [] le at = refl
items_placed depth d same (j ∷ js) le at =
    let one_text : (placing j).0 ≡ text_of j = same j (omega (arith, deepest-cons j js)) in
    ap (λ (zs : List Json). placed at j ∷ zs) (items_placed depth d same js (omega (arith, deepest-cons j js)) (at + length (text_of j) + 1))
    ∙ ap (λ (t : List ℕ). placed at j ∷ placed_items (at + length t + 1) (map placing js)) (sym one_text)

items_read : (depth : ℕ) → ValueRead depth → (js : List Json) → deepest_item js ≤ depth → Numerals (item_numbers js) → AllRead text_of (λ at j. placed at j) (value depth) 93 refl refl not_open_93 js
items_read depth read [] le ns = tt
items_read depth read (j ∷ js) le ns =
    let parts = numerals_parts (numbers_of j) (item_numbers js) ns in
    ((λ at rest ended. read j (omega (arith, deepest-cons j js)) parts.0 at rest ended), text_starts j parts.0, items_read depth read js (omega (arith, deepest-cons j js)) parts.1)

closing_length : (open_byte close_byte : ℕ) (list : List ℕ) → length (open_byte ∷ (list ++ close_byte ∷ [])) ≡ 1 + length list + 1
closing_length open_byte close_byte list = more (length (list ++ close_byte ∷ [])) (length list) (length-append list (close_byte ∷ [])) where
  more : (n l : ℕ) → n ≡ l + 1 → suc n ≡ 1 + l + 1
  more n l is = omega (arith, is)

pair_length : (q t : List ℕ) → length ((q ++ 58 ∷ []) ++ t) ≡ length q + 1 + length t
pair_length q t = length-append (q ++ 58 ∷ []) t ∙ ap (λ (n : ℕ). n + length t) (length-append q (58 ∷ []))

list_value : (d : ℕ) → ValueRead d → (json : Json) (js : List Json) → json.kind ≡ kinds.List js → containers json ≤ suc d → Numerals (numbers_of json) → (at : ℕ) (rest : List ℕ) → Ended rest
    → value (suc d) (rest_at at (text_of json ++ rest)) ≡ Ok (placed at json, rest_at (at + length (text_of json)) rest)
list_value d read json js e le ns at rest ended =
    let le_items : deepest_item js ≤ d = omega (arith, containers-List json js e) in
    let list : List ℕ = listed_from 0 (map text_of js) in
    let text : List ℕ = 91 ∷ (list ++ 93 ∷ []) in
    let body : List ℕ = list ++ 93 ∷ rest in
    let left : text ++ rest ≡ 91 ∷ body = ap (λ (z : List ℕ). 91 ∷ z) (append_assoc list (93 ∷ []) rest) in
    let r : Rest = rest_at at (91 ∷ body) in
    let less : suc d - 1 ≡ d = omega arith in
    let placed_all : items_put d (at + 1) js ≡ placed_items (at + 1) (map placing js) = items_placed d d (same_text d) js le_items (at + 1) in
    let placed_is : placed at json ≡ record { at = at; kind = kinds.List (placed_items (at + 1) (map placing js)) } = ap (λ (p : Placing Json). p.1 at) (placing-List json js e) in
    let all = items_read d read js le_items (subst Numerals (numbers-List json js e) ns) in
    let inner : sequence (value d) 93 (length (91 ∷ body)) (rest_at (at + 1) body) ≡ Ok (items_put d (at + 1) js, rest_at (at + 1 + length list + 1) rest)
    = sequence_read text_of (λ at j. placed at j) (value d) 93 refl refl not_open_93 js (length (91 ∷ body)) (at + 1) rest all (omega arith) in
    let size : length text ≡ 1 + length list + 1 = closing_length 91 93 list in
    subst (λ (t : List ℕ). value (suc d) (rest_at at (t ++ rest)) ≡ Ok (placed at json, rest_at (at + length t) rest)) (text-List json js e)
    (ap (λ (l : List ℕ). value (suc d) (rest_at at l)) left
    ∙ value-list (suc d) r refl (omega arith)
    ∙ ap (λ (n : ℕ). make r kinds.List (sequence (value n) 93 (length (91 ∷ body)) (rest_at (at + 1) body))) less
    ∙ make_read r kinds.List (sequence (value d) 93 (length (91 ∷ body)) (rest_at (at + 1) body)) (items_put d (at + 1) js) (rest_at (at + 1 + length list + 1) rest) inner
    ∙ ap (λ (js : List Json). Ok (record { at = at; kind = kinds.List js }, rest_at (at + 1 + length list + 1) rest)) placed_all
    ∙ ap (λ (j : Json). Ok (j, rest_at (at + 1 + length list + 1) rest)) (sym placed_is)
    ∙ ap (λ (q : Rest). Ok (placed at json, q)) (placed_rest (at + 1 + length list + 1) (at + length text) rest (omega (arith, size))))

-- members of an object
abbrev put_member : ℕ → List ℕ × Json → List ℕ × Json
put_member at m = (m.0, placed (behind_key at m.0) m.1)

abbrev members_put : ℕ → ℕ → List (List ℕ × Json) → List (List ℕ × Json)
members_put depth = put_all pair_text put_member (member (value depth)) 125 refl refl not_open_125

member_back : (depth : ℕ) → ValueRead depth → (m : List ℕ × Json) → containers m.1 ≤ depth → Numerals (numbers_of m.1) → ReadsOne pair_text put_member (member (value depth)) 125 refl refl not_open_125 m
member_back depth read m le ns at rest ended =
    let q : List ℕ = quoted_text m.0 in
    let t : List ℕ = text_of m.1 in
    let behind : List ℕ = 58 ∷ (t ++ rest) in
    let left : pair_text m ++ rest ≡ q ++ behind = append_assoc (q ++ 58 ∷ []) t rest ∙ append_assoc q (58 ∷ []) (t ++ rest) in
    let start : ℕ = at + length q in
    let size : length (pair_text m) ≡ length q + 1 + length t = pair_length q t in
    let others : List ℕ × Rest → Reads (List ℕ × Json) = λ k. this 58 (blanks k.1) >>= λ c. value depth (blanks c) >>= λ v. Ok ((k.0, v.0), v.1) in
    let colon : Rest → Reads (List ℕ × Json) = λ c. value depth (blanks c) >>= λ v. Ok ((m.0, v.0), v.1) in
    ap (λ (l : List ℕ). member (value depth) (rest_at at l)) left
    ∙ ap (λ (r : Reads (List ℕ)). r >>= others) (quoted_read m.0 behind at)
    ∙ ap (λ (r : Rest). this 58 r >>= colon) (no_blank start 58 (t ++ rest) refl)
    ∙ ap (λ (r : Rest). value depth r >>= λ v. Ok ((m.0, v.0), v.1)) (starts_blanks (start + 1) t rest (text_starts m.1 ns))
    ∙ ap (λ (r : Reads Json). r >>= λ v. Ok ((m.0, v.0), v.1)) (read m.1 le ns (start + 1) rest ended)
    ∙ ap (λ (r : Rest). Ok ((m.0, placed (start + 1) m.1), r)) (placed_rest (start + 1 + length t) (at + length (pair_text m)) rest (omega (arith, size)))

members_placed : (depth d : ℕ) → SameText d → (ms : List (List ℕ × Json)) → deepest_member ms ≤ d → (at : ℕ)
    → members_put depth at ms ≡ placed_members at (map (λ (m : List ℕ × Json). (m.0, placing m.1)) ms)
members_placed depth d same [] le at = refl
members_placed depth d same (m ∷ ms) le at =
    let one_text : (placing m.1).0 ≡ text_of m.1 = same m.1 (omega arith) in
    let size : length (pair_text m) ≡ length (quoted_text m.0) + 1 + length (text_of m.1) = pair_length (quoted_text m.0) (text_of m.1) in
    let place : at + length (pair_text m) + 1 ≡ behind_key at m.0 + length (text_of m.1) + 1 = omega (arith, size) in
    let ps = map (λ (k : List ℕ × Json). (k.0, placing k.1)) ms in
    ap (λ (zs : List (List ℕ × Json)). put_member at m ∷ zs) (members_placed depth d same ms (omega arith) (at + length (pair_text m) + 1))
    ∙ ap (λ (n : ℕ). put_member at m ∷ placed_members n ps) place
    ∙ ap (λ (t : List ℕ). put_member at m ∷ placed_members (behind_key at m.0 + length t + 1) ps) (sym one_text)

members_read : (depth : ℕ) → ValueRead depth → (ms : List (List ℕ × Json)) → deepest_member ms ≤ depth → Numerals (member_numbers ms) → AllRead pair_text put_member (member (value depth)) 125 refl refl not_open_125 ms
members_read depth read [] le ns = tt
members_read depth read (m ∷ ms) le ns =
    let parts = numerals_parts (numbers_of m.1) (member_numbers ms) ns in
    (member_back depth read m (omega arith) parts.0, starts 34 _ refl refl, members_read depth read ms (omega arith) parts.1)

object_value : (d : ℕ) → ValueRead d → (json : Json) (ms : List (List ℕ × Json)) → json.kind ≡ kinds.Object ms → containers json ≤ suc d → Numerals (numbers_of json) → (at : ℕ) (rest : List ℕ) → Ended rest
    → value (suc d) (rest_at at (text_of json ++ rest)) ≡ Ok (placed at json, rest_at (at + length (text_of json)) rest)
object_value d read json ms e le ns at rest ended =
    let le_members : deepest_member ms ≤ d = omega (arith, containers-Object json ms e) in
    let list : List ℕ = listed_from 0 (map pair_text ms) in
    let text : List ℕ = 123 ∷ (list ++ 125 ∷ []) in
    let body : List ℕ = list ++ 125 ∷ rest in
    let left : text ++ rest ≡ 123 ∷ body = ap (λ (z : List ℕ). 123 ∷ z) (append_assoc list (125 ∷ []) rest) in
    let r : Rest = rest_at at (123 ∷ body) in
    let less : suc d - 1 ≡ d = omega arith in
    let ps = map (λ (k : List ℕ × Json). (k.0, placing k.1)) ms in
    let placed_all : members_put d (at + 1) ms ≡ placed_members (at + 1) ps = members_placed d d (same_text d) ms le_members (at + 1) in
    let placed_is : placed at json ≡ record { at = at; kind = kinds.Object (placed_members (at + 1) ps) } = ap (λ (p : Placing Json). p.1 at) (placing-Object json ms e) in
    let all = members_read d read ms le_members (subst Numerals (numbers-Object json ms e) ns) in
    let inner : sequence (member (value d)) 125 (length (123 ∷ body)) (rest_at (at + 1) body) ≡ Ok (members_put d (at + 1) ms, rest_at (at + 1 + length list + 1) rest)
    = sequence_read pair_text put_member (member (value d)) 125 refl refl not_open_125 ms (length (123 ∷ body)) (at + 1) rest all (omega arith) in
    let size : length text ≡ 1 + length list + 1 = closing_length 123 125 list in
    subst (λ (t : List ℕ). value (suc d) (rest_at at (t ++ rest)) ≡ Ok (placed at json, rest_at (at + length t) rest)) (text-Object json ms e)
    (ap (λ (l : List ℕ). value (suc d) (rest_at at l)) left
    ∙ value-object (suc d) r refl (omega arith)
    ∙ ap (λ (n : ℕ). make r kinds.Object (sequence (member (value n)) 125 (length (123 ∷ body)) (rest_at (at + 1) body))) less
    ∙ make_read r kinds.Object (sequence (member (value d)) 125 (length (123 ∷ body)) (rest_at (at + 1) body)) (members_put d (at + 1) ms) (rest_at (at + 1 + length list + 1) rest) inner
    ∙ ap (λ (zs : List (List ℕ × Json)). Ok (record { at = at; kind = kinds.Object zs }, rest_at (at + 1 + length list + 1) rest)) placed_all
    ∙ ap (λ (j : Json). Ok (j, rest_at (at + 1 + length list + 1) rest)) (sym placed_is)
    ∙ ap (λ (q : Rest). Ok (placed at json, q)) (placed_rest (at + 1 + length list + 1) (at + length text) rest (omega (arith, size))))

other_head : (b c : ℕ) → (b == c) ≡ false → b ≡ c → ⊥
other_head b c is h = grind (arith, nat_tests)

value_by_kind : (depth : ℕ) → ((below : ℕ) → depth ≡ suc below → ValueRead below) → (json : Json) → containers json ≤ depth → Numerals (numbers_of json) → (at : ℕ) (rest : List ℕ) → Ended rest → IsKind json.kind
    → value depth (rest_at at (text_of json ++ rest)) ≡ Ok (placed at json, rest_at (at + length (text_of json)) rest)
value_by_kind depth below json le ns at rest ended (is_null e) =
    by_text depth json (codes "null") rest at kinds.Null (text-Null json e) (placing-Null json e)
    (value-scalar depth (rest_at at (codes "null" ++ rest)) (other_head 110 91 refl) (other_head 110 123 refl) ∙ null_back rest at)
value_by_kind depth below json le ns at rest ended (is_truth true e) =
    by_text depth json (codes "true") rest at (kinds.Truth true) (text-Truth json true e) (placing-Truth json true e)
    (value-scalar depth (rest_at at (codes "true" ++ rest)) (other_head 116 91 refl) (other_head 116 123 refl) ∙ true_back rest at)
value_by_kind depth below json le ns at rest ended (is_truth false e) =
    by_text depth json (codes "false") rest at (kinds.Truth false) (text-Truth json false e) (placing-Truth json false e)
    (value-scalar depth (rest_at at (codes "false" ++ rest)) (other_head 102 91 refl) (other_head 102 123 refl) ∙ false_back rest at)
value_by_kind depth below json le ns at rest ended (is_number s e) =
    by_text depth json s rest at (kinds.Number s) (text-Number json s e) (placing-Number json s e) (number_value depth s rest at (subst Numerals (numbers-Number json s e) ns).0 ended)
value_by_kind depth below json le ns at rest ended (is_text s e) =
    by_text depth json (quoted_text s) rest at (kinds.Text s) (text-Text json s e) (placing-Text json s e)
    (value-scalar depth (rest_at at (quoted_text s ++ rest)) (other_head 34 91 refl) (other_head 34 123 refl) ∙ text_back s rest at)
value_by_kind zero below json le ns at rest ended (is_list js e) = absurd (omega (arith, containers-List json js e))
value_by_kind (suc d) below json le ns at rest ended (is_list js e) = list_value d (below d refl) json js e le ns at rest ended
value_by_kind zero below json le ns at rest ended (is_object ms e) = absurd (omega (arith, containers-Object json ms e))
value_by_kind (suc d) below json le ns at rest ended (is_object ms e) = object_value d (below d refl) json ms e le ns at rest ended

value_read : (depth : ℕ) → ValueRead depth
value_read zero json le ns at rest ended = value_by_kind zero (λ below e. absurd (omega (arith, e))) json le ns at rest ended (kind_of json.kind)
value_read (suc d) json le ns at rest ended =
    value_by_kind (suc d) (λ below e. subst ValueRead (let same : d ≡ below = omega (arith, e) in same) (value_read d)) json le ns at rest ended (kind_of json.kind)

-- the whole text
whole_read : (depth : ℕ) (json : Json) → containers json ≤ depth → All IsNumeral (numbers_of json) → document depth (text_of json) ≡ Ok (placed 0 json)
unfolding document
whole_read depth json le numbers =
    let ns : Numerals (numbers_of json) = numerals_of (numbers_of json) numbers in
    let text : List ℕ = text_of json in
    let all : text ≡ text ++ [] = sym (append-nil text) in
    let read : value depth (rest_at 0 (text ++ [])) ≡ Ok (placed 0 json, rest_at (0 + length text) []) = value_read depth json le ns 0 [] at_end in
    ap (λ (t : List ℕ). value depth (blanks (rest_at 0 t)) >>= λ p. ended p.0 (blanks p.1)) all
    ∙ ap (λ (r : Rest). value depth r >>= λ p. ended p.0 (blanks p.1)) (starts_blanks 0 text [] (text_starts json ns))
    ∙ ap (λ (r : Reads Json). r >>= λ p. ended p.0 (blanks p.1)) read

pub text_read : (json : Json) (depth : ℕ) → containers json ≤ depth → All IsNumeral (numbers_of json) → IsUtf8 (text_of json) → json_text (text_of json) depth ≡ Ok (placed 0 json)
text_read json depth le numbers utf8 = json_text-utf8 (text_of json) (text_of json) refl utf8 depth ∙ whole_read depth json le numbers
