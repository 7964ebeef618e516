-- What is written of texts in UTF-8 is UTF-8.
use Rattle.std.proofs.Common.{◌≡◌, ◌∙◌, ℕ, zero, suc, ◌+◌, ◌/◌, ◌%◌, ◌<◌, ◌≤◌, Bool, true, false, List, [], ◌∷◌, ◌++◌, Ok, map, refl, sym, ap, subst, arith, cond, append_assoc}
use Rattle.std.specs.Prelude.{◌==◌, ◌||◌, nat_lt, codes}
use Rattle.std.specs.Char.{digit_char, encode_utf8, IsScalar}
use Rattle.std.specs.List.{All}
use Rattle.std.specs.Str.{IsUtf8, encode_utf8_all, all_scalars}
use Rattle.std.proofs.lemmas.Bool.Decides.{nat_tests}
use Rattle.std.proofs.lemmas.Str.{IsUtf8-nil, IsUtf8-append, IsUtf8-encode, encode_ascii}
use Rattle.contract_words.proofs.Predictive.{and_l, and_r}
use Rattle.pdata_value.specs.Numeral.{is_digit, is_e, is_sign, numeral, IsNumeral}
use Rattle.json_text.specs.Reading.{is_plain, json_text}
use Rattle.json_text.specs.Writing.{escape_of, byte_text, bytes_text, quoted_text, comma_before, listed_from, numbers_of, texts_of, text_of}
use Rattle.json_text.specs.Placed.{containers, placed}
use Rattle.json_text.specs.declared.json.Json.{Json}
use Rattle.json_text.proofs.Written.{pair_text, text-Null, text-Truth, text-Number, text-Text, text-List, text-Object}
use Rattle.json_text.proofs.Layers.{IsKind, is_null, is_truth, is_number, is_text, is_list, is_object, kind_of, deepest_item, deepest_member, deepest-cons, containers-List, containers-Object, numbers-Number, numbers-List, numbers-Object, item_numbers, member_numbers, texts-Text, texts-List, texts-Object, item_texts, member_texts}
use Rattle.json_text.proofs.NumberBack.{Each, each_spelled, numeric, numeral_only}
use Rattle.json_text.proofs.RoundTrip.{Numerals, numerals_of, numerals_parts, text_read}

-- Bytes below 128.
abbrev AllLow : List ℕ → Type 0
AllLow [] = Unit {0}
AllLow (b ∷ bs) = (b < 128) × AllLow bs

scalar_low : (b : ℕ) → b < 128 → IsScalar b
scalar_low b h = grind (arith, nat_tests)

low_one : (b : ℕ) → b < 128 → IsUtf8 (b ∷ [])
low_one b h = subst IsUtf8 (encode_ascii b h) (IsUtf8-encode b (scalar_low b h))

pub low_utf8 : (bs : List ℕ) → AllLow bs → IsUtf8 bs
low_utf8 [] h = IsUtf8-nil
low_utf8 (b ∷ bs) h = IsUtf8-append (b ∷ []) bs (low_one b h.0) (low_utf8 bs h.1)

digit_low : (d : ℕ) → d < 16 → digit_char d < 128
digit_low d h = grind (arith, nat_tests)

control : (b : ℕ) → is_plain b ≡ false → (b == 34) ≡ false → (b == 92) ≡ false → b < 32
control b p q s = grind (arith, nat_tests)

escape_by : (b : ℕ) → is_plain b ≡ false → (s t u v w x y : Bool) → (b == 34) ≡ s → (b == 92) ≡ t
    → AllLow (cond s (codes "\\\"") (cond t (codes "\\\\") (cond u (codes "\\b") (cond v (codes "\\f") (cond w (codes "\\n") (cond x (codes "\\r") (cond y (codes "\\t") (codes "\\u00" ++ digit_char (b / 16) ∷ digit_char (b % 16) ∷ []))))))))
escape_by b p true t u v w x y a1 a2 = (omega arith, (omega arith, tt))
escape_by b p false true u v w x y a1 a2 = (omega arith, (omega arith, tt))
escape_by b p false false true v w x y a1 a2 = (omega arith, (omega arith, tt))
escape_by b p false false false true w x y a1 a2 = (omega arith, (omega arith, tt))
escape_by b p false false false false true x y a1 a2 = (omega arith, (omega arith, tt))
escape_by b p false false false false false true y a1 a2 = (omega arith, (omega arith, tt))
escape_by b p false false false false false false true a1 a2 = (omega arith, (omega arith, tt))
escape_by b p false false false false false false false a1 a2 =
    let less = control b p a1 a2 in
    (omega arith, (omega arith, (omega arith, (omega arith, (digit_low (b / 16) (omega arith), (digit_low (b % 16) (omega arith), tt))))))

escape_low : (b : ℕ) → is_plain b ≡ false → AllLow (escape_of b)
escape_low b p = escape_by b p (b == 34) (b == 92) (b == 8) (b == 12) (b == 10) (b == 13) (b == 9) refl refl

bytes_text-append : (xs ys : List ℕ) → bytes_text (xs ++ ys) ≡ bytes_text xs ++ bytes_text ys
bytes_text-append [] ys = refl
bytes_text-append (x ∷ xs) ys = ap (λ (t : List ℕ). byte_text x ++ t) (bytes_text-append xs ys) ∙ sym (append_assoc (byte_text x) (bytes_text xs) (bytes_text ys))

low_end : (bs : List ℕ) → AllLow bs → AllLow (bs ++ [])
low_end [] h = tt
low_end (b ∷ bs) h = (h.0, low_end bs h.1)

low_byte : (b : ℕ) → b < 128 → (t : Bool) → is_plain b ≡ t → AllLow (cond t (b ∷ []) (escape_of b))
low_byte b h true p = (h, tt)
low_byte b h false p = escape_low b p

-- Bytes from 128 on.
abbrev AllHigh : List ℕ → Type 0
AllHigh [] = Unit {0}
AllHigh (b ∷ bs) = (128 ≤ b) × AllHigh bs

high_plain : (b : ℕ) → 128 ≤ b → is_plain b ≡ true
high_plain b h = grind (arith, nat_tests)

high_text : (bs : List ℕ) → AllHigh bs → bytes_text bs ≡ bs
high_text [] h = refl
high_text (b ∷ bs) h = ap (λ (t : Bool). cond t (b ∷ []) (escape_of b) ++ bytes_text bs) (high_plain b h.0) ∙ ap (λ (t : List ℕ). b ∷ t) (high_text bs h.1)

high_encode : (c : ℕ) → 128 ≤ c → AllHigh (encode_utf8 c)
unfolding encode_utf8
high_encode c h = by (nat_lt c 128) (nat_lt c 2048) (nat_lt c 65536) (not_low c h) where
  not_low : (c : ℕ) → 128 ≤ c → nat_lt c 128 ≡ false
  not_low c h = grind (arith, nat_tests)

  by : (s t u : Bool) → s ≡ false → AllHigh (cond s (c ∷ []) (cond t ((192 + c / 64) ∷ (128 + c % 64) ∷ []) (cond u ((224 + c / 4096) ∷ (128 + c / 64 % 64) ∷ (128 + c % 64) ∷ []) ((240 + c / 262144) ∷ (128 + c / 4096 % 64) ∷ (128 + c / 64 % 64) ∷ (128 + c % 64) ∷ []))))
  by true t u e = absurd cc
  by false true u e = (omega arith, (omega arith, tt))
  by false false true e = (omega arith, (omega arith, (omega arith, tt)))
  by false false false e = (omega arith, (omega arith, (omega arith, (omega arith, tt))))

-- A character.
below : (c : ℕ) → nat_lt c 128 ≡ true → c < 128
below c is = grind (arith, nat_tests)

above : (c : ℕ) → nat_lt c 128 ≡ false → 128 ≤ c
above c is = grind (arith, nat_tests)

char_by : (c : ℕ) → IsScalar c → (t : Bool) → nat_lt c 128 ≡ t → IsUtf8 (bytes_text (encode_utf8 c))
char_by c scalar true is =
    let less : c < 128 = below c is in
    subst (λ (bs : List ℕ). IsUtf8 (bytes_text bs)) (sym (encode_ascii c less)) (low_utf8 (byte_text c ++ []) (low_end (byte_text c) (low_byte c less (is_plain c) refl)))
char_by c scalar false is = subst IsUtf8 (sym (high_text (encode_utf8 c) (high_encode c (above c is)))) (IsUtf8-encode c scalar)

chars_text : (cs : List ℕ) → all_scalars cs ≡ true → IsUtf8 (bytes_text (encode_utf8_all cs))
chars_text [] h = IsUtf8-nil
chars_text (c ∷ cs) h =
    subst IsUtf8 (sym (bytes_text-append (encode_utf8 c) (encode_utf8_all cs)))
    (IsUtf8-append (bytes_text (encode_utf8 c)) (bytes_text (encode_utf8_all cs)) (char_by c (and_l _ (all_scalars cs) h) (nat_lt c 128) refl) (chars_text cs (and_r _ (all_scalars cs) h)))

pub bytes_utf8 : (t : List ℕ) → IsUtf8 t → IsUtf8 (bytes_text t)
bytes_utf8 t h = subst (λ (bs : List ℕ). IsUtf8 (bytes_text bs)) h.1.1 (chars_text h.0 h.1.0)

quote : IsUtf8 (codes "\"")
quote = low_utf8 (codes "\"") (omega arith, tt)

pub quoted_utf8 : (t : List ℕ) → IsUtf8 t → IsUtf8 (quoted_text t)
quoted_utf8 t h = IsUtf8-append (codes "\"" ++ bytes_text t) (codes "\"") (IsUtf8-append (codes "\"") (bytes_text t) quote (bytes_utf8 t h)) quote

-- Numerals.
numeric_low : (b : ℕ) → (is_digit b || ((b == 46) || (is_e b || is_sign b))) ≡ true → b < 128
numeric_low b h = grind (arith, nat_tests)

each_low : (s : List ℕ) → Each numeric s → AllLow s
each_low [] h = tt
each_low (b ∷ bs) h = (numeric_low b h.0, each_low bs h.1)

pub numeral_utf8 : (s : List ℕ) → IsNumeral s → IsUtf8 s
numeral_utf8 s h = low_utf8 s (each_low s (each_spelled numeric numeral numeral_only s h))

-- Elements with commas between them.
abbrev pub AllUtf8 : List (List ℕ) → Type 0
AllUtf8 [] = Unit {0}
AllUtf8 (t ∷ ts) = IsUtf8 t × AllUtf8 ts

comma_utf8 : (k : ℕ) → IsUtf8 (comma_before k)
comma_utf8 zero = IsUtf8-nil
comma_utf8 (suc k) = low_utf8 (codes ",") (omega arith, tt)

listed_utf8 : (k : ℕ) (ts : List (List ℕ)) → AllUtf8 ts → IsUtf8 (listed_from k ts)
listed_utf8 k [] h = IsUtf8-nil
listed_utf8 k (t ∷ ts) h =
    IsUtf8-append (comma_before k ++ t) (listed_from (suc k) ts) (IsUtf8-append (comma_before k) t (comma_utf8 k) h.0) (listed_utf8 (suc k) ts h.1)

bracketed : (opener closer : ℕ) (ts : List (List ℕ)) → opener < 128 → closer < 128 → AllUtf8 ts → IsUtf8 ((opener ∷ []) ++ listed_from 0 ts ++ (closer ∷ []))
bracketed opener closer ts less_o less_c h =
    IsUtf8-append ((opener ∷ []) ++ listed_from 0 ts) (closer ∷ []) (IsUtf8-append (opener ∷ []) (listed_from 0 ts) (low_one opener less_o) (listed_utf8 0 ts h)) (low_one closer less_c)

-- Values.
abbrev ValueUtf8 : ℕ → Type 0
ValueUtf8 depth = (json : Json) → containers json ≤ depth → Numerals (numbers_of json) → AllUtf8 (texts_of json) → IsUtf8 (text_of json)

parts : (xs ys : List (List ℕ)) → AllUtf8 (xs ++ ys) → AllUtf8 xs × AllUtf8 ys
parts [] ys h = (tt, h)
parts (x ∷ xs) ys h = let below = parts xs ys h.1 in ((h.0, below.0), below.1)

items_utf8 : (depth : ℕ) → ValueUtf8 depth → (js : List Json) → deepest_item js ≤ depth → Numerals (item_numbers js) → AllUtf8 (item_texts js) → AllUtf8 (map text_of js)
items_utf8 depth one [] le ns ts = tt
items_utf8 depth one (j ∷ js) le ns ts =
    let n = numerals_parts (numbers_of j) (item_numbers js) ns in
    let t = parts (texts_of j) (item_texts js) ts in
    (one j (omega (arith, deepest-cons j js)) n.0 t.0, items_utf8 depth one js (omega (arith, deepest-cons j js)) n.1 t.1)

members_utf8 : (depth : ℕ) → ValueUtf8 depth → (ms : List (List ℕ × Json)) → deepest_member ms ≤ depth → Numerals (member_numbers ms) → AllUtf8 (member_texts ms) → AllUtf8 (map pair_text ms)
members_utf8 depth one [] le ns ts = tt
members_utf8 depth one (m ∷ ms) le ns ts =
    let n = numerals_parts (numbers_of m.1) (member_numbers ms) ns in
    let t = parts (texts_of m.1) (member_texts ms) ts.1 in
    let key : IsUtf8 (quoted_text m.0 ++ codes ":") = IsUtf8-append (quoted_text m.0) (codes ":") (quoted_utf8 m.0 ts.0) (low_one 58 (omega arith)) in
    (IsUtf8-append (quoted_text m.0 ++ codes ":") (text_of m.1) key (one m.1 (omega arith) n.0 t.0), members_utf8 depth one ms (omega arith) n.1 t.1)

utf8_by_kind : (depth : ℕ) → ((below : ℕ) → depth ≡ suc below → ValueUtf8 below) → (json : Json) → containers json ≤ depth → Numerals (numbers_of json) → AllUtf8 (texts_of json) → IsKind json.kind → IsUtf8 (text_of json)
utf8_by_kind depth below json le ns ts (is_null e) = subst IsUtf8 (text-Null json e) (low_utf8 (codes "null") (omega arith, (omega arith, (omega arith, (omega arith, tt)))))
utf8_by_kind depth below json le ns ts (is_truth true e) = subst IsUtf8 (text-Truth json true e) (low_utf8 (codes "true") (omega arith, (omega arith, (omega arith, (omega arith, tt)))))
utf8_by_kind depth below json le ns ts (is_truth false e) = subst IsUtf8 (text-Truth json false e) (low_utf8 (codes "false") (omega arith, (omega arith, (omega arith, (omega arith, (omega arith, tt))))))
utf8_by_kind depth below json le ns ts (is_number s e) = subst IsUtf8 (text-Number json s e) (numeral_utf8 s (subst Numerals (numbers-Number json s e) ns).0)
utf8_by_kind depth below json le ns ts (is_text s e) = subst IsUtf8 (text-Text json s e) (quoted_utf8 s (subst AllUtf8 (texts-Text json s e) ts).0)
utf8_by_kind zero below json le ns ts (is_list js e) = absurd (omega (arith, containers-List json js e))
utf8_by_kind (suc d) below json le ns ts (is_list js e) =
    subst IsUtf8 (text-List json js e) (bracketed 91 93 (map text_of js) (omega arith) (omega arith)
    (items_utf8 d (below d refl) js (omega (arith, containers-List json js e)) (subst Numerals (numbers-List json js e) ns) (subst AllUtf8 (texts-List json js e) ts)))
utf8_by_kind zero below json le ns ts (is_object ms e) = absurd (omega (arith, containers-Object json ms e))
utf8_by_kind (suc d) below json le ns ts (is_object ms e) =
    subst IsUtf8 (text-Object json ms e) (bracketed 123 125 (map pair_text ms) (omega arith) (omega arith)
    (members_utf8 d (below d refl) ms (omega (arith, containers-Object json ms e)) (subst Numerals (numbers-Object json ms e) ns) (subst AllUtf8 (texts-Object json ms e) ts)))

value_utf8 : (depth : ℕ) → ValueUtf8 depth
value_utf8 zero json le ns ts = utf8_by_kind zero (λ below e. absurd (omega (arith, e))) json le ns ts (kind_of json.kind)
value_utf8 (suc d) json le ns ts = utf8_by_kind (suc d) (λ below e. subst ValueUtf8 (let same : d ≡ below = omega (arith, e) in same) (value_utf8 d)) json le ns ts (kind_of json.kind)

all_utf8 : (ts : List (List ℕ)) → All IsUtf8 ts → AllUtf8 ts
all_utf8 [] h = tt
all_utf8 (t ∷ ts) h = (h 0 t (omega arith), all_utf8 ts (λ k d within. h (suc k) d (omega arith)))

pub text_utf8 : (json : Json) → All IsNumeral (numbers_of json) → All IsUtf8 (texts_of json) → IsUtf8 (text_of json)
text_utf8 json numbers texts = value_utf8 (containers json) json (omega arith) (numerals_of (numbers_of json) numbers) (all_utf8 (texts_of json) texts)

-- what is written is read again
pub written_read : (json : Json) (depth : ℕ) → containers json ≤ depth → All IsNumeral (numbers_of json) → All IsUtf8 (texts_of json) → json_text (text_of json) depth ≡ Ok (placed 0 json)
written_read json depth le numbers texts = text_read json depth le numbers (text_utf8 json numbers texts)
