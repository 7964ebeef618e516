-- The text of values of JSON, and members that are added one after another.
use Rattle.std.proofs.Common.{◌≡◌, ◌∙◌, ◌≤◌, ◌<◌, ◌==◌, ◌+◌, ◌/◌, ◌%◌, inl, inr, ℕ, zero, suc, Bool, true, false, List, [], ◌∷◌, ◌++◌, map, drop, length, refl, sym, ap, append_assoc, append-nil, arith, cond, get_or, slice_index, drop-cons}
use Rattle.std.specs.Prelude.{◌&&◌, codes, ℤ, pos}
use Rattle.std.specs.Ordering.{int_eq}
use Rattle.std.specs.List.{list_all}
use Rattle.std.proofs.lemmas.List.{drop_all}
use Rattle.std.proofs.lemmas.Bool.Decides.{nat_tests}
use Rattle.std.proofs.lemmas.Int.{ints}
use Rattle.std.proofs.lemmas.Bool.{and_parts, cases_lt}
use Rattle.hex.specs.Hex.{lower_digits, encode_lower, encode_with}
use Rattle.json_text.specs.Kinds.{Member}
use Rattle.json_text.specs.Reading.{is_plain}
use Rattle.json_text.specs.Writing.{bytes_text, quoted_text, truth_text, listed_from, comma_before, text_of}
use Rattle.json_text.specs.declared.json.Json.{Json}
use Rattle.json_text.proofs.Written.{pair_text, text-Truth, text-Number, text-Text, text-List, text-Object}
use Rattle.otlp_json.specs.Line.{text_json, number_json, truth_json, list_json, object_json, unless, list_member, one_json, values_json, pair_of, is_empty, is_word, double_json}
use Rattle.otlp_json.specs.Adding.{comma_if, words_of, members_behind, some_behind, Adds, listed, pair_front}

-- Values of JSON by their kinds.

pub text_of-text : (text : List ℕ) → text_of (text_json text) ≡ quoted_text text
text_of-text text = sym (text-Text (text_json text) text refl)

pub text_of-number : (spelling : List ℕ) → text_of (number_json spelling) ≡ spelling
text_of-number spelling = sym (text-Number (number_json spelling) spelling refl)

pub text_of-truth : (truth : Bool) → text_of (truth_json truth) ≡ truth_text truth
text_of-truth truth = sym (text-Truth (truth_json truth) truth refl)

map_texts : {X : Type 0} (json : X → Json) (xs : List X) → map text_of (map json xs) ≡ map (λ (x : X). text_of (json x)) xs
map_texts json [] = refl
map_texts json (x ∷ xs) = ap (λ (ts : List (List ℕ)). text_of (json x) ∷ ts) (map_texts json xs)

pub text_of-list : {X : Type 0} (json : X → Json) (xs : List X) → text_of (list_json (map json xs)) ≡ codes "[" ++ (listed json xs ++ codes "]")
text_of-list json xs =
    sym (text-List (list_json (map json xs)) (map json xs) refl) ∙ append_assoc (codes "[") (listed_from 0 (map text_of (map json xs))) (codes "]")
    ∙ ap (λ (ts : List (List ℕ)). codes "[" ++ (listed_from 0 ts ++ codes "]")) (map_texts json xs)

behind_some : (index : ℕ) (ms : List Member) → listed_from (suc index) (map pair_text ms) ≡ members_behind true ms
behind_some index [] = refl
behind_some index (m ∷ ms) =
    append_assoc (codes ",") (words_of m) (listed_from (suc (suc index)) (map pair_text ms))
    ∙ ap (λ (t : List ℕ). codes "," ++ (words_of m ++ t)) (behind_some (suc index) ms)

listed_members : (ms : List Member) → listed_from 0 (map pair_text ms) ≡ members_behind false ms
listed_members [] = refl
listed_members (m ∷ ms) = ap (λ (t : List ℕ). words_of m ++ t) (behind_some 0 ms)

pub text_of-object : (ms : List Member) → text_of (object_json ms) ≡ codes "{" ++ (members_behind false ms ++ codes "}")
text_of-object ms =
    sym (text-Object (object_json ms) ms refl) ∙ append_assoc (codes "{") (listed_from 0 (map pair_text ms)) (codes "}")
    ∙ ap (λ (t : List ℕ). codes "{" ++ (t ++ codes "}")) (listed_members ms)

glued : (q c t z : List ℕ) → (q ++ c ++ t ++ []) ++ z ≡ q ++ (c ++ (t ++ z))
glued q c t z = simp (append_assoc, append-nil)

-- an object of one member
pub text_of-one : (key : List ℕ) (json : Json) → text_of (one_json key json) ≡ codes "{" ++ (quoted_text key ++ (codes ":" ++ (text_of json ++ codes "}")))
text_of-one key json =
    text_of-object ((key, json) ∷ []) ∙ ap (λ (t : List ℕ). codes "{" ++ t) (glued (quoted_text key) (codes ":") (text_of json) (codes "}"))

-- no member
pub text_of-nil : text_of (object_json []) ≡ codes "{}"
text_of-nil = text_of-object []

pub ruleset text_of_nil = (text_of-nil)

-- Pieces, one after another.

pub two_pushed : (old a b r s : List ℕ) → r ≡ old ++ a → s ≡ r ++ b → s ≡ old ++ (a ++ b)
two_pushed old a b r s e f = f ∙ (ap (λ (l : List ℕ). l ++ b) e ∙ append_assoc old a b)

pub three_pushed : (old a b d r s t : List ℕ) → r ≡ old ++ a → s ≡ r ++ b → t ≡ s ++ d → t ≡ old ++ (a ++ (b ++ d))
three_pushed old a b d r s t e f g =
    two_pushed old (a ++ b) d s t (two_pushed old a b r s e f) g ∙ ap (λ (l : List ℕ). old ++ l) (append_assoc a b d)

opened_glued : (o q c w e : List ℕ) → (o ++ (q ++ c)) ++ (w ++ e) ≡ o ++ (q ++ (c ++ (w ++ e)))
opened_glued o q c w e = simp append_assoc

-- an object of one member
pub one-pushed : (key front : List ℕ) (json : Json) (old word r s t : List ℕ) → front ≡ codes "{" ++ (quoted_text key ++ codes ":") → word ≡ text_of json
    → r ≡ old ++ front → s ≡ r ++ word → t ≡ s ++ codes "}" → t ≡ old ++ text_of (one_json key json)
one-pushed key front json old word r s t opens is e f g =
    three_pushed old front word (codes "}") r s t e f g
    ∙ ap (λ (l : List ℕ). old ++ (l ++ (word ++ codes "}"))) opens ∙ ap (λ (l : List ℕ). old ++ ((codes "{" ++ (quoted_text key ++ codes ":")) ++ (l ++ codes "}"))) is
    ∙ ap (λ (l : List ℕ). old ++ l) (opened_glued (codes "{") (quoted_text key) (codes ":") (text_of json) (codes "}") ∙ sym (text_of-one key json))

array_glued : (o q c l e : List ℕ) → o ++ (q ++ (c ++ ((codes "{\"values\":[" ++ (l ++ codes "]}")) ++ e))) ≡ (o ++ (q ++ (c ++ codes "{\"values\":["))) ++ (l ++ (codes "]}" ++ e))
array_glued o q c l e = simp append_assoc

-- what holds elements, behind its key, where there are some
text_of-values : {X : Type 0} (json : X → Json) (xs : List X) → (xs ≡ [] → ⊥)
    → text_of (object_json (list_member (codes "values") (map json xs))) ≡ codes "{\"values\":[" ++ (listed json xs ++ codes "]}")
text_of-values json [] not = absurd (not refl)
text_of-values json (x ∷ xs) not =
    text_of-one (codes "values") (list_json (map json (x ∷ xs)))
    ∙ ap (λ (l : List ℕ). codes "{\"values\":" ++ (l ++ codes "}")) (text_of-list json (x ∷ xs))
    ∙ ap (λ (l : List ℕ). codes "{\"values\":[" ++ l) (append_assoc (listed json (x ∷ xs)) (codes "]") (codes "}"))

pub array-pushed : {X : Type 0} (json : X → Json) (key front : List ℕ) (xs : List X) (old r s t : List ℕ) → (xs ≡ [] → ⊥)
    → front ≡ codes "{" ++ (quoted_text key ++ codes ":{\"values\":[") → r ≡ old ++ front → s ≡ r ++ listed json xs → t ≡ s ++ codes "]}}"
    → t ≡ old ++ text_of (one_json key (values_json (map json xs)))
array-pushed json key front xs old r s t not opens e f g =
    three_pushed old front (listed json xs) (codes "]}}") r s t e f g
    ∙ ap (λ (l : List ℕ). old ++ (l ++ (listed json xs ++ codes "]}}"))) opens
    ∙ ap (λ (l : List ℕ). old ++ l)
    (sym (text_of-one key (values_json (map json xs)) ∙ ap (λ (l : List ℕ). codes "{" ++ (quoted_text key ++ (codes ":" ++ (l ++ codes "}")))) (text_of-values json xs not)
    ∙ array_glued (codes "{") (quoted_text key) (codes ":") (listed json xs) (codes "}")))

pub array-none : {X : Type 0} (json : X → Json) (key : List ℕ) (xs : List X) → xs ≡ [] → text_of (one_json key (values_json (map json xs))) ≡ codes "{" ++ (quoted_text key ++ codes ":{}}")
array-none json key [] is = text_of-one key (object_json []) ∙ ap (λ (l : List ℕ). codes "{" ++ (quoted_text key ++ (codes ":" ++ (l ++ codes "}")))) text_of-nil
array-none json key (x ∷ xs) is = absurd cc

pair_glued : (q t v z : List ℕ) → codes "{" ++ ((q ++ codes ":" ++ t ++ (codes "," ++ (codes "\"value\"" ++ codes ":" ++ v ++ []))) ++ z) ≡ (codes "{" ++ (q ++ (codes ":" ++ t))) ++ (codes "," ++ (codes "\"value\":" ++ (v ++ z)))
pair_glued q t v z = simp (append_assoc, append-nil)

front_glued : (t v z : List ℕ) → (codes "{\"key\":" ++ t) ++ (codes ",\"value\":" ++ (v ++ z)) ≡ (codes "{\"key\":" ++ (t ++ codes ",\"value\":")) ++ (v ++ z)
front_glued t v z = simp append_assoc

pub text_of-pair : (key : List ℕ) (value : Json) → text_of (pair_of key value) ≡ pair_front key ++ (text_of value ++ codes "}")
text_of-pair key value =
    text_of-object ((codes "key", text_json key) ∷ (codes "value", value) ∷ [])
    ∙ pair_glued (codes "\"key\"") (text_of (text_json key)) (text_of value) (codes "}")
    ∙ ap (λ (t : List ℕ). (codes "{\"key\":" ++ t) ++ (codes ",\"value\":" ++ (text_of value ++ codes "}"))) (text_of-text key)
    ∙ front_glued (quoted_text key) (text_of value) (codes "}")

-- at the end of a list nothing is left
pub all_listed : {X : Type 0} (json : X → Json) (out whole : List ℕ) (n : ℕ) (xs : List X) → length xs ≤ n
    → out ++ listed_from n (map (λ (x : X). text_of (json x)) (drop n xs)) ≡ whole → out ≡ whole
all_listed {X = X} json out whole n xs end is =
    sym (append-nil out) ∙ (ap (λ (l : List ℕ). out ++ l) (sym (ap (λ ys. listed_from n (map (λ (x : X). text_of (json x)) ys)) (drop_all n xs end))) ∙ is)

-- Members.

some-true : (xs : List Member) → some_behind true xs ≡ true
some-true [] = refl
some-true (x ∷ xs) = refl

regroup : (c w a b : List ℕ) → c ++ (w ++ (a ++ b)) ≡ (c ++ (w ++ a)) ++ b
regroup c w a b = simp append_assoc

behind-append : (some : Bool) (xs ys : List Member) → members_behind some (xs ++ ys) ≡ members_behind some xs ++ members_behind (some_behind some xs) ys
behind-append some [] ys = refl
behind-append some (x ∷ xs) ys =
    ap (λ (t : List ℕ). comma_if some ++ (words_of x ++ t))
    (behind-append true xs ys ∙ ap (λ (b : Bool). members_behind true xs ++ members_behind b ys) (some-true xs))
    ∙ regroup (comma_if some) (words_of x) (members_behind true xs) (members_behind true ys)

some-append : (some : Bool) (xs ys : List Member) → some_behind some (xs ++ ys) ≡ some_behind (some_behind some xs) ys
some-append some [] ys = refl
some-append some (x ∷ xs) ys = sym (some-true ys)

-- members, and then more
pub Adds-append : (xs ys : List Member) (some t u : Bool) (a b c : List ℕ) → Adds xs some a t b → Adds ys t b u c → Adds (xs ++ ys) some a u c
Adds-append xs ys some t u a b c first second = record {
  text = second.text ∙ ap (λ (l : List ℕ). l ++ members_behind t ys) first.text
      ∙ ap (λ (s : Bool). a ++ members_behind some xs ++ members_behind s ys) first.any
      ∙ append_assoc a (members_behind some xs) (members_behind (some_behind some xs) ys)
      ∙ ap (λ (l : List ℕ). a ++ l) (sym (behind-append some xs ys));
  any = second.any ∙ ap (λ (s : Bool). some_behind s ys) first.any ∙ sym (some-append some xs ys);
}

-- nothing was added
pub Adds-nil : (some : Bool) (a : List ℕ) → Adds [] some a some a
Adds-nil some a = record { text = sym (append-nil a); any = refl }

keyed_glued : (a c k t : List ℕ) → (a ++ (c ++ k)) ++ t ≡ a ++ (c ++ ((k ++ t) ++ []))
keyed_glued a c k t = simp (append_assoc, append-nil)

-- a member, in two pieces
pub Adds-one : (key : List ℕ) (json : Json) (some : Bool) (a b c : List ℕ) → b ≡ a ++ (comma_if some ++ (quoted_text key ++ codes ":"))
    → c ≡ b ++ text_of json → Adds ((key, json) ∷ []) some a true c
Adds-one key json some a b c keyed valued = record {
  text = valued ∙ ap (λ (l : List ℕ). l ++ text_of json) keyed ∙ keyed_glued a (comma_if some) (quoted_text key ++ codes ":") (text_of json);
  any = refl;
}

pub Adds-absent : (absent : Bool) (key : List ℕ) (json : Json) (some : Bool) (a : List ℕ) → absent ≡ true → Adds (unless absent key json) some a some a
Adds-absent true key json some a is = Adds-nil some a
Adds-absent false key json some a is = absurd cc

pub Adds-present : (absent : Bool) (key : List ℕ) (json : Json) (some : Bool) (a b c : List ℕ) → absent ≡ false
    → b ≡ a ++ (comma_if some ++ (quoted_text key ++ codes ":")) → c ≡ b ++ text_of json → Adds (unless absent key json) some a true c
Adds-present true key json some a b c is keyed valued = absurd cc
Adds-present false key json some a b c is keyed valued = Adds-one key json some a b c keyed valued

pub Adds-list : {X : Type 0} (json : X → Json) (key : List ℕ) (xs : List X) (some : Bool) (a b c : List ℕ) → (xs ≡ [] → ⊥)
    → b ≡ a ++ (comma_if some ++ (quoted_text key ++ codes ":")) → c ≡ b ++ text_of (list_json (map json xs)) → Adds (list_member key (map json xs)) some a true c
Adds-list json key [] some a b c not keyed valued = absurd (not refl)
Adds-list json key (x ∷ xs) some a b c not keyed valued = Adds-one key (list_json (map json (x ∷ xs))) some a b c keyed valued

-- an object, once its members were added between its braces
pub closed : (ms : List Member) (now : Bool) (old opened filled new : List ℕ) → opened ≡ old ++ codes "{" → Adds ms false opened now filled → new ≡ filled ++ codes "}"
    → new ≡ old ++ text_of (object_json ms)
closed ms now old opened filled new opens adds closes =
    three_pushed old (codes "{") (members_behind false ms) (codes "}") opened filled new opens adds.text closes
    ∙ ap (λ (l : List ℕ). old ++ l) (sym (text_of-object ms))

-- Texts without escapes.

plain_step : (t : Bool) (b : ℕ) (bs : List ℕ) → is_plain b ≡ t → (t && list_all is_plain bs) ≡ true → (list_all is_plain bs ≡ true → bytes_text bs ≡ bs) → bytes_text (b ∷ bs) ≡ b ∷ bs
plain_step true b bs is all below = rw is (ap (λ (l : List ℕ). b ∷ l) (below all))
plain_step false b bs is all below = absurd cc

pub bytes_text-plain : (bs : List ℕ) → list_all is_plain bs ≡ true → bytes_text bs ≡ bs
bytes_text-plain [] all = refl
bytes_text-plain (b ∷ bs) all = plain_step (is_plain b) b bs refl all (λ h. bytes_text-plain bs h)

-- Tests, as they are met.

pub nonzero : (n : ℕ) → (n ≡ 0 → ⊥) → (n == 0) ≡ false
nonzero n not = grind (arith, nat_tests)

pub some_text : (t : List ℕ) → (length t == 0) ≡ false → is_empty t ≡ false
some_text [] some = absurd cc
some_text (b ∷ bs) some = refl

pub some_items : {X : Type 0} (xs : List X) → (length xs == 0) ≡ false → xs ≡ [] → ⊥
some_items [] some is = absurd cc
some_items (x ∷ xs) some is = absurd cc

-- a double by its word, or by its numeral
double_by : (word : Bool) (spelling : List ℕ) → text_of (cond word (text_json spelling) (number_json spelling)) ≡ cond word (quoted_text spelling) spelling
double_by true spelling = text_of-text spelling
double_by false spelling = text_of-number spelling

pub text_of-word : (spelling : List ℕ) → true ≡ is_word spelling → quoted_text spelling ≡ text_of (double_json spelling)
text_of-word spelling is = ap (λ (b : Bool). cond b (quoted_text spelling) spelling) is ∙ sym (double_by (is_word spelling) spelling)

pub text_of-numeral : (spelling : List ℕ) → false ≡ is_word spelling → spelling ≡ text_of (double_json spelling)
text_of-numeral spelling is = ap (λ (b : Bool). cond b (quoted_text spelling) spelling) is ∙ sym (double_by (is_word spelling) spelling)

-- Elements, one after another.

element_glued : (out c t r : List ℕ) → ((out ++ c) ++ t) ++ r ≡ out ++ ((c ++ t) ++ r)
element_glued out c t r = simp append_assoc

pub listed-more : {X : Type 0} (json : X → Json) (xs : List X) (i : ℕ) (x : X) (out mid new whole : List ℕ) → i < length xs → x ≡ get_or xs i x
    → mid ≡ out ++ comma_before i → new ≡ mid ++ text_of (json x) → out ++ listed_from i (map (λ (x : X). text_of (json x)) (drop i xs)) ≡ whole
    → new ++ listed_from (i + 1) (map (λ (x : X). text_of (json x)) (drop (i + 1) xs)) ≡ whole
listed-more {X = X} json xs i x out mid new whole within is comma grown so_far =
    let next : i + 1 ≡ suc i = omega arith in
    let rest = listed_from (suc i) (map (λ (x : X). text_of (json x)) (drop (suc i) xs)) in
    let here : drop i xs ≡ x ∷ drop (suc i) xs = drop-cons xs i x within ∙ ap (λ (y : X). y ∷ drop (suc i) xs) (sym is) in
    rw (next, grown, comma)
    (element_glued out (comma_before i) (text_of (json x)) rest
    ∙ sym (ap (λ (ys : List X). out ++ listed_from i (map (λ (x : X). text_of (json x)) ys)) here) ∙ so_far)

-- Hexadecimal digits stand for themselves.

all_plain : ℕ → Bool
all_plain zero = true
all_plain (suc n) = is_plain (slice_index lower_digits n) && all_plain n

plain_at : (n d : ℕ) → all_plain n ≡ true → d < n → is_plain (slice_index lower_digits d) ≡ true
unfolding all_plain
plain_at zero d all within = absurd (omega arith)
plain_at (suc n) d all within =
    let parts = and_parts (is_plain (slice_index lower_digits n)) (all_plain n) all in
    elim (cases_lt d n) [
      | inl below ↦ plain_at n d parts.1 below
      | inr top ↦
          let e : d ≡ n = omega arith in
          rw e parts.0
    ]

plain_digit : (d : ℕ) → d < 16 → is_plain (slice_index lower_digits d) ≡ true
unfolding all_plain
plain_digit d small = plain_at 16 d refl small

pub plain_hex : (bytes : List ℕ) → ((i : ℕ) → get_or bytes i 0 < 256) → list_all is_plain (encode_lower bytes) ≡ true
unfolding encode_with
plain_hex [] small = refl
plain_hex (b ∷ bs) small =
    let here : b < 256 = small 0 in
    let high = plain_digit (b / 16) (omega arith) in
    let low = plain_digit (b % 16) (omega arith) in
    rw (high, low) (plain_hex bs (λ i. small (suc i)))

zero_by : (n : ℕ) → (n == 0) ≡ true → n ≡ 0
zero_by n is = grind (arith, nat_tests)

pub no_items : {X : Type 0} (xs : List X) → (length xs == 0) ≡ true → xs ≡ []
no_items [] none = refl
no_items (x ∷ xs) none =
    let zero_is : suc (length xs) ≡ 0 = zero_by (suc (length xs)) none in
    absurd (omega arith)

pub nonzero_int : (n : ℤ) → (n ≡ pos 0 → ⊥) → int_eq n (pos 0) ≡ false
nonzero_int n not = grind (arith, ints)
