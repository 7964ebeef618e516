-- No proper front of an object is a text of JSON, where the object ends in its brace.
use Rattle.std.proofs.Common.{◌≡◌, ◌∙◌, ℕ, zero, suc, ◌+◌, ◌<◌, ◌≤◌, Bool, true, false, List, [], ◌∷◌, ◌++◌, length, drop, Option, Some, None, Result, Ok, Err, ◌⊎◌, inl, inr, refl, sym, ap, subst, arith, cond, append-nil}
use Rattle.std.specs.Prelude.{◌&&◌, ◌||◌, ◌==◌, slice_index, codes}
use Rattle.std.specs.List.{prefix_len}
use Rattle.std.specs.Str.{IsUtf8, IsValidUpTo}
use Rattle.std.proofs.lemmas.Bool.Decides.{nat_tests}
use Rattle.std.proofs.lemmas.Str.{utf8_valid_len-IsUtf8, utf8_valid_len-IsValidUpTo}
use Rattle.std.proofs.Math.Seq.{take-length}
use Rattle.contract_words.specs.Grammar.{Rule, nothing, byte, alt, seq, many, spells, viable, nullable, first, after}
use Rattle.contract_words.specs.Fronts.{IsLongest}
use Rattle.contract_words.specs.Rows.{row_nullable, run, step, taken}
use Rattle.contract_words.proofs.Fronts.{front_viable}
use Rattle.contract_words.proofs.Viable.{spelled_viable}
use Rattle.json_text.specs.Place.{Rest, head, past, is_blank, blanks}
use Rattle.json_text.specs.Kinds.{Member, members_layer, as_members}
use Rattle.json_text.specs.Reading.{◌>>=◌, Reads, make, these, literal, quoted, number, scalar, sequence, value, ended, document, json_text}
use Rattle.json_text.specs.Grammar.{ws, member_rule, sequence_rule, value_rule, json}
use Rattle.json_text.specs.declared.json.Json.{Json}
use Rattle.json_text.specs.declared.json.JsonKind.{JsonKind, out-JsonKind}
use Rattle.json_text.specs.declared.json.JsonKind.TheVariants as kinds
use Rattle.json_text.specs.declared.error.JsonFault.{JsonFault}
use Rattle.json_text.specs.declared.error.JsonFault.TheVariants.{BadUtf8, BadJson, TooDeep, NoMemory}
use Rattle.json_text.proofs.Values.{same_length}
use Rattle.contract_words.proofs.Machine.{run-seq}
use Rattle.contract_words.proofs.Whole.{run_of_spelled}
use Rattle.json_text.proofs.Fitting.{json_fits}
use Rattle.json_text.proofs.Law.{Judged, judged, read_spelled, bad_longest, deep_longest, deep_goes_on}

true-false : {P : Type 0} → false ≡ true → P
true-false is = absurd cc

no_value : (d : ℕ) → nullable (value_rule d) ≡ false
no_value zero = refl
no_value (suc d) = refl

-- Rules that end with a byte that has to stand.

abbrev EndsRule : Rule → Type 0
EndsRule nothing = ⊥
EndsRule (byte p) = Unit {0}
EndsRule (alt l r) = EndsRule l × EndsRule r
EndsRule (seq l r) = EndsRule r
EndsRule (many a) = ⊥

abbrev EndsRow : List Rule → Type 0
EndsRow [] = ⊥
EndsRow (r ∷ rs) = (EndsRule r × (rs ≡ [])) ⊎ EndsRow rs

-- such rules, and then blanks alone
abbrev Open : List Rule → Type 0
Open [] = ⊥
Open (r ∷ rs) = (EndsRule r × (rs ≡ ws ∷ [])) ⊎ Open rs

abbrev Inside : List Rule → Type 0
Inside rs = (rs ≡ ws ∷ []) ⊎ Open rs

or_false : (a b : Bool) → a ≡ false → b ≡ false → (a || b) ≡ false
or_false a b x y = rw (x, y) refl

and_false : (a b : Bool) → b ≡ false → (a && b) ≡ false
and_false true b y = y
and_false false b y = refl

ends_null : (r : Rule) → EndsRule r → nullable r ≡ false
ends_null nothing e = absurd e
ends_null (byte p) e = refl
ends_null (alt l r) e = or_false (nullable l) (nullable r) (ends_null l e.0) (ends_null r e.1)
ends_null (seq l r) e = and_false (nullable l) (nullable r) (ends_null r e)
ends_null (many a) e = absurd e

ends_last : (rs : List Rule) (r : Rule) → EndsRule r → EndsRow (rs ++ r ∷ [])
ends_last [] r e = inl (e, refl)
ends_last (s ∷ rs) r e = inr (ends_last rs r e)

after_alt : (t : Bool) (x y : List Rule) → (x ≡ []) ⊎ EndsRow x → (y ≡ []) ⊎ EndsRow y → (cond t x y ≡ []) ⊎ EndsRow (cond t x y)
after_alt true x y p q = p
after_alt false x y p q = q

after_seq : (t : Bool) (x y : List Rule) (r : Rule) → EndsRule r → (y ≡ []) ⊎ EndsRow y → (cond t (x ++ r ∷ []) y ≡ []) ⊎ EndsRow (cond t (x ++ r ∷ []) y)
after_seq true x y r e q = inr (ends_last x r e)
after_seq false x y r e q = q

after_ends : (r : Rule) → EndsRule r → (b : ℕ) → (after r b ≡ []) ⊎ EndsRow (after r b)
after_ends nothing e b = absurd e
after_ends (byte p) e b = inl refl
after_ends (alt l r) e b = after_alt (first l b) (after l b) (after r b) (after_ends l e.0 b) (after_ends r e.1 b)
after_ends (seq l r) e b = after_seq (first l b) (after l b) (after r b) r e (after_ends r e b)
after_ends (many a) e b = absurd e

open_of : (rs : List Rule) → EndsRow rs → Open (rs ++ ws ∷ [])
open_of [] e = absurd e
open_of (r ∷ rs) (inl e) = inl (e.0, ap (λ (us : List Rule). us ++ ws ∷ []) e.1)
open_of (r ∷ rs) (inr e) = inr (open_of rs e)

open_before : (rs ss : List Rule) → Open ss → Open (rs ++ ss)
open_before [] ss o = o
open_before (r ∷ rs) ss o = inr (open_before rs ss o)

open_null : (rs : List Rule) → Open rs → row_nullable rs ≡ false
open_null [] o = absurd o
open_null (r ∷ rs) (inl e) = ap (λ (b : Bool). b && row_nullable rs) (ends_null r e.0)
open_null (r ∷ rs) (inr o) = and_false (nullable r) (row_nullable rs) (open_null rs o)

-- a byte leads from such a row into such a row

inside_of : (rs : List Rule) → (rs ≡ []) ⊎ EndsRow rs → Inside (rs ++ ws ∷ [])
inside_of rs (inl none) = inl (ap (λ (us : List Rule). us ++ ws ∷ []) none)
inside_of rs (inr e) = inr (open_of rs e)

step_last : (t n : Bool) (r : Rule) (b : ℕ) (rs ss : List Rule) → EndsRule r → rs ≡ ws ∷ [] → n ≡ false → cond t (Some (after r b ++ rs)) (cond n (step rs b) None) ≡ Some ss → Inside ss
step_last true n r b rs ss e is null went =
    let same : ss ≡ after r b ++ rs = cc in
    subst Inside (sym (same ∙ ap (λ (us : List Rule). after r b ++ us) is)) (inside_of (after r b) (after_ends r e b))
step_last false n r b rs ss e is null went = absurd cc

step_more : (t n : Bool) (r : Rule) (b : ℕ) (rs ss : List Rule) → Open rs → (step rs b ≡ Some ss → Inside ss) → cond t (Some (after r b ++ rs)) (cond n (step rs b) None) ≡ Some ss → Inside ss
step_more true n r b rs ss o below went =
    let same : ss ≡ after r b ++ rs = cc in
    subst Inside (sym same) (inr (open_before (after r b) rs o))
step_more false true r b rs ss o below went = below went
step_more false false r b rs ss o below went = absurd cc

step_open : (rs ss : List Rule) (b : ℕ) → Open rs → step rs b ≡ Some ss → Inside ss
step_open [] ss b o went = absurd o
step_open (r ∷ rs) ss b (inl e) went = step_last (first r b) (nullable r) r b rs ss e.0 e.1 (ends_null r e.0) went
step_open (r ∷ rs) ss b (inr o) went = step_more (first r b) (nullable r) r b rs ss o (λ is. step_open rs ss b o is) went

blank_step : (t : Bool) (ss : List Rule) → cond t (Some (ws ∷ [])) None ≡ Some ss → ss ≡ ws ∷ []
blank_step true ss went = cc
blank_step false ss went = absurd cc

step_inside : (rs ss : List Rule) (b : ℕ) → Inside rs → step rs b ≡ Some ss → Inside ss
step_inside rs ss b (inl is) went = inl (blank_step (is_blank b) ss (ap (λ (us : List Rule). step us b) (sym is) ∙ went))
step_inside rs ss b (inr o) went = step_open rs ss b o went

-- Blanks alone follow.

abbrev Blanks : List ℕ → Type 0
Blanks [] = Unit {0}
Blanks (b ∷ bs) = (is_blank b ≡ true) × Blanks bs

blank_more : (t : Bool) (bs : List ℕ) → (taken (cond t (Some (ws ∷ [])) None) (λ ss. run ss bs)).1 ≡ true → (t ≡ true) × ((run (ws ∷ []) bs).1 ≡ true)
blank_more true bs h = (refl, h)
blank_more false bs h = true-false h

blanks_only : (bs : List ℕ) → (run (ws ∷ []) bs).1 ≡ true → Blanks bs
blanks_only [] h = tt
blanks_only (b ∷ bs) h =
    let parts = blank_more (is_blank b) bs h in
    (parts.0, blanks_only bs parts.1)

no_brace : (middle : List ℕ) → Blanks (middle ++ 125 ∷ []) → ⊥
no_brace [] h = true-false h.0
no_brace (b ∷ bs) h = no_brace bs h.1

ended_inside : (rs : List Rule) (tail : List ℕ) → Inside rs → row_nullable rs ≡ true → (run rs tail).1 ≡ true → Blanks tail
ended_inside rs tail (inl is) null h = blanks_only tail (ap (λ (us : List Rule). (run us tail).1) (sym is) ∙ h)
ended_inside rs tail (inr o) null h = true-false (sym (open_null rs o) ∙ null)

went_on : (o : Option (List Rule)) (f tail : List ℕ) → ((ss : List Rule) → o ≡ Some ss → (run ss f).1 ≡ true → (run ss (f ++ tail)).1 ≡ true → Blanks tail)
    → (taken o (λ ss. run ss f)).1 ≡ true → (taken o (λ ss. run ss (f ++ tail))).1 ≡ true → Blanks tail
went_on None f tail more h k = true-false h
went_on (Some ss) f tail more h k = more ss refl h k

behind_inside : (front tail : List ℕ) (rs : List Rule) → Inside rs → (run rs front).1 ≡ true → (run rs (front ++ tail)).1 ≡ true → Blanks tail
behind_inside [] tail rs i h k = ended_inside rs tail i h k
behind_inside (b ∷ front) tail rs i h k =
    went_on (step rs b) front tail (λ ss went. behind_inside front tail ss (step_inside rs ss b i went)) h k

-- Before the brace that opens.

-- blanks, and then a brace that opens
abbrev Begins : List ℕ → Type 0
Begins [] = ⊥
Begins (b ∷ bs) = (b ≡ 123) ⊎ ((is_blank b ≡ true) × Begins bs)

abbrev before_value : ℕ → List Rule
before_value d = ws ∷ seq (value_rule d) ws ∷ []

stays_before : (d b : ℕ) → is_blank b ≡ true → step (before_value d) b ≡ Some (before_value d)
stays_before d b blank = rw blank refl

opened : (d : ℕ) → step (before_value (suc d)) 123 ≡ Some (sequence_rule (member_rule (value_rule d)) 125 ∷ ws ∷ [])
opened d = refl

not_before : (d : ℕ) → row_nullable (before_value d) ≡ false
not_before d = rw (no_value d) refl

from_open : (d : ℕ) (front tail : List ℕ) → (taken (step (before_value d) 123) (λ ss. run ss front)).1 ≡ true
    → (taken (step (before_value d) 123) (λ ss. run ss (front ++ tail))).1 ≡ true → Blanks tail
from_open zero front tail h k = true-false h
from_open (suc d) front tail h k = behind_inside front tail (sequence_rule (member_rule (value_rule d)) 125 ∷ ws ∷ []) (inr (inl ((tt, tt), refl))) h k

behind_front : (d : ℕ) (front tail : List ℕ) → Begins (front ++ tail) → (run (before_value d) front).1 ≡ true → (run (before_value d) (front ++ tail)).1 ≡ true → Blanks tail
behind_front d [] tail begins h k = true-false (sym (not_before d) ∙ h)
behind_front d (b ∷ front) tail (inl brace) h k =
    from_open d front tail (ap (λ (c : ℕ). (taken (step (before_value d) c) (λ ss. run ss front)).1) (sym brace) ∙ h)
    (ap (λ (c : ℕ). (taken (step (before_value d) c) (λ ss. run ss (front ++ tail))).1) (sym brace) ∙ k)
behind_front d (b ∷ front) tail (inr more) h k =
    behind_front d front tail more.1 (ap (λ (o : Option (List Rule)). (taken o (λ ss. run ss front)).1) (sym (stays_before d b more.0)) ∙ h)
    (ap (λ (o : Option (List Rule)). (taken o (λ ss. run ss (front ++ tail))).1) (sym (stays_before d b more.0)) ∙ k)

-- What an object begins with.

begins_by : (t : Bool) (b : ℕ) (bs : List ℕ) → is_blank b ≡ t → (slice_index (drop (prefix_len is_blank bs) bs) 0 ≡ 123 → Begins bs)
    → slice_index (drop (cond t (suc (prefix_len is_blank bs)) 0) (b ∷ bs)) 0 ≡ 123 → Begins (b ∷ bs)
begins_by true b bs blank below is = inr (blank, below is)
begins_by false b bs blank below is = inl is

begins_of : (bs : List ℕ) → slice_index (drop (prefix_len is_blank bs) bs) 0 ≡ 123 → Begins bs
begins_of [] is = absurd (omega arith)
begins_of (b ∷ bs) is =
    let one_more : 1 + prefix_len is_blank bs ≡ suc (prefix_len is_blank bs) = omega arith in
    begins_by (is_blank b) b bs refl (begins_of bs) (rw one_more at is)

-- a value is no object

no_members : (json : Json) (kind : JsonKind) (layer : Option (List Member)) → json.kind ≡ kind → members_layer (out-JsonKind kind) ≡ layer → as_members json ≡ layer
unfolding as_members
no_members json kind layer is outs = ap (λ (k : JsonKind). members_layer (out-JsonKind k)) is ∙ outs

abbrev good : Json × Rest → Reads Json
good p = Ok p

ok_same : (a b : Json × Rest) → good a ≡ good b → a ≡ b
ok_same a b is = cc

abbrev fine : Json → Result Json JsonFault
fine j = Ok j

json_same : (a b : Json) → fine a ≡ fine b → a ≡ b
json_same a b is = cc

made : {X : Type 0} (r : Rest) (kind : X → JsonKind) (read : Reads X) (j : Json) (to : Rest) → ((x : X) → members_layer (out-JsonKind (kind x)) ≡ None)
    → make r kind read ≡ Ok (j, to) → as_members j ≡ None
made r kind (Ok p) j to none is =
    let same : record { at = r.at; kind = kind p.0 } ≡ j = ap (λ (q : Json × Rest). q.0) (ok_same (record { at = r.at; kind = kind p.0 }, p.1) (j, to) is) in
    subst (λ (k : Json). as_members k ≡ None) same (no_members (record { at = r.at; kind = kind p.0 }) (kind p.0) None refl (none p.0))
made r kind (Err e) j to none is = absurd cc

worded : (r : Rest) (kind : JsonKind) (word : List ℕ) (j : Json) (to : Rest) → members_layer (out-JsonKind kind) ≡ None → make r (λ k. k) (literal kind word r) ≡ Ok (j, to) → as_members j ≡ None
worded r kind word j to none is = by_end (these word r) is where
  by_end : (e : Result Rest JsonFault) → make r (λ (k : JsonKind). k) (e >>= λ x. Ok (kind, x)) ≡ Ok (j, to) → as_members j ≡ None
  by_end (Ok x) h =
      let same : record { at = r.at; kind = kind } ≡ j = ap (λ (q : Json × Rest). q.0) (ok_same (record { at = r.at; kind = kind }, x) (j, to) h) in
      subst (λ (k : Json). as_members k ≡ None) same (no_members (record { at = r.at; kind = kind }) kind None refl none)
  by_end (Err e) h = absurd cc

split : (t : Bool) (a b : Reads Json) (j : Json) (to : Rest) → (a ≡ Ok (j, to) → as_members j ≡ None) → (b ≡ Ok (j, to) → as_members j ≡ None) → cond t a b ≡ Ok (j, to) → as_members j ≡ None
split true a b j to f g is = f is
split false a b j to f g is = g is

scalar_none : (r : Rest) (j : Json) (to : Rest) → scalar r ≡ Ok (j, to) → as_members j ≡ None
unfolding scalar
scalar_none r j to is =
    split (head r == 34) _ _ j to (made r kinds.Text (quoted r) j to (λ x. ap members_layer (kinds.outs-Text x)))
    (split (head r == 116) _ _ j to (worded r (kinds.Truth true) (codes "true") j to (ap members_layer (kinds.outs-Truth true)))
    (split (head r == 102) _ _ j to (worded r (kinds.Truth false) (codes "false") j to (ap members_layer (kinds.outs-Truth false)))
    (split (head r == 110) _ _ j to (worded r kinds.Null (codes "null") j to (ap members_layer kinds.outs-Null))
    (made r kinds.Number (number r) j to (λ x. ap members_layer (kinds.outs-Number x)))))) is

byte_is : (a b : ℕ) → (a == b) ≡ true → a ≡ b
byte_is a b is = grind (arith, nat_tests)

some-none : (ms : List Member) (o : Option (List Member)) → o ≡ Some ms → o ≡ None → ⊥
some-none ms o is none = absurd cc

opens_by : (t u : Bool) (a b c : Reads Json) (at : ℕ) (j : Json) (to : Rest) (ms : List Member) → as_members j ≡ Some ms → (at == 123) ≡ u
    → (a ≡ Ok (j, to) → as_members j ≡ None) → (c ≡ Ok (j, to) → as_members j ≡ None) → cond t a (cond u b c) ≡ Ok (j, to) → at ≡ 123
opens_by true u a b c at j to ms some test f g is = absurd (some-none ms (as_members j) some (f is))
opens_by false true a b c at j to ms some test f g is = byte_is at 123 test
opens_by false false a b c at j to ms some test f g is = absurd (some-none ms (as_members j) some (g is))

scalar_only : (t : Bool) (e : JsonFault) (r : Rest) (j : Json) (to : Rest) (ms : List Member) → as_members j ≡ Some ms → cond t (Err e) (scalar r) ≡ Ok (j, to) → ⊥
scalar_only true e r j to ms some is = absurd cc
scalar_only false e r j to ms some is = some-none ms (as_members j) some (scalar_none r j to is)

value_opens : (depth : ℕ) (r : Rest) (j : Json) (to : Rest) (ms : List Member) → as_members j ≡ Some ms → value depth r ≡ Ok (j, to) → head r ≡ 123
unfolding value
value_opens zero r j to ms some is = absurd (scalar_only (head r == 91 || head r == 123) (TooDeep r.at) r j to ms some is)
value_opens (suc d) r j to ms some is =
    opens_by (head r == 91) (head r == 123) _ _ _ (head r) j to ms some refl
    (made r kinds.List (sequence (value d) 93 (length r.left) (past 1 r)) j to (λ x. ap members_layer (kinds.outs-List x))) (scalar_none r j to) is

document_by : (bytes : List ℕ) (m : Reads Json) (j : Json) (ms : List Member) → as_members j ≡ Some ms
    → ((k : Json) (to : Rest) → m ≡ Ok (k, to) → as_members k ≡ Some ms → Begins bytes) → (m >>= λ p. ended p.0 (blanks p.1)) ≡ Ok j → Begins bytes
document_by bytes (Ok p) j ms some next is = next p.0 p.1 refl (same_members (length (blanks p.1).left == 0) is) where
  same_members : (t : Bool) → cond t (Ok p.0) (Err (BadJson (blanks p.1).at)) ≡ Ok j → as_members p.0 ≡ Some ms
  same_members true h = ap as_members (json_same p.0 j h) ∙ some
  same_members false h = absurd cc
document_by bytes (Err e) j ms some next is = absurd cc

begins : (bytes : List ℕ) (depth : ℕ) (j : Json) (ms : List Member) → as_members j ≡ Some ms → document depth bytes ≡ Ok j → Begins bytes
unfolding document
begins bytes depth j ms some is =
    document_by bytes (value depth (blanks (record { at = 0; left = bytes }))) j ms some
    (λ k to read has. begins_of bytes (value_opens depth (blanks (record { at = 0; left = bytes })) k to ms has read)) is

-- A front that is cut off.

read_whole : (t : Bool) (doc : Result Json JsonFault) (at : ℕ) (j : Json) → cond t doc (Err (BadUtf8 at)) ≡ Ok j → doc ≡ Ok j
read_whole true doc at j is = is
read_whole false doc at j is = absurd cc

at_or_before : (a n : ℕ) → a ≤ n → (a ≡ n) ⊎ (a < n)
at_or_before zero zero h = inl refl
at_or_before zero (suc n) h = inr (omega arith)
at_or_before (suc a) zero h = absurd (omega arith)
at_or_before (suc a) (suc n) h = elim (at_or_before a n (omega arith)) [ inl e ↦ inl (ap suc e) | inr l ↦ inr (omega arith) ]

-- a viable text is its own longest viable front
longest_whole : (rule : Rule) (text : List ℕ) (at : ℕ) → viable rule text → IsLongest (viable rule) text at → at ≡ length text
longest_whole rule text at begun longest =
    elim (at_or_before at (length text) longest.within) [
      | inl e ↦ e
      | inr l ↦ absurd (longest.no_longer (length text) l (omega arith) (subst (viable rule) (sym (take-length text)) begun))
    ]

module _ (front middle : List ℕ) (depth : ℕ) (j : Json) (ms : List Member) (some : as_members j ≡ Some ms) (read : json_text (front ++ (middle ++ 125 ∷ [])) depth ≡ Ok j) where
  tail : List ℕ
  tail = middle ++ 125 ∷ []

  runs : (bytes : List ℕ) → spells (json depth) bytes → (run (before_value depth) bytes).1 ≡ true
  runs bytes spelled =
      ap (λ (o : ℕ × Bool). o.1) (sym (run-seq ws (seq (value_rule depth) ws) [] bytes))
      ∙ run_of_spelled (json depth ∷ []) bytes (json_fits depth) (bytes, [], spelled, refl, sym (append-nil bytes))

  not_whole : spells (json depth) front → ⊥
  not_whole spelled =
      no_brace middle
      (behind_front depth front (middle ++ 125 ∷ []) (begins (front ++ (middle ++ 125 ∷ [])) depth j ms some (read_whole _ _ _ j read)) (runs front spelled)
      (runs (front ++ (middle ++ 125 ∷ [])) (read_spelled (front ++ (middle ++ 125 ∷ [])) depth j read)))

  begun : viable (json depth) front
  begun = front_viable (json depth) front (middle ++ 125 ∷ []) (spelled_viable (json depth) (front ++ (middle ++ 125 ∷ [])) (read_spelled (front ++ (middle ++ 125 ∷ [])) depth j read))

  never_deep : (at : ℕ) → json_text front depth ≡ Err (TooDeep at) → ⊥
  never_deep at is =
      let here : at ≡ length front = longest_whole (json depth) front at begun (deep_longest front depth at is) in
      let further = deep_goes_on front depth at (suc depth) is (omega arith) in
      let within : further.0 ≤ length front = further.2.within in
      omega (arith, further.1)

  cut_by : IsUtf8 front → (res : Result Json JsonFault) → json_text front depth ≡ res → res ≡ Err (BadJson (length front))
  cut_by utf8 (Ok k) is = absurd (not_whole (read_spelled front depth k is))
  cut_by utf8 (Err (BadJson at)) is =
      ap (λ (n : ℕ). Err (BadJson n)) (longest_whole (json depth) front at begun (bad_longest front depth at depth is (omega arith)))
  cut_by utf8 (Err (TooDeep at)) is = absurd (never_deep at is)
  cut_by utf8 (Err (BadUtf8 at)) is =
      absurd (subst (Judged false (run (json depth ∷ []) front) (record { at = 0; left = front })) (sym (same_length front (utf8_valid_len-IsUtf8 front utf8) depth) ∙ is) (judged false depth depth refl front))
  cut_by utf8 (Err NoMemory) is =
      absurd (subst (Judged false (run (json depth ∷ []) front) (record { at = 0; left = front })) (sym (same_length front (utf8_valid_len-IsUtf8 front utf8) depth) ∙ is) (judged false depth depth refl front))

  -- an object that is cut off between two characters is refused at the cut
  pub cut_refused : IsUtf8 front → json_text front depth ≡ Err (BadJson (length front))
  cut_refused utf8 = cut_by utf8 (json_text front depth) refl

less_other : (a n : ℕ) → a < n → (a == n) ≡ false
less_other a n h = grind (arith, nat_tests)

-- one that is cut off within a character is refused at the character
pub bad_utf8 : (front : List ℕ) (depth at : ℕ) → IsValidUpTo front at → json_text front depth ≡ Err (BadUtf8 at)
bad_utf8 front depth at valid =
    let short : at < length front = valid.short in
    rw (utf8_valid_len-IsValidUpTo front at valid, less_other at (length front) short) refl
