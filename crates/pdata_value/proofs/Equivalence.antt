-- To be the same is an equivalence.
use Rattle.std.proofs.Common.{◌≡◌, ◌∙◌, ℕ, ℤ, Bool, true, false, List, [], ◌∷◌, refl, sym, ap, subst, cond}
use Rattle.std.specs.Prelude.{Option, Some, None, IfSome}
use Rattle.std.specs.Bool.{beq}
use Rattle.std.specs.Ordering.{int_eq}
use Rattle.std.specs.Str.{bytes_eq}
use Rattle.std.proofs.lemmas.Bool.Decides.{Decides-int_eq}
use Rattle.pdata_value.specs.Value.{items, pairs}
use Rattle.pdata_value.specs.Pairs.{get, has_key}
use Rattle.pdata_value.specs.Same.{same, same_items, same_answer, same_keys, same_pairs}
use Rattle.pdata_value.specs.declared.value.Value.{Value}
use Rattle.pdata_value.specs.declared.value.Value.TheVariants as variants
use Rattle.pdata_value.proofs.Bools.{left, right, both, same_bytes, bytes_same, bytes_self}
use Rattle.pdata_value.proofs.Maps.{get-missing}
use Rattle.pdata_value.proofs.Induction.{Each, by_induction}
use Rattle.pdata_value.proofs.Sames.{same-Empty-Empty, same-Text-Text, same-Truth-Truth, same-Int-Int, same-Double-Double, same-Bytes-Bytes, same-List-List, same-Map-Map, like-Empty, like-Text, like-Truth, like-Int, like-Double, like-Bytes, like-List, like-Map}
use Rattle.pdata_value.proofs.SameSteps.{alike, known_alike}

-- maps are the same where they are alike at each key
pub alike-all : (ps qs : List (List ℕ × Value)) → same_pairs ps qs ≡ true → (key : List ℕ) → alike ps qs key ≡ true
alike-all ps qs h key = alike_by (has_key ps key) (has_key qs key) refl refl
  where
    alike_by : (s t : Bool) → has_key ps key ≡ s → has_key qs key ≡ t → alike ps qs key ≡ true
    alike_by true t d e = known_alike ps ps qs key (left (same_keys ps ps qs) (same_keys qs ps qs) h) d
    alike_by false true d e = known_alike qs ps qs key (right (same_keys ps ps qs) (same_keys qs ps qs) h) e
    alike_by false false d e =
        ap (λ (v : Option Value). same_answer v (get qs key)) (get-missing ps key d) ∙ ap (same_answer None) (get-missing qs key e)

keys-alike : (ks ps qs : List (List ℕ × Value)) → ((key : List ℕ) → alike ps qs key ≡ true) → same_keys ks ps qs ≡ true
keys-alike [] ps qs f = refl
keys-alike (k ∷ ks) ps qs f = both (alike ps qs k.0) (same_keys ks ps qs) (f k.0) (keys-alike ks ps qs f)

pub all-alike : (ps qs : List (List ℕ × Value)) → ((key : List ℕ) → alike ps qs key ≡ true) → same_pairs ps qs ≡ true
all-alike ps qs f = both (same_keys ps ps qs) (same_keys qs ps qs) (keys-alike ps ps qs f) (keys-alike qs ps qs f)

-- what holds of all values of a map holds of what is found
found_on : (P : Value → Type 0) (t : Bool) (v : Value) (rest : Option Value) → P v → IfSome rest P → IfSome (cond t (Some v) rest) P
found_on P true v rest h k = h
found_on P false v rest h k = k

found : (P : Value → Type 0) (ps : List (List ℕ × Value)) (key : List ℕ) → Each (λ (p : List ℕ × Value). P p.1) ps → IfSome (get ps key) P
found P [] key all = tt
found P (p ∷ ps) key all = found_on P (bytes_eq p.0 key) p.1 (get ps key) all.0 (found P ps key all.1)

-- a value is the same as itself
abbrev Itself : Value → Type 0
Itself v = same v v ≡ true

items_itself : (vs : List Value) → Each Itself vs → same_items vs vs ≡ true
items_itself [] all = refl
items_itself (v ∷ vs) all = both (same v v) (same_items vs vs) all.0 (items_itself vs all.1)

answer_itself : (v : Option Value) → IfSome v Itself → same_answer v v ≡ true
answer_itself None h = refl
answer_itself (Some v) h = h

beq_itself : (b : Bool) → beq b b ≡ true
beq_itself true = refl
beq_itself false = refl

int_itself : (n : ℤ) → int_eq n n ≡ true
int_itself n = (Decides-int_eq n n).1 refl

pub same_itself : (v : Value) → same v v ≡ true
same_itself = by_induction Itself (record {
  at_empty = same-Empty-Empty;
  at_text = λ a. same-Text-Text a a ∙ bytes_self a;
  at_truth = λ a. same-Truth-Truth a a ∙ beq_itself a;
  at_int = λ a. same-Int-Int a a ∙ int_itself a;
  at_double = λ a. same-Double-Double a a ∙ bytes_self a;
  at_bytes = λ a. same-Bytes-Bytes a a ∙ bytes_self a;
  at_list = λ a all. same-List-List a a ∙ items_itself (items a) all;
  at_map = λ a all. same-Map-Map a a ∙ all-alike (pairs a) (pairs a) (λ key. answer_itself (get (pairs a) key) (found Itself (pairs a) key all));
})

-- either way round
abbrev Back : Value → Type 0
Back v = (w : Value) → same v w ≡ true → same w v ≡ true

items_back : (vs ws : List Value) → Each Back vs → same_items vs ws ≡ true → same_items ws vs ≡ true
items_back [] [] all h = refl
items_back [] (w ∷ ws) all h = absurd cc
items_back (v ∷ vs) [] all h = absurd cc
items_back (v ∷ vs) (w ∷ ws) all h =
    both (same w v) (same_items ws vs) (all.0 w (left (same v w) (same_items vs ws) h)) (items_back vs ws all.1 (right (same v w) (same_items vs ws) h))

answer_back : (v w : Option Value) → IfSome v Back → same_answer v w ≡ true → same_answer w v ≡ true
answer_back None None f h = refl
answer_back None (Some w) f h = absurd cc
answer_back (Some v) None f h = absurd cc
answer_back (Some v) (Some w) f h = f w h

bytes_back : (a b : List ℕ) → bytes_eq a b ≡ true → bytes_eq b a ≡ true
bytes_back a b h = bytes_same b a (sym (same_bytes a b h))

beq_same : (a b : Bool) → beq a b ≡ true → a ≡ b
beq_same true true h = refl
beq_same true false h = absurd cc
beq_same false true h = absurd cc
beq_same false false h = refl

int_same : (a b : ℤ) → int_eq a b ≡ true → a ≡ b
int_same a b h = (Decides-int_eq a b).0 h

same_as : (u v w : Value) → w ≡ v → same v u ≡ true → same w u ≡ true
same_as u v w e h = ap (λ (x : Value). same x u) e ∙ h

pub same_back : (v : Value) → Back v
same_back = by_induction Back (record {
  at_empty = λ w h. same_as variants.Empty variants.Empty w (like-Empty w h) same-Empty-Empty;
  at_text = λ a w h.
      let is = like-Text a w h in
      same_as (variants.Text a) (variants.Text is.0) w is.1 (same-Text-Text is.0 a ∙ bytes_back a is.0 is.2);
  at_truth = λ a w h.
      let is = like-Truth a w h in
      same_as (variants.Truth a) (variants.Truth is.0) w is.1 (same-Truth-Truth is.0 a ∙ subst (λ (b : Bool). beq b a ≡ true) (beq_same a is.0 is.2) (beq_itself a));
  at_int = λ a w h.
      let is = like-Int a w h in
      same_as (variants.Int a) (variants.Int is.0) w is.1 (same-Int-Int is.0 a ∙ subst (λ (n : ℤ). int_eq n a ≡ true) (int_same a is.0 is.2) (int_itself a));
  at_double = λ a w h.
      let is = like-Double a w h in
      same_as (variants.Double a) (variants.Double is.0) w is.1 (same-Double-Double is.0 a ∙ bytes_back a is.0 is.2);
  at_bytes = λ a w h.
      let is = like-Bytes a w h in
      same_as (variants.Bytes a) (variants.Bytes is.0) w is.1 (same-Bytes-Bytes is.0 a ∙ bytes_back a is.0 is.2);
  at_list = λ a all w h.
      let is = like-List a w h in
      same_as (variants.List a) (variants.List is.0) w is.1 (same-List-List is.0 a ∙ items_back (items a) (items is.0) all is.2);
  at_map = λ a all w h.
      let is = like-Map a w h in
      same_as (variants.Map a) (variants.Map is.0) w is.1 (same-Map-Map is.0 a ∙ all-alike (pairs is.0) (pairs a) (λ key. answer_back (get (pairs a) key) (get (pairs is.0) key) (found Back (pairs a) key all) (alike-all (pairs a) (pairs is.0) is.2 key)));
})

-- through a third value
abbrev On : Value → Type 0
On u = (v w : Value) → same u v ≡ true → same v w ≡ true → same u w ≡ true

items_on : (us vs ws : List Value) → Each On us → same_items us vs ≡ true → same_items vs ws ≡ true → same_items us ws ≡ true
items_on [] [] ws all h k = k
items_on [] (v ∷ vs) ws all h k = absurd cc
items_on (u ∷ us) [] ws all h k = absurd cc
items_on (u ∷ us) (v ∷ vs) [] all h k = absurd cc
items_on (u ∷ us) (v ∷ vs) (w ∷ ws) all h k =
    both (same u w) (same_items us ws) (all.0 v w (left (same u v) (same_items us vs) h) (left (same v w) (same_items vs ws) k))
    (items_on us vs ws all.1 (right (same u v) (same_items us vs) h) (right (same v w) (same_items vs ws) k))

answer_on : (u v w : Option Value) → IfSome u On → same_answer u v ≡ true → same_answer v w ≡ true → same_answer u w ≡ true
answer_on None None w f h k = k
answer_on None (Some v) w f h k = absurd cc
answer_on (Some u) None w f h k = absurd cc
answer_on (Some u) (Some v) None f h k = absurd cc
answer_on (Some u) (Some v) (Some w) f h k = f v w h k

bytes_on : (a b c : List ℕ) → bytes_eq a b ≡ true → bytes_eq b c ≡ true → bytes_eq a c ≡ true
bytes_on a b c h k = bytes_same a c (same_bytes a b h ∙ same_bytes b c k)

pub same_on : (u : Value) → On u
same_on = by_induction On (record {
  at_empty = λ v w h k. same_as w variants.Empty variants.Empty refl (sym (ap (λ (x : Value). same x w) (like-Empty v h)) ∙ k);
  at_text = λ a v w h k.
      let there = like-Text a v h in
      let is = like-Text there.0 w (sym (ap (λ (x : Value). same x w) there.1) ∙ k) in
      ap (same (variants.Text a)) is.1 ∙ same-Text-Text a is.0 ∙ bytes_on a there.0 is.0 there.2 is.2;
  at_truth = λ a v w h k.
      let there = like-Truth a v h in
      let is = like-Truth there.0 w (sym (ap (λ (x : Value). same x w) there.1) ∙ k) in
      ap (same (variants.Truth a)) is.1 ∙ same-Truth-Truth a is.0 ∙ subst (λ (b : Bool). beq a b ≡ true) (beq_same a there.0 there.2 ∙ beq_same there.0 is.0 is.2) (beq_itself a);
  at_int = λ a v w h k.
      let there = like-Int a v h in
      let is = like-Int there.0 w (sym (ap (λ (x : Value). same x w) there.1) ∙ k) in
      ap (same (variants.Int a)) is.1 ∙ same-Int-Int a is.0 ∙ subst (λ (n : ℤ). int_eq a n ≡ true) (int_same a there.0 there.2 ∙ int_same there.0 is.0 is.2) (int_itself a);
  at_double = λ a v w h k.
      let there = like-Double a v h in
      let is = like-Double there.0 w (sym (ap (λ (x : Value). same x w) there.1) ∙ k) in
      ap (same (variants.Double a)) is.1 ∙ same-Double-Double a is.0 ∙ bytes_on a there.0 is.0 there.2 is.2;
  at_bytes = λ a v w h k.
      let there = like-Bytes a v h in
      let is = like-Bytes there.0 w (sym (ap (λ (x : Value). same x w) there.1) ∙ k) in
      ap (same (variants.Bytes a)) is.1 ∙ same-Bytes-Bytes a is.0 ∙ bytes_on a there.0 is.0 there.2 is.2;
  at_list = λ a all v w h k.
      let there = like-List a v h in
      let is = like-List there.0 w (sym (ap (λ (x : Value). same x w) there.1) ∙ k) in
      ap (same (variants.List a)) is.1 ∙ same-List-List a is.0 ∙ items_on (items a) (items there.0) (items is.0) all there.2 is.2;
  at_map = λ a all v w h k.
      let there = like-Map a v h in
      let is = like-Map there.0 w (sym (ap (λ (x : Value). same x w) there.1) ∙ k) in
      ap (same (variants.Map a)) is.1 ∙ same-Map-Map a is.0 ∙ all-alike (pairs a) (pairs is.0) (λ key.
      answer_on (get (pairs a) key) (get (pairs there.0) key) (get (pairs is.0) key) (found On (pairs a) key all)
      (alike-all (pairs a) (pairs there.0) there.2 key) (alike-all (pairs there.0) (pairs is.0) is.2 key));
})
