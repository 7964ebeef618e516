use Rattle.std.proofs.Common.{◌≡◌, ◌∙◌, ℕ, ◌<◌, Bool, true, false, List, length, take, Some, sym, ap, subst, arith}
use Rattle.std.specs.Prelude.{◌&&◌}
use Rattle.pdata_value.specs.Value.{pairs}
use Rattle.pdata_value.specs.Pairs.{get, has_key}
use Rattle.pdata_value.specs.Places.{keys_within}
use Rattle.pdata_value.specs.Same.{same, same_answer, same_keys}
use Rattle.pdata_value.specs.declared.value.Value.{Value}
use Rattle.pdata_value.proofs.Sames.{same-Empty-other, same-Text-other, same-Truth-other, same-Int-other, same-Double-other, same-Bytes-other, same-List-other, same-Map-other}
use Rattle.pdata_value.proofs.SameSteps.{lengths_differ, known_alike, one_more, one_differs, found_first, same_pairs-within}
use Rattle.pdata_value.proofs.Bools.{not_true, not_false}
use Rattle.pdata_value.proofs.Positions.{there}
use Rattle.pdata_value.proofs.+same.Goals as goal
use Rattle.pdata_value.proofs.+same.Goals.{same::are_same_at_keys-else-is_first-via-then-is_first+else-not-is_same_at_key, same::are_same_at_keys-else-is_first-via-else-is_first}
use Rattle.pdata_value.proofs.+same.Goals.{pairs::Pairs::same-then-are_same_at_keys, pairs::Pairs::same-else-are_same_at_keys}

pub value::Value::same-returns-in_default : goal.value::Value::same-returns-in_default
value::Value::same-returns-in_default t c =
    sym (ap (λ (v : Value). same v c.args.other.now) c.in-Empty.is ∙ same-Empty-other c.args.other.now c.in_default.not-Empty)

pub value::Value::same-returns-in_default-other : goal.value::Value::same-returns-in_default-other
value::Value::same-returns-in_default-other t c =
    sym (ap (λ (v : Value). same v c.args.other.now) c.in-Text.is ∙ same-Text-other c.in-Text.text c.args.other.now c.in_default-other.not-Text)

pub value::Value::same-returns-in_default-other-2 : goal.value::Value::same-returns-in_default-other-2
value::Value::same-returns-in_default-other-2 t c =
    sym (ap (λ (v : Value). same v c.args.other.now) c.in-Truth.is ∙ same-Truth-other c.in-Truth.truth c.args.other.now c.in_default-other-2.not-Truth)

pub value::Value::same-returns-in_default-other-3 : goal.value::Value::same-returns-in_default-other-3
value::Value::same-returns-in_default-other-3 t c =
    sym (ap (λ (v : Value). same v c.args.other.now) c.in-Int.is ∙ same-Int-other c.in-Int.int c.args.other.now c.in_default-other-3.not-Int)

pub value::Value::same-returns-in_default-other-4 : goal.value::Value::same-returns-in_default-other-4
value::Value::same-returns-in_default-other-4 t c =
    sym (ap (λ (v : Value). same v c.args.other.now) c.in-Double.is ∙ same-Double-other c.in-Double.spelling c.args.other.now c.in_default-other-4.not-Double)

pub value::Value::same-returns-in_default-other-5 : goal.value::Value::same-returns-in_default-other-5
value::Value::same-returns-in_default-other-5 t c =
    sym (ap (λ (v : Value). same v c.args.other.now) c.in-Bytes.is ∙ same-Bytes-other c.in-Bytes.bytes c.args.other.now c.in_default-other-5.not-Bytes)

pub value::Value::same-returns-in_default-other-6 : goal.value::Value::same-returns-in_default-other-6
value::Value::same-returns-in_default-other-6 t c =
    sym (ap (λ (v : Value). same v c.args.other.now) c.in-List.is ∙ same-List-other c.in-List.values c.args.other.now c.in_default-other-6.not-List)

pub value::Value::same-returns-in_default-other-7 : goal.value::Value::same-returns-in_default-other-7
value::Value::same-returns-in_default-other-7 t c =
    sym (ap (λ (v : Value). same v c.args.other.now) c.in-Map.is ∙ same-Map-other c.in-Map.pairs c.args.other.now c.in_default-other-7.not-Map)

pub same::are_same-returns-then-values-others : goal.same::are_same-returns-then-values-others
same::are_same-returns-then-values-others t c = sym (lengths_differ c.args.values.now c.args.others.now c.if-values-others.true)

pub pairs::Pairs::same-returns : goal.pairs::Pairs::same-returns
pairs::Pairs::same-returns t c =
    let ps = pairs c.args.self.now in
    let qs = pairs c.args.other.now in
    let keys : same_keys c.as_slice-ours.result.now c.as_slice-ours.result.now c.as_slice-theirs.result.now ≡ same_keys ps ps qs =
    ap (λ (xs : List (List ℕ × Value)). same_keys xs xs c.as_slice-theirs.result.now) c.as_slice-ours.ensures
    ∙ ap (λ (ys : List (List ℕ × Value)). same_keys ps ps ys) c.as_slice-theirs.ensures in
    elim c.if-are_same_at_keys.branch [
      | pairs::Pairs::same-then-are_same_at_keys w ↦
          let alike : same_keys ps ps qs ≡ true = sym keys ∙ sym w.if-are_same_at_keys.ensures in
          let found : w.has_keys.result ≡ keys_within qs ps = w.has_keys.ensures
          ∙ ap (λ (xs : List (List ℕ × Value)). keys_within c.as_slice-theirs.result.now xs) c.as_slice-ours.ensures
          ∙ ap (λ (xs : List (List ℕ × Value)). keys_within xs ps) c.as_slice-theirs.ensures in
          w.result-is ∙ found ∙ sym (same_pairs-within ps qs alike)
      | pairs::Pairs::same-else-are_same_at_keys w ↦
          let apart : false ≡ same_keys ps ps qs = w.if-are_same_at_keys.ensures ∙ keys in
          w.result-is ∙ w.if-are_same_at_keys.false ∙ ap (λ (b : Bool). b && same_keys qs ps qs) apart
    ]

-- the pair is the first with its key, and what the other map has there differs
pub same::are_same_at_keys-returns-then-not-is_same_at_key : goal.same::are_same_at_keys-returns-then-not-is_same_at_key
same::are_same_at_keys-returns-then-not-is_same_at_key t c =
    let ps = c.args.pairs.now in
    let qs = c.args.others.now in
    let i = c.loop-i.i in
    let p = c.index-pairs-i.result in
    let within : i < length ps = omega arith in
    let first : has_key (take i ps) p.0 ≡ false =
    not_true (has_key (take i ps) p.0) (sym (c.is_first.ensures p (there ps i p within c.index-pairs-i.is)) ∙ c.if-is_first.true) in
    let differs : same_answer (Some p.1) (get qs p.0) ≡ false =
    subst (λ (k : List ℕ). same_answer (Some p.1) (get qs k) ≡ false) c.as_str-key.ensures.value (sym c.if-not-is_same_at_key.ensures) in
    sym (one_differs ps qs i p within c.index-pairs-i.is (found_first ps qs i p within c.index-pairs-i.is first ∙ differs))

-- the pair was compared now, or one with its key before
pub same::are_same_at_keys-loop-i-preserved : goal.same::are_same_at_keys-loop-i-preserved
same::are_same_at_keys-loop-i-preserved t c =
    let ps = c.args.pairs.now in
    let qs = c.args.others.now in
    let i = c.loop-i.i in
    let p = c.index-pairs-i.result in
    let within : i < length ps = omega arith in
    let tells = c.is_first.ensures p (there ps i p within c.index-pairs-i.is) in
    elim c.else-is_first.branch [
      | same::are_same_at_keys-else-is_first-via-then-is_first+else-not-is_same_at_key w ↦
          let first : has_key (take i ps) p.0 ≡ false = not_true (has_key (take i ps) p.0) (sym tells ∙ w.if-is_first.true) in
          let agrees : same_answer (Some p.1) (get qs p.0) ≡ true =
          subst (λ (k : List ℕ). same_answer (Some p.1) (get qs k) ≡ true) c.as_str-key.ensures.value (sym w.if-not-is_same_at_key.ensures) in
          one_more ps qs i p within c.index-pairs-i.is c.loop-i.invariant (found_first ps qs i p within c.index-pairs-i.is first ∙ agrees)
      | same::are_same_at_keys-else-is_first-via-else-is_first w ↦
          let before : has_key (take i ps) p.0 ≡ true = not_false (has_key (take i ps) p.0) (sym tells ∙ w.if-is_first.false) in
          one_more ps qs i p within c.index-pairs-i.is c.loop-i.invariant (known_alike (take i ps) ps qs p.0 c.loop-i.invariant before)
    ]
