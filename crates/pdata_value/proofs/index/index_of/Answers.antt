use Rattle.std.proofs.Common.{◌≡◌, ◌∙◌, ℕ, ◌<◌, ◌+◌, List, [], ◌∷◌, ◌++◌, length, take, Some, None, sym, ap, subst, arith}
use Rattle.std.specs.BTreeMap.{BTreeMap}
use denote.Bor.{Bor}
use Rattle.pdata_value.specs.Places.{position}
use Rattle.pdata_value.specs.Index.{Gains, Knows}
use Rattle.pdata_value.specs.declared.value.Value.{Value}
use Rattle.pdata_value.proofs.Maps.{take-one}
use Rattle.pdata_value.proofs.Positions.{knows-again, knows-new, length-next}
use Rattle.pdata_value.proofs.index.index_of.Goals as goal
use Rattle.pdata_value.proofs.index.index_of.Goals.{in-Some, in-None+in_ok-add_key-in-None}

pub loop-i-preserved : goal.loop-i-preserved
loop-i-preserved c =
    let ps = c.args.list.now in
    let i = c.loop-i.i in
    let p = c.index-list-i.result in
    let within : i < length ps = omega arith in
    let found : position (take i ps) p.0 ≡ c.look_up.result =
    ap (position (take i ps)) (sym c.as_str-key.ensures.value) ∙ sym (c.loop-i.invariant c.as_str-key.result.now) ∙ sym c.look_up.ensures in
    let more : take (i + 1) ps ≡ take i ps ++ p ∷ [] = take-one ps i p within c.index-list-i.is in
    elim c.match-look_up.branch [
      | in-Some w ↦
          subst (λ (ix : BTreeMap (Bor (List ℕ)) ℕ). Knows ix (take (i + 1) ps)) (sym w.index-is)
          (subst (λ (xs : List (List ℕ × Value)). Knows c.loop-i.index xs) (sym more)
          (knows-again c.loop-i.index (take i ps) p w.in-Some.field-0 c.loop-i.invariant (found ∙ w.in-Some.is)))
      | in-None+in_ok-add_key-in-None w ↦
          let gains : Gains c.loop-i.index p.0 i w.add_key.new.index =
          subst (λ (k : List ℕ). Gains c.loop-i.index k i w.add_key.new.index) c.as_str-key.ensures.value w.in_ok-add_key-in-None.ensures in
          subst (λ (ix : BTreeMap (Bor (List ℕ)) ℕ). Knows ix (take (i + 1) ps)) (sym w.index-is)
          (subst (λ (xs : List (List ℕ × Value)). Knows w.add_key.new.index xs) (sym more)
          (knows-new c.loop-i.index w.add_key.new.index (take i ps) p i c.loop-i.invariant (found ∙ w.in-None.is) (length-next ps i within) gains))
    ]
