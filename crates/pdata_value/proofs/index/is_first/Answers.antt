use Rattle.std.proofs.Common.{◌≡◌, ◌∙◌, ℕ, List, Option, sym, ap, subst}
use Rattle.std.specs.Prelude.{IfSome, not, take}
use Rattle.std.specs.BTreeMap.{BTreeMap}
use denote.Bor.{Bor}
use Rattle.pdata_value.specs.Pairs.{has_key}
use Rattle.pdata_value.specs.Places.{position}
use Rattle.pdata_value.specs.Index.{Knows}
use Rattle.pdata_value.specs.declared.value.Value.{Value}
use Rattle.pdata_value.proofs.Positions.{first-eq, that}
use Rattle.pdata_value.proofs.index.is_first.Goals as goal

pub returns-in-Some : goal.returns-in-Some
returns-in-Some c = λ pair got.
    let ps = c.args.list.now in
    let same : c.index-list-at.result ≡ pair =
    that ps c.args.at c.index-list-at.result pair c.requires.within c.index-list-at.is got in
    let knows : Knows c.in-Some.places ps =
    subst (λ (o : Option (BTreeMap (Bor (List ℕ)) ℕ)). IfSome o (λ places. Knows places ps)) c.in-Some.is c.requires.index in
    let key = c.as_str.ensures.value ∙ ap (λ (q : List ℕ × Value). q.0) (sym c.index-list-at.is ∙ same) in
    c.eq.ensures
    ∙ first-eq ps c.args.at c.look_up.result pair got
    (ap (position ps) (sym key) ∙ sym (knows c.as_str.result.now) ∙ sym c.look_up.ensures)

pub returns-in-None : goal.returns-in-None
returns-in-None c = λ pair got.
    let same : c.index-list-at-in-None.result ≡ pair =
    that c.args.list.now c.args.at c.index-list-at-in-None.result pair c.requires.within c.index-list-at-in-None.is got in
    ap not (c.has_key.ensures ∙ ap (λ (k : List ℕ). has_key (take c.args.at c.args.list.now) k)
    (c.as_str-in-None.ensures.value ∙ ap (λ (q : List ℕ × Value). q.0) (sym c.index-list-at-in-None.is ∙ same)))
