use Rattle.std.proofs.Common.{◌≡◌, ◌∙◌, ℕ, List, ap, subst}
use Rattle.std.specs.Prelude.{OnOk}
use Rattle.pdata_value.specs.Value.{pairs}
use Rattle.pdata_value.specs.Pairs.{put_all, taken}
use Rattle.pdata_value.specs.declared.value.Value.{Value}
use Rattle.pdata_value.proofs.pairs.Pairs.merge.Goals as goal

-- the pairs taken are those of the definition
pub returns-clause-ok : goal.returns-clause-ok
returns-clause-ok c =
    let ps = pairs c.args.self.now in
    let are_taken : c.take_pairs.new.others ≡ taken c.args.strategy ps (pairs c.args.other) =
    c.take_pairs.ensures ∙ ap (λ (xs : List (List ℕ × Value)). taken c.args.strategy xs (pairs c.args.other)) c.as_slice.ensures in
    subst (λ (qs : List (List ℕ × Value)). OnOk c.put_each.result (c.put_each.new.items ≡ put_all ps qs)) are_taken c.put_each.ensures.ok
