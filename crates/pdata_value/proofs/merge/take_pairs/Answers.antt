use Rattle.std.proofs.Common.{◌≡◌, ℕ, List, rules}
use Rattle.std.proofs.lemmas.Fn.{filter_same}
use Rattle.pdata_value.specs.Pairs.{has_key, takes}
use Rattle.pdata_value.specs.declared.value.Value.{Value}
use Rattle.pdata_value.proofs.merge.take_pairs.Goals as goal

-- the pairs taken are those of the definition
pub returns : goal.returns
returns c =
    filter_same _ (λ (pair : List ℕ × Value). takes c.args.strategy (has_key c.args.list.now pair.0)) _ (λ x b f' k. search rules) _ _ c.retain.ensures
