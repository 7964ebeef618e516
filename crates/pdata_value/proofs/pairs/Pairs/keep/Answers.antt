use Rattle.std.proofs.Common.{ℕ, List, rules}
use Rattle.std.proofs.lemmas.Fn.{filter_same}
use Rattle.pdata_value.specs.Pairs.{is_listed}
use Rattle.pdata_value.specs.declared.value.Value.{Value}
use Rattle.pdata_value.proofs.pairs.Pairs.keep.Goals as goal

pub returns : goal.returns
returns c = filter_same _ (λ (pair : List ℕ × Value). is_listed c.args.keys.now pair.0) _ (λ x b f' k. search rules) _ _ c.retain.ensures
