use Rattle.pdata_value.proofs.Puts.{upsert-last, upsert-distinct}
use Rattle.pdata_value.proofs.laws.upsert_into_the_empty_map_keeps_last_values.Goals as goal

pub returns-clause-last : goal.returns-clause-last
returns-clause-last c = λ qs key. upsert-last qs key

pub returns-clause-distinct : goal.returns-clause-distinct
returns-clause-distinct c = λ qs h. upsert-distinct qs h
