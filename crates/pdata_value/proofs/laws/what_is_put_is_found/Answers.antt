use Rattle.pdata_value.proofs.Puts.{get-put, get-put_other}
use Rattle.pdata_value.proofs.laws.what_is_put_is_found.Goals as goal

pub returns-clause-this_key : goal.returns-clause-this_key
returns-clause-this_key c = λ ps key v. get-put ps key v

pub returns-clause-other_keys : goal.returns-clause-other_keys
returns-clause-other_keys c = λ ps key other v f. get-put_other ps key other v f
