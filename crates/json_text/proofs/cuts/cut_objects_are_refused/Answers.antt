use Rattle.json_text.proofs.CutObjects.{cut_refused, bad_utf8}
use Rattle.json_text.proofs.cuts.cut_objects_are_refused.Goals as goal

pub returns-clause-between : goal.returns-clause-between
returns-clause-between c = λ front rest depth value members read some utf8. cut_refused front rest depth value members some read utf8

pub returns-clause-within : goal.returns-clause-within
returns-clause-within c = bad_utf8
