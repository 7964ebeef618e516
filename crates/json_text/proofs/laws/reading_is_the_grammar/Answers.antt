use Rattle.json_text.proofs.Law as law
use Rattle.json_text.proofs.Deeper.{bad_prefix, json_grows}
use Rattle.json_text.proofs.laws.reading_is_the_grammar.Goals as goal

pub returns : goal.returns
returns c = record {
  read_is_spelled = law.read_spelled;
  spelled_is_read = law.spelled_is_read;
  bad_json = bad_prefix;
  bad_json_at_each_depth = λ bytes depth at deeper is le. law.bad_longest bytes depth at deeper is le;
  too_deep = law.deep_longest;
  deeper_goes_on = λ bytes depth at deeper is less. law.deep_goes_on bytes depth at deeper is less;
  deeper_spells_more = λ depth text h. (json_grows depth).whole text h;
}
