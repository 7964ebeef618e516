use Rattle.std.proofs.Common.{◌∙◌, sym, subst}
use Rattle.pdata_value.specs.Numeral.{IsSpelling}
use Rattle.pdata_value.proofs.tests.made_again.Goals as goal

pub from_text-requires : goal.from_text-requires
from_text-requires c = subst IsSpelling (sym (c.in_ok-text.ensures ∙ c.as_str.ensures.value)) c.as_str.ensures.spelling
