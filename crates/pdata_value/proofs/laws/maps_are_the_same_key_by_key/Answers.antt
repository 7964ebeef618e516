use Rattle.std.proofs.Common.{◌∙◌, sym}
use Rattle.pdata_value.specs.Value.{pairs}
use Rattle.pdata_value.proofs.Sames.{same-Map-Map}
use Rattle.pdata_value.proofs.Equivalence.{alike-all, all-alike}
use Rattle.pdata_value.proofs.laws.maps_are_the_same_key_by_key.Goals as goal

pub returns : goal.returns
returns c = λ ps qs.
    (λ h. alike-all (pairs ps) (pairs qs) (sym (same-Map-Map ps qs) ∙ h), λ f. same-Map-Map ps qs ∙ all-alike (pairs ps) (pairs qs) f)
