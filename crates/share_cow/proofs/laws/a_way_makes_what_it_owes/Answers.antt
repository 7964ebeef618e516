use Rattle.share_cow.proofs.CopyWent.{went_by_copy, went_on, went_to_end}
use Rattle.share_cow.proofs.laws.a_way_makes_what_it_owes.Goals as goal

pub returns-clause-step : goal.returns-clause-step
returns-clause-step c none parent old new before after k m k2 m2 b b2 above below root front rest copied counted apart path one there =
    went_by_copy copied none above below root front rest counted apart path one there

pub returns-clause-both : goal.returns-clause-both
returns-clause-both c none ls ms ns root made more path first second = went_on first second

pub returns-clause-end : goal.returns-clause-end
returns-clause-end c none ls above below m root made p path went way one = went_to_end above m below root path p went way one
