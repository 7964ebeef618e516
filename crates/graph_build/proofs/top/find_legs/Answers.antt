use Rattle.std.proofs.Common.{ap, subst, ◌∙◌, codes}
use Rattle.contract_words.specs.Gives.{Gives}
use Rattle.conf_shape.specs.Fault.{fault_in}
use Rattle.conf_shape.specs.Pointer.{member_of}
use Rattle.graph_build.specs.Built.{legs_at}
use Rattle.graph_build.proofs.top.find_legs.Goals as goal

pub returns : goal.returns
returns c =
    subst (λ at. Gives (λ legs. legs) fault_in c.find_at.result (legs_at c.args.draft.now at))
    (c.member.ensures ∙ ap (λ at. member_of at (codes "pipelines")) (c.member-service.ensures ∙ ap (λ at. member_of at (codes "service")) c.top-top.ensures))
    c.find_at.ensures
