use Rattle.std.proofs.Common.{codes}
use Rattle.std.specs.Prelude.{false}
use Rattle.otlp_json.specs.Line.{attributes_member, u32_member, resource_members}
use Rattle.otlp_json.proofs.Words.{Adds-append, closed}
use Rattle.otlp_json.proofs.writing.push_resource.Goals as goal

pub returns : goal.returns
returns c =
    let r = c.args.resource.now in
    closed (resource_members r) _ c.args.out.now.items _ _ _ c.in_ok-push.ensures.items
    (Adds-append (attributes_member r.attributes) (u32_member (codes "droppedAttributesCount") r.dropped) false _ _ _ _ _ c.in_ok-attributes.ensures c.in_ok-push_u32_member.ensures)
    c.in_ok-push-2.ensures.items
