use Rattle.std.proofs.Common.{◌++◌, codes}
use Rattle.std.specs.Prelude.{false}
use Rattle.otlp_json.specs.Line.{text_member, attributes_member, u32_member, scope_members}
use Rattle.otlp_json.proofs.Words.{Adds-append, closed}
use Rattle.otlp_json.proofs.writing.push_scope.Goals as goal

pub returns : goal.returns
returns c =
    let s = c.args.scope.now in
    let name = text_member (codes "name") s.name in
    let version = text_member (codes "version") s.version in
    let attributes = attributes_member s.attributes in
    closed (scope_members s) _ c.args.out.now.items _ _ _ c.in_ok-push.ensures.items
    (Adds-append (name ++ version ++ attributes) (u32_member (codes "droppedAttributesCount") s.dropped) false _ _ _ _ _
    (Adds-append (name ++ version) attributes false _ _ _ _ _
    (Adds-append name version false _ _ _ _ _ c.in_ok-name.ensures c.in_ok-version.ensures)
    c.in_ok-attributes.ensures)
    c.in_ok-push_u32_member.ensures)
    c.in_ok-push-2.ensures.items
