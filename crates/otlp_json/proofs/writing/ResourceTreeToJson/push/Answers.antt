use Rattle.std.proofs.Common.{◌++◌, ◌∷◌, [], map, codes}
use Rattle.std.specs.Prelude.{false}
use Rattle.otlp_json.specs.Line.{text_member, list_member, object_json, resource_members, resource_logs_members, resource_logs_json, scope_logs_json}
use Rattle.otlp_json.proofs.Words.{Adds-append, Adds-one, closed}
use Rattle.otlp_json.proofs.writing.ResourceTreeToJson.push.Goals as goal

pub returns : goal.returns
unfolding resource_logs_json
returns c =
    let e = c.args.self.now in
    let first = (codes "resource", object_json (resource_members e.node)) ∷ [] in
    let list = list_member (codes "scopeLogs") (map scope_logs_json e.scopes) in
    let url = text_member (codes "schemaUrl") e.node.schema_url in
    closed (resource_logs_members e) _ c.args.out.now.items _ _ _ c.in_ok-push.ensures.items
    (Adds-append (first ++ list) url false _ _ _ _ _
    (Adds-append first list false _ _ _ _ _
    (Adds-one (codes "resource") (object_json (resource_members e.node)) false _ _ _ c.in_ok-push_key.ensures c.in_ok-push_resource.ensures)
    (rw c.as_slice.ensures at c.in_ok-scopes.ensures))
    c.in_ok-push_text_member.ensures)
    c.in_ok-push-2.ensures.items
