use Rattle.std.proofs.Common.{◌++◌, ◌∷◌, [], map, codes}
use Rattle.std.specs.Prelude.{false}
use Rattle.otlp_json.specs.Line.{text_member, list_member, object_json, scope_members, scope_logs_members, scope_logs_json, record_json}
use Rattle.otlp_json.proofs.Words.{Adds-append, Adds-one, closed}
use Rattle.otlp_json.proofs.writing.ScopeTreeToJson.push.Goals as goal

pub returns : goal.returns
unfolding scope_logs_json
returns c =
    let e = c.args.self.now in
    let first = (codes "scope", object_json (scope_members e.node)) ∷ [] in
    let list = list_member (codes "logRecords") (map record_json e.logs) in
    let url = text_member (codes "schemaUrl") e.node.schema_url in
    closed (scope_logs_members e) _ c.args.out.now.items _ _ _ c.in_ok-push.ensures.items
    (Adds-append (first ++ list) url false _ _ _ _ _
    (Adds-append first list false _ _ _ _ _
    (Adds-one (codes "scope") (object_json (scope_members e.node)) false _ _ _ c.in_ok-push_key.ensures c.in_ok-push_scope.ensures)
    (rw c.as_slice.ensures at c.in_ok-logs.ensures))
    c.in_ok-push_text_member.ensures)
    c.in_ok-push-2.ensures.items
