use Rattle.std.proofs.Common.{◌∷◌, [], map, codes, ap, ◌∙◌, ◌++◌}
use Rattle.std.specs.Prelude.{false}
use Rattle.json_text.specs.Writing.{text_of}
use Rattle.otlp_json.specs.Line.{list_json, resource_logs_json, batch_json}
use Rattle.otlp_json.proofs.Words.{Adds-one, closed}
use Rattle.otlp_json.proofs.writing.push_line.Goals as goal

pub returns : goal.returns
unfolding batch_json
returns c =
    let list = list_json (map resource_logs_json c.args.batch.now.resources) in
    closed ((codes "resourceLogs", list) ∷ []) _ c.args.out.now.items _ _ _ c.in_ok-push.ensures.items
    (Adds-one (codes "resourceLogs") list false _ _ _ c.in_ok-push_key.ensures
    (c.in_ok-push_list.ensures ∙ ap (λ xs. c.push_key.new.out.items ++ text_of (list_json (map resource_logs_json xs))) c.as_slice.ensures))
    c.in_ok-push-2.ensures.items
