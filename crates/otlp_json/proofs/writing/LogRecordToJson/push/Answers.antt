use Rattle.otlp_json.specs.Line.{record_members, record_json}
use Rattle.otlp_json.proofs.Words.{closed}
use Rattle.otlp_json.proofs.writing.LogRecordToJson.push.Goals as goal

pub returns : goal.returns
unfolding record_json
returns c =
    closed (record_members c.args.self.now) _ c.args.out.now.items _ _ _ c.in_ok-push.ensures.items c.in_ok-push_record_members.ensures c.in_ok-push-2.ensures.items
