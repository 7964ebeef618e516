use Rattle.std.proofs.Common.{sym}
use Rattle.otlp_json.proofs.Words.{Adds-list, some_items}
use Rattle.otlp_json.proofs.writing.lists.push_list_member.Goals as goal

pub returns : goal.returns
returns g c = Adds-list g.T.ToJson.json c.args.key.now c.args.items.now c.args.some c.args.out.now.items _ _ (some_items c.args.items.now (sym c.if-is_empty.ensures)) c.in_ok-push_key.ensures c.in_ok-push_list.ensures
