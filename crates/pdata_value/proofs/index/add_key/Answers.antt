use Rattle.std.proofs.Common.{◌≡◌, ℕ}
use Rattle.std.proofs.lemmas.Map.Text.{btree_map_updates_str}
use Rattle.pdata_value.proofs.index.add_key.Goals as goal

pub returns : goal.returns
returns t c = btree_map_updates_str c.args.key.now c.args.index.now c.insert.new.self _ c.in_ok-insert.ensures.updates
