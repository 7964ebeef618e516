use Rattle.routing_conn.proofs.Judged.{judged_on}
use Rattle.routing_conn.proofs.judging.RowJudge.matches_in.Goals as goal

pub returns-clause-value : goal.returns-clause-value
returns-clause-value c =
    judged_on c.judge.result c.spot-spot.result _ c.args.self.now.index c.args.self.now.row.now.condition c.args.book.now c.judge.new.book
    c.scene-scene.result.forest.now c.args.forest.now c.scene-scene.result.root c.args.root.now c.scene-scene.result.context _
    c.scene-scene.result.place c.args.place c.spot-spot.ensures c.scene-scene.ensures.forest c.scene-scene.ensures.root
    c.scene-scene.ensures.context c.scene-scene.ensures.place c.judge.ensures.value
