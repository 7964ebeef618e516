use Rattle.filter_proc.proofs.Judging.{judged_on}
use Rattle.filter_proc.proofs.stepping.is_dropped.Goals as goal

pub returns-clause-value : goal.returns-clause-value
returns-clause-value c =
    judged_on c.any_holds_whole.result c.spot_of-spot.result _ c.as_slice-conditions.result.now _ c.args.book.now c.any_holds_whole.new.book
    c.scene-scene.result.forest.now c.args.forest.now c.scene-scene.result.root c.args.site.now.root.now c.scene-scene.result.context _
    c.scene-scene.result.place c.args.place c.spot_of-spot.ensures c.as_slice-conditions.ensures c.scene-scene.ensures.forest
    c.scene-scene.ensures.root c.scene-scene.ensures.context c.scene-scene.ensures.place c.any_holds_whole.ensures.value
