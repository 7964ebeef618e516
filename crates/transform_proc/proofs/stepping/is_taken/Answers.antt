use Rattle.proc_targets.specs.Judging.{no_pairs}
use Rattle.transform_proc.proofs.Scenes.{taken_on}
use Rattle.transform_proc.proofs.stepping.is_taken.Goals as goal

pub returns-clause-value : goal.returns-clause-value
returns-clause-value c =
    taken_on c.takes_whole.result c.spot-spot.result _ c.as_slice-conditions.result.now c.args.target.now.turn.group.now.conditions c.args.book.now
    c.takes_whole.new.book no_pairs c.scene-scene.result.forest.now c.args.forest.now c.scene-scene.result.root c.args.site.now.root.now
    c.scene-scene.result.context c.args.target.now.turn.group.now.context c.scene-scene.result.place c.args.target.now.place c.spot-spot.ensures
    c.as_slice-conditions.ensures c.scene-scene.ensures.forest c.scene-scene.ensures.root c.scene-scene.ensures.context c.scene-scene.ensures.place
    c.takes_whole.ensures.value
