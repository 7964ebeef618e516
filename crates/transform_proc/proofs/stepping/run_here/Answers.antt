use Rattle.std.proofs.Common.{◌∙◌, sym}
use Rattle.conf_json.specs.declared.account.Part.TheVariants as part
use Rattle.transform_proc.proofs.Scenes.{back_on, ran_on}
use Rattle.transform_proc.specs.Meaning.{spot_of}
use Rattle.transform_proc.specs.Turns.{turn_of}
use Rattle.transform_proc.proofs.stepping.run_here.Goals as goal

pub returns-clause-value : goal.returns-clause-value
returns-clause-value c =
    let ran = ran_on c.run_one.result c.args.running.now.cache c.run_one.new.cache c.args.forest.now c.scene-scene.result.forest.now
    c.run_one.new.scene.forest.now c.args.site.now.root.now c.scene-scene.result.root c.run_one.new.scene.root c.args.target.now.turn.group.now.context
    c.scene-scene.result.context c.run_one.new.scene.context c.args.target.now.place c.scene-scene.result.place c.run_one.new.scene.place
    c.scene-scene.ensures.forest c.scene-scene.ensures.root c.scene-scene.ensures.context c.scene-scene.ensures.place
    c.run_one.ensures.keeps.1 c.run_one.ensures.keeps.2 c.run_one.ensures.keeps.3
    c.spot-spot.result (spot_of (turn_of c.args.target.now.turn) part.Statement c.args.target.now.place) c.args.running.now.index c.args.statement.now
    c.args.book.now c.run_one.new.book c.spot-spot.ensures c.run_one.ensures.value in
    ran c.forest-1.given.0 (c.forest-1.given.1 (sym (c.run_one.ensures.keeps.0 ∙ c.scene-scene.ensures.lends)))

pub returns-clause-back : goal.returns-clause-back
returns-clause-back c =
    let back = back_on c.run_one.result c.args.running.now.cache c.run_one.new.cache c.args.forest.now c.scene-scene.result.forest.now
    c.run_one.new.scene.forest.now c.args.site.now.root.now c.scene-scene.result.root c.run_one.new.scene.root c.args.target.now.turn.group.now.context
    c.scene-scene.result.context c.run_one.new.scene.context c.args.target.now.place c.scene-scene.result.place c.run_one.new.scene.place
    c.scene-scene.ensures.forest c.scene-scene.ensures.root c.scene-scene.ensures.context c.scene-scene.ensures.place
    c.run_one.ensures.keeps.1 c.run_one.ensures.keeps.2 c.run_one.ensures.keeps.3
    c.run_one.ensures.back in
    back c.forest-1.given.0 (c.forest-1.given.1 (sym (c.run_one.ensures.keeps.0 ∙ c.scene-scene.ensures.lends)))
