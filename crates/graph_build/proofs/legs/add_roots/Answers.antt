use Rattle.std.proofs.Common.{◌≡◌, length, Err, sym, subst, rules}
use Rattle.graph_build.specs.Growing.{Grows}
use Rattle.graph_build.specs.Legs.{legs_from}
use Rattle.graph_build.proofs.Growing.{roots-whole}
use Rattle.graph_build.proofs.legs.add_roots.Goals as goal

pub returns-in_err-add_root : goal.returns-in_err-add_root
returns-in_err-add_root c =
    let is : c.from_residual.result ≡ Err c.in_err-add_root.field-0.0 = search rules in
    subst (λ r. Grows c.args.legs.now c.add_root.new.legs r (legs_from c.args.draft.now (length c.args.legs.now) c.args.pipelines.now)) (sym is)
    (roots-whole c.args.draft.now _ c.args.legs.now c.loop-pipeline.legs c.add_root.new.legs c.add_root.new.legs
    c.args.pipelines.now c.loop-pipeline.pipeline-index c.pipeline-item.result c.loop-pipeline-test.true c.pipeline-item.is c.loop-pipeline.invariant.0 c.in_err-add_root.ensures)
