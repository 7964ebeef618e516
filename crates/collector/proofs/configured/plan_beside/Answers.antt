-- A configuration's own fault comes first, then that of its paths.
use Rattle.std.proofs.Common.{List, ℕ, map, subst}
use Rattle.graph_build.specs.Conf.{HasDraft, conf_of}
use Rattle.collector.proofs.Apart.{plans-free, plans-taken, plans-unread}
use Rattle.collector.proofs.configured.plan_beside.Goals as goal

pub returns-in-Err : goal.returns-in-Err
returns-in-Err g c = plans-unread (map (λ name. name.now) c.args.names.now) c.args.bytes.now _ _ c.in-Err.stop c.in-Err.ensures

pub returns-in-Ok-check_paths : goal.returns-in-Ok-check_paths
returns-in-Ok-check_paths g c =
    let has = subst (λ (b : List ℕ). HasDraft c.draft.result.now (conf_of b)) c.in-Ok.ensures.0 c.draft.ensures in
    plans-free (map (λ name. name.now) c.args.names.now) c.args.bytes.now (g.P.PatternMaker.refusals c.args.maker.now) (g.P.PatternMaker.refusals c.check_conf.new.maker) c.draft.result.now c.in-Ok.plan
    c.in-Ok.ensures.0 c.in-Ok.ensures.2 has c.in-Ok-check_paths.ensures

pub returns-in-Err-check_paths : goal.returns-in-Err-check_paths
returns-in-Err-check_paths g c =
    let has = subst (λ (b : List ℕ). HasDraft c.draft.result.now (conf_of b)) c.in-Ok.ensures.0 c.draft.ensures in
    rw c.from.ensures
    (plans-taken (map (λ name. name.now) c.args.names.now) c.args.bytes.now (g.P.PatternMaker.refusals c.args.maker.now) (g.P.PatternMaker.refusals c.check_conf.new.maker) c.draft.result.now c.in-Err-check_paths.stop
    has c.in-Err-check_paths.ensures)
