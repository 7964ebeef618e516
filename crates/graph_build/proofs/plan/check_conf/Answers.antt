use Rattle.std.proofs.Common.{◌≡◌, Err, sym, subst, rules}
use Rattle.graph_build.specs.Checks.{Checks}
use Rattle.graph_build.proofs.Parts.{checks-unread}
use Rattle.graph_build.proofs.plan.check_conf.Goals as goal

pub returns-in_err-settings : goal.returns-in_err-settings
returns-in_err-settings g c =
    let is : c.from_residual.result ≡ Err c.in_err-settings.field-0.0 = search rules in
    subst (λ r. Checks (g.P.PatternMaker.refusals c.args.maker.now) (g.P.PatternMaker.refusals c.read_conf.new.maker) r c.args.bytes.now) (sym is)
    (checks-unread _ _ c.args.bytes.now _ c.in_err-settings.ensures)
