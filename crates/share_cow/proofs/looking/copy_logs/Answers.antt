use Rattle.std.proofs.Common.{[], ◌∷◌, ◌++◌, List, Some, get_or, ap, sym, ◌∙◌, arith}
use Rattle.pdata_tree.specs.declared.record.LogRecord.{LogRecord}
use Rattle.share_cow.specs.Levels.{value}
use Rattle.share_cow.specs.Store.{as_log, log_level, log_made, nothing}
use Rattle.share_cow.proofs.Lists.{entry_times}
use Rattle.share_cow.proofs.Looks.{found_value, next_part}
use Rattle.share_cow.proofs.looking.copy_logs.Goals as goal

pub get-log-requires : goal.get-log-requires
get-log-requires c =
    omega (arith, c.requires (get_or c.args.places.now c.loop-place.place-index 0), entry_times c.args.places.now c.loop-place.place-index c.loop-place-test.true)

pub loop-place-preserved : goal.loop-place-preserved
loop-place-preserved c =
    let found = found_value log_made c.args.logs.now [] _ c.get-log.result.now c.get-log.ensures in
    c.in_ok-push.ensures.ok ∙ ap (λ (xs : List LogRecord). xs ++ c.in_ok-copy.copy ∷ []) c.loop-place.invariant
    ∙ sym (next_part as_log (value nothing (log_level c.args.logs.now ∷ [])) c.args.places.now c.loop-place.place-index c.in_ok-copy.copy c.loop-place-test.true
    (ap as_log found ∙ ap Some (sym c.in_ok-copy.ensures)))
