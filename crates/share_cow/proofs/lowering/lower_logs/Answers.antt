use Rattle.share_cow.specs.Store.{log_level}
use Rattle.std.proofs.Common.{[], ◌∙◌}
use Rattle.share_cow.proofs.Falling.{lowers_next, next_live}
use Rattle.share_cow.proofs.lowering.lower_logs.Goals as goal

pub lower_log-requires-clause-live : goal.lower_log-requires-clause-live
lower_log-requires-clause-live c =
    next_live c.args.places.now c.loop-place.place-index (log_level c.args.logs.now) (log_level c.loop-place.logs) [] []
    c.loop-place-test.true c.requires.named c.loop-place.invariant.0

pub loop-place-preserved : goal.loop-place-preserved
loop-place-preserved c = (
  lowers_next c.args.places.now c.loop-place.place-index (log_level c.args.logs.now) (log_level c.loop-place.logs) (log_level c.lower_log.new.logs) [] [] []
      c.loop-place-test.true c.loop-place.invariant.0 c.lower_log.ensures.steps,
  record { kept = c.lower_log.ensures.logs.kept; added = c.lower_log.ensures.logs.added ∙ c.loop-place.invariant.1.added },
)
