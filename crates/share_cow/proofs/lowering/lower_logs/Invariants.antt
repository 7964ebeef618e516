use Rattle.std.proofs.Common.{take, []}
use Rattle.share_cow.specs.Lowering.{Lowers, Thins}
use Rattle.share_cow.specs.Store.{log_level}
use Rattle.share_cow.proofs.lowering.lower_logs.Given as goal

-- the places so far are lowered
abbrev pub invariant-loop-place : goal.invariant-loop-place
invariant-loop-place l =
    Lowers (take l.place-index l.places) (log_level l.initial.logs) (log_level l.logs) [] [] × Thins l.initial.logs l.logs
