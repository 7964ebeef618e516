use Rattle.std.proofs.Common.{◌≡◌, take}
use Rattle.share_cow.specs.Views.{grandchildren_in}
use Rattle.share_cow.proofs.looking.count_all_logs.Given as goal

-- the log records of the resources so far are counted
abbrev pub invariant-loop-place : goal.invariant-loop-place
invariant-loop-place l = l.count ≡ grandchildren_in l.resources l.scopes (take l.place-index l.places)
