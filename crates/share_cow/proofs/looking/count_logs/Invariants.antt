use Rattle.std.proofs.Common.{◌≡◌, take}
use Rattle.share_cow.specs.Views.{children_in}
use Rattle.share_cow.proofs.looking.count_logs.Given as goal

-- what the places so far name is counted
abbrev pub invariant-loop-place : goal.invariant-loop-place
invariant-loop-place l = l.count ≡ children_in l.scopes (take l.place-index l.places)
