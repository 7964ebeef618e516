use Rattle.std.proofs.Common.{◌≡◌, length}
use Rattle.json_text.specs.Members.{has_standing}
use Rattle.json_text.proofs.members.has_standing.Given as goal

-- the members left answer as all of them do
abbrev pub invariant-loop-rest : goal.invariant-loop-rest
invariant-loop-rest l = has_standing l.key l.rest ≡ has_standing l.key l.members

abbrev pub decreases-loop-rest : goal.decreases-loop-rest
decreases-loop-rest l = length l.rest
