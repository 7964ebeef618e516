use Rattle.std.proofs.Common.{◌≡◌, drop}
use Rattle.pdata_value.specs.Pairs.{has_key}
use Rattle.json_text.proofs.members.has_key_among.Given as goal

-- the members left answer as all of them do
abbrev pub invariant-loop-member : goal.invariant-loop-member
invariant-loop-member l = has_key (drop l.member-index l.members) l.key ≡ has_key l.members l.key
