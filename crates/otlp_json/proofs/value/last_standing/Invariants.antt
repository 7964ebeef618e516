use Rattle.std.proofs.Common.{◌≡◌, None, length}
use Rattle.std.specs.Option.{option_copied}
use Rattle.json_text.specs.Members.{last_standing}
use Rattle.otlp_json.specs.Values.{is_value_key}
use Rattle.otlp_json.proofs.value.last_standing.Given as goal

-- the members left, behind what was found, answer as all of them do
abbrev pub invariant-loop-rest : goal.invariant-loop-rest
invariant-loop-rest l = last_standing is_value_key (option_copied l.found) l.rest ≡ last_standing is_value_key None l.members

abbrev pub decreases-loop-rest : goal.decreases-loop-rest
decreases-loop-rest l = length l.rest
