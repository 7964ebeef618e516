use Rattle.std.proofs.Common.{◌≡◌, drop}
use Rattle.std.specs.Prelude.{◌==◌}
use Rattle.std.specs.List.{list_all}
use Rattle.otlp_json.proofs.writing.members.is_zero.Given as goal

-- the bytes left answer as all of them do
abbrev pub invariant-loop-byte : goal.invariant-loop-byte
invariant-loop-byte l = list_all (λ b. b == 0) (drop l.byte-index l.id) ≡ list_all (λ b. b == 0) l.id
