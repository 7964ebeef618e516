use Rattle.std.proofs.Common.{◌≡◌, drop}
use Rattle.groupby_proc.specs.Codes.{with_bytes}
use Rattle.groupby_proc.proofs.code.with_bytes.Given as goal

-- the code so far, with the bytes left, is that with all
abbrev pub invariant-loop-byte : goal.invariant-loop-byte
invariant-loop-byte l = with_bytes l.mixed (drop l.byte-index l.bytes) ≡ with_bytes l.code l.bytes
