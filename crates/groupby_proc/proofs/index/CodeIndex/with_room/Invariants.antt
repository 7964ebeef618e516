use Rattle.std.proofs.Common.{◌<◌, length}
use Rattle.groupby_proc.proofs.index.CodeIndex.with_room.Given as goal

-- there is a bucket
abbrev pub invariant-loop : goal.invariant-loop
invariant-loop l = 0 < length l.buckets
