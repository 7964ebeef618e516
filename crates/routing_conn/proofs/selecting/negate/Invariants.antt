use Rattle.std.proofs.Common.{◌≡◌, ◌++◌, drop, map}
use Rattle.std.specs.Prelude.{not}
use Rattle.routing_conn.proofs.selecting.negate.Given as goal

-- the others so far, then those of the flags left, are all
abbrev pub invariant-loop-flag : goal.invariant-loop-flag
invariant-loop-flag l = record {
  whole : l.others ++ map not (drop l.flag-index l.flags) ≡ map not l.flags;
}
