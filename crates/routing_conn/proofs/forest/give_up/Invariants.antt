use Rattle.std.proofs.Common.{length}
use Rattle.fanout.specs.Handing.{AreApart}
use Rattle.routing_conn.specs.Given.{AreLive, GivesUp}
use Rattle.share_cow.specs.Store.{Store}
use Rattle.routing_conn.proofs.forest.give_up.Given as goal

-- where those that are left are given up, all are
abbrev pub invariant-roots : goal.invariant-roots
invariant-roots l = record {
  comes : (new : Store) → GivesUp l.left.roots l.forest new → GivesUp l.fn.roots.roots l.initial.forest new;
  live : AreLive l.forest l.left.roots;
  apart : AreApart l.left.roots;
}

abbrev pub decreases-roots : goal.decreases-roots
decreases-roots l = length l.left.roots
