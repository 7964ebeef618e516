use Rattle.std.proofs.Common.{ℕ, suc, arith}
use Rattle.routing_conn.proofs.tests.rooted.kept_rest.Goals as goal

-- the roots of rows are among those that were given
pub give_up-requires-clause-live : goal.give_up-requires-clause-live
give_up-requires-clause-live c = λ root among.
    c.in-Ok.ensures.roots.live root (suc among.0, omega (arith, among.1), among.2)

pub give_up-requires-clause-apart : goal.give_up-requires-clause-apart
give_up-requires-clause-apart c = c.in-Ok.ensures.roots.apart.1
