use Rattle.std.proofs.Common.{◌≡◌, ◌≤◌, ◌+◌, ℕ}
use Rattle.load_gen.specs.Payloads.{before, lines_from}
use Rattle.load_gen.proofs.payloads.make_payloads.Given as goal

-- the payloads that are made stand before those that are left
abbrev pub invariant-loop-left : goal.invariant-loop-left
invariant-loop-left l =
    (lines_from 1 l.fn.count l.fn.seed
    ≡ before l.lines.items (lines_from l.number l.left l.draws.state))
    × (l.number + l.left ≡ l.fn.count + 1)

abbrev pub decreases-loop-left : goal.decreases-loop-left
decreases-loop-left l = l.left
