use Rattle.std.proofs.Common.{◌≡◌, ◌≤◌, ◌+◌, ℕ}
use Rattle.load_gen.specs.Payloads.{before}
use Rattle.load_gen.specs.Payloads as spec
use Rattle.load_gen.proofs.payloads.logs_of.Given as goal

-- the records that are made stand before those that are left
abbrev pub invariant-loop-left : goal.invariant-loop-left
invariant-loop-left l =
    (spec.logs_of l.payload 0 l.fn.count l.fn.draws.state
    ≡ before l.logs (spec.logs_of l.payload l.record l.left l.draws.state))
    × (l.record + l.left ≡ l.fn.count)

abbrev pub decreases-loop-left : goal.decreases-loop-left
decreases-loop-left l = l.left
