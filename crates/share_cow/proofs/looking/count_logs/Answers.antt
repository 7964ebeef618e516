use Rattle.std.proofs.Common.{◌+◌, ℕ, get_or, length, map, arith, ap}
use Rattle.share_cow.specs.Levels.{list_at}
use Rattle.share_cow.specs.Store.{children_of}
use Rattle.share_cow.proofs.Lists.{entry_times}
use Rattle.share_cow.proofs.Looks.{sum_front, sum_next}
use Rattle.share_cow.proofs.looking.count_logs.Goals as goal

pub children_at-logs-requires : goal.children_at-logs-requires
children_at-logs-requires c =
    omega (arith, c.requires.live (get_or c.args.places.now c.loop-place.place-index 0), entry_times c.args.places.now c.loop-place.place-index c.loop-place-test.true)

pub overflow_add-count : goal.overflow_add-count
overflow_add-count c =
    let f : ℕ → ℕ = λ p. length (list_at (map children_of c.args.scopes.now.slots) p) in
    omega (
      arith,
      c.loop-place.invariant,
      ap length c.children_at-logs.ensures,
      sum_next f c.args.places.now c.loop-place.place-index c.loop-place-test.true,
      sum_front f c.args.places.now (c.loop-place.place-index + 1),
      c.requires.few,
    )

pub loop-place-preserved : goal.loop-place-preserved
loop-place-preserved c =
    let f : ℕ → ℕ = λ p. length (list_at (map children_of c.args.scopes.now.slots) p) in
    omega (
      arith,
      c.loop-place.invariant,
      ap length c.children_at-logs.ensures,
      sum_next f c.args.places.now c.loop-place.place-index c.loop-place-test.true,
    )
