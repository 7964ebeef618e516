use Rattle.std.proofs.Common.{◌+◌, ℕ, get_or, map, arith, ap}
use Rattle.share_cow.specs.Levels.{list_at}
use Rattle.share_cow.specs.Store.{children_of}
use Rattle.share_cow.specs.Views.{children_in}
use Rattle.share_cow.proofs.Lists.{entry_times, times_at}
use Rattle.share_cow.proofs.Looks.{sum_front, sum_next}
use Rattle.share_cow.proofs.looking.count_all_logs.Goals as goal

pub children_at-below-requires : goal.children_at-below-requires
children_at-below-requires c =
    omega (arith, c.requires.live (get_or c.args.places.now c.loop-place.place-index 0), entry_times c.args.places.now c.loop-place.place-index c.loop-place-test.true)

pub count_logs-count-requires-clause-live : goal.count_logs-count-requires-clause-live
count_logs-count-requires-clause-live c =
    rw c.children_at-below.ensures
    (λ p. omega (arith, c.requires.counts.0 p, times_at p (map children_of c.args.resources.now.slots) (get_or c.args.places.now c.loop-place.place-index 0)))

pub count_logs-count-requires-clause-few : goal.count_logs-count-requires-clause-few
count_logs-count-requires-clause-few c =
    let f : ℕ → ℕ = λ p. children_in c.args.scopes.now (list_at (map children_of c.args.resources.now.slots) p) in
    omega (
      arith,
      ap (children_in c.args.scopes.now) c.children_at-below.ensures,
      sum_next f c.args.places.now c.loop-place.place-index c.loop-place-test.true,
      sum_front f c.args.places.now (c.loop-place.place-index + 1),
      c.requires.few,
    )

pub overflow_add-count : goal.overflow_add-count
overflow_add-count c =
    let f : ℕ → ℕ = λ p. children_in c.args.scopes.now (list_at (map children_of c.args.resources.now.slots) p) in
    omega (
      arith,
      c.loop-place.invariant,
      c.count_logs-count.ensures,
      ap (children_in c.args.scopes.now) c.children_at-below.ensures,
      sum_next f c.args.places.now c.loop-place.place-index c.loop-place-test.true,
      sum_front f c.args.places.now (c.loop-place.place-index + 1),
      c.requires.few,
    )

pub loop-place-preserved : goal.loop-place-preserved
loop-place-preserved c =
    let f : ℕ → ℕ = λ p. children_in c.args.scopes.now (list_at (map children_of c.args.resources.now.slots) p) in
    omega (
      arith,
      c.loop-place.invariant,
      c.count_logs-count.ensures,
      ap (children_in c.args.scopes.now) c.children_at-below.ensures,
      sum_next f c.args.places.now c.loop-place.place-index c.loop-place-test.true,
    )
