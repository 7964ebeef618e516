use Rattle.std.proofs.Common.{get_or}
use Rattle.share_cow.proofs.Lists.{entry_times}
use Rattle.share_cow.proofs.Owned.{raise_live, raise_room, raises_next, raises_none}
use Rattle.share_cow.proofs.owning.raise_all.Goals as goal

pub loop-place-init : goal.loop-place-init
loop-place-init g c = raises_none c.args.shelf.now c.requires.kept

pub raise-requires-clause-live : goal.raise-requires-clause-live
raise-requires-clause-live g c =
    raise_live c.args.places.now c.loop-place.place-index c.args.shelf.now c.loop-place.shelf c.loop-place.invariant
    (c.requires.live (get_or c.args.places.now c.loop-place.place-index 0) (entry_times c.args.places.now c.loop-place.place-index c.loop-place-test.true))

pub raise-requires-clause-room : goal.raise-requires-clause-room
raise-requires-clause-room g c =
    raise_room c.args.places.now c.loop-place.place-index c.args.shelf.now c.loop-place.shelf c.loop-place-test.true c.loop-place.invariant
    (c.requires.room (get_or c.args.places.now c.loop-place.place-index 0))

pub loop-place-preserved : goal.loop-place-preserved
loop-place-preserved g c =
    rw c.raise.ensures
    (raises_next c.args.places.now c.loop-place.place-index c.args.shelf.now c.loop-place.shelf c.loop-place-test.true c.loop-place.invariant
    (raise_live c.args.places.now c.loop-place.place-index c.args.shelf.now c.loop-place.shelf c.loop-place.invariant
    (c.requires.live (get_or c.args.places.now c.loop-place.place-index 0) (entry_times c.args.places.now c.loop-place.place-index c.loop-place-test.true))))
