use Rattle.share_cow.proofs.Added.{added_live, added_names}
use Rattle.share_cow.proofs.parting.add_above.Goals as goal

pub children_at-requires : goal.children_at-requires
children_at-requires g c = added_live c.args.shelf.now c.add.new.self c.in_ok-place.place _ c.in_ok-place.ensures.ok

pub raise_all-requires-clause-live : goal.raise_all-requires-clause-live
raise_all-requires-clause-live g c =
    rw (c.children_at.ensures, added_names c.args.shelf.now c.add.new.self c.in_ok-place.place _ c.in_ok-place.ensures.ok) c.requires.live

pub raise_all-requires-clause-room : goal.raise_all-requires-clause-room
raise_all-requires-clause-room g c =
    rw (c.children_at.ensures, added_names c.args.shelf.now c.add.new.self c.in_ok-place.place _ c.in_ok-place.ensures.ok) c.requires.room

pub returns-clause-raises : goal.returns-clause-raises
returns-clause-raises g c =
    rw (c.children_at.ensures, added_names c.args.shelf.now c.add.new.self c.in_ok-place.place _ c.in_ok-place.ensures.ok) at c.raise_all.ensures
