use Rattle.std.proofs.Common.{◌<◌, [], ◌∷◌, length, get_or, refl, arith, ◌∙◌}
use Rattle.std.proofs.lemmas.List.{length-append}
use Rattle.shelf.specs.Places.{count_at}
use Rattle.share_cow.specs.Store.{batch_named, log_level, log_made, scope_level, scope_made}
use Rattle.share_cow.proofs.Growing.{keeps_on, tidy_level}
use Rattle.share_cow.proofs.Lists.{entry_times}
use Rattle.share_cow.proofs.Parts.{parts_undone}
use Rattle.share_cow.proofs.PartTrees.{next_scope, next_scope_live, next_scope_rest}
use Rattle.share_cow.proofs.parting.part_scopes.Goals as goal

pub children_at-requires : goal.children_at-requires
children_at-requires c =
    let h : 0 < count_at c.args.scopes.now (get_or c.args.places.now c.loop-place.place-index 0) = omega (arith, c.requires.live (get_or c.args.places.now c.loop-place.place-index 0), entry_times c.args.places.now c.loop-place.place-index c.loop-place-test.true) in
    next_scope_live c.args.scopes.now c.loop-place.scopes c.args.logs.now c.loop-place.logs c.args.places.now c.loop-place.place-index c.loop-place-test.true c.args.flags.now c.loop-place.rest.now _ _
    c.requires.counts h c.loop-place.invariant.ok refl c.loop-place.invariant.rest

pub part_scope-requires-clause-live : goal.part_scope-requires-clause-live
part_scope-requires-clause-live c =
    let h : 0 < count_at c.args.scopes.now (get_or c.args.places.now c.loop-place.place-index 0) = omega (arith, c.requires.live (get_or c.args.places.now c.loop-place.place-index 0), entry_times c.args.places.now c.loop-place.place-index c.loop-place-test.true) in
    next_scope_live c.args.scopes.now c.loop-place.scopes c.args.logs.now c.loop-place.logs c.args.places.now c.loop-place.place-index c.loop-place-test.true c.args.flags.now c.loop-place.rest.now _ _
    c.requires.counts h c.loop-place.invariant.ok refl c.loop-place.invariant.rest

pub returns-in-Err-clause-err : goal.returns-in-Err-clause-err
returns-in-Err-clause-err c =
    let gone = rw (c.as_slice.ensures.value, c.in-Err.ensures.err, c.in-Err.ensures.err_logs) at c.lower_scopes.ensures.steps in
    parts_undone _ c.loop-place.parts.items _ (scope_level c.args.scopes.now) (scope_level c.loop-place.scopes) (scope_level c.lower_scopes.new.scopes) [] [] (log_level c.lower_scopes.new.logs ∷ []) (log_level c.args.logs.now) (log_level c.loop-place.logs)
    c.loop-place.invariant.ok gone c.requires.counts
    (tidy_level scope_made c.args.scopes.now c.requires.scopes, (tidy_level log_made c.args.logs.now c.requires.logs, tt))
    (tidy_level scope_made c.lower_scopes.new.scopes c.lower_scopes.ensures.scopes.kept, (tidy_level log_made c.lower_scopes.new.logs c.lower_scopes.ensures.logs.kept, tt))

pub loop-place-preserved : goal.loop-place-preserved
loop-place-preserved c =
    let h : 0 < count_at c.args.scopes.now (get_or c.args.places.now c.loop-place.place-index 0) = omega (arith, c.requires.live (get_or c.args.places.now c.loop-place.place-index 0), entry_times c.args.places.now c.loop-place.place-index c.loop-place-test.true) in
    record {
      ok = rw c.push_part.ensures.items (next_scope c.args.scopes.now c.loop-place.scopes c.args.logs.now c.loop-place.logs c.args.places.now c.loop-place.place-index c.loop-place-test.true c.args.flags.now c.loop-place.rest.now
          c.loop-place.parts.items _ c.requires.counts h c.loop-place.invariant.ok refl c.loop-place.invariant.rest c.part_scope.new.scopes c.part_scope.new.logs (batch_named c.in-Ok.part) c.in-Ok.ensures.ok);
      rest = c.behind-after.ensures ∙ rw c.children_at.ensures (next_scope_rest c.args.scopes.now c.loop-place.scopes c.args.logs.now c.loop-place.logs c.args.places.now c.loop-place.place-index c.loop-place-test.true c.args.flags.now c.loop-place.rest.now
          c.loop-place.parts.items _ c.requires.counts h c.loop-place.invariant.ok refl c.loop-place.invariant.rest);
      scopes = rw (c.push_part.ensures.items, length-append c.loop-place.parts.items (batch_named c.in-Ok.part))
          (keeps_on c.args.scopes.now c.loop-place.scopes c.part_scope.new.scopes (length c.loop-place.parts.items) (length (batch_named c.in-Ok.part)) c.loop-place.invariant.scopes c.in-Ok.ensures.scopes);
      logs = keeps_on c.args.logs.now c.loop-place.logs c.part_scope.new.logs 0 0 c.loop-place.invariant.logs c.in-Ok.ensures.logs;
      few = omega (arith, c.push_part.ensures.len, c.loop-place.invariant.few);
      room = omega (arith, c.push_part.ensures.capacity, c.loop-place.invariant.room);
    }
