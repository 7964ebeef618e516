use Rattle.std.proofs.Common.{◌<◌, [], ◌∷◌, length, get_or, refl, arith, ◌∙◌}
use Rattle.std.proofs.lemmas.List.{length-append}
use Rattle.shelf.specs.Places.{count_at}
use Rattle.share_cow.specs.Store.{batch_named, log_level, log_made, resource_level, resource_made, scope_level, scope_made}
use Rattle.share_cow.proofs.Growing.{keeps_on, tidy_level}
use Rattle.share_cow.proofs.Lists.{entry_times}
use Rattle.share_cow.proofs.Parts.{parts_restored, parts_undone}
use Rattle.share_cow.proofs.PartResources.{next_resource, next_resource_live, next_resource_rest, next_resource_scopes}
use Rattle.share_cow.proofs.parting.part_resources.Goals as goal

pub part_resource-requires-clause-live : goal.part_resource-requires-clause-live
part_resource-requires-clause-live c =
    let h : 0 < count_at c.args.resources.now (get_or c.args.places.now c.loop-place.place-index 0) = omega (arith, c.requires.live (get_or c.args.places.now c.loop-place.place-index 0), entry_times c.args.places.now c.loop-place.place-index c.loop-place-test.true) in
    next_resource_live c.args.resources.now c.loop-place.resources c.args.scopes.now c.loop-place.scopes c.args.logs.now c.loop-place.logs c.args.places.now c.loop-place.place-index c.loop-place-test.true c.args.flags.now c.loop-place.rest.now _ _
    c.requires.counts h c.loop-place.invariant.ok refl c.loop-place.invariant.rest

pub returns-in-Err-clause-err : goal.returns-in-Err-clause-err
returns-in-Err-clause-err c =
    let gone = rw c.as_slice.ensures.value at c.lower_resources.ensures.steps in
    let still = parts_restored _ c.loop-place.parts.items _ (resource_level c.args.resources.now) (resource_level c.loop-place.resources) (resource_level c.part_resource.new.resources) (scope_level c.args.scopes.now) (scope_level c.loop-place.scopes) (scope_level c.part_resource.new.scopes)
    (log_level c.args.logs.now) (log_level c.loop-place.logs) (log_level c.part_resource.new.logs) c.loop-place.invariant.ok c.in-Err.ensures.err in
    parts_undone _ c.loop-place.parts.items _ (resource_level c.args.resources.now) (resource_level c.part_resource.new.resources) (resource_level c.lower_resources.new.resources) (scope_level c.args.scopes.now ∷ []) (scope_level c.part_resource.new.scopes ∷ [])
    (scope_level c.lower_resources.new.scopes ∷ log_level c.lower_resources.new.logs ∷ []) (log_level c.args.logs.now) (log_level c.part_resource.new.logs)
    still gone c.requires.counts
    (tidy_level resource_made c.args.resources.now c.requires.resources, (tidy_level scope_made c.args.scopes.now c.requires.scopes, (tidy_level log_made c.args.logs.now c.requires.logs, tt)))
    (tidy_level resource_made c.lower_resources.new.resources c.lower_resources.ensures.resources.kept, (tidy_level scope_made c.lower_resources.new.scopes c.lower_resources.ensures.scopes.kept, (tidy_level log_made c.lower_resources.new.logs c.lower_resources.ensures.logs.kept, tt)))

pub loop-place-preserved : goal.loop-place-preserved
loop-place-preserved c =
    let h : 0 < count_at c.args.resources.now (get_or c.args.places.now c.loop-place.place-index 0) = omega (arith, c.requires.live (get_or c.args.places.now c.loop-place.place-index 0), entry_times c.args.places.now c.loop-place.place-index c.loop-place-test.true) in
    let scopes_more = next_resource_scopes c.args.resources.now c.loop-place.resources c.args.scopes.now c.loop-place.scopes c.args.logs.now c.loop-place.logs c.args.places.now c.loop-place.place-index c.loop-place-test.true c.args.flags.now c.loop-place.rest.now
    c.loop-place.parts.items _ c.requires.counts h c.loop-place.invariant.ok refl c.loop-place.invariant.rest in
    record {
      ok = rw c.push_part.ensures.items (next_resource c.args.resources.now c.loop-place.resources c.args.scopes.now c.loop-place.scopes c.args.logs.now c.loop-place.logs c.args.places.now c.loop-place.place-index c.loop-place-test.true c.args.flags.now c.loop-place.rest.now
          c.loop-place.parts.items _ c.requires.counts h c.loop-place.invariant.ok refl c.loop-place.invariant.rest c.part_resource.new.resources c.part_resource.new.scopes c.part_resource.new.logs (batch_named c.in-Ok.part) c.in-Ok.ensures.ok);
      rest = c.in-Ok.ensures.rest ∙ next_resource_rest c.args.resources.now c.loop-place.resources c.args.scopes.now c.loop-place.scopes c.args.logs.now c.loop-place.logs c.args.places.now c.loop-place.place-index c.loop-place-test.true c.args.flags.now c.loop-place.rest.now
          c.loop-place.parts.items _ c.requires.counts h c.loop-place.invariant.ok refl c.loop-place.invariant.rest;
      resources = rw (c.push_part.ensures.items, length-append c.loop-place.parts.items (batch_named c.in-Ok.part))
          (keeps_on c.args.resources.now c.loop-place.resources c.part_resource.new.resources (length c.loop-place.parts.items) (length (batch_named c.in-Ok.part)) c.loop-place.invariant.resources c.in-Ok.ensures.resources);
      scopes = rw scopes_more (keeps_on c.args.scopes.now c.loop-place.scopes c.part_resource.new.scopes _ _ c.loop-place.invariant.scopes c.in-Ok.ensures.scopes);
      logs = keeps_on c.args.logs.now c.loop-place.logs c.part_resource.new.logs 0 0 c.loop-place.invariant.logs c.in-Ok.ensures.logs;
      few = omega (arith, c.push_part.ensures.len, c.loop-place.invariant.few);
      room = omega (arith, c.push_part.ensures.capacity, c.loop-place.invariant.room);
    }
