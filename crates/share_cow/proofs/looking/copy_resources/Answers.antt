use Rattle.std.proofs.Common.{[], ◌∷◌, ◌++◌, List, get_or, ap, sym, ◌∙◌, arith}
use Rattle.pdata_tree.specs.declared.resource.ResourceTree.{ResourceTree}
use Rattle.share_cow.specs.Levels.{times, value}
use Rattle.share_cow.specs.Store.{as_resource, nothing, resource_levels}
use Rattle.share_cow.proofs.Lists.{entry_times}
use Rattle.share_cow.proofs.Looks.{next_part}
use Rattle.share_cow.proofs.looking.copy_resources.Goals as goal

pub copy_resource-requires-clause-live : goal.copy_resource-requires-clause-live
copy_resource-requires-clause-live c =
    let q = get_or c.as_slice-places.result.now c.loop-place.place-index 0 in
    omega (arith, c.requires.live q, entry_times c.as_slice-places.result.now c.loop-place.place-index c.loop-place-test.true, ap (times q) c.as_slice-places.ensures)

pub loop-place-preserved : goal.loop-place-preserved
loop-place-preserved c =
    c.in_ok-push.ensures.ok ∙ ap (λ (xs : List ResourceTree). xs ++ c.in_ok-copy.copy ∷ []) c.loop-place.invariant
    ∙ sym (next_part as_resource (value nothing (resource_levels c.args.resources.now c.args.scopes.now c.args.logs.now)) c.as_slice-places.result.now c.loop-place.place-index c.in_ok-copy.copy c.loop-place-test.true (ap as_resource c.in_ok-copy.ensures))
