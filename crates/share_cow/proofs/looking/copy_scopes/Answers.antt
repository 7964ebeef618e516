use Rattle.std.proofs.Common.{[], ◌∷◌, ◌++◌, List, get_or, ap, sym, ◌∙◌, arith}
use Rattle.pdata_tree.specs.declared.scope.ScopeTree.{ScopeTree}
use Rattle.share_cow.specs.Levels.{value}
use Rattle.share_cow.specs.Store.{as_scope, nothing, scope_levels}
use Rattle.share_cow.proofs.Lists.{entry_times}
use Rattle.share_cow.proofs.Looks.{next_part}
use Rattle.share_cow.proofs.looking.copy_scopes.Goals as goal

pub copy_scope-requires-clause-live : goal.copy_scope-requires-clause-live
copy_scope-requires-clause-live c =
    omega (arith, c.requires.live (get_or c.args.places.now c.loop-place.place-index 0), entry_times c.args.places.now c.loop-place.place-index c.loop-place-test.true)

pub loop-place-preserved : goal.loop-place-preserved
loop-place-preserved c =
    c.in_ok-push.ensures.ok ∙ ap (λ (xs : List ScopeTree). xs ++ c.in_ok-copy.copy ∷ []) c.loop-place.invariant
    ∙ sym (next_part as_scope (value nothing (scope_levels c.args.scopes.now c.args.logs.now)) c.args.places.now c.loop-place.place-index c.in_ok-copy.copy c.loop-place-test.true (ap as_scope c.in_ok-copy.ensures))
