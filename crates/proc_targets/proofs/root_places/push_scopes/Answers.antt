use Rattle.std.proofs.Common.{◌∙◌, ◌++◌, List, ap, arith, drop}
use Rattle.pdata_tree.specs.Places.{scope_places}
use Rattle.pdata_tree.specs.declared.place.Place.{Place}
use Rattle.share_cow.specs.Views.{scopes_in}
use Rattle.proc_targets.proofs.Turns.{scope_listed}
use Rattle.proc_targets.proofs.root_places.push_scopes.Goals as goal

pub scopes-preserved : goal.scopes-preserved
scopes-preserved c =
    let within = c.has_scope.ensures.0 c.scopes-test.true in
    let scopes = scopes_in c.args.view.now c.args.resource in
    record {
      whole =
          ap (λ (ps : List Place). ps ++ scope_places c.args.resource c.in_ok-scope.scope (drop c.in_ok-scope.scope scopes)) c.in_ok-push.ensures.ok
          ∙ scope_listed c.args.resource c.scopes.scope c.in_ok-scope.scope scopes c.scopes.places within c.in_ok-scope.ensures
          ∙ c.scopes.invariant.whole;
      within = omega (arith, within, c.in_ok-scope.ensures);
    }
