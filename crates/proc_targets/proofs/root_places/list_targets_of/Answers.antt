use Rattle.std.proofs.Common.{◌∙◌, ◌++◌, List, ap, arith, drop}
use Rattle.pdata_tree.specs.Places.{targets_from}
use Rattle.pdata_tree.specs.declared.place.Place.{Place}
use Rattle.proc_targets.proofs.Turns.{resource_listed}
use Rattle.proc_targets.proofs.root_places.list_targets_of.Goals as goal

pub resources-preserved : goal.resources-preserved
resources-preserved c =
    let within = c.has_resource.ensures.0 c.resources-test.true in
    let resources = c.args.view.now.resources in
    record {
      whole =
          ap (λ (ps : List Place). ps ++ targets_from c.args.context c.in_ok-resource.resource (drop c.in_ok-resource.resource resources)) c.in_ok-push_targets.ensures
          ∙ resource_listed c.args.context c.resources.resource c.in_ok-resource.resource c.args.view.now c.resources.places within c.in_ok-resource.ensures
          ∙ c.resources.invariant.whole;
      within = omega (arith, within, c.in_ok-resource.ensures);
    }
