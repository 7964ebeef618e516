use Rattle.std.proofs.Common.{◌∙◌, ap, length}
use Rattle.share_cow.proofs.Found.{tested}
use Rattle.share_cow.proofs.Views.{resources_count, tree}
use Rattle.share_cow.proofs.view.RootView.has_resource.Goals as goal

pub returns : goal.returns
returns c =
    rw (← c.self.view_is)
    (tested (tree c.self.inside.batches.now c.self.inside.resources.now c.self.inside.scopes.now c.self.inside.logs.now c.self.inside.batch c.self.invariant.0 c.self.invariant.1).resources c.args.place.resource _ (ap length c.children_at-resources.ensures ∙ resources_count c.self.inside.batches.now c.self.inside.resources.now c.self.inside.scopes.now c.self.inside.logs.now c.self.inside.batch c.self.invariant.0 c.self.invariant.1))
