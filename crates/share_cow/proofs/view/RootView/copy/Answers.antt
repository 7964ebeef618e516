use Rattle.std.proofs.Common.{sym}
use Rattle.share_cow.specs.Store.{resource_level, resource_levels}
use Rattle.share_cow.proofs.Looks.{found_live}
use Rattle.share_cow.proofs.Views.{tree_found}
use Rattle.share_cow.proofs.view.RootView.copy.Goals as goal

pub get-batch-requires : goal.get-batch-requires
get-batch-requires c = c.self.invariant.0

pub copy_resources-requires-clause-live : goal.copy_resources-requires-clause-live
copy_resources-requires-clause-live c = found_live c.self.inside.batches.now c.self.inside.batch c.get-batch.result.now (resource_level c.self.inside.resources.now) c.get-batch.ensures c.self.invariant.1.0

pub copy_resources-requires-clause-counts : goal.copy_resources-requires-clause-counts
copy_resources-requires-clause-counts c = c.self.invariant.1.1

pub returns : goal.returns
returns c = rw (← c.self.view_is, c.in_ok-resources.ensures) (sym (tree_found c.self.inside.batches.now (resource_levels c.self.inside.resources.now c.self.inside.scopes.now c.self.inside.logs.now) c.self.inside.batch c.get-batch.result.now c.get-batch.ensures))
