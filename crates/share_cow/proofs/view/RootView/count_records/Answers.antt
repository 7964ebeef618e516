use Rattle.share_cow.proofs.Views.{records_count, records_fit, resources_live}
use Rattle.share_cow.proofs.view.RootView.count_records.Goals as goal

pub children_at-resources-requires : goal.children_at-resources-requires
children_at-resources-requires c = c.self.invariant.0

pub count_all_logs-requires-clause-live : goal.count_all_logs-requires-clause-live
count_all_logs-requires-clause-live c = rw c.children_at-resources.ensures (resources_live c.self.inside.batches.now c.self.inside.resources.now c.self.inside.scopes.now c.self.inside.logs.now c.self.inside.batch c.self.invariant.0 c.self.invariant.1)

pub count_all_logs-requires-clause-counts : goal.count_all_logs-requires-clause-counts
count_all_logs-requires-clause-counts c = (c.self.invariant.1.1.0, tt)

pub count_all_logs-requires-clause-few : goal.count_all_logs-requires-clause-few
count_all_logs-requires-clause-few c =
    let few = rw (← c.self.view_is) at c.requires in
    rw c.children_at-resources.ensures (records_fit c.self.inside.batches.now c.self.inside.resources.now c.self.inside.scopes.now c.self.inside.logs.now c.self.inside.batch c.self.invariant.0 c.self.invariant.1 few)

pub returns : goal.returns
returns c = rw (← c.self.view_is, c.count_all_logs.ensures, c.children_at-resources.ensures) (records_count c.self.inside.batches.now c.self.inside.resources.now c.self.inside.scopes.now c.self.inside.logs.now c.self.inside.batch c.self.invariant.0 c.self.invariant.1)
