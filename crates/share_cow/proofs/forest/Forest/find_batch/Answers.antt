use Rattle.std.proofs.Common.{ap, sym, ◌∙◌}
use Rattle.shelf.specs.Places.{count_at}
use Rattle.share_cow.specs.Store.{Store}
use Rattle.share_cow.proofs.Finding.{batch_is, few_owed}
use Rattle.share_cow.proofs.OwnBatch.{way_live}
use Rattle.share_cow.proofs.forest.Forest.find_batch.Goals as goal

pub batch_at-batch-requires : goal.batch_at-batch-requires
batch_at-batch-requires c = way_live c.args.self.now c.args.root.now c.requires.0

pub returns-clause-ends : goal.returns-clause-ends
returns-clause-ends c = batch_is c.args.self.now c.args.root.now c.batch_at-batch.result c.batch_at-batch.ensures

pub returns-clause-own : goal.returns-clause-own
returns-clause-own c =
    few_owed c.count-own.result _
    (c.count-own.ensures ∙ ap (λ (s : Store). count_at s.batches c.batch_at-batch.result) c.self.view_is
    ∙ ap (count_at c.args.self.now.batches) (sym (batch_is c.args.self.now c.args.root.now c.batch_at-batch.result c.batch_at-batch.ensures)))
