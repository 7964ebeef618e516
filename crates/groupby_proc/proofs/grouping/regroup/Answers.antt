use Rattle.std.proofs.Common.{◌∙◌, map, ap}
use Rattle.pdata_tree.specs.Grouping.{same_resource}
use Rattle.groupby_proc.specs.Gathering.{gathered}
use Rattle.groupby_proc.specs.Placing.{resource_tree}
use Rattle.groupby_proc.proofs.Placed.{regrouped}
use Rattle.groupby_proc.proofs.grouping.regroup.Goals as goal

pub returns : goal.returns
returns c =
    regrouped c.args.keys.now c.args.tree c.in_ok-resources.resources
    (c.in_ok-resources.ensures ∙ ap (λ records. map resource_tree (gathered same_resource records)) c.in_ok-records.ensures)
