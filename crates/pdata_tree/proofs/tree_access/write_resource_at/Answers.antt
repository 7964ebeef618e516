use Rattle.pdata_tree.specs.Access.{written_in}
use Rattle.pdata_tree.proofs.Changed.{change_of_item}
use Rattle.pdata_tree.proofs.tree_access.write_resource_at.Goals as goal

pub returns : goal.returns
returns c =
    change_of_item (written_in c.args.level c.args.path.now.field c.args.path.now.keys c.args.value c.args.place)
    c.args.resources.now c.args.place.resource c.at_mut-resource.result.now c.write_in.new.resource c.write_in.result
    c.at_mut-resource.ensures.value c.write_in.ensures
