use Rattle.std.specs.Prelude.{map, not}
use Rattle.pdata_tree.specs.Tree.{records_of_scopes}
use Rattle.tree_parts.proofs.splitting.split_in.Goals as goal
use Rattle.tree_parts.proofs.Parts.{resource_turn, turned}

pub loop-resource-preserved : goal.loop-resource-preserved
loop-resource-preserved c =
    let resource = c.in-Some.resource in let is = c.in-Some.ensures.steps.0 in
    let flags = c.loop-resource.rest.now in let after = c.in_ok-scopes.after.now in
    let on = c.in_ok-scopes.ensures.rest in
    record {
      taken =
          resource_turn resource _ _ _ _ _ _ flags after is c.in_ok-parts.ensures.taken c.in_ok-scopes.ensures.taken on
          c.loop-resource.invariant.taken;
      left =
          resource_turn resource _ _ _ _ _ _ (map not flags) (map not after) is c.in_ok-parts.ensures.left
          c.in_ok-scopes.ensures.left (turned (records_of_scopes resource.scopes) flags after on) c.loop-resource.invariant.left;
    }
