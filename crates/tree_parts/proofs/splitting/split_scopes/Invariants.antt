use Rattle.std.proofs.Common.{◌≡◌, ◌++◌, drop, map, not}
use Rattle.std.specs.Vec.Iter.{into_iter_items}
use Rattle.pdata_tree.specs.Selecting.{kept_scopes}
use Rattle.pdata_tree.specs.Tree.{records_of_scopes}
use Rattle.tree_parts.proofs.splitting.split_scopes.Given as goal

-- the parts so far and those of the rest are all
abbrev pub invariant-loop-scope : goal.invariant-loop-scope
invariant-loop-scope l = record {
  taken : l.parts.0 ++ kept_scopes l.rest (into_iter_items l.scope-iterator) ≡ kept_scopes l.fn.flags l.fn.scopes;
  left :
      l.parts.1 ++ kept_scopes (map not l.rest) (into_iter_items l.scope-iterator)
      ≡ kept_scopes (map not l.fn.flags) l.fn.scopes;
  rest :
      drop (records_of_scopes (into_iter_items l.scope-iterator)) l.rest
      ≡ drop (records_of_scopes l.fn.scopes) l.fn.flags;
}
