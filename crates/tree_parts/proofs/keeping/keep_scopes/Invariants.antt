use Rattle.std.proofs.Common.{◌≡◌, ◌++◌, drop}
use Rattle.std.specs.Vec.Iter.{into_iter_items}
use Rattle.pdata_tree.specs.Selecting.{kept_scopes}
use Rattle.pdata_tree.specs.Tree.{records_of_scopes}
use Rattle.tree_parts.proofs.keeping.keep_scopes.Given as goal

-- what is kept so far and of the rest is all that is kept
abbrev pub invariant-loop-scope : goal.invariant-loop-scope
invariant-loop-scope l = record {
  part : l.part ++ kept_scopes l.rest (into_iter_items l.scope-iterator) ≡ kept_scopes l.fn.flags l.fn.scopes;
  rest :
      drop (records_of_scopes (into_iter_items l.scope-iterator)) l.rest
      ≡ drop (records_of_scopes l.fn.scopes) l.fn.flags;
}
