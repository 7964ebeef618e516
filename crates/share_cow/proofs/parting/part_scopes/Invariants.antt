use Rattle.std.proofs.Common.{◌≡◌, ◌≤◌, [], drop, length, map, take, vec_capacity, vec_len}
use Rattle.pdata_tree.specs.Selecting.{kept_scopes}
use Rattle.pdata_tree.specs.Tree.{records_of_scopes}
use Rattle.share_cow.specs.Parting.{Parts, below_scopes, scopes_at}
use Rattle.share_cow.specs.Planting.{Keeps}
use Rattle.share_cow.specs.Store.{a_scope, log_level, scope_level}
use Rattle.share_cow.proofs.parting.part_scopes.Given as goal

-- what is kept of those so far has come, and there is room for the rest
abbrev pub invariant-loop-place : goal.invariant-loop-place
invariant-loop-place l = record {
  ok : Parts (below_scopes l.initial.scopes (take l.place-index l.places)) l.parts.items
      (map a_scope (kept_scopes l.flags (scopes_at l.initial.scopes l.initial.logs (take l.place-index l.places))))
      (scope_level l.initial.scopes) (scope_level l.scopes) [] [] (log_level l.initial.logs) (log_level l.logs);
  rest : l.rest ≡ drop (records_of_scopes (scopes_at l.initial.scopes l.initial.logs (take l.place-index l.places))) l.flags;
  scopes : Keeps (length l.parts.items) l.initial.scopes l.scopes;
  logs : Keeps 0 l.initial.logs l.logs;
  few : vec_len l.parts ≤ l.place-index;
  room : length l.places ≤ vec_capacity l.parts;
}
