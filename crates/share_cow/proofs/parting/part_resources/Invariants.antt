use Rattle.std.proofs.Common.{◌≡◌, ◌≤◌, [], ◌∷◌, drop, length, map, take, vec_capacity, vec_len}
use Rattle.pdata_tree.specs.Selecting.{kept_in}
use Rattle.pdata_tree.specs.Tree.{records_of_resources}
use Rattle.share_cow.specs.Parting.{Parts, below_resources, resources_at}
use Rattle.share_cow.specs.Planting.{Keeps, scopes_of_resources}
use Rattle.share_cow.specs.Store.{a_resource, log_level, resource_level, scope_level}
use Rattle.share_cow.proofs.parting.part_resources.Given as goal

-- what is kept of those so far has come, and there is room for the rest
abbrev pub invariant-loop-place : goal.invariant-loop-place
invariant-loop-place l = record {
  ok : Parts (below_resources l.initial.resources l.initial.scopes (take l.place-index l.places)) l.parts.items
      (map a_resource (kept_in l.flags (resources_at l.initial.resources l.initial.scopes l.initial.logs (take l.place-index l.places))))
      (resource_level l.initial.resources) (resource_level l.resources) (scope_level l.initial.scopes ∷ []) (scope_level l.scopes ∷ []) (log_level l.initial.logs) (log_level l.logs);
  rest : l.rest ≡ drop (records_of_resources (resources_at l.initial.resources l.initial.scopes l.initial.logs (take l.place-index l.places))) l.flags;
  resources : Keeps (length l.parts.items) l.initial.resources l.resources;
  scopes : Keeps (scopes_of_resources (kept_in l.flags (resources_at l.initial.resources l.initial.scopes l.initial.logs (take l.place-index l.places)))) l.initial.scopes l.scopes;
  logs : Keeps 0 l.initial.logs l.logs;
  few : vec_len l.parts ≤ l.place-index;
  room : length l.places ≤ vec_capacity l.parts;
}
