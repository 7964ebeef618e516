use Rattle.std.proofs.Common.{◌≡◌, map, take}
use Rattle.std.specs.Prelude.{filter_map}
use Rattle.share_cow.specs.Levels.{value}
use Rattle.share_cow.specs.Store.{as_resource, nothing, resource_levels}
use Rattle.share_cow.proofs.looking.copy_resources.Given as goal

-- those so far are copied
abbrev pub invariant-loop-place : goal.invariant-loop-place
invariant-loop-place l = l.copies ≡ filter_map as_resource (map (value nothing (resource_levels l.resources l.scopes l.logs)) (take l.place-index l.places))
