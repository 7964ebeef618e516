use Rattle.std.proofs.Common.{◌≡◌, [], drop}
use Rattle.otlp_json.specs.Reads.{each}
use Rattle.otlp_json.specs.Trees.{resource_logs_in}
use Rattle.otlp_json.proofs.reading.resources_of.Given as goal

-- the elements left, behind those read, give what all of them give
abbrev pub invariant-loop-item : goal.invariant-loop-item
invariant-loop-item l = each resource_logs_in l.resources (drop l.item-index l.items) l.counts ≡ each resource_logs_in [] l.items l.initial.counts
