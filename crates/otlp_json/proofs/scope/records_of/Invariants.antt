use Rattle.std.proofs.Common.{◌≡◌, [], drop}
use Rattle.otlp_json.specs.Reads.{each}
use Rattle.otlp_json.specs.Trees.{record_in}
use Rattle.otlp_json.proofs.scope.records_of.Given as goal

-- the elements left, behind those read, give what all of them give
abbrev pub invariant-loop-item : goal.invariant-loop-item
invariant-loop-item l = each record_in l.logs (drop l.item-index l.items) l.counts ≡ each record_in [] l.items l.initial.counts
