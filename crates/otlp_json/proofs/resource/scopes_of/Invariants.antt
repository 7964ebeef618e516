use Rattle.std.proofs.Common.{◌≡◌, [], drop}
use Rattle.otlp_json.specs.Reads.{each}
use Rattle.otlp_json.specs.Trees.{scope_logs_in}
use Rattle.otlp_json.proofs.resource.scopes_of.Given as goal

-- the elements left, behind those read, give what all of them give
abbrev pub invariant-loop-item : goal.invariant-loop-item
invariant-loop-item l = each scope_logs_in l.scopes (drop l.item-index l.items) l.counts ≡ each scope_logs_in [] l.items l.initial.counts
