use Rattle.std.proofs.Common.{◌≡◌, drop}
use Rattle.std.specs.List.{list_any}
use Rattle.std.specs.Str.{bytes_eq}
use Rattle.graph_build.proofs.exits.leads_to.Given as goal

-- those left answer as all of them do
abbrev pub invariant-loop-exit : goal.invariant-loop-exit
invariant-loop-exit l = list_any (λ e. bytes_eq l.name e.pipeline) (drop l.exit-index l.exits) ≡ list_any (λ e. bytes_eq l.name e.pipeline) l.exits
