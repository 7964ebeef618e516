use Rattle.std.proofs.Common.{◌≡◌, drop}
use Rattle.conf_shape.specs.Path.{pointer_of}
use Rattle.conf_json.specs.Planning.{processors_at}
use Rattle.conf_json.proofs.Each.{processors_from}
use Rattle.conf_json.proofs.planning.plan_processors.Given as goal

-- the plans so far, then those of the rest, are all plans; the maker refused nothing
abbrev pub invariant-loop-processor : goal.invariant-loop-processor
invariant-loop-processor g l =
    (processors_from (pointer_of l.path) l.list (drop l.processor-index l.processors) ≡ processors_at (pointer_of l.path) l.processors)
    × (g.P.PatternMaker.refusals l.maker ≡ g.P.PatternMaker.refusals l.initial.maker)
