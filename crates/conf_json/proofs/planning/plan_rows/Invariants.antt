use Rattle.std.proofs.Common.{◌≡◌, drop}
use Rattle.conf_shape.specs.Path.{pointer_of}
use Rattle.conf_json.specs.Planning.{each_at, row_at}
use Rattle.conf_json.proofs.Each.{each_from}
use Rattle.conf_json.proofs.planning.plan_rows.Given as goal

-- the plans so far, then those of the rest, are all plans; the maker refused nothing
abbrev pub invariant-loop-index : goal.invariant-loop-index
invariant-loop-index g l =
    (each_from row_at (pointer_of l.path) l.index l.list (drop l.index l.rows) ≡ each_at row_at (pointer_of l.path) 0 l.rows)
    × (g.P.PatternMaker.refusals l.maker ≡ g.P.PatternMaker.refusals l.initial.maker)
