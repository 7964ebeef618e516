-- What was pushed, with what is left, is the whole.
use Rattle.std.proofs.Common.{◌≡◌, ◌++◌, drop, map}
use Rattle.json_text.specs.Writing.{listed_from, text_of}
use Rattle.otlp_json.specs.Adding.{listed}
use Rattle.otlp_json.proofs.writing.lists.push_items.Given as goal

abbrev pub invariant-loop-index : goal.invariant-loop-index
invariant-loop-index g l =
    l.out.items ++ listed_from l.index (map (λ x. text_of (g.T.ToJson.json x)) (drop l.index l.items)) ≡ l.fn.out.items ++ listed g.T.ToJson.json l.items
