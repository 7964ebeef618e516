-- What was pushed, with what is left, is the whole.
use Rattle.std.proofs.Common.{◌≡◌, ◌++◌, drop, map}
use Rattle.json_text.specs.Writing.{listed_from, text_of}
use Rattle.otlp_json.specs.Line.{value_json, pair_json}
use Rattle.otlp_json.specs.Adding.{listed}
use Rattle.otlp_json.proofs.writing.values.+write.Given as goal

abbrev pub invariant-push_values-loop-index : goal.invariant-push_values-loop-index
invariant-push_values-loop-index l =
    l.out.items ++ listed_from l.index (map (λ x. text_of (value_json x)) (drop l.index l.values)) ≡ l.fn.out.items ++ listed value_json l.values

abbrev pub invariant-push_pairs-loop-index : goal.invariant-push_pairs-loop-index
invariant-push_pairs-loop-index l =
    l.out.items ++ listed_from l.index (map (λ x. text_of (pair_json x)) (drop l.index l.pairs)) ≡ l.fn.out.items ++ listed pair_json l.pairs
