use Rattle.std.proofs.Common.{◌++◌, ◌∙◌, List, ℕ, length, codes, sym, ap}
use Rattle.pdata_value.specs.Value.{pairs}
use Rattle.otlp_json.specs.Line.{pair_json}
use Rattle.otlp_json.specs.Adding.{listed}
use Rattle.otlp_json.proofs.Words.{Adds-list, some_items, nonzero, three_pushed, text_of-list}
use Rattle.otlp_json.proofs.writing.push_attributes.Goals as goal

pub returns : goal.returns
returns c =
    let ps = pairs c.args.attributes.now in
    let keyed = c.push_key.new.out.items in
    Adds-list pair_json (codes "attributes") ps c.args.some c.args.out.now.items keyed _ (some_items ps (nonzero (length ps) (λ none. c.if-len-eq0.false (c.len.ensures ∙ none)))) c.in_ok-push_key.ensures
    (three_pushed keyed (codes "[") (listed pair_json ps) (codes "]") _ _ _ c.in_ok-push.ensures.items
    (c.in_ok-push_pairs.ensures ∙ ap (λ xs. c.push.new.self.items ++ listed pair_json xs) c.as_slice.ensures) c.in_ok-push-2.ensures.items
    ∙ ap (λ (t : List ℕ). keyed ++ t) (sym (text_of-list pair_json ps)))
