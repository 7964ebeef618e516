use Rattle.std.proofs.Common.{◌≡◌, ◌++◌, ◌∙◌, List, ℕ, codes, refl, sym, ap}
use Rattle.json_text.specs.Writing.{text_of}
use Rattle.json_text.proofs.Written.{appended}
use Rattle.otlp_json.specs.Line.{value_json, pair_json}
use Rattle.otlp_json.specs.Adding.{pair_front}
use Rattle.otlp_json.proofs.Words.{array-pushed, array-none, some_items, no_items, listed-more, three_pushed, text_of-pair}
use Rattle.otlp_json.proofs.writing.values.+write.Goals as goal

pub push_array-returns-then-is_empty : goal.push_array-returns-then-is_empty
push_array-returns-then-is_empty t c =
    appended _ _ _ _ _ c.extend_from_slice.ensures.items (sym (array-none value_json (codes "arrayValue") c.args.values.now (no_items c.args.values.now (sym c.if-is_empty.ensures))))

pub push_array-returns : goal.push_array-returns
push_array-returns t c =
    array-pushed value_json (codes "arrayValue") (codes "{\"arrayValue\":{\"values\":[") c.args.values.now c.args.out.now.items _ _ _ (some_items c.args.values.now (sym c.if-is_empty.ensures)) refl
    c.in_ok-extend_from_slice.ensures.items c.in_ok-push_values.ensures c.in_ok-extend_from_slice-2.ensures.items

pub push_map-returns-then-is_empty : goal.push_map-returns-then-is_empty
push_map-returns-then-is_empty t c =
    appended _ _ _ _ _ c.extend_from_slice.ensures.items (sym (array-none pair_json (codes "kvlistValue") c.args.pairs.now (no_items c.args.pairs.now (sym c.if-is_empty.ensures))))

pub push_map-returns : goal.push_map-returns
push_map-returns t c =
    array-pushed pair_json (codes "kvlistValue") (codes "{\"kvlistValue\":{\"values\":[") c.args.pairs.now c.args.out.now.items _ _ _ (some_items c.args.pairs.now (sym c.if-is_empty.ensures)) refl
    c.in_ok-extend_from_slice.ensures.items c.in_ok-push_pairs.ensures c.in_ok-extend_from_slice-2.ensures.items

pub push_pairs-loop-index-preserved : goal.push_pairs-loop-index-preserved
push_pairs-loop-index-preserved t c =
    let pairs = c.args.pairs.now in
    let pair = c.index-pairs-index.result in
    let comma = c.push_comma_before.new.out.items in
    let front : c.push_pair_key.new.out.items ≡ comma ++ pair_front pair.0 = c.in_ok-push_pair_key.ensures ∙ ap (λ (k : List ℕ). comma ++ pair_front k) c.as_str.ensures.value in
    listed-more pair_json pairs c.loop-index.index pair c.loop-index.out.items comma c.push.new.self.items _ c.loop-index-test.true c.index-pairs-index.is c.in_ok-push_comma_before.ensures
    (three_pushed comma (pair_front pair.0) (text_of (value_json pair.1)) (codes "}") _ _ _ front c.in_ok-push_value.ensures c.in_ok-push.ensures.items
    ∙ ap (λ (l : List ℕ). comma ++ l) (sym (text_of-pair pair.0 (value_json pair.1))))
    c.loop-index.invariant
