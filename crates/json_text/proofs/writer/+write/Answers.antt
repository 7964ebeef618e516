use Rattle.std.proofs.Common.{◌∙◌, ◌++◌, ◌<◌, ◌≤◌, ℕ, List, length, map, arith, ap}
use Rattle.json_text.specs.Writing.{quoted_text, truth_text, text_of}
use Rattle.json_text.proofs.Written.{pair_text, text-Null, text-Truth, text-Number, text-Text, text-List, text-Object, appended, on_ok_also, ListedSoFar-more, ListedSoFar-end, mapped, length-mapped, enclosed, members-more}
use Rattle.json_text.proofs.writer.+write.Goals as goal

pub loop-index-preserved : goal.loop-index-preserved
loop-index-preserved t c =
    let items = c.as_slice-item-items.result.now in
    let within : c.loop-index.index < length items = c.loop-index-test.true in
    ListedSoFar-more c.push.new.self.items (map text_of items) c.loop-index.index c.loop-index.out.items c.push_comma_before.new.out.items _ _ c.loop-index.invariant
    (omega (arith, length-mapped text_of items)) (mapped text_of items c.loop-index.index c.item-item.result within c.item-item.is)
    c.in_ok-push_comma_before-in-List.ensures c.in_ok-push_json-in-List.ensures

pub loop-index-2-preserved : goal.loop-index-2-preserved
loop-index-2-preserved t c =
    let items = c.as_slice-member-items.result.now in
    let within : c.loop-index-2.index < length items = c.loop-index-2-test.true in
    let member = c.member-item.result in
    members-more c.push-in-Object.new.self.items items c.loop-index-2.index member c.loop-index-2.out.items c.push_comma_before-in-loop-index-2.new.out.items
    c.push_text-in-loop-index-2.new.out.items c.push-in-loop-index-2.new.self.items _ c.loop-index-2.invariant within c.member-item.is
    c.in_ok-push_comma_before-in-Object.ensures (c.in_ok-push_text-in-Object.ensures ∙ ap (λ (k : List ℕ). c.push_comma_before-in-loop-index-2.new.out.items ++ quoted_text k) c.as_str-in-loop-index-2.ensures.value)
    c.in_ok-push-in-Object-2.ensures.items c.in_ok-push_json-in-Object.ensures

pub returns-in-Null : goal.returns-in-Null
returns-in-Null t c = appended _ _ _ _ _ c.extend_from_slice.ensures.items (text-Null c.args.json.now c.in-Null.is)

pub returns-in-Truth : goal.returns-in-Truth
returns-in-Truth t c = on_ok_also c.push_truth.result _ _ (truth_text c.in-Truth.truth) (text_of c.args.json.now) c.push_truth.ensures (text-Truth c.args.json.now c.in-Truth.truth c.in-Truth.is)

pub returns-in-Number : goal.returns-in-Number
returns-in-Number t c =
    appended _ _ _ _ _ c.extend_from_slice-in-Number.ensures.items (c.as_bytes.ensures.value ∙ c.as_str.ensures.value ∙ text-Number c.args.json.now c.in-Number.spelling c.in-Number.is)

pub returns-in-Text : goal.returns-in-Text
returns-in-Text t c =
    on_ok_also c.push_text.result _ _ (quoted_text c.as_str-in-Text.result.now) (text_of c.args.json.now) c.push_text.ensures
    (ap quoted_text c.as_str-in-Text.ensures.value ∙ text-Text c.args.json.now c.in-Text.text c.in-Text.is)

pub returns-in_ok-push-in-List-2 : goal.returns-in_ok-push-in-List-2
returns-in_ok-push-in-List-2 t c =
    let items = c.as_slice-item-items.result.now in
    let all : length items ≤ c.loop-index.index = c.loop-index-test.false in
    enclosed c.args.out.now.items c.push.new.self.items c.loop-index.out.items _ _ 91 93 (map text_of items) c.in_ok-push-in-List.ensures.items
    (ListedSoFar-end c.push.new.self.items (map text_of items) c.loop-index.index c.loop-index.out.items c.loop-index.invariant (omega (arith, length-mapped text_of items)))
    c.in_ok-push-in-List-2.ensures.items (rw c.as_slice-item-items.ensures (text-List c.args.json.now c.in-List.items c.in-List.is))

pub returns-in_ok-push-in-Object-3 : goal.returns-in_ok-push-in-Object-3
returns-in_ok-push-in-Object-3 t c =
    let items = c.as_slice-member-items.result.now in
    let all : length items ≤ c.loop-index-2.index = c.loop-index-2-test.false in
    enclosed c.args.out.now.items c.push-in-Object.new.self.items c.loop-index-2.out.items _ _ 123 125 (map pair_text items) c.in_ok-push-in-Object.ensures.items
    (ListedSoFar-end c.push-in-Object.new.self.items (map pair_text items) c.loop-index-2.index c.loop-index-2.out.items c.loop-index-2.invariant (omega (arith, length-mapped pair_text items)))
    c.in_ok-push-in-Object-3.ensures.items (rw c.as_slice-member-items.ensures (text-Object c.args.json.now c.in-Object.members c.in-Object.is))
