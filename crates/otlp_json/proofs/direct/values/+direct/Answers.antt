use Rattle.std.proofs.Common.{◌≡◌, ◌∙◌, ◌-◌, ℕ, [], codes, false, true, None, Ok, refl, sym, ap, rules, arith, to_z-of_z, SFits, w64, to_z, of_z}
use Rattle.pdata_value.specs.declared.value.Value.TheVariants as variants
use Rattle.otlp_json.specs.Fields.{text_in, truth_in, i64_in, double_in, bytes_in}
use Rattle.otlp_json.specs.Limits.{one_value}
use Rattle.otlp_json.specs.Values.{value_in, value_table, is_value_key, pair_in, pair_table, pairs_in, values_in, array_in, array_table, map_in, map_table}
use Rattle.otlp_json.specs.Direct.{kind_slot, row_of}
use Rattle.otlp_json.proofs.Levels.{value_in-is}
use Rattle.otlp_json.proofs.Filling.{plain-fills, nested-fills, other-fills, other-slot-fills, stands-same}
use Rattle.otlp_json.proofs.Passing.{Passed-begin, Passed-more, Listed-begin, Listed-more}
use Rattle.otlp_json.proofs.ObjectsPassed.{object-begin, object-more, object-stands, members-stand, wrapped-list-stands}
use Rattle.otlp_json.proofs.OneKind.{kinds_meant, kinds-Extends, no_kind, no_slot}
use Rattle.otlp_json.proofs.PairValue.{pair-stands, empty-stands, values-is, pairs-is}
use Rattle.otlp_json.proofs.direct.values.+direct.Goals as goal

pub value_member-returns-then-same-clause-fills : goal.value_member-returns-then-same-clause-fills
unfolding is_value_key array_in map_in
value_member-returns-then-same-clause-fills t c =
    plain-fills (value_table c.args.levels (value_in c.args.levels)) (kind_slot) c.args.depth c.args.direct.now c.args.value.now c.args.key.now (codes "stringValue") (sym c.same.ensures ∙ c.if-same.true) 0 refl
    (text_in) (λ v x. variants.Text x) (λ json n. refl) _ _ c.in_ok-text.ensures.stands

pub value_member-returns-then-same-2-clause-fills : goal.value_member-returns-then-same-2-clause-fills
unfolding is_value_key array_in map_in
value_member-returns-then-same-2-clause-fills t c =
    plain-fills (value_table c.args.levels (value_in c.args.levels)) (kind_slot) c.args.depth c.args.direct.now c.args.value.now c.args.key.now (codes "boolValue") (sym c.same-2.ensures ∙ c.if-same-2.true) 0 refl
    (truth_in) (λ v x. variants.Truth x) (λ json n. refl) _ _ c.in_ok-truth.ensures.stands

pub value_member-returns-then-same-3-clause-fills : goal.value_member-returns-then-same-3-clause-fills
unfolding is_value_key array_in map_in
value_member-returns-then-same-3-clause-fills t c =
    let n = c.in_ok-i64_next.field-0 in
    let fits : SFits w64 n = search rules in
    let same : to_z w64 (of_z w64 n) ≡ n = to_z-of_z fits in
    rw same (plain-fills (value_table c.args.levels (value_in c.args.levels)) (kind_slot) c.args.depth c.args.direct.now c.args.value.now c.args.key.now (codes "intValue") (sym c.same-3.ensures ∙ c.if-same-3.true) 0 refl
    (i64_in) (λ v x. variants.Int x) (λ json n. refl) _ _ c.in_ok-i64_next.ensures.stands)

pub value_member-returns-then-same-4-clause-fills : goal.value_member-returns-then-same-4-clause-fills
unfolding is_value_key array_in map_in
value_member-returns-then-same-4-clause-fills t c =
    plain-fills (value_table c.args.levels (value_in c.args.levels)) (kind_slot) c.args.depth c.args.direct.now c.args.value.now c.args.key.now (codes "doubleValue") (sym c.same-4.ensures ∙ c.if-same-4.true) 0 refl
    (double_in) (λ v x. variants.Double x) (λ json n. refl) _ _ c.in_ok-double.ensures.stands

pub value_member-returns-then-same-5-clause-fills : goal.value_member-returns-then-same-5-clause-fills
unfolding is_value_key array_in map_in
value_member-returns-then-same-5-clause-fills t c =
    nested-fills (value_table c.args.levels (value_in c.args.levels)) (kind_slot) c.args.depth c.args.direct.now c.args.value.now c.args.key.now (codes "arrayValue") (sym c.same-5.ensures ∙ c.if-same-5.true) 0 refl
    (array_in c.args.levels) (λ v x. variants.List x) (λ json n. refl) _ _ c.in_ok-array.ensures.stands

pub value_member-returns-then-same-6-clause-fills : goal.value_member-returns-then-same-6-clause-fills
unfolding is_value_key array_in map_in
value_member-returns-then-same-6-clause-fills t c =
    nested-fills (value_table c.args.levels (value_in c.args.levels)) (kind_slot) c.args.depth c.args.direct.now c.args.value.now c.args.key.now (codes "kvlistValue") (sym c.same-6.ensures ∙ c.if-same-6.true) 0 refl
    (map_in c.args.levels) (λ v x. variants.Map x) (λ json n. refl) _ _ c.in_ok-map.ensures.stands

pub value_member-returns-then-same-7-clause-fills : goal.value_member-returns-then-same-7-clause-fills
unfolding is_value_key array_in map_in
value_member-returns-then-same-7-clause-fills t c =
    plain-fills (value_table c.args.levels (value_in c.args.levels)) (kind_slot) c.args.depth c.args.direct.now c.args.value.now c.args.key.now (codes "bytesValue") (sym c.same-7.ensures ∙ c.if-same-7.true) 0 refl
    (bytes_in) (λ v x. variants.Bytes x) (λ json n. refl) _ _ c.in_ok-bytes.ensures.stands

pub value_member-returns-clause-fills : goal.value_member-returns-clause-fills
unfolding is_value_key array_in map_in
value_member-returns-clause-fills t c =
    let none : is_value_key c.args.key.now ≡ false = rw (sym c.same.ensures ∙ c.if-same.false, sym c.same-2.ensures ∙ c.if-same-2.false, sym c.same-3.ensures ∙ c.if-same-3.false, sym c.same-4.ensures ∙ c.if-same-4.false, sym c.same-5.ensures ∙ c.if-same-5.false, sym c.same-6.ensures ∙ c.if-same-6.false, sym c.same-7.ensures ∙ c.if-same-7.false) refl in
    other-slot-fills (value_table c.args.levels (value_in c.args.levels)) kind_slot c.args.depth c.args.direct.now c.pass.new.direct c.args.value.now c.args.key.now (no_kind c.args.levels (value_in c.args.levels) c.args.key.now none) (no_slot c.args.key.now none) c.in_ok-pass.ensures.passes

pub array_member-returns-then-same-clause-fills : goal.array_member-returns-then-same-clause-fills
unfolding values_in
array_member-returns-then-same-clause-fills t c =
    nested-fills (array_table (value_in c.args.levels)) (row_of (array_table (value_in c.args.levels))) c.args.depth c.args.direct.now c.args.list.now c.args.key.now (codes "values") (sym c.same.ensures ∙ c.if-same.true) 0 refl
    (values_in c.args.levels) (λ _ x. x) (λ json n. refl) _ _ c.in_ok-list.ensures.stands

pub array_member-returns-clause-fills : goal.array_member-returns-clause-fills
unfolding values_in
array_member-returns-clause-fills t c =
    let none : row_of (array_table (value_in c.args.levels)) c.args.key.now ≡ None = rw (sym c.same.ensures ∙ c.if-same.false) refl in
    other-fills (array_table (value_in c.args.levels)) c.args.depth c.args.direct.now c.pass.new.direct c.args.list.now c.args.key.now none c.in_ok-pass.ensures.passes

pub map_member-returns-then-same-clause-fills : goal.map_member-returns-then-same-clause-fills
unfolding pairs_in
map_member-returns-then-same-clause-fills t c =
    nested-fills (map_table c.args.levels (value_in c.args.levels)) (row_of (map_table c.args.levels (value_in c.args.levels))) c.args.depth c.args.direct.now c.args.map.now c.args.key.now (codes "values") (sym c.same.ensures ∙ c.if-same.true) 0 refl
    (pairs_in c.args.levels) (λ _ x. x) (λ json n. refl) _ _ c.in_ok-map.ensures.stands

pub map_member-returns-clause-fills : goal.map_member-returns-clause-fills
unfolding pairs_in
map_member-returns-clause-fills t c =
    let none : row_of (map_table c.args.levels (value_in c.args.levels)) c.args.key.now ≡ None = rw (sym c.same.ensures ∙ c.if-same.false) refl in
    other-fills (map_table c.args.levels (value_in c.args.levels)) c.args.depth c.args.direct.now c.pass.new.direct c.args.map.now c.args.key.now none c.in_ok-pass.ensures.passes

pub pair_member-returns-then-same-clause-fills : goal.pair_member-returns-then-same-clause-fills
unfolding pairs_in
pair_member-returns-then-same-clause-fills t c =
    plain-fills (pair_table (value_in c.args.levels)) (row_of (pair_table (value_in c.args.levels))) c.args.depth c.args.direct.now c.args.pair.now c.args.key.now (codes "key") (sym c.same.ensures ∙ c.if-same.true) 0 refl
    (text_in) (λ p x. (x, p.1)) (λ json n. refl) _ _ c.in_ok-pair.ensures.stands

pub pair_member-returns-then-same-2-clause-fills : goal.pair_member-returns-then-same-2-clause-fills
unfolding pairs_in
pair_member-returns-then-same-2-clause-fills t c =
    nested-fills (pair_table (value_in c.args.levels)) (row_of (pair_table (value_in c.args.levels))) c.args.depth c.args.direct.now c.args.pair.now c.args.key.now (codes "value") (sym c.same-2.ensures ∙ c.if-same-2.true) 1 refl
    (value_in c.args.levels) (λ p x. (p.0, x)) (λ json n. refl) _ _ c.in_ok-pair-2.ensures.stands

pub pair_member-returns-clause-fills : goal.pair_member-returns-clause-fills
unfolding pairs_in
pair_member-returns-clause-fills t c =
    let none : row_of (pair_table (value_in c.args.levels)) c.args.key.now ≡ None = rw (sym c.same.ensures ∙ c.if-same.false, sym c.same-2.ensures ∙ c.if-same-2.false) refl in
    other-fills (pair_table (value_in c.args.levels)) c.args.depth c.args.direct.now c.pass.new.direct c.args.pair.now c.args.key.now none c.in_ok-pass.ensures.passes

pub array-loop-more-init : goal.array-loop-more-init
array-loop-more-init t c = object-begin (array_table (value_in c.args.levels)) (record { items = [] }) c.args.depth 10 _ c.opens.new.direct c.new-list.result c.in_ok-more.more (values-is _ [] c.new-list.ensures) c.in_ok-more.ensures.opens c.in_ok-more.ensures.shorter

pub array-loop-more-preserved : goal.array-loop-more-preserved
array-loop-more-preserved t c =
    object-more (array_table (value_in c.args.levels)) (record { items = [] }) c.args.depth c.opens.new.direct.counts c.args.direct.now.cursor c.loop-more.direct c.key.new.direct c.array_member.new.direct c.goes.new.direct
    c.loop-more.list c.array_member.new.list c.in_ok-key.key.now c.in_ok-row.row c.loop-more.taken c.take.new.taken c.in_ok-more-2.more
    (rw c.loop-more-test.true at c.loop-more.invariant) c.in_ok-key.ensures.key c.in_ok-key.ensures.counts c.in_ok-row.ensures.fills c.in_ok-take.ensures
    c.in_ok-more-2.ensures.comma c.in_ok-more-2.ensures.counts (omega (arith, c.in_ok-key.ensures.shorter, c.in_ok-row.ensures.shorter, c.in_ok-more-2.ensures.shorter))

pub array-returns-clause-stands : goal.array-returns-clause-stands
unfolding array_in
array-returns-clause-stands t c =
    object-stands (array_table (value_in c.args.levels)) (record { items = [] }) c.args.depth c.args.direct.now c.opens.new.direct c.loop-more.direct c.in_ok-more.more c.loop-more.list c.loop-more.taken
    c.in_ok-more.ensures.opens (rw c.loop-more-test.false at c.loop-more.invariant)

pub array-returns-clause-shorter : goal.array-returns-clause-shorter
array-returns-clause-shorter t c = c.loop-more.invariant.less

pub map-loop-more-init : goal.map-loop-more-init
map-loop-more-init t c = object-begin (map_table c.args.levels (value_in c.args.levels)) (record { items = [] }) c.args.depth 10 _ c.opens.new.direct c.new-map.result c.in_ok-more.more (pairs-is _ [] c.new-map.ensures) c.in_ok-more.ensures.opens c.in_ok-more.ensures.shorter

pub map-loop-more-preserved : goal.map-loop-more-preserved
map-loop-more-preserved t c =
    object-more (map_table c.args.levels (value_in c.args.levels)) (record { items = [] }) c.args.depth c.opens.new.direct.counts c.args.direct.now.cursor c.loop-more.direct c.key.new.direct c.map_member.new.direct c.goes.new.direct
    c.loop-more.map c.map_member.new.map c.in_ok-key.key.now c.in_ok-row.row c.loop-more.taken c.take.new.taken c.in_ok-more-2.more
    (rw c.loop-more-test.true at c.loop-more.invariant) c.in_ok-key.ensures.key c.in_ok-key.ensures.counts c.in_ok-row.ensures.fills c.in_ok-take.ensures
    c.in_ok-more-2.ensures.comma c.in_ok-more-2.ensures.counts (omega (arith, c.in_ok-key.ensures.shorter, c.in_ok-row.ensures.shorter, c.in_ok-more-2.ensures.shorter))

pub map-returns-clause-stands : goal.map-returns-clause-stands
unfolding map_in
map-returns-clause-stands t c =
    object-stands (map_table c.args.levels (value_in c.args.levels)) (record { items = [] }) c.args.depth c.args.direct.now c.opens.new.direct c.loop-more.direct c.in_ok-more.more c.loop-more.map c.loop-more.taken
    c.in_ok-more.ensures.opens (rw c.loop-more-test.false at c.loop-more.invariant)

pub map-returns-clause-shorter : goal.map-returns-clause-shorter
map-returns-clause-shorter t c = c.loop-more.invariant.less

pub pair-loop-more-init : goal.pair-loop-more-init
pair-loop-more-init t c = object-begin (pair_table (value_in c.args.levels)) ([], variants.Empty) c.args.depth 10 _ c.opens.new.direct _ c.in_ok-more.more (ap (λ (x : _). (x, variants.Empty)) c.new.ensures) c.in_ok-more.ensures.opens c.in_ok-more.ensures.shorter

pub pair-loop-more-preserved : goal.pair-loop-more-preserved
pair-loop-more-preserved t c =
    object-more (pair_table (value_in c.args.levels)) ([], variants.Empty) c.args.depth c.opens.new.direct.counts c.args.direct.now.cursor c.loop-more.direct c.key.new.direct c.pair_member.new.direct c.goes.new.direct
    c.loop-more.pair c.pair_member.new.pair c.in_ok-key.key.now c.in_ok-row.row c.loop-more.taken c.take.new.taken c.in_ok-more-2.more
    (rw c.loop-more-test.true at c.loop-more.invariant) c.in_ok-key.ensures.key c.in_ok-key.ensures.counts c.in_ok-row.ensures.fills c.in_ok-take.ensures
    c.in_ok-more-2.ensures.comma c.in_ok-more-2.ensures.counts (omega (arith, c.in_ok-key.ensures.shorter, c.in_ok-row.ensures.shorter, c.in_ok-more-2.ensures.shorter))

pub value-loop-more-init : goal.value-loop-more-init
value-loop-more-init t c =
    let below = c.args.levels - 1 in
    Passed-begin (value_table below (value_in below)) kind_slot (kinds_meant below (value_in below) c.opens.new.direct.counts) (kinds-Extends below (value_in below) c.opens.new.direct.counts)
    c.args.depth 10 _ c.opens.new.direct variants.Empty c.in_ok-more.more c.in_ok-more.ensures.opens c.in_ok-more.ensures.shorter (ap (λ n. Ok (variants.Empty, n)) c.in_ok-more.ensures.opens.counts)

pub value-loop-more-preserved : goal.value-loop-more-preserved
value-loop-more-preserved t c =
    let below = c.args.levels - 1 in
    Passed-more (value_table below (value_in below)) kind_slot (kinds_meant below (value_in below) c.opens.new.direct.counts) (kinds-Extends below (value_in below) c.opens.new.direct.counts)
    c.args.depth c.args.direct.now.cursor c.loop-more.direct c.key.new.direct c.value_member.new.direct c.goes.new.direct
    c.loop-more.value c.value_member.new.value c.in_ok-key.key.now c.in_ok-slot.slot c.loop-more.taken c.take.new.taken c.in_ok-more-2.more
    (rw c.loop-more-test.true at c.loop-more.invariant) c.in_ok-key.ensures.key c.in_ok-key.ensures.counts c.in_ok-slot.ensures.fills c.in_ok-take.ensures
    c.in_ok-more-2.ensures.comma c.in_ok-more-2.ensures.counts (omega (arith, c.in_ok-key.ensures.shorter, c.in_ok-slot.ensures.shorter, c.in_ok-more-2.ensures.shorter))

pub value-returns-clause-stands : goal.value-returns-clause-stands
value-returns-clause-stands t c =
    let below = c.args.levels - 1 in
    stands-same _ (value_in c.args.levels) (value_in-is c.args.levels) c.args.depth c.args.direct.now c.loop-more.value c.loop-more.direct
    (members-stand (kinds_meant below (value_in below)) kind_slot c.args.depth (one_value c.args.levels) c.args.direct.now _ c.opens.new.direct c.loop-more.direct c.at-at.result c.in_ok-more.more c.loop-more.value c.loop-more.taken
    c.in_ok-more.ensures.opens refl c.at-at.ensures c.in_ok-count_value.ensures.gives (rw c.loop-more-test.false at c.loop-more.invariant))

pub value-returns-clause-shorter : goal.value-returns-clause-shorter
value-returns-clause-shorter t c = c.loop-more.invariant.less

pub values-loop-more-init : goal.values-loop-more-init
values-loop-more-init t c = rw c.new-list.ensures (Listed-begin (value_in c.args.levels) c.args.depth c.args.direct.now c.opens.new.direct.counts c.opens.new.direct c.in_ok-more.more c.in_ok-more.ensures.opens c.in_ok-more.ensures.shorter refl)

pub values-loop-more-preserved : goal.values-loop-more-preserved
values-loop-more-preserved t c =
    rw c.in_ok-push.ensures.ok (Listed-more (value_in c.args.levels) c.args.depth c.args.direct.now c.opens.new.direct.counts c.loop-more.direct c.value.new.direct c.goes.new.direct c.loop-more.list c.in_ok-value.field-0 c.in_ok-more-2.more
    (rw c.loop-more-test.true at c.loop-more.invariant) c.in_ok-value.ensures.stands c.in_ok-more-2.ensures.comma c.in_ok-more-2.ensures.counts
    (omega (arith, c.in_ok-value.ensures.shorter, c.in_ok-more-2.ensures.shorter)))

pub values-returns-clause-stands : goal.values-returns-clause-stands
unfolding values_in
values-returns-clause-stands t c =
    rw (values-is _ c.loop-more.list c.from_list.ensures) (wrapped-list-stands (value_in c.args.levels) c.args.depth (λ xs. record { items = xs }) c.args.direct.now c.opens.new.direct c.loop-more.direct c.in_ok-more.more c.loop-more.list c.in_ok-more.ensures.opens
    (rw c.loop-more-test.false at c.loop-more.invariant))

pub values-returns-clause-shorter : goal.values-returns-clause-shorter
values-returns-clause-shorter t c = c.loop-more.invariant.less

pub pairs-loop-more-init : goal.pairs-loop-more-init
pairs-loop-more-init t c = rw c.new-list.ensures (Listed-begin (pair_in c.args.levels) c.args.depth c.args.direct.now c.opens.new.direct.counts c.opens.new.direct c.in_ok-more.more c.in_ok-more.ensures.opens c.in_ok-more.ensures.shorter refl)

pub pairs-loop-more-preserved : goal.pairs-loop-more-preserved
pairs-loop-more-preserved t c =
    rw c.in_ok-push.ensures.ok (Listed-more (pair_in c.args.levels) c.args.depth c.args.direct.now c.opens.new.direct.counts c.loop-more.direct c.pair.new.direct c.goes.new.direct c.loop-more.list c.in_ok-pair.field-0 c.in_ok-more-2.more
    (rw c.loop-more-test.true at c.loop-more.invariant) c.in_ok-pair.ensures.stands c.in_ok-more-2.ensures.comma c.in_ok-more-2.ensures.counts
    (omega (arith, c.in_ok-pair.ensures.shorter, c.in_ok-more-2.ensures.shorter)))

pub pairs-returns-clause-stands : goal.pairs-returns-clause-stands
unfolding pairs_in pair_in
pairs-returns-clause-stands t c =
    rw (pairs-is _ c.loop-more.list c.from_list.ensures) (wrapped-list-stands (pair_in c.args.levels) c.args.depth (λ xs. record { items = xs }) c.args.direct.now c.opens.new.direct c.loop-more.direct c.in_ok-more.more c.loop-more.list c.in_ok-more.ensures.opens
    (rw c.loop-more-test.false at c.loop-more.invariant))

pub pairs-returns-clause-shorter : goal.pairs-returns-clause-shorter
pairs-returns-clause-shorter t c = c.loop-more.invariant.less

pub pair-returns-then-taken-clause-stands : goal.pair-returns-then-taken-clause-stands
unfolding pair_in
pair-returns-then-taken-clause-stands t c =
    pair-stands (value_in c.args.levels) c.args.levels c.args.depth c.args.direct.now c.opens.new.direct c.loop-more.direct c.in_ok-more.more c.loop-more.pair c.loop-more.taken c.in_ok-more.ensures.opens
    (rw c.loop-more-test.false at c.loop-more.invariant) c.if-taken.true

pub pair-returns-then-taken-clause-shorter : goal.pair-returns-then-taken-clause-shorter
pair-returns-then-taken-clause-shorter t c = c.loop-more.invariant.less

pub pair-returns-clause-stands : goal.pair-returns-clause-stands
unfolding pair_in
pair-returns-clause-stands t c =
    empty-stands (value_in c.args.levels) c.args.levels c.args.depth c.args.direct.now c.opens.new.direct c.loop-more.direct c.in_ok-more.more c.loop-more.pair c.loop-more.taken c.in_ok-more.ensures.opens
    (rw c.loop-more-test.false at c.loop-more.invariant) c.at-at.result _ c.if-taken.false c.at-at.ensures refl c.in_ok-count_value.ensures.gives

pub pair-returns-clause-shorter : goal.pair-returns-clause-shorter
pair-returns-clause-shorter t c = c.loop-more.invariant.less
