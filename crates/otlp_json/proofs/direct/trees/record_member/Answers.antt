use Rattle.std.proofs.Common.{◌≡◌, ◌∙◌, codes, false, None, refl, sym, rules, to_z-of_z, SFits, w32, to_z, of_z}
use Rattle.otlp_json.specs.Fields.{text_in, u64_in, u32_in, i32_in, id_in}
use Rattle.otlp_json.specs.Limits.{most_levels}
use Rattle.otlp_json.specs.Values.{value_in, pairs_in}
use Rattle.otlp_json.specs.Trees.{record_table}
use Rattle.otlp_json.specs.Direct.{row_of}
use Rattle.otlp_json.proofs.Filling.{plain-fills, nested-fills, other-fills}
use Rattle.otlp_json.proofs.direct.trees.record_member.Goals as goal

pub returns-then-same-clause-fills : goal.returns-then-same-clause-fills
unfolding record_table
returns-then-same-clause-fills c =
    plain-fills record_table (row_of record_table) c.args.depth c.args.direct.now c.args.log.now c.args.key.now (codes "timeUnixNano") (sym c.same.ensures ∙ c.if-same.true) 0 refl
    (u64_in) (λ log x. record log { time = x }) (λ json n. refl) _ _ c.in_ok-log.ensures.stands

pub returns-then-same-2-clause-fills : goal.returns-then-same-2-clause-fills
unfolding record_table
returns-then-same-2-clause-fills c =
    plain-fills record_table (row_of record_table) c.args.depth c.args.direct.now c.args.log.now c.args.key.now (codes "observedTimeUnixNano") (sym c.same-2.ensures ∙ c.if-same-2.true) 1 refl
    (u64_in) (λ log x. record log { observed = x }) (λ json n. refl) _ _ c.in_ok-log-2.ensures.stands

pub returns-then-same-3-clause-fills : goal.returns-then-same-3-clause-fills
unfolding record_table
returns-then-same-3-clause-fills c =
    let n = c.in_ok-log-3.field-0 in
    let fits : SFits w32 n = search rules in
    let same : to_z w32 (of_z w32 n) ≡ n = to_z-of_z fits in
    rw same (plain-fills record_table (row_of record_table) c.args.depth c.args.direct.now c.args.log.now c.args.key.now (codes "severityNumber") (sym c.same-3.ensures ∙ c.if-same-3.true) 2 refl
    (i32_in) (λ log x. record log { severity = x }) (λ json n. refl) _ _ c.in_ok-log-3.ensures.stands)

pub returns-then-same-4-clause-fills : goal.returns-then-same-4-clause-fills
unfolding record_table
returns-then-same-4-clause-fills c =
    plain-fills record_table (row_of record_table) c.args.depth c.args.direct.now c.args.log.now c.args.key.now (codes "severityText") (sym c.same-4.ensures ∙ c.if-same-4.true) 3 refl
    (text_in) (λ log x. record log { severity_text = x }) (λ json n. refl) _ _ c.in_ok-log-4.ensures.stands

pub returns-then-same-5-clause-fills : goal.returns-then-same-5-clause-fills
unfolding record_table
returns-then-same-5-clause-fills c =
    nested-fills record_table (row_of record_table) c.args.depth c.args.direct.now c.args.log.now c.args.key.now (codes "body") (sym c.same-5.ensures ∙ c.if-same-5.true) 4 refl
    (value_in most_levels) (λ log x. record log { body = x }) (λ json n. refl) _ _ c.in_ok-log-5.ensures.stands

pub returns-then-same-6-clause-fills : goal.returns-then-same-6-clause-fills
unfolding record_table
returns-then-same-6-clause-fills c =
    nested-fills record_table (row_of record_table) c.args.depth c.args.direct.now c.args.log.now c.args.key.now (codes "attributes") (sym c.same-6.ensures ∙ c.if-same-6.true) 5 refl
    (pairs_in most_levels) (λ log x. record log { attributes = x }) (λ json n. refl) _ _ c.in_ok-log-6.ensures.stands

pub returns-then-same-7-clause-fills : goal.returns-then-same-7-clause-fills
unfolding record_table
returns-then-same-7-clause-fills c =
    plain-fills record_table (row_of record_table) c.args.depth c.args.direct.now c.args.log.now c.args.key.now (codes "droppedAttributesCount") (sym c.same-7.ensures ∙ c.if-same-7.true) 6 refl
    (u32_in) (λ log x. record log { dropped = x }) (λ json n. refl) _ _ c.in_ok-log-7.ensures.stands

pub returns-then-same-8-clause-fills : goal.returns-then-same-8-clause-fills
unfolding record_table
returns-then-same-8-clause-fills c =
    plain-fills record_table (row_of record_table) c.args.depth c.args.direct.now c.args.log.now c.args.key.now (codes "flags") (sym c.same-8.ensures ∙ c.if-same-8.true) 7 refl
    (u32_in) (λ log x. record log { flags = x }) (λ json n. refl) _ _ c.in_ok-log-8.ensures.stands

pub returns-then-same-9-clause-fills : goal.returns-then-same-9-clause-fills
unfolding record_table
returns-then-same-9-clause-fills c =
    plain-fills record_table (row_of record_table) c.args.depth c.args.direct.now c.args.log.now c.args.key.now (codes "traceId") (sym c.same-9.ensures ∙ c.if-same-9.true) 8 refl
    (id_in 16) (λ log x. record log { trace_id = x }) (λ json n. refl) _ _ c.in_ok-log-9.ensures.stands

pub returns-then-same-10-clause-fills : goal.returns-then-same-10-clause-fills
unfolding record_table
returns-then-same-10-clause-fills c =
    plain-fills record_table (row_of record_table) c.args.depth c.args.direct.now c.args.log.now c.args.key.now (codes "spanId") (sym c.same-10.ensures ∙ c.if-same-10.true) 9 refl
    (id_in 8) (λ log x. record log { span_id = x }) (λ json n. refl) _ _ c.in_ok-log-10.ensures.stands

pub returns-clause-fills : goal.returns-clause-fills
unfolding record_table
returns-clause-fills c =
    let none : row_of record_table c.args.key.now ≡ None = rw (sym c.same.ensures ∙ c.if-same.false, sym c.same-2.ensures ∙ c.if-same-2.false, sym c.same-3.ensures ∙ c.if-same-3.false, sym c.same-4.ensures ∙ c.if-same-4.false, sym c.same-5.ensures ∙ c.if-same-5.false, sym c.same-6.ensures ∙ c.if-same-6.false, sym c.same-7.ensures ∙ c.if-same-7.false, sym c.same-8.ensures ∙ c.if-same-8.false, sym c.same-9.ensures ∙ c.if-same-9.false, sym c.same-10.ensures ∙ c.if-same-10.false) refl in
    other-fills record_table c.args.depth c.args.direct.now c.pass.new.direct c.args.log.now c.args.key.now none c.in_ok-pass.ensures.passes
