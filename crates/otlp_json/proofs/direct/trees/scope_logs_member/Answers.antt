use Rattle.std.proofs.Common.{◌≡◌, ◌∙◌, codes, false, None, refl, sym}
use Rattle.otlp_json.specs.Fields.{text_in}
use Rattle.otlp_json.specs.Trees.{scope_in, records_in, with_scope, with_scope_schema, scope_logs_table}
use Rattle.otlp_json.specs.Direct.{row_of}
use Rattle.otlp_json.proofs.Filling.{plain-fills, nested-fills, other-fills}
use Rattle.otlp_json.proofs.direct.trees.scope_logs_member.Goals as goal

pub returns-then-same-clause-fills : goal.returns-then-same-clause-fills
unfolding scope_logs_table
returns-then-same-clause-fills c =
    rw c.put_scope.ensures (nested-fills scope_logs_table (row_of scope_logs_table) c.args.depth c.args.direct.now c.args.element.now c.args.key.now (codes "scope") (sym c.same.ensures ∙ c.if-same.true) 0 refl
    (scope_in) (with_scope) (λ json n. refl) _ _ c.in_ok-scope.ensures.stands)

pub returns-then-same-2-clause-fills : goal.returns-then-same-2-clause-fills
unfolding scope_logs_table
returns-then-same-2-clause-fills c =
    nested-fills scope_logs_table (row_of scope_logs_table) c.args.depth c.args.direct.now c.args.element.now c.args.key.now (codes "logRecords") (sym c.same-2.ensures ∙ c.if-same-2.true) 1 refl
    (records_in) (λ element x. record element { logs = x }) (λ json n. refl) _ _ c.in_ok-element.ensures.stands

pub returns-then-same-3-clause-fills : goal.returns-then-same-3-clause-fills
unfolding scope_logs_table
returns-then-same-3-clause-fills c =
    plain-fills scope_logs_table (row_of scope_logs_table) c.args.depth c.args.direct.now c.args.element.now c.args.key.now (codes "schemaUrl") (sym c.same-3.ensures ∙ c.if-same-3.true) 2 refl
    (text_in) (with_scope_schema) (λ json n. refl) _ _ c.in_ok-element-2.ensures.stands

pub returns-clause-fills : goal.returns-clause-fills
unfolding scope_logs_table
returns-clause-fills c =
    let none : row_of scope_logs_table c.args.key.now ≡ None = rw (sym c.same.ensures ∙ c.if-same.false, sym c.same-2.ensures ∙ c.if-same-2.false, sym c.same-3.ensures ∙ c.if-same-3.false) refl in
    other-fills scope_logs_table c.args.depth c.args.direct.now c.pass.new.direct c.args.element.now c.args.key.now none c.in_ok-pass.ensures.passes
