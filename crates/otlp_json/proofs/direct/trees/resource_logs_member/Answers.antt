use Rattle.std.proofs.Common.{◌≡◌, ◌∙◌, codes, false, None, refl, sym}
use Rattle.otlp_json.specs.Fields.{text_in}
use Rattle.otlp_json.specs.Trees.{resource_in, scopes_in, with_resource, with_resource_schema, resource_logs_table}
use Rattle.otlp_json.specs.Direct.{row_of}
use Rattle.otlp_json.proofs.Filling.{plain-fills, nested-fills, other-fills}
use Rattle.otlp_json.proofs.direct.trees.resource_logs_member.Goals as goal

pub returns-then-same-clause-fills : goal.returns-then-same-clause-fills
unfolding resource_logs_table
returns-then-same-clause-fills c =
    rw c.put_resource.ensures (nested-fills resource_logs_table (row_of resource_logs_table) c.args.depth c.args.direct.now c.args.element.now c.args.key.now (codes "resource") (sym c.same.ensures ∙ c.if-same.true) 0 refl
    (resource_in) (with_resource) (λ json n. refl) _ _ c.in_ok-resource.ensures.stands)

pub returns-then-same-2-clause-fills : goal.returns-then-same-2-clause-fills
unfolding resource_logs_table
returns-then-same-2-clause-fills c =
    nested-fills resource_logs_table (row_of resource_logs_table) c.args.depth c.args.direct.now c.args.element.now c.args.key.now (codes "scopeLogs") (sym c.same-2.ensures ∙ c.if-same-2.true) 1 refl
    (scopes_in) (λ element x. record element { scopes = x }) (λ json n. refl) _ _ c.in_ok-element.ensures.stands

pub returns-then-same-3-clause-fills : goal.returns-then-same-3-clause-fills
unfolding resource_logs_table
returns-then-same-3-clause-fills c =
    plain-fills resource_logs_table (row_of resource_logs_table) c.args.depth c.args.direct.now c.args.element.now c.args.key.now (codes "schemaUrl") (sym c.same-3.ensures ∙ c.if-same-3.true) 2 refl
    (text_in) (with_resource_schema) (λ json n. refl) _ _ c.in_ok-element-2.ensures.stands

pub returns-clause-fills : goal.returns-clause-fills
unfolding resource_logs_table
returns-clause-fills c =
    let none : row_of resource_logs_table c.args.key.now ≡ None = rw (sym c.same.ensures ∙ c.if-same.false, sym c.same-2.ensures ∙ c.if-same-2.false, sym c.same-3.ensures ∙ c.if-same-3.false) refl in
    other-fills resource_logs_table c.args.depth c.args.direct.now c.pass.new.direct c.args.element.now c.args.key.now none c.in_ok-pass.ensures.passes
