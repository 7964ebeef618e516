use Rattle.std.proofs.Common.{◌≡◌, ◌∙◌, codes, false, None, refl, sym}
use Rattle.otlp_json.specs.Fields.{text_in, u64_in, u32_in, i32_in, id_in}
use Rattle.otlp_json.specs.Limits.{most_levels}
use Rattle.otlp_json.specs.Values.{value_in, pairs_in}
use Rattle.otlp_json.specs.Trees.{resource_table}
use Rattle.otlp_json.specs.Direct.{row_of}
use Rattle.otlp_json.proofs.Filling.{plain-fills, nested-fills, other-fills}
use Rattle.otlp_json.proofs.direct.trees.resource_member.Goals as goal

pub returns-then-same-clause-fills : goal.returns-then-same-clause-fills
unfolding resource_table
returns-then-same-clause-fills c =
    nested-fills resource_table (row_of resource_table) c.args.depth c.args.direct.now c.args.resource.now c.args.key.now (codes "attributes") (sym c.same.ensures ∙ c.if-same.true) 0 refl
    (pairs_in most_levels) (λ resource x. record resource { attributes = x }) (λ json n. refl) _ _ c.in_ok-resource.ensures.stands

pub returns-then-same-2-clause-fills : goal.returns-then-same-2-clause-fills
unfolding resource_table
returns-then-same-2-clause-fills c =
    plain-fills resource_table (row_of resource_table) c.args.depth c.args.direct.now c.args.resource.now c.args.key.now (codes "droppedAttributesCount") (sym c.same-2.ensures ∙ c.if-same-2.true) 1 refl
    (u32_in) (λ resource x. record resource { dropped = x }) (λ json n. refl) _ _ c.in_ok-resource-2.ensures.stands

pub returns-clause-fills : goal.returns-clause-fills
unfolding resource_table
returns-clause-fills c =
    let none : row_of resource_table c.args.key.now ≡ None = rw (sym c.same.ensures ∙ c.if-same.false, sym c.same-2.ensures ∙ c.if-same-2.false) refl in
    other-fills resource_table c.args.depth c.args.direct.now c.pass.new.direct c.args.resource.now c.args.key.now none c.in_ok-pass.ensures.passes
