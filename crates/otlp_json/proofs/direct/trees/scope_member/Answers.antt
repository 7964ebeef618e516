use Rattle.std.proofs.Common.{◌≡◌, ◌∙◌, codes, false, None, refl, sym}
use Rattle.otlp_json.specs.Fields.{text_in, u64_in, u32_in, i32_in, id_in}
use Rattle.otlp_json.specs.Limits.{most_levels}
use Rattle.otlp_json.specs.Values.{value_in, pairs_in}
use Rattle.otlp_json.specs.Trees.{scope_table}
use Rattle.otlp_json.specs.Direct.{row_of}
use Rattle.otlp_json.proofs.Filling.{plain-fills, nested-fills, other-fills}
use Rattle.otlp_json.proofs.direct.trees.scope_member.Goals as goal

pub returns-then-same-clause-fills : goal.returns-then-same-clause-fills
unfolding scope_table
returns-then-same-clause-fills c =
    plain-fills scope_table (row_of scope_table) c.args.depth c.args.direct.now c.args.scope.now c.args.key.now (codes "name") (sym c.same.ensures ∙ c.if-same.true) 0 refl
    (text_in) (λ scope x. record scope { name = x }) (λ json n. refl) _ _ c.in_ok-scope.ensures.stands

pub returns-then-same-2-clause-fills : goal.returns-then-same-2-clause-fills
unfolding scope_table
returns-then-same-2-clause-fills c =
    plain-fills scope_table (row_of scope_table) c.args.depth c.args.direct.now c.args.scope.now c.args.key.now (codes "version") (sym c.same-2.ensures ∙ c.if-same-2.true) 1 refl
    (text_in) (λ scope x. record scope { version = x }) (λ json n. refl) _ _ c.in_ok-scope-2.ensures.stands

pub returns-then-same-3-clause-fills : goal.returns-then-same-3-clause-fills
unfolding scope_table
returns-then-same-3-clause-fills c =
    nested-fills scope_table (row_of scope_table) c.args.depth c.args.direct.now c.args.scope.now c.args.key.now (codes "attributes") (sym c.same-3.ensures ∙ c.if-same-3.true) 2 refl
    (pairs_in most_levels) (λ scope x. record scope { attributes = x }) (λ json n. refl) _ _ c.in_ok-scope-3.ensures.stands

pub returns-then-same-4-clause-fills : goal.returns-then-same-4-clause-fills
unfolding scope_table
returns-then-same-4-clause-fills c =
    plain-fills scope_table (row_of scope_table) c.args.depth c.args.direct.now c.args.scope.now c.args.key.now (codes "droppedAttributesCount") (sym c.same-4.ensures ∙ c.if-same-4.true) 3 refl
    (u32_in) (λ scope x. record scope { dropped = x }) (λ json n. refl) _ _ c.in_ok-scope-4.ensures.stands

pub returns-clause-fills : goal.returns-clause-fills
unfolding scope_table
returns-clause-fills c =
    let none : row_of scope_table c.args.key.now ≡ None = rw (sym c.same.ensures ∙ c.if-same.false, sym c.same-2.ensures ∙ c.if-same-2.false, sym c.same-3.ensures ∙ c.if-same-3.false, sym c.same-4.ensures ∙ c.if-same-4.false) refl in
    other-fills scope_table c.args.depth c.args.direct.now c.pass.new.direct c.args.scope.now c.args.key.now none c.in_ok-pass.ensures.passes
