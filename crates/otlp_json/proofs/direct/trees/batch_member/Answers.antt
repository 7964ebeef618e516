use Rattle.std.proofs.Common.{◌≡◌, ◌∙◌, codes, false, None, refl, sym}
use Rattle.otlp_json.specs.Trees.{resources_in, batch_table}
use Rattle.otlp_json.specs.Direct.{row_of}
use Rattle.otlp_json.proofs.Filling.{nested-fills, other-fills}
use Rattle.otlp_json.proofs.direct.trees.batch_member.Goals as goal

pub returns-then-same-clause-fills : goal.returns-then-same-clause-fills
unfolding batch_table
returns-then-same-clause-fills c =
    nested-fills batch_table (row_of batch_table) c.args.depth c.args.direct.now c.args.batch.now c.args.key.now (codes "resourceLogs") (sym c.same.ensures ∙ c.if-same.true) 0 refl
    (resources_in) (λ batch x. record batch { resources = x }) (λ json n. refl) _ _ c.in_ok-batch.ensures.stands

pub returns-clause-fills : goal.returns-clause-fills
unfolding batch_table
returns-clause-fills c =
    let none : row_of batch_table c.args.key.now ≡ None = rw (sym c.same.ensures ∙ c.if-same.false) refl in
    other-fills batch_table c.args.depth c.args.direct.now c.pass.new.direct c.args.batch.now c.args.key.now none c.in_ok-pass.ensures.passes
