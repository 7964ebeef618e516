use Rattle.std.proofs.Common.{◌≡◌, ◌++◌, [], drop, map, Ok}
use Rattle.ottl_eval.specs.Stages.{stage}
use Rattle.ottl_eval.specs.Values.{all_hold, any_holds, part_values, parts_put, term_of, terms_onto, terms_worth, value, values}
use Rattle.pdata_tree.specs.Operations.{log_trees}
use Rattle.pdata_value.specs.Answers.{◌>>=◌}
use Rattle.pdata_value.specs.Value.{pairs}
use Rattle.ottl_eval.proofs.values.+eval.Given as goal

-- the values so far, and those of the expressions left behind them, are those of all
abbrev pub invariant-eval_each-loop-expr : goal.invariant-eval_each-loop-expr
invariant-eval_each-loop-expr g l =
    let s = stage (g.S.Scene.tree l.scene) (g.S.Scene.kind l.scene) (g.S.Scene.place l.scene) l.cache in
    (values log_trees (drop l.expr-index l.exprs) s >>= λ vs. Ok (l.values ++ vs)) ≡ values log_trees l.exprs s

-- the pairs so far, with those of the parts left put behind them, are those of all parts
abbrev pub invariant-eval_parts-loop-part : goal.invariant-eval_parts-loop-part
invariant-eval_parts-loop-part g l =
    let s = stage (g.S.Scene.tree l.scene) (g.S.Scene.kind l.scene) (g.S.Scene.place l.scene) l.cache in
    parts_put (pairs l.map) (part_values log_trees (drop l.part-index l.parts) s) ≡ parts_put [] (part_values log_trees l.parts s)

-- the value so far, with the terms left, is that of all
abbrev pub invariant-eval_terms-loop-term : goal.invariant-eval_terms-loop-term
invariant-eval_terms-loop-term g l =
    let s = stage (g.S.Scene.tree l.scene) (g.S.Scene.kind l.scene) (g.S.Scene.place l.scene) l.cache in
    terms_onto l.so_far (map (term_of log_trees) (drop l.term-index l.rest)) s
    ≡ terms_worth (map (term_of log_trees) l.terms) s

-- the conditions left decide as all do
abbrev pub invariant-eval_all-loop-expr : goal.invariant-eval_all-loop-expr
invariant-eval_all-loop-expr g l =
    let s = stage (g.S.Scene.tree l.scene) (g.S.Scene.kind l.scene) (g.S.Scene.place l.scene) l.cache in
    all_hold (map (value log_trees) (drop l.expr-index l.exprs)) s ≡ all_hold (map (value log_trees) l.exprs) s

abbrev pub invariant-eval_any-loop-expr : goal.invariant-eval_any-loop-expr
invariant-eval_any-loop-expr g l =
    let s = stage (g.S.Scene.tree l.scene) (g.S.Scene.kind l.scene) (g.S.Scene.place l.scene) l.cache in
    any_holds (map (value log_trees) (drop l.expr-index l.exprs)) s ≡ any_holds (map (value log_trees) l.exprs) s
