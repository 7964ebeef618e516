-- The equations of `value`, one for each variant.
use Rattle.std.proofs.Common.{◌≡◌, ◌∙◌, ℕ, Bool, List, [], ◌∷◌, map, Result, Ok, Err, refl, sym, ap}
use Rattle.std.specs.Prelude.{not}
use Rattle.ottl_eval.specs.Stages.{Stage, read_at}
use Rattle.ottl_eval.specs.Values.{Worth, Given, Test, Part, Term, worths, terms_worth, all_hold, any_holds, truth_value, parts_put, expr_step, arguments_step, conversion_step, compare_step, part_step, term_step, value, values, part_values, term_of, holds, comparison, conversion_value}
use Rattle.ottl_eval.specs.Converting.{converted}
use Rattle.ottl_parse.specs.declared.sign.Sign.{Sign}
use Rattle.ottl_plan.specs.declared.argument.ArgumentLiteral.{ArgumentLiteral}
use Rattle.ottl_plan.specs.declared.planned.Arguments.{Arguments, out-Arguments}
use Rattle.ottl_plan.specs.declared.planned.Conversion.{Conversion, out-Conversion}
use Rattle.ottl_plan.specs.declared.planned.PlannedCompare.{PlannedCompare, out-PlannedCompare}
use Rattle.ottl_plan.specs.declared.planned.PlannedExpr.{PlannedExpr, roll-PlannedExpr}
use Rattle.ottl_plan.specs.declared.planned.PlannedExpr.TheFolds.{map-PlannedExpr, fold-PlannedExpr, fold-Arguments, fold-Conversion, fold-PlannedCompare, fold-PlannedPart, fold-PlannedTerm, fold-roll-PlannedExpr, fold_out-Arguments, fold_out-Conversion, fold_out-PlannedCompare, fold_out-PlannedPart, fold_out-PlannedTerm}
use Rattle.ottl_plan.specs.declared.planned.PlannedExpr.TheOpen.{PlannedExpr-F}
use Rattle.ottl_plan.specs.declared.planned.PlannedExpr.TheVariants as variants
use Rattle.ottl_plan.specs.declared.planned.PlannedPart.{PlannedPart}
use Rattle.ottl_plan.specs.declared.planned.PlannedTerm.{PlannedTerm}
use Rattle.pdata_tree.specs.Operations.{TreeOps}
use Rattle.pdata_tree.specs.declared.path.PathTo.{PathTo}
use Rattle.pdata_value.specs.Answers.{◌>>=◌}
use Rattle.pdata_value.specs.Wanted.{made, list_of, map_of}
use Rattle.pdata_value.specs.declared.error.EvalErr.{EvalErr}
use Rattle.pdata_value.specs.declared.value.Value.{Value}

module _ {T : Type 0} (ops : TreeOps T PathTo) where
  -- what the parts of a layer are worth

  part-is : (p : PlannedPart) → fold-PlannedPart (Worth T) (Given T) (Worth T) (Test T) (Part T) (Term T) (expr_step ops) (arguments_step ops) (conversion_step ops) (compare_step ops) (part_step ops) (term_step ops) p ≡ (p.key, value ops p.value)
  unfolding value
  part-is p = fold_out-PlannedPart (Worth T) (Given T) (Worth T) (Test T) (Part T) (Term T) (expr_step ops) (arguments_step ops) (conversion_step ops) (compare_step ops) (part_step ops) (term_step ops) p

  same-parts : (ps : List PlannedPart) → map (fold-PlannedPart (Worth T) (Given T) (Worth T) (Test T) (Part T) (Term T) (expr_step ops) (arguments_step ops) (conversion_step ops) (compare_step ops) (part_step ops) (term_step ops)) ps ≡ map (λ (p : PlannedPart). (p.key, value ops p.value)) ps
  same-parts [] = refl
  same-parts (p ∷ ps) = rw (part-is p, same-parts ps) refl

  term-is : (t : PlannedTerm) → fold-PlannedTerm (Worth T) (Given T) (Worth T) (Test T) (Part T) (Term T) (expr_step ops) (arguments_step ops) (conversion_step ops) (compare_step ops) (part_step ops) (term_step ops) t ≡ term_of ops t
  unfolding value
  term-is t = fold_out-PlannedTerm (Worth T) (Given T) (Worth T) (Test T) (Part T) (Term T) (expr_step ops) (arguments_step ops) (conversion_step ops) (compare_step ops) (part_step ops) (term_step ops) t

  same-terms : (ts : List PlannedTerm) → map (fold-PlannedTerm (Worth T) (Given T) (Worth T) (Test T) (Part T) (Term T) (expr_step ops) (arguments_step ops) (conversion_step ops) (compare_step ops) (part_step ops) (term_step ops)) ts ≡ map (term_of ops) ts
  same-terms [] = refl
  same-terms (t ∷ ts) = rw (term-is t, same-terms ts) refl

  arguments-is : (a : Arguments) → fold-Arguments (Worth T) (Given T) (Worth T) (Test T) (Part T) (Term T) (expr_step ops) (arguments_step ops) (conversion_step ops) (compare_step ops) (part_step ops) (term_step ops) a ≡ (map (value ops) a.values, a.literals)
  unfolding value
  arguments-is a = fold_out-Arguments (Worth T) (Given T) (Worth T) (Test T) (Part T) (Term T) (expr_step ops) (arguments_step ops) (conversion_step ops) (compare_step ops) (part_step ops) (term_step ops) a

  conversion-is : (c : Conversion) (s : Stage T) → fold-Conversion (Worth T) (Given T) (Worth T) (Test T) (Part T) (Term T) (expr_step ops) (arguments_step ops) (conversion_step ops) (compare_step ops) (part_step ops) (term_step ops) c s ≡ conversion_value ops c s
  conversion-is c s =
      ap (λ (f : Worth T). f s) (fold_out-Conversion (Worth T) (Given T) (Worth T) (Test T) (Part T) (Term T) (expr_step ops) (arguments_step ops) (conversion_step ops) (compare_step ops) (part_step ops) (term_step ops) c)
      ∙ ap (λ (g : Given T). worths g.0 s >>= λ vs. converted c.converter vs g.1) (arguments-is c.arguments)

  compare-is : (c : PlannedCompare) (s : Stage T) → fold-PlannedCompare (Worth T) (Given T) (Worth T) (Test T) (Part T) (Term T) (expr_step ops) (arguments_step ops) (conversion_step ops) (compare_step ops) (part_step ops) (term_step ops) c s ≡ comparison ops c s
  unfolding value
  compare-is c s = ap (λ (f : Test T). f s) (fold_out-PlannedCompare (Worth T) (Given T) (Worth T) (Test T) (Part T) (Term T) (expr_step ops) (arguments_step ops) (conversion_step ops) (compare_step ops) (part_step ops) (term_step ops) c)

  -- what an expression with this layer is worth
  layer-is : (layer : PlannedExpr-F PlannedExpr Arguments Conversion PlannedCompare PlannedPart PlannedTerm) (s : Stage T)
      → value ops (roll-PlannedExpr layer) s ≡ expr_step ops (map-PlannedExpr PlannedExpr Arguments Conversion PlannedCompare PlannedPart PlannedTerm (Worth T) (Given T) (Worth T) (Test T) (Part T) (Term T) (fold-PlannedExpr (Worth T) (Given T) (Worth T) (Test T) (Part T) (Term T) (expr_step ops) (arguments_step ops) (conversion_step ops) (compare_step ops) (part_step ops) (term_step ops)) (fold-Arguments (Worth T) (Given T) (Worth T) (Test T) (Part T) (Term T) (expr_step ops) (arguments_step ops) (conversion_step ops) (compare_step ops) (part_step ops) (term_step ops)) (fold-Conversion (Worth T) (Given T) (Worth T) (Test T) (Part T) (Term T) (expr_step ops) (arguments_step ops) (conversion_step ops) (compare_step ops) (part_step ops) (term_step ops)) (fold-PlannedCompare (Worth T) (Given T) (Worth T) (Test T) (Part T) (Term T) (expr_step ops) (arguments_step ops) (conversion_step ops) (compare_step ops) (part_step ops) (term_step ops)) (fold-PlannedPart (Worth T) (Given T) (Worth T) (Test T) (Part T) (Term T) (expr_step ops) (arguments_step ops) (conversion_step ops) (compare_step ops) (part_step ops) (term_step ops)) (fold-PlannedTerm (Worth T) (Given T) (Worth T) (Test T) (Part T) (Term T) (expr_step ops) (arguments_step ops) (conversion_step ops) (compare_step ops) (part_step ops) (term_step ops)) layer) s
  unfolding value
  layer-is layer s = ap (λ (f : Worth T). f s) (fold-roll-PlannedExpr (Worth T) (Given T) (Worth T) (Test T) (Part T) (Term T) (expr_step ops) (arguments_step ops) (conversion_step ops) (compare_step ops) (part_step ops) (term_step ops) layer)

  -- The equations.

  pub worth-Literal : (v : Value) (s : Stage T) → value ops (variants.Literal v) s ≡ Ok v
  worth-Literal v s = ap (λ (e : PlannedExpr). value ops e s) (sym (variants.rolls-Literal v)) ∙ layer-is (PlannedExpr-F.Literal v) s

  pub worth-List : (es : List PlannedExpr) (s : Stage T) → value ops (variants.List es) s ≡ (values ops es s >>= λ vs. made (list_of vs))
  unfolding value
  worth-List es s = ap (λ (e : PlannedExpr). value ops e s) (sym (variants.rolls-List es)) ∙ layer-is (PlannedExpr-F.List es) s

  pub worth-Map : (ps : List PlannedPart) (s : Stage T) → value ops (variants.Map ps) s ≡ (parts_put [] (part_values ops ps s) >>= λ qs. made (map_of qs))
  worth-Map ps s =
      ap (λ (e : PlannedExpr). value ops e s) (sym (variants.rolls-Map ps)) ∙ layer-is (PlannedExpr-F.Map ps) s
      ∙ ap (λ (qs : List (Part T)). expr_step ops (PlannedExpr-F.Map qs) s) (same-parts ps)

  pub worth-Convert : (c : Conversion) (s : Stage T) → value ops (variants.Convert c) s ≡ conversion_value ops c s
  worth-Convert c s = ap (λ (e : PlannedExpr). value ops e s) (sym (variants.rolls-Convert c)) ∙ layer-is (PlannedExpr-F.Convert c) s ∙ conversion-is c s

  pub worth-Path : (p : PathTo) (s : Stage T) → value ops (variants.Path p) s ≡ read_at ops p s
  worth-Path p s = ap (λ (e : PlannedExpr). value ops e s) (sym (variants.rolls-Path p)) ∙ layer-is (PlannedExpr-F.Path p) s

  pub worth-Sum : (ts : List PlannedTerm) (s : Stage T) → value ops (variants.Sum ts) s ≡ terms_worth (map (term_of ops) ts) s
  worth-Sum ts s =
      ap (λ (e : PlannedExpr). value ops e s) (sym (variants.rolls-Sum ts)) ∙ layer-is (PlannedExpr-F.Sum ts) s
      ∙ ap (λ (us : List (Term T)). terms_worth us s) (same-terms ts)

  pub worth-Product : (ts : List PlannedTerm) (s : Stage T) → value ops (variants.Product ts) s ≡ terms_worth (map (term_of ops) ts) s
  worth-Product ts s =
      ap (λ (e : PlannedExpr). value ops e s) (sym (variants.rolls-Product ts)) ∙ layer-is (PlannedExpr-F.Product ts) s
      ∙ ap (λ (us : List (Term T)). terms_worth us s) (same-terms ts)

  pub worth-Compare : (c : PlannedCompare) (s : Stage T) → value ops (variants.Compare c) s ≡ (comparison ops c s >>= truth_value)
  worth-Compare c s =
      ap (λ (e : PlannedExpr). value ops e s) (sym (variants.rolls-Compare c)) ∙ layer-is (PlannedExpr-F.Compare c) s
      ∙ ap (λ (r : Result Bool EvalErr). r >>= truth_value) (compare-is c s)

  pub worth-Not : (operand : PlannedExpr) (s : Stage T) → value ops (variants.Not operand) s ≡ (holds ops operand s >>= λ truth. truth_value (not truth))
  unfolding value
  worth-Not operand s = ap (λ (e : PlannedExpr). value ops e s) (sym (variants.rolls-Not operand)) ∙ layer-is (PlannedExpr-F.Not operand) s

  pub worth-And : (es : List PlannedExpr) (s : Stage T) → value ops (variants.And es) s ≡ (all_hold (map (value ops) es) s >>= truth_value)
  unfolding value
  worth-And es s = ap (λ (e : PlannedExpr). value ops e s) (sym (variants.rolls-And es)) ∙ layer-is (PlannedExpr-F.And es) s

  pub worth-Or : (es : List PlannedExpr) (s : Stage T) → value ops (variants.Or es) s ≡ (any_holds (map (value ops) es) s >>= truth_value)
  unfolding value
  worth-Or es s = ap (λ (e : PlannedExpr). value ops e s) (sym (variants.rolls-Or es)) ∙ layer-is (PlannedExpr-F.Or es) s

pub ruleset literals = (worth-Literal)

pub ruleset worths_of = (worth-Literal, worth-List, worth-Map, worth-Convert, worth-Path, worth-Sum, worth-Product, worth-Compare, worth-Not, worth-And, worth-Or)
