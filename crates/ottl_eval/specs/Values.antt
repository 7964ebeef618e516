-- What an expression is worth on a stage.
use Rattle.std.specs.Prelude.{ℕ, Bool, true, false, cond, not, List, [], ◌∷◌, map, Result, Ok, Err}
use Rattle.ottl_eval.specs.Arithmetic.{arithmetic}
use Rattle.ottl_eval.specs.Comparing.{compared}
use Rattle.ottl_eval.specs.Converting.{converted}
use Rattle.ottl_eval.specs.Stages.{Stage, read_at}
use Rattle.ottl_parse.specs.declared.sign.Sign.{Sign}
use Rattle.ottl_plan.specs.declared.argument.ArgumentLiteral.{ArgumentLiteral}
use Rattle.ottl_plan.specs.declared.planned.Arguments.{Arguments}
use Rattle.ottl_plan.specs.declared.planned.Conversion.{Conversion}
use Rattle.ottl_plan.specs.declared.planned.PlannedCompare.{PlannedCompare}
use Rattle.ottl_plan.specs.declared.planned.PlannedExpr.{PlannedExpr}
use Rattle.ottl_plan.specs.declared.planned.PlannedExpr.TheFolds.{fold-PlannedExpr}
use Rattle.ottl_plan.specs.declared.planned.PlannedExpr.TheOpen.{PlannedExpr-F, Arguments-F, Conversion-F, PlannedCompare-F, PlannedPart-F, PlannedTerm-F}
use Rattle.ottl_plan.specs.declared.planned.PlannedPart.{PlannedPart}
use Rattle.ottl_plan.specs.declared.planned.PlannedTerm.{PlannedTerm}
use Rattle.pdata_tree.specs.Operations.{TreeOps}
use Rattle.pdata_tree.specs.declared.path.PathTo.{PathTo}
use Rattle.pdata_value.specs.Answers.{◌>>=◌}
use Rattle.pdata_value.specs.Pairs.{put_all}
use Rattle.pdata_value.specs.Wanted.{Layer, made, list_of, map_of}
use Rattle.pdata_value.specs.declared.error.EvalErr.{EvalErr}
use Rattle.pdata_value.specs.declared.error.EvalErr.TheVariants.{KindOf}
use Rattle.pdata_value.specs.declared.value.Value.{Value, out-Value}
use Rattle.pdata_value.specs.declared.value.Value.TheOpen.{Value-F}
use Rattle.pdata_value.specs.declared.value.Value.TheVariants as kind

-- what something is worth on a stage
abbrev pub Worth : Type 0 → Type 0
Worth T = Stage T → Result Value EvalErr

-- whether something holds on a stage
abbrev pub Test : Type 0 → Type 0
Test T = Stage T → Result Bool EvalErr

-- what the arguments of a call are worth, and what it spells
abbrev pub Given : Type 0 → Type 0
Given T = List (Worth T) × List ArgumentLiteral

-- a part of a map literal: its key, and what it is worth
abbrev pub Part : Type 0 → Type 0
Part T = List ℕ × Worth T

-- a term: its sign, and what it is worth
abbrev pub Term : Type 0 → Type 0
Term T = Sign × Worth T

-- the truth that a condition is worth, by kind; another kind is KindOf
abbrev pub truth_layer : Layer → Result Bool EvalErr
truth_layer (Value-F.Truth truth) = Ok truth
truth_layer _ = Err KindOf

-- the truth that a condition is worth
abbrev pub truth_in : Value → Result Bool EvalErr
truth_in v = truth_layer (out-Value v)

-- a truth as a value
abbrev pub truth_value : Bool → Result Value EvalErr
truth_value truth = Ok (kind.Truth truth)

-- the pairs of a map, each with its key
abbrev pub Entries : Type 0
Entries = List (List ℕ × Value)

-- the pairs of a map literal, put one after another behind those of a map
abbrev pub parts_put : Entries → Result Entries EvalErr → Result Entries EvalErr
parts_put front parts = parts >>= λ ps. Ok (put_all front ps)

module _ {T : Type 0} where
  -- the worths of a list, from left to right; the first error counts
  abbrev pub worths : List (Worth T) → Stage T → Result (List Value) EvalErr
  worths [] s = Ok []
  worths (e ∷ es) s = e s >>= λ v. worths es s >>= λ vs. Ok (v ∷ vs)

  -- the worths of the parts of a map literal, each with its key
  abbrev pub part_worths : List (Part T) → Stage T → Result Entries EvalErr
  part_worths [] s = Ok []
  part_worths (p ∷ ps) s = p.1 s >>= λ v. part_worths ps s >>= λ qs. Ok ((p.0, v) ∷ qs)

  -- a value so far, and the terms behind it, grouped to the left
  abbrev pub terms_onto : Value → List (Term T) → Stage T → Result Value EvalErr
  terms_onto so_far [] s = Ok so_far
  terms_onto so_far (t ∷ ts) s = t.1 s >>= λ v. arithmetic t.0 so_far v >>= λ w. terms_onto w ts s

  -- terms, one after another
  abbrev pub terms_worth : List (Term T) → Worth T
  terms_worth [] s = Err KindOf
  terms_worth (t ∷ ts) s = t.1 s >>= λ v. terms_onto v ts s

  -- whether all of these hold; the first that doesn't ends it
  abbrev pub all_hold : List (Worth T) → Test T
  all_hold [] s = Ok true
  all_hold (e ∷ es) s = e s >>= truth_in >>= λ truth. cond truth (all_hold es s) (Ok false)

  -- whether one of these holds; the first that does ends it
  abbrev pub any_holds : List (Worth T) → Test T
  any_holds [] s = Ok false
  any_holds (e ∷ es) s = e s >>= truth_in >>= λ truth. cond truth (Ok true) (any_holds es s)

  -- both sides are evaluated from left to right, and compared
  abbrev pub sides_compared : Sign → Worth T → Worth T → Test T
  sides_compared sign left right s = left s >>= λ v. right s >>= λ w. compared sign v w

module _ {T : Type 0} (ops : TreeOps T PathTo) where
  -- the layers of an expression, by what their parts are worth

  -- an expression
  abbrev pub expr_step :
      PlannedExpr-F (Worth T) (Given T) (Worth T) (Test T) (Part T) (Term T) → Worth T
  expr_step (PlannedExpr-F.Literal value) s = Ok value
  expr_step (PlannedExpr-F.List exprs) s = worths exprs s >>= λ vs. made (list_of vs)
  expr_step (PlannedExpr-F.Map parts) s =
      parts_put [] (part_worths parts s) >>= λ ps. made (map_of ps)
  expr_step (PlannedExpr-F.Convert conversion) s = conversion s
  expr_step (PlannedExpr-F.Path path) s = read_at ops path s
  expr_step (PlannedExpr-F.Sum terms) s = terms_worth terms s
  expr_step (PlannedExpr-F.Product terms) s = terms_worth terms s
  expr_step (PlannedExpr-F.Compare compare) s = compare s >>= truth_value
  expr_step (PlannedExpr-F.Not operand) s =
      operand s >>= truth_in >>= λ truth. truth_value (not truth)
  expr_step (PlannedExpr-F.And exprs) s = all_hold exprs s >>= truth_value
  expr_step (PlannedExpr-F.Or exprs) s = any_holds exprs s >>= truth_value

  -- the arguments of a call
  abbrev pub arguments_step :
      Arguments-F (Worth T) (Given T) (Worth T) (Test T) (Part T) (Term T) → Given T
  arguments_step arguments = (arguments.values, arguments.literals)

  -- a call of a converter
  abbrev pub conversion_step :
      Conversion-F (Worth T) (Given T) (Worth T) (Test T) (Part T) (Term T) → Worth T
  conversion_step conversion s =
      worths conversion.arguments.0 s
      >>= λ vs. converted conversion.converter vs conversion.arguments.1

  -- a comparison
  abbrev pub compare_step :
      PlannedCompare-F (Worth T) (Given T) (Worth T) (Test T) (Part T) (Term T) → Test T
  compare_step compare s = sides_compared compare.sign compare.left compare.right s

  -- a part of a map literal
  abbrev pub part_step :
      PlannedPart-F (Worth T) (Given T) (Worth T) (Test T) (Part T) (Term T) → Part T
  part_step part = (part.key, part.value)

  -- a term
  abbrev pub term_step :
      PlannedTerm-F (Worth T) (Given T) (Worth T) (Test T) (Part T) (Term T) → Term T
  term_step term = (term.sign, term.expr)

  -- what an expression is worth: a value or an error
  unfoldable pub value : PlannedExpr → Worth T
  value =
      fold-PlannedExpr (Worth T) (Given T) (Worth T) (Test T) (Part T) (Term T)
      expr_step arguments_step conversion_step compare_step part_step term_step

  -- What the definition comes to for lists of expressions.

  -- the values of expressions, from left to right
  abbrev pub values : List PlannedExpr → Stage T → Result (List Value) EvalErr
  values es s = worths (map value es) s

  -- the values of the parts of a map literal
  abbrev pub part_values : List PlannedPart → Stage T → Result Entries EvalErr
  part_values ps s = part_worths (map (λ p. (p.key, value p.value)) ps) s

  -- a term, as what its expression is worth behind its sign
  abbrev pub term_of : PlannedTerm → Term T
  term_of t = (t.sign, value t.expr)

  -- whether a condition holds
  abbrev pub holds : PlannedExpr → Test T
  holds e s = value e s >>= truth_in

  -- a comparison of two expressions
  abbrev pub comparison : PlannedCompare → Test T
  comparison c s = sides_compared c.sign (value c.left) (value c.right) s

  -- a call of a converter
  abbrev pub conversion_value : Conversion → Worth T
  conversion_value c s =
      values c.arguments.values s >>= λ vs. converted c.converter vs c.arguments.literals
