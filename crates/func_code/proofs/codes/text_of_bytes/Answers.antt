use Rattle.std.proofs.Common.{◌≡◌, ◌∙◌, ℕ, Bool, true, false, cond, List, Result, refl, sym, ap, subst}
use Rattle.std.specs.Str.{IsUtf8, is_utf8}
use Rattle.std.specs.Prelude.{string_bytes}
use Rattle.std.proofs.lemmas.Str.{IsUtf8-string_bytes, IsUtf8-from_is_utf8, is_utf8-from_IsUtf8}
use Rattle.pdata_value.specs.declared.error.EvalErr.{EvalErr}
use Rattle.pdata_value.specs.declared.value.Value.{Value}
use Rattle.pdata_value.specs.declared.value.Value.TheVariants as kind
use Rattle.pdata_value.specs.Answers.{Answers}
use Rattle.pdata_value.specs.Wanted.{made}
use Rattle.func_code.proofs.codes.text_of_bytes.Goals as goal

picks : {A : Type 0} (t : Bool) (x y : A) → t ≡ true → cond t x y ≡ x
picks true x y h = refl
picks false x y h = absurd cc

refused : {A : Type 0} (t : Bool) (x y : A) → (t ≡ true → ⊥) → cond t x y ≡ y
refused true x y h = absurd (h refl)
refused false x y h = refl

pub returns-in-Ok : goal.returns-in-Ok
returns-in-Ok c =
    let same : string_bytes c.in-Ok.text ≡ c.args.bytes.items = ap (λ v. v.items) c.in-Ok.ensures.ok in
    let utf8 : is_utf8 c.args.bytes.items ≡ true =
    is_utf8-from_IsUtf8 c.args.bytes.items (subst IsUtf8 same (IsUtf8-string_bytes c.in-Ok.text)) in
    subst (λ (meant : Result Value EvalErr). Answers c.made.result meant)
    (ap (λ (text : List ℕ). made (kind.Text text)) (c.from_string.ensures ∙ same) ∙ sym (picks _ _ _ utf8)) c.made.ensures

pub returns : goal.returns
returns c = refused (is_utf8 c.args.bytes.items) _ _ (λ t. absurd (let ok = c.in-Err.ensures.succeeds (IsUtf8-from_is_utf8 c.args.bytes.items t) in cc))
