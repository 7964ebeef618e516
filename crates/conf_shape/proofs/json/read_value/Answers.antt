use Rattle.std.proofs.Common.{◌≡◌, ℕ, Bool, true, false, List, Option, None, Err, refl, sym, ap, subst, ◌∙◌}
use Rattle.std.specs.Str.{IsUtf8, is_utf8}
use Rattle.std.proofs.lemmas.Str.{IsUtf8-from_is_utf8, is_utf8-from_IsUtf8}
use Rattle.serde_json.specs.Read.{read}
use Rattle.serde_json.specs.Data.{Data}
use Rattle.serde_json.specs.View.{view}
use Rattle.contract_words.specs.Gives.{Gives}
use Rattle.conf_shape.specs.declared.kind.FaultKind.TheVariants.{BadJson}
use Rattle.conf_shape.specs.declared.fault.PointedStop.{PointedStop}
use Rattle.conf_shape.specs.declared.fault.PointedStop.TheVariants.{Fault, NoMemory}
use Rattle.conf_shape.specs.Fault.{fault, fault_in, Tells}
use Rattle.conf_shape.specs.Path.{pointer_of}
use Rattle.conf_shape.specs.declared.path.Path.TheVariants.{Top}
use Rattle.conf_shape.proofs.Paths.{pointer_of-Top}
use Rattle.conf_shape.specs.Shaped.{json_of, valued}
use Rattle.conf_shape.proofs.json.read_value.Goals as goal

json_of-text : (bytes : List ℕ) → IsUtf8 bytes → json_of bytes ≡ read bytes
json_of-text bytes h = rw (is_utf8-from_IsUtf8 bytes h) refl

is_utf8-false : (bytes : List ℕ) (b : Bool) → is_utf8 bytes ≡ b → (IsUtf8 bytes → ⊥) → b ≡ false
is_utf8-false bytes true e h = absurd (h (IsUtf8-from_is_utf8 bytes e))
is_utf8-false bytes false e h = refl

json_of-other : (bytes : List ℕ) → (IsUtf8 bytes → ⊥) → json_of bytes ≡ None
json_of-other bytes h = rw (is_utf8-false bytes _ refl h) refl

Gives-told : (stop : PointedStop) (found : Option Data) → Tells stop (fault BadJson (pointer_of Top))
    → found ≡ None → Gives view fault_in (Err stop) (valued found)
Gives-told (Fault f) found is none = rw none (ap Err (sym (is ∙ ap (fault BadJson) pointer_of-Top)))
Gives-told NoMemory found is none = tt

pub returns-in_default : goal.returns-in_default
returns-in_default c = Gives-told _ _ c.told.ensures (json_of-other c.args.bytes.now c.in_default.ensures.cases.0)

pub returns : goal.returns
returns c =
    subst (λ found. Gives view fault_in c.read_text.result (valued found))
    (ap read c.in-Ok.ensures.cases.0 ∙ sym (json_of-text c.args.bytes.now c.in-Ok.ensures.cases.1)) c.read_text.ensures
