use Rattle.std.proofs.Common.{◌≡◌, Option, Some, None, is_some, option_map, refl, sym, ap, ◌∙◌}
use Rattle.serde_json.specs.View.{view}
use Rattle.serde_json.proofs.Views.{view-lookup}
use Rattle.conf_shape.proofs.shape.has_member.Goals as goal

is_some-option_map : {A B : Type 0} (f : A → B) (o : Option A) → is_some (option_map f o) ≡ is_some o
is_some-option_map f None = refl
is_some-option_map f (Some x) = refl

pub returns : goal.returns
returns c =
    c.contains_key.ensures ∙ sym (is_some-option_map view _) ∙ ap is_some (view-lookup c.args.name.now c.args.members.now.entries)
