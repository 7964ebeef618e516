use Rattle.std.proofs.Common.{◌≡◌, ◌∙◌, ℕ, sym, ap}
use Rattle.std.specs.Prelude.{Option, is_some}
use Rattle.pdata_value.proofs.Positions.{has_key-position}
use Rattle.pdata_value.proofs.index.has_place.Goals as goal

pub returns : goal.returns
returns c =
    c.is_some.ensures ∙ ap (λ (o : Option ℕ). is_some o) c.place_of.ensures.place ∙ sym (has_key-position c.args.list.now c.args.key.now)
