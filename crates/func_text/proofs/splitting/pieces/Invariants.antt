use denote.Shadow.{shadow}
use denote.Text.{Utf8}
use Rattle.std.proofs.Common.{◌≡◌, ◌++◌, ℕ, List, length, map}
use Rattle.pdata_value.specs.Value.{items}
use Rattle.pdata_value.specs.declared.value.Value.TheVariants as kind
use Rattle.func_text.specs.Texts.{pieces}
use Rattle.func_text.proofs.splitting.pieces.Given as goal

-- the pieces so far and those of the rest are all pieces
abbrev pub invariant-loop-piece : goal.invariant-loop-piece
invariant-loop-piece l = record {
  text : shadow (Utf8 l.rest);
  all :
      items l.list ++ map (λ (piece : List ℕ). kind.Text piece) (pieces l.separator l.rest)
      ≡ map (λ (piece : List ℕ). kind.Text piece) (pieces l.fn.separator l.fn.text);
}

abbrev pub decreases-loop-piece : goal.decreases-loop-piece
decreases-loop-piece l = length l.rest
