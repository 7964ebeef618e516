-- What stands between two places.
use Rattle.std.specs.Prelude.{◌≡◌, ℕ, ◌+◌, List, ◌++◌, length}
use Rattle.contract_words.specs.Grammar.{Rule, spells}
use Rattle.json_text.specs.Place.{Rest}

-- the rule spells the bytes between two places
pub record Spelled (rule : Rule) (from to : Rest) : Type 0 where
  pub word : List ℕ
  pub whole : from.left ≡ word ++ to.left
  pub place : to.at ≡ from.at + length word
  pub spelled : spells rule word
