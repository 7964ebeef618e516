-- Lists of roots.
use Rattle.std.specs.Prelude.{ℕ, List}

-- The roots of a list, and how many more it has room for.
pub record RootList : Type 0 where
  pub roots : List ℕ
  pub room : ℕ
