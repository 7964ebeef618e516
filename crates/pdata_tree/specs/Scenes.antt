-- What a scene's calls say of the nodes that they make.
use Rattle.std.specs.Prelude.{◌≡◌, ◌+◌, ◌≤◌, ℕ, Result, Ok, Err}
use Rattle.pdata_value.specs.declared.error.EvalStop.{EvalStop}
use Rattle.pdata_value.specs.declared.error.EvalStop.TheVariants as stop
use Rattle.pdata_tree.specs.declared.place.Context.{Context}
use Rattle.pdata_tree.specs.declared.place.Context.TheVariants.{Resource, Scope, Log}

-- how deep a level is: resources, then scopes, then log records
abbrev pub rank : Context → ℕ
rank Resource = 0
rank Scope = 1
rank Log = 2

-- The numbers of a scene: nodes that were made, places of its tree that are shared, and per level
-- the nodes that the next write there makes.
pub record Numbers : Type 0 where
  pub made : ℕ
  pub left : ℕ
  pub owed : Context → ℕ

-- a write at a level made what was owed there, and so much less is shared; then nothing is owed at
-- that level and above, and below it so much less
pub record Makes (level : Context) (old new : Numbers) : Type 0 where
  pub made : new.made ≡ old.made + old.owed level
  pub left : new.left + old.owed level ≡ old.left
  pub above : (other : Context) → rank other ≤ rank level → new.owed other ≡ 0
  pub below : (other : Context) → rank level ≤ rank other
      → new.owed other + old.owed level ≡ old.owed other

-- none of the numbers changed
pub record NumbersStay (old new : Numbers) : Type 0 where
  pub made : new.made ≡ old.made
  pub left : new.left ≡ old.left
  pub owed : (level : Context) → new.owed level ≡ old.owed level

-- what a write does to the numbers: want of memory may have made nodes, but shares no more
abbrev pub Counts : Context → Numbers → Numbers → Result Unit EvalStop → Type 0
Counts level old new (Ok done) = Makes level old new
Counts level old new (Err (stop.Err error)) = NumbersStay old new
Counts level old new (Err stop.NoMemory) = new.left ≤ old.left

-- a scene on a tree that shares nothing
abbrev pub nothing_shared : Numbers
nothing_shared = record { made = 0; left = 0; owed = λ level. 0 }
