-- An answer that a definition gives, want of memory aside.
use Rattle.std.specs.Prelude.{◌≡◌, Option, IfSome, Result, Ok, Err}

-- What was returned, seen by `view`, is what is meant. `fault` tells which fault an error is; it is
-- None for want of memory, which is free.
abbrev pub Gives : {X Y E F : Type 0} → (X → Y) → (E → Option F) → Result X E → Result Y F → Type 0
Gives view fault (Ok x) meant = meant ≡ Ok (view x)
Gives view fault (Err e) meant = IfSome (fault e) (λ f. meant ≡ Err f)
