-- What a call adds to the legs found so far.
use Rattle.std.specs.Prelude.{◌≡◌, ◌+◌, ◌<◌, ◌≤◌, List, ◌++◌, length, Result, Ok, Err, ⊤}
use Rattle.graph_build.specs.declared.leg.Leg.{Leg}
use Rattle.graph_build.specs.declared.legs.LegStop.{LegStop}
use Rattle.graph_build.specs.declared.legs.LegStop.TheVariants.{TooMany, NoMemory}
use Rattle.graph_build.specs.Legs.{max_legs}

-- those legs were added and there are no more than there may be, or there would be too many; want
-- of memory is free
abbrev pub Grows : List Leg → List Leg → Result ⊤ LegStop → List Leg → Type 0
Grows old new (Ok _) more = (new ≡ old ++ more) × (length old ≤ max_legs → length new ≤ max_legs)
Grows old new (Err TooMany) more = max_legs < length old + length more
Grows old new (Err NoMemory) more = ⊤
