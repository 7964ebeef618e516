-- A stop of a part is one of the whole.
use Rattle.std.proofs.Common.{◌≡◌, ◌∙◌, ap, sym, Result}
use Rattle.conf_json.specs.declared.account.Note.{Note}
use Rattle.conf_json.specs.declared.account.PlainStop.{PlainStop}
use Rattle.conf_json.specs.declared.account.PlainStop.TheVariants.{Failed, NoMemory}
use Rattle.proc_targets.specs.Ends.{StopsAs}
use Rattle.proc_targets.specs.Judging.{◌>>=◌}

-- what stops stops what follows
pub stops_on : {X Y : Type 0} (stop : PlainStop) (meant : Result X Note) (go : X → Result Y Note)
    → StopsAs stop meant → StopsAs stop (meant >>= go)
stops_on (Failed note) meant go is = ap (λ m. m >>= go) is
stops_on NoMemory meant go is = tt

-- the same of what is equal
pub stops_as : {X : Type 0} (stop : PlainStop) (meant total : Result X Note) → meant ≡ total
    → StopsAs stop meant → StopsAs stop total
stops_as (Failed note) meant total same is = sym same ∙ is
stops_as NoMemory meant total same is = tt

pub ruleset stops = (stops_on, stops_as)
