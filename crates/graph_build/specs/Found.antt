-- Inside this crate: what looking for the legs of settings finds.
use Rattle.std.specs.Prelude.{◌≡◌, List, Result, Ok, Err, ⊤}
use Rattle.conf_json.specs.declared.fault.ConfFault.{ConfFault}
use Rattle.conf_json.specs.declared.fault.ConfStop.{ConfStop}
use Rattle.conf_json.specs.declared.fault.ConfStop.TheVariants.{Fault, NoMemory}
use Rattle.graph_build.specs.declared.leg.Leg.{Leg}
use Rattle.graph_build.specs.Conf.{Conf, HasLegs}

-- the legs, or the first fault; want of memory is free
abbrev pub FindsLegs : Result (List Leg) ConfStop → Result Conf ConfFault → Type 0
FindsLegs (Ok legs) conf = HasLegs legs conf
FindsLegs (Err (Fault f)) conf = conf ≡ Err f
FindsLegs (Err NoMemory) conf = ⊤
