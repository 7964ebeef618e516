-- What building a plan, and checking a configuration, answer.
use Rattle.std.specs.Prelude.{◌≡◌, ◌⊎◌, ℕ, List, Result, Ok, Err, IsOk, ⊤}
use Rattle.contract_words.specs.Causes.{Rose}
use Rattle.conf_json.specs.declared.fault.ConfStop.{ConfStop}
use Rattle.conf_json.specs.declared.fault.ConfStop.TheVariants.{Fault, NoMemory}
use Rattle.conf_json.specs.Plans.{IsSize}
use Rattle.graph_build.specs.Conf.{conf_of}

-- a plan of these bytes, or their first fault; want of memory is free
abbrev pub Builds : Result (List ℕ) ConfStop → List ℕ → Type 0
Builds (Ok plan) bytes = (plan ≡ bytes) × IsOk (conf_of bytes)
Builds (Err (Fault f)) bytes = conf_of bytes ≡ Err f
Builds (Err NoMemory) bytes = ⊤

-- a plan of these bytes, and the maker refused nothing; or their first fault; or a pattern was
-- refused for its size, and the maker's count rose; want of memory is free
abbrev pub Checks : ℕ → ℕ → Result (List ℕ) ConfStop → List ℕ → Type 0
Checks before now (Ok plan) bytes = (plan ≡ bytes) × IsOk (conf_of bytes) × (now ≡ before)
Checks before now (Err (Fault f)) bytes =
    (conf_of bytes ≡ Err f) ⊎ (IsSize f.inner × Rose before now)
Checks before now (Err NoMemory) bytes = ⊤
