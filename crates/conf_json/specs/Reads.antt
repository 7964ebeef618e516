-- What reading a configuration answers.
use Rattle.std.specs.Prelude.{◌≡◌, ◌⊎◌, ℕ, List, Result, Ok, Err, IsOk, ⊤}
use Rattle.contract_words.specs.Causes.{Rose}
use Rattle.conf_json.specs.declared.fault.ConfStop.{ConfStop}
use Rattle.conf_json.specs.declared.fault.ConfStop.TheVariants.{Fault, NoMemory}
use Rattle.conf_json.specs.Plans.{IsSize}
use Rattle.conf_json.specs.Settings.{settings_of}

-- settings of these bytes, and the maker refused nothing; or their first fault; or a pattern was
-- refused for its size, and the maker's count rose; want of memory is free
abbrev pub Reads : ℕ → ℕ → Result (List ℕ) ConfStop → List ℕ → Type 0
Reads before now (Ok settings) bytes =
    (settings ≡ bytes) × IsOk (settings_of bytes) × (now ≡ before)
Reads before now (Err (Fault f)) bytes =
    (settings_of bytes ≡ Err f) ⊎ (IsSize f.inner × Rose before now)
Reads before now (Err NoMemory) bytes = ⊤
