-- Reading in the order of the text, with the first fault.
use Rattle.std.specs.Prelude.{ℕ, List, [], ◌∷◌, ◌++◌, Option, Some, None, Result, Ok, Err}
use Rattle.json_text.specs.declared.json.Json.{Json}
use Rattle.otlp_json.specs.declared.counts.Counts.{Counts}
use Rattle.otlp_json.specs.declared.error.PayloadKind.{PayloadKind}
use Rattle.otlp_json.specs.declared.error.PayloadFault.{PayloadFault}
use Rattle.otlp_json.specs.declared.error.PayloadStop.{PayloadStop}
use Rattle.otlp_json.specs.declared.error.PayloadStop.TheVariants as stops

-- the fault; None for want of memory
abbrev pub fault_of : PayloadStop → Option PayloadFault
fault_of (stops.Fault fault) = Some fault
fault_of stops.NoMemory = None

-- what was read, or the first fault
abbrev pub Read : Type 0 → Type 0
Read X = Result X PayloadFault

-- this fault, at this place
abbrev pub wrong : {X : Type 0} → PayloadKind → ℕ → Read X
wrong kind at = Err (record { kind = kind; at = at })

-- what is there, else this fault at this place
abbrev pub or_wrong : {X : Type 0} → PayloadKind → ℕ → Option X → Read X
or_wrong kind at None = wrong kind at
or_wrong kind at (Some x) = Ok x

-- one reading after another
infixl 10 ◌>>=◌
abbrev pub ◌>>=◌ : {A B : Type 0} → Read A → (A → Read B) → Read B
(Ok x) >>= f = f x
(Err e) >>= f = Err e

-- what a value of JSON is read as behind these counts, with the counts behind it
abbrev pub Reader : Type 0 → Type 0
Reader X = Json → Counts → Read (X × Counts)

-- these elements, one after another, behind those that are read so far
abbrev pub each : {X : Type 0} → Reader X → List X → List Json → Counts → Read (List X × Counts)
each one xs [] n = Ok (xs, n)
each one xs (json ∷ jsons) n = one json n >>= λ x. each one (xs ++ x.0 ∷ []) jsons x.1
