-- The payload of a line (OTLP logs in the JSON encoding of protobuf): a tree, or the first fault
-- with its place. First comes a fault of the text, then that of the field with the least place.
use Rattle.std.specs.Prelude.{ℕ, List, Result, Ok, Err}
use Rattle.pdata_tree.specs.declared.batch.Batch.{Batch}
use Rattle.json_text.specs.Reading.{json_text}
use Rattle.json_text.specs.declared.json.Json.{Json}
use Rattle.json_text.specs.declared.error.JsonFault.{JsonFault}
use Rattle.json_text.specs.declared.error.JsonFault.TheVariants as json_faults
use Rattle.otlp_json.specs.declared.error.PayloadFault.{PayloadFault}
use Rattle.otlp_json.specs.declared.error.PayloadKind.TheVariants.{BadUtf8, BadJson, TooDeep}
use Rattle.otlp_json.specs.Reads.{Read, ◌>>=◌}
use Rattle.otlp_json.specs.Limits.{most_containers, none_counted}
use Rattle.otlp_json.specs.Trees.{batch_in}

-- a fault of the text. Want of memory is none, and no text is read as the last row.
abbrev pub text_fault : JsonFault → PayloadFault
text_fault (json_faults.BadUtf8 at) = record { kind = BadUtf8; at = at }
text_fault (json_faults.BadJson at) = record { kind = BadJson; at = at }
text_fault (json_faults.TooDeep at) = record { kind = TooDeep; at = at }
text_fault json_faults.NoMemory = record { kind = BadJson; at = 0 }

-- the payload that JSON is
abbrev pub payload_of : Result Json JsonFault → Read Batch
payload_of (Ok json) = batch_in json none_counted >>= λ p. Ok p.0
payload_of (Err fault) = Err (text_fault fault)

-- the payload that a line is
unfoldable pub payload : List ℕ → Read Batch
payload line = payload_of (json_text line most_containers)
