-- Payloads made of drawn numbers, one a line.
use Rattle.std.specs.Prelude.{◌≡◌, ℕ, zero, suc, ◌+◌, ◌*◌, ℤ, pos, List, [], ◌∷◌, ◌++◌, codes, replicate}
use Rattle.std.specs.Fmt.{decimal}
use Rattle.load_gen.specs.Draws.{after, draw}
use Rattle.otlp_json.specs.Line.{line}
use Rattle.pdata_tree.specs.declared.batch.Batch.{Batch}
use Rattle.pdata_tree.specs.declared.record.LogRecord.{LogRecord}
use Rattle.pdata_tree.specs.declared.resource.ResourceTree.{ResourceTree}
use Rattle.pdata_tree.specs.declared.scope.ScopeTree.{ScopeTree}
use Rattle.pdata_value.specs.declared.pairs.Pairs.{Pairs}
use Rattle.pdata_value.specs.declared.value.Value.{Value}
use Rattle.pdata_value.specs.declared.value.Value.TheVariants as kind

-- a text with a number behind it
abbrev pub numbered : List ℕ → ℕ → Value
numbered front number = kind.Text (front ++ decimal number)

-- the time of record j of payload i, in nanoseconds
abbrev pub time_of : ℕ → ℕ → ℕ
time_of i j = 1700000000000000000 + i * 1000000000 + j

-- the attributes of a log record, by two draws: its status and its user
abbrev pub attributes_of : ℕ → Pairs
attributes_of state = record {
  items =
      (codes "http.status", kind.Int (pos (200 + 100 * draw state 4)))
      ∷ (codes "user", numbered (codes "u") (draw (after 1 state) 50)) ∷ [];
}

-- a log record at that time, by four draws: its severity, its event and its attributes
abbrev pub log_of : ℕ → ℕ → LogRecord
log_of time state = record {
  time = time;
  observed = 0;
  severity = pos (1 + draw state 24);
  severity_text = [];
  body = numbered (codes "event ") (draw (after 1 state) 1000);
  attributes = attributes_of (after 2 state);
  dropped = 0;
  flags = 0;
  trace_id = replicate 16 0;
  span_id = replicate 8 0;
}

-- things that were made, with the state after them
pub record Made (X : Type 0) : Type 0 where
  pub made : X
  pub state : ℕ

-- that state and those things are what is made
abbrev pub Makes : {X : Type 0} → ℕ → X → Made X → Type 0
Makes state x meant = (x ≡ meant.made) × (state ≡ meant.state)

-- one more before those that were made
abbrev pub before : {X : Type 0} → List X → Made (List X) → Made (List X)
before xs rest = record { made = xs ++ rest.made; state = rest.state }

-- so many log records of payload i, the first of them with number j
abbrev pub logs_of : ℕ → ℕ → ℕ → ℕ → Made (List LogRecord)
logs_of i j zero state = record { made = []; state = state }
logs_of i j (suc count) state =
    before (log_of (time_of i j) state ∷ []) (logs_of i (suc j) count (after 4 state))

-- the scope `demo` with these log records
abbrev pub scope_of : List LogRecord → ScopeTree
scope_of logs = record {
  node = record {
    name = codes "demo";
    version = [];
    attributes = record { items = [] };
    dropped = 0;
    schema_url = [];
  };
  logs = logs;
}

-- the resource of a service, with these log records
abbrev pub resource_of : ℕ → List LogRecord → ResourceTree
resource_of service logs = record {
  node = record {
    attributes = record {
      items =
          (codes "service.name", numbered (codes "svc-") service) ∷ [];
    };
    dropped = 0;
    schema_url = [];
  };
  scopes = scope_of logs ∷ [];
}

-- how many log records the next payload has
abbrev pub count_of : ℕ → ℕ
count_of state = 1 + draw (after 1 state) 8

-- the payload of a service, with these log records
abbrev pub payload_with : ℕ → Made (List LogRecord) → Made Batch
payload_with service logs = record {
  made = record { resources = resource_of service logs.made ∷ [] };
  state = logs.state;
}

-- payload i, by two draws and those of its log records: its service, and how many records it has
abbrev pub payload_of : ℕ → ℕ → Made Batch
payload_of i state =
    payload_with (draw state 4) (logs_of i 0 (count_of state) (after 2 state))

-- a payload as a line
abbrev pub line_of : Batch → List ℕ
line_of payload = line payload ++ 10 ∷ []

-- so many payloads, the first of them with number i, one a line
abbrev pub lines_from : ℕ → ℕ → ℕ → Made (List ℕ)
lines_from i zero state = record { made = []; state = state }
lines_from i (suc count) state =
    before (line_of (payload_of i state).made)
    (lines_from (suc i) count (payload_of i state).state)

-- the payloads of a seed
abbrev pub payloads : ℕ → ℕ → List ℕ
payloads seed count = (lines_from 1 count seed).made
