-- Trees that a payload can be: what their fields may hold, and how many records, elements and
-- values they may have.
use Rattle.std.specs.Prelude.{◌≡◌, ◌≤◌, ◌<◌, ◌^◌, ℕ, zero, suc, ◌+◌, cond, List, [], ◌∷◌, length, map}
use Rattle.std.specs.Int.{w32, w64}
use Rattle.std.specs.Int.RustNames.{FitsSigned}
use Rattle.std.specs.List.{All}
use Rattle.std.specs.Str.{IsUtf8}
use Rattle.hex.specs.Hex.{IsBytes}
use Rattle.pdata_value.specs.Numeral.{IsSpelling}
use Rattle.pdata_value.specs.Value.{items, pairs}
use Rattle.pdata_value.specs.Measure.{total}
use Rattle.pdata_value.specs.declared.value.Value.{Value, out-Value}
use Rattle.pdata_value.specs.declared.value.Value.TheOpen.{Value-F, Pairs-F, Values-F}
use Rattle.pdata_value.specs.declared.value.Value.TheFolds.{fold-Value}
use Rattle.pdata_value.specs.declared.values.Values.{Values}
use Rattle.pdata_value.specs.declared.pairs.Pairs.{Pairs}
use Rattle.pdata_tree.specs.declared.batch.Batch.{Batch}
use Rattle.pdata_tree.specs.declared.resource.ResourceNode.{ResourceNode}
use Rattle.pdata_tree.specs.declared.resource.ResourceTree.{ResourceTree}
use Rattle.pdata_tree.specs.declared.scope.ScopeNode.{ScopeNode}
use Rattle.pdata_tree.specs.declared.scope.ScopeTree.{ScopeTree}
use Rattle.pdata_tree.specs.declared.record.LogRecord.{LogRecord}
use Rattle.otlp_json.specs.declared.counts.Counts.{Counts}
use Rattle.otlp_json.specs.Limits.{most_records, most_holders, most_values, most_levels, none_counted}
use Rattle.otlp_json.specs.Line.{is_empty_value}

-- Values.

-- what a kind holds is sound, where the values in it are
abbrev pub holds : (Value → Type 0) → Value-F Value Pairs Values → Type 0
holds IsSound Value-F.Empty = Unit {0}
holds IsSound (Value-F.Text text) = IsUtf8 text
holds IsSound (Value-F.Truth truth) = Unit {0}
holds IsSound (Value-F.Int int) = FitsSigned w64 int
holds IsSound (Value-F.Double spelling) = IsSpelling spelling
holds IsSound (Value-F.Bytes bytes) = IsBytes bytes
holds IsSound (Value-F.List list) = All IsSound (items list)
holds IsSound (Value-F.Map map) = All (λ (p : List ℕ × Value). IsUtf8 p.0 × IsSound p.1) (pairs map)

-- a value with at most so many levels, whose texts are UTF-8, whose numbers fit and whose doubles
-- are spelled
unfoldable pub IsValue : ℕ → Value → Type 0
IsValue zero value = ⊥
IsValue (suc levels) value = holds (IsValue levels) (out-Value value)

-- attributes
abbrev pub IsAttributes : Pairs → Type 0
IsAttributes map = All (λ (p : List ℕ × Value). IsUtf8 p.0 × IsValue most_levels p.1) (pairs map)

-- Counts.

-- one count and another
abbrev pub plus : Counts → Counts → Counts
plus n m = record {
  records = n.records + m.records;
  holders = n.holders + m.holders;
  values = n.values + m.values;
}

-- no more than a payload may have
abbrev pub Within : Counts → Type 0
Within n = (n.records ≤ most_records) × (n.holders ≤ most_holders) × (n.values ≤ most_values)

-- a value and the values in it
abbrev pub count_step : Value-F ℕ ℕ ℕ → ℕ
count_step (Value-F.List below) = 1 + below
count_step (Value-F.Map below) = 1 + below
count_step _ = 1

abbrev pub count_step_pairs : Pairs-F ℕ ℕ ℕ → ℕ
count_step_pairs map_of = total (map (λ p. p.1) map_of.items)

abbrev pub count_step_values : Values-F ℕ ℕ ℕ → ℕ
count_step_values list = total list.items

unfoldable pub values_in_value : Value → ℕ
values_in_value = fold-Value ℕ ℕ ℕ count_step count_step_pairs count_step_values

-- the values of attributes
abbrev pub values_in_pairs : List (List ℕ × Value) → ℕ
values_in_pairs [] = 0
values_in_pairs (p ∷ ps) = values_in_value p.1 + values_in_pairs ps

-- the values of a list
abbrev pub values_in_items : List Value → ℕ
values_in_items [] = 0
values_in_items (v ∷ vs) = values_in_value v + values_in_items vs

-- the values of a body: the empty value is left out
abbrev pub values_in_body : Value → ℕ
values_in_body body = cond (is_empty_value body) 0 (values_in_value body)

-- so many values alone
abbrev pub only_values : ℕ → Counts
only_values n = record { records = 0; holders = 0; values = n }

-- a log record, with its values
abbrev pub size_of_record : LogRecord → Counts
size_of_record log =
    record {
      records = 1;
      holders = 0;
      values = values_in_body log.body + values_in_pairs (pairs log.attributes);
    }

-- all of these, where one is of a size
abbrev pub sizes : {X : Type 0} → (X → Counts) → List X → Counts
sizes size [] = none_counted
sizes size (x ∷ xs) = plus (size x) (sizes size xs)

-- a scope element, with all below it
unfoldable pub size_of_scope_logs : ScopeTree → Counts
size_of_scope_logs element =
    plus (record {
      records = 0;
      holders = 1;
      values = values_in_pairs (pairs element.node.attributes);
    })
    (sizes size_of_record element.logs)

-- a resource element, with all below it
unfoldable pub size_of_resource_logs : ResourceTree → Counts
size_of_resource_logs element =
    plus (record {
      records = 0;
      holders = 1;
      values = values_in_pairs (pairs element.node.attributes);
    })
    (sizes size_of_scope_logs element.scopes)

-- a payload
unfoldable pub size_of : Batch → Counts
size_of batch = sizes size_of_resource_logs batch.resources

-- Trees.

-- an id of so many bytes
abbrev pub IsId : ℕ → List ℕ → Type 0
IsId size id = (length id ≡ size) × IsBytes id

-- a log record
pub record IsRecord (log : LogRecord) : Type 0 where
  pub time : log.time < 2 ^ 64
  pub observed : log.observed < 2 ^ 64
  pub severity : FitsSigned w32 log.severity
  pub severity_text : IsUtf8 log.severity_text
  pub body : IsValue most_levels log.body
  pub attributes : IsAttributes log.attributes
  pub dropped : log.dropped < 2 ^ 32
  pub flags : log.flags < 2 ^ 32
  pub trace_id : IsId 16 log.trace_id
  pub span_id : IsId 8 log.span_id

-- a scope
pub record IsScope (scope : ScopeNode) : Type 0 where
  pub name : IsUtf8 scope.name
  pub version : IsUtf8 scope.version
  pub attributes : IsAttributes scope.attributes
  pub dropped : scope.dropped < 2 ^ 32
  pub schema_url : IsUtf8 scope.schema_url

-- a scope element
pub record IsScopeLogs (element : ScopeTree) : Type 0 where
  pub node : IsScope element.node
  pub logs : All IsRecord element.logs

-- a resource
pub record IsResource (resource : ResourceNode) : Type 0 where
  pub attributes : IsAttributes resource.attributes
  pub dropped : resource.dropped < 2 ^ 32
  pub schema_url : IsUtf8 resource.schema_url

-- a resource element
pub record IsResourceLogs (element : ResourceTree) : Type 0 where
  pub node : IsResource element.node
  pub scopes : All IsScopeLogs element.scopes

-- a payload
pub record IsPayload (batch : Batch) : Type 0 where
  pub resources : All IsResourceLogs batch.resources
  pub within : Within (size_of batch)
