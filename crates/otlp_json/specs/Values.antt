-- Values and pairs of OTLP (`AnyValue`, `KeyValue`, `ArrayValue`, `KeyValueList`).
use Rattle.std.specs.Prelude.{ℕ, zero, suc, ◌||◌, Bool, codes, cond, List, [], ◌∷◌, Option, Some, None, Ok}
use Rattle.std.specs.Str.{bytes_eq}
use Rattle.pdata_value.specs.declared.value.Value.{Value}
use Rattle.pdata_value.specs.declared.value.Value.TheVariants as values
use Rattle.pdata_value.specs.declared.values.Values.{Values}
use Rattle.pdata_value.specs.declared.pairs.Pairs.{Pairs}
use Rattle.json_text.specs.Kinds.{Member}
use Rattle.json_text.specs.Members.{has_standing, last_standing}
use Rattle.otlp_json.specs.declared.counts.Counts.{Counts}
use Rattle.otlp_json.specs.Reads.{Read, Reader, ◌>>=◌, each}
use Rattle.otlp_json.specs.Limits.{one_value}
use Rattle.otlp_json.specs.Fields.{text_in, truth_in, i64_in, double_in, bytes_in, items_in, members_in}
use Rattle.otlp_json.specs.Objects.{Row, plain, nested, by_key, fields, object}

-- Below, a number of levels says how many values may still stand in one another, and `value` is how
-- a value is read.

-- a pair
abbrev pub pair_table : Reader Value → List (Row (List ℕ × Value))
pair_table value =
    plain (codes "key") text_in (λ pair key. (key, pair.1))
    ∷ nested (codes "value") value (λ pair v. (pair.0, v))
    ∷ []

-- where no member `value` counts, the pair itself is one more value
abbrev pub absent_value : ℕ → ℕ → List Member → Counts → Read Counts
absent_value levels at members n =
    cond (has_standing (codes "value") members) (Ok n) (one_value levels at n)

-- a pair, which is counted before its members are read
abbrev pub pair_by : ℕ → Reader Value → Reader (List ℕ × Value)
pair_by levels value json n =
    members_in json >>= λ members. absent_value levels json.at members n
    >>= fields (pair_table value) members ([], values.Empty)

-- a list of pairs
abbrev pub pairs_by : ℕ → Reader Value → Reader Pairs
pairs_by levels value json n =
    items_in json >>= λ items. each (pair_by levels value) [] items n
    >>= λ p. Ok (record { items = p.0 }, p.1)

-- a list of values
abbrev pub values_by : Reader Value → Reader Values
values_by value json n =
    items_in json >>= λ items. each value [] items n >>= λ p. Ok (record { items = p.0 }, p.1)

-- `arrayValue`
abbrev pub array_table : Reader Value → List (Row Values)
array_table value = nested (codes "values") (values_by value) (λ _ values. values) ∷ []

-- `kvlistValue`
abbrev pub map_table : ℕ → Reader Value → List (Row Pairs)
map_table levels value = nested (codes "values") (pairs_by levels value) (λ _ pairs. pairs) ∷ []

-- a value: one of seven members
abbrev pub value_table : ℕ → Reader Value → List (Row Value)
value_table levels value =
    plain (codes "stringValue") text_in (λ _ text. values.Text text)
    ∷ plain (codes "boolValue") truth_in (λ _ truth. values.Truth truth)
    ∷ plain (codes "intValue") i64_in (λ _ int. values.Int int)
    ∷ plain (codes "doubleValue") double_in (λ _ spelling. values.Double spelling)
    ∷ nested (codes "arrayValue") (object (array_table value) (record { items = [] }))
    (λ _ list. values.List list)
    ∷ nested (codes "kvlistValue") (object (map_table levels value) (record { items = [] }))
    (λ _ pairs. values.Map pairs)
    ∷ plain (codes "bytesValue") bytes_in (λ _ bytes. values.Bytes bytes)
    ∷ []

-- whether a key is one of the seven
unfoldable pub is_value_key : List ℕ → Bool
is_value_key key =
    bytes_eq key (codes "stringValue") || bytes_eq key (codes "boolValue")
    || bytes_eq key (codes "intValue")
    || bytes_eq key (codes "doubleValue") || bytes_eq key (codes "arrayValue")
    || bytes_eq key (codes "kvlistValue")
    || bytes_eq key (codes "bytesValue")

-- of the members that count the last alone is read
abbrev pub only : List (Row Value) → Option Member → Counts → Read (Value × Counts)
only table None n = Ok (values.Empty, n)
only table (Some m) n = by_key table m.0 m.1 values.Empty n

-- a value that is counted already
abbrev pub value_by : ℕ → Reader Value → Reader Value
value_by levels value json n =
    members_in json >>= λ members. only (value_table levels value)
    (last_standing is_value_key None members) n

-- a value, where so many levels of values may stand from here on
unfoldable pub value_in : ℕ → Reader Value
value_in zero json n = one_value zero json.at n >>= λ m. Ok (values.Empty, m)
value_in (suc levels) json n =
    one_value (suc levels) json.at n >>= value_by levels (value_in levels) json

-- the value that a member gives
unfoldable pub only_in : ℕ → Member → Counts → Read (Value × Counts)
only_in levels m n = by_key (value_table levels (value_in levels)) m.0 m.1 values.Empty n

-- The same, where values are read by `value_in`.

-- a list of values
unfoldable pub values_in : ℕ → Reader Values
values_in levels = values_by (value_in levels)

-- what `arrayValue` holds
unfoldable pub array_in : ℕ → Reader Values
array_in levels = object (array_table (value_in levels)) (record { items = [] })

-- what `kvlistValue` holds
unfoldable pub map_in : ℕ → Reader Pairs
map_in levels = object (map_table levels (value_in levels)) (record { items = [] })

-- a pair
unfoldable pub pair_in : ℕ → Reader (List ℕ × Value)
pair_in levels = pair_by levels (value_in levels)

-- a list of pairs, as `attributes` has it
unfoldable pub pairs_in : ℕ → Reader Pairs
pairs_in levels = pairs_by levels (value_in levels)
