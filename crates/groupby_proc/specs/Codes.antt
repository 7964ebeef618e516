-- Codes of resources and scopes: those that are the same have the same code.
use Rattle.std.specs.Prelude.{ℕ, ◌+◌, ◌*◌, ◌%◌, ◌^◌, Bool, true, false, cond, List, [], ◌∷◌, ◌++◌}
use Rattle.std.specs.Int.{cast_unsigned, w64}
use Rattle.pdata_value.specs.Pairs.{has_key}
use Rattle.pdata_value.specs.Value.{pairs}
use Rattle.pdata_value.specs.declared.value.Value.{Value, out-Value}
use Rattle.pdata_value.specs.declared.value.Value.TheOpen.{Value-F}
use Rattle.pdata_value.specs.declared.pairs.Pairs.{Pairs}
use Rattle.pdata_value.specs.declared.values.Values.{Values}
use Rattle.pdata_tree.specs.declared.resource.ResourceNode.{ResourceNode}
use Rattle.pdata_tree.specs.declared.scope.ScopeNode.{ScopeNode}

-- a code with a further number in it
unfoldable pub mixed : ℕ → ℕ → ℕ
mixed code more = (code * 1099511628211 % 2 ^ 64 + more) % 2 ^ 64

-- the sum of two codes
unfoldable pub plus : ℕ → ℕ → ℕ
plus a b = (a + b) % 2 ^ 64

-- a code with bytes in it
abbrev pub with_bytes : ℕ → List ℕ → ℕ
with_bytes code [] = code
with_bytes code (b ∷ bs) = with_bytes (mixed code b) bs

-- the code of a truth
abbrev pub truth_code : Bool → ℕ
truth_code true = 1
truth_code false = 2

-- the code of a value's kind and, of a scalar, of its content
abbrev pub layer_code : Value-F Value Pairs Values → ℕ
layer_code Value-F.Empty = 0
layer_code (Value-F.Text text) = with_bytes 3 text
layer_code (Value-F.Truth truth) = truth_code truth
layer_code (Value-F.Int int) = mixed 4 (cast_unsigned w64 int)
layer_code (Value-F.Double spelling) = with_bytes 5 spelling
layer_code (Value-F.Bytes bytes) = with_bytes 6 bytes
layer_code (Value-F.List list) = 7
layer_code (Value-F.Map map) = 8

-- the code of a value
abbrev pub value_code : Value → ℕ
value_code v = layer_code (out-Value v)

-- the code of a key with a value
abbrev pub pair_code : List ℕ × Value → ℕ
pair_code p = mixed (with_bytes (value_code p.1) p.0) 1

-- a code with those of pairs added, but for pairs whose key stands before
abbrev pub with_pairs : ℕ → List (List ℕ × Value) → List (List ℕ × Value) → ℕ
with_pairs code before [] = code
with_pairs code before (p ∷ ps) =
    with_pairs (cond (has_key before p.0) code (plus code (pair_code p))) (before ++ p ∷ []) ps

-- the code of a resource
abbrev pub resource_code : ResourceNode → ℕ
resource_code r = with_bytes (with_pairs r.dropped [] (pairs r.attributes)) r.schema_url

-- the code of a scope
abbrev pub scope_code : ScopeNode → ℕ
scope_code s =
    with_bytes
    (with_bytes (with_bytes (with_pairs s.dropped [] (pairs s.attributes)) s.name) s.version)
    s.schema_url
