-- The editors, each as its row of the table of functions in docs/FUNCTIONS.md. An editor answers
-- the target's new value, or None where there is no action.
use Rattle.std.specs.Prelude.{◌≡◌, ◌⊎◌, ℕ, not, cond, codes, List, [], filter, map, Option, Some, None, Result, Ok, Err}
use Rattle.std.specs.Str.{bytes_eq}
use Rattle.pdata_value.specs.Value.{pairs}
use Rattle.pdata_value.specs.Pairs.{without, kept, merged, put_all}
use Rattle.pdata_value.specs.declared.error.EvalErr.{EvalErr}
use Rattle.pdata_value.specs.declared.error.EvalErr.TheVariants.{NilArgument, KindOf}
use Rattle.pdata_value.specs.declared.merge.Strategy.{Strategy}
use Rattle.pdata_value.specs.declared.merge.Strategy.TheVariants.{Insert, Update, Upsert}
use Rattle.pdata_value.specs.declared.value.Value.{Value, out-Value}
use Rattle.pdata_value.specs.declared.value.Value.TheOpen.{Value-F}
use Rattle.pdata_value.specs.declared.value.Value.TheVariants as kind
use Rattle.pdata_value.specs.Answers.{◌>>=◌}
use Rattle.func_text.specs.Matching.{changed}
use Rattle.func_text.specs.Patterns.{has_match, replaced}
use Rattle.pdata_value.specs.Wanted.{Layer, made, map_of}

-- the pairs of a map, each with its key
abbrev pub Entries : Type 0
Entries = List (List ℕ × Value)

-- set: the value is written; with nil there is no action.

-- what is written: the value, unless it is nil
abbrev pub set_layer : Value → Layer → Result (Option Value) EvalErr
set_layer value Value-F.Empty = Ok None
set_layer value _ = Ok (Some value)

-- set, as a whole
abbrev pub set_of : Value → Value → Result (Option Value) EvalErr
set_of target value = set_layer value (out-Value value)

-- the pairs of a target, if it is a map; nil has none, another kind is KindOf
abbrev pub target_layer : Layer → Result (Option Entries) EvalErr
target_layer Value-F.Empty = Ok None
target_layer (Value-F.Map map) = Ok (Some (pairs map))
target_layer _ = Err KindOf

-- the pairs of a target, none where it is nil
abbrev pub target_in : Value → Result (Option Entries) EvalErr
target_in target = target_layer (out-Value target)

-- a map of other pairs is made of the target's; with nil there is no action
abbrev pub remade : (Entries → Entries) → Option Entries → Result (Option Value) EvalErr
remade edit None = Ok None
remade edit (Some ps) = changed (made (map_of (edit ps)))

-- a target whose pairs are edited; nil is no action
abbrev pub edited : (Entries → Entries) → Value → Result (Option Value) EvalErr
edited edit target = target_in target >>= remade edit

-- delete_key: all pairs with the key are removed.
abbrev pub delete_key_of : Value → List ℕ → Result (Option Value) EvalErr
delete_key_of target key = edited (λ ps. without ps key) target

-- keep_keys: only pairs with a listed key stay.
abbrev pub keep_keys_of : Value → List (List ℕ) → Result (Option Value) EvalErr
keep_keys_of target keys = edited (λ ps. kept ps keys) target

-- delete_matching_keys: pairs whose key has a match are removed.

-- the pairs whose key has no match
abbrev pub unmatched : List ℕ → Entries → Entries
unmatched pattern ps = filter (λ p. not (has_match pattern p.0)) ps

-- delete_matching_keys, as a whole
abbrev pub delete_matching_keys_of : Value → List ℕ → Result (Option Value) EvalErr
delete_matching_keys_of target pattern = edited (unmatched pattern) target

-- keep_matching_keys: only pairs whose key has a match stay.

-- the pairs whose key has a match
abbrev pub matched : List ℕ → Entries → Entries
matched pattern ps = filter (λ p. has_match pattern p.0) ps

-- keep_matching_keys, as a whole
abbrev pub keep_matching_keys_of : Value → List ℕ → Result (Option Value) EvalErr
keep_matching_keys_of target pattern = edited (matched pattern) target

-- merge_maps: the pairs of another map are put, as the strategy says. A target that is nil is the
-- empty map.

-- the texts that name strategies
abbrev pub IsStrategy : List ℕ → Type 0
IsStrategy text = (text ≡ codes "insert") ⊎ (text ≡ codes "update") ⊎ (text ≡ codes "upsert")

-- the strategy that a word names
abbrev pub strategy_of : List ℕ → Strategy
strategy_of text =
    cond (bytes_eq text (codes "insert")) Insert
    (cond (bytes_eq text (codes "update")) Update Upsert)

-- the pairs, or none where there is no map
abbrev pub or_empty : Option Entries → Entries
or_empty None = []
or_empty (Some ps) = ps

-- the pairs of the map that is merged in, by kind
abbrev pub other_layer : Layer → Result Entries EvalErr
other_layer Value-F.Empty = Err NilArgument
other_layer (Value-F.Map map) = Ok (pairs map)
other_layer _ = Err KindOf

-- merge_maps, as a whole
abbrev pub merge_maps_of : Value → Value → List ℕ → Result (Option Value) EvalErr
merge_maps_of target other strategy =
    target_in target >>= λ old. other_layer (out-Value other)
    >>= λ qs. changed (made (map_of (merged (strategy_of strategy) (or_empty old) qs)))

-- replace_all_patterns: in the mode `value` all matches in each text of the map are replaced. In
-- the mode `key` each pair, in order, is put under its replaced key into an empty map.

-- a word that says what is replaced: `key` or `value`
abbrev pub IsMode : List ℕ → Type 0
IsMode text = (text ≡ codes "key") ⊎ (text ≡ codes "value")

-- a value with the matches in it replaced, if it is a text, by kind
abbrev pub replaced_in : List ℕ → List ℕ → Value → Layer → Value
replaced_in pattern template value (Value-F.Text text) = kind.Text (replaced pattern template text)
replaced_in pattern template value _ = value

-- a pair whose value has its matches replaced
abbrev pub replaced_value : List ℕ → List ℕ → List ℕ × Value → List ℕ × Value
replaced_value pattern template p = (p.0, replaced_in pattern template p.1 (out-Value p.1))

-- a pair whose key has its matches replaced
abbrev pub replaced_key : List ℕ → List ℕ → List ℕ × Value → List ℕ × Value
replaced_key pattern template p = (replaced pattern template p.0, p.1)

-- the pairs with what a word names replaced in each
abbrev pub all_replaced : List ℕ → List ℕ → List ℕ → Entries → Entries
all_replaced mode pattern template ps =
    cond (bytes_eq mode (codes "key")) (put_all [] (map (replaced_key pattern template) ps))
    (map (replaced_value pattern template) ps)

-- replace_all_patterns, as a whole
abbrev pub replace_all_patterns_of :
    Value → List ℕ → List ℕ → List ℕ → Result (Option Value) EvalErr
replace_all_patterns_of target mode pattern template =
    edited (all_replaced mode pattern template) target
