-- The functions on patterns, each as its row of the table of functions in docs/FUNCTIONS.md.
use Rattle.std.specs.Prelude.{ℕ, Bool, false, List, Option, Some, None, Result, Ok, Err}
use Rattle.pdata_value.specs.declared.error.EvalErr.{EvalErr}
use Rattle.pdata_value.specs.declared.error.EvalErr.TheVariants.{KindOf}
use Rattle.pdata_value.specs.declared.value.Value.{Value, out-Value}
use Rattle.pdata_value.specs.declared.value.Value.TheOpen.{Value-F}
use Rattle.pdata_value.specs.declared.value.Value.TheVariants as kind
use Rattle.pdata_value.specs.Answers.{◌>>=◌}
use Rattle.func_text.specs.Patterns.{has_match, replaced, named_groups}
use Rattle.pdata_value.specs.Shown.{shown_layer}
use Rattle.pdata_value.specs.Wanted.{Layer, text_in, made, map_of}

-- IsMatch: whether the text of a value has a match. Nil has none; bytes are of another kind.

-- the text that is searched, if there is one
abbrev pub searched_layer : Layer → Result (Option (List ℕ)) EvalErr
searched_layer (Value-F.Bytes bytes) = Err KindOf
searched_layer other = shown_layer other

-- whether a text has a match; no text has none
abbrev pub match_in : List ℕ → Option (List ℕ) → Bool
match_in pattern None = false
match_in pattern (Some text) = has_match pattern text

-- IsMatch, as a whole
abbrev pub is_match_of : Value → List ℕ → Result Value EvalErr
is_match_of value pattern =
    searched_layer (out-Value value) >>= λ text. Ok (kind.Truth (match_in pattern text))

-- ExtractPatterns: a map of the named groups of the first match.

-- ExtractPatterns, as a whole
abbrev pub extract_patterns_of : Value → List ℕ → Result Value EvalErr
extract_patterns_of value pattern =
    text_in value >>= λ text. made (map_of (named_groups pattern text))

-- replace_pattern: all matches in a text are replaced. Another kind, or nil, means no action.

-- the value that is made is the new one
abbrev pub changed : Result Value EvalErr → Result (Option Value) EvalErr
changed answer = answer >>= λ v. Ok (Some v)

-- a text with its matches replaced, by kind; another kind is no action
abbrev pub replaced_layer : List ℕ → List ℕ → Layer → Result (Option Value) EvalErr
replaced_layer pattern template (Value-F.Text text) =
    changed (made (kind.Text (replaced pattern template text)))
replaced_layer pattern template _ = Ok None

-- replace_pattern, as a whole
abbrev pub replace_pattern_of : Value → List ℕ → List ℕ → Result (Option Value) EvalErr
replace_pattern_of target pattern template = replaced_layer pattern template (out-Value target)
