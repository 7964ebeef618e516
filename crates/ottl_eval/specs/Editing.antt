-- What an editor makes of a target's old value, by the shape of its other arguments: the new value,
-- or None where there is no action. A shape that isn't in its row is KindOf; no planned statement
-- has one.
use Rattle.std.specs.Prelude.{ℕ, Bool, ◌||◌, cond, codes, List, [], ◌∷◌, Option, Result, Ok, Err}
use Rattle.std.specs.Str.{bytes_eq}
use Rattle.func_map.specs.Edits.{set_of, delete_key_of, delete_matching_keys_of, keep_keys_of, keep_matching_keys_of, merge_maps_of, replace_all_patterns_of}
use Rattle.func_text.specs.Matching.{replace_pattern_of}
use Rattle.ottl_plan.specs.declared.argument.ArgumentLiteral.{ArgumentLiteral}
use Rattle.ottl_plan.specs.declared.argument.ArgumentLiteral.TheVariants as literal
use Rattle.ottl_plan.specs.declared.function.Editor.{Editor}
use Rattle.ottl_plan.specs.declared.function.Editor.TheVariants as row
use Rattle.pdata_value.specs.declared.error.EvalErr.{EvalErr}
use Rattle.pdata_value.specs.declared.error.EvalErr.TheVariants.{KindOf}
use Rattle.pdata_value.specs.declared.value.Value.{Value}

-- the new value, if there is one, or an error
abbrev pub Edited : Type 0
Edited = Result (Option Value) EvalErr

-- whether a word names a strategy
abbrev pub is_strategy : List ℕ → Bool
is_strategy text =
    bytes_eq text (codes "insert") || bytes_eq text (codes "update")
    || bytes_eq text (codes "upsert")

-- whether a word names what is replaced
abbrev pub is_mode : List ℕ → Bool
is_mode text = bytes_eq text (codes "key") || bytes_eq text (codes "value")

-- of a value: what is set
abbrev pub by_value : Editor → Value → Value → Edited
by_value row.Set target value = set_of target value
by_value _ target value = Err KindOf

-- of a value and a word: the map that is merged in, and how
abbrev pub by_value_and_word : Editor → Value → Value → List ℕ → Edited
by_value_and_word row.MergeMaps target value word =
    cond (is_strategy word) (merge_maps_of target value word) (Err KindOf)
by_value_and_word _ target value word = Err KindOf

-- of a value and what the call spells
abbrev pub by_value_and_literal : Editor → Value → Value → ArgumentLiteral → Edited
by_value_and_literal editor target value (literal.Text word) =
    by_value_and_word editor target value word
by_value_and_literal editor target value _ = Err KindOf

-- of a key
abbrev pub by_key : Editor → Value → List ℕ → Edited
by_key row.DeleteKey target key = delete_key_of target key
by_key _ target key = Err KindOf

-- of keys
abbrev pub by_keys : Editor → Value → List (List ℕ) → Edited
by_keys row.KeepKeys target keys = keep_keys_of target keys
by_keys _ target keys = Err KindOf

-- of a pattern
abbrev pub by_pattern : Editor → Value → List ℕ → Edited
by_pattern row.DeleteMatchingKeys target pattern = delete_matching_keys_of target pattern
by_pattern row.KeepMatchingKeys target pattern = keep_matching_keys_of target pattern
by_pattern _ target pattern = Err KindOf

-- of what the call spells: one thing
abbrev pub by_literal : Editor → Value → ArgumentLiteral → Edited
by_literal editor target (literal.Text key) = by_key editor target key
by_literal editor target (literal.Keys keys) = by_keys editor target keys
by_literal editor target (literal.Pattern pattern) = by_pattern editor target pattern

-- of what the call spells: a pattern and a template
abbrev pub by_two : ArgumentLiteral → ArgumentLiteral → Editor → Value → Edited
by_two (literal.Pattern pattern) (literal.Text template) row.ReplacePattern target =
    replace_pattern_of target pattern template
by_two _ _ _ target = Err KindOf

-- of a word, a pattern and a template
abbrev pub by_word : List ℕ → List ℕ → List ℕ → Editor → Value → Edited
by_word word pattern template row.ReplaceAllPatterns target =
    cond (is_mode word) (replace_all_patterns_of target word pattern template) (Err KindOf)
by_word word pattern template _ target = Err KindOf

-- of what the call spells: a word, a pattern and a template
abbrev pub by_three :
    ArgumentLiteral → ArgumentLiteral → ArgumentLiteral → Editor → Value → Edited
by_three (literal.Text word) (literal.Pattern pattern) (literal.Text template) editor target =
    by_word word pattern template editor target
by_three _ _ _ editor target = Err KindOf

-- of what the call spells alone
abbrev pub by_literals : Editor → Value → List ArgumentLiteral → Edited
by_literals editor target (l ∷ []) = by_literal editor target l
by_literals editor target (l ∷ m ∷ []) = by_two l m editor target
by_literals editor target (l ∷ m ∷ n ∷ []) = by_three l m n editor target
by_literals editor target _ = Err KindOf

-- of a value, with what the call spells behind it
abbrev pub by_one : Editor → Value → Value → List ArgumentLiteral → Edited
by_one editor target value [] = by_value editor target value
by_one editor target value (l ∷ []) = by_value_and_literal editor target value l
by_one editor target value _ = Err KindOf

-- the target's new value
abbrev pub edited : Editor → Value → List Value → List ArgumentLiteral → Edited
edited editor target [] literals = by_literals editor target literals
edited editor target (v ∷ []) literals = by_one editor target v literals
edited editor target (v ∷ w ∷ vs) literals = Err KindOf
