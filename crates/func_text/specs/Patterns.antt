-- What a pattern's text answers, by the syntax and the matches of `regex`.
use Rattle.std.specs.Prelude.{ℕ, Bool, false, List, [], ◌∷◌, ◌++◌, ◌+◌, Option, Some, None, is_some, chars, nat_le, if◌then◌else◌}
use Rattle.regex.specs.Patterns.{Re, find_str, find_all_str, Match, default_config}
use Rattle.regex.specs.Replace.{replaced_by, group_bytes}
use Rattle.regex.specs.Templates.{written_after}
use Rattle.regex_syntax.specs.Grammar.{read, Names}
use Rattle.regex_syntax.specs.Brackets.{Nested}
use Rattle.pdata_value.specs.declared.value.Value.{Value}
use Rattle.pdata_value.specs.declared.value.Value.TheVariants as kind

-- what was read, where it nests no deeper than the limit
abbrev pub within : ℕ → Option (Nested Re × Names) → Option (Re × Names)
within limit None = None
within limit (Some (re, names)) = if nat_le re.depth limit then Some (re.value, names) else None

-- the pattern that a text is read as, and the names of its groups; None where it is no pattern or
-- nests too deep
unfoldable pub pattern_of : List ℕ → Option (Re × Names)
pattern_of source = within default_config.nest_limit (read default_config (chars source))

-- what the pattern gives, or `otherwise` where the text is none
abbrev pub by_pattern : {A : Type 0} → A → (Re → Names → A) → Option (Re × Names) → A
by_pattern otherwise f None = otherwise
by_pattern otherwise f (Some (re, names)) = f re names

-- whether a text has a match
abbrev pub has_match : List ℕ → List ℕ → Bool
has_match source text =
    by_pattern false (λ re names. is_some (find_str re text 0)) (pattern_of source)

-- what a template writes in the place of a match
abbrev pub written_at : Names → List ℕ → List ℕ → Match → List ℕ
written_at names template text m = written_after names (group_bytes text m) template 0

-- the text with all matches replaced by what the template writes there
abbrev pub replaced : List ℕ → List ℕ → List ℕ → List ℕ
replaced source template text =
    by_pattern text
    (λ re names. replaced_by (written_at names template text) text 0 (find_all_str re text))
    (pattern_of source)

-- a pair of a group's name and of what it matched, where it has a name
abbrev pub if_named : Option (List ℕ) → List ℕ → List (List ℕ × Value)
if_named None bytes = []
if_named (Some name) bytes = (name, kind.Text bytes) ∷ []

-- the pairs of the named groups from the nth group on, in the pattern's order
abbrev pub named_from : (ℕ → List ℕ) → ℕ → Names → List (List ℕ × Value)
named_from bytes n [] = []
named_from bytes n (name ∷ names) = if_named name (bytes n) ++ named_from bytes (n + 1) names

-- the pairs of a match; there are none without a match
abbrev pub groups_at : Names → List ℕ → Option Match → List (List ℕ × Value)
groups_at names text None = []
groups_at names text (Some m) = named_from (group_bytes text m) 0 names

-- the pairs of the named groups of the first match; a group that took no part is the empty text
abbrev pub named_groups : List ℕ → List ℕ → List (List ℕ × Value)
named_groups source text =
    by_pattern [] (λ re names. groups_at names text (find_str re text 0)) (pattern_of source)
