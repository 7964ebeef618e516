-- From a regex to the pattern that its text is read as.
use Rattle.std.proofs.Common.{zero, suc, drop, append_assoc, ne_eqb, IfSome, IsSome, ◌≢◌, inl, inr, ◌≡◌, ◌<◌, ◌≤◌, ◌++◌, ◌∷◌, [], ℕ, true, false, cond, List, Option, Some, None, is_some, option_map, map, get_or, refl, sym, ap, ap₂, ◌∙◌, arith, le-leb, ◌+◌, ◌*◌, ◌==◌, slice_range, IsSomeAnd, length}
use Rattle.std.specs.Prelude.{chars}
use Rattle.std.proofs.lemmas.Bool.{cond-true, cond-false, lt-leb}
use Rattle.std.proofs.lemmas.Option.{none-some, same_Some}
use Rattle.regex.specs.Patterns.{Re, Match, Refuses, find_str, find_all_str, default_config, Reads, SameCaptures, span}
use Rattle.regex.specs.Replace.{replaced_by, group_bytes, bytes_of}
use Rattle.regex.specs.Strings.{regex_pattern, regex_source, regex_config, regex_names, IsReadFromSource, IsCapturesOf, captures_haystack, captures_span}
use Rattle.regex.specs.Search.{group_span}
use Rattle.regex.specs.Failures.{IsPattern}
use Rattle.regex.specs.declared.string.captures.Captures.{Captures}
use Rattle.regex_syntax.specs.declared.error.ErrorKind.{ErrorKind}
use Rattle.regex_syntax.specs.declared.error.ErrorKind.TheVariants.{OutOfMemory}
use Rattle.regex_hir.proofs.OptionLemmas.{IsSome-of_value}
use Rattle.regex_hir.specs.Meaning.{meaning}
use mathlib.Core.Path.{fun_ext}
use Rattle.regex.specs.Templates.{written_after}
use Rattle.regex.specs.declared.string.regex.Regex.{Regex}
use Rattle.regex.specs.Writes.{both, group_of}
use Rattle.regex.proofs.ForCallers.{is_match_alike, find_all_alike, spans}
use Rattle.regex_syntax.proofs.CapturesLemmas.{find_str_alike}
use Rattle.std.proofs.lemmas.List.{get_or_default}
use Rattle.regex_syntax.specs.Grammar.{read, Names, group_count}
use Rattle.regex_syntax.specs.Brackets.{Nested}
use Rattle.pdata_value.specs.declared.value.Value.{Value}
use Rattle.func_text.specs.Patterns.{within, pattern_of, by_pattern, has_match, written_at, replaced, if_named, named_from, groups_at, named_groups}

-- ---- the text's pattern

within_limit : (o : Option (Nested Re × Names)) (limit : ℕ) (code : Re) (names : Names) →
    IsSomeAnd o (λ (re, found). (re.depth ≤ limit) × SameCaptures code re.value × (names ≡ found) × (group_count code ≤ length names)) →
    (re : Re) × (within limit o ≡ Some (re, names)) × SameCaptures code re
within_limit None limit code names h = absurd h
within_limit (Some (re, found)) limit code names h =
    (re.value, cond-true _ _ None (le-leb _ _ h.0) ∙ ap (λ ns. Some (re.value, ns)) (sym h.2), h.1)

-- the regex has the captures and the names of the pattern that its text is read as
pub read_as : (r : Regex) → IsReadFromSource r → regex_config r ≡ default_config →
    (re : Re) × (pattern_of (regex_source r) ≡ Some (re, regex_names r)) × SameCaptures (regex_pattern r) re
unfolding Reads pattern_of
read_as r is_read config =
    let reads : Reads default_config (regex_source r) r.pattern.program.hir (regex_names r) = rw config at is_read in
    within_limit (read default_config (chars (regex_source r))) default_config.nest_limit (regex_pattern r) (regex_names r) reads

-- ---- from one pattern to another with the same captures

abbrev Seen : Type 0
Seen = ℕ × ℕ × (ℕ → Option ℕ)

-- what the groups hold, from what a caller sees of a match
abbrev bytes_seen : List ℕ → Seen → ℕ → List ℕ
bytes_seen text s n = bytes_of text (cond (n == 0) (Some (s.0, s.1)) (both (s.2 (2 * n)) (s.2 (2 * n + 1))))

same_groups : (text : List ℕ) (x y : Match) → spans x ≡ spans y → group_bytes text x ≡ group_bytes text y
same_groups text x y e = ap (bytes_seen text) e

-- matches that a caller sees alike are replaced alike
replaced_same : (names : Names) (template text : List ℕ) (xs ys : List Match) → map spans xs ≡ map spans ys → (at : ℕ) →
    replaced_by (written_at names template text) text at xs ≡ replaced_by (written_at names template text) text at ys
unfolding replaced_by
replaced_same names template text [] [] e at = refl
replaced_same names template text [] (y ∷ ys) e at = absurd cc
replaced_same names template text (x ∷ xs) [] e at = absurd cc
replaced_same names template text (x ∷ xs) (y ∷ ys) e at =
    let head : spans x ≡ spans y = cc in
    let tail : map spans xs ≡ map spans ys = cc in
    ap₂ ◌++◌
    (ap (λ (s : Seen). slice_range text at s.0 ++ written_after names (bytes_seen text s) template 0) head)
    (replaced_same names template text xs ys tail x.trace.end
    ∙ ap (λ (s : Seen). replaced_by (written_at names template text) text s.1 ys) head)

groups_same : (names : Names) (text : List ℕ) (o p : Option Match) → option_map spans o ≡ option_map spans p →
    groups_at names text o ≡ groups_at names text p
groups_same names text None None e = refl
groups_same names text None (Some y) e = absurd (none-some _ e)
groups_same names text (Some x) None e = absurd (none-some _ (sym e))
groups_same names text (Some x) (Some y) e =
    ap (λ (f : ℕ → List ℕ). named_from f 0 names) (same_groups text x y (same_Some _ _ e))

by_some : {A : Type 0} (otherwise : A) (f : Re → Names → A) (o : Option (Re × Names)) (re : Re) (names : Names) →
    o ≡ Some (re, names) → by_pattern otherwise f o ≡ f re names
by_some otherwise f o re names e = ap (by_pattern otherwise f) e

-- ---- what a search by the regex gives, as functions of the pattern's text

module _ (r : Regex) (is_read : IsReadFromSource r) (config : regex_config r ≡ default_config)
    (text : List ℕ) (bytes : (k : ℕ) → get_or text k 0 < 256) where
  pub has_match_as_read : is_some (find_str (regex_pattern r) text 0) ≡ has_match (regex_source r) text
  has_match_as_read =
      let p = read_as r is_read config in
      is_match_alike p.2 text bytes true 0 ∙ sym (by_some false _ _ p.0 _ p.1)

  pub replaced_as_read : (template : List ℕ) →
      replaced_by (written_at (regex_names r) template text) text 0 (find_all_str (regex_pattern r) text)
      ≡ replaced (regex_source r) template text
  replaced_as_read template =
      let p = read_as r is_read config in
      replaced_same _ template text _ _ (find_all_alike p.2 text bytes true) 0 ∙ sym (by_some text _ _ p.0 _ p.1)

  pub groups_as_read : groups_at (regex_names r) text (find_str (regex_pattern r) text 0) ≡ named_groups (regex_source r) text
  groups_as_read =
      let p = read_as r is_read config in
      groups_same (regex_names r) text _ _ (find_str_alike _ _ p.2 text (λ k d h. rw (get_or_default text k d 0 h) (bytes k)) 0)
      ∙ sym (by_some [] _ _ p.0 _ p.1)

-- ---- groups, one after another

named_at : {A : Type 0} (g : A → Option (List ℕ)) (f : ℕ → List ℕ) (xs : List A) (i k : ℕ) (d : A) → i < length xs →
    named_from f k (drop i (map g xs)) ≡ if_named (g (get_or xs i d)) (f k) ++ named_from f (k + 1) (drop (suc i) (map g xs))
named_at g f [] i k d h = absurd (omega arith)
named_at g f (x ∷ xs) zero k d h = refl
named_at g f (x ∷ xs) (suc i) k d h = named_at g f xs i k d (omega arith)

-- one more group is handed out
pub named_step : {A : Type 0} (g : A → Option (List ℕ)) (f : ℕ → List ℕ) (xs : List A) (i : ℕ) (x : A) (old new total : List (List ℕ × Value)) →
    i < length xs → x ≡ get_or xs i x → new ≡ old ++ if_named (g x) (f i) →
    old ++ named_from f i (drop i (map g xs)) ≡ total → new ++ named_from f (i + 1) (drop (i + 1) (map g xs)) ≡ total
named_step g f xs i x old new total lt is grown inv =
    let rest = named_from f (i + 1) (drop (i + 1) (map g xs)) in
    let next : suc i ≡ i + 1 = omega arith in
    let at : named_from f i (drop i (map g xs)) ≡ if_named (g x) (f i) ++ rest =
    named_at g f xs i i x lt
    ∙ (ap (λ y. if_named (g y) (f i) ++ named_from f (i + 1) (drop (suc i) (map g xs))) (sym is)
    ∙ ap (λ j. if_named (g x) (f i) ++ named_from f (i + 1) (drop j (map g xs))) next) in
    ap (λ n. n ++ rest) grown ∙ (append_assoc old (if_named (g x) (f i)) rest ∙ (ap (λ n. old ++ n) (sym at) ∙ inv))

-- what the captures hold is what the groups of the match hold
pub captures_bytes : (captures : Captures) (text : List ℕ) (m : Match) → IsCapturesOf text m captures → (n : ℕ) →
    bytes_of (captures_haystack captures) (captures_span captures n) ≡ group_bytes text m n
unfolding group_span
captures_bytes captures text m h zero = ap₂ bytes_of h.0 (ap Some h.1.whole_is)
captures_bytes captures text m h (suc n) =
    ap₂ bytes_of h.0 (h.2 (suc n) (omega arith) ∙ sym (cond-false _ (Some (span m)) (group_of m (suc n)) (ne_eqb (suc n) 0 (omega arith))))

pub named_by_captures : (captures : Captures) (names : Names) (text : List ℕ) (m : Match) → IsCapturesOf text m captures →
    named_from (λ n. bytes_of (captures_haystack captures) (captures_span captures n)) 0 names ≡ groups_at names text (Some m)
named_by_captures captures names text m h =
    ap (λ (f : ℕ → List ℕ). named_from f 0 names) (fun_ext (captures_bytes captures text m h))

-- ---- what is no pattern, and what is one

not_within : (o : Option (Nested Re × Names)) (limit : ℕ) → IfSome o (λ (re, _). limit < re.depth) → within limit o ≡ None
not_within None limit h = refl
not_within (Some (re, names)) limit h = cond-false _ _ None (lt-leb _ _ h)

-- an error of syntax that is not for want of memory says that the text is no pattern
pub refused : (source : List ℕ) (kind : ErrorKind) → Refuses default_config source kind → kind ≢ OutOfMemory → pattern_of source ≡ None
unfolding Refuses pattern_of
refused source kind (inl memory) other = absurd (other memory)
refused source kind (inr (inl none)) other = ap (within default_config.nest_limit) none
refused source kind (inr (inr (_, deep))) other = not_within (read default_config (chars source)) _ deep

-- a text that the grammar reads is a pattern
pub accepted : (source : List ℕ) → IsPattern default_config source → IsSome (pattern_of source)
unfolding Reads pattern_of
accepted source (hir, names, reads) =
    let p = within_limit (read default_config (chars source)) default_config.nest_limit (meaning hir) names reads in
    IsSome-of_value _ _ p.1

pub accepted_text : (r : Regex) → IsReadFromSource r → regex_config r ≡ default_config → IsSome (pattern_of (regex_source r))
accepted_text r is_read config = IsSome-of_value _ _ (read_as r is_read config).1
