-- Reading is the grammar.
use Rattle.std.proofs.Common.{◌≡◌, ◌∙◌, ℕ, zero, suc, ◌+◌, ◌<◌, ◌≤◌, Bool, true, false, List, [], ◌∷◌, ◌++◌, length, take, Result, Ok, Err, ◌⊎◌, inl, inr, refl, sym, ap, subst, arith, cond}
use Rattle.std.specs.Prelude.{◌==◌, IsOk}
use Rattle.std.specs.Str.{IsUtf8}
use Rattle.std.specs.Str.Lossy.{utf8_valid_len}
use Rattle.std.proofs.lemmas.Bool.Decides.{nat_tests}
use Rattle.std.proofs.lemmas.List.{append-nil}
use Rattle.std.proofs.lemmas.Str.{utf8_valid_len-IsUtf8}
use Rattle.contract_words.specs.Grammar.{Rule, seq, spells, viable}
use Rattle.contract_words.specs.Fronts.{IsLongest}
use Rattle.contract_words.specs.Rows.{viable_row, stop}
use Rattle.contract_words.proofs.Viable.{spelled_viable}
use Rattle.contract_words.proofs.Longest.{longest}
use Rattle.json_text.specs.Place.{Rest, is_blank, blanks}
use Rattle.json_text.specs.Reading.{◌>>=◌, Reads, value, ended, document, json_text}
use Rattle.json_text.specs.Grammar.{ws, value_rule, json}
use Rattle.json_text.specs.declared.json.Json.{Json}
use Rattle.json_text.specs.declared.error.JsonFault.{JsonFault}
use Rattle.json_text.specs.declared.error.JsonFault.TheVariants.{BadUtf8, BadJson, TooDeep, NoMemory}
use Rattle.json_text.proofs.Values.{same_length}
use Rattle.contract_words.specs.Rows.{run}
use Rattle.contract_words.proofs.Machine.{run-stop, run-seq}
use Rattle.json_text.proofs.Runs.{Goes, Stops, Deep, Follows, goes_then, follows_then, follows_same}
use Rattle.json_text.proofs.Parts.{behind_it, behind_follows}
use Rattle.json_text.proofs.ValueParts.{Depths, value_follows}
use Rattle.contract_words.specs.Rows.{spells_row}
use Rattle.contract_words.proofs.Whole.{spelled_of_run, run_of_spelled}
use Rattle.json_text.proofs.Fitting.{json_fits}

-- what an answer says of a run of the grammar
abbrev pub Judged : Bool → ℕ × Bool → Rest → Result Json JsonFault → Type 0
Judged deeper o start (Ok j) = o.1 ≡ true
Judged deeper o start (Err (BadJson at)) = Stops o start at
Judged deeper o start (Err (TooDeep at)) = Deep deeper o start at
Judged deeper o start (Err (BadUtf8 at)) = ⊥
Judged deeper o start (Err NoMemory) = ⊥

judged_bind : (deeper : Bool) (a : ℕ) (o : ℕ × Bool) (start : Rest) (rows : List Rule) (m : Reads Json) (f : Json × Rest → Result Json JsonFault)
    → Follows behind_it deeper a o start rows m → ((p : Json × Rest) → Goes a o start rows p.1 → Judged deeper o start (f p)) → Judged deeper o start (m >>= f)
judged_bind deeper a o start rows (Ok p) f h k = k p h
judged_bind deeper a o start rows (Err (BadJson at)) f h k = h
judged_bind deeper a o start rows (Err (TooDeep at)) f h k = h
judged_bind deeper a o start rows (Err (BadUtf8 at)) f h k = h
judged_bind deeper a o start rows (Err NoMemory) f h k = h

some_left : (x : ℕ) (xs : List ℕ) → (length (x ∷ xs) == 0) ≡ false
some_left x xs = not_zero (length xs) where
  not_zero : (n : ℕ) → (suc n == 0) ≡ false
  not_zero n = grind (arith, nat_tests)

judged_end : (deeper : Bool) (a : ℕ) (o : ℕ × Bool) (start : Rest) (j : Json) (at : ℕ) (left : List ℕ) → Goes a o start [] (record { at = at; left = left }) → Judged deeper o start (ended j (record { at = at; left = left }))
judged_end deeper a o start j at [] g = ap (λ (q : ℕ × Bool). q.1) g.runs
judged_end deeper a o start j at (x ∷ xs) g =
    let stops : Stops o start at = record {
      count = g.count;
      place = omega (arith, ap (λ (r : Rest). r.at) g.place);
      runs = g.runs ∙ (let none : g.count + 0 ≡ g.count = omega arith in ap (λ (n : ℕ). (n, false)) none);
    } in
    subst (λ (t : Bool). Judged deeper o start (cond t (Ok j) (Err (BadJson at)))) (sym (some_left x xs)) stops

pub judged : (deeper : Bool) (depth d : ℕ) → Depths deeper depth d → (bytes : List ℕ) → Judged deeper (run (json d ∷ []) bytes) (record { at = 0; left = bytes }) (document depth bytes)
unfolding document
judged deeper depth d deep bytes =
    let start : Rest = record { at = 0; left = bytes } in
    let mid : Rest = blanks start in
    let o : ℕ × Bool = run (json d ∷ []) bytes in
    let value_is : Follows behind_it deeper 1 o start (ws ∷ []) (value depth mid) =
    follows_same behind_it deeper 1 _ _ start (ws ∷ []) (value depth mid) (run-seq ws (seq (value_rule d) ws) [] bytes)
    (follows_then behind_it deeper 0 1 _ start mid (seq (value_rule d) ws ∷ []) (ws ∷ []) (value depth mid) (behind_follows deeper is_blank (seq (value_rule d) ws ∷ []) start)
    (follows_same behind_it deeper 1 _ _ mid (ws ∷ []) (value depth mid) (run-seq (value_rule d) ws [] mid.left) (value_follows deeper depth d deep (ws ∷ []) mid))) in
    judged_bind deeper 1 o start (ws ∷ []) (value depth mid) (λ p. ended p.0 (blanks p.1)) value_is
    (λ p g. judged_end deeper (1 + 0) o start p.0 (blanks p.1).at (blanks p.1).left (goes_then 1 0 o start p.1 (blanks p.1) (ws ∷ []) [] g (behind_follows deeper is_blank [] p.1)))

-- a row of one rule
one_row : (rule : Rule) (text : List ℕ) → viable_row (rule ∷ []) text → viable rule text
one_row rule text (inl h) = h
one_row rule text (inr h) = subst (viable rule) (sym (h.4 ∙ ap (λ (y : List ℕ). h.0 ++ y) h.3 ∙ append-nil h.0)) (spelled_viable rule h.0 h.2)

one_spelled : (rule : Rule) (text : List ℕ) → spells_row (rule ∷ []) text → spells rule text
one_spelled rule text h = subst (spells rule) (sym (h.4 ∙ ap (λ (y : List ℕ). h.0 ++ y) h.3 ∙ append-nil h.0)) h.2

longest_of : (d : ℕ) (bytes : List ℕ) (n : ℕ) → n ≡ (run (json d ∷ []) bytes).0 → IsLongest (viable (json d)) bytes n
longest_of d bytes n is =
    let all = longest (json d ∷ []) bytes (json_fits d) in
    let same : stop (json d ∷ []) bytes ≡ n = sym (is ∙ run-stop (json d ∷ []) bytes) in
    let at_n : IsLongest (viable_row (json d ∷ [])) bytes n = subst (λ (m : ℕ). IsLongest (viable_row (json d ∷ [])) bytes m) same all in
    record {
      within = at_n.within;
      begun = one_row (json d) (take n bytes) at_n.begun;
      no_longer = λ more above within h. at_n.no_longer more above within (inl h);
    }

-- An answer of `json_text` is `document`'s, or tells of the bytes.
answer : (bytes : List ℕ) (depth : ℕ) → ((utf8_valid_len bytes == length bytes) ≡ true × json_text bytes depth ≡ document depth bytes) ⊎ (json_text bytes depth ≡ Err (BadUtf8 (utf8_valid_len bytes)))
answer bytes depth = by (utf8_valid_len bytes == length bytes) refl where
  by : (t : Bool) → (utf8_valid_len bytes == length bytes) ≡ t
      → ((utf8_valid_len bytes == length bytes) ≡ true × cond t (document depth bytes) (Err (BadUtf8 (utf8_valid_len bytes))) ≡ document depth bytes) ⊎ (cond t (document depth bytes) (Err (BadUtf8 (utf8_valid_len bytes))) ≡ Err (BadUtf8 (utf8_valid_len bytes)))
  by true is = inl (is, refl)
  by false is = inr refl

read_of : (bytes : List ℕ) (depth : ℕ) (j : Json) → json_text bytes depth ≡ Ok j → document depth bytes ≡ Ok j
read_of bytes depth j is = elim (answer bytes depth) [ inl a ↦ sym a.1 ∙ is | inr b ↦ absurd (let e = sym b ∙ is in cc) ]

bad_of : (bytes : List ℕ) (depth at : ℕ) → json_text bytes depth ≡ Err (BadJson at) → document depth bytes ≡ Err (BadJson at)
bad_of bytes depth at is = elim (answer bytes depth) [ inl a ↦ sym a.1 ∙ is | inr b ↦ absurd (let e = sym b ∙ is in cc) ]

deep_of : (bytes : List ℕ) (depth at : ℕ) → json_text bytes depth ≡ Err (TooDeep at) → document depth bytes ≡ Err (TooDeep at)
deep_of bytes depth at is = elim (answer bytes depth) [ inl a ↦ sym a.1 ∙ is | inr b ↦ absurd (let e = sym b ∙ is in cc) ]

-- what is read is spelled so
pub read_spelled : (bytes : List ℕ) (depth : ℕ) (j : Json) → json_text bytes depth ≡ Ok j → spells (json depth) bytes
read_spelled bytes depth j is =
    let o : ℕ × Bool = run (json depth ∷ []) bytes in
    let ends : Judged false o (record { at = 0; left = bytes }) (Ok j) = subst (Judged false o (record { at = 0; left = bytes })) (read_of bytes depth j is) (judged false depth depth refl bytes) in
    one_spelled (json depth) bytes (spelled_of_run (json depth ∷ []) bytes ends)

-- what is spelled so is read
spelled_read : (depth : ℕ) (bytes : List ℕ) (res : Result Json JsonFault) → Judged false (run (json depth ∷ []) bytes) (record { at = 0; left = bytes }) res → (run (json depth ∷ []) bytes).1 ≡ true → IsOk res
spelled_read depth bytes (Ok j) h is = refl
spelled_read depth bytes (Err (BadJson at)) h is = absurd (let e = ap (λ (o : ℕ × Bool). o.1) h.runs in let f : true ≡ false = sym is ∙ e in cc)
spelled_read depth bytes (Err (TooDeep at)) h is = absurd (let e = ap (λ (o : ℕ × Bool). o.1) h.runs in let f : true ≡ false = sym is ∙ e in cc)
spelled_read depth bytes (Err (BadUtf8 at)) h is = absurd h
spelled_read depth bytes (Err NoMemory) h is = absurd h

pub spelled_is_read : (bytes : List ℕ) (depth : ℕ) → IsUtf8 bytes → spells (json depth) bytes → IsOk (json_text bytes depth)
spelled_is_read bytes depth utf8 spelled =
    let runs : (run (json depth ∷ []) bytes).1 ≡ true = run_of_spelled (json depth ∷ []) bytes (json_fits depth) (bytes, [], spelled, refl, sym (append-nil bytes)) in
    subst (λ (res : Result Json JsonFault). IsOk res) (sym (same_length bytes (utf8_valid_len-IsUtf8 bytes utf8) depth)) (spelled_read depth bytes (document depth bytes) (judged false depth depth refl bytes) runs)

-- BadJson stands at the end of the longest viable prefix, in a grammar at least as deep
bad_at : (deeper : Bool) (depth d : ℕ) → Depths deeper depth d → (bytes : List ℕ) (at : ℕ) → json_text bytes depth ≡ Err (BadJson at) → IsLongest (viable (json d)) bytes at
bad_at deeper depth d deep bytes at is =
    let o : ℕ × Bool = run (json d ∷ []) bytes in
    let stops : Judged deeper o (record { at = 0; left = bytes }) (Err (BadJson at)) = subst (Judged deeper o (record { at = 0; left = bytes })) (bad_of bytes depth at is) (judged deeper depth d deep bytes) in
    longest_of d bytes at (omega (arith, stops.place, ap (λ (p : ℕ × Bool). p.0) stops.runs))

pub bad_longest : (bytes : List ℕ) (depth at d : ℕ) → json_text bytes depth ≡ Err (BadJson at) → depth ≤ d → IsLongest (viable (json d)) bytes at
bad_longest bytes depth at d is le = by_depth (same_or_less depth d le) where
  same_or_less : (a b : ℕ) → a ≤ b → (a ≡ b) ⊎ (a < b)
  same_or_less zero zero h = inl refl
  same_or_less zero (suc b) h = inr (omega arith)
  same_or_less (suc a) zero h = absurd (omega arith)
  same_or_less (suc a) (suc b) h = elim (same_or_less a b (omega arith)) [ inl e ↦ inl (ap suc e) | inr l ↦ inr (omega arith) ]

  by_depth : (depth ≡ d) ⊎ (depth < d) → IsLongest (viable (json d)) bytes at
  by_depth (inl e) = bad_at false depth d e bytes at is
  by_depth (inr l) = bad_at true depth d l bytes at is

-- TooDeep stands at the end of the longest viable prefix of the grammar of that depth
pub deep_longest : (bytes : List ℕ) (depth at : ℕ) → json_text bytes depth ≡ Err (TooDeep at) → IsLongest (viable (json depth)) bytes at
deep_longest bytes depth at is =
    let o : ℕ × Bool = run (json depth ∷ []) bytes in
    let stops : Judged false o (record { at = 0; left = bytes }) (Err (TooDeep at)) = subst (Judged false o (record { at = 0; left = bytes })) (deep_of bytes depth at is) (judged false depth depth refl bytes) in
    longest_of depth bytes at (omega (arith, stops.place, ap (λ (p : ℕ × Bool). p.0) stops.runs))

-- a deeper grammar goes on there
pub deep_goes_on : (bytes : List ℕ) (depth at d : ℕ) → json_text bytes depth ≡ Err (TooDeep at) → depth < d → (n : ℕ) × (at < n) × IsLongest (viable (json d)) bytes n
deep_goes_on bytes depth at d is less =
    let o : ℕ × Bool = run (json d ∷ []) bytes in
    let opens : Judged true o (record { at = 0; left = bytes }) (Err (TooDeep at)) = subst (Judged true o (record { at = 0; left = bytes })) (deep_of bytes depth at is) (judged true depth d less bytes) in
    (o.0, omega (arith, opens.place, opens.further), longest_of d bytes o.0 refl)
