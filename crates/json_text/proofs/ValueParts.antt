-- The reading of a value does what the value's rule does.
use Rattle.std.proofs.Common.{◌≡◌, ◌∙◌, ℕ, zero, suc, ◌+◌, ◌<◌, ◌≤◌, Bool, true, false, List, [], ◌∷◌, ◌++◌, length, get_or, Option, Some, None, ◌⊎◌, inl, inr, Result, Ok, Err, refl, sym, ap, subst, arith, cond}
use Rattle.std.specs.Prelude.{◌&&◌, ◌||◌, ◌==◌, codes}
use Rattle.std.proofs.lemmas.Bool.Decides.{nat_tests}
use Rattle.contract_words.specs.Grammar.{Rule, alt, seq, many, nullable, first, after}
use Rattle.contract_words.specs.Rows.{step}
use Rattle.pdata_value.specs.Numeral.{numeral}
use Rattle.json_text.specs.Place.{Rest, past, is_blank, blanks}
use Rattle.json_text.specs.Reading.{Reads, ◌>>=◌, with_front, this, these, number, quoted, comma_or, more, elements, sequence, member, make, literal, scalar, value}
use Rattle.json_text.specs.Grammar.{one, ws, word_rule, text_rule, scalar_rule, comma_rule, sequence_rule, list_rule, member_rule, object_rule, value_rule}
use Rattle.json_text.specs.declared.json.Json.{Json}
use Rattle.json_text.specs.declared.json.JsonKind.{JsonKind}
use Rattle.json_text.specs.declared.json.JsonKind.TheVariants as kinds
use Rattle.json_text.specs.declared.error.JsonFault.{JsonFault}
use Rattle.json_text.specs.declared.error.JsonFault.TheVariants.{BadJson, TooDeep}
use Rattle.contract_words.specs.Rows.{run, row_nullable}
use Rattle.contract_words.proofs.Machine.{run-steps, run-seq, step-right, step-left, step-turn, step-end}
use Rattle.json_text.proofs.Runs.{Opens, Deep, Follows, follows_then, follows_bind, follows_from, follows_same, follows_less, goes_on, Goes-shorter, Goes-no_longer}
use Rattle.json_text.proofs.Parts.{here, behind_it, byte_goes, byte_stops, stops_here, stops_same, this_follows, word_follows, these_follows, behind_follows}
use Rattle.json_text.proofs.NumberParts.{number_follows}
use Rattle.json_text.proofs.TextParts.{quoted_follows}

same_number : (a b : ℕ) → (a == b) ≡ true → b ≡ a
same_number a b is = grind (arith, nat_tests)

-- which case of a scalar begins with the byte
module _ (rs : List Rule) (x : ℕ) where
  text_step : (x == 34) ≡ true → step (scalar_rule ∷ rs) x ≡ step (text_rule ∷ rs) x
  text_step is = subst (λ (y : ℕ). step (scalar_rule ∷ rs) y ≡ step (text_rule ∷ rs) y) (same_number x 34 is) refl

  true_step : (x == 116) ≡ true → step (scalar_rule ∷ rs) x ≡ step (word_rule (codes "true") ∷ rs) x
  true_step is = subst (λ (y : ℕ). step (scalar_rule ∷ rs) y ≡ step (word_rule (codes "true") ∷ rs) y) (same_number x 116 is) refl

  false_step : (x == 102) ≡ true → step (scalar_rule ∷ rs) x ≡ step (word_rule (codes "false") ∷ rs) x
  false_step is = subst (λ (y : ℕ). step (scalar_rule ∷ rs) y ≡ step (word_rule (codes "false") ∷ rs) y) (same_number x 102 is) refl

  null_step : (x == 110) ≡ true → step (scalar_rule ∷ rs) x ≡ step (word_rule (codes "null") ∷ rs) x
  null_step is = subst (λ (y : ℕ). step (scalar_rule ∷ rs) y ≡ step (word_rule (codes "null") ∷ rs) y) (same_number x 110 is) refl

  number_step : (x == 34) ≡ false → (x == 116) ≡ false → (x == 102) ≡ false → (x == 110) ≡ false → step (scalar_rule ∷ rs) x ≡ step (numeral ∷ rs) x
  number_step a b c d =
      step-right text_rule (alt numeral (alt (word_rule (codes "true")) (alt (word_rule (codes "false")) (word_rule (codes "null"))))) rs x (one_test (x == 34) a) refl
      ∙ step-left numeral (alt (word_rule (codes "true")) (alt (word_rule (codes "false")) (word_rule (codes "null")))) rs x (three_tests (x == 116) (x == 102) (x == 110) b c d) refl
    where
      one_test : (s : Bool) → s ≡ false → (s || (false && false)) ≡ false
      one_test s e = rw e refl

      three_tests : (s t u : Bool) → s ≡ false → t ≡ false → u ≡ false → ((s || (false && false)) || ((t || (false && false)) || (u || (false && false)))) ≡ false
      three_tests s t u e f g = rw (e, f, g) refl

begins : (a : Bool) → a ≡ true → (a || (false && false)) ≡ true
begins a is = rw is refl

close_first : (fl fr nl nr : Bool) (a b rs : List Rule) (o : Option (List Rule)) → fl ≡ true → cond (fl || fr) (Some (cond fl a b ++ rs)) (cond (nl || nr) o None) ≡ cond fl (Some (a ++ rs)) (cond nl o None)
close_first true fr nl nr a b rs o is = refl
close_first false fr nl nr a b rs o is = absurd cc

-- a case that begins with the byte, before another
step-first : (l r : Rule) (rs : List Rule) (b : ℕ) → first l b ≡ true → step (alt l r ∷ rs) b ≡ step (l ∷ rs) b
step-first l r rs b is = close_first (first l b) (first r b) (nullable l) (nullable r) (after l b) (after r b) rs (step rs b) is

no_end : (n a b c : Bool) → n ≡ false → ((false || (((n && a) && b) && false)) && c) ≡ false
no_end n a b c is = rw is refl

no_rest : (n a b : Bool) → n ≡ false → ((n && a) && b) ≡ false
no_rest n a b is = rw is refl

no_value : (d : ℕ) → nullable (value_rule d) ≡ false
no_value zero = refl
no_value (suc d) = refl

two_none : (s t : Bool) → (s || t) ≡ false → ((s || (false && false)) || (t || (false && false))) ≡ false
two_none true t h = absurd cc
two_none false true h = absurd cc
two_none false false h = refl

two_cases : (s t : Bool) → (s || t) ≡ true → (s ≡ true) ⊎ (t ≡ true)
two_cases true t h = inl refl
two_cases false t h = inr h

-- whether the grammar nests as deep as the reading, or deeper
abbrev pub Depths : Bool → ℕ → ℕ → Type 0
Depths false depth d = depth ≡ d
Depths true depth d = depth < d

no_depth : (deeper : Bool) (depth : ℕ) → Depths deeper (suc depth) 0 → ⊥
no_depth true depth h = omega arith
no_depth false depth h = omega arith

less_depth : (deeper : Bool) (depth d : ℕ) → Depths deeper (suc depth) (suc d) → Depths deeper depth d
less_depth true depth d h = omega arith
less_depth false depth d h = omega arith

none_begins : (a : Bool) → a ≡ false → (a || (false && false)) ≡ false
none_begins a is = rw is refl

module _ (deeper : Bool) where
  make_follows : {X : Type 0} (kind : X → JsonKind) (a : ℕ) (o : ℕ × Bool) (start place : Rest) (rs : List Rule) (read : Reads X) → Follows behind_it deeper a o start rs read → Follows behind_it deeper a o start rs (make place kind read)
  make_follows kind a o start place rs read h =
      follows_less behind_it deeper a (a + 0) o start rs (make place kind read) (omega arith)
      (follows_bind behind_it behind_it deeper a 0 o start rs rs read (λ p. Ok (record { at = place.at; kind = kind p.0 }, p.1)) h (λ p. goes_on (run rs p.1.left) p.1 rs refl))

  literal_follows : (kind : JsonKind) (word : List ℕ) (rs : List Rule) (r : Rest) (o : ℕ × Bool) → Follows here deeper 1 o r rs (these word r) → Follows behind_it deeper 1 o r rs (make r (λ k. k) (literal kind word r))
  literal_follows kind word rs r o h =
      make_follows (λ k. k) 1 o r r rs (literal kind word r) (follows_bind here behind_it deeper 1 0 o r rs rs (these word r) (λ e. Ok (kind, e)) h (λ e. goes_on (run rs e.left) e rs refl))

  -- a scalar, of rows that do what the scalar's rule does at the next byte
  scalar_case : (rows rs : List Rule) (at x : ℕ) (xs : List ℕ) → step rows x ≡ step (scalar_rule ∷ rs) x → (s t u v : Bool) → (x == 34) ≡ s → (x == 116) ≡ t → (x == 102) ≡ u → (x == 110) ≡ v
      → let start : Rest = record { at = at; left = x ∷ xs } in Follows behind_it deeper 1 (run rows (x ∷ xs)) start rs
      (cond s (make start kinds.Text (quoted start)) (cond t (make start (λ k. k) (literal (kinds.Truth true) (codes "true") start))
      (cond u (make start (λ k. k) (literal (kinds.Truth false) (codes "false") start)) (cond v (make start (λ k. k) (literal kinds.Null (codes "null") start)) (make start kinds.Number (number start))))))
  scalar_case rows rs at x xs same true t u v a b c d =
      let start : Rest = record { at = at; left = x ∷ xs } in
      follows_same behind_it deeper 1 _ _ start rs (make start kinds.Text (quoted start)) (run-steps rows (text_rule ∷ rs) x xs (same ∙ text_step rs x a)) (make_follows kinds.Text 1 _ start start rs (quoted start) (quoted_follows deeper rs start))
  scalar_case rows rs at x xs same false true u v a b c d =
      let start : Rest = record { at = at; left = x ∷ xs } in
      literal_follows (kinds.Truth true) (codes "true") rs start (run rows (x ∷ xs))
      (follows_same here deeper 1 _ _ start rs (these (codes "true") start) (run-steps rows (word_rule (codes "true") ∷ rs) x xs (same ∙ true_step rs x b)) (word_follows deeper 116 (codes "rue") refl rs start (these_follows deeper (codes "rue") refl rs)))
  scalar_case rows rs at x xs same false false true v a b c d =
      let start : Rest = record { at = at; left = x ∷ xs } in
      literal_follows (kinds.Truth false) (codes "false") rs start (run rows (x ∷ xs))
      (follows_same here deeper 1 _ _ start rs (these (codes "false") start) (run-steps rows (word_rule (codes "false") ∷ rs) x xs (same ∙ false_step rs x c)) (word_follows deeper 102 (codes "alse") refl rs start (these_follows deeper (codes "alse") refl rs)))
  scalar_case rows rs at x xs same false false false true a b c d =
      let start : Rest = record { at = at; left = x ∷ xs } in
      literal_follows kinds.Null (codes "null") rs start (run rows (x ∷ xs))
      (follows_same here deeper 1 _ _ start rs (these (codes "null") start) (run-steps rows (word_rule (codes "null") ∷ rs) x xs (same ∙ null_step rs x d)) (word_follows deeper 110 (codes "ull") refl rs start (these_follows deeper (codes "ull") refl rs)))
  scalar_case rows rs at x xs same false false false false a b c d =
      let start : Rest = record { at = at; left = x ∷ xs } in
      follows_same behind_it deeper 1 _ _ start rs (make start kinds.Number (number start)) (run-steps rows (numeral ∷ rs) x xs (same ∙ number_step rs x a b c d)) (make_follows kinds.Number 1 _ start start rs (number start) (number_follows deeper rs start))

  scalar_at : (rows rs : List Rule) (at x : ℕ) (xs : List ℕ) → step rows x ≡ step (scalar_rule ∷ rs) x
      → Follows behind_it deeper 1 (run rows (x ∷ xs)) (record { at = at; left = x ∷ xs }) rs (scalar (record { at = at; left = x ∷ xs }))
  unfolding scalar
  scalar_at rows rs at x xs same = scalar_case rows rs at x xs same (x == 34) (x == 116) (x == 102) (x == 110) refl refl refl refl

  -- blanks
  ws_then : {B : Type 0} (pb : B → Rest) (rows rs : List Rule) (r : Rest) (res : Result B JsonFault) → Follows pb deeper 1 (run rows (blanks r).left) (blanks r) rs res → Follows pb deeper 1 (run (ws ∷ rows) r.left) r rs res
  ws_then pb rows rs r res h = follows_then pb deeper 0 1 _ r (blanks r) rows rs res (behind_follows deeper is_blank rows r) h

  front_follows : {X : Type 0} (front : List X) (a : ℕ) (o : ℕ × Bool) (start : Rest) (rs : List Rule) (read : Reads (List X)) → Follows behind_it deeper a o start rs read → Follows behind_it deeper a o start rs (with_front front read)
  front_follows front a o start rs read h =
      follows_less behind_it deeper a (a + 0) o start rs (with_front front read) (omega arith)
      (follows_bind behind_it behind_it deeper a 0 o start rs rs read (λ p. Ok (front ++ p.0, p.1)) h (λ p. goes_on (run rs p.1.left) p.1 rs refl))

  blanks_length : (r : Rest) → length (blanks r).left ≤ length r.left
  blanks_length r = Goes-no_longer 0 (run (ws ∷ []) r.left) r [] (blanks r) (behind_follows deeper is_blank [] r)

  module _ {X : Type 0} (element : Rule) (none : nullable element ≡ false) (one_element : Rest → Reads X)
      (follows : (rs : List Rule) (r : Rest) → Follows behind_it deeper 1 (run (element ∷ rs) r.left) r rs (one_element r))
      (close : ℕ) (some : (0 == close) ≡ false) where
    abbrev loop : List Rule → List Rule
    loop rs = many (comma_rule element) ∷ one close ∷ rs

    abbrev Reading : ℕ → List Rule → Type 0
    Reading n rs = (r : Rest) → length r.left < n → Follows behind_it deeper 1 (run (seq element ws ∷ loop rs) r.left) r rs (elements one_element close n r)

    -- behind an element: a comma and the next, or the end
    after_element : (n : ℕ) (rs : List Rule) (x : X) (at b : ℕ) (bs : List ℕ) → Reading n rs → length (b ∷ bs) ≤ n → (s t : Bool) → (b == 44) ≡ s → (b == close) ≡ t
        → let start : Rest = record { at = at; left = b ∷ bs } in Follows behind_it deeper 1 (run (loop rs) (b ∷ bs)) start rs
        (cond s (Ok (true, blanks (past 1 start))) (cond t (Ok (false, past 1 start)) (Err (BadJson at))) >>= more x (elements one_element close n))
    after_element n rs x at b bs below enough true t comma closes =
        let start : Rest = record { at = at; left = b ∷ bs } in
        let mid : Rest = record { at = at + 1; left = bs } in
        let res : Reads (List X) = with_front (x ∷ []) (elements one_element close n (blanks mid)) in
        follows_less behind_it deeper 1 2 _ start rs res (omega arith)
        (follows_same behind_it deeper 2 _ _ start rs res
        (run-steps (loop rs) (comma_rule element ∷ loop rs) b bs (step-turn (comma_rule element) (one close ∷ rs) b (begins (b == 44) comma)) ∙ run-seq (one 44) (seq ws (seq element ws)) (loop rs) (b ∷ bs))
        (follows_then behind_it deeper 1 1 _ start mid (seq ws (seq element ws) ∷ loop rs) rs res (byte_goes (λ y. y == 44) (seq ws (seq element ws) ∷ loop rs) at b bs comma)
        (follows_same behind_it deeper 1 _ _ mid rs res (run-seq ws (seq element ws) (loop rs) bs)
        (ws_then behind_it (seq element ws ∷ loop rs) rs mid res
        (front_follows (x ∷ []) 1 _ (blanks mid) rs (elements one_element close n (blanks mid)) (below (blanks mid) (omega (arith, blanks_length mid))))))))
    after_element n rs x at b bs below enough false true comma closes =
        let start : Rest = record { at = at; left = b ∷ bs } in
        follows_same (behind_it {X = List X}) deeper 1 _ _ start rs (Ok (x ∷ [], past 1 start)) (run-steps (loop rs) (one close ∷ rs) b bs (step-end (comma_rule element) (one close ∷ rs) b (none_begins (b == 44) comma)))
        (byte_goes (λ y. y == close) rs at b bs closes)
    after_element n rs x at b bs below enough false false comma closes =
        stops_same _ _ (record { at = at; left = b ∷ bs }) at (run-steps (loop rs) (one close ∷ rs) b bs (step-end (comma_rule element) (one close ∷ rs) b (none_begins (b == 44) comma))) (byte_stops (λ y. y == close) rs at b bs closes)

    after_left : (n : ℕ) (rs : List Rule) (x : X) (at : ℕ) (left : List ℕ) → Reading n rs → length left ≤ n
        → Follows behind_it deeper 1 (run (loop rs) left) (record { at = at; left = left }) rs (comma_or close (record { at = at; left = left }) >>= more x (elements one_element close n))
    after_left n rs x at [] below enough =
        let start : Rest = record { at = at; left = [] } in
        subst (λ (t : Bool). Follows behind_it deeper 1 (0, false) start rs (cond t (Ok (false, past 1 start)) (Err (BadJson at)) >>= more x (elements one_element close n))) (sym some) (stops_here start)
    after_left n rs x at (b ∷ bs) below enough = after_element n rs x at b bs below enough (b == 44) (b == close) refl refl

    elements_follows : (n : ℕ) (rs : List Rule) → Reading n rs
    unfolding elements
    elements_follows zero rs r enough = absurd (omega arith)
    elements_follows (suc n) rs r enough =
        let res : Reads (List X) = one_element r >>= λ p. comma_or close (blanks p.1) >>= more p.0 (elements one_element close n) in
        follows_less behind_it deeper 1 2 _ r rs res (omega arith)
        (follows_same behind_it deeper 2 _ _ r rs res (run-seq element ws (loop rs) r.left)
        (follows_from behind_it behind_it deeper 1 1 _ r (ws ∷ loop rs) rs (one_element r) (λ p. comma_or close (blanks p.1) >>= more p.0 (elements one_element close n)) (follows (ws ∷ loop rs) r)
        (λ p g. ws_then behind_it (loop rs) rs p.1 _
        (after_left n rs p.0 (blanks p.1).at (blanks p.1).left (elements_follows n rs) (omega (arith, blanks_length p.1, Goes-shorter _ r (ws ∷ loop rs) p.1 g))))))

    abbrev filled : Rule
    filled = seq (seq (seq element ws) (many (comma_rule element))) (one close)

    run-filled : (rs : List Rule) (text : List ℕ) → run (filled ∷ rs) text ≡ run (seq element ws ∷ loop rs) text
    run-filled rs text = run-seq (seq (seq element ws) (many (comma_rule element))) (one close) rs text ∙ run-seq (seq element ws) (many (comma_rule element)) (one close ∷ rs) text

    inside_case : (n : ℕ) (rs : List Rule) (at b : ℕ) (bs : List ℕ) → length (b ∷ bs) < n → (t : Bool) → (b == close) ≡ t
        → let start : Rest = record { at = at; left = b ∷ bs } in Follows behind_it deeper 1 (run (alt (one close) filled ∷ rs) (b ∷ bs)) start rs
        (cond t (Ok ([], past 1 start)) (elements one_element close n start))
    inside_case n rs at b bs enough true is =
        let start : Rest = record { at = at; left = b ∷ bs } in
        follows_same (behind_it {X = List X}) deeper 1 _ _ start rs (Ok ([], past 1 start)) (run-steps (alt (one close) filled ∷ rs) (one close ∷ rs) b bs (step-first (one close) filled rs b is)) (byte_goes (λ y. y == close) rs at b bs is)
    inside_case n rs at b bs enough false is =
        let start : Rest = record { at = at; left = b ∷ bs } in
        follows_same behind_it deeper 1 _ _ start rs (elements one_element close n start)
        (run-steps (alt (one close) filled ∷ rs) (filled ∷ rs) b bs (step-right (one close) filled rs b is refl) ∙ run-filled rs (b ∷ bs)) (elements_follows n rs start enough)

    inside_left : (n : ℕ) (rs : List Rule) (at : ℕ) (left : List ℕ) → length left < n
        → Follows behind_it deeper 1 (run (alt (one close) filled ∷ rs) left) (record { at = at; left = left }) rs
        (cond (get_or left 0 0 == close) (Ok ([], past 1 (record { at = at; left = left }))) (elements one_element close n (record { at = at; left = left })))
    inside_left n rs at [] enough =
        let start : Rest = record { at = at; left = [] } in
        subst (λ (t : Bool). Follows behind_it deeper 1 (run (alt (one close) filled ∷ rs) []) start rs (cond t (Ok ([], past 1 start)) (elements one_element close n start))) (sym some)
        (follows_same behind_it deeper 1 _ _ start rs (elements one_element close n start)
        (ap (λ (e : Bool). (0, e)) (no_end (nullable element) true true (row_nullable rs) none ∙ sym (no_rest (nullable element) true (row_nullable (loop rs)) none))) (elements_follows n rs start enough))
    inside_left n rs at (b ∷ bs) enough = inside_case n rs at b bs enough (b == close) refl

    pub sequence_follows : (n : ℕ) (rs : List Rule) (r : Rest) → length r.left < n → Follows behind_it deeper 1 (run (sequence_rule element close ∷ rs) r.left) r rs (sequence one_element close n r)
    sequence_follows n rs r enough =
        follows_same behind_it deeper 1 _ _ r rs (sequence one_element close n r) (run-seq ws (alt (one close) filled) rs r.left)
        (ws_then behind_it (alt (one close) filled ∷ rs) rs r (sequence one_element close n r) (inside_left n rs (blanks r).at (blanks r).left (omega (arith, blanks_length r))))

  -- a member of an object
  member_follows : (rule : Rule) (read : Rest → Reads Json) → ((rs : List Rule) (r : Rest) → Follows behind_it deeper 1 (run (rule ∷ rs) r.left) r rs (read r))
      → (rs : List Rule) (r : Rest) → Follows behind_it deeper 1 (run (member_rule rule ∷ rs) r.left) r rs (member read r)
  member_follows rule read follows rs r =
      let behind_key : Rule = seq ws (seq (one 58) (seq ws rule)) in
      let behind_colon : Rule = seq ws rule in
      follows_less behind_it deeper 1 2 _ r rs (member read r) (omega arith)
      (follows_same behind_it deeper 2 _ _ r rs (member read r) (run-seq text_rule behind_key rs r.left)
      (follows_bind behind_it behind_it deeper 1 1 _ r (behind_key ∷ rs) rs (quoted r) (λ k. this 58 (blanks k.1) >>= λ c. read (blanks c) >>= λ v. Ok ((k.0, v.0), v.1)) (quoted_follows deeper (behind_key ∷ rs) r)
      (λ k.
      let mid = blanks k.1 in
      let res : Reads (List ℕ × Json) = this 58 mid >>= λ c. read (blanks c) >>= λ v. Ok ((k.0, v.0), v.1) in
      follows_same behind_it deeper 1 _ _ k.1 rs res (run-seq ws (seq (one 58) behind_colon) rs k.1.left)
      (ws_then behind_it (seq (one 58) behind_colon ∷ rs) rs k.1 res
      (follows_less behind_it deeper 1 2 _ mid rs res (omega arith)
      (follows_same behind_it deeper 2 _ _ mid rs res (run-seq (one 58) behind_colon rs mid.left)
      (follows_bind here behind_it deeper 1 1 _ mid (behind_colon ∷ rs) rs (this 58 mid) (λ c. read (blanks c) >>= λ v. Ok ((k.0, v.0), v.1)) (this_follows deeper 58 refl (behind_colon ∷ rs) mid)
      (λ c.
      let res2 : Reads (List ℕ × Json) = read (blanks c) >>= λ v. Ok ((k.0, v.0), v.1) in
      follows_same behind_it deeper 1 _ _ c rs res2 (run-seq ws rule rs c.left)
      (ws_then behind_it (rule ∷ rs) rs c res2
      (follows_less behind_it deeper 1 (1 + 0) _ (blanks c) rs res2 (omega arith)
      (follows_bind behind_it behind_it deeper 1 0 _ (blanks c) rs rs (read (blanks c)) (λ v. Ok ((k.0, v.0), v.1)) (follows rs (blanks c)) (λ v. goes_on (run rs v.1.left) v.1 rs refl))))))))))))

  -- the end of a text, where a value is wanted
  scalar_end : (rs : List Rule) (at : ℕ) → Follows behind_it deeper 1 (0, false) (record { at = at; left = [] }) rs (scalar (record { at = at; left = [] }))
  unfolding scalar
  scalar_end rs at = let start : Rest = record { at = at; left = [] } in make_follows kinds.Number 1 (0, false) start start rs (number start) (number_follows deeper rs start)

-- A container too many.
at_once : (o : ℕ × Bool) (start : Rest) (n : ℕ) → o.0 ≡ suc n → Opens o start start.at
at_once o start n is = record { count = 0; place = omega arith; further = omega (arith, is) }

too_deep : (deeper : Bool) (d : ℕ) → Depths deeper 0 d → (rs : List Rule) (at : ℕ) (xs : List ℕ)
    → Deep deeper (run (value_rule d ∷ rs) (91 ∷ xs)) (record { at = at; left = 91 ∷ xs }) at × Deep deeper (run (value_rule d ∷ rs) (123 ∷ xs)) (record { at = at; left = 123 ∷ xs }) at
too_deep true zero deep rs at xs = absurd (omega arith)
too_deep true (suc d) deep rs at xs =
    (at_once (run (value_rule (suc d) ∷ rs) (91 ∷ xs)) (record { at = at; left = 91 ∷ xs }) _ refl, at_once (run (value_rule (suc d) ∷ rs) (123 ∷ xs)) (record { at = at; left = 123 ∷ xs }) _ refl)
too_deep false zero deep rs at xs = (record { count = 0; place = omega arith; runs = refl }, record { count = 0; place = omega arith; runs = refl })
too_deep false (suc d) deep rs at xs = absurd (omega arith)

deep_at : (deeper : Bool) (d : ℕ) → Depths deeper 0 d → (rs : List Rule) (at x : ℕ) (xs : List ℕ) → (x == 91) ≡ true ⊎ (x == 123) ≡ true
    → Deep deeper (run (value_rule d ∷ rs) (x ∷ xs)) (record { at = at; left = x ∷ xs }) at
deep_at deeper d deep rs at x xs (inl is) = subst (λ (y : ℕ). Deep deeper (run (value_rule d ∷ rs) (y ∷ xs)) (record { at = at; left = y ∷ xs }) at) (same_number x 91 is) (too_deep deeper d deep rs at xs).0
deep_at deeper d deep rs at x xs (inr is) = subst (λ (y : ℕ). Deep deeper (run (value_rule d ∷ rs) (y ∷ xs)) (record { at = at; left = y ∷ xs }) at) (same_number x 123 is) (too_deep deeper d deep rs at xs).1

module _ (rs : List Rule) (x : ℕ) where
  scalar_step : (d : ℕ) → (x == 91 || x == 123) ≡ false → step (value_rule d ∷ rs) x ≡ step (scalar_rule ∷ rs) x
  scalar_step zero is = refl
  scalar_step (suc d) is = step-left scalar_rule (alt (list_rule (value_rule d)) (object_rule (value_rule d))) rs x (two_none (x == 91) (x == 123) is) refl

  list_step : (d : ℕ) → (x == 91) ≡ true → step (value_rule (suc d) ∷ rs) x ≡ step (list_rule (value_rule d) ∷ rs) x
  list_step d is = subst (λ (y : ℕ). step (value_rule (suc d) ∷ rs) y ≡ step (list_rule (value_rule d) ∷ rs) y) (same_number x 91 is) refl

  object_step : (d : ℕ) → (x == 123) ≡ true → step (value_rule (suc d) ∷ rs) x ≡ step (object_rule (value_rule d) ∷ rs) x
  object_step d is = subst (λ (y : ℕ). step (value_rule (suc d) ∷ rs) y ≡ step (object_rule (value_rule d) ∷ rs) y) (same_number x 123 is) refl

or_both : (s t : Bool) → s ≡ false → t ≡ false → (s || t) ≡ false
or_both s t e f = rw (e, f) refl

module _ (deeper : Bool) where
  zero_case : (d : ℕ) → Depths deeper 0 d → (rs : List Rule) (at x : ℕ) (xs : List ℕ) (t : Bool) → (x == 91 || x == 123) ≡ t
      → let start : Rest = record { at = at; left = x ∷ xs } in Follows behind_it deeper 1 (run (value_rule d ∷ rs) (x ∷ xs)) start rs (cond t (Err (TooDeep at)) (scalar start))
  zero_case d deep rs at x xs true is = deep_at deeper d deep rs at x xs (two_cases (x == 91) (x == 123) is)
  zero_case d deep rs at x xs false is = scalar_at deeper (value_rule d ∷ rs) rs at x xs (scalar_step rs x d is)

  zero_left : (d : ℕ) → Depths deeper 0 d → (rs : List Rule) (at : ℕ) (left : List ℕ) → Follows behind_it deeper 1 (run (value_rule d ∷ rs) left) (record { at = at; left = left }) rs (value 0 (record { at = at; left = left }))
  unfolding value
  zero_left zero deep rs at [] = scalar_end deeper rs at
  zero_left (suc d) deep rs at [] = scalar_end deeper rs at
  zero_left d deep rs at (x ∷ xs) = zero_case d deep rs at x xs (x == 91 || x == 123) refl

  more_case : (depth d : ℕ) → ((rs : List Rule) (r : Rest) → Follows behind_it deeper 1 (run (value_rule d ∷ rs) r.left) r rs (value depth r)) → (rs : List Rule) (at x : ℕ) (xs : List ℕ) (s t : Bool) → (x == 91) ≡ s → (x == 123) ≡ t
      → let start : Rest = record { at = at; left = x ∷ xs } in Follows behind_it deeper 1 (run (value_rule (suc d) ∷ rs) (x ∷ xs)) start rs
      (cond s (make start kinds.List (sequence (value depth) 93 (length (x ∷ xs)) (past 1 start))) (cond t (make start kinds.Object (sequence (member (value depth)) 125 (length (x ∷ xs)) (past 1 start))) (scalar start)))
  more_case depth d below rs at x xs true t list object =
      let start : Rest = record { at = at; left = x ∷ xs } in
      let mid : Rest = record { at = at + 1; left = xs } in
      let res : Reads (List Json) = sequence (value depth) 93 (length (x ∷ xs)) mid in
      make_follows deeper kinds.List 1 _ start start rs res
      (follows_less behind_it deeper 1 2 _ start rs res (omega arith)
      (follows_same behind_it deeper 2 _ _ start rs res (run-steps (value_rule (suc d) ∷ rs) (list_rule (value_rule d) ∷ rs) x xs (list_step rs x d list) ∙ run-seq (one 91) (sequence_rule (value_rule d) 93) rs (x ∷ xs))
      (follows_then behind_it deeper 1 1 _ start mid (sequence_rule (value_rule d) 93 ∷ rs) rs res (byte_goes (λ y. y == 91) (sequence_rule (value_rule d) 93 ∷ rs) at x xs list)
      (sequence_follows deeper (value_rule d) (no_value d) (value depth) below 93 refl (length (x ∷ xs)) rs mid (omega arith)))))
  more_case depth d below rs at x xs false true list object =
      let start : Rest = record { at = at; left = x ∷ xs } in
      let mid : Rest = record { at = at + 1; left = xs } in
      let pair : Rule = member_rule (value_rule d) in
      let res : Reads (List (List ℕ × Json)) = sequence (member (value depth)) 125 (length (x ∷ xs)) mid in
      make_follows deeper kinds.Object 1 _ start start rs res
      (follows_less behind_it deeper 1 2 _ start rs res (omega arith)
      (follows_same behind_it deeper 2 _ _ start rs res (run-steps (value_rule (suc d) ∷ rs) (object_rule (value_rule d) ∷ rs) x xs (object_step rs x d object) ∙ run-seq (one 123) (sequence_rule pair 125) rs (x ∷ xs))
      (follows_then behind_it deeper 1 1 _ start mid (sequence_rule pair 125 ∷ rs) rs res (byte_goes (λ y. y == 123) (sequence_rule pair 125 ∷ rs) at x xs object)
      (sequence_follows deeper pair refl (member (value depth)) (member_follows deeper (value_rule d) (value depth) below) 125 refl (length (x ∷ xs)) rs mid (omega arith)))))
  more_case depth d below rs at x xs false false list object = scalar_at deeper (value_rule (suc d) ∷ rs) rs at x xs (scalar_step rs x (suc d) (or_both (x == 91) (x == 123) list object))

  more_left : (depth d : ℕ) → ((rs : List Rule) (r : Rest) → Follows behind_it deeper 1 (run (value_rule d ∷ rs) r.left) r rs (value depth r)) → (rs : List Rule) (at : ℕ) (left : List ℕ)
      → Follows behind_it deeper 1 (run (value_rule (suc d) ∷ rs) left) (record { at = at; left = left }) rs (value (suc depth) (record { at = at; left = left }))
  unfolding value
  more_left depth d below rs at [] = scalar_end deeper rs at
  more_left depth d below rs at (x ∷ xs) = more_case depth d below rs at x xs (x == 91) (x == 123) refl refl

  pub value_follows : (depth d : ℕ) → Depths deeper depth d → (rs : List Rule) (r : Rest) → Follows behind_it deeper 1 (run (value_rule d ∷ rs) r.left) r rs (value depth r)
  value_follows zero d deep rs r = zero_left d deep rs r.at r.left
  value_follows (suc depth) zero deep rs r = absurd (no_depth deeper depth deep)
  value_follows (suc depth) (suc d) deep rs r = more_left depth d (value_follows depth d (less_depth deeper depth d deep)) rs r.at r.left
