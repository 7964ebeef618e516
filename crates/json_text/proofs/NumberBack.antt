-- A numeral that was written is read again.
use Rattle.std.proofs.Common.{◌≡◌, ◌∙◌, ℕ, zero, suc, ◌+◌, ◌-◌, Bool, true, false, List, [], ◌∷◌, ◌++◌, length, take, Result, Ok, Err, inl, inr, refl, sym, ap, subst, arith}
use Rattle.std.specs.Prelude.{◌==◌, ◌&&◌, ◌||◌}
use Rattle.std.proofs.lemmas.Bool.Decides.{nat_tests}
use Rattle.std.proofs.lemmas.List.{append-nil}
use Rattle.contract_words.specs.Grammar.{Rule, nothing, byte, alt, seq, many, Turns, spells}
use Rattle.contract_words.specs.Rows.{row_first, fits_row}
use Rattle.pdata_value.specs.Numeral.{is_digit, is_leading, is_e, is_sign, numeral, IsNumeral}
use Rattle.json_text.specs.Place.{Rest, is_blank}
use Rattle.json_text.specs.Reading.{◌>>=◌, number_end, number}
use Rattle.json_text.specs.declared.error.JsonFault.{JsonFault}
use Rattle.json_text.specs.declared.error.JsonFault.TheVariants.{BadUtf8, BadJson, TooDeep, NoMemory}
use Rattle.json_text.proofs.Numerals.{number_end-spelled, Spelled-word}
use Rattle.contract_words.specs.Rows.{run}
use Rattle.json_text.proofs.Runs.{Goes, Follows}
use Rattle.json_text.proofs.Parts.{here}
use Rattle.json_text.proofs.NumberParts.{number_end_follows}
use Rattle.json_text.proofs.Fitting.{numeral_fits}
use Rattle.contract_words.proofs.Whole.{spelled_of_run, run_of_spelled}
use Rattle.json_text.proofs.TextBack.{rest_at}

-- Each byte of what a rule spells is of a kind.
abbrev pub Each : (ℕ → Bool) → List ℕ → Type 0
Each kind [] = Unit {0}
Each kind (b ∷ bs) = (kind b ≡ true) × Each kind bs

abbrev pub Only : (ℕ → Bool) → Rule → Type 0
Only kind nothing = Unit {0}
Only kind (byte p) = (b : ℕ) → p b ≡ true → kind b ≡ true
Only kind (alt l r) = Only kind l × Only kind r
Only kind (seq l r) = Only kind l × Only kind r
Only kind (many a) = Only kind a

each_both : (kind : ℕ → Bool) (x y : List ℕ) → Each kind x → Each kind y → Each kind (x ++ y)
each_both kind [] y h k = k
each_both kind (b ∷ x) y h k = (h.0, each_both kind x y h.1 k)

each_turns : (kind : ℕ → Bool) (a : Rule) → ((w : List ℕ) → spells a w → Each kind w) → (n : ℕ) (w : List ℕ) → Turns (spells a) n w → Each kind w
each_turns kind a below zero w t = subst (Each kind) (sym t) tt
each_turns kind a below (suc n) w t = subst (Each kind) (sym t.4) (each_both kind t.0 t.1 (below t.0 t.2) (each_turns kind a below n t.1 t.3))

pub each_spelled : (kind : ℕ → Bool) (r : Rule) → Only kind r → (w : List ℕ) → spells r w → Each kind w
each_spelled kind nothing o w s = subst (Each kind) (sym s) tt
each_spelled kind (byte p) o w s = subst (Each kind) (sym s.2) (o s.0 s.1, tt)
each_spelled kind (alt l r) o w (inl s) = each_spelled kind l o.0 w s
each_spelled kind (alt l r) o w (inr s) = each_spelled kind r o.1 w s
each_spelled kind (seq l r) o w s = subst (Each kind) (sym s.4) (each_both kind s.0 s.1 (each_spelled kind l o.0 s.0 s.2) (each_spelled kind r o.1 s.1 s.3))
each_spelled kind (many a) o w s = each_turns kind a (each_spelled kind a o) s.0 w s.1

-- the bytes of numerals
abbrev pub numeric : ℕ → Bool
numeric b = is_digit b || ((b == 46) || (is_e b || is_sign b))

pub numeral_only : Only numeric numeral
numeral_only = ((minus, tt), ((zero_digit, (lead, digit)), (((point, (digit, digit)), tt), ((letter, ((sign, tt), (digit, digit))), tt)))) where
  minus : (b : ℕ) → (b == 45) ≡ true → numeric b ≡ true
  minus b h = grind (arith, nat_tests)

  zero_digit : (b : ℕ) → (b == 48) ≡ true → numeric b ≡ true
  zero_digit b h = grind (arith, nat_tests)

  lead : (b : ℕ) → is_leading b ≡ true → numeric b ≡ true
  lead b h = grind (arith, nat_tests)

  digit : (b : ℕ) → is_digit b ≡ true → numeric b ≡ true
  digit b h = grind (arith, nat_tests)

  point : (b : ℕ) → (b == 46) ≡ true → numeric b ≡ true
  point b h = grind (arith, nat_tests)

  letter : (b : ℕ) → is_e b ≡ true → numeric b ≡ true
  letter b h = grind (arith, nat_tests)

  sign : (b : ℕ) → is_sign b ≡ true → numeric b ≡ true
  sign b h = grind (arith, nat_tests)

-- what may stand behind a value: nothing, or a byte that goes on or closes
abbrev pub closing : ℕ → Bool
closing b = (b == 44) || ((b == 93) || (b == 125))

pub data Ended : List ℕ → Type 0 where
  at_end : Ended []
  closed : (b : ℕ) (tail : List ℕ) → closing b ≡ true → Ended (b ∷ tail)

-- or a blank
abbrev pub stopping : ℕ → Bool
stopping b = is_blank b || closing b

pub data Stopped : List ℕ → Type 0 where
  at_stop : Stopped []
  stopped : (b : ℕ) (tail : List ℕ) → stopping b ≡ true → Stopped (b ∷ tail)

pub ended_stops : (rest : List ℕ) → Ended rest → Stopped rest
ended_stops [] e = at_stop
ended_stops (b ∷ tail) (closed c more is) = stopped b tail (closing_stops b is) where
  closing_stops : (b : ℕ) → closing b ≡ true → stopping b ≡ true
  closing_stops b h = grind (arith, nat_tests)

abbrev anything : ℕ → Bool
anything b = true

abbrev rest_rule : Rule
rest_rule = alt nothing (seq (byte stopping) (many (byte anything)))

any_turns : (tail : List ℕ) → Turns (spells (byte anything)) (length tail) tail
any_turns [] = refl
any_turns (b ∷ tail) = (b ∷ [], tail, (b, refl, refl), any_turns tail, refl)

stopped_spelled : (rest : List ℕ) → Stopped rest → spells rest_rule rest
stopped_spelled [] e = inl refl
stopped_spelled (b ∷ tail) (stopped c more is) = inr (b ∷ [], tail, (b, is, refl), (length tail, any_turns tail), refl)

stopped_of : (left : List ℕ) → spells rest_rule left → Stopped left
stopped_of left (inl s) = subst Stopped (sym s) at_stop
stopped_of left (inr s) =
    let first_byte = s.2 in
    subst Stopped (sym (s.4 ∙ ap (λ (x : List ℕ). x ++ s.1) first_byte.2)) (stopped first_byte.0 s.1 first_byte.1)

none_both : {X : Type 0} → false ≡ true → X
none_both e = absurd cc

rows_fit : fits_row (numeral ∷ rest_rule ∷ [])
rows_fit = (
  numeral_fits (row_first (rest_rule ∷ [])) apart,
  none_both,
  (((λ b h k. none_both h), tt, (tt, none_both, (refl, tt, λ b h k. none_both k), (λ null b h k. none_both k))), (λ null b h k. none_both k), tt),
) where
  apart : (b : ℕ) → (is_digit b || ((b == 46) || is_e b)) ≡ true → ((false || (stopping b || (false && true))) || (true && false)) ≡ true → ⊥
  apart b h k = grind (arith, nat_tests)

not_numeric : (b c : ℕ) → b ≡ c → numeric b ≡ true → stopping c ≡ true → ⊥
not_numeric b c same h k = clash b h (subst (λ (n : ℕ). stopping n ≡ true) (sym same) k) where
  clash : (b : ℕ) → numeric b ≡ true → stopping b ≡ true → ⊥
  clash b h k = grind (arith, nat_tests)

-- two cuts behind a numeral are one
only_cut : (s w rest left : List ℕ) → Each numeric s → Each numeric w → Stopped rest → Stopped left → s ++ rest ≡ w ++ left → (w ≡ s) × (left ≡ rest)
only_cut [] [] rest left es ew er el is = (refl, sym is)
only_cut [] (b ∷ w) [] left es ew er el is = absurd cc
only_cut [] (b ∷ w) (c ∷ rest) left es ew (stopped d more k) el is = absurd (not_numeric b c (let same : b ≡ c = cc in same) ew.0 k)
only_cut (a ∷ s) [] rest [] es ew er el is = absurd cc
only_cut (a ∷ s) [] rest (c ∷ left) es ew er (stopped d more k) is = absurd (not_numeric a c (let same : a ≡ c = cc in same) es.0 k)
only_cut (a ∷ s) (b ∷ w) rest left es ew er el is =
    let head_same : b ≡ a = cc in
    let tail_same : s ++ rest ≡ w ++ left = cc in
    let below = only_cut s w rest left es.1 ew.1 er el tail_same in
    (ap (λ (n : ℕ). n ∷ w) head_same ∙ ap (λ (z : List ℕ). a ∷ z) below.0, below.1)

accepted : (s rest : List ℕ) → IsNumeral s → Stopped rest → (run (numeral ∷ rest_rule ∷ []) (s ++ rest)).1 ≡ true
accepted s rest numeral_is stops =
    run_of_spelled (numeral ∷ rest_rule ∷ []) (s ++ rest) rows_fit (s, rest, numeral_is, (rest, [], stopped_spelled rest stops, refl, sym (append-nil rest)), refl)

module _ (s rest : List ℕ) (at : ℕ) (numeral_is : IsNumeral s) (stops : Stopped rest) where
  found : (e : Rest) → number_end (rest_at at (s ++ rest)) ≡ Ok e → Goes 1 (run (numeral ∷ rest_rule ∷ []) (s ++ rest)) (rest_at at (s ++ rest)) (rest_rule ∷ []) e
      → number (rest_at at (s ++ rest)) ≡ Ok (s, rest_at (at + length s) rest)
  found e read goes =
      let r : Rest = rest_at at (s ++ rest) in
      let left_runs : (run (rest_rule ∷ []) e.left).1 ≡ true = sym (ap (λ (o : ℕ × Bool). o.1) goes.runs) ∙ accepted s rest numeral_is stops in
      let row = spelled_of_run (rest_rule ∷ []) e.left left_runs in
      let left_is : spells rest_rule e.left = subst (spells rest_rule) (sym (row.4 ∙ ap (λ (y : List ℕ). row.0 ++ y) row.3 ∙ append-nil row.0)) row.2 in
      let spelled = number_end-spelled r e read in
      let cut = only_cut s spelled.word rest e.left (each_spelled numeric numeral numeral_only s numeral_is) (each_spelled numeric numeral numeral_only spelled.word spelled.spelled) stops (stopped_of e.left left_is) spelled.whole in
      let place : e.at ≡ at + length s = spelled.place ∙ ap (λ (w : List ℕ). at + length w) cut.0 in
      ap (λ (m : Result Rest JsonFault). m >>= λ q. Ok (take (length (s ++ rest) - length q.left) (s ++ rest), q)) read
      ∙ ap (λ (w : List ℕ). Ok (w, e)) (Spelled-word numeral r e spelled ∙ cut.0)
      ∙ ap (λ (n : ℕ). Ok (s, rest_at n e.left)) place ∙ ap (λ (l : List ℕ). Ok (s, rest_at (at + length s) l)) cut.1

  by_answer : (res : Result Rest JsonFault) → number_end (rest_at at (s ++ rest)) ≡ res → Follows here false 1 (run (numeral ∷ rest_rule ∷ []) (s ++ rest)) (rest_at at (s ++ rest)) (rest_rule ∷ []) res
      → number (rest_at at (s ++ rest)) ≡ Ok (s, rest_at (at + length s) rest)
  by_answer (Ok e) read h = found e read h
  by_answer (Err (BadJson k)) read h = absurd (let e : true ≡ false = sym (accepted s rest numeral_is stops) ∙ ap (λ (o : ℕ × Bool). o.1) h.runs in cc)
  by_answer (Err (TooDeep k)) read h = absurd (let e : true ≡ false = sym (accepted s rest numeral_is stops) ∙ ap (λ (o : ℕ × Bool). o.1) h.runs in cc)
  by_answer (Err (BadUtf8 k)) read h = absurd h
  by_answer (Err NoMemory) read h = absurd h

  pub number_read : number (rest_at at (s ++ rest)) ≡ Ok (s, rest_at (at + length s) rest)
  number_read = by_answer (number_end (rest_at at (s ++ rest))) refl (number_end_follows false (rest_rule ∷ []) (rest_at at (s ++ rest)))
