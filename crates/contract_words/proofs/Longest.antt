-- The longest viable front of a text is where the row stops.
use Rattle.std.proofs.Common.{◌≡◌, ◌<◌, ◌≤◌, ℕ, zero, suc, Bool, true, false, List, [], ◌∷◌, ◌++◌, length, take, Option, Some, None, refl, ap, sym, ◌∙◌, inl, inr, append_assoc, subst, cond, arith}
use Rattle.std.specs.Prelude.{◌⊎◌, ◌&&◌, ◌||◌}
use Rattle.contract_words.specs.Grammar.{Rule, nothing, byte, alt, seq, many, spells, nullable, first, after}
use Rattle.contract_words.specs.Fronts.{IsLongest}
use Rattle.contract_words.specs.Rows.{viable_row, row_first, fits, fits_row, step, stop, one_more}
use Rattle.contract_words.proofs.Predictive.{into, skip, row_empty, and_l, and_r, false_or}

-- the empty text is spelled where a rule is nullable
or_cases : (a b : Bool) → (a || b) ≡ true → (a ≡ true) ⊎ (b ≡ true)
or_cases true b h = inl refl
or_cases false b h = inr h

pub empty_spelled : (r : Rule) → nullable r ≡ true → spells r []
empty_spelled nothing h = refl
empty_spelled (byte p) h = absurd cc
empty_spelled (alt l r) h = elim (or_cases (nullable l) (nullable r) h) [ inl k ↦ inl (empty_spelled l k) | inr k ↦ inr (empty_spelled r k) ]
empty_spelled (seq l r) h = ([], [], empty_spelled l (and_l (nullable l) (nullable r) h), empty_spelled r (and_r (nullable l) (nullable r) h), refl)
empty_spelled (many a) h = (zero, refl)

-- the ways back
whole_left : (l r : Rule) (rs : List Rule) (text : List ℕ) → viable_row (l ∷ rs) text → viable_row (alt l r ∷ rs) text
whole_left l r rs text (inl h) = inl (inl h)
whole_left l r rs text (inr h) = inr (h.0, h.1, inl h.2, h.3, h.4)

whole_right : (l r : Rule) (rs : List Rule) (text : List ℕ) → viable_row (r ∷ rs) text → viable_row (alt l r ∷ rs) text
whole_right l r rs text (inl h) = inl (inr h)
whole_right l r rs text (inr h) = inr (h.0, h.1, inr h.2, h.3, h.4)

joined_in : (l r : Rule) (rs : List Rule) (text x y : List ℕ) → spells l x → viable_row (r ∷ rs) y → text ≡ x ++ y → viable_row (seq l r ∷ rs) text
joined_in l r rs text x y s (inl h) e = inl (inr (x, y, s, h, e))
joined_in l r rs text x y s (inr h) e =
    inr (x ++ h.0, h.1, (x, h.0, s, h.2, refl), h.3, e ∙ (ap (λ (t : List ℕ). x ++ t) h.4 ∙ sym (append_assoc x h.0 h.1)))

joined : (l r : Rule) (rs : List Rule) (text : List ℕ) → viable_row (l ∷ r ∷ rs) text → viable_row (seq l r ∷ rs) text
joined l r rs text (inl h) = inl (inl h)
joined l r rs text (inr h) = joined_in l r rs text h.0 h.1 h.2 h.3 h.4

turn_in : (a : Rule) (rs : List Rule) (text x y : List ℕ) → spells a x → viable_row (many a ∷ rs) y → text ≡ x ++ y → viable_row (many a ∷ rs) text
turn_in a rs text x y s (inl h) e =
    inl (suc h.0, x ++ h.1, h.2, (x, h.1, s, h.3, refl), h.4, e ∙ (ap (λ (t : List ℕ). x ++ t) h.5 ∙ sym (append_assoc x h.1 h.2)))
turn_in a rs text x y s (inr h) e =
    let t = h.2 in
    inr (x ++ h.0, h.1, (suc t.0, (x, h.0, s, t.1, refl)), h.3, e ∙ (ap (λ (u : List ℕ). x ++ u) h.4 ∙ sym (append_assoc x h.0 h.1)))

turn : (a : Rule) (rs : List Rule) (text : List ℕ) → viable_row (a ∷ many a ∷ rs) text → viable_row (many a ∷ rs) text
turn a rs text (inl h) = inl (zero, [], text, refl, h, refl)
turn a rs text (inr h) = turn_in a rs text h.0 h.1 h.2 h.3 h.4

abbrev Comes : Rule → ℕ → Type 0
Comes r b = (rs : List Rule) → first r b ≡ true → (z : List ℕ) → viable_row (after r b ++ rs) z → viable_row (r ∷ rs) (b ∷ z)

out_alt : (l r : Rule) (b : ℕ) → Comes l b → Comes r b → (rs : List Rule) → (first l b || first r b) ≡ true → (z : List ℕ) → (t : Bool) → first l b ≡ t → viable_row (cond t (after l b) (after r b) ++ rs) z → viable_row (alt l r ∷ rs) (b ∷ z)
out_alt l r b out_l out_r rs is z true e h = whole_left l r rs (b ∷ z) (out_l rs e z h)
out_alt l r b out_l out_r rs is z false e h = whole_right l r rs (b ∷ z) (out_r rs (false_or (first l b) (first r b) e is) z h)

out_seq : (l r : Rule) (b : ℕ) → Comes l b → Comes r b → (rs : List Rule) → (first l b || (nullable l && first r b)) ≡ true → (z : List ℕ) → (t : Bool) → first l b ≡ t → viable_row (cond t (after l b ++ r ∷ []) (after r b) ++ rs) z → viable_row (seq l r ∷ rs) (b ∷ z)
out_seq l r b out_l out_r rs is z true e h =
    joined l r rs (b ∷ z) (out_l (r ∷ rs) e z (subst (λ (ss : List Rule). viable_row ss z) (append_assoc (after l b) (r ∷ []) rs) h))
out_seq l r b out_l out_r rs is z false e h =
    let both = false_or (first l b) (nullable l && first r b) e is in
    joined l r rs (b ∷ z) (inr ([], b ∷ z, empty_spelled l (and_l (nullable l) (first r b) both), out_r rs (and_r (nullable l) (first r b) both) z h, refl))

pub out : (r : Rule) (b : ℕ) → Comes r b
out nothing b rs is z h = absurd cc
out (byte p) b rs is z h = inr (b ∷ [], z, (b, is, refl), h, refl)
out (alt l r) b rs is z h = out_alt l r b (out l b) (out r b) rs is z (first l b) refl h
out (seq l r) b rs is z h = out_seq l r b (out l b) (out r b) rs is z (first l b) refl h
out (many a) b rs is z h = turn a rs (b ∷ z) (out a b (many a ∷ rs) is z (subst (λ (ss : List Rule). viable_row ss z) (append_assoc (after a b) (many a ∷ []) rs) h))

-- what is left fits too
abbrev Stays : Rule → ℕ → Type 0
Stays r b = (rs : List Rule) → fits r (row_first rs) → fits_row rs → first r b ≡ true → fits_row (after r b ++ rs)

stays_alt : (l r : Rule) (b : ℕ) → Stays l b → Stays r b → (rs : List Rule) → fits (alt l r) (row_first rs) → fits_row rs → (first l b || first r b) ≡ true → (t : Bool) → first l b ≡ t → fits_row (cond t (after l b) (after r b) ++ rs)
stays_alt l r b stays_l stays_r rs f fs is true e = stays_l rs f.1 fs e
stays_alt l r b stays_l stays_r rs f fs is false e = stays_r rs f.2 fs (false_or (first l b) (first r b) e is)

stays_seq : (l r : Rule) (b : ℕ) → Stays l b → Stays r b → (rs : List Rule) → fits (seq l r) (row_first rs) → fits_row rs → (first l b || (nullable l && first r b)) ≡ true → (t : Bool) → first l b ≡ t → fits_row (cond t (after l b ++ r ∷ []) (after r b) ++ rs)
stays_seq l r b stays_l stays_r rs f fs is true e =
    subst fits_row (sym (append_assoc (after l b) (r ∷ []) rs)) (stays_l (r ∷ rs) f.0 (f.2, f.3, fs) e)
stays_seq l r b stays_l stays_r rs f fs is false e =
    stays_r rs f.2 fs (and_r (nullable l) (first r b) (false_or (first l b) (nullable l && first r b) e is))

pub stays : (r : Rule) (b : ℕ) → Stays r b
stays nothing b rs f fs is = absurd cc
stays (byte p) b rs f fs is = fs
stays (alt l r) b rs f fs is = stays_alt l r b (stays l b) (stays r b) rs f fs is (first l b) refl
stays (seq l r) b rs f fs is = stays_seq l r b (stays l b) (stays r b) rs f fs is (first l b) refl
stays (many a) b rs f fs is =
    subst fits_row (sym (append_assoc (after a b) (many a ∷ []) rs)) (stays a b (many a ∷ rs) f.1 (f, (λ null. f.2), fs) is)

-- one byte of a row
step_on : (rs : List Rule) (b : ℕ) → fits_row rs → (ss : List Rule) → step rs b ≡ Some ss
    → fits_row ss × ((z : List ℕ) → viable_row rs (b ∷ z) → viable_row ss z) × ((z : List ℕ) → viable_row ss z → viable_row rs (b ∷ z))
step_on [] b f ss e = absurd cc
step_on (r ∷ rs) b f ss e = step_rule r rs b f ss (step_on rs b f.2) (first r b) refl (nullable r) refl e
  where
    step_rule : (r : Rule) (rs : List Rule) (b : ℕ) → fits_row (r ∷ rs) → (ss : List Rule)
        → ((ss : List Rule) → step rs b ≡ Some ss → fits_row ss × ((z : List ℕ) → viable_row rs (b ∷ z) → viable_row ss z) × ((z : List ℕ) → viable_row ss z → viable_row rs (b ∷ z)))
        → (t : Bool) → first r b ≡ t → (n : Bool) → nullable r ≡ n → cond t (Some (after r b ++ rs)) (cond n (step rs b) None) ≡ Some ss
        → fits_row ss × ((z : List ℕ) → viable_row (r ∷ rs) (b ∷ z) → viable_row ss z) × ((z : List ℕ) → viable_row ss z → viable_row (r ∷ rs) (b ∷ z))
    step_rule r rs b f ss more true is n null e =
        let same : after r b ++ rs ≡ ss = cc in
        subst (λ (us : List Rule). fits_row us × ((z : List ℕ) → viable_row (r ∷ rs) (b ∷ z) → viable_row us z) × ((z : List ℕ) → viable_row us z → viable_row (r ∷ rs) (b ∷ z))) same
        (stays r b rs f.0 f.2 is, into r b rs f.0 (λ null. f.1 null b is) is, out r b rs is)
    step_rule r rs b f ss more false is true null e =
        let m = more ss e in
        (m.0, (λ z h. m.1 z (skip r rs b (λ i. absurd (cc)) z h).1), (λ z h. inr ([], b ∷ z, empty_spelled r null, m.2 z h, refl)))
    step_rule r rs b f ss more false is false null e = absurd cc

step_off : (rs : List Rule) (b : ℕ) → step rs b ≡ None → (z : List ℕ) → viable_row rs (b ∷ z) → ⊥
step_off [] b e z h = cc
step_off (r ∷ rs) b e z h = off_rule r rs b (step_off rs b) (first r b) refl (nullable r) refl e z h
  where
    off_rule : (r : Rule) (rs : List Rule) (b : ℕ) → (step rs b ≡ None → (z : List ℕ) → viable_row rs (b ∷ z) → ⊥)
        → (t : Bool) → first r b ≡ t → (n : Bool) → nullable r ≡ n → cond t (Some (after r b ++ rs)) (cond n (step rs b) None) ≡ None → (z : List ℕ) → viable_row (r ∷ rs) (b ∷ z) → ⊥
    off_rule r rs b more true is n null e z h = cc
    off_rule r rs b more false is true null e z h = more e z (skip r rs b (λ i. absurd (cc)) z h).1
    off_rule r rs b more false is false null e z h = let s = skip r rs b (λ i. absurd (cc)) z h in let k = s.0 in cc

-- the longest viable front
nothing_more : (rs : List Rule) (b : ℕ) (text : List ℕ) → step rs b ≡ None → (m : ℕ) → 0 < m → viable_row rs (take m (b ∷ text)) → ⊥
nothing_more rs b text e zero lt h = absurd (omega arith)
nothing_more rs b text e (suc m) lt h = step_off rs b e (take m text) h

goes_on : (rs ss : List Rule) (b : ℕ) (text : List ℕ) (n : ℕ) → ((z : List ℕ) → viable_row rs (b ∷ z) → viable_row ss z) → ((m : ℕ) → n < m → m ≤ length text → viable_row ss (take m text) → ⊥) → (m : ℕ) → suc n < m → m ≤ length (b ∷ text) → viable_row rs (take m (b ∷ text)) → ⊥
goes_on rs ss b text n into never zero lt le h = absurd (omega arith)
goes_on rs ss b text n into never (suc m) lt le h = never m (omega arith) (omega arith) (into (take m text) h)

pub longest : (rs : List Rule) (text : List ℕ) → fits_row rs → IsLongest (viable_row rs) text (stop rs text)
longest rs [] f = record { within = omega arith; begun = row_empty rs; no_longer = λ m lt le h. absurd (omega arith) }
longest rs (b ∷ text) f = longest_step rs b text f (λ ss. longest ss text) (step rs b) refl
  where
    longest_step : (rs : List Rule) (b : ℕ) (text : List ℕ) → fits_row rs → ((ss : List Rule) → fits_row ss → IsLongest (viable_row ss) text (stop ss text)) → (o : Option (List Rule)) → step rs b ≡ o → IsLongest (viable_row rs) (b ∷ text) (one_more o (λ ss. stop ss text))
    longest_step rs b text f more None e = record { within = omega arith; begun = row_empty rs; no_longer = λ m lt le h. nothing_more rs b text e m lt h }
    longest_step rs b text f more (Some ss) e =
        let s = step_on rs b f ss e in
        let l = more ss s.0 in
        record { within = omega (arith, l.within); begun = s.2 (take (stop ss text) text) l.begun; no_longer = λ m lt le h. goes_on rs ss b text (stop ss text) s.1 l.no_longer m lt le h }
