-- What a row of rules spells is what it runs through.
use Rattle.std.proofs.Common.{◌≡◌, ◌∙◌, ℕ, zero, suc, Bool, true, false, List, [], ◌∷◌, ◌++◌, Option, Some, None, refl, ap, sym, inl, inr, append_assoc, subst, cond}
use Rattle.std.specs.Prelude.{◌⊎◌, ◌↔◌, ◌&&◌, ◌||◌}
use Rattle.contract_words.specs.Grammar.{Rule, nothing, byte, alt, seq, many, Turns, spells, viable, nullable, first, after}
use Rattle.contract_words.specs.Rows.{viable_row, spells_row, row_first, row_nullable, taken, run, fits, fits_row, step}
use Rattle.contract_words.proofs.Viable.{spelled_viable}
use Rattle.contract_words.proofs.Predictive.{nullable_of, first_of, row_first_of, or_l, or_r, and_l, and_r, and_both, false_or}
use Rattle.contract_words.proofs.Longest.{empty_spelled, stays}

row_viable : (rs : List Rule) (text : List ℕ) → spells_row rs text → viable_row rs text
row_viable [] text h = h
row_viable (r ∷ rs) text h = inr (h.0, h.1, h.2, row_viable rs h.1 h.3, h.4)

-- the rules that may spell the empty text
empty_row : (rs : List Rule) → row_nullable rs ≡ true → spells_row rs []
empty_row [] h = refl
empty_row (r ∷ rs) h = ([], [], empty_spelled r (and_l (nullable r) (row_nullable rs) h), empty_row rs (and_r (nullable r) (row_nullable rs) h), refl)

null_parts : (r : Rule) (rs : List Rule) → (spells_row rs [] → row_nullable rs ≡ true) → (x y : List ℕ) → spells r x → spells_row rs y → [] ≡ x ++ y → (nullable r && row_nullable rs) ≡ true
null_parts r rs more [] [] s t e = and_both (nullable r) (row_nullable rs) (nullable_of r s) (more t)
null_parts r rs more [] (b ∷ y) s t e = absurd cc
null_parts r rs more (b ∷ x) y s t e = absurd cc

row_null : (rs : List Rule) → spells_row rs [] → row_nullable rs ≡ true
row_null [] h = refl
row_null (r ∷ rs) h = null_parts r rs (row_null rs) h.0 h.1 h.2 h.3 h.4

-- The ways back from a byte.
whole_left : (l r : Rule) (rs : List Rule) (text : List ℕ) → spells_row (l ∷ rs) text → spells_row (alt l r ∷ rs) text
whole_left l r rs text h = (h.0, h.1, inl h.2, h.3, h.4)

whole_right : (l r : Rule) (rs : List Rule) (text : List ℕ) → spells_row (r ∷ rs) text → spells_row (alt l r ∷ rs) text
whole_right l r rs text h = (h.0, h.1, inr h.2, h.3, h.4)

joined : (l r : Rule) (rs : List Rule) (text : List ℕ) → spells_row (l ∷ r ∷ rs) text → spells_row (seq l r ∷ rs) text
joined l r rs text h =
    let k = h.3 in
    (h.0 ++ k.0, k.1, (h.0, k.0, h.2, k.2, refl), k.3, h.4 ∙ (ap (λ (t : List ℕ). h.0 ++ t) k.4 ∙ sym (append_assoc h.0 k.0 k.1)))

turn : (a : Rule) (rs : List Rule) (text : List ℕ) → spells_row (a ∷ many a ∷ rs) text → spells_row (many a ∷ rs) text
turn a rs text h =
    let k = h.3 in
    let t = k.2 in
    (h.0 ++ k.0, k.1, (suc t.0, (h.0, k.0, h.2, t.1, refl)), k.3, h.4 ∙ (ap (λ (u : List ℕ). h.0 ++ u) k.4 ∙ sym (append_assoc h.0 k.0 k.1)))

abbrev Comes : Rule → ℕ → Type 0
Comes r b = (rs : List Rule) → first r b ≡ true → (z : List ℕ) → spells_row (after r b ++ rs) z → spells_row (r ∷ rs) (b ∷ z)

out_alt : (l r : Rule) (b : ℕ) → Comes l b → Comes r b → (rs : List Rule) → (first l b || first r b) ≡ true → (z : List ℕ) → (t : Bool) → first l b ≡ t → spells_row (cond t (after l b) (after r b) ++ rs) z → spells_row (alt l r ∷ rs) (b ∷ z)
out_alt l r b out_l out_r rs is z true e h = whole_left l r rs (b ∷ z) (out_l rs e z h)
out_alt l r b out_l out_r rs is z false e h = whole_right l r rs (b ∷ z) (out_r rs (false_or (first l b) (first r b) e is) z h)

out_seq : (l r : Rule) (b : ℕ) → Comes l b → Comes r b → (rs : List Rule) → (first l b || (nullable l && first r b)) ≡ true → (z : List ℕ) → (t : Bool) → first l b ≡ t → spells_row (cond t (after l b ++ r ∷ []) (after r b) ++ rs) z → spells_row (seq l r ∷ rs) (b ∷ z)
out_seq l r b out_l out_r rs is z true e h =
    joined l r rs (b ∷ z) (out_l (r ∷ rs) e z (subst (λ (ss : List Rule). spells_row ss z) (append_assoc (after l b) (r ∷ []) rs) h))
out_seq l r b out_l out_r rs is z false e h =
    let both = false_or (first l b) (nullable l && first r b) e is in
    joined l r rs (b ∷ z) ([], b ∷ z, empty_spelled l (and_l (nullable l) (first r b) both), out_r rs (and_r (nullable l) (first r b) both) z h, refl)

out : (r : Rule) (b : ℕ) → Comes r b
out nothing b rs is z h = absurd cc
out (byte p) b rs is z h = (b ∷ [], z, (b, is, refl), h, refl)
out (alt l r) b rs is z h = out_alt l r b (out l b) (out r b) rs is z (first l b) refl h
out (seq l r) b rs is z h = out_seq l r b (out l b) (out r b) rs is z (first l b) refl h
out (many a) b rs is z h = turn a rs (b ∷ z) (out a b (many a ∷ rs) is z (subst (λ (ss : List Rule). spells_row ss z) (append_assoc (after a b) (many a ∷ []) rs) h))

back_rule : (r : Rule) (rs : List Rule) (b : ℕ) (z : List ℕ) → ((ss : List Rule) → step rs b ≡ Some ss → spells_row ss z → spells_row rs (b ∷ z))
    → (t n : Bool) → first r b ≡ t → nullable r ≡ n → (ss : List Rule) → cond t (Some (after r b ++ rs)) (cond n (step rs b) None) ≡ Some ss → spells_row ss z → spells_row (r ∷ rs) (b ∷ z)
back_rule r rs b z more true n is null ss e h = out r b rs is z (subst (λ (us : List Rule). spells_row us z) (let same : ss ≡ after r b ++ rs = cc in same) h)
back_rule r rs b z more false true is null ss e h = ([], b ∷ z, empty_spelled r null, more ss e h, refl)
back_rule r rs b z more false false is null ss e h = absurd cc

back : (rs : List Rule) (b : ℕ) (z : List ℕ) (ss : List Rule) → step rs b ≡ Some ss → spells_row ss z → spells_row rs (b ∷ z)
back [] b z ss e h = absurd cc
back (r ∷ rs) b z ss e h = back_rule r rs b z (back rs b z) (first r b) (nullable r) refl refl ss e h

run_back : (rs : List Rule) (b : ℕ) (text : List ℕ) → ((ss : List Rule) → (run ss text).1 ≡ true → spells_row ss text) → (o : Option (List Rule)) → step rs b ≡ o
    → (taken o (λ ss. run ss text)).1 ≡ true → spells_row rs (b ∷ text)
run_back rs b text more None e h = absurd cc
run_back rs b text more (Some ss) e h = back rs b text ss e (more ss h)

-- what is run through is spelled
pub spelled_of_run : (rs : List Rule) (text : List ℕ) → (run rs text).1 ≡ true → spells_row rs text
spelled_of_run rs [] h = empty_row rs h
spelled_of_run rs (b ∷ text) h = run_back rs b text (λ ss. spelled_of_run ss text) (step rs b) refl h

-- The ways on with a byte.
begun : (r : Rule) (b c : ℕ) (z x y : List ℕ) → spells r (c ∷ x) → b ∷ z ≡ (c ∷ x) ++ y → first r b ≡ true
begun r b c z x y s e =
    let same : c ≡ b = cc in
    first_of r b x (subst (λ (k : ℕ). viable r (k ∷ x)) same (spelled_viable r (c ∷ x) s))

-- past a rule that doesn't begin with the byte
passed : (r : Rule) (rs : List Rule) (b : ℕ) → (first r b ≡ true → ⊥) → (z x y : List ℕ) → spells r x → spells_row rs y → b ∷ z ≡ x ++ y → (nullable r ≡ true) × spells_row rs (b ∷ z)
passed r rs b never z [] y s t e = (nullable_of r s, subst (spells_row rs) (sym e) t)
passed r rs b never z (c ∷ x) y s t e = absurd (never (begun r b c z x y s e))

skip : (r : Rule) (rs : List Rule) (b : ℕ) → (first r b ≡ true → ⊥) → (z : List ℕ) → spells_row (r ∷ rs) (b ∷ z) → (nullable r ≡ true) × spells_row rs (b ∷ z)
skip r rs b never z h = passed r rs b never z h.0 h.1 h.2 h.3 h.4

parted : (l r : Rule) (rs : List Rule) (text : List ℕ) → spells_row (alt l r ∷ rs) text → spells_row (l ∷ rs) text ⊎ spells_row (r ∷ rs) text
parted l r rs text h =
    elim h.2 [
      | inl s ↦ inl (h.0, h.1, s, h.3, h.4)
      | inr s ↦ inr (h.0, h.1, s, h.3, h.4)
    ]

regroup : (l r : Rule) (rs : List Rule) (text : List ℕ) → spells_row (seq l r ∷ rs) text → spells_row (l ∷ r ∷ rs) text
regroup l r rs text h =
    let s = h.2 in
    (s.0, s.1 ++ h.1, s.2, (s.1, h.1, s.3, h.3, refl), h.4 ∙ (ap (λ (t : List ℕ). t ++ h.1) s.4 ∙ append_assoc s.0 s.1 h.1))

turned_by : (a : Rule) (rs : List Rule) (b : ℕ) → (row_first rs b ≡ true → ⊥) → (z : List ℕ) (n : ℕ) (x y : List ℕ) → Turns (spells a) n x → spells_row rs y → b ∷ z ≡ x ++ y → spells_row (a ∷ many a ∷ rs) (b ∷ z)
turned_by a rs b never z zero x y t v e =
    absurd (never (row_first_of rs b z (subst (viable_row rs) (sym (e ∙ ap (λ (u : List ℕ). u ++ y) t)) (row_viable rs y v))))
turned_by a rs b never z (suc n) x y t v e =
    (t.0, t.1 ++ y, t.2, (t.1, y, (n, t.3), v, refl), e ∙ (ap (λ (u : List ℕ). u ++ y) t.4 ∙ append_assoc t.0 t.1 y))

turned : (a : Rule) (rs : List Rule) (b : ℕ) → (row_first rs b ≡ true → ⊥) → (z : List ℕ) → spells_row (many a ∷ rs) (b ∷ z) → spells_row (a ∷ many a ∷ rs) (b ∷ z)
turned a rs b never z h = let t = h.2 in turned_by a rs b never z t.0 h.0 h.1 t.1 h.3 h.4

one_byte : (p : ℕ → Bool) (rs : List Rule) (b : ℕ) (z : List ℕ) → spells_row (byte p ∷ rs) (b ∷ z) → spells_row rs z
one_byte p rs b z h =
    let s = h.2 in
    let e : b ∷ z ≡ (s.0 ∷ []) ++ h.1 = h.4 ∙ ap (λ (t : List ℕ). t ++ h.1) s.2 in
    subst (spells_row rs) (let same : h.1 ≡ z = cc in same) h.3

abbrev Goes : Rule → ℕ → Type 0
Goes r b = (rs : List Rule) → fits r (row_first rs) → (nullable r ≡ true → row_first rs b ≡ true → ⊥) → first r b ≡ true → (z : List ℕ) → spells_row (r ∷ rs) (b ∷ z) → spells_row (after r b ++ rs) z

into_alt : (l r : Rule) (b : ℕ) → Goes l b → Goes r b → (rs : List Rule) → fits (alt l r) (row_first rs) → ((nullable l || nullable r) ≡ true → row_first rs b ≡ true → ⊥) → (first l b || first r b) ≡ true → (z : List ℕ) → spells_row (alt l r ∷ rs) (b ∷ z) → (t : Bool) → first l b ≡ t → spells_row (cond t (after l b) (after r b) ++ rs) z
into_alt l r b into_l into_r rs f never is z h true e =
    elim (parted l r rs (b ∷ z) h) [
      | inl k ↦ into_l rs f.1 (λ null. never (or_l (nullable l) (nullable r) null)) e z k
      | inr k ↦ let s = skip r rs b (f.0 b e) z k in absurd (never (or_r (nullable l) (nullable r) s.0) (row_first_of rs b z (row_viable rs (b ∷ z) s.1)))
    ]
into_alt l r b into_l into_r rs f never is z h false e =
    elim (parted l r rs (b ∷ z) h) [
      | inl k ↦ let s = skip l rs b (λ i. absurd (cc)) z k in absurd (never (or_l (nullable l) (nullable r) s.0) (row_first_of rs b z (row_viable rs (b ∷ z) s.1)))
      | inr k ↦ into_r rs f.2 (λ null. never (or_r (nullable l) (nullable r) null)) (false_or (first l b) (first r b) e is) z k
    ]

into_seq : (l r : Rule) (b : ℕ) → Goes l b → Goes r b → (rs : List Rule) → fits (seq l r) (row_first rs) → ((nullable l && nullable r) ≡ true → row_first rs b ≡ true → ⊥) → (first l b || (nullable l && first r b)) ≡ true → (z : List ℕ) → spells_row (l ∷ r ∷ rs) (b ∷ z) → (t : Bool) → first l b ≡ t → spells_row (cond t (after l b ++ r ∷ []) (after r b) ++ rs) z
into_seq l r b into_l into_r rs f never is z h true e =
    subst (λ (ss : List Rule). spells_row ss z) (sym (append_assoc (after l b) (r ∷ []) rs)) (into_l (r ∷ rs) f.0 (λ null. f.1 null b e) e z h)
into_seq l r b into_l into_r rs f never is z h false e =
    let both = false_or (first l b) (nullable l && first r b) e is in
    let null = and_l (nullable l) (first r b) both in
    into_r rs f.2 (λ other. never (and_both (nullable l) (nullable r) null other)) (and_r (nullable l) (first r b) both) z (skip l (r ∷ rs) b (λ i. absurd (cc)) z h).1

into : (r : Rule) (b : ℕ) → Goes r b
into nothing b rs f never is z h = absurd cc
into (byte p) b rs f never is z h = one_byte p rs b z h
into (alt l r) b rs f never is z h = into_alt l r b (into l b) (into r b) rs f never is z h (first l b) refl
into (seq l r) b rs f never is z h = into_seq l r b (into l b) (into r b) rs f never is z (regroup l r rs (b ∷ z) h) (first l b) refl
into (many a) b rs f never is z h =
    subst (λ (ss : List Rule). spells_row ss z) (sym (append_assoc (after a b) (many a ∷ []) rs))
    (into a b (many a ∷ rs) f.1 (λ null last. absurd (let e = f.0 in cc)) is z (turned a rs b (f.2 b is) z h))

-- the row after a byte of what it spells
abbrev Next : List Rule → ℕ → List ℕ → Option (List Rule) → Type 0
Next rs b z None = ⊥
Next rs b z (Some ss) = fits_row ss × spells_row ss z

next_rule : (r : Rule) (rs : List Rule) (b : ℕ) (z : List ℕ) → fits_row (r ∷ rs) → (spells_row rs (b ∷ z) → Next rs b z (step rs b)) → spells_row (r ∷ rs) (b ∷ z)
    → (t n : Bool) → first r b ≡ t → nullable r ≡ n → Next (r ∷ rs) b z (cond t (Some (after r b ++ rs)) (cond n (step rs b) None))
next_rule r rs b z f more h true n is null = (stays r b rs f.0 f.2 is, into r b rs f.0 (λ can. f.1 can b is) is z h)
next_rule r rs b z f more h false true is null = same_next (step rs b) (more (skip r rs b (λ i. absurd (cc)) z h).1) where
  same_next : (o : Option (List Rule)) → Next rs b z o → Next (r ∷ rs) b z o
  same_next None k = k
  same_next (Some ss) k = k
next_rule r rs b z f more h false false is null = absurd (let s = (skip r rs b (λ i. absurd (cc)) z h).0 in cc)

next : (rs : List Rule) (b : ℕ) (z : List ℕ) → fits_row rs → spells_row rs (b ∷ z) → Next rs b z (step rs b)
next [] b z f h = absurd cc
next (r ∷ rs) b z f h = next_rule r rs b z f (next rs b z f.2) h (first r b) (nullable r) refl refl

run_on : (rs : List Rule) (b : ℕ) (text : List ℕ) → ((ss : List Rule) → fits_row ss → spells_row ss text → (run ss text).1 ≡ true) → (o : Option (List Rule)) → Next rs b text o
    → (taken o (λ ss. run ss text)).1 ≡ true
run_on rs b text more None n = absurd n
run_on rs b text more (Some ss) n = more ss n.0 n.1

-- what is spelled is run through
pub run_of_spelled : (rs : List Rule) (text : List ℕ) → fits_row rs → spells_row rs text → (run rs text).1 ≡ true
run_of_spelled rs [] f h = row_null rs h
run_of_spelled rs (b ∷ text) f h = run_on rs b text (λ ss. run_of_spelled ss text) (step rs b) (next rs b text f h)

-- the run ends well exactly on what is spelled
pub spelled-run : (rs : List Rule) (text : List ℕ) → fits_row rs → spells_row rs text ↔ ((run rs text).1 ≡ true)
spelled-run rs text f = (run_of_spelled rs text f, spelled_of_run rs text)

pub ruleset runs = (spelled-run)
