-- In a row of rules that fits, one byte tells what is left.
use Rattle.std.proofs.Common.{◌≡◌, ℕ, zero, suc, Bool, true, false, List, [], ◌∷◌, ◌++◌, refl, ap, sym, ◌∙◌, inl, inr, append_assoc, subst, cond}
use Rattle.std.specs.Prelude.{◌⊎◌, ◌&&◌, ◌||◌}
use Rattle.contract_words.specs.Grammar.{Rule, nothing, byte, alt, seq, many, Turns, spells, viable, nullable, first, after}
use Rattle.contract_words.specs.Rows.{viable_row, row_first, fits}
use Rattle.contract_words.proofs.Viable.{empty_viable, spelled_viable}

pub or_l : (a b : Bool) → a ≡ true → (a || b) ≡ true
or_l true b h = refl
or_l false b h = absurd cc

pub or_r : (a b : Bool) → b ≡ true → (a || b) ≡ true
or_r true b h = refl
or_r false b h = h

pub and_both : (a b : Bool) → a ≡ true → b ≡ true → (a && b) ≡ true
and_both true b h k = k
and_both false b h k = absurd cc

pub and_l : (a b : Bool) → (a && b) ≡ true → a ≡ true
and_l true b h = refl
and_l false b h = h

pub and_r : (a b : Bool) → (a && b) ≡ true → b ≡ true
and_r true b h = h
and_r false b h = absurd cc

pub false_or : (a b : Bool) → a ≡ false → (a || b) ≡ true → b ≡ true
false_or true b h k = absurd cc
false_or false b h k = k

-- the empty text
both_null : (l r : Rule) → (spells l [] → nullable l ≡ true) → (spells r [] → nullable r ≡ true) → (x y : List ℕ) → spells l x → spells r y → [] ≡ x ++ y → (nullable l && nullable r) ≡ true
both_null l r f g [] [] h k e = and_both (nullable l) (nullable r) (f h) (g k)
both_null l r f g [] (b ∷ y) h k e = absurd cc
both_null l r f g (b ∷ x) y h k e = absurd cc

pub nullable_of : (r : Rule) → spells r [] → nullable r ≡ true
nullable_of nothing h = refl
nullable_of (byte p) h = absurd (let e = h.2 in cc)
nullable_of (alt l r) (inl h) = or_l (nullable l) (nullable r) (nullable_of l h)
nullable_of (alt l r) (inr h) = or_r (nullable l) (nullable r) (nullable_of r h)
nullable_of (seq l r) h = both_null l r (nullable_of l) (nullable_of r) h.0 h.1 h.2 h.3 h.4
nullable_of (many a) h = refl

-- what begins with the byte
abbrev Begins : Rule → ℕ → Type 0
Begins r b = (z : List ℕ) → viable r (b ∷ z) → first r b ≡ true

spelled_begins : (r : Rule) (b c : ℕ) (x y z : List ℕ) → Begins r b → spells r (c ∷ x) → b ∷ z ≡ (c ∷ x) ++ y → first r b ≡ true
spelled_begins r b c x y z f h e = f x (subst (λ (k : ℕ). viable r (k ∷ x)) (let same : c ≡ b = cc in same) (spelled_viable r (c ∷ x) h))

turn_first : (r : Rule) (b : ℕ) → Begins r b → (n : ℕ) → ((x : List ℕ) → Turns (spells r) n (b ∷ x) → first r b ≡ true) → (x u v : List ℕ) → spells r u → Turns (spells r) n v → b ∷ x ≡ u ++ v → first r b ≡ true
turn_first r b f n more x [] v h t e = more x (subst (Turns (spells r) n) (sym e) t)
turn_first r b f n more x (c ∷ u) v h t e = spelled_begins r b c u v x f h e

-- the first byte of some turns
turns_first : (r : Rule) (b : ℕ) → Begins r b → (n : ℕ) (x : List ℕ) → Turns (spells r) n (b ∷ x) → first r b ≡ true
turns_first r b f zero x t = absurd cc
turns_first r b f (suc n) x t = turn_first r b f n (turns_first r b f n) x t.0 t.1 t.2 t.3 t.4

-- the first byte of two texts in a row
two_first : (l r : Rule) (b : ℕ) → Begins l b → Begins r b → (z x y : List ℕ) → spells l x → viable r y → b ∷ z ≡ x ++ y → (first l b || (nullable l && first r b)) ≡ true
two_first l r b f g z [] y h v e = or_r (first l b) (nullable l && first r b) (and_both (nullable l) (first r b) (nullable_of l h) (g z (subst (viable r) (sym e) v)))
two_first l r b f g z (c ∷ x) y h v e = or_l (first l b) (nullable l && first r b) (spelled_begins l b c x y z f h e)

many_first : (a : Rule) (b : ℕ) → Begins a b → (z : List ℕ) (n : ℕ) (x y : List ℕ) → Turns (spells a) n x → viable a y → b ∷ z ≡ x ++ y → first a b ≡ true
many_first a b f z n [] y t v e = f z (subst (viable a) (sym e) v)
many_first a b f z n (c ∷ x) y t v e = turns_first a b f n x (subst (λ (k : ℕ). Turns (spells a) n (k ∷ x)) (let same : c ≡ b = cc in same) t)

pub first_of : (r : Rule) (b : ℕ) → Begins r b
first_of nothing b z h = absurd cc
first_of (byte p) b z (inl e) = absurd cc
first_of (byte p) b z (inr h) = subst (λ (k : ℕ). p k ≡ true) (let e = h.2 in let same : h.0 ≡ b = cc in same) h.1
first_of (alt l r) b z (inl h) = or_l (first l b) (first r b) (first_of l b z h)
first_of (alt l r) b z (inr h) = or_r (first l b) (first r b) (first_of r b z h)
first_of (seq l r) b z (inl h) = or_l (first l b) (nullable l && first r b) (first_of l b z h)
first_of (seq l r) b z (inr h) = two_first l r b (first_of l b) (first_of r b) z h.0 h.1 h.2 h.3 h.4
first_of (many a) b z h = many_first a b (first_of a b) z h.0 h.1 h.2 h.3 h.4 h.5

row_two : (r : Rule) (rs : List Rule) (b : ℕ) → ((z : List ℕ) → viable_row rs (b ∷ z) → row_first rs b ≡ true) → (z x y : List ℕ) → spells r x → viable_row rs y → b ∷ z ≡ x ++ y → (first r b || (nullable r && row_first rs b)) ≡ true
row_two r rs b f z [] y h v e = or_r (first r b) (nullable r && row_first rs b) (and_both (nullable r) (row_first rs b) (nullable_of r h) (f z (subst (viable_row rs) (sym e) v)))
row_two r rs b f z (c ∷ x) y h v e = or_l (first r b) (nullable r && row_first rs b) (spelled_begins r b c x y z (first_of r b) h e)

pub row_first_of : (rs : List Rule) (b : ℕ) (z : List ℕ) → viable_row rs (b ∷ z) → row_first rs b ≡ true
row_first_of [] b z h = absurd cc
row_first_of (r ∷ rs) b z (inl h) = or_l (first r b) (nullable r && row_first rs b) (first_of r b z h)
row_first_of (r ∷ rs) b z (inr h) = row_two r rs b (row_first_of rs b) z h.0 h.1 h.2 h.3 h.4

pub row_empty : (rs : List Rule) → viable_row rs []
row_empty [] = refl
row_empty (r ∷ rs) = inl (empty_viable r)

-- a rule that can't begin with the byte is passed over by the empty text
passed : (r : Rule) (rs : List Rule) (b : ℕ) → (first r b ≡ true → ⊥) → (z x y : List ℕ) → spells r x → viable_row rs y → b ∷ z ≡ x ++ y → (nullable r ≡ true) × viable_row rs (b ∷ z)
passed r rs b never z [] y h v e = (nullable_of r h, subst (viable_row rs) (sym e) v)
passed r rs b never z (c ∷ x) y h v e = absurd (never (spelled_begins r b c x y z (first_of r b) h e))

pub skip : (r : Rule) (rs : List Rule) (b : ℕ) → (first r b ≡ true → ⊥) → (z : List ℕ) → viable_row (r ∷ rs) (b ∷ z) → (nullable r ≡ true) × viable_row rs (b ∷ z)
skip r rs b never z (inl h) = absurd (never (first_of r b z h))
skip r rs b never z (inr h) = passed r rs b never z h.0 h.1 h.2 h.3 h.4

-- a choice in a row is a choice of rows
parted : (l r : Rule) (rs : List Rule) (text : List ℕ) → viable_row (alt l r ∷ rs) text → viable_row (l ∷ rs) text ⊎ viable_row (r ∷ rs) text
parted l r rs text (inl (inl h)) = inl (inl h)
parted l r rs text (inl (inr h)) = inr (inl h)
parted l r rs text (inr h) =
    elim h.2 [
      | inl s ↦ inl (inr (h.0, h.1, s, h.3, h.4))
      | inr s ↦ inr (inr (h.0, h.1, s, h.3, h.4))
    ]

-- a sequence in a row is its parts in a row
regroup : (l r : Rule) (rs : List Rule) (text : List ℕ) → viable_row (seq l r ∷ rs) text → viable_row (l ∷ r ∷ rs) text
regroup l r rs text (inl (inl h)) = inl h
regroup l r rs text (inl (inr h)) = inr (h.0, h.1, h.2, inl h.3, h.4)
regroup l r rs text (inr h) =
    let s = h.2 in
    inr (s.0, s.1 ++ h.1, s.2, inr (s.1, h.1, s.3, h.3, refl), h.4 ∙ (ap (λ (t : List ℕ). t ++ h.1) s.4 ∙ append_assoc s.0 s.1 h.1))

-- turns in a row are one turn, and then turns
turned_inside : (a : Rule) (rs : List Rule) (text : List ℕ) (n : ℕ) (x y : List ℕ) → Turns (spells a) n x → viable a y → text ≡ x ++ y → viable_row (a ∷ many a ∷ rs) text
turned_inside a rs text zero x y t v e = inl (subst (viable a) (sym (e ∙ ap (λ (u : List ℕ). u ++ y) t)) v)
turned_inside a rs text (suc n) x y t v e =
    inr (t.0, t.1 ++ y, t.2, inl (n, t.1, y, t.3, v, refl), e ∙ (ap (λ (u : List ℕ). u ++ y) t.4 ∙ append_assoc t.0 t.1 y))

turned_past : (a : Rule) (rs : List Rule) (b : ℕ) → (row_first rs b ≡ true → ⊥) → (z : List ℕ) (n : ℕ) (x y : List ℕ) → Turns (spells a) n x → viable_row rs y → b ∷ z ≡ x ++ y → viable_row (a ∷ many a ∷ rs) (b ∷ z)
turned_past a rs b never z zero x y t v e = absurd (never (row_first_of rs b z (subst (viable_row rs) (sym (e ∙ ap (λ (u : List ℕ). u ++ y) t)) v)))
turned_past a rs b never z (suc n) x y t v e =
    inr (t.0, t.1 ++ y, t.2, inr (t.1, y, (n, t.3), v, refl), e ∙ (ap (λ (u : List ℕ). u ++ y) t.4 ∙ append_assoc t.0 t.1 y))

turned : (a : Rule) (rs : List Rule) (b : ℕ) → (row_first rs b ≡ true → ⊥) → (z : List ℕ) → viable_row (many a ∷ rs) (b ∷ z) → viable_row (a ∷ many a ∷ rs) (b ∷ z)
turned a rs b never z (inl h) = turned_inside a rs (b ∷ z) h.0 h.1 h.2 h.3 h.4 h.5
turned a rs b never z (inr h) = let t = h.2 in turned_past a rs b never z t.0 h.0 h.1 t.1 h.3 h.4

one_byte : (p : ℕ → Bool) (rs : List Rule) (b : ℕ) (z : List ℕ) → viable_row (byte p ∷ rs) (b ∷ z) → viable_row rs z
one_byte p rs b z (inl (inl e)) = absurd cc
one_byte p rs b z (inl (inr h)) = subst (viable_row rs) (let e = h.2 in let same : [] ≡ z = cc in same) (row_empty rs)
one_byte p rs b z (inr h) =
    let s = h.2 in
    let e : b ∷ z ≡ (s.0 ∷ []) ++ h.1 = h.4 ∙ ap (λ (t : List ℕ). t ++ h.1) s.2 in
    subst (viable_row rs) (let same : h.1 ≡ z = cc in same) h.3

-- what is left after the byte
abbrev Goes : Rule → ℕ → Type 0
Goes r b = (rs : List Rule) → fits r (row_first rs) → (nullable r ≡ true → row_first rs b ≡ true → ⊥) → first r b ≡ true → (z : List ℕ) → viable_row (r ∷ rs) (b ∷ z) → viable_row (after r b ++ rs) z

into_alt : (l r : Rule) (b : ℕ) → Goes l b → Goes r b → (rs : List Rule) → fits (alt l r) (row_first rs) → ((nullable l || nullable r) ≡ true → row_first rs b ≡ true → ⊥) → (first l b || first r b) ≡ true → (z : List ℕ) → viable_row (alt l r ∷ rs) (b ∷ z) → (t : Bool) → first l b ≡ t → viable_row (cond t (after l b) (after r b) ++ rs) z
into_alt l r b into_l into_r rs f never is z h true e =
    elim (parted l r rs (b ∷ z) h) [
      | inl k ↦ into_l rs f.1 (λ null. never (or_l (nullable l) (nullable r) null)) e z k
      | inr k ↦ let s = skip r rs b (f.0 b e) z k in absurd (never (or_r (nullable l) (nullable r) s.0) (row_first_of rs b z s.1))
    ]
into_alt l r b into_l into_r rs f never is z h false e =
    elim (parted l r rs (b ∷ z) h) [
      | inl k ↦ let s = skip l rs b (λ i. absurd (cc)) z k in absurd (never (or_l (nullable l) (nullable r) s.0) (row_first_of rs b z s.1))
      | inr k ↦ into_r rs f.2 (λ null. never (or_r (nullable l) (nullable r) null)) (false_or (first l b) (first r b) e is) z k
    ]

into_seq : (l r : Rule) (b : ℕ) → Goes l b → Goes r b → (rs : List Rule) → fits (seq l r) (row_first rs) → ((nullable l && nullable r) ≡ true → row_first rs b ≡ true → ⊥) → (first l b || (nullable l && first r b)) ≡ true → (z : List ℕ) → viable_row (l ∷ r ∷ rs) (b ∷ z) → (t : Bool) → first l b ≡ t → viable_row (cond t (after l b ++ r ∷ []) (after r b) ++ rs) z
into_seq l r b into_l into_r rs f never is z h true e =
    subst (λ (ss : List Rule). viable_row ss z) (sym (append_assoc (after l b) (r ∷ []) rs)) (into_l (r ∷ rs) f.0 (λ null. f.1 null b e) e z h)
into_seq l r b into_l into_r rs f never is z h false e =
    let both = false_or (first l b) (nullable l && first r b) e is in
    let null = and_l (nullable l) (first r b) both in
    into_r rs f.2 (λ other. never (and_both (nullable l) (nullable r) null other)) (and_r (nullable l) (first r b) both) z (skip l (r ∷ rs) b (λ i. absurd (cc)) z h).1

pub into : (r : Rule) (b : ℕ) → Goes r b
into nothing b rs f never is z h = absurd cc
into (byte p) b rs f never is z h = one_byte p rs b z h
into (alt l r) b rs f never is z h = into_alt l r b (into l b) (into r b) rs f never is z h (first l b) refl
into (seq l r) b rs f never is z h = into_seq l r b (into l b) (into r b) rs f never is z (regroup l r rs (b ∷ z) h) (first l b) refl
into (many a) b rs f never is z h =
    subst (λ (ss : List Rule). viable_row ss z) (sym (append_assoc (after a b) (many a ∷ []) rs))
    (into a b (many a ∷ rs) f.1 (λ null last. absurd (let e = f.0 in cc)) is z (turned a rs b (never refl) z h))
