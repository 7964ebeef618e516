-- Rules that have the texts and the viable prefixes of others.
use Rattle.std.proofs.Common.{◌≡◌, ◌∙◌, ℕ, zero, suc, Bool, true, false, List, [], ◌++◌, refl, sym, ap, subst, inl, inr, ◌⊎◌, append_assoc, append-nil}
use Rattle.contract_words.specs.Grammar.{Rule, nothing, byte, alt, seq, many, Turns, spells, viable}
use Rattle.contract_words.proofs.Viable.{empty_viable}

-- what the first spells the second spells, and what is viable in it is viable in the second
pub record Grows (r s : Rule) : Type 0 where
  pub whole : (text : List ℕ) → spells r text → spells s text
  pub begun : (text : List ℕ) → viable r text → viable s text

pub same : (r : Rule) → Grows r r
same r = record { whole = λ text h. h; begun = λ text h. h }

pub then : (r s t : Rule) → Grows r s → Grows s t → Grows r t
then r s t f g = record { whole = λ text h. g.whole text (f.whole text h); begun = λ text h. g.begun text (f.begun text h) }

pub both : (l l' r r' : Rule) → Grows l l' → Grows r r' → Grows (seq l r) (seq l' r')
both l l' r r' f g = record { whole = λ text h. (h.0, h.1, f.whole h.0 h.2, g.whole h.1 h.3, h.4); begun = begun_both } where
  begun_both : (text : List ℕ) → viable (seq l r) text → viable (seq l' r') text
  begun_both text (inl h) = inl (f.begun text h)
  begun_both text (inr h) = inr (h.0, h.1, f.whole h.0 h.2, g.begun h.1 h.3, h.4)

-- a choice, each case of which the rule has
pub cases : (l r s : Rule) → Grows l s → Grows r s → Grows (alt l r) s
cases l r s f g = record { whole = whole_cases; begun = begun_cases } where
  whole_cases : (text : List ℕ) → spells (alt l r) text → spells s text
  whole_cases text (inl h) = f.whole text h
  whole_cases text (inr h) = g.whole text h

  begun_cases : (text : List ℕ) → viable (alt l r) text → viable s text
  begun_cases text (inl h) = f.begun text h
  begun_cases text (inr h) = g.begun text h

pub on-left : (r s t : Rule) → Grows r s → Grows r (alt s t)
on-left r s t f = record { whole = λ text h. inl (f.whole text h); begun = λ text h. inl (f.begun text h) }

pub on-right : (r s t : Rule) → Grows r t → Grows r (alt s t)
on-right r s t f = record { whole = λ text h. inr (f.whole text h); begun = λ text h. inr (f.begun text h) }

pub either-way : (l l' r r' : Rule) → Grows l l' → Grows r r' → Grows (alt l r) (alt l' r')
either-way l l' r r' f g = cases l r (alt l' r') (on-left l l' r' f) (on-right r l' r' g)

turns : (a b : Rule) → Grows a b → (n : ℕ) (text : List ℕ) → Turns (spells a) n text → Turns (spells b) n text
turns a b f zero text t = t
turns a b f (suc n) text t = (t.0, t.1, f.whole t.0 t.2, turns a b f n t.1 t.3, t.4)

pub each-turn : (a b : Rule) → Grows a b → Grows (many a) (many b)
each-turn a b f = record {
  whole = λ text h. (h.0, turns a b f h.0 text h.1);
  begun = λ text h. (h.0, h.1, h.2, turns a b f h.0 h.1 h.3, f.begun h.2 h.4, h.5);
}

-- a byte, of more kinds
pub more-bytes : (p q : ℕ → Bool) → ((b : ℕ) → p b ≡ true → q b ≡ true) → Grows (byte p) (byte q)
more-bytes p q more = record { whole = λ text h. (h.0, more h.0 h.1, h.2); begun = begun_more } where
  begun_more : (text : List ℕ) → viable (byte p) text → viable (byte q) text
  begun_more text (inl h) = inl h
  begun_more text (inr h) = inr (h.0, more h.0 h.1, h.2)

-- a byte of one of two kinds
pub two-kinds : (p q s : ℕ → Bool) → ((b : ℕ) → p b ≡ true → (q b ≡ true) ⊎ (s b ≡ true)) → Grows (byte p) (alt (byte q) (byte s))
two-kinds p q s part = record { whole = whole_part; begun = begun_part } where
  whole_part : (text : List ℕ) → spells (byte p) text → spells (alt (byte q) (byte s)) text
  whole_part text h = elim (part h.0 h.1) [ inl k ↦ inl (h.0, k, h.2) | inr k ↦ inr (h.0, k, h.2) ]

  begun_part : (text : List ℕ) → viable (byte p) text → viable (alt (byte q) (byte s)) text
  begun_part text (inl h) = inl (inl h)
  begun_part text (inr h) = elim (part h.0 h.1) [ inl k ↦ inl (inr (h.0, k, h.2)) | inr k ↦ inr (inr (h.0, k, h.2)) ]

-- no text at all
pub no-texts : (r : Rule) → Grows (byte (λ b. false)) r
no-texts r = record { whole = λ text h. absurd (let e = h.1 in cc); begun = begun_none } where
  begun_none : (text : List ℕ) → viable (byte (λ b. false)) text → viable r text
  begun_none text (inl h) = subst (viable r) (sym h) (empty_viable r)
  begun_none text (inr h) = absurd (let e = h.1 in cc)

-- nothing before a rule, or behind it
pub nothing-before : (r : Rule) → Grows (seq nothing r) r
nothing-before r = record { whole = λ text h. subst (spells r) (sym (h.4 ∙ ap (λ (x : List ℕ). x ++ h.1) h.2)) h.3; begun = begun_after } where
  begun_after : (text : List ℕ) → viable (seq nothing r) text → viable r text
  begun_after text (inl h) = subst (viable r) (sym h) (empty_viable r)
  begun_after text (inr h) = subst (viable r) (sym (h.4 ∙ ap (λ (x : List ℕ). x ++ h.1) h.2)) h.3

pub nothing-behind : (r s : Rule) → spells s [] → Grows r (seq r s)
nothing-behind r s empty = record { whole = λ text h. (text, [], h, empty, sym (append-nil text)); begun = λ text h. inl h }

-- a choice before a rule
pub choice-before : (a b c : Rule) → Grows (seq (alt a b) c) (alt (seq a c) (seq b c))
choice-before a b c = record { whole = whole_part; begun = begun_part } where
  whole_part : (text : List ℕ) → spells (seq (alt a b) c) text → spells (alt (seq a c) (seq b c)) text
  whole_part text h = elim h.2 [ inl k ↦ inl (h.0, h.1, k, h.3, h.4) | inr k ↦ inr (h.0, h.1, k, h.3, h.4) ]

  begun_part : (text : List ℕ) → viable (seq (alt a b) c) text → viable (alt (seq a c) (seq b c)) text
  begun_part text (inl (inl h)) = inl (inl h)
  begun_part text (inl (inr h)) = inr (inl h)
  begun_part text (inr h) = elim h.2 [ inl k ↦ inl (inr (h.0, h.1, k, h.3, h.4)) | inr k ↦ inr (inr (h.0, h.1, k, h.3, h.4)) ]

-- two rules before a third
pub regrouped : (a b c : Rule) → Grows (seq (seq a b) c) (seq a (seq b c))
regrouped a b c = record { whole = whole_parts; begun = begun_parts } where
  whole_parts : (text : List ℕ) → spells (seq (seq a b) c) text → spells (seq a (seq b c)) text
  whole_parts text h =
      let s = h.2 in
      (s.0, s.1 ++ h.1, s.2, (s.1, h.1, s.3, h.3, refl), h.4 ∙ (ap (λ (t : List ℕ). t ++ h.1) s.4 ∙ append_assoc s.0 s.1 h.1))

  begun_parts : (text : List ℕ) → viable (seq (seq a b) c) text → viable (seq a (seq b c)) text
  begun_parts text (inl (inl h)) = inl h
  begun_parts text (inl (inr h)) = inr (h.0, h.1, h.2, inl h.3, h.4)
  begun_parts text (inr h) =
      let s = h.2 in
      inr (s.0, s.1 ++ h.1, s.2, inr (s.1, h.1, s.3, h.3, refl), h.4 ∙ (ap (λ (t : List ℕ). t ++ h.1) s.4 ∙ append_assoc s.0 s.1 h.1))
