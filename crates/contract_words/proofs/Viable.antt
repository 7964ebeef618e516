-- Viable prefixes of a rule.
use Rattle.std.proofs.Common.{ℕ, zero, List, [], refl, sym, inl, inr, append-nil}
use Rattle.contract_words.specs.Grammar.{Rule, nothing, byte, alt, seq, many, spells, viable}

-- the empty text is a prefix of each
pub empty_viable : (r : Rule) → viable r []
empty_viable nothing = refl
empty_viable (byte p) = inl refl
empty_viable (alt l r) = inl (empty_viable l)
empty_viable (seq l r) = inl (empty_viable l)
empty_viable (many a) = (zero, [], [], refl, empty_viable a, refl)

-- what is spelled is viable
pub spelled_viable : (r : Rule) (text : List ℕ) → spells r text → viable r text
spelled_viable nothing text h = h
spelled_viable (byte p) text h = inr h
spelled_viable (alt l r) text (inl h) = inl (spelled_viable l text h)
spelled_viable (alt l r) text (inr h) = inr (spelled_viable r text h)
spelled_viable (seq l r) text h = inr (h.0, h.1, h.2, spelled_viable r h.1 h.3, h.4)
spelled_viable (many a) text h = (h.0, text, [], h.1, empty_viable a, sym (append-nil text))
