-- A choice between rules with a common first part.
use Rattle.std.proofs.Common.{ℕ, List, inl, inr}
use Rattle.std.specs.Prelude.{◌↔◌}
use Rattle.contract_words.specs.Grammar.{Rule, alt, seq, spells, viable}

module _ (a b c : Rule) (text : List ℕ) where
  joined : spells (alt (seq a b) (seq a c)) text → spells (seq a (alt b c)) text
  joined (inl h) = (h.0, h.1, h.2, inl h.3, h.4)
  joined (inr h) = (h.0, h.1, h.2, inr h.3, h.4)

  parted : spells (seq a (alt b c)) text → spells (alt (seq a b) (seq a c)) text
  parted h = elim h.3 [ inl k ↦ inl (h.0, h.1, h.2, k, h.4) | inr k ↦ inr (h.0, h.1, h.2, k, h.4) ]

  begun_joined : viable (alt (seq a b) (seq a c)) text → viable (seq a (alt b c)) text
  begun_joined (inl (inl h)) = inl h
  begun_joined (inl (inr h)) = inr (h.0, h.1, h.2, inl h.3, h.4)
  begun_joined (inr (inl h)) = inl h
  begun_joined (inr (inr h)) = inr (h.0, h.1, h.2, inr h.3, h.4)

  begun_parted : viable (seq a (alt b c)) text → viable (alt (seq a b) (seq a c)) text
  begun_parted (inl h) = inl (inl h)
  begun_parted (inr h) = elim h.3 [ inl k ↦ inl (inr (h.0, h.1, h.2, k, h.4)) | inr k ↦ inr (inr (h.0, h.1, h.2, k, h.4)) ]

  pub factored-spells : spells (alt (seq a b) (seq a c)) text ↔ spells (seq a (alt b c)) text
  factored-spells = (joined, parted)

  pub factored-viable : viable (alt (seq a b) (seq a c)) text ↔ viable (seq a (alt b c)) text
  factored-viable = (begun_joined, begun_parted)

pub ruleset factored = (factored-spells, factored-viable)
