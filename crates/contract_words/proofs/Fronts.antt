-- A front of a viable text is viable.
use Rattle.std.proofs.Common.{◌≡◌, ℕ, zero, suc, List, [], ◌∷◌, ◌++◌, refl, ap, sym, ◌∙◌, inl, inr, append_assoc, subst}
use Rattle.std.specs.Prelude.{IsTrue}
use Rattle.contract_words.specs.Grammar.{Rule, nothing, byte, alt, seq, many, Turns, spells, viable}
use Rattle.contract_words.proofs.Viable.{empty_viable, spelled_viable}

-- of two cuts of one list, one comes first
pub data Cut (a b x y : List ℕ) : Type 0 where
  before : (c : List ℕ) → x ≡ a ++ c → Cut a b x y
  behind : (c : List ℕ) → a ≡ x ++ c → y ≡ c ++ b → Cut a b x y

pub cut : (a b x y : List ℕ) → a ++ b ≡ x ++ y → Cut a b x y
cut [] b x y e = before x refl
cut (p ∷ a) b [] y e = behind (p ∷ a) refl (sym e)
cut (p ∷ a) b (q ∷ x) y e =
    let head : p ≡ q = cc in
    let tail : a ++ b ≡ x ++ y = cc in
    elim (cut a b x y tail) [
      | before c f ↦ before c (cc)
      | behind c f g ↦ behind c (cc) g
    ]

-- a front of so many turns
pub turns_front : (r : Rule) → ((a b : List ℕ) → viable r (a ++ b) → viable r a) → (n : ℕ) (a c : List ℕ) → Turns (spells r) n (a ++ c) → viable (many r) a
turns_front r front zero [] c t = (zero, [], [], refl, empty_viable r, refl)
turns_front r front zero (p ∷ a) c t = absurd cc
turns_front r front (suc n) a c t =
    elim (cut a c t.0 t.1 t.4) [
      | before d f ↦ (zero, [], a, refl, front a d (subst (viable r) f (spelled_viable r t.0 t.2)), refl)
      | behind d f g ↦
          let rest = turns_front r front n d c (subst (Turns (spells r) n) g t.3) in
          (suc rest.0, t.0 ++ rest.1, rest.2, (t.0, rest.1, t.2, rest.3, refl), rest.4, f ∙ (ap (λ (z : List ℕ). t.0 ++ z) rest.5 ∙ sym (append_assoc t.0 rest.1 rest.2)))
    ]

pub front_viable : (r : Rule) (a b : List ℕ) → viable r (a ++ b) → viable r a
front_viable nothing [] b h = refl
front_viable nothing (p ∷ a) b h = absurd cc
front_viable (byte p) [] b h = inl refl
front_viable (byte p) (q ∷ a) b (inl e) = absurd cc
front_viable (byte p) (q ∷ []) b (inr h) = inr (q, subst (λ (n : ℕ). IsTrue (p n)) (let e = h.2 in cc) h.1, refl)
front_viable (byte p) (q ∷ s ∷ a) b (inr h) = absurd (let e = h.2 in cc)
front_viable (alt l r) a b (inl h) = inl (front_viable l a b h)
front_viable (alt l r) a b (inr h) = inr (front_viable r a b h)
front_viable (seq l r) a b (inl h) = inl (front_viable l a b h)
front_viable (seq l r) a b (inr h) =
    elim (cut a b h.0 h.1 h.4) [
      | before c f ↦ inl (front_viable l a c (subst (viable l) f (spelled_viable l h.0 h.2)))
      | behind c f g ↦ inr (h.0, c, h.2, front_viable r c b (subst (viable r) g h.3), f)
    ]
front_viable (many r) a b h =
    elim (cut a b h.1 h.2 h.5) [
      | before c f ↦ turns_front r (front_viable r) h.0 a c (subst (Turns (spells r) h.0) f h.3)
      | behind c f g ↦ (h.0, h.1, c, h.3, front_viable r c b (subst (viable r) g h.4), f)
    ]
