-- Tokens further on stand further on.
use Rattle.std.proofs.Common.{◌≡◌, ℕ, zero, suc, ◌-◌, ◌<◌, ◌≤◌, List, [], ◌∷◌, length, drop, Ok, ◌⊎◌, inl, inr, arith}
use Rattle.ottl_lex.specs.Table.{AreTokens}
use Rattle.ottl_lex.specs.Tokens.{tokens_of}
use Rattle.ottl_lex.specs.declared.token.Token.{Token}
use Rattle.ottl_lex.proofs.Longest.{tokens_are_longest}
use Rattle.ottl_parse.specs.Place.{place_of}

module _ (text : List ℕ) where
  abbrev Are : ℕ → List ℕ → List Token → Type 0
  Are at rest ts = AreTokens at rest ts (length text) []

  no-earlier : (ts : List Token) (m at : ℕ) (rest : List ℕ) → Are at rest ts → at ≤ place_of text (drop m ts)
  no-earlier [] zero at rest h = omega (arith, h.placed)
  no-earlier [] (suc m) at rest h = omega (arith, h.placed)
  no-earlier (t ∷ ts) zero at rest h = let b = h.1 in omega (arith, b.placed)
  no-earlier (t ∷ ts) (suc m) at rest h =
      let b = h.1 in
      omega (arith, b.placed, h.2, no-earlier ts m t.end (drop (t.end - t.begin) h.0) h.4)

  further-on : (ts : List Token) (n m at : ℕ) (rest : List ℕ) → Are at rest ts → n < m → m ≤ length ts → place_of text (drop n ts) < place_of text (drop m ts)
  further-on [] n m at rest h less within = absurd (omega (arith, less, within))
  further-on (t ∷ ts) n zero at rest h less within = absurd (omega (arith, less))
  further-on (t ∷ ts) zero (suc m) at rest h less within = omega (arith, h.2, no-earlier ts m t.end (drop (t.end - t.begin) h.0) h.4)
  further-on (t ∷ ts) (suc n) (suc m) at rest h less within = further-on ts n m t.end (drop (t.end - t.begin) h.0) h.4 (omega (arith, less)) (omega (arith, within))

  order : (n m : ℕ) → (n ≤ m) ⊎ (m < n)
  order zero m = inl (omega arith)
  order (suc n) zero = inr (omega arith)
  order (suc n) (suc m) = elim (order n m) [ inl h ↦ inl (omega (arith, h)) | inr h ↦ inr (omega (arith, h)) ]

  -- one place is that of one token
  pub one-token : (tokens : List Token) (n m : ℕ) → tokens_of text ≡ Ok tokens → n ≤ length tokens → place_of text (drop n tokens) ≡ place_of text (drop m tokens) → n ≤ m
  one-token tokens n m lexed within same =
      elim (order n m) [ inl h ↦ h | inr less ↦ absurd (let further = further-on tokens m n 0 text (tokens_are_longest text tokens lexed) less within in omega (arith, further, same)) ]
