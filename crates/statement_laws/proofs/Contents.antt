-- The tokens of a text are those of the table, and texts among them have contents.
use Rattle.std.proofs.Common.{◌≡◌, ◌∙◌, ℕ, zero, suc, ◌+◌, ◌-◌, Bool, true, false, List, [], ◌∷◌, length, take, drop, take_at, Ok, Err, refl, sym, ap, subst, arith, cond}
use Rattle.std.specs.Prelude.{◌==◌}
use Rattle.std.proofs.lemmas.Bool.Decides.{nat_tests}
use Rattle.std.proofs.lemmas.List.{drop-drop}
use Rattle.std.proofs.Math.Seq.{drop-append_seam}
use Rattle.ottl_lex.specs.Codes.{code_in, quoted}
use Rattle.ottl_lex.specs.Table.{AreTokens, IsText, IsToken}
use Rattle.ottl_lex.specs.Tokens.{is_sign, slice_of, tokens_of}
use Rattle.ottl_lex.specs.declared.fault.SyntaxFault.{SyntaxFault}
use Rattle.ottl_lex.specs.declared.token.Token.{Token}
use Rattle.ottl_lex.specs.declared.token.TokenKind.{TokenKind}
use Rattle.ottl_lex.specs.declared.token.TokenKind.TheVariants.{Lower, Word, Upper, Quoted, Digits, Hex, Sign}
use Rattle.ottl_lex.specs.Quoted.{text_of}
use Rattle.ottl_lex.proofs.Longest.{tokens_are_longest}
use Rattle.ottl_lex.proofs.Texts.{contents_are_meant}
use Rattle.ottl_parse.specs.Place.{Rest, head_of, place_of, first_slice}
use Rattle.statement_laws.proofs.Runs.{Cites}

-- Of the codes only that of a text is a text's.
no-word : (a b c d e f : Bool) → (cond a 6 (cond b 7 (cond c 8 (cond d 9 (cond e 10 (cond f 11 12))))) == 3) ≡ true → ⊥
no-word true b c d e f h = cc
no-word false true c d e f h = cc
no-word false false true d e f h = cc
no-word false false false true e f h = cc
no-word false false false false true f h = cc
no-word false false false false false true h = cc
no-word false false false false false false h = cc

no-pair : (a b c : Bool) → (cond a 13 (cond b 14 (cond c 15 16)) == 3) ≡ true → ⊥
no-pair true b c h = cc
no-pair false true c h = cc
no-pair false false true h = cc
no-pair false false false h = cc

same-number : (a b : ℕ) → (a == b) ≡ true → a ≡ b
same-number a b is = grind (arith, nat_tests)

text-code : (kind : TokenKind) (piece : List ℕ) → (code_in kind piece == quoted) ≡ true → IsToken kind piece → IsText piece
text-code Lower piece is h = absurd (cc)
text-code Word piece is h = absurd (no-word _ _ _ _ _ _ is)
text-code Upper piece is h = absurd (cc)
text-code Quoted piece is h = h
text-code Digits piece is h = absurd (cc)
text-code Hex piece is h = absurd (cc)
text-code Sign [] is h = absurd h
text-code Sign (b ∷ []) is h = absurd (let e : is_sign 3 ≡ true = subst (λ (n : ℕ). is_sign n ≡ true) (same-number b 3 is) h in cc)
text-code Sign (b ∷ c ∷ rest) is h = absurd (no-pair (b == 61) (b == 33) (b == 60) is)

module _ (text : List ℕ) where
  -- each token is one of the table
  AreRight : List Token → Type 0
  AreRight [] = Unit {0}
  AreRight (t ∷ ts) = IsToken t.kind (slice_of text t) × AreRight ts

  right : (ts : List Token) (at : ℕ) (rest : List ℕ) → rest ≡ drop at text → AreTokens at rest ts (length text) [] → AreRight ts
  unfolding AreRight
  right [] at rest is h = tt
  right (t ∷ ts) at rest is h =
      let here : List ℕ = h.0 in
      let blanks = h.1 in
      let found = h.3 in
      let at_here : here ≡ drop t.begin text =
      sym (drop-append_seam blanks.blanks here) ∙ ap (drop (length blanks.blanks)) (sym blanks.whole ∙ is) ∙ drop-drop (length blanks.blanks) at text ∙ ap (λ (n : ℕ). drop n text) (sym blanks.placed) in
      let size : ℕ = t.end - t.begin in
      let ends : t.begin + size ≡ t.end = omega (arith, h.2) in
      let piece : slice_of text t ≡ found.slice = ap (take size) (sym at_here ∙ found.whole) ∙ take_at found.slice found.behind size found.sized in
      (subst (IsToken t.kind) (sym piece) found.is, right ts t.end (drop size here) (ap (drop size) at_here ∙ drop-drop size t.begin text ∙ ap (λ (n : ℕ). drop n text) ends) h.4)

  right-drop : (n : ℕ) (ts : List Token) → AreRight ts → AreRight (drop n ts)
  unfolding AreRight
  right-drop zero ts h = h
  right-drop (suc n) [] h = h
  right-drop (suc n) (t ∷ ts) h = right-drop n ts h.1

  has-contents : (ts : List Token) (f : SyntaxFault) → AreRight ts → (head_of text ts == quoted) ≡ true → text_of (place_of text ts) (first_slice text ts) ≡ Err f → ⊥
  unfolding AreRight
  has-contents [] f h is known = cc
  has-contents (t ∷ ts) f h is known = let e = sym known ∙ contents_are_meant t.begin (slice_of text t) (text-code t.kind (slice_of text t) is h.0) in cc

  pub no-bad-contents : (tokens : List Token) (f : SyntaxFault) → tokens_of text ≡ Ok tokens → Cites (record { text = text; left = tokens }) f → ⊥
  no-bad-contents tokens f lexed h =
      let all : AreRight tokens = right tokens 0 text refl (tokens_are_longest text tokens lexed) in
      let there : Rest = h.there in
      let P : List ℕ → Type 0 = λ t. (head_of t there.left == quoted) ≡ true in
      let Q : List ℕ → Type 0 = λ t. text_of (place_of t there.left) (first_slice t there.left) ≡ Err f in
      has-contents there.left f (subst AreRight (sym h.left) (right-drop h.count tokens all)) (subst P h.text h.is_quoted) (subst Q h.text h.known)
