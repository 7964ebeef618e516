-- The loop over tokens.
use Rattle.std.proofs.Common.{◌≡◌, ◌∙◌, ℕ, zero, suc, ◌+◌, ◌-◌, ◌<◌, List, [], ◌∷◌, ◌++◌, length, drop, get_or, false, refl, sym, ap, arith}
use Rattle.std.specs.Prelude.{Result, Ok}
use Rattle.ottl_lex.specs.declared.fault.SyntaxFault.{SyntaxFault}
use Rattle.ottl_lex.specs.declared.token.Token.{Token}
use Rattle.ottl_lex.specs.Quoted.{with_front}
use Rattle.ottl_lex.specs.Tokens.{is_blank, token_at, tokens_from}
use Rattle.ottl_lex.proofs.Steps.{with_front-append}

-- the bytes of a token are passed
pub tokens-passed : (n at : ℕ) (text : List ℕ) → tokens_from n at text ≡ tokens_from 0 (at + n) (drop n text)
tokens-passed zero at text = ap (λ a. tokens_from 0 a text) (omega arith)
tokens-passed (suc n) at [] = refl
tokens-passed (suc n) at (b ∷ rest) =
    tokens-passed n (at + 1) rest ∙ ap (λ a. tokens_from 0 a (drop n rest)) (omega arith)

-- a token, and the tokens behind it
pub tokens-next : (at b : ℕ) (rest : List ℕ) (t : Token) → is_blank b ≡ false → token_at at (b ∷ rest) ≡ Ok t → at < t.end
    → tokens_from 0 at (b ∷ rest) ≡ with_front (t ∷ []) (tokens_from 0 t.end (drop (t.end - at) (b ∷ rest)))
tokens-next at b rest t solid is more =
    let size : t.end - at ≡ suc (t.end - (at + 1)) = omega arith in
    let end : at + 1 + (t.end - (at + 1)) ≡ t.end = omega arith in
    rw (solid, is, size) (ap (with_front (t ∷ [])) (tokens-passed (t.end - (at + 1)) (at + 1) rest
    ∙ ap (λ a. tokens_from 0 a (drop (t.end - (at + 1)) rest)) end))

pub tokens-step : (held : List Token) (at : ℕ) (text : List ℕ) (meant : Result (List Token) SyntaxFault) (t : Token)
    → 0 < length text → is_blank (get_or text 0 0) ≡ false → token_at at text ≡ Ok t → at < t.end
    → with_front held (tokens_from 0 at text) ≡ meant
    → with_front (held ++ t ∷ []) (tokens_from 0 t.end (drop (t.end - at) text)) ≡ meant
tokens-step held at [] meant t some solid is more reads = absurd (omega arith)
tokens-step held at (b ∷ rest) meant t some solid is more reads =
    sym (with_front-append held (t ∷ []) (tokens_from 0 t.end (drop (t.end - at) (b ∷ rest))))
    ∙ ap (with_front held) (sym (tokens-next at b rest t solid is more)) ∙ reads
