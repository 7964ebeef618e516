-- Places among the tokens of a text.
use Rattle.std.specs.Prelude.{ℕ, List, [], ◌∷◌, length, drop}
use Rattle.ottl_lex.specs.Codes.{code_of, end}
use Rattle.ottl_lex.specs.Tokens.{slice_of}
use Rattle.ottl_lex.specs.declared.token.Token.{Token}

-- a text, and the tokens of it that are left
pub record Rest : Type 0 where
  pub text : List ℕ
  pub left : List Token

-- the code of the first token, and `end` where there is none
abbrev pub head_of : List ℕ → List Token → ℕ
head_of text [] = end
head_of text (t ∷ ts) = code_of text t

-- the place of the first token, and that of the end where there is none
abbrev pub place_of : List ℕ → List Token → ℕ
place_of text [] = length text
place_of text (t ∷ ts) = t.begin

-- the bytes of the first token
abbrev pub first_slice : List ℕ → List Token → List ℕ
first_slice text [] = []
first_slice text (t ∷ ts) = slice_of text t

-- the code of the next token
abbrev pub head : Rest → ℕ
head r = head_of r.text r.left

-- its place
abbrev pub place : Rest → ℕ
place r = place_of r.text r.left

-- its bytes
abbrev pub slice : Rest → List ℕ
slice r = first_slice r.text r.left

-- behind the next token
abbrev pub past : Rest → Rest
past r = record { text = r.text; left = drop 1 r.left }
