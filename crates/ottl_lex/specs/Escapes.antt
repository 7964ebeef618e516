-- Escapes as the code holds them.
use Rattle.std.specs.Prelude.{ℕ, List, [], ◌∷◌}
use Rattle.std.specs.Char.{encode_utf8}
use Rattle.ottl_lex.specs.Quoted as quoted
use Rattle.ottl_lex.specs.declared.quoted.Escape.{Escape}
use Rattle.ottl_lex.specs.declared.quoted.Meaning.{Meaning}
use Rattle.ottl_lex.specs.declared.quoted.Meaning.TheVariants.{Byte, Character}

-- the bytes that an escape stands for
abbrev pub bytes_of : Meaning → List ℕ
bytes_of (Byte b) = b ∷ []
bytes_of (Character c) = encode_utf8 c

-- an escape's bytes and size
abbrev pub seen : Escape → quoted.Escape
seen escape = (bytes_of escape.meaning, escape.size)
