-- Ids of traces and spans as texts (OTLP/JSON: hexadecimal digits of either case).
use Rattle.std.specs.Prelude.{ℕ, ◌==◌, Bool, cond, replicate, List, [], ◌∷◌, Option, Some}
use Rattle.std.specs.List.{list_all}
use Rattle.std.specs.Result.{result_ok}
use Rattle.hex.specs.Hex.{decode_sized, encode_lower}

-- the bytes of an id: none spelled, or two hexadecimal digits for each byte
abbrev pub id_bytes : ℕ → List ℕ → Option (List ℕ)
id_bytes size [] = Some (replicate size 0)
id_bytes size (b ∷ bs) = result_ok (decode_sized (b ∷ bs) size)

-- whether an id is the empty one, of zeros alone
abbrev pub is_empty_id : List ℕ → Bool
is_empty_id id = list_all (λ b. b == 0) id

-- the text of an id: lower-case digits, or the empty text
abbrev pub id_text : List ℕ → List ℕ
id_text id = cond (is_empty_id id) [] (encode_lower id)
