use Rattle.std.proofs.Common.{◌≡◌, ◌==◌, ◌++◌, ◌∙◌, List, ℕ, codes, sym, ap, arith}
use Rattle.std.specs.List.{list_all}
use Rattle.hex.specs.Hex.{encode_lower}
use Rattle.json_text.specs.Writing.{bytes_text}
use Rattle.otlp_json.specs.Line.{text_json}
use Rattle.otlp_json.proofs.Words.{text_of-text, Adds-present, bytes_text-plain, plain_hex}
use Rattle.otlp_json.proofs.writing.members.push_id_bytes.Goals as goal

pub returns : goal.returns
returns c =
    let digits = encode_lower c.args.id.now in
    let plain : bytes_text digits ≡ digits = bytes_text-plain digits (plain_hex c.args.id.now (λ i. omega (arith, c.type_inv.id i))) in
    Adds-present (list_all (λ b. b == 0) c.args.id.now) c.args.key.now (text_json digits) c.args.some c.args.out.now.items _ _ (sym c.if-is_zero.ensures) c.in_ok-push_key.ensures
    (c.in_ok-push_digits.ensures
    ∙ ap (λ (t : List ℕ). c.push_key.new.out.items ++ t) (ap (λ (t : List ℕ). codes "\"" ++ (t ++ codes "\"")) (sym plain) ∙ sym (text_of-text digits)))
