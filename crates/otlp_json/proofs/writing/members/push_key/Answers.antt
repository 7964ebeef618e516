use Rattle.std.proofs.Common.{◌≡◌, ◌++◌, ◌∙◌, List, ℕ, codes, sym, ap, append_assoc}
use Rattle.json_text.specs.Writing.{bytes_text}
use Rattle.otlp_json.specs.Adding.{comma_if}
use Rattle.otlp_json.proofs.Words.{three_pushed, two_pushed, bytes_text-plain}
use Rattle.otlp_json.proofs.writing.members.push_key.Goals as goal

regroup : (key : List ℕ) → codes "\"" ++ (key ++ codes "\":") ≡ (codes "\"" ++ (key ++ codes "\"")) ++ codes ":"
regroup key = simp append_assoc

pub returns : goal.returns
returns c =
    let key = c.args.key.now in
    let comma = c.push_comma_if.new.out.items in
    let quote = c.push.new.self.items in
    let keyed = c.extend_from_slice.new.self.items in
    let plain : bytes_text key ≡ key = bytes_text-plain key c.requires in
    two_pushed c.args.out.now.items (comma_if c.args.some) (codes "\"" ++ (key ++ codes "\":")) comma _ c.in_ok-push_comma_if.ensures
    (three_pushed comma (codes "\"") key (codes "\":") quote keyed _ c.in_ok-push.ensures.items
    (c.in_ok-extend_from_slice.ensures.items ∙ ap (λ (t : List ℕ). quote ++ t) c.as_bytes.ensures.value) c.in_ok-extend_from_slice-2.ensures.items)
    ∙ ap (λ (t : List ℕ). c.args.out.now.items ++ (comma_if c.args.some ++ t)) (regroup key ∙ ap (λ (t : List ℕ). (codes "\"" ++ (t ++ codes "\"")) ++ codes ":") (sym plain))
