use Rattle.std.proofs.Common.{◌≡◌, ◌++◌, ◌∙◌, List, ℕ, sym, ap, to_z-of_z, SFits, w32, to_z, of_z, pos}
use Rattle.std.specs.Ordering.{int_eq}
use Rattle.std.specs.Fmt.{signed_decimal}
use Rattle.otlp_json.specs.Line.{number_json}
use Rattle.otlp_json.proofs.Words.{text_of-number, Adds-present, nonzero_int}
use Rattle.otlp_json.proofs.writing.members.push_i32_member.Goals as goal

pub returns : goal.returns
returns c =
    let fits : SFits w32 c.args.n = c.ranges.n in
    let same : to_z w32 (of_z w32 c.args.n) ≡ c.args.n = to_z-of_z fits in
    Adds-present (int_eq c.args.n (pos 0)) c.args.key.now (number_json (signed_decimal c.args.n)) c.args.some c.args.out.now.items _ _ (nonzero_int c.args.n (λ is. c.if-n-eq0.false (ap (of_z w32) is))) c.in_ok-push_key.ensures
    (c.in_ok-extend_from_slice.ensures.items ∙ ap (λ (t : List ℕ). c.push_key.new.out.items ++ t) (c.as_bytes.ensures.value ∙ c.format.ensures.text ∙ ap signed_decimal same ∙ sym (text_of-number (signed_decimal c.args.n))))
