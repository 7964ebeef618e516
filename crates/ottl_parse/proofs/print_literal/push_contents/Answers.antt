use Rattle.std.proofs.Common.{◌≡◌, ◌∙◌, ◌++◌, ◌≤◌, ℕ, List, length, get_or, arith, ap}
use Rattle.std.specs.List.{prefix_len}
use Rattle.std.specs.Prelude.{string_bytes}
use Rattle.ottl_parse.specs.Printing.{is_plain}
use Rattle.ottl_parse.proofs.Contents.{cut-before, cut-behind, contents-end, contents-more, range-front}
use Rattle.ottl_parse.proofs.print_literal.push_contents.Goals as goal

pub range-requires-clause-end_boundary : goal.range-requires-clause-end_boundary
range-requires-clause-end_boundary c =
    let rest = c.runs.rest.now in
    let count : c.plain_len-count.result ≡ prefix_len is_plain rest = rw c.as_bytes.ensures.value at c.plain_len-count.ensures.value in
    cut-before rest c.plain_len-count.result count (omega (arith, c.plain_len-count.ensures.within, ap (λ (xs : List ℕ). length xs) c.as_bytes.ensures.value))

pub returns-then-count-rest : goal.returns-then-count-rest
returns-then-count-rest c =
    let rest = c.runs.rest.now in
    let count : c.plain_len-count.result ≡ prefix_len is_plain rest = rw c.as_bytes.ensures.value at c.plain_len-count.ensures.value in
    contents-end (string_bytes c.args.out.now) c.args.text.now (string_bytes c.runs.out) rest (string_bytes c.push.new.out) c.plain_len-count.result c.runs.invariant.1 count c.if-count-rest.true
    (c.in_ok-push.ensures ∙ ap (λ (xs : List ℕ). string_bytes c.runs.out ++ xs) (c.range.ensures.value ∙ range-front rest c.plain_len-count.result))

pub range_from-rest-requires : goal.range_from-rest-requires
range_from-rest-requires c = λ some.
    let rest = c.runs.rest.now in
    let count : c.plain_len-count.result ≡ prefix_len is_plain rest = rw c.as_bytes.ensures.value at c.plain_len-count.ensures.value in
    let within : c.plain_len-count.result ≤ length rest = omega (arith, c.plain_len-count.ensures.within, ap (λ (xs : List ℕ). length xs) c.as_bytes.ensures.value) in
    cut-behind rest c.plain_len-count.result c.runs.invariant.0 count (omega (arith, within, c.if-count-rest.false))

pub runs-preserved : goal.runs-preserved
runs-preserved c =
    let rest = c.runs.rest.now in
    let count : c.plain_len-count.result ≡ prefix_len is_plain rest = rw c.as_bytes.ensures.value at c.plain_len-count.ensures.value in
    let within : c.plain_len-count.result ≤ length rest = omega (arith, c.plain_len-count.ensures.within, ap (λ (xs : List ℕ). length xs) c.as_bytes.ensures.value) in (
      c.range_from-rest.utf8,
      contents-more (string_bytes c.args.out.now) c.args.text.now (string_bytes c.runs.out) rest (string_bytes c.push.new.out) (string_bytes c.push_escape.new.out) c.range_from-rest.result.now c.plain_len-count.result _ c.runs.invariant.1 count (omega (arith, within, c.if-count-rest.false))
          (c.in_ok-push.ensures ∙ ap (λ (xs : List ℕ). string_bytes c.runs.out ++ xs) (c.range.ensures.value ∙ range-front rest c.plain_len-count.result)) (ap (λ (xs : List ℕ). get_or xs c.plain_len-count.result 0) c.as_bytes-in-runs.ensures.value) c.in_ok-push_escape.ensures c.range_from-rest.ensures.value,
    )
