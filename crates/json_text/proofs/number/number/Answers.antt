use Rattle.std.proofs.Common.{◌∙◌, arith, ap, length, sym, subst, List, ℕ}
use Rattle.pdata_value.specs.Numeral.{numeral}
use Rattle.contract_words.specs.Grammar.{spells}
use Rattle.json_text.proofs.Numerals.{number_end-spelled, Spelled-cut, Spelled-range}
use Rattle.json_text.proofs.number.number.Goals as goal

pub overflow_sub-count : goal.overflow_sub-count
overflow_sub-count c = omega (arith, c.in_ok-pass_number.ensures.shorter, ap (λ (z : List ℕ). length z) c.rest.ensures, ap (λ (z : List ℕ). length z) c.rest-whole.ensures)

pub range-requires-clause-end_boundary : goal.range-requires-clause-end_boundary
range-requires-clause-end_boundary c =
    let spelled = number_end-spelled c.args.cursor.now c.pass_number.new.cursor c.in_ok-pass_number.ensures.gives in
    rw (c.rest.ensures, c.rest-whole.ensures) (Spelled-cut numeral c.args.cursor.now c.pass_number.new.cursor spelled (rw c.rest.ensures at c.rest.utf8))

pub returns-clause-numeral : goal.returns-clause-numeral
returns-clause-numeral c =
    let spelled = number_end-spelled c.args.cursor.now c.pass_number.new.cursor c.in_ok-pass_number.ensures.gives in
    let word = Spelled-range numeral c.args.cursor.now c.pass_number.new.cursor spelled in
    subst (λ (w : List ℕ). spells numeral w) (sym (c.range.ensures.value ∙ rw (c.rest.ensures, c.rest-whole.ensures) word)) spelled.spelled
