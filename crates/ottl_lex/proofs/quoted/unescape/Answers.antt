use Rattle.std.proofs.Common.{◌+◌, ◌++◌, arith}
use Rattle.ottl_lex.specs.Escapes.{bytes_of}
use Rattle.ottl_lex.specs.Quoted.{unescaped}
use Rattle.ottl_lex.proofs.Pieces.{run-passed, run-ends, pieces-end, pieces-bad, pieces-escape}
use Rattle.ottl_lex.proofs.quoted.unescape.Goals as goal

-- a run of plain bytes up to the end
pub returns-in_default : goal.returns-in_default
returns-in_default c =
    let here = c.pieces in
    let front = c.split_at.result.0.now in
    let others = c.split_at.result.1.now in
    let meant = unescaped 0 c.args.at c.args.text.now in
    let run = run-passed here.bytes.items here.place here.rest.now meant c.plain_len.result front others here.invariant.reads c.plain_len.ensures.value c.split_at.ensures.front c.split_at.ensures.back in
    rw c.in_ok-extend_from_slice.ensures.items (pieces-end (here.bytes.items ++ front) (here.place + c.plain_len.result) meant others c.in_default.ensures.cases run)

-- a backslash that begins no escape
pub returns-in_default-escape_at : goal.returns-in_default-escape_at
returns-in_default-escape_at c =
    let here = c.pieces in
    let front = c.split_at.result.0.now in
    let others = c.split_at.result.1.now in
    let meant = unescaped 0 c.args.at c.args.text.now in
    let first = c.in-Some.ensures.cases.0 in
    let run = run-passed here.bytes.items here.place here.rest.now meant c.plain_len.result front others here.invariant.reads c.plain_len.ensures.value c.split_at.ensures.front c.split_at.ensures.back in
    let slash = run-ends here.rest.now c.plain_len.result others c.in-Some.field-0-0.now c.in-Some.behind.now c.plain_len.ensures.value c.split_at.ensures.back first in
    rw (c.stop.ensures, c.split_at.ensures.front_len) (pieces-bad (here.bytes.items ++ front) (here.place + c.plain_len.result) meant others c.in-Some.field-0-0.now c.in-Some.behind.now slash first run c.in_default-escape_at.ensures.value)

-- an escape
pub pieces-preserved : goal.pieces-preserved
pieces-preserved c =
    let here = c.pieces in
    let front = c.split_at.result.0.now in
    let others = c.split_at.result.1.now in
    let meant = unescaped 0 c.args.at c.args.text.now in
    let first = c.in-Some.ensures.cases.0 in
    let run = run-passed here.bytes.items here.place here.rest.now meant c.plain_len.result front others here.invariant.reads c.plain_len.ensures.value c.split_at.ensures.front c.split_at.ensures.back in
    let slash = run-ends here.rest.now c.plain_len.result others c.in-Some.field-0-0.now c.in-Some.behind.now c.plain_len.ensures.value c.split_at.ensures.back first in
    let escape = c.in-Some-escape_at.escape in
    record {
      reads = rw (c.in_ok-write_to.ensures, c.in_ok-extend_from_slice.ensures.items, c.split_at.ensures.front_len, c.split_at-in-pieces.ensures.back)
          (pieces-escape (here.bytes.items ++ front) (here.place + c.plain_len.result) meant others c.in-Some.field-0-0.now c.in-Some.behind.now slash first run (bytes_of escape.meaning) escape.size c.in-Some-escape_at.ensures.value);
      room = omega (arith, c.in-Some.ensures.cases.1);
    }
