use Rattle.std.proofs.lemmas.Str.{IsUtf8-had}
use Rattle.ottl_lex.proofs.Pieces.{contents-utf8, contents-not_utf8}
use Rattle.ottl_lex.proofs.quoted.read_contents.Goals as goal

pub returns-in-Ok : goal.returns-in-Ok
returns-in-Ok c =
    let utf8 = rw c.in-Ok.ensures.ok at (IsUtf8-had c.in-Ok.text.bytes.items c.in-Ok.text.ok) in
    let read = contents-utf8 c.args.at c.args.inside.now c.in_ok-bytes.bytes.items c.in_ok-bytes.ensures utf8 in
    rw c.in-Ok.ensures.ok read

pub returns : goal.returns
returns c =
    let read = contents-not_utf8 c.args.at c.args.inside.now c.in_ok-bytes.bytes.items c.in_ok-bytes.ensures (λ utf8. let yes = c.in-Err.ensures.succeeds utf8 in cc) in
    rw c.stop.ensures read
