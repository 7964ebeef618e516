-- What was read so far, before what is still to be read.
use Rattle.std.proofs.Common.{◌≡◌, List, [], ◌++◌, refl, sym, ap, append_assoc}
use Rattle.std.specs.Prelude.{Result, Ok, Err}
use Rattle.ottl_lex.specs.declared.fault.SyntaxFault.{SyntaxFault}
use Rattle.ottl_lex.specs.Quoted.{with_front}

pub with_front-nil : {X : Type 0} (read : Result (List X) SyntaxFault) → with_front [] read ≡ read
with_front-nil (Ok items) = refl
with_front-nil (Err e) = refl

pub with_front-append : {X : Type 0} (a b : List X) (read : Result (List X) SyntaxFault) → with_front a (with_front b read) ≡ with_front (a ++ b) read
with_front-append a b (Ok items) = ap Ok (sym (append_assoc a b items))
with_front-append a b (Err e) = refl
