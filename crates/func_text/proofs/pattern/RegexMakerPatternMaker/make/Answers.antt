use Rattle.std.proofs.Common.{arith}
use Rattle.func_text.proofs.Bridge.{refused, accepted, accepted_text}
use Rattle.func_text.proofs.pattern.RegexMakerPatternMaker.make.Goals as goal

pub returns-in-Ok-clause-read : goal.returns-in-Ok-clause-read
returns-in-Ok-clause-read c =
    let made = c.in-Ok.ensures in
    let is_pattern = accepted_text c.in-Ok.regex made.read made.config in
    rw made.source at is_pattern

pub returns-in-Err-Syntax-clause-syntax : goal.returns-in-Err-Syntax-clause-syntax
returns-in-Err-Syntax-clause-syntax c = λ _.
    refused c.args.text.now _ (c.in-Err-Syntax.ensures.by_grammar _ c.in-Err-Syntax.field-0-is) (rw c.in-Err-Syntax.field-0-is at c.in-Err-Syntax.ensures.kind)

pub returns-in-Err-CompiledTooBig-clause-size : goal.returns-in-Err-CompiledTooBig-clause-size
returns-in-Err-CompiledTooBig-clause-size c = λ _.
    (accepted c.args.text.now (rw c.in-Err-CompiledTooBig.field-0-is at c.in-Err-CompiledTooBig.ensures.kind), omega (arith, c.saturating_add-self-inside.ensures))
