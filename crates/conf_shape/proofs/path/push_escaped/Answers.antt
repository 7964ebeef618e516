use Rattle.std.proofs.Common.{sym, ap, ◌∙◌, ◌++◌, string_bytes, append_assoc}
use Rattle.conf_shape.specs.Pointer.{escape, escape_char}
use Rattle.conf_shape.proofs.Escapes.{escape-encode}
use Rattle.conf_shape.proofs.path.push_escaped.Goals as goal

pub loop-c-preserved : goal.loop-c-preserved
loop-c-preserved c =
    let rest = c.next.new.self.rest.now in
    ap (λ bytes. bytes ++ escape rest) c.in_ok-push_char.ensures
    ∙ append_assoc (string_bytes c.loop-c.out) (escape_char c.in-Some.c) (escape rest)
    ∙ ap (λ bytes. string_bytes c.loop-c.out ++ bytes) (sym (escape-encode c.in-Some.c rest))
    ∙ ap (λ bytes. string_bytes c.loop-c.out ++ escape bytes) (sym c.in-Some.ensures.steps.0)
    ∙ c.loop-c.invariant
