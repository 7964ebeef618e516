use Rattle.std.proofs.Common.{◌≡◌, ◌++◌, string_bytes}
use Rattle.conf_shape.specs.Pointer.{escape}
use Rattle.conf_shape.proofs.path.push_escaped.Given as goal

-- what was written, then the characters left, is the whole
abbrev pub invariant-loop-c : goal.invariant-loop-c
invariant-loop-c l = string_bytes l.out ++ escape l.c-iterator.rest.now ≡ string_bytes l.initial.out ++ escape l.key
