use Rattle.std.proofs.Common.{◌≡◌, length}
use Rattle.std.specs.Prelude.{string_bytes}
use Rattle.func_text.specs.Joining.{each_behind}
use Rattle.func_text.proofs.joining.push_each.Given as goal

-- what the rest puts behind the text so far is what all values put behind the text at first
abbrev pub invariant-loop-rest : goal.invariant-loop-rest
invariant-loop-rest l =
    each_behind l.separator (string_bytes l.text) l.rest ≡ each_behind l.fn.separator (string_bytes l.initial.text) l.fn.values

abbrev pub decreases-loop-rest : goal.decreases-loop-rest
decreases-loop-rest l = length l.rest
