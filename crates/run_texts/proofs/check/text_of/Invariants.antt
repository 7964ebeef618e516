use Rattle.std.proofs.Common.{◌≡◌, ◌++◌, drop, string_bytes}
use Rattle.run_texts.specs.Check.{leg_lines, legs_text}
use Rattle.run_texts.proofs.check.text_of.Given as goal

-- what is written, then the lines of the legs that are left, is the whole
abbrev pub invariant-loop-number : goal.invariant-loop-number
invariant-loop-number l =
    string_bytes l.out ++ leg_lines l.draft l.legs l.number (drop l.number l.legs)
    ≡ legs_text l.draft l.legs
