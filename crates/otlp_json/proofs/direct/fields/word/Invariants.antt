use Rattle.std.proofs.Common.{◌≡◌}
use Rattle.json_text.proofs.Turns.{WordSoFar}
use Rattle.otlp_json.proofs.direct.fields.word.Given as goal

-- the letters passed, and nothing counted
abbrev pub invariant-loop-letter : goal.invariant-loop-letter
invariant-loop-letter l = record {
  passed : WordSoFar l.letters l.fn.direct.cursor l.letter-index l.direct.cursor;
  counts : l.direct.counts ≡ l.fn.direct.counts;
}
