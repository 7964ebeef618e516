use Rattle.std.proofs.Common.{◌∙◌}
use Rattle.json_text.proofs.Written.{appended, on_ok_also}
use Rattle.json_text.specs.Writing.{quoted_text}
use Rattle.otlp_json.proofs.Words.{text_of-word, text_of-numeral}
use Rattle.otlp_json.proofs.writing.values.push_spelling.Goals as goal

pub returns-then-is_word : goal.returns-then-is_word
returns-then-is_word c = on_ok_also c.push_text.result _ _ (quoted_text c.args.spelling.now) _ c.push_text.ensures (text_of-word c.args.spelling.now c.if-is_word.ensures)

pub returns : goal.returns
returns c = appended _ _ _ _ _ c.extend_from_slice.ensures.items (c.as_bytes.ensures.value ∙ text_of-numeral c.args.spelling.now c.if-is_word.ensures)
