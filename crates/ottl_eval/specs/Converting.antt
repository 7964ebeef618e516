-- What a converter answers, by the shape of its arguments. A shape that isn't in its row is KindOf;
-- no planned statement has one.
use Rattle.std.specs.Prelude.{ℕ, cond, codes, List, [], ◌∷◌, Result, Ok, Err}
use Rattle.std.specs.Str.{bytes_eq}
use Rattle.func_code.specs.Codes.{decode_of, hex_text_of, parse_json_of, sha256_of}
use Rattle.func_text.specs.Kinds.{is_string_of, is_int_of, is_bool_of, is_double_of, is_map_of, is_list_of}
use Rattle.func_text.specs.Matching.{extract_patterns_of, is_match_of}
use Rattle.func_text.specs.Texts.{concat_of, int_of, len_of, split_of, substring_of}
use Rattle.func_time.specs.Formats.{is_format}
use Rattle.func_time.specs.Times.{time_of, format_time_of, unix_of, unix_seconds_of, unix_milli_of, unix_micro_of, unix_nano_of, year_of, month_of, day_of, hour_of, minute_of, second_of, nanosecond_of, weekday_of}
use Rattle.ottl_plan.specs.declared.argument.ArgumentLiteral.{ArgumentLiteral}
use Rattle.ottl_plan.specs.declared.argument.ArgumentLiteral.TheVariants as literal
use Rattle.ottl_plan.specs.declared.function.Converter.{Converter}
use Rattle.ottl_plan.specs.declared.function.Converter.TheVariants as row
use Rattle.pdata_value.specs.Shown.{string_of}
use Rattle.pdata_value.specs.declared.error.EvalErr.{EvalErr}
use Rattle.pdata_value.specs.declared.error.EvalErr.TheVariants.{KindOf}
use Rattle.pdata_value.specs.declared.value.Value.{Value}

-- of a value
abbrev pub of_value : Converter → Value → Result Value EvalErr
of_value row.Len value = len_of value
of_value row.Int value = int_of value
of_value row.String value = string_of value
of_value row.Sha256 value = sha256_of value
of_value row.Hex value = hex_text_of value
of_value row.ParseJson value = parse_json_of value
of_value row.IsString value = is_string_of value
of_value row.IsInt value = is_int_of value
of_value row.IsBool value = is_bool_of value
of_value row.IsDouble value = is_double_of value
of_value row.IsMap value = is_map_of value
of_value row.IsList value = is_list_of value
of_value row.UnixSeconds value = unix_seconds_of value
of_value row.UnixMilli value = unix_milli_of value
of_value row.UnixMicro value = unix_micro_of value
of_value row.UnixNano value = unix_nano_of value
of_value row.Year value = year_of value
of_value row.Month value = month_of value
of_value row.Day value = day_of value
of_value row.Hour value = hour_of value
of_value row.Minute value = minute_of value
of_value row.Second value = second_of value
of_value row.Nanosecond value = nanosecond_of value
of_value row.Weekday value = weekday_of value
of_value _ value = Err KindOf

-- of a value and a text
abbrev pub of_text : Converter → Value → List ℕ → Result Value EvalErr
of_text row.Concat value text = concat_of value text
of_text row.Split value text = split_of value text
of_text row.Decode value text =
    cond (bytes_eq text (codes "base64")) (decode_of value text) (Err KindOf)
of_text row.Time value text = time_of value text
of_text row.FormatTime value text = cond (is_format text) (format_time_of value text) (Err KindOf)
of_text _ value text = Err KindOf

-- of a value and a pattern
abbrev pub of_pattern : Converter → Value → List ℕ → Result Value EvalErr
of_pattern row.IsMatch value pattern = is_match_of value pattern
of_pattern row.ExtractPatterns value pattern = extract_patterns_of value pattern
of_pattern _ value pattern = Err KindOf

-- of a value and what the call spells
abbrev pub of_literal : Converter → Value → ArgumentLiteral → Result Value EvalErr
of_literal converter value (literal.Text text) = of_text converter value text
of_literal converter value (literal.Pattern pattern) = of_pattern converter value pattern
of_literal converter value (literal.Keys keys) = Err KindOf

-- of a value, with what the call spells behind it
abbrev pub of_one : Converter → Value → List ArgumentLiteral → Result Value EvalErr
of_one converter value [] = of_value converter value
of_one converter value (l ∷ []) = of_literal converter value l
of_one converter value (l ∷ m ∷ ls) = Err KindOf

-- of two values
abbrev pub of_two : Converter → Value → Value → Result Value EvalErr
of_two row.Unix seconds nanoseconds = unix_of seconds nanoseconds
of_two _ first second = Err KindOf

-- of three values
abbrev pub of_three : Converter → Value → Value → Value → Result Value EvalErr
of_three row.Substring value start count = substring_of value start count
of_three _ first second third = Err KindOf

-- of several values
abbrev pub of_several : Converter → List Value → Result Value EvalErr
of_several converter (v ∷ w ∷ []) = of_two converter v w
of_several converter (v ∷ w ∷ x ∷ []) = of_three converter v w x
of_several converter _ = Err KindOf

-- of values, where the call spells nothing
abbrev pub of_values : Converter → List Value → List ArgumentLiteral → Result Value EvalErr
of_values converter vs [] = of_several converter vs
of_values converter vs (l ∷ ls) = Err KindOf

-- what a converter answers of values and of what the call spells
abbrev pub converted : Converter → List Value → List ArgumentLiteral → Result Value EvalErr
converted converter (v ∷ []) literals = of_one converter v literals
converted converter vs literals = of_values converter vs literals
