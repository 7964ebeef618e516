-- The functions of statements: their names, and what they want in the places of their arguments
-- (the table of functions in docs/FUNCTIONS.md).
use Rattle.std.specs.Prelude.{ℕ, cond, codes, List, [], ◌∷◌, Option, Some, None}
use Rattle.std.specs.Str.{bytes_eq}
use Rattle.ottl_plan.specs.declared.argument.ArgumentKind.{ArgumentKind}
use Rattle.ottl_plan.specs.declared.argument.ArgumentKind.TheVariants.{Value, Pattern, Text, Keys, Strategy, Mode, Code, Format}
use Rattle.ottl_plan.specs.declared.function.Converter.{Converter}
use Rattle.ottl_plan.specs.declared.function.Converter.TheVariants as convert
use Rattle.ottl_plan.specs.declared.function.Editor.{Editor}
use Rattle.ottl_plan.specs.declared.function.Editor.TheVariants as edit

-- the editor of a name
unfoldable pub editor_of : List ℕ → Option Editor
editor_of name =
    cond (bytes_eq name (codes "set")) (Some edit.Set)
    (cond (bytes_eq name (codes "delete_key")) (Some edit.DeleteKey)
    (cond (bytes_eq name (codes "delete_matching_keys")) (Some edit.DeleteMatchingKeys)
    (cond (bytes_eq name (codes "keep_keys")) (Some edit.KeepKeys)
    (cond (bytes_eq name (codes "keep_matching_keys")) (Some edit.KeepMatchingKeys)
    (cond (bytes_eq name (codes "merge_maps")) (Some edit.MergeMaps)
    (cond (bytes_eq name (codes "replace_pattern")) (Some edit.ReplacePattern)
    (cond (bytes_eq name (codes "replace_all_patterns")) (Some edit.ReplaceAllPatterns) None)))))))

-- what an editor wants behind its target
abbrev pub editor_arguments : Editor → List ArgumentKind
editor_arguments edit.Set = Value ∷ []
editor_arguments edit.DeleteKey = Text ∷ []
editor_arguments edit.DeleteMatchingKeys = Pattern ∷ []
editor_arguments edit.KeepKeys = Keys ∷ []
editor_arguments edit.KeepMatchingKeys = Pattern ∷ []
editor_arguments edit.MergeMaps = Value ∷ Strategy ∷ []
editor_arguments edit.ReplacePattern = Pattern ∷ Text ∷ []
editor_arguments edit.ReplaceAllPatterns = Mode ∷ Pattern ∷ Text ∷ []

-- the converters on texts and on values
unfoldable pub text_converter : List ℕ → Option Converter
text_converter name =
    cond (bytes_eq name (codes "Concat")) (Some convert.Concat)
    (cond (bytes_eq name (codes "Split")) (Some convert.Split)
    (cond (bytes_eq name (codes "Substring")) (Some convert.Substring)
    (cond (bytes_eq name (codes "Len")) (Some convert.Len)
    (cond (bytes_eq name (codes "Int")) (Some convert.Int)
    (cond (bytes_eq name (codes "String")) (Some convert.String)
    (cond (bytes_eq name (codes "IsMatch")) (Some convert.IsMatch)
    (cond (bytes_eq name (codes "ExtractPatterns")) (Some convert.ExtractPatterns)
    (cond (bytes_eq name (codes "SHA256")) (Some convert.Sha256)
    (cond (bytes_eq name (codes "Hex")) (Some convert.Hex)
    (cond (bytes_eq name (codes "Decode")) (Some convert.Decode)
    (cond (bytes_eq name (codes "ParseJSON")) (Some convert.ParseJson) None)))))))))))

-- the converters on the kinds of values
unfoldable pub kind_converter : List ℕ → Option Converter
kind_converter name =
    cond (bytes_eq name (codes "IsString")) (Some convert.IsString)
    (cond (bytes_eq name (codes "IsInt")) (Some convert.IsInt)
    (cond (bytes_eq name (codes "IsBool")) (Some convert.IsBool)
    (cond (bytes_eq name (codes "IsDouble")) (Some convert.IsDouble)
    (cond (bytes_eq name (codes "IsMap")) (Some convert.IsMap)
    (cond (bytes_eq name (codes "IsList")) (Some convert.IsList) None)))))

-- the converters from and to times
unfoldable pub time_converter : List ℕ → Option Converter
time_converter name =
    cond (bytes_eq name (codes "Time")) (Some convert.Time)
    (cond (bytes_eq name (codes "FormatTime")) (Some convert.FormatTime)
    (cond (bytes_eq name (codes "Unix")) (Some convert.Unix)
    (cond (bytes_eq name (codes "UnixSeconds")) (Some convert.UnixSeconds)
    (cond (bytes_eq name (codes "UnixMilli")) (Some convert.UnixMilli)
    (cond (bytes_eq name (codes "UnixMicro")) (Some convert.UnixMicro)
    (cond (bytes_eq name (codes "UnixNano")) (Some convert.UnixNano) None))))))

-- the converters for the parts of a time
unfoldable pub part_converter : List ℕ → Option Converter
part_converter name =
    cond (bytes_eq name (codes "Year")) (Some convert.Year)
    (cond (bytes_eq name (codes "Month")) (Some convert.Month)
    (cond (bytes_eq name (codes "Day")) (Some convert.Day)
    (cond (bytes_eq name (codes "Hour")) (Some convert.Hour)
    (cond (bytes_eq name (codes "Minute")) (Some convert.Minute)
    (cond (bytes_eq name (codes "Second")) (Some convert.Second)
    (cond (bytes_eq name (codes "Nanosecond")) (Some convert.Nanosecond)
    (cond (bytes_eq name (codes "Weekday")) (Some convert.Weekday) None)))))))

-- what is found first
abbrev pub or_else : Option Converter → Option Converter → Option Converter
or_else None other = other
or_else (Some converter) other = Some converter

-- the converter of a name
abbrev pub converter_of : List ℕ → Option Converter
converter_of name =
    or_else (text_converter name)
    (or_else (kind_converter name) (or_else (time_converter name) (part_converter name)))

-- what a converter wants
abbrev pub converter_arguments : Converter → List ArgumentKind
converter_arguments convert.Concat = Value ∷ Text ∷ []
converter_arguments convert.Split = Value ∷ Text ∷ []
converter_arguments convert.Substring = Value ∷ Value ∷ Value ∷ []
converter_arguments convert.IsMatch = Value ∷ Pattern ∷ []
converter_arguments convert.ExtractPatterns = Value ∷ Pattern ∷ []
converter_arguments convert.Decode = Value ∷ Code ∷ []
converter_arguments convert.Time = Value ∷ Format ∷ []
converter_arguments convert.FormatTime = Value ∷ Format ∷ []
converter_arguments convert.Unix = Value ∷ Value ∷ []
converter_arguments _ = Value ∷ []
