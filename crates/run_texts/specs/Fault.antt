-- The note of a configuration's fault.
use Rattle.std.specs.Prelude.{ℕ, List, [], ◌∷◌, ◌++◌, Option, Some, None, codes}
use Rattle.std.specs.Fmt.{decimal}
use Rattle.ottl_lex.specs.Names as syntax_names
use Rattle.ottl_plan.specs.Faults as plan_names
use Rattle.conf_shape.specs.Kinds.{number_of, name_of}
use Rattle.conf_json.specs.declared.fault.ConfFault.{ConfFault}
use Rattle.conf_json.specs.declared.fault.Inner.{Inner}
use Rattle.conf_json.specs.declared.fault.Inner.TheVariants.{Syntax, Plan}

-- what is wrong with a statement, as its kind and its place
abbrev pub inner_text : Option Inner → List ℕ
inner_text None = []
inner_text (Some (Syntax f)) = codes " " ++ syntax_names.fault_text f
inner_text (Some (Plan f)) = codes " " ++ plan_names.fault_text f

-- the number of the fault, its name, and its place
abbrev pub note_of : ConfFault → List ℕ
note_of f =
    codes "conf " ++ decimal (number_of f.kind) ++ codes " " ++ name_of f.kind ++ codes " at $"
    ++ f.at ++ inner_text f.inner ++ 10 ∷ []
