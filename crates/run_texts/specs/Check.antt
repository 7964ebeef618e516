-- What is printed of the legs of a configuration.
use Rattle.std.specs.Prelude.{ℕ, suc, Bool, true, false, List, [], ◌∷◌, ◌++◌, length, slice_get, Option, Some, None, codes}
use Rattle.std.specs.Fmt.{decimal}
use Rattle.conf_draft.specs.declared.draft.Connector.{Connector}
use Rattle.conf_draft.specs.declared.draft.Draft.{Draft}
use Rattle.graph_build.specs.declared.leg.Leg.{Leg}
use Rattle.graph_build.specs.Exits.{connector_at}

-- whether a pipeline changes its data
abbrev pub access : Bool → List ℕ
access true = codes "mutates"
access false = codes "reads"

-- the name of a connector; empty where there is none
abbrev pub name_of : Option Connector → List ℕ
name_of None = []
name_of (Some c) = c.name

-- the connector with that number of a leg's pipeline
abbrev pub connector_behind : Draft → Option Leg → ℕ → Option Connector
connector_behind draft None number = None
connector_behind draft (Some leg) number = connector_at draft leg.pipeline number

-- the name of the connector with that number of the leg with that number
abbrev pub connector_of : Draft → List Leg → ℕ → ℕ → List ℕ
connector_of draft legs parent number =
    name_of (connector_behind draft (slice_get legs parent) number)

-- the same where there is a number
abbrev pub through : Draft → List Leg → ℕ → Option ℕ → List ℕ
through draft legs parent None = []
through draft legs parent (Some number) = connector_of draft legs parent number

-- the row of a connector's table, or its default
abbrev pub way : Option ℕ → List ℕ
way None = codes "default"
way (Some row) = codes "row " ++ decimal row

-- a root, or the number of the parent, the connector's name and the way through it
abbrev pub origin_by : Option ℕ → (ℕ → List ℕ) → List ℕ → List ℕ
origin_by None connector way_text = codes "root"
origin_by (Some parent) connector way_text =
    codes "from " ++ decimal parent ++ codes " " ++ connector parent ++ codes " " ++ way_text

-- where the data of a leg comes from
abbrev pub origin : Draft → List Leg → Leg → List ℕ
origin draft legs leg =
    origin_by leg.parent (λ parent. through draft legs parent leg.connector) (way leg.row)

-- the line of the leg with that number
abbrev pub leg_line : Draft → List Leg → ℕ → Leg → List ℕ
leg_line draft legs number leg =
    codes "leg " ++ decimal number ++ codes " " ++ leg.pipeline ++ codes " "
    ++ origin draft legs leg ++ codes " " ++ access leg.mutates ++ 10 ∷ []

-- the lines of some of the legs, of which the first has that number
abbrev pub leg_lines : Draft → List Leg → ℕ → List Leg → List ℕ
leg_lines draft legs number [] = []
leg_lines draft legs number (leg ∷ more) =
    leg_line draft legs number leg ++ leg_lines draft legs (suc number) more

-- how many legs there are, and the line of each
abbrev pub legs_text : Draft → List Leg → List ℕ
legs_text draft legs =
    codes "ok legs " ++ decimal (length legs) ++ 10 ∷ [] ++ leg_lines draft legs 0 legs
