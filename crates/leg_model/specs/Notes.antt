-- What is noted of the lines of an input: each refused payload, and the errors of each leg on the
-- others.
use Rattle.std.specs.Prelude.{ℕ, suc, List, [], ◌∷◌, ◌++◌, Option, Some, None, codes, slice_get, unwrap_or, Ok, Err}
use Rattle.std.specs.Fmt.{decimal}
use Rattle.conf_json.specs.declared.account.Part.{Part}
use Rattle.conf_json.specs.declared.account.Part.TheVariants.{Statement, GroupCondition, FilterCondition, RouteRow}
use Rattle.graph_build.specs.declared.leg.Leg.{Leg}
use Rattle.leg_model.specs.Course.{Outcome}
use Rattle.leg_model.specs.Exports.{logs}
use Rattle.graph_build.specs.Conf.{Conf}
use Rattle.leg_model.specs.Legs.{leg_outcome}
use Rattle.leg_model.specs.Parts.{part_names}
use Rattle.leg_model.specs.declared.LegNote.{LegNote}
use Rattle.otlp_json.specs.Names.{fault_name}
use Rattle.otlp_json.specs.Payload.{payload}
use Rattle.otlp_json.specs.Reads.{Read}
use Rattle.otlp_json.specs.declared.error.PayloadFault.{PayloadFault}
use Rattle.pdata_tree.specs.declared.batch.Batch.{Batch}
use Rattle.pdata_tree.specs.declared.place.Context.{Context}
use Rattle.pdata_tree.specs.declared.place.Context.TheVariants.{Resource, Scope, Log}
use Rattle.pdata_tree.specs.declared.place.Place.{Place}
use Rattle.pdata_value.specs.Errors.{error_name}

-- the number of a group
unfoldable pub group_text : ℕ → List ℕ
group_text group = codes "group " ++ decimal group

-- a part of a group by its number
abbrev pub numbered_part : ℕ → List ℕ → ℕ → List ℕ
numbered_part group kind index =
    group_text group ++ codes " " ++ kind ++ codes " " ++ decimal index

-- what erred
abbrev pub part_text : Part → ℕ → ℕ → List ℕ
part_text Statement group index = numbered_part group (codes "statement") index
part_text GroupCondition group index = numbered_part group (codes "condition") index
part_text FilterCondition group index = codes "condition " ++ decimal index
part_text RouteRow group index = codes "row " ++ decimal index

-- a place, as many numbers as the context has
abbrev pub place_text : Context → Place → List ℕ
place_text Resource at = decimal at.resource
place_text Scope at = decimal at.resource ++ codes "/" ++ decimal at.scope
place_text Log at =
    decimal at.resource ++ codes "/" ++ decimal at.scope ++ codes "/" ++ decimal at.log

-- an error of a leg, whose parts have these names
abbrev pub error_text : List (List ℕ) → LegNote → List ℕ
error_text names e =
    unwrap_or (slice_get names e.component) [] ++ codes " "
    ++ part_text e.note.part e.note.group e.note.index ++ codes " at "
    ++ place_text e.note.context e.note.place ++ codes " " ++ error_name e.note.err

-- the number of a payload
abbrev pub payload_text : ℕ → List ℕ
payload_text number = codes "payload " ++ decimal number

-- the number of a leg on it
abbrev pub leg_text : ℕ → ℕ → List ℕ
leg_text number leg = payload_text number ++ codes " leg " ++ decimal leg

-- the line of an error that a leg counted
abbrev pub counted_line : List ℕ → List (List ℕ) → LegNote → List ℕ
counted_line head names e = head ++ codes " " ++ error_text names e ++ 10 ∷ []

-- the errors that a leg counted
abbrev pub counted_text : List ℕ → List (List ℕ) → List LegNote → List ℕ
counted_text head names [] = []
counted_text head names (e ∷ es) = counted_line head names e ++ counted_text head names es

-- the error with which a leg failed, if it did
abbrev pub failed_text : List ℕ → List (List ℕ) → Option LegNote → List ℕ
failed_text head names None = []
failed_text head names (Some e) = head ++ codes " failed " ++ error_text names e ++ 10 ∷ []

-- what is noted of a leg: its errors in order, then its failure
abbrev pub outcome_text : {T : Type 0} → List ℕ → List (List ℕ) → Outcome T → List ℕ
outcome_text head names o = counted_text head names o.notes ++ failed_text head names o.fault

-- what is noted of legs on a payload with that number, the first leg with this one
abbrev pub legs_text : Conf → ℕ → Batch → ℕ → List Leg → List ℕ
legs_text conf number tree index [] = []
legs_text conf number tree index (leg ∷ legs) =
    outcome_text (leg_text number index) (part_names conf.meant.draft leg.pipeline)
    (leg_outcome logs conf tree leg)
    ++ legs_text conf number tree (suc index) legs

-- a refused payload
abbrev pub refused_text : ℕ → PayloadFault → List ℕ
refused_text number fault =
    payload_text number ++ codes " refused " ++ fault_name fault ++ 10 ∷ []

-- what is noted of a payload
abbrev pub payload_notes : Conf → ℕ → Read Batch → List ℕ
payload_notes conf number (Ok tree) = legs_text conf number tree 0 conf.legs
payload_notes conf number (Err fault) = refused_text number fault

-- what is noted of lines, the first of which has that payload number
abbrev pub notes_from : Conf → ℕ → List (List ℕ) → List ℕ
notes_from conf number [] = []
notes_from conf number (l ∷ ls) =
    payload_notes conf number (payload l) ++ notes_from conf (suc number) ls
