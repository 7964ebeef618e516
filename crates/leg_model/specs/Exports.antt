-- What an exporter gets of the lines of an input: what the pipelines above it leave of each
-- payload.
use Rattle.std.specs.List.{concat}
use Rattle.std.specs.Prelude.{ℕ, Bool, List, [], ◌∷◌, ◌++◌, Option, Some, None, Ok, Err, if◌then◌else◌}
use Rattle.conf_draft.specs.References.{is_among}
use Rattle.conf_draft.specs.declared.draft.Draft.{Draft}
use Rattle.conf_draft.specs.declared.draft.Pipeline.{Pipeline}
use Rattle.graph_build.specs.Exits.{pipeline_named}
use Rattle.graph_build.specs.declared.leg.Leg.{Leg}
use Rattle.graph_build.specs.Conf.{Conf}
use Rattle.leg_model.specs.Legs.{Kind, leg_outcome}
use Rattle.otlp_json.specs.Line.{line}
use Rattle.otlp_json.specs.Payload.{payload}
use Rattle.otlp_json.specs.Reads.{Read}
use Rattle.pdata_tree.specs.Grouping.{grouped}
use Rattle.pdata_tree.specs.Operations.{log_trees}
use Rattle.pdata_tree.specs.declared.batch.Batch.{Batch}
use Rattle.pdata_tree.specs.declared.resource.ResourceTree.{ResourceTree}

-- trees of log records
abbrev pub logs : Kind Batch
logs = record { ops = log_trees; group = grouped; empty = record { resources = [] } }

-- the line of a tree with those resources, if it has one: its written form and a newline
abbrev pub lines_of : Batch → List ResourceTree → List (List ℕ)
lines_of tree [] = []
lines_of tree (r ∷ rs) = (line tree ++ 10 ∷ []) ∷ []

-- the line of what a leg left; none where it failed
abbrev pub lines_left : Option Batch → List (List ℕ)
lines_left None = []
lines_left (Some tree) = lines_of tree tree.resources

-- the pipeline has that exporter
abbrev pub has_exporter : List ℕ → Option Pipeline → Bool
has_exporter exporter None = is_among exporter []
has_exporter exporter (Some p) = is_among exporter p.exporters

-- the leg goes to that exporter
abbrev pub goes_to : Draft → List ℕ → Leg → Bool
goes_to draft exporter leg = has_exporter exporter (pipeline_named leg.pipeline draft.pipelines)

-- the lines of a payload's tree that legs leave to an exporter, in the order of the legs
abbrev pub legs_lines : Conf → List ℕ → Batch → List Leg → List (List ℕ)
legs_lines conf exporter tree [] = []
legs_lines conf exporter tree (leg ∷ legs) =
    (if goes_to conf.meant.draft exporter leg
    then lines_left (leg_outcome logs conf tree leg).tree else [])
    ++ legs_lines conf exporter tree legs

-- the lines of a payload that an exporter gets; none where it is refused
abbrev pub payload_lines : Conf → List ℕ → Read Batch → List (List ℕ)
payload_lines conf exporter (Ok tree) = legs_lines conf exporter tree conf.legs
payload_lines conf exporter (Err fault) = []

-- the lines that an exporter gets of the lines of an input
abbrev pub exported : Conf → List ℕ → List (List ℕ) → List (List ℕ)
exported conf exporter [] = []
exported conf exporter (l ∷ ls) =
    payload_lines conf exporter (payload l) ++ exported conf exporter ls

-- what an exporter holds of the lines of an input
abbrev pub alone : Conf → List ℕ → List (List ℕ) → List ℕ
alone conf exporter lines = concat (exported conf exporter lines)
