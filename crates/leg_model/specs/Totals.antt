-- What is counted over the lines of an input, and its summary.
use Rattle.std.specs.Prelude.{ℕ, suc, ◌+◌, List, [], ◌∷◌, ◌++◌, length, map, codes, Ok, Err}
use Rattle.std.specs.Fmt.{decimal}
use Rattle.conf_draft.specs.declared.draft.Exporter.{Exporter}
use Rattle.graph_build.specs.declared.leg.Leg.{Leg}
use Rattle.leg_model.specs.Course.{no_counts}
use Rattle.leg_model.specs.Exports.{logs, exported, alone}
use Rattle.graph_build.specs.Conf.{Conf}
use Rattle.leg_model.specs.Legs.{leg_outcome}
use Rattle.leg_model.specs.declared.FileTotal.{FileTotal}
use Rattle.leg_model.specs.declared.LegCounts.{LegCounts}
use Rattle.leg_model.specs.declared.Totals.{Totals}
use Rattle.otlp_json.specs.Payload.{payload}
use Rattle.otlp_json.specs.Reads.{Read}
use Rattle.pdata_tree.specs.declared.batch.Batch.{Batch}

-- one if the payload is accepted
abbrev pub accepted_by : Read Batch → ℕ
accepted_by (Ok tree) = 1
accepted_by (Err fault) = 0

-- one if it is refused
abbrev pub refused_by : Read Batch → ℕ
refused_by (Ok tree) = 0
refused_by (Err fault) = 1

-- how many of these lines are accepted
abbrev pub accepted : List (List ℕ) → ℕ
accepted [] = 0
accepted (l ∷ ls) = accepted_by (payload l) + accepted ls

-- how many of them are refused
abbrev pub refused : List (List ℕ) → ℕ
refused [] = 0
refused (l ∷ ls) = refused_by (payload l) + refused ls

-- counts added up
abbrev pub plus : LegCounts → LegCounts → LegCounts
plus a b = record {
  taken = a.taken + b.taken;
  out = a.out + b.out;
  filtered = a.filtered + b.filtered;
  unrouted = a.unrouted + b.unrouted;
  failed = a.failed + b.failed;
  errors = a.errors + b.errors;
}

-- what is counted of a leg on a payload; nothing where it is refused
abbrev pub payload_counts : Conf → Leg → Read Batch → LegCounts
payload_counts conf leg (Ok tree) = (leg_outcome logs conf tree leg).counts
payload_counts conf leg (Err fault) = no_counts

-- what is counted of a leg over lines
abbrev pub leg_total : Conf → Leg → List (List ℕ) → LegCounts
leg_total conf leg [] = no_counts
leg_total conf leg (l ∷ ls) = plus (payload_counts conf leg (payload l)) (leg_total conf leg ls)

-- what an exporter gets of these lines: so many lines, and so many bytes
abbrev pub file_total : Conf → List (List ℕ) → Exporter → FileTotal
file_total conf lines e = record {
  lines = length (exported conf e.name lines);
  bytes = length (alone conf e.name lines);
}

-- what is counted on these lines
abbrev pub totals_of : Conf → List (List ℕ) → Totals
totals_of conf lines = record {
  accepted = accepted lines;
  refused = refused lines;
  legs = map (λ leg. leg_total conf leg lines) conf.legs;
  files = map (file_total conf lines) conf.meant.draft.exporters;
}

-- the first line of the summary
abbrev pub payloads_text : ℕ → ℕ → List ℕ
payloads_text accepted refused =
    codes "payloads " ++ decimal (accepted + refused) ++ codes " accepted " ++ decimal accepted
    ++ codes " refused " ++ decimal refused ++ 10 ∷ []

-- the number of a leg
unfoldable pub leg_number : ℕ → List ℕ
leg_number index = codes "leg " ++ decimal index

-- the log records that a leg got and left
unfoldable pub flow_text : ℕ → Leg → LegCounts → List ℕ
flow_text index leg c =
    leg_number index ++ codes " " ++ leg.pipeline ++ codes " in " ++ decimal c.taken
    ++ codes " out " ++ decimal c.out

-- those that it dropped, and left without a pipeline
unfoldable pub loss_text : LegCounts → List ℕ
loss_text c =
    codes " filtered " ++ decimal c.filtered ++ codes " unrouted " ++ decimal c.unrouted

-- those that failed, and its errors
unfoldable pub failure_text : LegCounts → List ℕ
failure_text c =
    codes " failed " ++ decimal c.failed ++ codes " errors " ++ decimal c.errors ++ 10 ∷ []

-- the line of a leg with that number
abbrev pub leg_line : ℕ → Leg → LegCounts → List ℕ
leg_line index leg c = flow_text index leg c ++ loss_text c ++ failure_text c

-- the lines of legs, the first with that number
abbrev pub leg_lines : ℕ → List Leg → List LegCounts → List ℕ
leg_lines index [] counts = []
leg_lines index (leg ∷ legs) [] = []
leg_lines index (leg ∷ legs) (c ∷ counts) =
    leg_line index leg c ++ leg_lines (suc index) legs counts

-- the line of an exporter
abbrev pub exporter_line : Exporter → FileTotal → List ℕ
exporter_line e total =
    codes "exporter " ++ e.name ++ codes " lines " ++ decimal total.lines ++ codes " bytes "
    ++ decimal total.bytes ++ 10 ∷ []

-- the lines of exporters
abbrev pub exporter_lines : List Exporter → List FileTotal → List ℕ
exporter_lines [] totals = []
exporter_lines (e ∷ es) [] = []
exporter_lines (e ∷ es) (t ∷ totals) = exporter_line e t ++ exporter_lines es totals

-- the summary of these totals: the payloads, each leg, each exporter in the byte order of names
abbrev pub totals_text : Conf → Totals → List ℕ
totals_text conf t =
    payloads_text t.accepted t.refused
    ++ leg_lines 0 conf.legs t.legs
    ++ exporter_lines conf.meant.draft.exporters t.files

-- the summary of these lines
abbrev pub summary : Conf → List (List ℕ) → List ℕ
summary conf lines = totals_text conf (totals_of conf lines)
