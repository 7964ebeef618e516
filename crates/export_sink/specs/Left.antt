-- What is written and noted by what the legs left of one payload.
use Rattle.std.specs.List.{concat}
use Rattle.std.specs.Prelude.{ℕ, suc, Bool, true, false, List, [], ◌∷◌, ◌++◌, length, map}
use Rattle.conf_draft.specs.declared.draft.Draft.{Draft}
use Rattle.export_sink.specs.Plans.{ways_in}
use Rattle.export_sink.specs.declared.bundle.Bundle.{Bundle}
use Rattle.graph_build.specs.declared.leg.Leg.{Leg}
use Rattle.leg_model.specs.Course.{Outcome, no_counts}
use Rattle.leg_model.specs.Exports.{lines_left}
use Rattle.leg_model.specs.Notes.{leg_text, outcome_text, refused_text}
use Rattle.graph_build.specs.Conf.{Conf}
use Rattle.leg_model.specs.Parts.{part_names}
use Rattle.leg_model.specs.declared.FileTotal.{FileTotal}
use Rattle.otlp_json.specs.declared.error.PayloadFault.{PayloadFault}
use Rattle.pdata_tree.specs.declared.batch.Batch.{Batch}

-- the lines of those legs that go to an exporter
abbrev pub lines_by : List Bool → List (Outcome Batch) → List (List ℕ)
lines_by [] left = []
lines_by (b ∷ goes) [] = []
lines_by (true ∷ goes) (o ∷ left) = lines_left o.tree ++ lines_by goes left
lines_by (false ∷ goes) (o ∷ left) = lines_by goes left

-- how many they are, and their bytes
abbrev pub total_by : List (List ℕ) → FileTotal
total_by lines = record { lines = length lines; bytes = length (concat lines) }

-- what is noted of legs on a payload with that number, the first leg with this one
abbrev pub notes_by : Draft → ℕ → ℕ → List Leg → List (Outcome Batch) → List ℕ
notes_by draft number index [] left = []
notes_by draft number index (leg ∷ legs) [] = []
notes_by draft number index (leg ∷ legs) (o ∷ left) =
    outcome_text (leg_text number index) (part_names draft leg.pipeline) o
    ++ notes_by draft number (suc index) legs left

-- what is written of what the legs left
abbrev pub left_bundle : Conf → ℕ → List (Outcome Batch) → Bundle
left_bundle conf number left = record {
  texts = map (λ goes. concat (lines_by goes left)) (ways_in conf.meant.draft conf.legs);
  notes = notes_by conf.meant.draft number 0 conf.legs left;
  totals = record {
    accepted = 1;
    refused = 0;
    legs = map (λ o. o.counts) left;
    files = map (λ goes. total_by (lines_by goes left)) (ways_in conf.meant.draft conf.legs);
  };
}

-- what is written of a refused payload
abbrev pub refused_bundle : Conf → ℕ → PayloadFault → Bundle
refused_bundle conf number fault = record {
  texts = map (λ e. []) conf.meant.draft.exporters;
  notes = refused_text number fault;
  totals = record {
    accepted = 0;
    refused = 1;
    legs = map (λ leg. no_counts) conf.legs;
    files = map (λ e. total_by []) conf.meant.draft.exporters;
  };
}
