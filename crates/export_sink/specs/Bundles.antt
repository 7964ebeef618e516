-- What is written for some lines of an input, and what is counted on them.
use Rattle.std.specs.Prelude.{ℕ, List, map}
use Rattle.export_sink.specs.declared.bundle.Bundle.{Bundle}
use Rattle.leg_model.specs.Exports.{alone}
use Rattle.graph_build.specs.Conf.{Conf}
use Rattle.leg_model.specs.Notes.{notes_from}
use Rattle.leg_model.specs.Totals.{totals_of}

-- What is written for these lines, the first of which has that payload number, and what is counted:
-- a text for each exporter, in the byte order of names, and the notes.
abbrev pub bundle_of : Conf → ℕ → List (List ℕ) → Bundle
bundle_of conf number lines = record {
  texts = map (λ e. alone conf e.name lines) conf.meant.draft.exporters;
  notes = notes_from conf number lines;
  totals = totals_of conf lines;
}
