-- What one line of `run` does, in the words of the run.
use Rattle.std.proofs.Common.{◌≡◌, ◌∙◌, ◌∷◌, [], List, ℕ, Err, map, ap, sym, refl, subst, append-nil}
use Rattle.contract_words.specs.Fronts.{GrewByFront}
use Rattle.contract_words.specs.Held.{Held}
use Rattle.conf_draft.specs.declared.draft.Exporter.{Exporter}
use Rattle.export_sink.specs.Bundles.{bundle_of}
use Rattle.export_sink.specs.Files.{AddsSome, AddsText, Changed, Each, FileText}
use Rattle.export_sink.specs.Writing.{Exports, Notes, file, is_disk, is_sink, pieces}
use Rattle.export_sink.specs.declared.bundle.Bundle.{Bundle}
use Rattle.export_sink.specs.declared.write.ExportStop.{ExportStop}
use Rattle.export_sink.specs.declared.write.ExportStop.TheVariants.{Disk, Sink}
use Rattle.graph_build.specs.Conf.{Conf}
use Rattle.leg_model.specs.Exports.{alone}
use Rattle.tele_io.specs.Views.{DiskView, Sends, SinkView, Told, Writes}
use Rattle.tele_io.proofs.Tells.{told-into}
use Rattle.collector.specs.Configured.{files_of}
use Rattle.collector.specs.RunLines.{LineNotes, LineTexts}
use Rattle.collector.specs.declared.stop.Stop.TheVariants as stop

pieces-of : (es : List Exporter) (text : Exporter → List ℕ) → pieces es (map text es) ≡ map (λ e. file e (text e)) es
pieces-of [] text = refl
pieces-of (e ∷ es) text = ap (λ (fs : List FileText). file e (text e) ∷ fs) (pieces-of es text)

-- a bundle of lines has the texts of their files
pub bundle-pieces : (conf : Conf) (number : ℕ) (lines : List (List ℕ)) (es : List Exporter) (bundle : Bundle) → es ≡ conf.meant.draft.exporters → bundle ≡ bundle_of conf number lines
    → pieces es bundle.texts ≡ files_of conf lines
bundle-pieces conf number lines es bundle is made =
    ap (λ (xs : List Exporter). pieces xs bundle.texts) is
    ∙ (ap (λ (b : Bundle). pieces conf.meant.draft.exporters b.texts) made ∙ pieces-of conf.meant.draft.exporters (λ e. alone conf e.name lines))

each-some : (files : List FileText) (was now : Held) → Each AddsText files was now → Each AddsSome files was now
each-some [] was now e = tt
each-some (f ∷ fs) was now e =
    ((λ held is. (f.text, e.0 held is, record { rest = []; whole = sym (append-nil f.text) })), each-some fs was now e.1)

changed-some : (files : List FileText) (was now : Held) → Changed AddsText files was now → Changed AddsSome files was now
changed-some files was now c = record { each = each-some files was now c.each; others = c.others }

-- a line could not be written whole
pub line-texts-broken : (files all : List FileText) → files ≡ all → (e : ExportStop) (old new : DiskView) → Writes (is_disk {T = Unit {0}} (Err e)) (Exports {T = Unit {0}} files (Err e)) old new
    → Told (LineTexts {T = Unit {0}} all (Err stop.WriteFault)) old.held new.held
line-texts-broken files all is Disk old new w = subst (λ (fs : List FileText). Told (Changed AddsSome fs) old.held new.held) is w.told
line-texts-broken files all is Sink old new w =
    subst (λ (fs : List FileText). Told (Changed AddsSome fs) old.held new.held) is (told-into {T = Changed AddsSome files} old.held new.held w.told (λ x y c. changed-some files x y c))

pub line-notes-broken : (notes all : List ℕ) → notes ≡ all → (e : ExportStop) (old new : SinkView) → Sends (is_sink {T = Unit {0}} (Err e)) (Notes {T = Unit {0}} notes (Err e)) old new
    → Told (LineNotes {T = Unit {0}} all (Err stop.WriteFault)) old.held new.held
line-notes-broken notes all is Disk old new s =
    told-into {T = GrewByFront all} old.held new.held s.told (λ x y same. record { front = []; of_bytes = record { rest = all; whole = refl }; grew = same ∙ sym (append-nil x) })
line-notes-broken notes all is Sink old new s = subst (λ (n : List ℕ). Told (GrewByFront n) old.held new.held) is s.told
