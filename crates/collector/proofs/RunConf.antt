-- From the files of exporters to the whole run of a configuration.
use Rattle.std.proofs.Common.{◌≡◌, ◌∙◌, ◌⊎◌, [], ◌∷◌, List, ℕ, false, true, Option, Some, None, IfSome, IfOk, IsOk, Result, Ok, Err, Vec, map, sym, refl, inl, inr, subst, append-nil}
use Rattle.contract_words.specs.Causes.{Rose}
use Rattle.contract_words.specs.Fronts.{IsFront, GrewByFront}
use Rattle.contract_words.specs.Held.{Held, SameHeld}
use Rattle.contract_words.specs.InputLines.{Taken}
use Rattle.conf_draft.specs.declared.draft.Exporter.{Exporter}
use Rattle.conf_json.specs.declared.fault.ConfFault.{ConfFault}
use Rattle.conf_json.specs.Plans.{IsSize}
use Rattle.export_sink.specs.Files.{FileText, HoldTexts, HoldFronts, FilesStay, OnlyThese, IsNoFile}
use Rattle.export_sink.specs.Writing.{Creates, empty_files, file}
use Rattle.graph_build.specs.Conf.{Conf, conf_of}
use Rattle.leg_model.specs.Exports.{alone}
use Rattle.run_texts.specs.Fault.{note_of}
use Rattle.tele_io.specs.Views.{DiskView, SinkView, Told, Reads, Writes}
use Rattle.tele_io.specs.Whole.{FindsWhole, is_failed_read}
use Rattle.tele_io.specs.declared.disk.DiskFault.{DiskFault}
use Rattle.tele_io.specs.declared.whole.ReadStop.{ReadStop}
use Rattle.tele_io.specs.declared.whole.ReadStop.TheVariants as read_stop
use Rattle.tele_io.proofs.Tells.{told-itself, told-into, told-then}
use Rattle.collector.specs.Between.{Stands, start}
use Rattle.collector.specs.Check.{Tells, lent, max_conf}
use Rattle.collector.specs.Configured.{Judged, Unjudged, run_meaning, run_texts, runnable}
use Rattle.collector.specs.Devices.{Devices, devices}
use Rattle.collector.specs.Ends.{before, input_of, GrewBy, Leaves, Same, Runs, Took, Untouched, Whole}
use Rattle.collector.specs.Meaning.{Meaning, Texts}
use Rattle.collector.specs.Judged.{status_of_read}
use Rattle.collector.specs.RunLines.{nothing_gathered}
use Rattle.collector.specs.declared.status.Status.{Status}
use Rattle.collector.specs.declared.status.Status.TheVariants.{Done, SomeRefused, Usage, BadConf, ReadFault, WriteFault, NoMemory, TooLong}
use Rattle.collector.proofs.Apart.{may-run}
use Rattle.collector.proofs.CheckLemmas.{found-told}
use Rattle.collector.proofs.InputLemmas.{if-some, all-first}
use Rattle.collector.proofs.RunGoing.{gathers-none}
use Rattle.collector.proofs.RunLemmas.{grew-by-nothing}

empty-front : (front text : List ℕ) → IsFront front [] → IsFront front text
empty-front [] text f = record { rest = text; whole = refl }
empty-front (b ∷ front) text f = absurd (let e = f.whole in cc)

any-stay : (es : List Exporter) (text : Exporter → List ℕ) (was now : Held) → FilesStay (empty_files es) was now → FilesStay (map (λ e. file e (text e)) es) was now
any-stay [] text was now s = tt
any-stay (e ∷ es) text was now s = (s.0, any-stay es text was now s.1)

-- fronts of empty texts are fronts of any
any-fronts : (es : List Exporter) (text : Exporter → List ℕ) (was now : Held) → HoldFronts (empty_files es) was now → HoldFronts (map (λ e. file e (text e)) es) was now
any-fronts [] text was now h = tt
any-fronts (e ∷ es) text was now h = elim h [
  | inl k ↦ inl (record { front = k.0.front; holds = k.0.holds; of_text = empty-front k.0.front (text e) k.0.of_text }, any-fronts es text was now k.1)
  | inr k ↦ inr (k.0, any-stay es text was now k.1)
]

any-names : (es : List Exporter) (text : Exporter → List ℕ) (name : List ℕ) → IsNoFile name (map (λ e. file e (text e)) es) → IsNoFile name (empty_files es)
any-names [] text name none = tt
any-names (e ∷ es) text name none = (none.0, any-names es text name none.1)

module _ (conf : Conf) (input : Held → Option (List ℕ)) (disk new_disk : DiskView) (out notes : SinkView) where
  -- all files were created
  pub run-created : (es : List Exporter) → es ≡ conf.meant.draft.exporters → Writes false (Creates {T = Unit {0}} {E = DiskFault} (empty_files es) (Ok tt)) disk new_disk
      → Stands (run_meaning conf input) (start (nothing_gathered conf)) (devices disk out notes) (devices new_disk out notes)
  run-created es is made =
      let create = subst (λ (xs : List Exporter). Writes false (Creates {T = Unit {0}} {E = DiskFault} (empty_files xs) (Ok tt)) disk new_disk) is made in
      record {
        input = if-some (λ held. (rest : Taken) × (input_of (input held) ≡ rest)) disk.held (λ held. (input_of (input held), refl));
        files = told-into disk.held new_disk.held create.told (λ was now c. gathers-none conf.meant.draft.exporters (λ e. []) now c.0);
        others = told-into disk.held new_disk.held create.told (λ was now c. c.1);
        notes = told-itself (GrewBy []) notes.held (λ b. sym (append-nil b));
        out = told-itself Same out.held (λ b. refl);
      }

  -- one of them could not be
  pub run-uncreated : (named : List Exporter) → named ≡ conf.meant.draft.exporters → (fault : DiskFault) → Writes true (Creates {T = Unit {0}} {E = DiskFault} (empty_files named) (Err fault)) disk new_disk
      → Runs (run_meaning conf input) (devices disk out notes) (devices new_disk out notes) WriteFault
  run-uncreated named is fault made =
      let create = subst (λ (xs : List Exporter). Writes true (Creates {T = Unit {0}} {E = DiskFault} (empty_files xs) (Err fault)) disk new_disk) is made in
      let all = all-first disk.held input [] (if-some (λ held. (rest : Taken) × (input_of (input held) ≡ rest)) disk.held (λ held. (input_of (input held), refl))) in
      let es = conf.meant.draft.exporters in
      record {
        lines = all.0;
        taken = all.1;
        refused = tt;
        leaves = record {
          files = told-into disk.held new_disk.held create.told (λ was now c. any-fronts es (λ e. alone conf e.name all.0) was now c.0);
          notes = told-itself (GrewByFront (run_texts conf all.0).notes) notes.held (λ b. grew-by-nothing _ b);
          out = told-itself (GrewByFront (run_texts conf all.0).summary) out.held (λ b. grew-by-nothing _ b);
        };
        others = told-into disk.held new_disk.held create.told (λ was now c name none. c.1 name (any-names es (λ e. alone conf e.name all.0) name none));
      }

-- A run that begins after a read begins before it.

-- what is the same stands in the same
abbrev pub KeepsSame : (Held → Option (List ℕ)) → Type 0
KeepsSame input = (was now : Held) → SameHeld was now → input now ≡ input was

taken-before : (m : Meaning) → KeepsSame m.input → (status : Status) (lines : List (List ℕ)) (a b : Option Held) → Told SameHeld a b → IfSome b (λ held. Took status (m.input held) lines) → IfSome a (λ held. Took status (m.input held) lines)
taken-before m keeps status lines None b same t = tt
taken-before m keeps status lines (Some x) None same t = absurd same
taken-before m keeps status lines (Some x) (Some y) same t = subst (λ (f : Option (List ℕ)). Took status f lines) (keeps x y same) t

stay-before : (files : List FileText) (x y z : Held) → SameHeld x y → FilesStay files y z → FilesStay files x z
stay-before [] x y z same s = tt
stay-before (f ∷ fs) x y z same s = (s.0 ∙ same f.name, stay-before fs x y z same s.1)

fronts-before : (files : List FileText) (x y z : Held) → SameHeld x y → HoldFronts files y z → HoldFronts files x z
fronts-before [] x y z same h = tt
fronts-before (f ∷ fs) x y z same h = elim h [
  | inl k ↦ inl (k.0, fronts-before fs x y z same k.1)
  | inr k ↦ inr (elim k.0 [ inl is ↦ inl (is ∙ same f.name) | inr is ↦ inr is ], stay-before fs x y z same k.1)
]

module _ (texts : Texts) (disk mid : DiskView) (out notes : SinkView) (new : Devices) (same : Told SameHeld disk.held mid.held) where
  whole-before : Whole texts (devices mid out notes) new → Whole texts (devices disk out notes) new
  whole-before w = record {
    files = told-then {T = λ was now. HoldTexts texts.files now} disk.held mid.held new.disk.held same w.files (λ x y z s h. h);
    notes = w.notes;
  }

  kept-before : Untouched (devices mid out notes) new ⊎ Whole texts (devices mid out notes) new → Untouched (devices disk out notes) new ⊎ Whole texts (devices disk out notes) new
  kept-before k = elim k [
    | inl u ↦ inl (record { files = told-then {T = SameHeld} disk.held mid.held new.disk.held same u.files (λ x y z s t name. t name ∙ s name); notes = u.notes })
    | inr w ↦ inr (whole-before w)
  ]

  leaves-before : (status : Status) → Leaves status texts (devices mid out notes) new → Leaves status texts (devices disk out notes) new
  leaves-before Done l = (whole-before l.0, l.1)
  leaves-before SomeRefused l = (whole-before l.0, l.1)
  leaves-before TooLong l = (whole-before l.0, l.1)
  leaves-before ReadFault l = (kept-before l.0, l.1)
  leaves-before NoMemory l = (kept-before l.0, l.1)
  leaves-before WriteFault l = record {
    files = told-then {T = HoldFronts texts.files} disk.held mid.held new.disk.held same l.files (λ x y z s h. fronts-before texts.files x y z s h);
    notes = l.notes;
    out = l.out;
  }
  leaves-before Usage l = absurd l
  leaves-before BadConf l = absurd l

runs-before : (m : Meaning) → KeepsSame m.input → (disk mid : DiskView) (out notes : SinkView) (new : Devices) (status : Status) → Told SameHeld disk.held mid.held → Runs m (devices mid out notes) new status → Runs m (devices disk out notes) new status
runs-before m keeps disk mid out notes new status same r = record {
  lines = r.lines;
  taken = taken-before m keeps status r.lines disk.held mid.held same r.taken;
  refused = r.refused;
  leaves = leaves-before (m.texts r.lines) disk mid out notes new same status r.leaves;
  others = told-then {T = OnlyThese (m.texts r.lines).files} disk.held mid.held new.disk.held same r.others (λ x y z s o name none. o name none ∙ s name);
}

-- what holds of each configuration holds where there is one
pub if-ok : {X E : Type 0} (P : X → Type 0) (r : Result X E) → ((x : X) → P x) → IfOk r P
if-ok P (Ok x) all = all x
if-ok P (Err e) all = tt

module _ (conf : List ℕ) (disk new_disk : DiskView) (out notes : SinkView) where
  -- the configuration could not be read
  pub unjudged-read : (Z : Type 0) (e : ReadStop) (refusals : ℕ) → Reads (is_failed_read {T = Vec ℕ Z} (Err e)) (λ held. FindsWhole {Z = Z} max_conf (held conf) (Err e)) disk new_disk
      → Unjudged conf (lent (devices disk out notes) refusals) (lent (devices new_disk out notes) refusals) (status_of_read e)
  unjudged-read Z read_stop.Fault refusals r = record {
    early = tt;
    found = if-some (λ held. Unit {0}) disk.held (λ held. tt);
    quiet = record { out = told-itself Same out.held (λ b. refl); notes = told-itself Same notes.held (λ b. refl) };
    files = told-into disk.held new_disk.held r.told (λ was now t. t.0);
  }
  unjudged-read Z read_stop.NoMemory refusals r = record {
    early = tt;
    found = if-some (λ held. Unit {0}) disk.held (λ held. tt);
    quiet = record { out = told-itself Same out.held (λ b. refl); notes = told-itself Same notes.held (λ b. refl) };
    files = told-into disk.held new_disk.held r.told (λ was now t. t.0);
  }
  unjudged-read Z read_stop.TooLong refusals r = record {
    early = tt;
    found = found-told (λ held. FindsWhole {Z = Z} max_conf (held conf) (Err read_stop.TooLong)) disk.held new_disk.held r.told;
    quiet = record { out = told-itself Same out.held (λ b. refl); notes = told-itself Same notes.held (λ b. refl) };
    files = told-into disk.held new_disk.held r.told (λ was now t. t.0);
  }

  module _ (Z : Type 0) (v : Vec ℕ Z) (r : Reads false (λ held. FindsWhole {Z = Z} max_conf (held conf) (Ok v)) disk new_disk) where
    found : IfSome disk.held (λ held. held conf ≡ Some v.items)
    found = found-told (λ held. held conf ≡ Some v.items) disk.held new_disk.held r.told

    files : Told SameHeld disk.held new_disk.held
    files = told-into disk.held new_disk.held r.told (λ was now t. t.0)

    -- memory ran out before it was judged
    pub unjudged-memory : (before after : ℕ) → Unjudged conf (lent (devices disk out notes) before) (lent (devices new_disk out notes) after) NoMemory
    unjudged-memory before after = record {
      early = tt;
      found = if-some (λ held. Unit {0}) disk.held (λ held. tt);
      quiet = record { out = told-itself Same out.held (λ b. refl); notes = told-itself Same notes.held (λ b. refl) };
      files = files;
    }

    -- what is printed doesn't depend on the disk
    told-beside : (status : Status) (new_out new_notes : SinkView) (fault : ConfFault) → Tells status (Err (note_of fault)) (devices new_disk out notes) (devices new_disk new_out new_notes)
        → Tells status (Err (note_of fault)) (devices disk out notes) (devices new_disk new_out new_notes)
    told-beside BadConf new_out new_notes fault t = t
    told-beside WriteFault new_out new_notes fault t = t
    told-beside _ new_out new_notes fault t = absurd t

    -- its fault was told
    pub judged-fault : (names : List (List ℕ)) (input : Held → Option (List ℕ)) (note : List ℕ) (fault : ConfFault) (before after : ℕ) (new_out new_notes : SinkView) (status : Status) → note ≡ note_of fault
        → (runnable names v.items ≡ Err fault) ⊎ (IsSize fault.inner × Rose before after)
        → ((d : DiskView) → Tells status (Err note) (devices d out notes) (devices d new_out new_notes))
        → Judged names input conf (lent (devices disk out notes) before) (lent (devices new_disk new_out new_notes) after) status
    judged-fault names input note fault before after new_out new_notes status is faulty tells = record {
      bytes = v.items;
      found = found;
      ends = inl (record { fault = fault; is = faulty; tells = told-beside status new_out new_notes fault (subst (λ (n : List ℕ). Tells status (Err n) (devices new_disk out notes) (devices new_disk new_out new_notes)) is (tells new_disk)); files = files });
    }

    -- it was run
    pub judged-run : (names : List (List ℕ)) (input : Held → Option (List ℕ)) → KeepsSame input → (before after : ℕ) (new : Devices) (status : Status) → IsOk (runnable names v.items) → after ≡ before
        → IfOk (conf_of v.items) (λ meant. Runs (run_meaning meant input) (devices new_disk out notes) new status)
        → Judged names input conf (lent (devices disk out notes) before) (lent new after) status
    judged-run names input keeps before after new status ok same runs =
        let may = may-run names v.items ok in
        record {
          bytes = v.items;
          found = found;
          ends = inr (record {
            conf = may.conf;
            is = may.runs;
            refusals = same;
            runs = runs-before (run_meaning may.conf input) keeps disk new_disk out notes new status files (subst (λ (r : Result Conf ConfFault). IfOk r (λ meant. Runs (run_meaning meant input) (devices new_disk out notes) new status)) may.is runs);
          });
        }
