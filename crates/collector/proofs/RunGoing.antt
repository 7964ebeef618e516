-- What stands before each line of `run`, from line to line and at each end.
use Rattle.std.proofs.Common.{◌≡◌, ◌∙◌, ◌+◌, ◌++◌, [], ◌∷◌, List, ℕ, Bool, Option, Some, None, IfSome, Result, Ok, Err, Vec, length, length-append, map, ap, sym, refl, inl, subst, arith, append_assoc, append-nil}
use Rattle.contract_words.specs.Fronts.{GrewByFront}
use Rattle.contract_words.specs.Held.{Held, SameHeld}
use Rattle.contract_words.specs.InputLines.{Taken}
use Rattle.conf_draft.specs.declared.draft.Exporter.{Exporter}
use Rattle.export_sink.specs.Files.{FileText, IsNoFile, OnlyThese, Each, AddsText, AddsSome, HoldTexts, HoldFronts}
use Rattle.export_sink.specs.Writing.{file}
use Rattle.graph_build.specs.Conf.{Conf}
use Rattle.leg_model.specs.Exports.{alone}
use Rattle.leg_model.specs.Notes.{notes_from}
use Rattle.leg_model.specs.Sums.{plus_totals}
use Rattle.leg_model.specs.Totals.{totals_of, totals_text}
use Rattle.leg_model.specs.declared.Totals.{Totals}
use Rattle.leg_model.proofs.Growing.{alone-append, notes_from-append, totals_of-append}
use Rattle.tele_io.specs.Mark.{IsAhead, Mark, left, start_of}
use Rattle.tele_io.specs.Reading.{TakesLine}
use Rattle.tele_io.specs.Views.{Told, DiskView, SinkView, Reads}
use Rattle.tele_io.specs.declared.lines.LineStop.{LineStop}
use Rattle.tele_io.proofs.Tells.{told-into, told-then}
use Rattle.collector.specs.Between.{HoldAndGather, Stands, start, Completes}
use Rattle.collector.specs.Configured.{files_of, run_meaning}
use Rattle.collector.specs.Devices.{Devices, devices}
use Rattle.collector.specs.Ends.{before, input_of, GrewBy, Same, Runs}
use Rattle.collector.specs.Lines.{StopsAt, status_of, stop_of}
use Rattle.collector.specs.Meaning.{Meaning}
use Rattle.collector.specs.RunLines.{ApartFrom, EndsLine, LineNotes, LineTexts, nothing_gathered}
use Rattle.collector.specs.Source.{FindsLine}
use Rattle.collector.specs.declared.stop.Stop.{Stop}
use Rattle.collector.specs.declared.stop.Stop.TheVariants as stop
use Rattle.collector.specs.declared.status.Status.TheVariants.{NoMemory}
use Rattle.collector.proofs.AnyMeaning.{NoneGathered, ends-between, gather_stays, runs-broken}
use Rattle.collector.proofs.Apart.{no-file-texts}
use Rattle.collector.proofs.Going.{Going, ReadsApart, between, going-begins, going-read, going-takes, next_left, lines-complete, lines-stop}
use Rattle.collector.proofs.InputLemmas.{if-then, all-first}

-- files with these texts
abbrev with_texts : List Exporter → (Exporter → List ℕ) → List FileText
with_texts es text = map (λ e. file e (text e)) es

none-gathered : (es : List Exporter) → NoneGathered (map (λ e. []) es)
none-gathered [] = tt
none-gathered (e ∷ es) = (refl, none-gathered es)

pub nothing-is-gathered : (conf : Conf) → NoneGathered (nothing_gathered conf)
nothing-is-gathered conf = none-gathered conf.meant.draft.exporters

-- each file was created, and holds no text
pub gathers-none : (es : List Exporter) (text : Exporter → List ℕ) (now : Held) → HoldTexts (with_texts es text) now → HoldAndGather (with_texts es text) (map (λ e. []) es) now
gathers-none [] text now h = tt
gathers-none (e ∷ es) text now h = ((text e, h.0, append-nil (text e)), gathers-none es text now h.1)

-- each file that held a text holds this one behind it
holds-on : (es : List Exporter) (text more : Exporter → List ℕ) (was now : Held) → HoldAndGather (with_texts es text) (map (λ e. []) es) was → Each AddsText (with_texts es more) was now
    → HoldAndGather (with_texts es (λ e. text e ++ more e)) (map (λ e. []) es) now
holds-on [] text more was now h adds = tt
holds-on (e ∷ es) text more was now h adds = (
  (h.0.0 ++ more e, adds.0 h.0.0 h.0.1, append-nil (h.0.0 ++ more e) ∙ ap (λ (t : List ℕ). t ++ more e) (sym (append-nil h.0.0) ∙ h.0.2)),
  holds-on es text more was now h.1 adds.1,
)

-- fronts of what comes behind were added
holds-some : (es : List Exporter) (text more last : Exporter → List ℕ) (begun was now : Held) → HoldAndGather (with_texts es text) (map (λ e. []) es) was → Each AddsSome (with_texts es more) was now
    → HoldFronts (with_texts es (λ e. (text e ++ more e) ++ last e)) begun now
holds-some [] text more last begun was now h adds = tt
holds-some (e ∷ es) text more last begun was now h adds =
    let added = adds.0 h.0.0 h.0.1 in
    let is : h.0.0 ≡ text e = sym (append-nil h.0.0) ∙ h.0.2 in
    inl (
      record {
        front = h.0.0 ++ added.0;
        holds = added.1;
        of_text = record {
          rest = added.2.rest ++ last e;
          whole =
              ap (λ (t : List ℕ). (text e ++ t) ++ last e) added.2.whole
              ∙ (ap (λ (t : List ℕ). (t ++ (added.0 ++ added.2.rest)) ++ last e) (sym is)
              ∙ (ap (λ (t : List ℕ). t ++ last e) (sym (append_assoc h.0.0 added.0 added.2.rest))
              ∙ append_assoc (h.0.0 ++ added.0) added.2.rest (last e)));
        };
      },
      holds-some es text more last begun was now h.1 adds.1,
    )

-- texts that are the same make the same files
same-files : (es : List Exporter) (text other : Exporter → List ℕ) → ((e : Exporter) → text e ≡ other e) → with_texts es text ≡ with_texts es other
same-files [] text other same = refl
same-files (e ∷ es) text other same =
    ap (λ (t : List ℕ). file e t ∷ with_texts es text) (same e) ∙ ap (λ (fs : List FileText). file e (other e) ∷ fs) (same-files es text other same)

-- no name of a file depends on its text
other-texts : (name : List ℕ) (es : List Exporter) (text other : Exporter → List ℕ) → IsNoFile name (with_texts es other) → IsNoFile name (with_texts es text)
other-texts name [] text other none = tt
other-texts name (e ∷ es) text other none = (none.0, other-texts name es text other none.1)

-- The run stands behind the lines that are done, and they are counted.
pub record RunGoing (conf : Conf) (input : Held → Option (List ℕ)) (begun now : Devices) (mark : Mark) (payloads : ℕ) (totals : Totals) : Type 0 where
  pub going : Going (run_meaning conf input) (nothing_gathered conf) begun now mark
  pub payloads_are : payloads ≡ length going.done
  pub totals_are : totals ≡ totals_of conf going.done

pub run-begins : (conf : Conf) (input : Held → Option (List ℕ)) (begun now : Devices) (mark : Mark) (name : List ℕ) (payloads : ℕ) (totals : Totals) → mark ≡ start_of name → payloads ≡ 0 → totals ≡ totals_of conf []
    → Stands (run_meaning conf input) (start (nothing_gathered conf)) begun now → RunGoing conf input begun now mark payloads totals
run-begins conf input begun now mark name payloads totals at none no_totals stands = record {
  going = going-begins (run_meaning conf input) (nothing_gathered conf) begun now mark name at stands;
  payloads_are = none;
  totals_are = no_totals;
}

-- a read changes nothing of it
pub run-read : {P : Held → Type 0} (conf : Conf) (input : Held → Option (List ℕ)) (begun : Devices) (mark : Mark) (payloads : ℕ) (totals : Totals) (fault : Bool) (disk new_disk : DiskView) (out notes : SinkView)
    → RunGoing conf input begun (devices disk out notes) mark payloads totals → Reads fault P disk new_disk → RunGoing conf input begun (devices new_disk out notes) mark payloads totals
run-read conf input begun mark payloads totals fault disk new_disk out notes run read = record {
  going = going-read (run_meaning conf input) (nothing_gathered conf) begun mark fault disk new_disk out notes run.going read;
  payloads_are = run.payloads_are;
  totals_are = run.totals_are;
}

module _ (conf : Conf) (input : Held → Option (List ℕ)) (apart : ApartFrom input conf) where
  abbrev es : List Exporter
  es = conf.meant.draft.exporters

  abbrev m : Meaning
  m = run_meaning conf input

  -- what each exporter gets of lines
  abbrev gets : List (List ℕ) → Exporter → List ℕ
  gets lines e = alone conf e.name lines

  pub reads-apart : ReadsApart m
  reads-apart done was now only = apart.unread was now (λ name none. only name (no-file-texts name es (gets done) none))

  -- the files of lines joined
  files-joined : (done more : List (List ℕ)) → files_of conf (done ++ more) ≡ with_texts es (λ e. gets done e ++ gets more e)
  files-joined done more = same-files es (gets (done ++ more)) (λ e. gets done e ++ gets more e) (λ e. alone-append conf e.name done more)

  files-thrice : (done more last : List (List ℕ)) → files_of conf ((done ++ more) ++ last) ≡ with_texts es (λ e. (gets done e ++ gets more e) ++ gets last e)
  files-thrice done more last =
      files-joined (done ++ more) last
      ∙ same-files es (λ e. gets (done ++ more) e ++ gets last e) (λ e. (gets done e ++ gets more e) ++ gets last e)
      (λ e. ap (λ (t : List ℕ). t ++ gets last e) (alone-append conf e.name done more))

  -- other names than those of the files, whatever is written to them
  others-of : (done more : List (List ℕ)) (was now : Held) → OnlyThese (files_of conf done) was now → OnlyThese (files_of conf more) was now
  others-of done more was now only name none = only name (other-texts name es (gets done) (gets more) none)

  module _ (begun : Devices) (mark : Mark) (payloads : ℕ) (totals : Totals) (disk : DiskView) (out notes : SinkView) (run : RunGoing conf input begun (devices disk out notes) mark payloads totals) where
    abbrev done : List (List ℕ)
    done = run.going.done

    abbrev none : List (List ℕ)
    none = nothing_gathered conf

    number : payloads + 1 ≡ 1 + length done
    number = omega (arith, run.payloads_are)

    others-then : (lines : List (List ℕ)) (new_disk : DiskView) → Told (OnlyThese (files_of conf lines)) disk.held new_disk.held → (all : List (List ℕ))
        → Told (OnlyThese (files_of conf all)) begun.disk.held new_disk.held
    others-then lines new_disk only all =
        told-then {T = OnlyThese (files_of conf all)} begun.disk.held disk.held new_disk.held run.going.stands.others only
        (λ x y z first then name no. others-of lines all y z then name no ∙ others-of done all x y first name no)

    notes-more : (l was mid now : List ℕ) → GrewBy (notes_from conf 1 done) was mid → GrewBy (notes_from conf (payloads + 1) (l ∷ [])) mid now → GrewBy (notes_from conf 1 (done ++ l ∷ [])) was now
    notes-more l was mid now first then =
        then ∙ (ap (λ (t : List ℕ). t ++ notes_from conf (payloads + 1) (l ∷ [])) first
        ∙ (append_assoc was (notes_from conf 1 done) (notes_from conf (payloads + 1) (l ∷ []))
        ∙ ap (λ (t : List ℕ). was ++ t) (ap (λ (n : ℕ). notes_from conf 1 done ++ notes_from conf n (l ∷ [])) number ∙ sym (notes_from-append conf 1 done (l ∷ [])))))

    notes-broken : (l was mid now : List ℕ) (more : List (List ℕ)) → GrewBy (notes_from conf 1 done) was mid → GrewByFront (notes_from conf (payloads + 1) (l ∷ [])) mid now
        → GrewByFront (notes_from conf 1 ((done ++ l ∷ []) ++ more)) was now
    notes-broken l was mid now more first then =
        let all : notes_from conf 1 ((done ++ l ∷ []) ++ more) ≡ (notes_from conf 1 done ++ (then.front ++ then.of_bytes.rest)) ++ notes_from conf (1 + length (done ++ l ∷ [])) more =
        notes_from-append conf 1 (done ++ l ∷ []) more
        ∙ ap (λ (t : List ℕ). t ++ notes_from conf (1 + length (done ++ l ∷ [])) more)
        (notes_from-append conf 1 done (l ∷ []) ∙ ap (λ (t : List ℕ). notes_from conf 1 done ++ t) (ap (λ (n : ℕ). notes_from conf n (l ∷ [])) (sym number) ∙ then.of_bytes.whole)) in
        record {
          front = notes_from conf 1 done ++ then.front;
          of_bytes = record {
            rest = then.of_bytes.rest ++ notes_from conf (1 + length (done ++ l ∷ [])) more;
            whole = all
                ∙ (ap (λ (t : List ℕ). t ++ notes_from conf (1 + length (done ++ l ∷ [])) more) (sym (append_assoc (notes_from conf 1 done) then.front then.of_bytes.rest))
                ∙ append_assoc (notes_from conf 1 done ++ then.front) then.of_bytes.rest (notes_from conf (1 + length (done ++ l ∷ [])) more));
          };
          grew = then.grew ∙ (ap (λ (t : List ℕ). t ++ then.front) first ∙ append_assoc was (notes_from conf 1 done) then.front);
        }

    -- a line was taken, and what it gives was written
    pub run-on : {Z : Type 0} (l : List ℕ) (v : Vec ℕ Z) (new : Mark) (new_disk : DiskView) (new_notes : SinkView) (more_payloads : ℕ) (more : Totals) → l ≡ v.items
        → IfSome begun.disk.held (λ held. TakesLine (input held) mark new (Ok (Some v)))
        → Told (LineTexts {T = Unit {0}} (files_of conf (l ∷ [])) (Ok tt)) disk.held new_disk.held
        → Told (LineNotes {T = Unit {0}} (notes_from conf (payloads + 1) (l ∷ [])) (Ok tt)) notes.held new_notes.held
        → more_payloads ≡ payloads + 1 → more ≡ plus_totals totals (totals_of conf (l ∷ []))
        → RunGoing conf input begun (devices new_disk out new_notes) new more_payloads more
    run-on l v new new_disk new_notes more_payloads more same taken texts note payloads_next totals_next =
        let next = next_left m none begun mark (devices disk out notes) run.going l v new same taken in
        let lines = done ++ l ∷ [] in
        record {
          going = record {
            done = lines;
            stands = record {
              input = if-then {R = λ held. (rest : Taken) × (input_of (input held) ≡ before (lines ++ []) rest)} begun.disk.held next
                  (λ held n. (left (input held) new, n.is ∙ ap (λ (ls : List (List ℕ)). before ls (left (input held) new)) (sym (append-nil lines))));
              files = told-then {T = λ was now. HoldAndGather (files_of conf lines) none now} begun.disk.held disk.held new_disk.held run.going.stands.files texts
                  (λ x y z h c. subst (λ (fs : List FileText). HoldAndGather fs none z) (sym (files-joined done (l ∷ []))) (holds-on es (gets done) (gets (l ∷ [])) y z h c.each));
              others = others-then (l ∷ []) new_disk (told-into {T = OnlyThese (files_of conf (l ∷ []))} disk.held new_disk.held texts (λ x y c. c.others)) lines;
              notes = told-then {T = GrewBy (notes_from conf 1 lines)} begun.notes.held notes.held new_notes.held run.going.stands.notes note (λ x y z. notes-more l x y z);
              out = run.going.stands.out;
            };
            input = next;
          };
          payloads_are = payloads_next ∙ (ap (λ (n : ℕ). n + 1) run.payloads_are ∙ sym (length-append {A = List ℕ} done (l ∷ [])));
          totals_are = totals_next ∙ (ap (λ (t : Totals). plus_totals t (totals_of conf (l ∷ []))) run.totals_are ∙ sym (totals_of-append conf done (l ∷ [])));
        }

    same_stands : (new_disk : DiskView) (new_notes : SinkView) → Told SameHeld disk.held new_disk.held → Told Same notes.held new_notes.held → Stands m (between done none) begun (devices new_disk out new_notes)
    same_stands new_disk new_notes texts note = record {
      input = run.going.stands.input;
      files = told-then {T = λ was now. HoldAndGather (files_of conf done) none now} begun.disk.held disk.held new_disk.held run.going.stands.files texts
          (λ x y z h same. gather_stays (files_of conf done) none y z same h);
      others = told-then {T = OnlyThese (files_of conf done)} begun.disk.held disk.held new_disk.held run.going.stands.others texts (λ x y z only same name no. same name ∙ only name no);
      notes = told-then {T = GrewBy (notes_from conf 1 done)} begun.notes.held notes.held new_notes.held run.going.stands.notes note (λ x y z grew same. same ∙ grew);
      out = run.going.stands.out;
    }

    -- a line stopped the run
    pub run-line-ends : {Z : Type 0} (e : Stop) (l : List ℕ) (v : Vec ℕ Z) (new : Mark) (new_disk : DiskView) (new_notes : SinkView) → l ≡ v.items
        → IfSome begun.disk.held (λ held. TakesLine (input held) mark new (Ok (Some v)))
        → Told (LineTexts {T = Unit {0}} (files_of conf (l ∷ [])) (Err e)) disk.held new_disk.held
        → Told (LineNotes {T = Unit {0}} (notes_from conf (payloads + 1) (l ∷ [])) (Err e)) notes.held new_notes.held
        → EndsLine {T = Unit {0}} (Err e)
        → Runs m begun (devices new_disk out new_notes) (status_of e)
    run-line-ends stop.WriteFault l v new new_disk new_notes same taken texts note ends =
        let next = next_left m none begun mark (devices disk out notes) run.going l v new same taken in
        let lines = done ++ l ∷ [] in
        let all = all-first begun.disk.held input lines (if-then {R = λ held. (rest : Taken) × (input_of (input held) ≡ before lines rest)} begun.disk.held next (λ held n. (left (input held) new, n.is))) in
        runs-broken m begun (devices new_disk out new_notes) (lines ++ all.0) all.1
        (told-then {T = HoldFronts (files_of conf (lines ++ all.0))} begun.disk.held disk.held new_disk.held run.going.stands.files texts
        (λ x y z h c. subst (λ (fs : List FileText). HoldFronts fs x z) (sym (files-thrice done (l ∷ []) all.0)) (holds-some es (gets done) (gets (l ∷ [])) (gets all.0) x y z h c.each)))
        (others-then (l ∷ []) new_disk (told-into {T = OnlyThese (files_of conf (l ∷ []))} disk.held new_disk.held texts (λ x y c. c.others)) (lines ++ all.0))
        (told-then {T = GrewByFront (notes_from conf 1 (lines ++ all.0))} begun.notes.held notes.held new_notes.held run.going.stands.notes note (λ x y z grew front. notes-broken l x y z all.0 grew front))
        run.going.stands.out
    run-line-ends stop.NoMemory l v new new_disk new_notes same taken texts note ends =
        ends-between m (between done none) begun (devices new_disk out new_notes) (same_stands new_disk new_notes texts note) NoMemory tt (nothing-is-gathered conf)
    run-line-ends _ l v new new_disk new_notes same taken texts note ends = absurd ends

    -- the lines ended
    pub run-completes : (Z : Type 0) (new : Mark) → IfSome begun.disk.held (λ held. TakesLine {Z = Z} (input held) mark new (Ok None))
        → Completes m (totals_text conf totals) totals.refused begun (devices disk out notes)
    run-completes Z new taken =
        lines-complete m none begun mark (devices disk out notes) run.going Z new none (devices disk out notes) taken (nothing-is-gathered conf) run.going.stands _ _
        (ap (totals_text conf) run.totals_are) (ap (λ (t : Totals). t.refused) run.totals_are)

    -- no line came
    pub run-stops : (e : LineStop) → IfSome begun.disk.held (λ held. StopsAt (input held) mark e)
        → Runs m begun (devices disk out notes) (status_of (stop_of e))
    run-stops e taken = lines-stop m none begun mark (devices disk out notes) run.going e none (devices disk out notes) taken (nothing-is-gathered conf) run.going.stands

-- what a read took stood in the input as it was at the beginning
pub run-takes : {Z : Type 0} (conf : Conf) (input : Held → Option (List ℕ)) → ApartFrom input conf → (begun : Devices) (mark new : Mark) (r : Result (Option (Vec ℕ Z)) LineStop) (payloads : ℕ) (totals : Totals)
    (source : Held → Option (List ℕ)) → ((held : Held) → source held ≡ input held) → (fault : Bool) (disk new_disk : DiskView) (out notes : SinkView)
    → RunGoing conf input begun (devices disk out notes) mark payloads totals
    → Reads fault (λ held. IsAhead (source held) mark → FindsLine (source held) mark new r) disk new_disk
    → IfSome begun.disk.held (λ held. FindsLine (input held) mark new r)
run-takes conf input apart begun mark new r payloads totals source same fault disk new_disk out notes run read =
    going-takes (run_meaning conf input) (nothing_gathered conf) begun mark (λ file. FindsLine file mark new r) source same fault disk new_disk out notes
    (reads-apart conf input apart) run.going read
