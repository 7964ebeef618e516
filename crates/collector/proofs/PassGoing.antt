-- What stands before each line of `pass`, from line to line and at each end.
use Rattle.std.proofs.Common.{◌≡◌, ◌≢◌, ◌∙◌, ◌+◌, ◌++◌, [], ◌∷◌, List, ℕ, Bool, Option, Some, None, IfSome, Result, Ok, Err, Vec, length, ap, sym, refl, inl, subst, arith, append_assoc, append-nil}
use Rattle.contract_words.specs.Fronts.{GrewByFront}
use Rattle.contract_words.specs.Held.{Held}
use Rattle.contract_words.specs.InputLines.{Taken}
use Rattle.tele_io.specs.Views.{Told, DiskView, SinkView, Reads}
use Rattle.tele_io.specs.Mark.{Mark, start_of, IsAhead, left}
use Rattle.tele_io.specs.Reading.{TakesLine}
use Rattle.tele_io.specs.declared.lines.LineStop.{LineStop}
use Rattle.tele_io.proofs.Tells.{told-itself, told-into, told-then}
use Rattle.export_sink.specs.Files.{FileText, HoldFronts, OnlyThese}
use Rattle.collector.specs.Payload.{judged}
use Rattle.collector.specs.Devices.{Devices, devices}
use Rattle.collector.specs.Meaning.{Meaning, under}
use Rattle.collector.specs.Ends.{before, input_of, GrewBy, Same, Runs}
use Rattle.collector.specs.Pass.{text_of_line, pass_text, pass_notes, count_accepted, count_refused, summary_by, pass_meaning}
use Rattle.collector.specs.Between.{Stands, start, HoldAndGather, Completes}
use Rattle.collector.specs.Lines.{Adding, Tally, Step, Holds, HoldsSome, LineText, LineNote, Counts, LineCounts, StopsAt, stop_of, status_of}
use Rattle.collector.specs.declared.stop.Stop.{Stop}
use Rattle.collector.specs.declared.stop.Stop.TheVariants as stop
use Rattle.collector.specs.declared.status.Status.TheVariants.{WriteFault, NoMemory}
use Rattle.collector.proofs.InputLemmas.{if-then, all-first}
use Rattle.collector.proofs.LineLemmas.{front-flush, text-next, notes-next, notes-some, notes-broken, count_accepted-append, count_refused-append, counts-length}
use Rattle.collector.proofs.AnyMeaning.{runs-broken, ends-between}
use Rattle.collector.proofs.Going.{Left, Going, stops-at, between, going-begins, going-takes, going-read, next_left, first_lines, lines-complete, lines-stop}

-- The run stands behind the lines that are done, the reader in the input too, and the tally is theirs.
pub record PassGoing (name output : List ℕ) (begun now : Devices) (mark : Mark) (tally : Tally) : Type 0 where
  pub going : Going (pass_meaning name output) (tally.gathered ∷ []) begun now mark
  pub accepted_is : tally.accepted ≡ count_accepted going.done
  pub refused_is : tally.refused ≡ count_refused going.done

module _ (name output : List ℕ) (begun : Devices) where
  abbrev m : Meaning
  m = pass_meaning name output

  pub pass-begins : (now : Devices) (mark : Mark) (tally : Tally) → mark ≡ start_of name → tally.gathered ≡ [] → tally.accepted ≡ 0 → tally.refused ≡ 0 → Stands m (start ([] ∷ [])) begun now
      → PassGoing name output begun now mark tally
  pass-begins now mark tally at none no_accepted no_refused s = record {
    going = going-begins m (tally.gathered ∷ []) begun now mark name at (subst (λ (gathered : List ℕ). Stands m (start (gathered ∷ [])) begun now) (sym none) s);
    accepted_is = no_accepted;
    refused_is = no_refused;
  }

  module _ (mark : Mark) (tally : Tally) where
    -- what a read took stood in the input as it was at the beginning
    pub pass-takes : {Z : Type 0} (fault : Bool) (disk new_disk : DiskView) (out notes : SinkView) (new : Mark) (r : Result (Option (Vec ℕ Z)) LineStop) → name ≢ output → mark.name ≡ name
        → (pass : PassGoing name output begun (devices disk out notes) mark tally)
        → Reads fault (λ held. IsAhead (held mark.name) mark → TakesLine (held mark.name) mark new r) disk new_disk
        → IfSome begun.disk.held (λ held. TakesLine (held name) mark new r)
    pass-takes fault disk new_disk out notes new r apart named pass read =
        going-takes m (tally.gathered ∷ []) begun mark (λ file. TakesLine file mark new r) (λ held. held mark.name) (λ held. ap held named) fault disk new_disk out notes
        (λ done was now only. only name (apart, tt)) pass.going read

    -- and changes nothing else
    pub pass-read : {P : Held → Type 0} (fault : Bool) (disk new_disk : DiskView) (out notes : SinkView) → PassGoing name output begun (devices disk out notes) mark tally → Reads fault P disk new_disk
        → PassGoing name output begun (devices new_disk out notes) mark tally
    pass-read fault disk new_disk out notes pass read = record {
      going = going-read m (tally.gathered ∷ []) begun mark fault disk new_disk out notes pass.going read;
      accepted_is = pass.accepted_is;
      refused_is = pass.refused_is;
    }

    module _ (disk : DiskView) (out notes : SinkView) (pass : PassGoing name output begun (devices disk out notes) mark tally) where
      abbrev going : Going m (tally.gathered ∷ []) begun (devices disk out notes) mark
      going = pass.going

      abbrev done : List (List ℕ)
      done = going.done

      -- the step of a line, before which this was gathered and counted
      abbrev stepped : List ℕ → Tally → Step
      stepped l after = record { output = output; line = l; before = tally; after = after }

      -- what was gathered is added to OUT, but for these bytes
      abbrev added : List ℕ → Adding
      added after = record { name = output; bytes = tally.gathered; gathered = after }

      number : tally.accepted + tally.refused ≡ length done
      number = omega (arith, counts-length done, pass.accepted_is, pass.refused_is)

      -- the reader stands one line further
      next : {Z : Type 0} (l : List ℕ) (v : Vec ℕ Z) (new : Mark) → l ≡ v.items → IfSome begun.disk.held (λ held. TakesLine (held name) mark new (Ok (Some v))) → IfSome begun.disk.held (λ held. Left (held name) (done ++ l ∷ []) new)
      next l v new same taken = next_left m (tally.gathered ∷ []) begun mark (devices disk out notes) going l v new same taken

      others_on : {R : Held → Held → Type 0} (files : List FileText) (new_disk : DiskView) → Told R disk.held new_disk.held → ((x y : Held) → R x y → OnlyThese files x y) → Told (OnlyThese files) begun.disk.held disk.held
          → Told (OnlyThese files) begun.disk.held new_disk.held
      others_on files new_disk text of others = told-then {T = OnlyThese files} _ _ _ others text (λ x y z o r other none. of y z r other none ∙ o other none)

      pub going-on : {Z : Type 0} (l : List ℕ) (v : Vec ℕ Z) (new : Mark) (after : Tally) (new_disk : DiskView) (new_notes : SinkView) → l ≡ v.items
          → IfSome begun.disk.held (λ held. TakesLine (held name) mark new (Ok (Some v)))
          → Told (LineText {T = Unit {0}} (stepped l after) (Ok tt)) disk.held new_disk.held
          → Told (LineNote {T = Unit {0}} (stepped l after) (Ok tt)) notes.held new_notes.held
          → Counts (stepped l after)
          → PassGoing name output begun (devices new_disk out new_notes) new after
      going-on l v new after new_disk new_notes same taken text note counts =
          let lines = done ++ l ∷ [] in
          let left_now = next l v new same taken in
          record {
            going = record {
              done = lines;
              stands = record {
                input = if-then {R = λ held. (rest : Taken) × (input_of (held name) ≡ before (lines ++ []) rest)} begun.disk.held left_now
                    (λ held n. (left (held name) new, n.is ∙ ap (λ (ls : List (List ℕ)). before ls (left (held name) new)) (sym (append-nil lines))));
                files = told-then {T = λ was now. HoldAndGather (m.texts lines).files (after.gathered ∷ []) now} _ _ _ going.stands.files text
                    (λ x y z w h. let t = h.holds w.0.0 w.0.1 in ((t.0, t.1, t.2 ∙ text-next done l w.0.0 tally.gathered w.0.2), tt));
                others = others_on (m.texts lines).files new_disk text (λ x y h other none. h.others other none.0) going.stands.others;
                notes = told-then {T = GrewBy (pass_notes 1 lines)} _ _ _ going.stands.notes note (λ x y z. notes-next done l (tally.accepted + tally.refused) x y z number);
                out = going.stands.out;
              };
              input = left_now;
            };
            accepted_is = omega (arith, counts.accepted, pass.accepted_is, count_accepted-append done (l ∷ []));
            refused_is = omega (arith, counts.refused, pass.refused_is, count_refused-append done (l ∷ []));
          }

      -- all that was gathered was appended
      flushed : (new_disk : DiskView) (new_notes : SinkView) → Told (Holds (added [])) disk.held new_disk.held → Told Same notes.held new_notes.held → Stands m (between done ([] ∷ [])) begun (devices new_disk out new_notes)
      flushed new_disk new_notes text same = record {
        input = going.stands.input;
        files = told-then {T = λ was now. HoldAndGather (m.texts done).files ([] ∷ []) now} _ _ _ going.stands.files text
            (λ x y z w h. let t = h.holds w.0.0 w.0.1 in ((t.0, t.1, t.2 ∙ w.0.2), tt));
        others = others_on (m.texts done).files new_disk text (λ x y h other none. h.others other none.0) going.stands.others;
        notes = told-then {T = GrewBy (pass_notes 1 done)} _ _ _ going.stands.notes same (λ x y z grew is. is ∙ grew);
        out = going.stands.out;
      }

      -- a front of what was to be added was written to OUT, when these lines had been taken
      broken : (lines : List (List ℕ)) (bytes left_over : List ℕ) (new_disk : DiskView) (new_notes : SinkView) → IfSome begun.disk.held (λ held. (rest : Taken) × (input_of (held name) ≡ before lines rest))
          → ((written : List ℕ) → written ++ tally.gathered ≡ pass_text done → written ++ bytes ≡ pass_text lines)
          → Told (HoldsSome (record { name = output; bytes = bytes; gathered = left_over })) disk.held new_disk.held
          → ((more : List (List ℕ)) → Told (GrewByFront (pass_notes 1 (lines ++ more))) begun.notes.held new_notes.held)
          → Runs m begun (devices new_disk out new_notes) WriteFault
      broken lines bytes left_over new_disk new_notes taken is text note =
          let all = all-first begun.disk.held (under name) lines taken in
          runs-broken m begun (devices new_disk out new_notes) (lines ++ all.0) all.1
          (told-then {T = HoldFronts (m.texts (lines ++ all.0)).files} _ _ _ going.stands.files text
          (λ x y z w h. let t = h.holds w.0.0 w.0.1 in inl (record { front = w.0.0 ++ t.0; holds = t.1; of_text = front-flush lines all.0 w.0.0 bytes t.0 (is w.0.0 w.0.2) t.2 }, tt)))
          (others_on (m.texts (lines ++ all.0)).files new_disk text (λ x y h other none. h.others other none.0) going.stands.others)
          (note all.0)
          going.stands.out

      same_notes : Told Same notes.held notes.held
      same_notes = told-itself Same notes.held (λ x. refl)

      -- a line stopped the run
      pub line-ends : {Z : Type 0} (e : Stop) (l : List ℕ) (v : Vec ℕ Z) (new : Mark) (after : Tally) (new_disk : DiskView) (new_notes : SinkView) → l ≡ v.items
          → IfSome begun.disk.held (λ held. TakesLine (held name) mark new (Ok (Some v)))
          → Told (LineText {T = Unit {0}} (stepped l after) (Err e)) disk.held new_disk.held
          → Told (LineNote {T = Unit {0}} (stepped l after) (Err e)) notes.held new_notes.held
          → LineCounts {T = Unit {0}} (stepped l after) (Err e)
          → Runs m begun (devices new_disk out new_notes) (status_of e)
      line-ends stop.WriteFault l v new after new_disk new_notes same taken text note counts =
          let lines = done ++ l ∷ [] in
          broken lines (tally.gathered ++ text_of_line (judged l)) after.gathered new_disk new_notes
          (if-then {R = λ held. (rest : Taken) × (input_of (held name) ≡ before lines rest)} begun.disk.held (next l v new same taken) (λ held n. (left (held name) new, n.is)))
          (λ written. text-next done l written tally.gathered)
          text
          (λ more. told-then {T = GrewByFront (pass_notes 1 (lines ++ more))} _ _ _ going.stands.notes note
          (λ x y z grew front. subst (λ (ls : List (List ℕ)). GrewByFront (pass_notes 1 ls) x z) (sym (append_assoc done (l ∷ []) more)) (notes-broken done more l (tally.accepted + tally.refused) x y z number grew front)))
      line-ends stop.NoMemory l v new after new_disk new_notes same taken text note counts =
          ends-between m (between done ([] ∷ [])) begun _ (flushed new_disk new_notes text note) NoMemory tt (refl, tt)
      line-ends _ l v new after new_disk new_notes same taken text note counts = absurd counts

      -- what was gathered could not be appended
      pub flush-ends : (left_over : List ℕ) (new_disk : DiskView) → Told (HoldsSome (added left_over)) disk.held new_disk.held → Runs m begun (devices new_disk out notes) WriteFault
      flush-ends left_over new_disk text =
          broken done tally.gathered left_over new_disk notes (first_lines m (tally.gathered ∷ []) begun mark (devices disk out notes) going) (λ written is. is) text
          (λ more. told-into {T = GrewByFront (pass_notes 1 (done ++ more))} _ _ going.stands.notes (λ x y grew. notes-some done more x y grew))

      appended : (after : List ℕ) (new_disk : DiskView) → after ≡ [] → Told (Holds (added after)) disk.held new_disk.held → Stands m (between done ([] ∷ [])) begun (devices new_disk out notes)
      appended after new_disk emptied text =
          flushed new_disk notes (subst (λ (a : List ℕ). Told (Holds (added a)) disk.held new_disk.held) emptied text) same_notes

      -- the lines ended
      pub all-ends : (Z : Type 0) (new : Mark) (after : Tally) (new_disk : DiskView)
          → IfSome begun.disk.held (λ held. TakesLine {Z = Z} (held name) mark new (Ok None))
          → Told (Holds (added after.gathered)) disk.held new_disk.held → after.gathered ≡ [] → after.accepted ≡ tally.accepted → after.refused ≡ tally.refused
          → Completes m (summary_by after.accepted after.refused) after.refused begun (devices new_disk out notes)
      all-ends Z new after new_disk taken text emptied same_accepted same_refused =
          let accepted_is = same_accepted ∙ pass.accepted_is in
          let refused_is = same_refused ∙ pass.refused_is in
          lines-complete m (tally.gathered ∷ []) begun mark (devices disk out notes) going Z new ([] ∷ []) _ taken (refl, tt) (appended after.gathered new_disk emptied text) _ _
          (ap (λ (n : ℕ). summary_by n after.refused) accepted_is ∙ ap (λ (n : ℕ). summary_by (count_accepted done) n) refused_is)
          refused_is

      -- no line came
      pub stop-ends : (Z : Type 0) (e : LineStop) (new : Mark) (after : List ℕ) (new_disk : DiskView)
          → IfSome begun.disk.held (λ held. TakesLine {Z = Z} (held name) mark new (Err e))
          → Told (Holds (added after)) disk.held new_disk.held → after ≡ []
          → Runs m begun (devices new_disk out notes) (status_of (stop_of e))
      stop-ends Z e new after new_disk taken text emptied =
          lines-stop m (tally.gathered ∷ []) begun mark (devices disk out notes) going e ([] ∷ []) _
          (if-then {R = λ held. StopsAt (held name) mark e} begun.disk.held taken (λ held t. stops-at {Z = Z} (held name) mark new e t)) (refl, tt) (appended after new_disk emptied text)
