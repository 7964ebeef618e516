-- What stands before each line of a run, whatever it means: the reader stands behind the lines that are done.
use Rattle.std.proofs.Common.{◌≡◌, ◌∙◌, ◌++◌, [], ◌∷◌, List, ℕ, Bool, Option, Some, None, IfSome, IsSome, Ok, Err, Vec, ap, sym, refl, subst}
use Rattle.contract_words.specs.Held.{Held, SameHeld}
use Rattle.contract_words.specs.InputLines.{Taken, ended, too_long, taking}
use Rattle.tele_io.specs.Views.{Told, DiskView, SinkView, Reads}
use Rattle.tele_io.specs.Mark.{Mark, start_of, IsAhead, left}
use Rattle.tele_io.specs.Reading.{TakesLine}
use Rattle.tele_io.specs.declared.lines.LineStop.{LineStop}
use Rattle.tele_io.specs.declared.lines.LineStop.TheVariants as line_stop
use Rattle.export_sink.specs.Files.{OnlyThese}
use Rattle.collector.specs.Devices.{Devices, devices}
use Rattle.collector.specs.Meaning.{Meaning}
use Rattle.collector.specs.Ends.{before, input_of, Begins, Runs}
use Rattle.collector.specs.Between.{Place, Stands, start, Completes}
use Rattle.collector.specs.Lines.{StopsAt, stop_of, status_of}
use Rattle.collector.specs.declared.status.Status.TheVariants.{ReadFault, NoMemory}
use Rattle.collector.proofs.InputLemmas.{if-some, if-then, if-both, before-append}
use Rattle.collector.proofs.AnyMeaning.{NoneGathered, stands-read, ends-between, limit-between, completes-between}

-- the reader stands in the file behind these lines
pub record Left (file : Option (List ℕ)) (done : List (List ℕ)) (mark : Mark) : Type 0 where
  pub ahead : IsAhead file mark
  pub is : input_of file ≡ before done (left file mark)

-- these lines are done, none is in flight, and this is gathered
abbrev pub between : List (List ℕ) → List (List ℕ) → Place
between done gathered = record { done = done; in_flight = []; gathered = gathered }

-- The run stands behind the lines that are done, and the reader in the input too.
pub record Going (m : Meaning) (gathered : List (List ℕ)) (begun now : Devices) (mark : Mark) : Type 0 where
  pub done : List (List ℕ)
  pub stands : Stands m (between done gathered) begun now
  pub input : IfSome begun.disk.held (λ held. Left (m.input held) done mark)

-- writes to the files of the run leave its input, whatever lines are done
abbrev pub ReadsApart : Meaning → Type 0
ReadsApart m = (done : List (List ℕ)) (was now : Held) → OnlyThese (m.texts done).files was now → m.input now ≡ m.input was

pub stops-at : {Z : Type 0} (file : Option (List ℕ)) (mark new : Mark) (e : LineStop) → TakesLine {Z = Z} file mark new (Err e) → StopsAt file mark e
stops-at file mark new line_stop.TooLong t = t.next
stops-at file mark new line_stop.Fault t = tt
stops-at file mark new line_stop.NoMemory t = tt

module _ (m : Meaning) (gathered : List (List ℕ)) (begun : Devices) where
  abbrev pub going-begins : (now : Devices) (mark : Mark) (name : List ℕ) → mark ≡ start_of name → Stands m (start gathered) begun now → Going m gathered begun now mark
  going-begins now mark name at s = record {
    done = [];
    stands = s;
    input = if-some _ begun.disk.held (λ held. subst (λ (k : Mark). Left (m.input held) [] k) (sym at) (record { ahead = record { is = refl }; is = refl }));
  }

  taken_by : (P : Option (List ℕ) → Type 0) (source : Held → Option (List ℕ)) → ((held : Held) → source held ≡ m.input held) → (o k n : Option Held) (done : List (List ℕ)) (mark : Mark) → ReadsApart m
      → Told (OnlyThese (m.texts done).files) o k
      → Told (λ was now. SameHeld was now × (IsAhead (source was) mark → P (source was))) k n
      → IfSome o (λ held. Left (m.input held) done mark) → IfSome o (λ held. P (m.input held))
  taken_by P source same None k n done mark apart others read input = tt
  taken_by P source same (Some h) None n done mark apart others read input = absurd others
  taken_by P source same (Some h) (Some k) None done mark apart others read input = absurd read
  taken_by P source same (Some h) (Some k) (Some n) done mark apart others read input =
      let file : source k ≡ m.input h = same k ∙ apart done h k others in
      subst P file (read.1 (subst (λ (f : Option (List ℕ)). IsAhead f mark) (sym file) input.ahead))

  module _ (mark : Mark) where
    -- what a read took stood in the input as it was at the beginning
    pub going-takes : (P : Option (List ℕ) → Type 0) (source : Held → Option (List ℕ)) → ((held : Held) → source held ≡ m.input held) → (fault : Bool) (disk new_disk : DiskView) (out notes : SinkView) → ReadsApart m
        → (going : Going m gathered begun (devices disk out notes) mark)
        → Reads fault (λ held. IsAhead (source held) mark → P (source held)) disk new_disk
        → IfSome begun.disk.held (λ held. P (m.input held))
    going-takes P source same fault disk new_disk out notes apart going read =
        taken_by P source same begun.disk.held disk.held new_disk.held going.done mark apart going.stands.others read.told going.input

    -- and changes nothing else
    abbrev pub going-read : {P : Held → Type 0} (fault : Bool) (disk new_disk : DiskView) (out notes : SinkView) → Going m gathered begun (devices disk out notes) mark → Reads fault P disk new_disk
        → Going m gathered begun (devices new_disk out notes) mark
    going-read fault disk new_disk out notes going read = record {
      done = going.done;
      stands = stands-read m (between going.done gathered) begun fault disk new_disk out notes read going.stands;
      input = going.input;
    }

    module _ (now : Devices) (going : Going m gathered begun now mark) where
      -- the reader stands one line further
      pub next_left : {Z : Type 0} (l : List ℕ) (v : Vec ℕ Z) (new : Mark) → l ≡ v.items → IfSome begun.disk.held (λ held. TakesLine (m.input held) mark new (Ok (Some v)))
          → IfSome begun.disk.held (λ held. Left (m.input held) (going.done ++ l ∷ []) new)
      next_left l v new same taken =
          if-both {R = λ held. Left (m.input held) (going.done ++ l ∷ []) new} begun.disk.held going.input taken
          (λ held before_it t. record {
            ahead = t.again;
            is = before_it.is ∙ (ap (before going.done) (t.next ∙ ap (λ (k : List ℕ). taking k (left (m.input held) new)) (sym same)) ∙ sym (before-append going.done (l ∷ []) (left (m.input held) new)));
          })

      -- so the lines that are done are the first of the input
      pub first_lines : IfSome begun.disk.held (λ held. (rest : Taken) × (input_of (m.input held) ≡ before going.done rest))
      first_lines = if-then {R = λ held. (rest : Taken) × (input_of (m.input held) ≡ before going.done rest)} begun.disk.held going.input (λ held l. (left (m.input held) mark, l.is))

      -- the lines ended, and nothing is gathered any more
      pub lines-complete : (Z : Type 0) (new : Mark) (none : List (List ℕ)) (after : Devices) → IfSome begun.disk.held (λ held. TakesLine {Z = Z} (m.input held) mark new (Ok None))
          → NoneGathered none → Stands m (between going.done none) begun after
          → (summary : List ℕ) (refused : ℕ) → summary ≡ (m.texts going.done).summary → refused ≡ (m.texts going.done).refused
          → Completes m summary refused begun after
      lines-complete Z new none after taken empty stands summary refused summary_is refused_is =
          completes-between m (between going.done none) begun after stands summary refused empty
          (if-both {R = λ held. Begins (m.input held) going.done ended} begun.disk.held going.input taken (λ held l t. record { there = t.there; is = l.is ∙ ap (before going.done) t.next.0 }))
          summary_is refused_is

      long_is_there : (file : Option (List ℕ)) → left file mark ≡ too_long → IsSome file
      long_is_there None e = absurd cc
      long_is_there (Some all) e = refl

      -- no line came, and nothing is gathered any more
      pub lines-stop : (e : LineStop) (none : List (List ℕ)) (after : Devices) → IfSome begun.disk.held (λ held. StopsAt (m.input held) mark e)
          → NoneGathered none → Stands m (between going.done none) begun after
          → Runs m begun after (status_of (stop_of e))
      lines-stop line_stop.Fault none after taken empty stands = ends-between m (between going.done none) begun after stands ReadFault tt empty
      lines-stop line_stop.NoMemory none after taken empty stands = ends-between m (between going.done none) begun after stands NoMemory tt empty
      lines-stop line_stop.TooLong none after taken empty stands =
          limit-between m (between going.done none) begun after stands empty
          (if-both {R = λ held. Begins (m.input held) going.done too_long} begun.disk.held going.input taken (λ held l t. record { there = long_is_there (m.input held) t; is = l.is ∙ ap (before going.done) t }))
