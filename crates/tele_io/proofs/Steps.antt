-- What a reader's steps do to the lines that are left.
use Rattle.std.proofs.Common.{◌≡◌, ◌∙◌, ℕ, suc, Bool, cond, IsSome, OnOk, ◌+◌, ◌-◌, ◌<◌, ◌≤◌, ◌++◌, ◌==◌, true, false, min, List, [], ◌∷◌, length, take, drop, Option, Some, None, Result, Ok, Err, Vec, sym, ap, refl, subst, arith, append_assoc, append-nil, length-append, length-take}
use Rattle.std.proofs.lemmas.List.{take-append-drop}
use Rattle.std.proofs.lemmas.Bool.{eqb-true}
use Rattle.std.proofs.lemmas.Bool.Decides.{nat_tests}
use Rattle.std.proofs.Math.Seq.{drop-append-add}
use Rattle.contract_words.specs.Held.{Held, SameHeld, rest_from}
use Rattle.contract_words.specs.InputLines.{max_line, max_lines, lines_of, is_blank_line, passes, too_long, taking, taken_of}
use Rattle.tele_io.specs.Mark.{Mark, SameLines, IsAhead, ReadsAhead, GoesOn, lines_left, left}
use Rattle.tele_io.specs.Reading.{Unbroken, BeginsBroken, IsTooLong, Finishes, CutStops, NoLine, NextLine, is_fault, ReadsLine, TakesNone, TakesLine}
use Rattle.tele_io.specs.declared.disk.DiskFault.{DiskFault}
use Rattle.tele_io.specs.declared.lines.LineStop.{LineStop}
use Rattle.tele_io.specs.declared.lines.LineStop.TheVariants.{Fault, TooLong, NoMemory}
use Rattle.tele_io.proofs.Broken.{unbroken-append, cut_line, last_line, long_line}
use Rattle.tele_io.proofs.Pieces.{rest-add}

pub passes-long : (n : ℕ) (l : List ℕ) → max_line < length l → passes n l ≡ true
unfolding passes
passes-long n l h = grind (arith, nat_tests)

pub passes-many : (n : ℕ) (l : List ℕ) → max_lines ≤ n → passes n l ≡ true
unfolding passes
passes-many n l h = grind (arith, nat_tests)

pub passes-not : (n : ℕ) (l : List ℕ) → length l ≤ max_line → n < max_lines → passes n l ≡ false
unfolding passes
passes-not n l h k = grind (arith, nat_tests)

pub cut_long : (begun ahead bytes : List ℕ) (n : ℕ) → bytes ≡ ahead → Unbroken begun → Unbroken (take n bytes) → n ≤ length bytes → length begun ≤ max_line → max_line - length begun < n → IsTooLong (begun ++ ahead)
cut_long begun ahead bytes n is u v within short long = record {
  front = begun ++ take n bytes;
  more = drop n bytes;
  parts = sym (append_assoc begun (take n bytes) (drop n bytes) ∙ ap (λ (l : List ℕ). begun ++ l) (take-append-drop n bytes ∙ is));
  unbroken = unbroken-append begun (take n bytes) u v;
  long = omega (arith, length-append begun (take n bytes), length-take n bytes);
}

module _ (file : Option (List ℕ)) where
  pub moved : (old new : Mark) → SameLines old new → new.begun ++ new.ahead ≡ old.begun ++ old.ahead → IsAhead file old → IsAhead file new
  moved old new s e h =
      let at : old.gone + length old.begun + length old.ahead ≡ new.gone + length new.begun + length new.ahead =
      omega (arith, ap length e, length-append new.begun new.ahead, length-append old.begun old.ahead, s.gone) in
      let far = rest_from file (old.gone + length old.begun + length old.ahead) in
      record {
        is = ap (rest_from file) s.gone ∙ (h.is ∙ (sym (append_assoc old.begun old.ahead far) ∙ (ap (λ (l : List ℕ). l ++ far) (sym e) ∙ (append_assoc new.begun new.ahead far ∙ ap (λ (k : ℕ). new.begun ++ (new.ahead ++ rest_from file k)) at))));
      }

  record First (gone : ℕ) (begun ahead : List ℕ) : Type 0 where
    first : lines_of (rest_from file gone) ≡ begun ∷ lines_of (rest_from file (gone + length begun + min 1 (length ahead)))
    next : rest_from file (gone + length begun + min 1 (length ahead)) ≡ drop 1 ahead ++ rest_from file (gone + length begun + min 1 (length ahead) + length (drop 1 ahead))

  first_is : (gone : ℕ) (begun ahead : List ℕ) → Unbroken begun → BeginsBroken ahead → rest_from file gone ≡ begun ++ (ahead ++ rest_from file (gone + length begun + length ahead)) → (ahead ≡ [] → rest_from file (gone + length begun) ≡ []) → 0 < length begun + length ahead → First gone begun ahead
  first_is gone [] [] u broken is end some = absurd (omega arith)
  first_is gone (b ∷ l) [] u broken is end some =
      let at : gone + length (b ∷ l) + min 1 0 ≡ gone + length (b ∷ l) = omega arith in
      let at2 : gone + length (b ∷ l) + 0 ≡ gone + length (b ∷ l) = omega arith in
      let none = ap (rest_from file) at ∙ end refl in
      let whole : rest_from file gone ≡ b ∷ l = is ∙ (ap (λ (r : List ℕ). (b ∷ l) ++ r) (ap (rest_from file) at2 ∙ end refl) ∙ append-nil (b ∷ l)) in
      let at3 : gone + length (b ∷ l) + min 1 0 ≡ gone + length (b ∷ l) + min 1 0 + 0 = omega arith in
      record {
        first = ap lines_of whole ∙ (last_line b l u ∙ ap (λ (ls : List (List ℕ)). (b ∷ l) ∷ ls) (sym (ap lines_of none)));
        next = ap (rest_from file) at3;
      }
  first_is gone begun (c ∷ a) u broken is end some =
      let far = rest_from file (gone + length begun + length (c ∷ a)) in
      let at : gone + length begun + min 1 (length (c ∷ a)) ≡ gone + (length begun + 1) = omega arith in
      let at2 : gone + length begun + length (c ∷ a) ≡ gone + length begun + min 1 (length (c ∷ a)) + length a = omega arith in
      let next : rest_from file (gone + length begun + min 1 (length (c ∷ a))) ≡ a ++ far =
      ap (rest_from file) at ∙ (rest-add file gone (length begun + 1) ∙ (ap (drop (length begun + 1)) is ∙ drop-append-add begun (c ∷ (a ++ far)) 1)) in
      record {
        first = ap lines_of is ∙ (ap (λ (d : ℕ). lines_of (begun ++ d ∷ (a ++ far))) broken ∙ (cut_line begun (a ++ far) u ∙ ap (λ (r : List ℕ). begun ∷ lines_of r) (sym next)));
        next = next ∙ ap (λ (k : ℕ). a ++ rest_from file k) at2;
      }

  overlong_of : (m : Mark) (front more far : List ℕ) → rest_from file m.gone ≡ front ++ (more ++ far) → Unbroken front → max_line < length front → (l : List ℕ) × (ls : List (List ℕ)) × (lines_left file m ≡ l ∷ ls) × (passes m.count l ≡ true)
  overlong_of m [] more far is u long = absurd (omega arith)
  overlong_of m (b ∷ l) more far is u long =
      let h = long_line b l (more ++ far) u in
      (b ∷ (l ++ h.0), h.1, ap lines_of is ∙ h.2, passes-long m.count (b ∷ (l ++ h.0)) (omega (arith, length-append l h.0)))

  pub overlong : (m : Mark) → IsAhead file m → IsTooLong (m.begun ++ m.ahead) → (l : List ℕ) × (ls : List (List ℕ)) × (lines_left file m ≡ l ∷ ls) × (passes m.count l ≡ true)
  overlong m h t =
      let far = rest_from file (m.gone + length m.begun + length m.ahead) in
      overlong_of m t.front t.more far (h.is ∙ (sym (append_assoc m.begun m.ahead far) ∙ (ap (λ (l : List ℕ). l ++ far) t.parts ∙ append_assoc t.front t.more far))) t.unbroken t.long

  pub finished : {Z : Type 0} (old new : Mark) (r : Result (Option (Vec ℕ Z)) LineStop) → Unbroken old.begun → length old.begun ≤ max_line → BeginsBroken old.ahead → (old.ahead ≡ [] → rest_from file (old.gone + length old.begun) ≡ []) → IsAhead file old → Finishes old new r → NextLine file old new r × IsAhead file new
  finished old new (Ok (Some v)) u short broken end h f =
      let n = first_is old.gone old.begun old.ahead u broken h.is end f.2 in
      let by = f.3 in
      let size : length v.items ≤ max_line = omega (arith, ap length f.0) in
      let at : old.gone + length old.begun + min 1 (length old.ahead) + length (drop 1 old.ahead) ≡ old.gone + length old.begun + min 1 (length old.ahead) + length new.begun + length (drop 1 old.ahead) = omega (arith, ap length by.begun) in (
        (
          n.first ∙ (ap (λ (l : List ℕ). l ∷ lines_of (rest_from file (old.gone + length old.begun + min 1 (length old.ahead)))) (sym f.0) ∙ ap (λ (k : ℕ). v.items ∷ lines_of (rest_from file k)) (sym by.gone)),
          passes-not old.count v.items size f.1,
          by.count,
        ),
        record { is = rw (by.gone, by.ahead, by.begun) (n.next ∙ ap (λ (k : ℕ). drop 1 old.ahead ++ rest_from file k) (rw by.begun at at)) },
      )
  finished old new (Ok None) u short broken end h f =
      let at : old.gone ≡ old.gone + length old.begun = omega (arith, ap length f.0) in
      let none : lines_left file old ≡ [] = ap lines_of (ap (rest_from file) at ∙ end f.1) in
      ((none, rw f.2 none), rw f.2 h)
  finished old new (Err TooLong) u short broken end h f =
      let n = first_is old.gone old.begun old.ahead u broken h.is end f.1 in
      ((old.begun, _, n.first, passes-many old.count old.begun f.0), rw f.2 h)
  finished old new (Err NoMemory) u short broken end h f = absurd f
  finished old new (Err Fault) u short broken end h f = absurd f

  pub since : {Z : Type 0} (old mid new : Mark) (r : Result (Option (Vec ℕ Z)) LineStop) → SameLines old mid → NextLine file mid new r → NextLine file old new r
  since old mid new (Ok (Some v)) s n = rw (← s.gone, ← s.count) n
  since old mid new (Ok None) s n = rw (← s.gone) n
  since old mid new (Err TooLong) s n = rw (← s.gone, ← s.count) n
  since old mid new (Err NoMemory) s n = (n.0 ∙ ap (λ (k : ℕ). lines_of (rest_from file k)) s.gone, n.1 ∙ s.count)
  since old mid new (Err Fault) s n = tt

  pub cut_stops : (old new : Mark) (e : LineStop) → SameLines old new → IsAhead file new → CutStops new e → NoLine file old new e
  cut_stops old new TooLong s h t = rw (← s.gone, ← s.count) (overlong new h t)
  cut_stops old new NoMemory s h t = (ap (λ (k : ℕ). lines_of (rest_from file k)) s.gone, s.count)
  cut_stops old new Fault s h t = absurd t

pub not_empty : (l : List ℕ) → false ≡ (length l == 0) → l ≡ [] → ⊥
not_empty l h e = let t = h ∙ ap (λ (k : List ℕ). length k == 0) e in cc

pub empty_broken : (l : List ℕ) → true ≡ (length l == 0) → BeginsBroken l
empty_broken [] h = tt
empty_broken (x ∷ l) h =
    let e : length (x ∷ l) ≡ 0 = eqb-true (length (x ∷ l)) 0 (sym h) in absurd (omega arith)

pub same_trans : (a b c : Mark) → SameLines a b → SameLines b c → SameLines a c
same_trans a b c s t = record { name = t.name ∙ s.name; gone = t.gone ∙ s.gone; count = t.count ∙ s.count; live = t.live ∙ s.live }

-- no read failed
pub cut_went_well : (T : Type 0) (new : Mark) (e : LineStop) → CutStops new e → false ≡ is_fault {T = T} (Err e)
cut_went_well T new TooLong s = refl
cut_went_well T new NoMemory s = refl
cut_went_well T new Fault s = absurd s

pub finish_went_well : {Z : Type 0} (old new : Mark) (r : Result (Option (Vec ℕ Z)) LineStop) → Finishes old new r → false ≡ is_fault r
finish_went_well old new (Ok (Some v)) f = refl
finish_went_well old new (Ok None) f = refl
finish_went_well old new (Err TooLong) f = refl
finish_went_well old new (Err NoMemory) f = absurd f
finish_went_well old new (Err Fault) f = absurd f

no_bytes : (begun ahead far : List ℕ) → (ahead ≡ [] → ⊥) → [] ≡ begun ++ (ahead ++ far) → ⊥
no_bytes [] [] far some is = some refl
no_bytes [] (x ∷ ahead) far some is = cc
no_bytes (b ∷ begun) ahead far some is = cc

-- what was read ahead was read from a file
there-ahead : (file : Option (List ℕ)) (m : Mark) → (m.ahead ≡ [] → ⊥) → IsAhead file m → IsSome file
there-ahead (Some all) m some ahead = refl
there-ahead None m some ahead = absurd (no_bytes m.begun m.ahead _ some ahead.is)

on_ok : {T E : Type 0} (P : Type 0) (r : Result T E) → P → OnOk r P
on_ok P (Ok x) p = p
on_ok P (Err e) p = tt

line-ends : {Z : Type 0} (file : Option (List ℕ)) (start at new : Mark) (r : Result (Option (Vec ℕ Z)) LineStop) → SameLines start at → Unbroken at.begun → length at.begun ≤ max_line
    → BeginsBroken at.ahead → (at.ahead ≡ [] → rest_from file (at.gone + length at.begun) ≡ []) → IsSome file → IsAhead file at → Finishes at new r → ReadsLine file start new r
line-ends file start at new r same unbroken short broken end there ahead f =
    let h = finished file at new r unbroken short broken end ahead f in
    record { next = since file start at new r same h.0; there = on_ok (IsSome file) r there; again = h.1 }

-- How a line is read in the file under a name, which each read leaves as it was: from the start of the call over the
-- pieces gone by (`mid`), a cut (`cut`) and a read (`full`) to its end.
module _ (name : List ℕ) (start mid cut : Mark) (named : start.name ≡ name) (going : SameLines start mid) (same : SameLines mid cut) (bytes : cut.begun ++ cut.ahead ≡ mid.begun ++ mid.ahead) where
  so_far : SameLines start cut
  so_far = same_trans start mid cut going same

  pub line-stops : {Z : Type 0} (e : LineStop) → CutStops cut e → (held : Held) → (IsAhead (held name) start → IsAhead (held name) mid)
      → IsAhead (held name) start → ReadsLine {Z = Z} (held name) start cut (Err e)
  line-stops e stops held before ahead =
      let now = moved (held name) mid cut same bytes (before ahead) in
      record { next = cut_stops (held name) start cut e so_far now stops; there = tt; again = now }

  pub line-whole : {Z : Type 0} (new : Mark) (r : Result (Option (Vec ℕ Z)) LineStop) → Unbroken cut.begun → length cut.begun ≤ max_line → BeginsBroken cut.ahead → (cut.ahead ≡ [] → ⊥) → Finishes cut new r
      → (held : Held) → (IsAhead (held name) start → IsAhead (held name) mid) → IsAhead (held name) start → ReadsLine (held name) start new r
  line-whole new r unbroken short broken some f held before ahead =
      let now = moved (held name) mid cut same bytes (before ahead) in
      line-ends (held name) start cut new r so_far unbroken short broken (λ none. absurd (some none)) (there-ahead (held name) cut some now) now f

  -- what the read tells, in the file as it was at the start
  read_there : (full : Mark) (x y : Held) → SameHeld x y → ReadsAhead {T = Unit {0}} {E = DiskFault} (y cut.name) cut full (Ok tt) → ReadsAhead {T = Unit {0}} {E = DiskFault} (x name) cut full (Ok tt)
  read_there full x y stays reads =
      let file : y cut.name ≡ x name = stays cut.name ∙ ap x (so_far.name ∙ named) in
      subst (λ (f : Option (List ℕ)). ReadsAhead {T = Unit {0}} {E = DiskFault} f cut full (Ok tt)) file reads

  pub line-goes-on : (full : Mark) (x y : Held) → SameHeld x y → (IsAhead (x name) start → IsAhead (x name) mid) → ReadsAhead {T = Unit {0}} {E = DiskFault} (y cut.name) cut full (Ok tt)
      → IsAhead (x name) start → IsAhead (x name) full
  line-goes-on full x y stays before reads ahead =
      (read_there full x y stays reads).again (moved (x name) mid cut same bytes (before ahead))

  pub line-last : {Z : Type 0} (full new : Mark) (r : Result (Option (Vec ℕ Z)) LineStop) → SameLines cut full → full.begun ≡ cut.begun → Unbroken cut.begun → length cut.begun ≤ max_line → BeginsBroken full.ahead → Finishes full new r
      → (x y : Held) → SameHeld x y → (IsAhead (x name) start → IsAhead (x name) mid) → ReadsAhead {T = Unit {0}} {E = DiskFault} (y cut.name) cut full (Ok tt)
      → IsAhead (x name) start → ReadsLine (x name) start new r
  line-last full new r by begun unbroken short broken f x y stays before reads ahead =
      let told = read_there full x y stays reads in
      let end : full.ahead ≡ [] → rest_from (x name) (full.gone + length full.begun) ≡ [] = λ none. rw (by.gone, begun) (told.ends none) in
      line-ends (x name) start full new r (same_trans start cut full so_far by) (rw begun unbroken) (rw begun short) broken end told.there
      (line-goes-on full x y stays before reads ahead) f

-- Blank lines have gone by since the start of the call (`mid`), and one more line was read (`new`).
module _ (start mid new : Mark) (named : mid.name ≡ start.name) (x y : Held) (stays : SameHeld x y) (before : IsAhead (x start.name) start → GoesOn (x start.name) start mid) where
  read_of : {Z : Type 0} (r : Result (Option (Vec ℕ Z)) LineStop) → (IsAhead (y mid.name) mid → ReadsLine (y mid.name) mid new r) → IsAhead (x start.name) mid → ReadsLine (x start.name) mid new r
  read_of r reads ahead =
      let file : y mid.name ≡ x start.name = stays mid.name ∙ ap x named in
      subst (λ (f : Option (List ℕ)). ReadsLine f mid new r) file (reads (subst (λ (f : Option (List ℕ)). IsAhead f mid) (sym file) ahead))

  -- what would be taken at `mid` by its first line
  first-taken : (file : Option (List ℕ)) (l : List ℕ) (ls : List (List ℕ)) (long blank : Bool) → lines_left file mid ≡ l ∷ ls → passes mid.count l ≡ long → is_blank_line l ≡ blank
      → left file mid ≡ cond long too_long (cond blank (taken_of (suc mid.count) ls) (taking l (taken_of (suc mid.count) ls)))
  first-taken file l ls long blank is p b = rw (← p, ← b) (ap (taken_of mid.count) is)

  none_taken : (file : Option (List ℕ)) (live : Bool) (e : LineStop) → left file mid ≡ left file start → NoLine file mid new e → TakesNone file start (record new { live = live }) e
  none_taken file live TooLong same n = sym same ∙ first-taken file n.0 n.1 true (is_blank_line n.0) n.2 n.3 refl
  none_taken file live NoMemory same n = ap (λ (k : ℕ). taken_of k (lines_left file new)) n.1 ∙ (ap (taken_of mid.count) n.0 ∙ same)
  none_taken file live Fault same n = tt

  -- and then it was told whether the lines may be read on
  pub takes-none : {Z : Type 0} (now : Mark) (live : Bool) (e : LineStop) → new ≡ now → (IsAhead (y mid.name) mid → ReadsLine {Z = Z} (y mid.name) mid new (Err e)) → IsAhead (x start.name) start → TakesLine {Z = Z} (x start.name) start (record now { live = live }) (Err e)
  takes-none {Z = Z} now live e is reads ahead =
      let went = before ahead in
      let line = read_of (Err e) reads went.ahead in
      subst (λ (m : Mark). TakesLine {Z = Z} (x start.name) start (record m { live = live }) (Err e)) is
      (record { next = none_taken (x start.name) live e went.same line.next; there = tt; again = record { is = line.again.is } })

  pub takes-line : {Z : Type 0} (v : Vec ℕ Z) → false ≡ is_blank_line v.items → (IsAhead (y mid.name) mid → ReadsLine (y mid.name) mid new (Ok (Some v))) → IsAhead (x start.name) start → TakesLine (x start.name) start new (Ok (Some v))
  takes-line v blank reads ahead =
      let went = before ahead in
      let line = read_of (Ok (Some v)) reads went.ahead in
      record {
        next = sym went.same ∙ (first-taken (x start.name) v.items (lines_left (x start.name) new) false false line.next.0 line.next.1 (sym blank) ∙ ap (λ (k : ℕ). taking v.items (taken_of k (lines_left (x start.name) new))) (sym line.next.2));
        there = line.there;
        again = line.again;
      }

  pub takes-blank : {Z : Type 0} (v : Vec ℕ Z) → true ≡ is_blank_line v.items → (IsAhead (y mid.name) mid → ReadsLine (y mid.name) mid new (Ok (Some v))) → IsAhead (x start.name) start → GoesOn (x start.name) start new
  takes-blank v blank reads ahead =
      let went = before ahead in
      let line = read_of (Ok (Some v)) reads went.ahead in
      record {
        ahead = line.again;
        same = ap (λ (k : ℕ). taken_of k (lines_left (x start.name) new)) line.next.2 ∙ (sym (first-taken (x start.name) v.items (lines_left (x start.name) new) false true line.next.0 line.next.1 (sym blank)) ∙ went.same);
      }
