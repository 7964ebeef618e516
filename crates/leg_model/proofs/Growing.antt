-- What is written, noted and counted of lines followed by others is that of the first, then that of
-- the others. With one line behind others this is the step of a run that goes line by line.
use Rattle.std.proofs.Common.{◌≡◌, ℕ, suc, ◌+◌, List, [], ◌∷◌, ◌++◌, length, map, refl, sym, ap, ◌∙◌, append_assoc, append-nil, length-append, add-zero, arith}
use Rattle.std.specs.List.{concat}
use Rattle.conf_draft.specs.declared.draft.Exporter.{Exporter}
use Rattle.graph_build.specs.Conf.{Conf}
use Rattle.graph_build.specs.declared.leg.Leg.{Leg}
use Rattle.leg_model.specs.Course.{no_counts}
use Rattle.leg_model.specs.Exports.{alone, exported, payload_lines}
use Rattle.leg_model.specs.Notes.{notes_from, payload_notes}
use Rattle.leg_model.specs.Sums.{plus_file, plus_files, plus_legs, plus_totals}
use Rattle.leg_model.specs.Totals.{accepted, accepted_by, file_total, leg_total, payload_counts, plus, refused, refused_by, totals_of}
use Rattle.leg_model.specs.declared.FileTotal.{FileTotal}
use Rattle.leg_model.specs.declared.LegCounts.{LegCounts}
use Rattle.leg_model.specs.declared.Totals.{Totals}
use Rattle.otlp_json.specs.Payload.{payload}

-- What exporters get.

concat-append : (xs ys : List (List ℕ)) → concat (xs ++ ys) ≡ concat xs ++ concat ys
concat-append [] ys = refl
concat-append (x ∷ xs) ys =
    ap (λ (t : List ℕ). x ++ t) (concat-append xs ys) ∙ sym (append_assoc x (concat xs) (concat ys))

pub exported-append : (conf : Conf) (exporter : List ℕ) (ls ms : List (List ℕ))
    → exported conf exporter (ls ++ ms) ≡ exported conf exporter ls ++ exported conf exporter ms
exported-append conf exporter [] ms = refl
exported-append conf exporter (l ∷ ls) ms =
    ap (λ (t : List (List ℕ)). payload_lines conf exporter (payload l) ++ t) (exported-append conf exporter ls ms)
    ∙ sym (append_assoc (payload_lines conf exporter (payload l)) (exported conf exporter ls) (exported conf exporter ms))

pub alone-append : (conf : Conf) (exporter : List ℕ) (ls ms : List (List ℕ))
    → alone conf exporter (ls ++ ms) ≡ alone conf exporter ls ++ alone conf exporter ms
alone-append conf exporter ls ms =
    ap concat (exported-append conf exporter ls ms)
    ∙ concat-append (exported conf exporter ls) (exported conf exporter ms)

-- of one line
pub exported-one : (conf : Conf) (exporter line : List ℕ)
    → exported conf exporter (line ∷ []) ≡ payload_lines conf exporter (payload line)
exported-one conf exporter line = append-nil (payload_lines conf exporter (payload line))

pub alone-one : (conf : Conf) (exporter line : List ℕ)
    → alone conf exporter (line ∷ []) ≡ concat (payload_lines conf exporter (payload line))
alone-one conf exporter line = ap concat (exported-one conf exporter line)

-- What is noted.

next : (number count : ℕ) → suc number + count ≡ number + suc count
next number count = omega arith

pub notes_from-append : (conf : Conf) (number : ℕ) (ls ms : List (List ℕ))
    → notes_from conf number (ls ++ ms) ≡ notes_from conf number ls ++ notes_from conf (number + length ls) ms
notes_from-append conf number [] ms = ap (λ (n : ℕ). notes_from conf n ms) (sym (add-zero number))
notes_from-append conf number (l ∷ ls) ms =
    ap (λ (t : List ℕ). payload_notes conf number (payload l) ++ t)
    (notes_from-append conf (suc number) ls ms
    ∙ ap (λ (n : ℕ). notes_from conf (suc number) ls ++ notes_from conf n ms) (next number (length ls)))
    ∙ sym (append_assoc (payload_notes conf number (payload l)) (notes_from conf (suc number) ls)
    (notes_from conf (number + length (l ∷ ls)) ms))

-- of one line
pub notes_from-one : (conf : Conf) (number : ℕ) (line : List ℕ)
    → notes_from conf number (line ∷ []) ≡ payload_notes conf number (payload line)
notes_from-one conf number line = append-nil (payload_notes conf number (payload line))

-- What is counted.

add_three : (a b c : ℕ) → a + (b + c) ≡ a + b + c
add_three a b c = omega arith

none-add : (a : ℕ) → a ≡ 0 + a
none-add a = omega arith

pub accepted-append : (ls ms : List (List ℕ)) → accepted (ls ++ ms) ≡ accepted ls + accepted ms
accepted-append [] ms = none-add (accepted ms)
accepted-append (l ∷ ls) ms =
    ap (λ (n : ℕ). accepted_by (payload l) + n) (accepted-append ls ms)
    ∙ add_three (accepted_by (payload l)) (accepted ls) (accepted ms)

pub refused-append : (ls ms : List (List ℕ)) → refused (ls ++ ms) ≡ refused ls + refused ms
refused-append [] ms = none-add (refused ms)
refused-append (l ∷ ls) ms =
    ap (λ (n : ℕ). refused_by (payload l) + n) (refused-append ls ms)
    ∙ add_three (refused_by (payload l)) (refused ls) (refused ms)

none-plus : (c : LegCounts) → c ≡ plus no_counts c
none-plus c =
    rw⁻¹ (none-add c.taken, none-add c.out, none-add c.filtered, none-add c.unrouted, none-add c.failed, none-add c.errors) refl

plus-three : (a b c : LegCounts) → plus a (plus b c) ≡ plus (plus a b) c
plus-three a b c =
    rw (
      add_three a.taken b.taken c.taken,
      add_three a.out b.out c.out,
      add_three a.filtered b.filtered c.filtered,
      add_three a.unrouted b.unrouted c.unrouted,
      add_three a.failed b.failed c.failed,
      add_three a.errors b.errors c.errors,
    ) refl

pub leg_total-append : (conf : Conf) (leg : Leg) (ls ms : List (List ℕ))
    → leg_total conf leg (ls ++ ms) ≡ plus (leg_total conf leg ls) (leg_total conf leg ms)
leg_total-append conf leg [] ms = none-plus (leg_total conf leg ms)
leg_total-append conf leg (l ∷ ls) ms =
    ap (plus (payload_counts conf leg (payload l))) (leg_total-append conf leg ls ms)
    ∙ plus-three (payload_counts conf leg (payload l)) (leg_total conf leg ls) (leg_total conf leg ms)

abbrev file_by : ℕ → ℕ → FileTotal
file_by lines bytes = record { lines = lines; bytes = bytes }

file-same : (a b c d : ℕ) → a ≡ b → c ≡ d → file_by a c ≡ file_by b d
file-same a b c d lines bytes = ap (λ (n : ℕ). file_by n c) lines ∙ ap (file_by b) bytes

pub file_total-append : (conf : Conf) (ls ms : List (List ℕ)) (e : Exporter)
    → file_total conf (ls ++ ms) e ≡ plus_file (file_total conf ls e) (file_total conf ms e)
file_total-append conf ls ms e =
    file-same (length (exported conf e.name (ls ++ ms))) (length (exported conf e.name ls) + length (exported conf e.name ms))
    (length (alone conf e.name (ls ++ ms))) (length (alone conf e.name ls) + length (alone conf e.name ms))
    (ap length (exported-append conf e.name ls ms) ∙ length-append (exported conf e.name ls) (exported conf e.name ms))
    (ap length (alone-append conf e.name ls ms) ∙ length-append (alone conf e.name ls) (alone conf e.name ms))

-- Lists of sums, however they are added up: where each of a list has a sum, the lists have.
pub map-sums : {X C : Type 0} (f g h : X → C) (sum : C → C → C) (sums : List C → List C → List C) → sums [] [] ≡ []
    → ((c d : C) (cs ds : List C) → sums (c ∷ cs) (d ∷ ds) ≡ sum c d ∷ sums cs ds)
    → ((x : X) → h x ≡ sum (f x) (g x)) → (xs : List X) → map h xs ≡ sums (map f xs) (map g xs)
map-sums f g h sum sums none more each [] = sym none
map-sums {C = C} f g h sum sums none more each (x ∷ xs) =
    ap (λ (c : C). c ∷ map h xs) (each x)
    ∙ ap (λ (cs : List C). sum (f x) (g x) ∷ cs) (map-sums f g h sum sums none more each xs)
    ∙ sym (more (f x) (g x) (map f xs) (map g xs))

pub legs-append : (conf : Conf) (ls ms : List (List ℕ)) (legs : List Leg)
    → map (λ leg. leg_total conf leg (ls ++ ms)) legs
    ≡ plus_legs (map (λ leg. leg_total conf leg ls) legs) (map (λ leg. leg_total conf leg ms) legs)
legs-append conf ls ms =
    map-sums (λ leg. leg_total conf leg ls) (λ leg. leg_total conf leg ms) (λ leg. leg_total conf leg (ls ++ ms)) plus plus_legs
    refl (λ c d cs ds. refl) (λ leg. leg_total-append conf leg ls ms)

pub files-append : (conf : Conf) (ls ms : List (List ℕ)) (es : List Exporter)
    → map (file_total conf (ls ++ ms)) es ≡ plus_files (map (file_total conf ls) es) (map (file_total conf ms) es)
files-append conf ls ms =
    map-sums (file_total conf ls) (file_total conf ms) (file_total conf (ls ++ ms)) plus_file plus_files
    refl (λ c d cs ds. refl) (file_total-append conf ls ms)

abbrev totals_by : ℕ → ℕ → List LegCounts → List FileTotal → Totals
totals_by a r cs fs = record { accepted = a; refused = r; legs = cs; files = fs }

totals-same : (a b r q : ℕ) (cs ds : List LegCounts) (fs gs : List FileTotal) → a ≡ b → r ≡ q → cs ≡ ds → fs ≡ gs
    → totals_by a r cs fs ≡ totals_by b q ds gs
totals-same a b r q cs ds fs gs first second legs files =
    ap (λ (n : ℕ). totals_by n r cs fs) first ∙ ap (λ (n : ℕ). totals_by b n cs fs) second
    ∙ ap (λ (xs : List LegCounts). totals_by b q xs fs) legs ∙ ap (totals_by b q ds) files

pub totals_of-append : (conf : Conf) (ls ms : List (List ℕ))
    → totals_of conf (ls ++ ms) ≡ plus_totals (totals_of conf ls) (totals_of conf ms)
totals_of-append conf ls ms =
    totals-same (accepted (ls ++ ms)) (accepted ls + accepted ms) (refused (ls ++ ms)) (refused ls + refused ms)
    (map (λ leg. leg_total conf leg (ls ++ ms)) conf.legs)
    (plus_legs (map (λ leg. leg_total conf leg ls) conf.legs) (map (λ leg. leg_total conf leg ms) conf.legs))
    (map (file_total conf (ls ++ ms)) conf.meant.draft.exporters)
    (plus_files (map (file_total conf ls) conf.meant.draft.exporters) (map (file_total conf ms) conf.meant.draft.exporters))
    (accepted-append ls ms) (refused-append ls ms) (legs-append conf ls ms conf.legs)
    (files-append conf ls ms conf.meant.draft.exporters)

pub ruleset exports_law = (exported-append, alone-append)

pub ruleset notes_law = notes_from-append

pub ruleset totals_law = (accepted-append, refused-append, leg_total-append, file_total-append, totals_of-append)
