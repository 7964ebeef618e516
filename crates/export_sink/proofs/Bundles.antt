-- What is written for one line is what is meant for that line alone.
use Rattle.std.proofs.Common.{◌≡◌, ℕ, suc, ◌+◌, Bool, true, false, List, [], ◌∷◌, ◌++◌, map, Ok, Err, if◌then◌else◌, refl, sym, ap, ◌∙◌, append-nil, add-zero}
use Rattle.std.specs.List.{concat}
use Rattle.conf_draft.specs.declared.draft.Exporter.{Exporter}
use Rattle.export_sink.specs.Bundles.{bundle_of}
use Rattle.export_sink.specs.Left.{left_bundle, lines_by, notes_by, refused_bundle, total_by}
use Rattle.export_sink.specs.Plans.{goes_in}
use Rattle.export_sink.specs.declared.bundle.Bundle.{Bundle}
use Rattle.graph_build.specs.Conf.{Conf}
use Rattle.graph_build.specs.declared.leg.Leg.{Leg}
use Rattle.leg_model.specs.Course.{Outcome, no_counts}
use Rattle.leg_model.specs.Exports.{alone, exported, goes_to, legs_lines, lines_left, logs, payload_lines}
use Rattle.leg_model.specs.Legs.{leg_outcome}
use Rattle.leg_model.specs.Notes.{leg_text, legs_text, notes_from, outcome_text, payload_notes, refused_text}
use Rattle.leg_model.specs.Parts.{part_names}
use Rattle.leg_model.specs.Totals.{accepted, accepted_by, file_total, leg_total, payload_counts, plus, refused, refused_by, totals_of}
use Rattle.leg_model.specs.declared.FileTotal.{FileTotal}
use Rattle.leg_model.specs.declared.LegCounts.{LegCounts}
use Rattle.leg_model.specs.declared.Totals.{Totals}
use Rattle.otlp_json.specs.Payload.{payload}
use Rattle.otlp_json.specs.Reads.{Read}
use Rattle.otlp_json.specs.declared.error.PayloadFault.{PayloadFault}
use Rattle.pdata_tree.specs.declared.batch.Batch.{Batch}

-- Equal parts make equal bundles.

abbrev totals_by : ℕ → ℕ → List LegCounts → List FileTotal → Totals
totals_by a r ls fs = record { accepted = a; refused = r; legs = ls; files = fs }

totals-same : (a b r q : ℕ) (ls ms : List LegCounts) (fs gs : List FileTotal) → a ≡ b → r ≡ q → ls ≡ ms → fs ≡ gs
    → totals_by a r ls fs ≡ totals_by b q ms gs
totals-same a b r q ls ms fs gs first second legs files =
    ap (λ n. totals_by n r ls fs) first ∙ ap (λ n. totals_by b n ls fs) second
    ∙ ap (λ xs. totals_by b q xs fs) legs ∙ ap (totals_by b q ms) files

abbrev bundle_by : List (List ℕ) → List ℕ → Totals → Bundle
bundle_by ts ns t = record { texts = ts; notes = ns; totals = t }

bundle-same : (ts us : List (List ℕ)) (ns ms : List ℕ) (t u : Totals) → ts ≡ us → ns ≡ ms → t ≡ u
    → bundle_by ts ns t ≡ bundle_by us ms u
bundle-same ts us ns ms t u texts notes totals =
    ap (λ x. bundle_by x ns t) texts ∙ ap (λ x. bundle_by us x t) notes ∙ ap (bundle_by us ms) totals

-- Lines.

by_goes : (b : Bool) (goes : List Bool) (o : Outcome Batch) (left : List (Outcome Batch))
    → lines_by (b ∷ goes) (o ∷ left) ≡ (if b then lines_left o.tree else []) ++ lines_by goes left
by_goes true goes o left = refl
by_goes false goes o left = refl

legs_lines-is : (conf : Conf) (e : Exporter) (tree : Batch) (legs : List Leg)
    → lines_by (goes_in conf.meant.draft legs e) (map (leg_outcome logs conf tree) legs)
    ≡ legs_lines conf e.name tree legs
legs_lines-is conf e tree [] = refl
legs_lines-is conf e tree (leg ∷ legs) =
    by_goes (goes_to conf.meant.draft e.name leg) (goes_in conf.meant.draft legs e) (leg_outcome logs conf tree leg)
    (map (leg_outcome logs conf tree) legs)
    ∙ ap (λ ls. (if goes_to conf.meant.draft e.name leg then lines_left (leg_outcome logs conf tree leg).tree else []) ++ ls)
    (legs_lines-is conf e tree legs)

exported-one : (conf : Conf) (e : Exporter) (line : List ℕ) (tree : Batch) → payload line ≡ Ok tree
    → exported conf e.name (line ∷ [])
    ≡ lines_by (goes_in conf.meant.draft conf.legs e) (map (leg_outcome logs conf tree) conf.legs)
exported-one conf e line tree is =
    append-nil (payload_lines conf e.name (payload line)) ∙ ap (payload_lines conf e.name) is
    ∙ sym (legs_lines-is conf e tree conf.legs)

texts-one : (conf : Conf) (line : List ℕ) (tree : Batch) → payload line ≡ Ok tree → (es : List Exporter)
    → map (λ goes. concat (lines_by goes (map (leg_outcome logs conf tree) conf.legs))) (map (goes_in conf.meant.draft conf.legs) es)
    ≡ map (λ e. alone conf e.name (line ∷ [])) es
texts-one conf line tree is [] = refl
texts-one conf line tree is (e ∷ es) =
    ap (λ t. t ∷ map (λ goes. concat (lines_by goes (map (leg_outcome logs conf tree) conf.legs)))
    (map (goes_in conf.meant.draft conf.legs) es))
    (ap concat (sym (exported-one conf e line tree is)))
    ∙ ap (λ ts. alone conf e.name (line ∷ []) ∷ ts) (texts-one conf line tree is es)

files-one : (conf : Conf) (line : List ℕ) (tree : Batch) → payload line ≡ Ok tree → (es : List Exporter)
    → map (λ goes. total_by (lines_by goes (map (leg_outcome logs conf tree) conf.legs))) (map (goes_in conf.meant.draft conf.legs) es)
    ≡ map (file_total conf (line ∷ [])) es
files-one conf line tree is [] = refl
files-one conf line tree is (e ∷ es) =
    ap (λ t. t ∷ map (λ goes. total_by (lines_by goes (map (leg_outcome logs conf tree) conf.legs)))
    (map (goes_in conf.meant.draft conf.legs) es))
    (ap total_by (sym (exported-one conf e line tree is)))
    ∙ ap (λ ts. file_total conf (line ∷ []) e ∷ ts) (files-one conf line tree is es)

-- Notes.

notes_by-is : (conf : Conf) (number : ℕ) (tree : Batch) (index : ℕ) (legs : List Leg)
    → notes_by conf.meant.draft number index legs (map (leg_outcome logs conf tree) legs)
    ≡ legs_text conf number tree index legs
notes_by-is conf number tree index [] = refl
notes_by-is conf number tree index (leg ∷ legs) =
    ap (λ ns. outcome_text (leg_text number index) (part_names conf.meant.draft leg.pipeline) (leg_outcome logs conf tree leg) ++ ns)
    (notes_by-is conf number tree (suc index) legs)

notes-one : (conf : Conf) (number : ℕ) (line : List ℕ) (p : Read Batch) → payload line ≡ p
    → payload_notes conf number p ≡ notes_from conf number (line ∷ [])
notes-one conf number line p is =
    ap (payload_notes conf number) (sym is) ∙ sym (append-nil (payload_notes conf number (payload line)))

-- Counts.

plus-none : (c : LegCounts) → plus c no_counts ≡ c
plus-none c =
    rw (add-zero c.taken, add-zero c.out, add-zero c.filtered, add-zero c.unrouted, add-zero c.failed, add-zero c.errors) refl

counts-one : (conf : Conf) (line : List ℕ) (p : Read Batch) → payload line ≡ p → (leg : Leg)
    → payload_counts conf leg p ≡ leg_total conf leg (line ∷ [])
counts-one conf line p is leg =
    ap (payload_counts conf leg) (sym is) ∙ sym (plus-none (payload_counts conf leg (payload line)))

legs-one : (conf : Conf) (line : List ℕ) (tree : Batch) → payload line ≡ Ok tree → (legs : List Leg)
    → map (λ (o : Outcome Batch). o.counts) (map (leg_outcome logs conf tree) legs)
    ≡ map (λ leg. leg_total conf leg (line ∷ [])) legs
legs-one conf line tree is [] = refl
legs-one conf line tree is (leg ∷ legs) =
    ap (λ c. c ∷ map (λ (o : Outcome Batch). o.counts) (map (leg_outcome logs conf tree) legs)) (counts-one conf line (Ok tree) is leg)
    ∙ ap (λ cs. leg_total conf leg (line ∷ []) ∷ cs) (legs-one conf line tree is legs)

-- Of an accepted payload.
pub left_one : (conf : Conf) (number : ℕ) (line : List ℕ) (tree : Batch) → payload line ≡ Ok tree
    → (left : List (Outcome Batch)) → left ≡ map (leg_outcome logs conf tree) conf.legs
    → (made : Bundle) → made ≡ left_bundle conf number left → made ≡ bundle_of conf number (line ∷ [])
left_one conf number line tree is left all made made_is =
    made_is ∙ ap (left_bundle conf number) all
    ∙ bundle-same
    (map (λ goes. concat (lines_by goes (map (leg_outcome logs conf tree) conf.legs))) (map (goes_in conf.meant.draft conf.legs) conf.meant.draft.exporters))
    (map (λ e. alone conf e.name (line ∷ [])) conf.meant.draft.exporters)
    (notes_by conf.meant.draft number 0 conf.legs (map (leg_outcome logs conf tree) conf.legs))
    (notes_from conf number (line ∷ []))
    (left_bundle conf number (map (leg_outcome logs conf tree) conf.legs)).totals
    (totals_of conf (line ∷ []))
    (texts-one conf line tree is conf.meant.draft.exporters)
    (notes_by-is conf number tree 0 conf.legs ∙ notes-one conf number line (Ok tree) is)
    (totals-same 1 (accepted (line ∷ [])) 0 (refused (line ∷ []))
    (map (λ (o : Outcome Batch). o.counts) (map (leg_outcome logs conf tree) conf.legs))
    (map (λ leg. leg_total conf leg (line ∷ [])) conf.legs)
    (map (λ goes. total_by (lines_by goes (map (leg_outcome logs conf tree) conf.legs))) (map (goes_in conf.meant.draft conf.legs) conf.meant.draft.exporters))
    (map (file_total conf (line ∷ [])) conf.meant.draft.exporters)
    (ap (λ p. accepted_by p + 0) (sym is)) (ap (λ p. refused_by p + 0) (sym is))
    (legs-one conf line tree is conf.legs)
    (files-one conf line tree is conf.meant.draft.exporters))

-- Of a refused one.

abbrev no_text : Exporter → List ℕ
no_text e = []

abbrev no_total : Exporter → FileTotal
no_total e = total_by []

no_texts-one : (conf : Conf) (line : List ℕ) (fault : PayloadFault) → payload line ≡ Err fault → (es : List Exporter)
    → map no_text es ≡ map (λ e. alone conf e.name (line ∷ [])) es
no_texts-one conf line fault is [] = refl
no_texts-one conf line fault is (e ∷ es) =
    ap (λ p. concat (payload_lines conf e.name p ++ []) ∷ map no_text es) (sym is)
    ∙ ap (λ ts. alone conf e.name (line ∷ []) ∷ ts) (no_texts-one conf line fault is es)

no_files-one : (conf : Conf) (line : List ℕ) (fault : PayloadFault) → payload line ≡ Err fault → (es : List Exporter)
    → map no_total es ≡ map (file_total conf (line ∷ [])) es
no_files-one conf line fault is [] = refl
no_files-one conf line fault is (e ∷ es) =
    ap (λ p. total_by (payload_lines conf e.name p ++ []) ∷ map no_total es) (sym is)
    ∙ ap (λ ts. file_total conf (line ∷ []) e ∷ ts) (no_files-one conf line fault is es)

no_legs-one : (conf : Conf) (line : List ℕ) (fault : PayloadFault) → payload line ≡ Err fault → (legs : List Leg)
    → map (λ (leg : Leg). no_counts) legs ≡ map (λ leg. leg_total conf leg (line ∷ [])) legs
no_legs-one conf line fault is [] = refl
no_legs-one conf line fault is (leg ∷ legs) =
    ap (λ c. c ∷ map (λ (x : Leg). no_counts) legs) (counts-one conf line (Err fault) is leg)
    ∙ ap (λ cs. leg_total conf leg (line ∷ []) ∷ cs) (no_legs-one conf line fault is legs)

pub refused_one : (conf : Conf) (number : ℕ) (line : List ℕ) (fault : PayloadFault) → payload line ≡ Err fault
    → (made : Bundle) → made ≡ refused_bundle conf number fault → made ≡ bundle_of conf number (line ∷ [])
refused_one conf number line fault is made made_is =
    made_is
    ∙ bundle-same (map no_text conf.meant.draft.exporters)
    (map (λ e. alone conf e.name (line ∷ [])) conf.meant.draft.exporters)
    (refused_text number fault) (notes_from conf number (line ∷ []))
    (refused_bundle conf number fault).totals (totals_of conf (line ∷ []))
    (no_texts-one conf line fault is conf.meant.draft.exporters)
    (notes-one conf number line (Err fault) is)
    (totals-same 0 (accepted (line ∷ [])) 1 (refused (line ∷ []))
    (map (λ (leg : Leg). no_counts) conf.legs) (map (λ leg. leg_total conf leg (line ∷ [])) conf.legs)
    (map no_total conf.meant.draft.exporters) (map (file_total conf (line ∷ [])) conf.meant.draft.exporters)
    (ap (λ p. accepted_by p + 0) (sym is)) (ap (λ p. refused_by p + 0) (sym is))
    (no_legs-one conf line fault is conf.legs)
    (no_files-one conf line fault is conf.meant.draft.exporters))
