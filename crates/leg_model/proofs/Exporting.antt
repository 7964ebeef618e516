-- What an exporter gets, by the pipelines that it stands in.
use Rattle.std.proofs.Common.{◌≡◌, ◌∙◌, ℕ, ◌+◌, Bool, true, false, if◌then◌else◌, List, [], ◌∷◌, ◌++◌, length, suc, Some, Ok, Err, refl, ap, arith}
use Rattle.std.specs.Prelude.{◌≢◌}
use Rattle.std.specs.Str.{bytes_eq}
use Rattle.conf_draft.specs.References.{is_among}
use Rattle.conf_draft.specs.declared.draft.Draft.{Draft}
use Rattle.conf_draft.specs.declared.draft.Pipeline.{Pipeline}
use Rattle.graph_build.specs.Conf.{Conf}
use Rattle.graph_build.specs.Exits.{pipeline_named}
use Rattle.graph_build.specs.declared.leg.Leg.{Leg}
use Rattle.leg_model.proofs.Growing.{exported-one}
use Rattle.leg_model.specs.Exports.{exported, goes_to, has_exporter, legs_lines, lines_left, lines_of, logs, payload_lines}
use Rattle.leg_model.specs.Facts.{StandTogether, StandsInNone}
use Rattle.leg_model.specs.Legs.{leg_outcome}
use Rattle.leg_model.specs.Totals.{accepted, accepted_by, refused, refused_by}
use Rattle.otlp_json.specs.Line.{line}
use Rattle.otlp_json.specs.Payload.{payload}
use Rattle.otlp_json.specs.Reads.{Read}
use Rattle.otlp_json.specs.declared.error.PayloadFault.{PayloadFault}
use Rattle.pdata_tree.specs.declared.batch.Batch.{Batch}
use Rattle.pdata_tree.specs.declared.resource.ResourceTree.{ResourceTree}

-- Lines of trees.

pub no_line : (tree : Batch) → tree.resources ≡ [] → lines_left (Some tree) ≡ []
no_line tree none = ap (lines_of tree) none

some_line : (tree : Batch) (rs : List ResourceTree) → rs ≢ [] → lines_of tree rs ≡ (line tree ++ 10 ∷ []) ∷ []
some_line tree [] some = absurd (some refl)
some_line tree (r ∷ rs) some = refl

pub one_line : (tree : Batch) → tree.resources ≢ [] → lines_left (Some tree) ≡ (line tree ++ 10 ∷ []) ∷ []
one_line tree some = some_line tree tree.resources some

-- Exporters that stand together.

found_together : (a b name : List ℕ) (p : Pipeline) (ps : List Pipeline) (t : Bool)
    → is_among a p.exporters ≡ is_among b p.exporters
    → has_exporter a (pipeline_named name ps) ≡ has_exporter b (pipeline_named name ps)
    → has_exporter a (if t then Some p else pipeline_named name ps) ≡ has_exporter b (if t then Some p else pipeline_named name ps)
found_together a b name p ps true here behind = here
found_together a b name p ps false here behind = behind

named_together : (a b name : List ℕ) (ps : List Pipeline) → StandTogether a b ps
    → has_exporter a (pipeline_named name ps) ≡ has_exporter b (pipeline_named name ps)
named_together a b name [] together = refl
named_together a b name (p ∷ ps) together =
    found_together a b name p ps (bytes_eq name p.name) together.0 (named_together a b name ps together.1)

legs_together : (conf : Conf) (a b : List ℕ) → StandTogether a b conf.meant.draft.pipelines → (tree : Batch) (legs : List Leg)
    → legs_lines conf a tree legs ≡ legs_lines conf b tree legs
legs_together conf a b together tree [] = refl
legs_together conf a b together tree (leg ∷ legs) =
    ap (λ (goes : Bool). (if goes then lines_left (leg_outcome logs conf tree leg).tree else []) ++ legs_lines conf a tree legs)
    (named_together a b leg.pipeline conf.meant.draft.pipelines together)
    ∙ ap (λ (ls : List (List ℕ)). (if goes_to conf.meant.draft b leg then lines_left (leg_outcome logs conf tree leg).tree else []) ++ ls)
    (legs_together conf a b together tree legs)

payload_together : (conf : Conf) (a b : List ℕ) → StandTogether a b conf.meant.draft.pipelines → (p : Read Batch)
    → payload_lines conf a p ≡ payload_lines conf b p
payload_together conf a b together (Ok tree) = legs_together conf a b together tree conf.legs
payload_together conf a b together (Err fault) = refl

pub exported_together : (conf : Conf) (a b : List ℕ) → StandTogether a b conf.meant.draft.pipelines
    → (lines : List (List ℕ)) → exported conf a lines ≡ exported conf b lines
exported_together conf a b together [] = refl
exported_together conf a b together (l ∷ ls) =
    ap (λ (xs : List (List ℕ)). xs ++ exported conf a ls) (payload_together conf a b together (payload l))
    ∙ ap (λ (xs : List (List ℕ)). payload_lines conf b (payload l) ++ xs) (exported_together conf a b together ls)

-- An exporter that stands in no pipeline.

found_in_none : (e name : List ℕ) (p : Pipeline) (ps : List Pipeline) (t : Bool) → is_among e p.exporters ≡ false
    → has_exporter e (pipeline_named name ps) ≡ false → has_exporter e (if t then Some p else pipeline_named name ps) ≡ false
found_in_none e name p ps true here behind = here
found_in_none e name p ps false here behind = behind

named_in_none : (e name : List ℕ) (ps : List Pipeline) → StandsInNone e ps → has_exporter e (pipeline_named name ps) ≡ false
named_in_none e name [] none = refl
named_in_none e name (p ∷ ps) none =
    found_in_none e name p ps (bytes_eq name p.name) none.0 (named_in_none e name ps none.1)

legs_in_none : (conf : Conf) (e : List ℕ) → StandsInNone e conf.meant.draft.pipelines → (tree : Batch) (legs : List Leg)
    → legs_lines conf e tree legs ≡ []
legs_in_none conf e none tree [] = refl
legs_in_none conf e none tree (leg ∷ legs) =
    ap (λ (goes : Bool). (if goes then lines_left (leg_outcome logs conf tree leg).tree else []) ++ legs_lines conf e tree legs)
    (named_in_none e leg.pipeline conf.meant.draft.pipelines none)
    ∙ legs_in_none conf e none tree legs

payload_in_none : (conf : Conf) (e : List ℕ) → StandsInNone e conf.meant.draft.pipelines → (p : Read Batch)
    → payload_lines conf e p ≡ []
payload_in_none conf e none (Ok tree) = legs_in_none conf e none tree conf.legs
payload_in_none conf e none (Err fault) = refl

pub exported_in_none : (conf : Conf) (e : List ℕ) → StandsInNone e conf.meant.draft.pipelines → (lines : List (List ℕ))
    → exported conf e lines ≡ []
exported_in_none conf e none [] = refl
exported_in_none conf e none (l ∷ ls) =
    ap (λ (xs : List (List ℕ)). xs ++ exported conf e ls) (payload_in_none conf e none (payload l))
    ∙ exported_in_none conf e none ls

-- the exporters of a leg's pipeline
pub goes_by_pipeline : (draft : Draft) (e : List ℕ) (leg : Leg) (p : Pipeline)
    → pipeline_named leg.pipeline draft.pipelines ≡ Some p → goes_to draft e leg ≡ is_among e p.exporters
goes_by_pipeline draft e leg p is = ap (has_exporter e) is

-- Refused payloads.

pub exported_refused : (conf : Conf) (e line : List ℕ) (fault : PayloadFault) → payload line ≡ Err fault
    → exported conf e (line ∷ []) ≡ []
exported_refused conf e line fault is = exported-one conf e line ∙ ap (payload_lines conf e) is

one_of_two : (p : Read Batch) (a r n : ℕ) → a + r ≡ n → (accepted_by p + a) + (refused_by p + r) ≡ suc n
one_of_two (Ok tree) a r n is = omega (arith, is)
one_of_two (Err fault) a r n is = omega (arith, is)

pub each_counted : (lines : List (List ℕ)) → accepted lines + refused lines ≡ length lines
each_counted [] = refl
each_counted (l ∷ ls) = one_of_two (payload l) (accepted ls) (refused ls) (length ls) (each_counted ls)

pub one_accepted : (line : List ℕ) (tree : Batch) → payload line ≡ Ok tree → accepted (line ∷ []) ≡ 1
one_accepted line tree is = ap (λ p. accepted_by p + 0) is

pub one_refused : (line : List ℕ) (fault : PayloadFault) → payload line ≡ Err fault → refused (line ∷ []) ≡ 1
one_refused line fault is = ap (λ p. refused_by p + 0) is

pub ruleset lines_law = (one_line, no_line)

pub ruleset exporters_law = (goes_by_pipeline, exported_together, exported_in_none)

pub ruleset payloads_law = (each_counted, one_accepted, one_refused, exported_refused)
