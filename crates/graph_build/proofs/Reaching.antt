-- One step more, as truths about pipelines.
use Rattle.std.proofs.Common.{◌≡◌, ℕ, zero, suc, ◌+◌, Bool, false, ◌&&◌, ◌||◌, List, [], ◌∷◌, length, Some, slice_get, refl, ap, ◌∙◌, add-one}
use Rattle.std.specs.Prelude.{unwrap_or}
use Rattle.std.specs.List.{list_any}
use Rattle.std.specs.Str.{bytes_eq}
use Rattle.conf_draft.specs.declared.draft.Draft.{Draft}
use Rattle.conf_draft.specs.declared.draft.Pipeline.{Pipeline}
use Rattle.graph_build.specs.declared.exits.Exit.{Exit}
use Rattle.graph_build.specs.Exits.{exits_of, leads_to}
use Rattle.graph_build.specs.Cycles.{reaches, is_on_cycle}
use Rattle.graph_build.specs.Reach.{targets_in, rows_in, named_in, reach_in}
use Rattle.graph_build.specs.Tables.{meets, next_truths}

-- truths of the same pipelines meet where they do for one of them
pub meets-in : (draft : Draft) (steps : ℕ) (exits : List Exit) (name : List ℕ) (ps : List Pipeline)
    → meets (targets_in exits ps) (named_in name ps) (reach_in draft steps name ps)
    ≡ list_any (λ p. leads_to exits p.name && (bytes_eq name p.name || reaches draft steps p.name name)) ps
meets-in draft steps exits name [] = refl
meets-in draft steps exits name (p ∷ ps) =
    ap (λ rest. (leads_to exits p.name && (bytes_eq name p.name || reaches draft steps p.name name)) || rest) (meets-in draft steps exits name ps)

-- from the truths of so many steps to those of one more
pub reach_in-suc : (draft : Draft) (steps : ℕ) (name : List ℕ) (ps : List Pipeline)
    → next_truths (rows_in draft ps) (named_in name draft.pipelines) (reach_in draft steps name draft.pipelines)
    ≡ reach_in draft (suc steps) name ps
reach_in-suc draft steps name [] = refl
reach_in-suc draft steps name (p ∷ ps) =
    rw (meets-in draft steps (exits_of draft p.name) name draft.pipelines, reach_in-suc draft steps name ps) refl

pub one_step_more : (draft : Draft) (steps : ℕ) (name : List ℕ) (rows : List (List Bool)) (target flags next : List Bool)
    → rows ≡ rows_in draft draft.pipelines → target ≡ named_in name draft.pipelines
    → flags ≡ reach_in draft steps name draft.pipelines → next ≡ next_truths rows target flags
    → next ≡ reach_in draft (steps + 1) name draft.pipelines
one_step_more draft steps name rows target flags next e f g h =
    h ∙ rw (e, f, g, add-one) (reach_in-suc draft steps name draft.pipelines)

pub truth-in : (draft : Draft) (steps : ℕ) (name : List ℕ) (ps : List Pipeline) (index : ℕ) (p : Pipeline) → slice_get ps index ≡ Some p
    → unwrap_or (slice_get (reach_in draft steps name ps) index) false ≡ reaches draft steps p.name name
truth-in draft steps name [] index p e = cc
truth-in draft steps name (q ∷ ps) zero p e = cc
truth-in draft steps name (q ∷ ps) (suc index) p e = truth-in draft steps name ps index p e

-- the truth of a pipeline stands at its place
pub truth_there : (draft : Draft) (flags : List Bool) (index : ℕ) (p : Pipeline)
    → flags ≡ reach_in draft (length draft.pipelines) p.name draft.pipelines → slice_get draft.pipelines index ≡ Some p
    → unwrap_or (slice_get flags index) false ≡ is_on_cycle draft p.name
truth_there draft flags index p e h = rw e (truth-in draft (length draft.pipelines) p.name draft.pipelines index p h)
