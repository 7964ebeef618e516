-- The legs of a configuration.
use Rattle.std.specs.Prelude.{ℕ, zero, suc, ◌+◌, Bool, true, false, List, [], ◌∷◌, ◌++◌, length, Option, Some, None, if◌then◌else◌}
use Rattle.std.specs.List.{list_any}
use Rattle.conf_draft.specs.declared.draft.Draft.{Draft}
use Rattle.conf_draft.specs.declared.draft.Pipeline.{Pipeline}
use Rattle.conf_draft.specs.References.{is_among}
use Rattle.graph_build.specs.declared.exits.Exit.{Exit}
use Rattle.graph_build.specs.declared.leg.Leg.{Leg}
use Rattle.graph_build.specs.Exits.{pipeline_named, exits_of}

-- how many legs there may be
abbrev pub max_legs : ℕ
max_legs = 16

-- there is a name
abbrev pub is_filled : List (List ℕ) → Bool
is_filled [] = false
is_filled (name ∷ names) = true

-- a pipeline mutates exactly where it has a processor
abbrev pub mutates : Option Pipeline → Bool
mutates None = false
mutates (Some p) = is_filled p.processors

-- the leg of a pipeline that has the file receiver
abbrev pub root_leg : Draft → List ℕ → Leg
root_leg draft name = record {
  parent = None;
  connector = None;
  row = None;
  pipeline = name;
  mutates = mutates (pipeline_named name draft.pipelines);
}

-- the leg behind a way out of its parent
abbrev pub child_leg : Draft → ℕ → Exit → Leg
child_leg draft parent exit = record {
  parent = Some parent;
  connector = Some exit.connector;
  row = exit.row;
  pipeline = exit.pipeline;
  mutates = mutates (pipeline_named exit.pipeline draft.pipelines);
}

-- the children behind those ways and all legs below them; the first child has the number `next`
abbrev pub children : Draft → (ℕ → Leg → List Leg) → ℕ → ℕ → List Exit → List Leg
children draft below parent next [] = []
children draft below parent next (exit ∷ exits) =
    below next (child_leg draft parent exit)
    ++ children draft below parent (next + length (below next (child_leg draft parent exit))) exits

-- a leg with that number and all legs below it, so many levels deep
abbrev pub legs_below : Draft → ℕ → ℕ → Leg → List Leg
legs_below draft zero number leg = []
legs_below draft (suc levels) number leg =
    leg ∷ children draft (legs_below draft levels) number (suc number) (exits_of draft leg.pipeline)

-- a pipeline that has the file receiver
abbrev pub is_root : Draft → Pipeline → Bool
is_root draft p = list_any (λ name. is_among name draft.receivers) p.receivers

-- a root leg with that number and all legs below it, where the pipeline is a root; looked for one
-- level deeper than there may be legs
abbrev pub legs_of_root : Draft → ℕ → Pipeline → List Leg
legs_of_root draft number p =
    if is_root draft p then legs_below draft (suc max_legs) number (root_leg draft p.name) else []

-- the legs that begin at these pipelines, from that number on
abbrev pub legs_from : Draft → ℕ → List Pipeline → List Leg
legs_from draft next [] = []
legs_from draft next (p ∷ ps) =
    legs_of_root draft next p ++ legs_from draft (next + length (legs_of_root draft next p)) ps

-- all legs
abbrev pub all_legs : Draft → List Leg
all_legs draft = legs_from draft 0 draft.pipelines
