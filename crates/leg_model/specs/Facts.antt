-- What is said of what legs get, leave and count.
use Rattle.std.specs.Prelude.{◌≡◌, ◌≢◌, ◌<◌, ◌+◌, ℕ, false, List, [], ◌∷◌, length, slice_get}
use Rattle.std.specs.Prelude.{Option, Some, None, IsSome}
use Rattle.conf_draft.specs.References.{is_among}
use Rattle.conf_draft.specs.declared.draft.Pipeline.{Pipeline}
use Rattle.conf_json.specs.declared.settings.RouteSettings.{RouteSettings}
use Rattle.graph_build.specs.Conf.{Conf}
use Rattle.graph_build.specs.declared.leg.Leg.{Leg}
use Rattle.leg_model.specs.Course.{Outcome, no_counts}
use Rattle.leg_model.specs.Exports.{lines_left, logs}
use Rattle.leg_model.specs.Legs.{gets}
use Rattle.leg_model.specs.declared.LegCounts.{LegCounts}
use Rattle.pdata_tree.specs.Tree.{records}
use Rattle.pdata_tree.specs.declared.batch.Batch.{Batch}

-- each leg stands behind the one above it
abbrev pub ParentsFirst : List Leg → Type 0
ParentsFirst legs = (number parent : ℕ) (leg : Leg)
    → slice_get legs number ≡ Some leg → leg.parent ≡ Some parent → parent < number

-- what a leg gets of a payload's tree
abbrev pub entry : Conf → Batch → Leg → Batch
entry conf tree leg = gets logs conf tree (length conf.legs) leg

-- the log records of a tree, if there is one
abbrev pub records_left : Option Batch → ℕ
records_left None = 0
records_left (Some tree) = records tree

-- the log records that were taken are those that went out, were dropped or failed
abbrev pub AddUp : LegCounts → Type 0
AddUp c = c.taken ≡ c.out + c.filtered + c.failed

-- a leg left nothing, and counted nothing
pub record LeavesNothing (o : Outcome Batch) : Type 0 where
  pub line : lines_left o.tree ≡ []
  pub routed : o.routed ≡ []
  pub counts : o.counts ≡ no_counts
  pub notes : o.notes ≡ []
  pub fault : o.fault ≡ None

-- A leg failed with all that it got: it has a note of that, no line and nothing for other legs. Its
-- errors stay counted.
pub record FailsWhole (o : Outcome Batch) : Type 0 where
  pub fault : IsSome o.fault
  pub routed : o.routed ≡ []
  pub failed : o.counts.failed ≡ o.counts.taken
  pub out : o.counts.out ≡ 0
  pub filtered : o.counts.filtered ≡ 0
  pub unrouted : o.counts.unrouted ≡ 0

-- each of these pipelines has both exporters, or neither
abbrev pub StandTogether : List ℕ → List ℕ → List Pipeline → Type 0
StandTogether a b [] = Unit {0}
StandTogether a b (p ∷ ps) =
    (is_among a p.exporters ≡ is_among b p.exporters) × StandTogether a b ps

-- none of these pipelines has the exporter
abbrev pub StandsInNone : List ℕ → List Pipeline → Type 0
StandsInNone exporter [] = Unit {0}
StandsInNone exporter (p ∷ ps) =
    (is_among exporter p.exporters ≡ false) × StandsInNone exporter ps

-- each of these connectors has a default
abbrev pub HaveDefaults : List RouteSettings → Type 0
HaveDefaults [] = Unit {0}
HaveDefaults (s ∷ ss) = (s.default_pipelines ≢ []) × HaveDefaults ss
