-- What a leg gets of a payload's tree, by the legs above it, and what it leaves.
use Rattle.std.specs.Prelude.{ℕ, zero, suc, List, length, Option, Some, None, slice_get, unwrap_or}
use Rattle.graph_build.specs.Conf.{Conf}
use Rattle.graph_build.specs.declared.leg.Leg.{Leg}
use Rattle.leg_model.specs.Course.{Outcome, outcome}
use Rattle.leg_model.specs.Parts.{parts_of}
use Rattle.pdata_tree.specs.Operations.{TreeOps}
use Rattle.pdata_tree.specs.Places.{within}
use Rattle.pdata_tree.specs.declared.path.PathTo.{PathTo}
use Rattle.routing_conn.specs.Meaning.{Routed}

-- A kind of tree: its operations, how its log records are grouped, and the empty tree.
pub record Kind (T : Type 0) : Type 0 where
  pub ops : TreeOps T PathTo
  pub group : List (List ℕ) → T → T
  pub empty : T

-- the tree that a connector routed to a row, or to the default
abbrev pub routed_to : {T : Type 0} → Option ℕ → Routed T → Option T
routed_to None r = Some r.rest
routed_to (Some row) r = slice_get r.rows row

-- the leg above
abbrev pub parent_of : List Leg → Leg → Option Leg
parent_of legs leg = within (slice_get legs) leg.parent

module _ {T : Type 0} (kind : Kind T) where
  -- what the leg above, which ended so, hands to a leg: nothing where it failed
  abbrev pub handed : Leg → Outcome T → T
  handed leg o =
      unwrap_or (within (routed_to leg.row) (within (slice_get o.routed) leg.connector)) kind.empty

  -- what a leg leaves of the tree that it gets
  abbrev pub leaves : Conf → Leg → T → Outcome T
  leaves conf leg tree = outcome kind.ops kind.group (parts_of conf.meant leg.pipeline) tree

  -- what a leg gets, if it has a leg above it
  abbrev pub below : Leg → (Leg → Outcome T) → Option Leg → T → T
  below leg leaves_of None tree = tree
  below leg leaves_of (Some parent) tree = handed leg (leaves_of parent)

  -- What a leg gets of a payload's tree, with at most so many legs above it: a root the tree
  -- itself, another leg what the leg above it hands to it.
  abbrev pub gets : Conf → T → ℕ → Leg → T
  gets conf tree zero leg = tree
  gets conf tree (suc above) leg =
      below leg (λ parent. leaves conf parent (gets conf tree above parent))
      (parent_of conf.legs leg) tree

  -- what a leg leaves of a payload's tree
  abbrev pub leg_outcome : Conf → T → Leg → Outcome T
  leg_outcome conf tree leg = leaves conf leg (gets conf tree (length conf.legs) leg)
