-- The configuration of a plan's legs.
use Rattle.leg_model.specs.Facts.{ParentsFirst}
use Rattle.std.specs.Prelude.{◌≡◌, Result, Ok}
use Rattle.conf_json.specs.declared.fault.ConfFault.{ConfFault}
use Rattle.graph_build.specs.Conf.{Conf}
use Rattle.plain_legs.specs.Views.{meant_by, HaveParts}
use Rattle.plain_legs.specs.declared.plan.LegPlan.{LegPlan}

-- what is spelled, and its legs
abbrev pub conf_in : LegPlan → Conf
conf_in plan = record { meant = meant_by plan.draft.now plan.planned.now; legs = plan.legs.now }

-- the parts are those of the legs' pipelines, and each leg stands behind the one above it
pub record Fits (plan : LegPlan) : Type 0 where
  pub parts : HaveParts (meant_by plan.draft.now plan.planned.now) plan.legs.now plan.parts
  pub order : ParentsFirst plan.legs.now

-- it is the plan of a configuration that has no fault
pub record IsPlanOf (conf : Result Conf ConfFault) (plan : LegPlan) : Type 0 where
  pub is : conf ≡ Ok (conf_in plan)
  pub fits : Fits plan
