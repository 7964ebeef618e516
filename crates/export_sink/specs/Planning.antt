-- What a run needs of a plan.
use Rattle.std.specs.Prelude.{◌≡◌, Result, Ok}
use Rattle.conf_json.specs.declared.fault.ConfFault.{ConfFault}
use Rattle.export_sink.specs.Plans.{ways_in}
use Rattle.export_sink.specs.declared.run_plan.RunPlan.{RunPlan}
use Rattle.graph_build.specs.Conf.{Conf}
use Rattle.plain_legs.specs.Plans as legs
use Rattle.plain_legs.specs.Plans.{Fits}

-- the configuration
abbrev pub conf_in : RunPlan → Conf
conf_in plan = legs.conf_in plan.legs

-- what it holds beside the legs is right
pub record RunFits (plan : RunPlan) : Type 0 where
  pub legs : Fits plan.legs
  pub ways : plan.ways ≡ ways_in plan.legs.draft.now plan.legs.legs.now

-- it is what a run needs of a configuration that has no fault
pub record IsRunOf (conf : Result Conf ConfFault) (plan : RunPlan) : Type 0 where
  pub is : conf ≡ Ok (conf_in plan)
  pub fits : RunFits plan
