-- A leg step by step, alone: with the legs above it at their end, and every other leg absent. The
-- first step takes the leg's tree, then each part does its steps, and the last one counts.
use Rattle.std.specs.Prelude.{◌≡◌, ◌<◌, ℕ, zero, suc, Bool, true, false, List, [], ◌∷◌, Result, Ok, Err}
use Rattle.conf_json.specs.declared.settings.FilterSettings.{FilterSettings}
use Rattle.conf_json.specs.declared.settings.Group.{Group}
use Rattle.conf_json.specs.declared.settings.GroupSettings.{GroupSettings}
use Rattle.conf_json.specs.declared.settings.ProcessorSettings.{ProcessorSettings}
use Rattle.conf_json.specs.declared.settings.ProcessorSettings.TheVariants.{Transform, Filter, GroupByAttrs}
use Rattle.conf_json.specs.declared.settings.RouteSettings.{RouteSettings}
use Rattle.conf_json.specs.declared.settings.TransformSettings.{TransformSettings}
use Rattle.filter_proc.specs.Steps as filter
use Rattle.graph_build.specs.Conf.{Conf}
use Rattle.graph_build.specs.declared.leg.Leg.{Leg}
use Rattle.leg_model.specs.Course.{◌>>=◌, Course, Failure, Outcome, after_connector, after_processor}
use Rattle.leg_model.specs.Course.{by_connector, by_connectors, by_processor, ended, outcome, start, untouched}
use Rattle.leg_model.specs.Exports.{logs}
use Rattle.leg_model.specs.Facts.{entry}
use Rattle.leg_model.specs.Parts.{Parts, parts_of}
use Rattle.pdata_tree.specs.Operations.{TreeOps}
use Rattle.pdata_tree.specs.declared.batch.Batch.{Batch}
use Rattle.pdata_tree.specs.declared.path.PathTo.{PathTo}
use Rattle.pdata_tree.specs.declared.place.Context.TheVariants.{Resource}
use Rattle.pdata_tree.specs.declared.place.Place.{Place}
use Rattle.proc_targets.specs.Stepping.{Stepped, On, End, Fail}
use Rattle.routing_conn.specs.Meaning.{routed}
use Rattle.transform_proc.specs.Steps as transform

-- Where a leg stands in its pipeline: the log records that it took, the number of the part that it
-- is at, and the parts behind that one.
pub record Standing : Type 0 where
  pub taken : ℕ
  pub part : ℕ
  pub processors : List ProcessorSettings
  pub connectors : List RouteSettings

-- What a leg holds between two steps. At a processor the tree and the account are those of its run.
pub data LegState (T : Type 0) : Type 0 where
  -- no step is done, and this is what the leg gets
  entering : T → LegState T
  -- a part isn't finished; the course is that before it
  transforming : TransformSettings → transform.State T → Course T → Standing → LegState T
  filtering : FilterSettings → filter.State T → Course T → Standing → LegState T
  grouping : GroupSettings → Course T → Standing → LegState T
  routing : RouteSettings → Course T → Standing → LegState T
  -- all parts are finished, and the last step isn't done
  ending : ℕ → Course T → LegState T
  -- the leg is at its end
  over : Outcome T → LegState T

-- one of two, by whether there is a group
abbrev pub by_groups : {X : Type 0} → List Group → X → X → X
by_groups [] none some = none
by_groups (g ∷ gs) none some = some

module _ {T : Type 0} (ops : TreeOps T PathTo) (group : List (List ℕ) → T → T) where
  -- before the connectors, the first of which has that number
  abbrev pub at_connectors : ℕ → ℕ → List RouteSettings → Course T → LegState T
  at_connectors taken part [] c = ending taken c
  at_connectors taken part (s ∷ ss) c =
      routing s c (record { taken = taken; part = part; processors = []; connectors = ss })

  -- Before the processors, the first of which has that number. A transform processor without groups
  -- has no steps, and is passed over.
  abbrev pub at_processors :
      ℕ → ℕ → List ProcessorSettings → List RouteSettings → Course T → LegState T
  at_processors taken part [] cs c = at_connectors taken part cs c
  at_processors taken part (Transform s ∷ ss) cs c =
      by_groups s.log_statements (at_processors taken (suc part) ss cs c)
      (transforming s (transform.state_of ops s.log_statements c.tree c.account) c
      (record { taken = taken; part = part; processors = ss; connectors = cs }))
  at_processors taken part (Filter s ∷ ss) cs c =
      filtering s (filter.state_of ops c.tree c.account) c
      (record { taken = taken; part = part; processors = ss; connectors = cs })
  at_processors taken part (GroupByAttrs s ∷ ss) cs c =
      grouping s c (record { taken = taken; part = part; processors = ss; connectors = cs })

  -- behind a part that came to this; a failure is the end
  abbrev pub behind : Standing → Result (Course T) Failure → LegState T
  behind at (Ok c) = at_processors at.taken (suc at.part) at.processors at.connectors c
  behind at (Err f) = over (ended ops at.taken (Err f))

  -- a leg with those parts that got a tree, whose resources stand there
  abbrev pub entered : Parts → T → List Place → LegState T
  entered parts tree [] = over (untouched tree)
  entered parts tree (p ∷ ps) =
      at_processors (ops.records tree) 0 parts.processors parts.connectors (start tree)

  -- what a step of a transform processor came to
  abbrev pub transform_came :
      TransformSettings → Course T → Standing → Stepped (transform.State T) → LegState T
  transform_came s c at (On run) = transforming s run c at
  transform_came s c at (End run) =
      behind at (after_processor ops group at.part (Transform s) c (Ok (run.tree, run.account)))
  transform_came s c at (Fail run note) =
      behind at (after_processor ops group at.part (Transform s) c (Err note))

  -- what a step of a filter processor came to
  abbrev pub filter_came :
      FilterSettings → Course T → Standing → Stepped (filter.State T) → LegState T
  filter_came s c at (On run) = filtering s run c at
  filter_came s c at (End run) =
      behind at (after_processor ops group at.part (Filter s) c (Ok (run.tree, run.account)))
  filter_came s c at (Fail run note) =
      behind at (after_processor ops group at.part (Filter s) c (Err note))

  -- a step of a leg with those parts; at its end it stays
  abbrev pub leg_step : Parts → LegState T → LegState T
  leg_step parts (entering tree) = entered parts tree (ops.targets tree Resource)
  leg_step parts (transforming s run c at) =
      transform_came s c at (transform.transform_step ops s.error_mode run)
  leg_step parts (filtering s run c at) = filter_came s c at (filter.filter_step ops s run)
  leg_step parts (grouping s c at) =
      behind at
      (after_processor ops group at.part (GroupByAttrs s) c (Ok (group s.keys c.tree, c.account)))
  leg_step parts (routing s c at) =
      behind at (after_connector ops group at.part s c (routed ops s c.tree c.account))
  leg_step parts (ending taken c) = over (ended ops taken (Ok c))
  leg_step parts (over o) = over o

  -- so many steps
  abbrev pub leg_steps : Parts → ℕ → LegState T → LegState T
  leg_steps parts zero s = s
  leg_steps parts (suc k) s = leg_steps parts k (leg_step parts s)

  -- What the steps come to.

  -- what processors, the first of them with that number, and connectors make of a course
  abbrev pub by_all :
      ℕ → List ProcessorSettings → List RouteSettings → Course T → Result (Course T) Failure
  by_all part [] cs c = by_connectors ops group part cs c
  by_all part (s ∷ ss) cs c = by_processor ops group part s c >>= by_all (suc part) ss cs

  -- how a leg ends whose part came to this, with all behind it
  abbrev pub finished : Standing → Result (Course T) Failure → Outcome T
  finished at r = ended ops at.taken (r >>= by_all (suc at.part) at.processors at.connectors)

  -- what a leg with those parts leaves when all that is left is done
  abbrev pub rest_of : Parts → LegState T → Outcome T
  rest_of parts (entering tree) = outcome ops group parts tree
  rest_of parts (transforming s run c at) =
      finished at (after_processor ops group at.part (Transform s) c
      (transform.rest_of ops s.error_mode run))
  rest_of parts (filtering s run c at) =
      finished at (after_processor ops group at.part (Filter s) c (filter.rest_of ops s run))
  rest_of parts (grouping s c at) =
      finished at (by_processor ops group at.part (GroupByAttrs s) c)
  rest_of parts (routing s c at) = finished at (by_connector ops group at.part s c)
  rest_of parts (ending taken c) = ended ops taken (Ok c)
  rest_of parts (over o) = o

-- the leg is at its end
abbrev pub is_over : {T : Type 0} → LegState T → Bool
is_over (over o) = true
is_over _ = false

-- the parts of a leg
abbrev pub parts_on : Conf → Leg → Parts
parts_on conf leg = parts_of conf.meant leg.pipeline

-- what a leg alone holds after so many steps on a payload's tree
abbrev pub state_alone : Conf → Batch → Leg → ℕ → LegState Batch
state_alone conf tree leg k =
    leg_steps logs.ops logs.group (parts_on conf leg) k (entering (entry conf tree leg))

-- how many steps a leg has: the first number after which it is at its end
pub record IsLength (conf : Conf) (tree : Batch) (leg : Leg) (steps : ℕ) : Type 0 where
  pub ends : is_over (state_alone conf tree leg steps) ≡ true
  pub before : (k : ℕ) → k < steps → is_over (state_alone conf tree leg k) ≡ false
