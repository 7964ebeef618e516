-- Log records go without a pipeline only where a connector has no default.
use Rattle.std.proofs.Common.{◌≡◌, ◌∙◌, ℕ, suc, ◌+◌, List, [], ◌∷◌, length, Result, Ok, Err, refl, ap}
use Rattle.std.specs.Prelude.{◌≢◌}
use Rattle.conf_json.specs.Account.{Account}
use Rattle.conf_json.specs.declared.account.Note.{Note}
use Rattle.conf_json.specs.declared.settings.ProcessorSettings.{ProcessorSettings}
use Rattle.conf_json.specs.declared.settings.RouteSettings.{RouteSettings}
use Rattle.graph_build.specs.Conf.{Conf}
use Rattle.graph_build.specs.declared.leg.Leg.{Leg}
use Rattle.leg_model.specs.Course.{◌>>=◌, Course, Failure, after_connector, after_processor, by_connector, by_connectors, by_parts, by_processor, by_processors, ended, left_of, left_over, processed, start}
use Rattle.leg_model.specs.Facts.{HaveDefaults}
use Rattle.leg_model.specs.Legs.{Kind, gets, leg_outcome}
use Rattle.leg_model.specs.Parts.{Parts, parts_of}
use Rattle.pdata_tree.specs.Operations.{TreeOps}
use Rattle.pdata_tree.specs.declared.path.PathTo.{PathTo}
use Rattle.pdata_tree.specs.declared.place.Context.TheVariants.{Resource}
use Rattle.pdata_tree.specs.declared.place.Place.{Place}
use Rattle.routing_conn.specs.Meaning.{Routed, routed}

none_left_over : (names : List (List ℕ)) (rest : ℕ) → names ≢ [] → left_over names rest ≡ 0
none_left_over [] rest some = absurd (some refl)
none_left_over (n ∷ ns) rest some = refl

module _ {T : Type 0} (ops : TreeOps T PathTo) (group : List (List ℕ) → T → T) where
  -- none went without a pipeline
  abbrev NoneUnrouted : Result (Course T) Failure → Type 0
  NoneUnrouted (Ok c) = c.unrouted ≡ 0
  NoneUnrouted (Err f) = Unit {0}

  unrouted-more : (r : Result (Course T) Failure) (go : Course T → Result (Course T) Failure) → NoneUnrouted r
      → ((c : Course T) → c.unrouted ≡ 0 → NoneUnrouted (go c)) → NoneUnrouted (r >>= go)
  unrouted-more (Ok c) go here more = more c here
  unrouted-more (Err f) go here more = tt

  by_processor-none : (part : ℕ) (s : ProcessorSettings) (c : Course T) (r : Result (T × Account) Note) → c.unrouted ≡ 0
      → NoneUnrouted (after_processor ops group part s c r)
  by_processor-none part s c (Ok t) here = here
  by_processor-none part s c (Err note) here = tt

  by_processors-none : (part : ℕ) (ss : List ProcessorSettings) (c : Course T) → c.unrouted ≡ 0
      → NoneUnrouted (by_processors ops group part ss c)
  by_processors-none part [] c here = here
  by_processors-none part (s ∷ ss) c here =
      unrouted-more (by_processor ops group part s c) (by_processors ops group (suc part) ss)
      (by_processor-none part s c (processed ops group s c.tree c.account) here)
      (λ d there. by_processors-none (suc part) ss d there)

  by_connector-none : (part : ℕ) (s : RouteSettings) (c : Course T) (r : Result (Routed T × Account) Note)
      → s.default_pipelines ≢ [] → c.unrouted ≡ 0 → NoneUnrouted (after_connector ops group part s c r)
  by_connector-none part s c (Ok t) default here =
      ap (λ n. n + left_over s.default_pipelines (ops.records t.0.rest)) here
      ∙ ap (λ n. 0 + n) (none_left_over s.default_pipelines (ops.records t.0.rest) default)
  by_connector-none part s c (Err note) default here = tt

  by_connectors-none : (part : ℕ) (ss : List RouteSettings) (c : Course T) → HaveDefaults ss → c.unrouted ≡ 0
      → NoneUnrouted (by_connectors ops group part ss c)
  by_connectors-none part [] c defaults here = here
  by_connectors-none part (s ∷ ss) c defaults here =
      unrouted-more (by_connector ops group part s c) (by_connectors ops group (suc part) ss)
      (by_connector-none part s c (routed ops s c.tree c.account) defaults.0 here)
      (λ d there. by_connectors-none (suc part) ss d defaults.1 there)

  by_parts-none : (parts : Parts) (tree : T) → HaveDefaults parts.connectors
      → NoneUnrouted (by_parts ops group parts (start tree))
  by_parts-none parts tree defaults =
      unrouted-more (by_processors ops group 0 parts.processors (start tree))
      (by_connectors ops group (length parts.processors) parts.connectors)
      (by_processors-none 0 parts.processors (start tree) refl)
      (λ c here. by_connectors-none (length parts.processors) parts.connectors c defaults here)

  ended-none : (taken : ℕ) (r : Result (Course T) Failure) → NoneUnrouted r → (ended ops taken r).counts.unrouted ≡ 0
  ended-none taken (Ok c) here = here
  ended-none taken (Err f) here = refl

  left-none : (parts : Parts) (tree : T) (places : List Place) → HaveDefaults parts.connectors
      → (left_of ops group parts tree places).counts.unrouted ≡ 0
  left-none parts tree [] defaults = refl
  left-none parts tree (p ∷ ps) defaults =
      ended-none (ops.records tree) (by_parts ops group parts (start tree)) (by_parts-none parts tree defaults)

pub leg-unrouted : {T : Type 0} (kind : Kind T) (conf : Conf) (tree : T) (leg : Leg)
    → HaveDefaults (parts_of conf.meant leg.pipeline).connectors → (leg_outcome kind conf tree leg).counts.unrouted ≡ 0
leg-unrouted kind conf tree leg defaults =
    left-none kind.ops kind.group (parts_of conf.meant leg.pipeline) (gets kind conf tree (length conf.legs) leg)
    (kind.ops.targets (gets kind conf tree (length conf.legs) leg) Resource) defaults
