-- Steps of a leg come to an end.
use Rattle.std.proofs.Common.{◌≡◌, ◌∙◌, ◌+◌, ◌<◌, ℕ, zero, suc, Bool, true, false, not, List, [], ◌∷◌, Result, Ok, Err, refl, sym, ap, subst, arith}
use Rattle.conf_json.specs.Account.{Account}
use Rattle.conf_json.specs.declared.account.Note.{Note}
use Rattle.conf_json.specs.declared.account.Part.TheVariants.{GroupCondition, Statement}
use Rattle.conf_json.specs.declared.settings.FilterSettings.{FilterSettings}
use Rattle.conf_json.specs.declared.settings.Group.{Group}
use Rattle.conf_json.specs.declared.settings.ProcessorSettings.{ProcessorSettings}
use Rattle.conf_json.specs.declared.settings.ProcessorSettings.TheVariants.{Transform, Filter, GroupByAttrs}
use Rattle.conf_json.specs.declared.settings.RouteSettings.{RouteSettings}
use Rattle.conf_json.specs.declared.settings.TransformSettings.{TransformSettings}
use Rattle.filter_proc.specs.Meaning.{dropped}
use Rattle.filter_proc.specs.Steps as filter
use Rattle.graph_build.specs.Conf.{Conf}
use Rattle.graph_build.specs.declared.leg.Leg.{Leg}
use Rattle.leg_model.proofs.Stepping.{rest-step, rest-steps}
use Rattle.leg_model.specs.Course.{Course, Failure, Outcome, after_connector, after_processor, ended, outcome, start}
use Rattle.leg_model.specs.Exports.{logs}
use Rattle.leg_model.specs.Facts.{entry}
use Rattle.leg_model.specs.Legs.{leg_outcome}
use Rattle.leg_model.specs.Parts.{Parts}
use Rattle.leg_model.specs.Steps.{IsLength, LegState, Standing, at_connectors, at_processors, behind, by_groups, entered, entering, ending, filter_came, filtering, grouping, is_over, leg_step, leg_steps, over, parts_on, rest_of, routing, state_alone, transform_came, transforming}
use Rattle.ottl_eval.specs.Stages.{Stage, stage}
use Rattle.ottl_plan.specs.declared.planned.PlannedStatement.{PlannedStatement}
use Rattle.pdata_tree.specs.Operations.{TreeOps}
use Rattle.pdata_tree.specs.declared.batch.Batch.{Batch}
use Rattle.pdata_tree.specs.declared.path.PathTo.{PathTo}
use Rattle.pdata_tree.specs.declared.place.Context.TheVariants.{Resource}
use Rattle.pdata_tree.specs.declared.place.Place.{Place}
use Rattle.pdata_value.specs.declared.pairs.Pairs.{Pairs}
use Rattle.proc_targets.specs.Judging.{no_pairs}
use Rattle.proc_targets.specs.Stepping.{Stepped, End, Fail}
use Rattle.routing_conn.specs.Meaning.{routed}
use Rattle.transform_proc.specs.Meaning.{spot_of, statement_run, taken}
use Rattle.transform_proc.specs.Steps as transform
use Rattle.transform_proc.specs.Steps.{Here, Work, judging, running}

module _ {T : Type 0} (ops : TreeOps T PathTo) (group : List (List ℕ) → T → T) (parts : Parts) where
  -- some number of steps comes to an end
  abbrev Ends : LegState T → Type 0
  Ends s = (n : ℕ) × (o : Outcome T) × (leg_steps ops group parts n s ≡ over o)

  ends-next : (s : LegState T) → Ends (leg_step ops group parts s) → Ends s
  ends-next s e = (suc e.0, e.1, e.2)

  -- it does behind a part
  abbrev EndsBehind : Standing → Type 0
  EndsBehind at = (c : Course T) → Ends (at_processors ops group at.taken (suc at.part) at.processors at.connectors c)

  behind-ends : (at : Standing) (r : Result (Course T) Failure) → EndsBehind at → Ends (behind ops group at r)
  behind-ends at (Ok c) next = next c
  behind-ends at (Err f) next = (0, ended ops at.taken (Err f), refl)

  connectors-end : (taken part : ℕ) (cs : List RouteSettings) (c : Course T) → Ends (at_connectors ops group taken part cs c)
  connectors-end taken part [] c = (1, ended ops taken (Ok c), refl)
  connectors-end taken part (s ∷ ss) c =
      ends-next (routing s c (record { taken = taken; part = part; processors = []; connectors = ss }))
      (behind-ends (record { taken = taken; part = part; processors = []; connectors = ss })
      (after_connector ops group part s c (routed ops s c.tree c.account)) (λ d. connectors-end taken (suc part) ss d))

  -- Filter.

  module _ (s : FilterSettings) (c : Course T) (at : Standing) (next : EndsBehind at) where
    abbrev FilterEnds : Stepped (filter.State T) → Type 0
    FilterEnds came = Ends (filter_came ops group s c at came)

    filter-judged : (run : filter.State T) (ps : List Place) (r : Result (Bool × Account) Note)
        → ((u : filter.State T) → u.cursor.targets ≡ ps → Ends (filtering s u c at))
        → Ends (filter_came ops group s c at (filter.judged ops run ps r))
    filter-judged run ps (Ok t) more = more (filter.record_ended run (not t.0) ps t.1) refl
    filter-judged run ps (Err note) more = behind-ends at (after_processor ops group at.part (Filter s) c (Err note)) next

    filter-ends : (ps : List Place) (run : filter.State T) → run.cursor.targets ≡ ps → Ends (filtering s run c at)
    filter-ends [] run is =
        ends-next (filtering s run c at)
        (subst (λ (xs : List Place). Ends (filter_came ops group s c at (filter.targets_step ops s (filter.stepped_one run) xs))) (sym is)
        (behind-ends at (after_processor ops group at.part (Filter s) c (Ok (ops.kept run.cursor.flags run.tree, run.account))) next))
    filter-ends (p ∷ ps) run is =
        ends-next (filtering s run c at)
        (subst (λ (xs : List Place). Ends (filter_came ops group s c at (filter.targets_step ops s (filter.stepped_one run) xs))) (sym is)
        (filter-judged (filter.stepped_one run) ps (dropped ops s run.tree p run.account) (λ u there. filter-ends ps u there)))

  -- Transform.

  module _ (s : TransformSettings) (c : Course T) (at : Standing) (next : EndsBehind at) where
    -- a step that came to this comes to an end
    abbrev Came : Stepped (transform.State T) → Type 0
    Came came = Ends (transform_came ops group s c at came)

    -- what is done on groups, where these are left
    abbrev Groups : List Group → Type 0
    Groups gs = (run : transform.State T) → run.cursor.groups ≡ gs → Ends (transforming s run c at)

    ended-came : (run : transform.State T) → Came (End run)
    ended-came run =
        behind-ends at (after_processor ops group at.part (Transform s) c (Ok (run.tree, run.account))) next

    failed-came : (run : transform.State T) (note : Note) → Came (Fail run note)
    failed-came run note = behind-ends at (after_processor ops group at.part (Transform s) c (Err note)) next

    transform-next : (run : transform.State T) → Came (transform.transform_step ops s.error_mode run)
        → Ends (transforming s run c at)
    transform-next run came = ends-next (transforming s run c at) came

    group-came : (gs : List Group) → Groups gs → (run : transform.State T) → Came (transform.next_group ops run gs)
    group-came [] others run = ended-came (transform.with_groups run (suc run.cursor.number) [] [] judging)
    group-came (g ∷ gs) others run =
        others (transform.with_groups run (suc run.cursor.number) (g ∷ gs) (ops.targets run.tree g.context) (transform.first_work g)) refl

    module _ (g : Group) (gs : List Group) (others : Groups gs) where
      -- what is done on targets, where these are left
      abbrev Targets : List Place → Type 0
      Targets ps = (run : transform.State T) → Came (transform.targets_step ops s.error_mode run g gs ps)

      target-came : (ps : List Place) → Targets ps → (run : transform.State T) → Came (transform.next_target ops run g gs ps)
      target-came [] more run = group-came gs others (transform.ended_one run)
      target-came (p ∷ ps) more run =
          transform-next
          (transform.with_groups (transform.ended_one run) run.cursor.number (g ∷ gs) (p ∷ ps) (transform.first_work g))
          (more (transform.stepped_one
          (transform.with_groups (transform.ended_one run) run.cursor.number (g ∷ gs) (p ∷ ps) (transform.first_work g))))

      module _ (h : Here) (more : (run : transform.State T) → Came (transform.next_target ops run h.group h.groups h.places))
          (back : (run : transform.State T) (work : Work)
          → Came (transform.target_step ops s.error_mode (transform.stepped_one (transform.at_work run h work)) h work)
          → Ends (transforming s (transform.at_work run h work) c at)) where
        -- what is done with statements, where these are left
        abbrev Statements : List PlannedStatement → Type 0
        Statements xs = (index : ℕ) (cache : Pairs) (run : transform.State T)
            → Came (transform.target_step ops s.error_mode run h (running index xs cache))

        left-came : (xs : List PlannedStatement) → Statements xs → (index : ℕ) (cache : Pairs) (run : transform.State T)
            → Came (transform.left_on ops run h (running index xs cache))
        left-came [] steps index cache run = more run
        left-came (x ∷ xs) steps index cache run =
            back run (running index (x ∷ xs) cache)
            (steps index cache (transform.stepped_one (transform.at_work run h (running index (x ∷ xs) cache))))

        ran-came : (xs : List PlannedStatement) → Statements xs → (index : ℕ) (run : transform.State T)
            (r : Result (Stage T × Account) Note) → Came (transform.ran_one ops run h index xs r)
        ran-came xs steps index run (Ok t) = left-came xs steps index t.0.cache (record run { tree = t.0.tree; account = t.1 })
        ran-came xs steps index run (Err note) = failed-came run note

        statements-came : (xs : List PlannedStatement) → Statements xs
        statements-came [] index cache run = more run
        statements-came (x ∷ xs) index cache run =
            ran-came xs (statements-came xs) (suc index) run
            (statement_run ops (spot_of (transform.turn s.error_mode run.cursor h.group) Statement h.place) index x
            (stage run.tree h.group.context h.place cache) run.account)

        judged-came : (run : transform.State T) (r : Result (Bool × Account) Note) → Came (transform.judged ops run h r)
        judged-came run (Ok (true, account)) =
            left-came h.group.statements (statements-came h.group.statements) 0 no_pairs (record run { account = account })
        judged-came run (Ok (false, account)) = more (record run { account = account })
        judged-came run (Err note) = failed-came run note

        work-came : (work : Work) (run : transform.State T) → Came (transform.target_step ops s.error_mode run h work)
        work-came judging run =
            judged-came run (taken ops (spot_of (transform.turn s.error_mode run.cursor h.group) GroupCondition h.place)
            h.group.conditions (stage run.tree h.group.context h.place no_pairs) run.account)
        work-came (running index xs cache) run = statements-came xs index cache run

      targets-came : (ps : List Place) → Targets ps
      targets-came [] run = group-came gs others run
      targets-came (p ∷ ps) run =
          work-came (record { group = g; groups = gs; place = p; places = ps }) (target-came ps (targets-came ps))
          (λ u work came. transform-next (transform.at_work u (record { group = g; groups = gs; place = p; places = ps }) work) came)
          run.cursor.work run

    groups-end : (gs : List Group) → Groups gs
    groups-end [] run is =
        transform-next run
        (subst (λ (xs : List Group). Came (transform.groups_step ops s.error_mode (transform.stepped_one run) xs)) (sym is)
        (ended-came (transform.stepped_one run)))
    groups-end (g ∷ gs) run is =
        transform-next run
        (subst (λ (xs : List Group). Came (transform.groups_step ops s.error_mode (transform.stepped_one run) xs)) (sym is)
        (targets-came g gs (groups-end gs) run.cursor.targets (transform.stepped_one run)))

    by_groups-ends : (gs : List Group) (none some : LegState T) → Ends none → Ends some → Ends (by_groups gs none some)
    by_groups-ends [] none some first second = first
    by_groups-ends (g ∷ gs) none some first second = second

  -- All parts.

  processors-end : (taken part : ℕ) (ss : List ProcessorSettings) (cs : List RouteSettings) (c : Course T)
      → Ends (at_processors ops group taken part ss cs c)
  processors-end taken part [] cs c = connectors-end taken part cs c
  processors-end taken part (Transform s ∷ ss) cs c =
      let at : Standing = record { taken = taken; part = part; processors = ss; connectors = cs } in
      let run : transform.State T = transform.state_of ops s.log_statements c.tree c.account in
      by_groups-ends s c at (λ d. processors-end taken (suc part) ss cs d) s.log_statements
      (at_processors ops group taken (suc part) ss cs c) (transforming s run c at)
      (processors-end taken (suc part) ss cs c)
      (groups-end s c at (λ d. processors-end taken (suc part) ss cs d) run.cursor.groups run refl)
  processors-end taken part (Filter s ∷ ss) cs c =
      let at : Standing = record { taken = taken; part = part; processors = ss; connectors = cs } in
      let run : filter.State T = filter.state_of ops c.tree c.account in
      filter-ends s c at (λ d. processors-end taken (suc part) ss cs d) run.cursor.targets run refl
  processors-end taken part (GroupByAttrs s ∷ ss) cs c =
      let at : Standing = record { taken = taken; part = part; processors = ss; connectors = cs } in
      ends-next (grouping s c at)
      (behind-ends at (after_processor ops group part (GroupByAttrs s) c (Ok (group s.keys c.tree, c.account)))
      (λ d. processors-end taken (suc part) ss cs d))

  entered-ends : (tree : T) (places : List Place) → Ends (entered ops group parts tree places)
  entered-ends tree [] = (0, _, refl)
  entered-ends tree (p ∷ ps) = processors-end (ops.records tree) 0 parts.processors parts.connectors (start tree)

  leg-ends : (tree : T) → Ends (entering tree)
  leg-ends tree = ends-next (entering tree) (entered-ends tree (ops.targets tree Resource))

  -- At its end a leg stays.

  over-stays : (k : ℕ) (o : Outcome T) → leg_steps ops group parts k (over o) ≡ over o
  over-stays zero o = refl
  over-stays (suc k) o = over-stays k o

  suc-add : (n m : ℕ) → suc n + m ≡ suc (n + m)
  suc-add n m = omega arith

  zero-add : (m : ℕ) → 0 + m ≡ m
  zero-add m = omega arith

  pub steps-add : (n m : ℕ) (s : LegState T)
      → leg_steps ops group parts (n + m) s ≡ leg_steps ops group parts m (leg_steps ops group parts n s)
  steps-add zero m s = ap (λ k. leg_steps ops group parts k s) (zero-add m)
  steps-add (suc n) m s =
      ap (λ k. leg_steps ops group parts k s) (suc-add n m) ∙ steps-add n m (leg_step ops group parts s)

  -- what it is at the end is what was meant
  end-is : (tree : T) (n : ℕ) (o : Outcome T) → leg_steps ops group parts n (entering tree) ≡ over o
      → o ≡ outcome ops group parts tree
  end-is tree n o is =
      sym (ap (rest_of ops group parts) is) ∙ rest-steps ops group parts n (entering tree)

  pub stays_at_end : (tree : T) (n : ℕ) (o : Outcome T) → leg_steps ops group parts n (entering tree) ≡ over o
      → (more : ℕ) → leg_steps ops group parts (n + more) (entering tree) ≡ over (outcome ops group parts tree)
  stays_at_end tree n o is more =
      steps-add n more (entering tree) ∙ ap (leg_steps ops group parts more) is ∙ over-stays more o
      ∙ ap over (end-is tree n o is)

-- each step leaves what was meant before it
pub step_leaves : (conf : Conf) (leg : Leg) (s : LegState Batch)
    → rest_of logs.ops logs.group (parts_on conf leg) (leg_step logs.ops logs.group (parts_on conf leg) s)
    ≡ rest_of logs.ops logs.group (parts_on conf leg) s
step_leaves conf leg s = rest-step logs.ops logs.group (parts_on conf leg) s

-- The number of steps of a leg.

pub over_or_not : {T : Type 0} (s : LegState T) → is_over s ≡ true → (o : Outcome T) × (s ≡ over o)
over_or_not (over o) is = (o, refl)
over_or_not (entering tree) is = absurd cc
over_or_not (transforming s run c at) is = absurd cc
over_or_not (filtering s run c at) is = absurd cc
over_or_not (grouping s c at) is = absurd cc
over_or_not (routing s c at) is = absurd cc
over_or_not (ending taken c) is = absurd cc

-- the first of some numbers that has a truth
abbrev pub IsFirst : (ℕ → Bool) → ℕ → Type 0
IsFirst f n = (f n ≡ true) × ((k : ℕ) → k < n → f k ≡ false)

first_on : (t : Bool) (f : ℕ → Bool) → f 0 ≡ t → ((n : ℕ) × IsFirst (λ k. f (suc k)) n) → (n : ℕ) × IsFirst f n
first_on true f is later = (0, (is, λ k less. absurd (omega (arith, less))))
first_on false f is later = (suc later.0, (later.1.0, before))
  where
    before : (k : ℕ) → k < suc later.0 → f k ≡ false
    before zero less = is
    before (suc k) less = later.1.1 k (omega (arith, less))

pub first_of_all : (n : ℕ) (f : ℕ → Bool) → f n ≡ true → (m : ℕ) × IsFirst f m
first_of_all zero f is = (0, (is, λ k less. absurd (omega (arith, less))))
first_of_all (suc n) f is = first_on (f 0) f refl (first_of_all n (λ k. f (suc k)) is)

-- after as many steps as a leg has, and any more, it holds what it is meant to leave
pub length_leaves : (conf : Conf) (tree : Batch) (leg : Leg) (steps more : ℕ) → IsLength conf tree leg steps
    → state_alone conf tree leg (steps + more) ≡ over (leg_outcome logs conf tree leg)
length_leaves conf tree leg steps more is =
    let e = over_or_not (state_alone conf tree leg steps) is.ends in
    stays_at_end logs.ops logs.group (parts_on conf leg) (entry conf tree leg) steps e.0 e.1 more

pub has_length : (conf : Conf) (tree : Batch) (leg : Leg) → (steps : ℕ) × IsLength conf tree leg steps
has_length conf tree leg =
    let e = leg-ends logs.ops logs.group (parts_on conf leg) (entry conf tree leg) in
    let first = first_of_all e.0 (λ k. is_over (state_alone conf tree leg k)) (ap is_over e.2) in
    (first.0, record { ends = first.1.0; before = first.1.1 })
