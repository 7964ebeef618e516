-- Bursts: there is one, it fits into the leg, and it ends with its part.
use Rattle.std.proofs.Common.{◌≡◌, ◌∙◌, ◌+◌, ◌-◌, ◌<◌, ◌≤◌, ◌==◌, ◌&&◌, Bool, true, false, not, ℕ, suc, List, [], ◌∷◌, Option, Some, None, Result, Ok, Err, refl, sym, ap, subst, arith, ne_eqb}
use Rattle.conf_json.specs.declared.settings.FilterSettings.{FilterSettings}
use Rattle.conf_json.specs.declared.settings.Group.{Group}
use Rattle.conf_json.specs.declared.settings.GroupSettings.{GroupSettings}
use Rattle.conf_json.specs.declared.settings.ProcessorSettings.{ProcessorSettings}
use Rattle.conf_json.specs.declared.settings.ProcessorSettings.TheVariants.{Transform, Filter, GroupByAttrs}
use Rattle.conf_json.specs.declared.settings.RouteSettings.{RouteSettings}
use Rattle.conf_json.specs.declared.settings.TransformSettings.{TransformSettings}
use Rattle.filter_proc.specs.Steps as filter
use Rattle.graph_build.specs.Conf.{Conf}
use Rattle.graph_build.specs.declared.leg.Leg.{Leg}
use Rattle.leg_model.proofs.Ending.{first_of_all, over_or_not, IsFirst}
use Rattle.leg_model.proofs.Lengths.{clash, open_below}
use Rattle.leg_model.specs.Bursts.{IsBurst, are_few, goes_on, has_one_step}
use Rattle.leg_model.specs.Course.{Course, Failure, Outcome, ended}
use Rattle.leg_model.specs.Exports.{logs}
use Rattle.leg_model.specs.Steps.{IsLength, LegState, Standing, at_connectors, at_processors, behind, by_groups, entering, ending, filtering, grouping, is_over, over, routing, state_alone, transforming}
use Rattle.pdata_tree.specs.Operations.{TreeOps}
use Rattle.pdata_tree.specs.declared.batch.Batch.{Batch}
use Rattle.pdata_tree.specs.declared.path.PathTo.{PathTo}
use Rattle.transform_proc.specs.Steps as transform

-- No turn goes on where the leg is at its end.

stops_over : {T : Type 0} (most : Option ℕ) (s : LegState T) (o : Outcome T) → goes_on most s (over o) ≡ false
stops_over most (entering tree) o = refl
stops_over most (transforming s run c at) o = refl
stops_over most (filtering s run c at) o = refl
stops_over most (grouping s c at) o = refl
stops_over most (routing s c at) o = refl
stops_over most (ending taken c) o = refl
stops_over most (over p) o = refl

stops_at_end : {T : Type 0} (most : Option ℕ) (s t : LegState T) → is_over t ≡ true → goes_on most s t ≡ false
stops_at_end most s t is = let e = over_or_not t is in ap (goes_on most s) e.1 ∙ stops_over most s e.0

-- Nor behind a part of one step.
stops_behind_one : {T : Type 0} (most : Option ℕ) (s t : LegState T) → has_one_step s ≡ true → goes_on most s t ≡ false
stops_behind_one most (entering tree) t one = refl
stops_behind_one most (grouping s c at) t one = refl
stops_behind_one most (routing s c at) t one = refl
stops_behind_one most (ending taken c) t one = refl
stops_behind_one most (over o) t one = absurd cc
stops_behind_one most (transforming s run c at) t one = absurd cc
stops_behind_one most (filtering s run c at) t one = absurd cc

under_way : {T : Type 0} (s : LegState T) → has_one_step s ≡ true → is_over s ≡ false
under_way (entering tree) one = refl
under_way (grouping s c at) one = refl
under_way (routing s c at) one = refl
under_way (ending taken c) one = refl
under_way (over o) one = absurd cc
under_way (transforming s run c at) one = refl
under_way (filtering s run c at) one = refl

was_false : (t : Bool) → not t ≡ true → t ≡ false
was_false false is = refl
was_false true is = absurd cc

was_true : (t : Bool) → not t ≡ false → t ≡ true
was_true true is = refl
was_true false is = absurd cc

-- Some steps are the burst, and no other number of them.

module _ (most : Option ℕ) (states : ℕ → LegState Batch) where
  one_burst : (done a b : ℕ) → IsBurst most states done a → IsBurst most states done b → a ≡ b
  one_burst done a b is also =
      let p : (a < b) → ⊥ = λ less. clash is.stops (also.going a is.some less) in
      let q : (b < a) → ⊥ = λ less. clash also.stops (is.going b also.some less) in
      omega (arith, p, q)

  -- a turn has stopped where the leg is at its end
  within_end : (done steps length : ℕ) → is_over (states length) ≡ true → done < length → IsBurst most states done steps
      → done + steps ≤ length
  within_end done steps length ends less is =
      let there : done + (length - done) ≡ length = omega (arith, less) in
      let p : (length < done + steps) → ⊥ = λ past.
      clash (subst (λ n. goes_on most (states done) (states n) ≡ false) (sym there)
      (stops_at_end most (states done) (states length) ends))
      (is.going (length - done) (omega (arith, less)) (omega (arith, past, less))) in
      omega (arith, p)

  some_burst : (done length : ℕ) → is_over (states length) ≡ true → done < length → is_over (states done) ≡ false
      → (steps : ℕ) × IsBurst most states done steps
  some_burst done length ends less begins =
      let there : done + suc (length - suc done) ≡ length = omega (arith, less) in
      let first : (n : ℕ) × IsFirst (λ k. not (goes_on most (states done) (states (done + suc k)))) n =
      first_of_all (length - suc done) (λ k. not (goes_on most (states done) (states (done + suc k))))
      (ap not (subst (λ n. goes_on most (states done) (states n) ≡ false) (sym there)
      (stops_at_end most (states done) (states length) ends))) in (
        suc first.0,
        record {
          begins = begins;
          some = omega arith;
          going = λ k some less.
              let same : suc (k - 1) ≡ k = omega (arith, some) in
              subst (λ n. goes_on most (states done) (states (done + n)) ≡ true) same
              (was_true (goes_on most (states done) (states (done + suc (k - 1)))) (first.1.1 (k - 1) (omega (arith, some, less))));
          stops = was_false (goes_on most (states done) (states (done + suc first.0))) first.1.0;
        },
      )

pub has_burst : (most : Option ℕ) (conf : Conf) (tree : Batch) (leg : Leg) (done length : ℕ) → IsLength conf tree leg length
    → done < length → (steps : ℕ) × IsBurst most (state_alone conf tree leg) done steps
has_burst most conf tree leg done length is less =
    some_burst most (state_alone conf tree leg) done length is.ends less (is.before done less)

pub burst_unique : (most : Option ℕ) (conf : Conf) (tree : Batch) (leg : Leg) (done a b : ℕ)
    → IsBurst most (state_alone conf tree leg) done a → IsBurst most (state_alone conf tree leg) done b → a ≡ b
burst_unique most conf tree leg done a b is also = one_burst most (state_alone conf tree leg) done a b is also

pub burst_fits : (most : Option ℕ) (conf : Conf) (tree : Batch) (leg : Leg) (done steps length : ℕ) → IsLength conf tree leg length
    → IsBurst most (state_alone conf tree leg) done steps → (0 < steps) × (done + steps ≤ length)
burst_fits most conf tree leg done steps length is burst = (
  burst.some,
  within_end most (state_alone conf tree leg) done steps length is.ends
      (open_below conf tree leg length done is burst.begins) burst,
)

pub one_step_burst : (most : Option ℕ) (conf : Conf) (tree : Batch) (leg : Leg) (done : ℕ)
    → has_one_step (state_alone conf tree leg done) ≡ true → IsBurst most (state_alone conf tree leg) done 1
one_step_burst most conf tree leg done one = record {
  begins = under_way (state_alone conf tree leg done) one;
  some = omega arith;
  going = λ k some less. absurd (omega (arith, some, less));
  stops = stops_behind_one most (state_alone conf tree leg done) (state_alone conf tree leg (done + 1)) one;
}

-- A short turn doesn't go on where a longer one has stopped.

both_parts : (a b : Bool) → (a && b) ≡ true → (a && true) ≡ true
both_parts true b is = refl
both_parts false b is = absurd cc

whole_goes : {T : Type 0} (most : ℕ) (s t : LegState T) → goes_on (Some most) s t ≡ true → goes_on None s t ≡ true
whole_goes most (transforming s run c at) (transforming t now d here) goes =
    both_parts (at.part == here.part) (are_few (Some most) run.cursor.ended now.cursor.ended) goes
whole_goes most (transforming s run c at) (entering tree) goes = absurd cc
whole_goes most (transforming s run c at) (filtering t now d here) goes = absurd cc
whole_goes most (transforming s run c at) (grouping t d here) goes = absurd cc
whole_goes most (transforming s run c at) (routing t d here) goes = absurd cc
whole_goes most (transforming s run c at) (ending taken d) goes = absurd cc
whole_goes most (transforming s run c at) (over o) goes = absurd cc
whole_goes most (filtering s run c at) (filtering t now d here) goes =
    both_parts (at.part == here.part) (are_few (Some most) run.cursor.ended now.cursor.ended) goes
whole_goes most (filtering s run c at) (entering tree) goes = absurd cc
whole_goes most (filtering s run c at) (transforming t now d here) goes = absurd cc
whole_goes most (filtering s run c at) (grouping t d here) goes = absurd cc
whole_goes most (filtering s run c at) (routing t d here) goes = absurd cc
whole_goes most (filtering s run c at) (ending taken d) goes = absurd cc
whole_goes most (filtering s run c at) (over o) goes = absurd cc
whole_goes most (entering tree) t goes = absurd cc
whole_goes most (grouping s c at) t goes = absurd cc
whole_goes most (routing s c at) t goes = absurd cc
whole_goes most (ending taken c) t goes = absurd cc
whole_goes most (over o) t goes = absurd cc

pub short_within_whole : (most : ℕ) (states : ℕ → LegState Batch) (done a b : ℕ) → IsBurst (Some most) states done a
    → IsBurst None states done b → a ≤ b
short_within_whole most states done a b short whole =
    let p : (b < a) → ⊥ = λ less.
    clash whole.stops (whole_goes most (states done) (states (done + b)) (short.going b whole.some less)) in
    omega (arith, p)

-- Behind a part its turn is over.

other_part : (a b : ℕ) (few : Bool) → a < b → (a == b && few) ≡ false
other_part a b few less =
    ap (λ t. t && few) (ne_eqb a b (λ e. omega (arith, less, e)))

module _ {T : Type 0} (ops : TreeOps T PathTo) (group : List (List ℕ) → T → T) (most : Option ℕ) (from : LegState T) (part : ℕ)
    (no_transform : (s : TransformSettings) (run : transform.State T) (c : Course T) (at : Standing) → part < at.part
    → goes_on most from (transforming s run c at) ≡ false)
    (no_filter : (s : FilterSettings) (run : filter.State T) (c : Course T) (at : Standing) → part < at.part
    → goes_on most from (filtering s run c at) ≡ false)
    (no_group : (s : GroupSettings) (c : Course T) (at : Standing) → goes_on most from (grouping s c at) ≡ false)
    (no_route : (s : RouteSettings) (c : Course T) (at : Standing) → goes_on most from (routing s c at) ≡ false)
    (no_end : (taken : ℕ) (c : Course T) → goes_on most from (ending taken c) ≡ false) where
  connectors_stop : (taken next : ℕ) (cs : List RouteSettings) (c : Course T)
      → goes_on most from (at_connectors ops group taken next cs c) ≡ false
  connectors_stop taken next [] c = no_end taken c
  connectors_stop taken next (s ∷ ss) c = no_route s c _

  groups_stop : (gs : List Group) (none some : LegState T) → goes_on most from none ≡ false → goes_on most from some ≡ false
      → goes_on most from (by_groups gs none some) ≡ false
  groups_stop [] none some first second = first
  groups_stop (g ∷ gs) none some first second = second

  processors_stop : (taken next : ℕ) (ss : List ProcessorSettings) (cs : List RouteSettings) (c : Course T) → part < next
      → goes_on most from (at_processors ops group taken next ss cs c) ≡ false
  processors_stop taken next [] cs c less = connectors_stop taken next cs c
  processors_stop taken next (Transform s ∷ ss) cs c less =
      let at : Standing = record { taken = taken; part = next; processors = ss; connectors = cs } in
      groups_stop s.log_statements (at_processors ops group taken (suc next) ss cs c)
      (transforming s (transform.state_of ops s.log_statements c.tree c.account) c at)
      (processors_stop taken (suc next) ss cs c (omega (arith, less)))
      (no_transform s (transform.state_of ops s.log_statements c.tree c.account) c at less)
  processors_stop taken next (Filter s ∷ ss) cs c less =
      no_filter s (filter.state_of ops c.tree c.account) c
      (record { taken = taken; part = next; processors = ss; connectors = cs }) less
  processors_stop taken next (GroupByAttrs s ∷ ss) cs c less =
      no_group s c (record { taken = taken; part = next; processors = ss; connectors = cs })

  behind_stops : (at : Standing) (r : Result (Course T) Failure) → at.part ≡ part → goes_on most from (behind ops group at r) ≡ false
  behind_stops at (Ok c) is = processors_stop at.taken (suc at.part) at.processors at.connectors c (omega (arith, is))
  behind_stops at (Err f) is = stops_over most from (ended ops at.taken (Err f))

pub stops_behind_transform : (most : Option ℕ) (s : TransformSettings) (run : transform.State Batch) (c : Course Batch) (at : Standing)
    (r : Result (Course Batch) Failure) → goes_on most (transforming s run c at) (behind logs.ops logs.group at r) ≡ false
stops_behind_transform most s run c at r =
    behind_stops logs.ops logs.group most (transforming s run c at) at.part
    (λ t now d here less. other_part at.part here.part (are_few most run.cursor.ended now.cursor.ended) less)
    (λ t now d here less. refl) (λ t d here. refl) (λ t d here. refl) (λ taken d. refl) at r refl

pub stops_behind_filter : (most : Option ℕ) (s : FilterSettings) (run : filter.State Batch) (c : Course Batch) (at : Standing)
    (r : Result (Course Batch) Failure) → goes_on most (filtering s run c at) (behind logs.ops logs.group at r) ≡ false
stops_behind_filter most s run c at r =
    behind_stops logs.ops logs.group most (filtering s run c at) at.part
    (λ t now d here less. refl)
    (λ t now d here less. other_part at.part here.part (are_few most run.cursor.ended now.cursor.ended) less)
    (λ t d here. refl) (λ t d here. refl) (λ taken d. refl) at r refl
