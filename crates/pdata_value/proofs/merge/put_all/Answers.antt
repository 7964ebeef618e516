use Rattle.std.proofs.Common.{◌≡◌, ℕ, rules, List, ◌∷◌, Option, sym, subst}
use Rattle.std.specs.Vec.Iter.{into_iter_items}
use Rattle.pdata_value.specs.Pairs.{put}
use Rattle.pdata_value.specs.Places.{IsPlan, PutsAt}
use Rattle.pdata_value.specs.declared.value.Value.{Value}
use Rattle.pdata_value.proofs.Positions.{plan-behind, plan-get}
use Rattle.pdata_value.proofs.merge.put_all.Goals as goal
use Rattle.pdata_value.proofs.merge.put_all.Goals.{in-Some-first, in-None-first}

-- the place is the planned one, or was found
pub put-requires-clause-place : goal.put-requires-clause-place
put-requires-clause-place c =
    let ps = c.loop-pair.list.items in
    let q = c.in-Some.pair in
    let qs = into_iter_items c.next.new.self in
    let plan : IsPlan c.loop-pair.planned.now ps (q ∷ qs) =
    subst (λ (xs : List (List ℕ × Value)). IsPlan c.loop-pair.planned.now ps xs) c.in-Some.ensures.steps.0 c.loop-pair.invariant.places in
    elim c.match-first.branch [
      | in-Some-first w ↦
          subst (λ (o : Option ℕ). PutsAt ps q.0 o) (sym w.place-is)
          (plan-get c.loop-pair.planned.now _ ps q qs (sym w.in-Some-first.ensures.value) plan)
      | in-None-first w ↦
          subst (λ (o : Option ℕ). PutsAt ps q.0 o) (sym w.place-is)
          (subst (λ (xs : List (List ℕ × Value)). PutsAt xs q.0 w.find-place.result) w.as_slice.ensures.value
          (subst (λ (k : List ℕ). PutsAt w.as_slice.result.now k w.find-place.result) w.as_str.ensures.value w.find-place.ensures.puts))
    ]

pub loop-pair-preserved : goal.loop-pair-preserved
loop-pair-preserved c =
    let ps = c.loop-pair.list.items in
    let q = c.in-Some.pair in
    let qs = into_iter_items c.next.new.self in
    let plan : IsPlan c.loop-pair.planned.now ps (q ∷ qs) =
    subst (λ (xs : List (List ℕ × Value)). IsPlan c.loop-pair.planned.now ps xs) c.in-Some.ensures.steps.0 c.loop-pair.invariant.places in
    let behind : IsPlan c.behind_first-planned.result.now (put ps q.0 q.1) qs =
    subst (λ (os : List (Option ℕ)). IsPlan os (put ps q.0 q.1) qs) (sym c.behind_first-planned.ensures)
    (plan-behind c.loop-pair.planned.now ps q qs plan) in record {
      gives = search rules;
      room = search rules;
      places = subst (λ (xs : List (List ℕ × Value)). IsPlan c.behind_first-planned.result.now xs qs) (sym c.put.ensures.items) behind;
    }
