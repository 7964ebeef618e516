use Rattle.std.proofs.Common.{◌≡◌, ◌∙◌, ◌++◌, [], ◌∷◌, ap}
use Rattle.share_cow.specs.Scene.{tree_of}
use Rattle.share_cow.specs.Store.{Store}
use Rattle.routing_conn.specs.Answers.{judge_of}
use Rattle.routing_conn.proofs.Judged.{hits_on, target_at, when_ok}
use Rattle.routing_conn.proofs.judging.RowJudge.hits_in.Goals as goal

pub matches_in-requires-clause-inside : goal.matches_in-requires-clause-inside
matches_in-requires-clause-inside c =
    target_at c.args.forest.now c.loop-place.forest c.args.root.now c.args.self.now.row.now.context c.as_slice-place-items.result.now
    c.loop-place.place-index _ c.loop-place.invariant.forest c.loop-place.invariant.places c.loop-place-test.true

pub loop-place-preserved : goal.loop-place-preserved
loop-place-preserved c =
    let root = c.args.root.now in
    let now = c.loop-place.forest in
    let new = c.matches_in.new.forest in
    let flags = c.loop-place.flags in
    let hit = c.in_ok-hit.hit in
    let pushed =
    when_ok (c.push.new.self ≡ flags ++ hit ∷ []) c.push.result c.in_ok-or_stop.field-0 c.push.ensures.ok c.in_ok-or_stop.ensures.ok in
    record {
      value =
          hits_on (judge_of c.args.self.now) (tree_of now root) (tree_of new root) c.as_slice-place-items.result.now c.loop-place.place-index _
          flags c.push.new.self hit c.loop-place.book c.matches_in.new.book
          (ap (λ (f : Store). tree_of f root) c.matches_in.ensures.forest) c.loop-place-test.true pushed c.in_ok-hit.ensures.value
          ∙ c.loop-place.invariant.value;
      places = c.loop-place.invariant.places;
      forest = c.matches_in.ensures.forest ∙ c.loop-place.invariant.forest;
      stays = λ is. c.matches_in.ensures.stays is ∙ c.loop-place.invariant.stays is;
    }
