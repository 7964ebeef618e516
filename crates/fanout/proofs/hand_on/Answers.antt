use Rattle.std.proofs.Common.{[], ◌∷◌, ap, length, subst, sym, arith}
use Rattle.std.proofs.lemmas.List.{length-append}
use Rattle.fanout.specs.Handing.{HandsOn}
use Rattle.fanout.proofs.Sharing.{Sharing, given_up, handed_on, none_yet, one_more}
use Rattle.fanout.proofs.hand_on.Goals as goal

pub returns-then-takers-eq0-clause-ok : goal.returns-then-takers-eq0-clause-ok
returns-then-takers-eq0-clause-ok c =
    given_up c.args.root c.args.takers c.args.forest.now c.release.new.self c.in-Ok.roots.roots c.if-takers-eq0.true c.in-Ok.ensures.roots c.release.ensures.gone
    c.release.ensures.others c.release.ensures.spare c.release.ensures.made

pub loop-init : goal.loop-init
loop-init c = record {
  sharing = subst (Sharing c.args.root c.args.forest.now c.args.forest.now) (sym c.in-Ok.ensures.roots) (none_yet c.args.root c.args.forest.now c.requires.live);
  count = omega (arith, ap length c.in-Ok.ensures.roots);
  room = omega (arith, c.in-Ok.ensures.room);
}

pub share-taker-requires-clause-live : goal.share-taker-requires-clause-live
share-taker-requires-clause-live c = c.loop.invariant.sharing.lives

pub share-taker-requires-clause-spare : goal.share-taker-requires-clause-spare
share-taker-requires-clause-spare c =
    omega (arith, c.loop.invariant.sharing.spare, c.loop.invariant.count, c.requires.room, c.loop-test.true)

pub push-requires : goal.push-requires
push-requires c = omega (arith, c.loop.invariant.room, c.loop-test.true)

pub loop-preserved : goal.loop-preserved
loop-preserved c = record {
  sharing =
      subst (Sharing c.args.root c.args.forest.now c.share-taker.new.self) (sym c.push.ensures.roots)
      (one_more c.args.root c.share-taker.result c.args.forest.now c.loop.forest c.share-taker.new.self c.loop.roots.roots c.loop.invariant.sharing
      c.share-taker.ensures.tree c.share-taker.ensures.live c.share-taker.ensures.fresh c.share-taker.ensures.others c.share-taker.ensures.spare
      c.share-taker.ensures.made);
  count = omega (arith, ap length c.push.ensures.roots, length-append c.loop.roots.roots (c.share-taker.result ∷ []), c.loop.invariant.count);
  room = omega (arith, c.push.ensures.room, c.loop.invariant.room);
}

pub push-requires-2 : goal.push-requires-2
push-requires-2 c = omega (arith, c.loop.invariant.room, c.loop.auto.counter-end, c.if-takers-eq0.false)

pub returns-clause-ok : goal.returns-clause-ok
returns-clause-ok c =
    subst (HandsOn c.args.root c.args.takers c.args.forest.now c.loop.forest) (sym c.push-2.ensures.roots)
    (handed_on c.args.root c.args.takers c.args.forest.now c.loop.forest c.loop.roots.roots c.loop.invariant.sharing c.requires.live
    (omega (arith, c.loop.invariant.count, c.loop-test.false, c.loop.auto.counter-end, c.if-takers-eq0.false)))
