use Rattle.std.proofs.Common.{◌∙◌, sym, ap, subst}
use Rattle.std.specs.Vec.Iter.{into_iter_items}
use Rattle.groupby_proc.specs.Gathering.{AreApart, with_items}
use Rattle.groupby_proc.specs.Indexing.{IsIndexed, codes_of}
use Rattle.groupby_proc.proofs.Gathered.{apart_with, gathered_all}
use Rattle.groupby_proc.proofs.gathering.gather.Goals as goal

pub loop-key-init : goal.loop-key-init
loop-key-init g c =
    let same = g.K.GroupKey.alike in
    record {
      groups = cc (gathered_all same c.requires.equivalence c.args.items);
      apart = subst (AreApart same) (sym c.new-groups.ensures) tt;
      indexed =
          subst (λ gs. IsIndexed (codes_of g.K.GroupKey.code gs) c.in_ok-index.index.buckets) (sym c.new-groups.ensures) c.in_ok-index.ensures;
    }

pub loop-key-preserved : goal.loop-key-preserved
loop-key-preserved g c =
    let same = g.K.GroupKey.alike in
    record {
      groups =
          ap (λ gs. with_items same gs (into_iter_items c.next.new.self)) c.in_ok-groups.ensures.groups
          ∙ sym (ap (with_items same c.loop-key.groups) c.in-Some.ensures.steps.0) ∙ c.loop-key.invariant.groups;
      apart =
          subst (AreApart same) (sym c.in_ok-groups.ensures.groups)
          (apart_with same c.requires.equivalence c.loop-key.groups (c.in-Some.key, c.in-Some.item) c.loop-key.invariant.apart);
      indexed = c.in_ok-groups.ensures.indexed;
    }
