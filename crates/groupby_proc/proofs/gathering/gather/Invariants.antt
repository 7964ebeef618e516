use Rattle.std.proofs.Common.{◌≡◌}
use Rattle.std.specs.Vec.Iter.{into_iter_items}
use Rattle.groupby_proc.specs.Gathering.{AreApart, gathered, with_items}
use Rattle.groupby_proc.specs.Indexing.{IsIndexed, codes_of}
use Rattle.groupby_proc.proofs.gathering.gather.Given as goal

-- the groups so far, with the items left, are all
abbrev pub invariant-loop-key : goal.invariant-loop-key
invariant-loop-key g l = record {
  groups : with_items g.K.GroupKey.alike l.groups (into_iter_items l.key-iterator) ≡ gathered g.K.GroupKey.alike l.fn.items;
  apart : AreApart g.K.GroupKey.alike l.groups;
  indexed : IsIndexed (codes_of g.K.GroupKey.code l.groups) l.index.buckets;
}
