use Rattle.std.proofs.Common.{◌++◌, [], ◌∷◌, ℕ, List, subst, sym}
use Rattle.std.specs.Prelude.{Contains}
use Rattle.std.proofs.lemmas.List.Elements.{Contains-append_left}
use Rattle.fanout.specs.Handing.{AreApart}
use Rattle.routing_conn.specs.Given.{AreLive, GivesUp}
use Rattle.routing_conn.proofs.Frames.{up_more, up_none}
use Rattle.routing_conn.proofs.Lists.{apart_front, apart_last}
use Rattle.routing_conn.proofs.forest.give_up.Goals as goal

-- the last root goes, and those before it are live and apart as before
pub roots-preserved : goal.roots-preserved
roots-preserved c =
    let front = c.take.new.self.roots in
    let last = c.in-Some.root in
    let split = c.in-Some.ensures.roots in
    let apart : AreApart (front ++ last ∷ []) = subst AreApart split c.roots.invariant.apart in
    let live : AreLive c.roots.forest (front ++ last ∷ []) = subst (AreLive c.roots.forest) split c.roots.invariant.live in
    record {
      comes = λ new up.
          c.roots.invariant.comes new
          (subst (λ (roots : List ℕ). GivesUp roots c.roots.forest new) (sym split)
          (up_more front last c.roots.forest c.release.new.self new apart c.release.ensures.gone c.release.ensures.others c.release.ensures.spare
          c.release.ensures.made up));
      live = λ r h.
          (c.release.ensures.others.trees r (λ is. apart_last front last apart (subst (λ (q : ℕ). Contains front q) is h))).live.1
          (live r (Contains-append_left front (last ∷ []) r h));
      apart = apart_front front last apart;
    }

pub returns : goal.returns
returns c =
    c.roots.invariant.comes c.roots.forest
    (subst (λ (roots : List ℕ). GivesUp roots c.roots.forest c.roots.forest) (sym c.in_default.ensures.roots.0) (up_none c.roots.forest))
