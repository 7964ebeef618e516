use Rattle.std.proofs.Common.{◌≡◌, ◌∙◌, ℕ, ◌<◌, ◌+◌, List, [], ◌∷◌, ◌++◌, length, take, drop, Option, Some, None, sym, ap, subst, arith}
use Rattle.std.specs.BTreeMap.{BTreeMap}
use denote.Bor.{Bor}
use Rattle.std.proofs.Common.{Vec, Global}
use Rattle.pdata_value.specs.Pairs.{put, put_all}
use Rattle.pdata_value.specs.Places.{places_of, position}
use Rattle.pdata_value.specs.Index.{Gains, Knows}
use Rattle.pdata_value.specs.declared.value.Value.{Value}
use Rattle.pdata_value.proofs.Positions.{drop-next, knows-more, knows-put, length-add, length-put, plan-more, put_all-more, take-next}
use Rattle.pdata_value.proofs.merge.plan.Goals as goal
use Rattle.pdata_value.proofs.merge.plan.Goals.{in-Some+in_ok-push-in-Some, in-None+in_ok-add_key-in-None+in_ok-end-in-None+in_ok-push-in-None}

pub returns-then-not-are_many : goal.returns-then-not-are_many
returns-then-not-are_many c =
    let all = places_of c.args.list.now c.args.others.now in
    (all, ap (λ (os : List (Option ℕ)). os ++ all) c.new-places.ensures.items)

pub loop-pair-preserved : goal.loop-pair-preserved
loop-pair-preserved c =
    let ps = c.args.list.now in
    let qs = c.args.others.now in
    let i = c.loop-pair.pair-index in
    let q = c.pair-item.result in
    let so_far = put_all ps (take i qs) in
    let within : i < length qs = omega arith in
    let more : put_all ps (take (i + 1) qs) ≡ put so_far q.0 q.1 =
    ap (put_all ps) (take-next qs i q within c.pair-item.is) ∙ put_all-more ps (take i qs) q in
    let found : position so_far q.0 ≡ c.look_up.result =
    ap (position so_far) (sym c.as_str-key.ensures.value) ∙ sym (c.loop-pair.invariant.knows c.as_str-key.result.now) ∙ sym c.look_up.ensures in
    let planned : c.loop-pair.places.items ++ places_of so_far (q ∷ drop (i + 1) qs) ≡ places_of ps qs =
    ap (λ (rest : List (List ℕ × Value)). c.loop-pair.places.items ++ places_of so_far rest) (sym (drop-next qs i q within c.pair-item.is))
    ∙ c.loop-pair.invariant.places in
    elim c.match-look_up.branch [
      | in-Some+in_ok-push-in-Some w ↦
          let at : position so_far q.0 ≡ Some w.in-Some.at = found ∙ w.in-Some.is in record {
            knows = subst (λ (ix : BTreeMap (Bor (List ℕ)) ℕ). Knows ix (put_all ps (take (i + 1) qs))) (sym w.index-is)
                (subst (λ (xs : List (List ℕ × Value)). Knows c.loop-pair.index xs) (sym more)
                (knows-put c.loop-pair.index so_far q.0 q.1 w.in-Some.at c.loop-pair.invariant.knows at));
            end = w.end-is ∙ c.loop-pair.invariant.end
                ∙ sym (ap (λ (xs : List (List ℕ × Value)). length xs) more ∙ length-put so_far q.0 q.1 w.in-Some.at at);
            places = ap (λ (os : List (Option ℕ)). os ++ places_of (put_all ps (take (i + 1) qs)) (drop (i + 1) qs))
                (ap (λ (v : Vec (Option ℕ) Global). v.items) w.places-is ∙ w.in_ok-push-in-Some.ensures.items)
                ∙ ap (λ (xs : List (List ℕ × Value)). (c.loop-pair.places.items ++ Some w.in-Some.at ∷ []) ++ places_of xs (drop (i + 1) qs)) more
                ∙ plan-more c.loop-pair.places.items (Some w.in-Some.at) so_far q (drop (i + 1) qs) (places_of ps qs) at planned;
          }
      | in-None+in_ok-add_key-in-None+in_ok-end-in-None+in_ok-push-in-None w ↦
          let at : position so_far q.0 ≡ None = found ∙ w.in-None.is in
          let gains : Gains c.loop-pair.index q.0 c.loop-pair.end w.add_key.new.index =
          subst (λ (k : List ℕ). Gains c.loop-pair.index k c.loop-pair.end w.add_key.new.index) c.as_str-key.ensures.value w.in_ok-add_key-in-None.ensures in
          let ended : w.in_ok-end-in-None.end ≡ length so_far + 1 = w.in_ok-end-in-None.ensures ∙ ap (λ (n : ℕ). n + 1) c.loop-pair.invariant.end in record {
            knows = subst (λ (ix : BTreeMap (Bor (List ℕ)) ℕ). Knows ix (put_all ps (take (i + 1) qs))) (sym w.index-is)
                (subst (λ (xs : List (List ℕ × Value)). Knows w.add_key.new.index xs) (sym more)
                (knows-more c.loop-pair.index w.add_key.new.index so_far q.0 q.1 c.loop-pair.end c.loop-pair.invariant.knows at c.loop-pair.invariant.end gains));
            end = w.end-is ∙ ended ∙ sym (ap (λ (xs : List (List ℕ × Value)). length xs) more ∙ length-add so_far q.0 q.1 at);
            places = ap (λ (os : List (Option ℕ)). os ++ places_of (put_all ps (take (i + 1) qs)) (drop (i + 1) qs))
                (ap (λ (v : Vec (Option ℕ) Global). v.items) w.places-is ∙ w.in_ok-push-in-None.ensures.items)
                ∙ ap (λ (xs : List (List ℕ × Value)). (c.loop-pair.places.items ++ None ∷ []) ++ places_of xs (drop (i + 1) qs)) more
                ∙ plan-more c.loop-pair.places.items None so_far q (drop (i + 1) qs) (places_of ps qs) at planned;
          }
    ]
