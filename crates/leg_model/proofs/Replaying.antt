-- Histories: with one more event, cut short, and with two events in the other order.
use Rattle.std.proofs.Common.{◌≡◌, ◌≢◌, ◌∙◌, ◌+◌, ◌<◌, ◌≤◌, ◌==◌, ◌⊎◌, inl, inr, if◌then◌else◌, Bool, true, false, ℕ, List, [], ◌∷◌, ◌++◌, slice_get, Option, Some, refl, sym, ap, subst, arith, eq-eqb, ne_eqb, append-nil, append_assoc}
use Rattle.std.proofs.lemmas.Bool.Decides.{nat_tests}
use Rattle.std.proofs.lemmas.Option.{slice_get_within}
use Rattle.graph_build.specs.Conf.{Conf}
use Rattle.graph_build.specs.declared.leg.Leg.{Leg}
use Rattle.leg_model.proofs.Ending.{IsFirst, first_of_all, has_length, length_leaves}
use Rattle.leg_model.proofs.Lengths.{open_below, over_not_before}
use Rattle.leg_model.proofs.Turning.{burst_fits, has_burst}
use Rattle.leg_model.specs.Bursts.{IsBurst}
use Rattle.leg_model.specs.Exports.{logs}
use Rattle.leg_model.specs.Histories.{HasLeft, IsAtEnd, Legal, MayFollow, replay, steps_on}
use Rattle.leg_model.specs.Legs.{leg_outcome}
use Rattle.leg_model.specs.Steps.{IsLength, is_over, over, state_alone}
use Rattle.leg_model.specs.declared.Event.{Event}
use Rattle.pdata_tree.specs.declared.batch.Batch.{Batch}

-- Lists.

cons-head : {X : Type 0} (x y : X) (xs ys : List X) → x ∷ xs ≡ y ∷ ys → x ≡ y
cons-head x y xs ys e = cc

cons-tail : {X : Type 0} (x y : X) (xs ys : List X) → x ∷ xs ≡ y ∷ ys → xs ≡ ys
cons-tail x y xs ys e = cc

-- What was done.

pub replay-append : (xs ys : List Event) (n : ℕ) → replay (xs ++ ys) n ≡ replay xs n + replay ys n
replay-append [] ys n = omega arith
replay-append (x ∷ xs) ys n = let e : replay (xs ++ ys) n ≡ replay xs n + replay ys n = replay-append xs ys n in omega (arith, e)

on_same : (t : Bool) (n : ℕ) → t ≡ true → (if t then n else 0) ≡ n
on_same true n is = refl
on_same false n is = absurd cc

on_other : (t : Bool) (n : ℕ) → t ≡ false → (if t then n else 0) ≡ 0
on_other false n is = refl
on_other true n is = absurd cc

steps-same : (e : Event) → steps_on e.leg e ≡ e.steps
steps-same e = on_same (e.leg == e.leg) e.steps (eq-eqb e.leg e.leg refl)

steps-other : (e : Event) (n : ℕ) → e.leg ≢ n → steps_on n e ≡ 0
steps-other e n other = on_other (e.leg == n) e.steps (ne_eqb e.leg n other)

-- one more event adds its steps to its leg, and to no other
pub replay-event : (xs : List Event) (e : Event) → replay (xs ++ e ∷ []) e.leg ≡ replay xs e.leg + e.steps
replay-event xs e =
    let a : replay (xs ++ e ∷ []) e.leg ≡ replay xs e.leg + (steps_on e.leg e + 0) = replay-append xs (e ∷ []) e.leg in
    let b : steps_on e.leg e ≡ e.steps = steps-same e in
    omega (arith, a, b)

pub replay-others : (xs : List Event) (e : Event) (n : ℕ) → e.leg ≢ n → replay (xs ++ e ∷ []) n ≡ replay xs n
replay-others xs e n other =
    let a : replay (xs ++ e ∷ []) n ≡ replay xs n + (steps_on n e + 0) = replay-append xs (e ∷ []) n in
    let b : steps_on n e ≡ 0 = steps-other e n other in
    omega (arith, a, b)

-- the order doesn't matter
pub replay-swap : (xs ys : List Event) (a b : Event) (n : ℕ) → replay (xs ++ b ∷ a ∷ ys) n ≡ replay (xs ++ a ∷ b ∷ ys) n
replay-swap xs ys a b n =
    let p : replay (xs ++ b ∷ a ∷ ys) n ≡ replay xs n + (steps_on n b + (steps_on n a + replay ys n)) = replay-append xs (b ∷ a ∷ ys) n in
    let q : replay (xs ++ a ∷ b ∷ ys) n ≡ replay xs n + (steps_on n a + (steps_on n b + replay ys n)) = replay-append xs (a ∷ b ∷ ys) n in
    omega (arith, p, q)

-- Legal histories.

pub nothing_legal : (conf : Conf) (tree : Batch) → Legal conf tree []
nothing_legal conf tree = record {
  events = λ before after event is. absurd (not_nothing before after event is);
  sums = λ number leg steps at is. omega arith;
}
  where
    not_nothing : (before after : List Event) (event : Event) → [] ≡ before ++ event ∷ after → ⊥
    not_nothing [] after event is = cc
    not_nothing (e ∷ es) after event is = cc

-- an event of two lists is one of the first or of the second
of_two : (P : List Event → Event → Type 0) (xs zs : List Event)
    → ((before after : List Event) (e : Event) → xs ≡ before ++ e ∷ after → P before e)
    → ((before after : List Event) (e : Event) → zs ≡ before ++ e ∷ after → P (xs ++ before) e)
    → (before after : List Event) (e : Event) → xs ++ zs ≡ before ++ e ∷ after → P before e
of_two P [] zs first second before after e is = second before after e is
of_two P (x ∷ xs) zs first second [] after e is =
    first [] xs e (ap (λ y. y ∷ xs) (cons-head x e (xs ++ zs) after is))
of_two P (x ∷ xs) zs first second (b ∷ before) after e is =
    subst (λ y. P (y ∷ before) e) (cons-head x b (xs ++ zs) (before ++ e ∷ after) is)
    (of_two (λ ys. P (x ∷ ys)) xs zs (λ bs more ev same. first (x ∷ bs) more ev (ap (λ ys. x ∷ ys) same)) second
    before after e (cons-tail x b (xs ++ zs) (before ++ e ∷ after) is))

-- of one that stands behind others it is that one
of_last : (P : List Event → Event → Type 0) (xs : List Event) (a : Event) → P xs a
    → (before after : List Event) (e : Event) → a ∷ [] ≡ before ++ e ∷ after → P (xs ++ before) e
of_last P xs a last [] after e is = subst (P (xs ++ [])) (cons-head a e [] after is) (subst (λ ys. P ys a) (sym (append-nil xs)) last)
of_last P xs a last (b ∷ []) after e is = absurd cc
of_last P xs a last (b ∷ c ∷ before) after e is = absurd cc

-- two numbers are the same, or not
same_on : (t : Bool) (a b : ℕ) → (a == b) ≡ t → (a ≡ b) ⊎ (a ≢ b)
same_on true a b is = inl (grind (arith, nat_tests, is))
same_on false a b is = inr (λ e. grind (arith, nat_tests, is, e))

same_or_not : (a b : ℕ) → (a ≡ b) ⊎ (a ≢ b)
same_or_not a b = same_on (a == b) a b refl

pub one_more : (conf : Conf) (tree : Batch) (history : List Event) (e : Event) → Legal conf tree history
    → MayFollow conf tree history e → HasLeft conf tree history e → Legal conf tree (history ++ e ∷ [])
one_more conf tree history e legal may left = record {
  events = of_two (MayFollow conf tree) history (e ∷ []) legal.events (of_last (MayFollow conf tree) history e may);
  sums = λ number leg steps at is. sum number leg steps at is (same_or_not e.leg number);
}
  where
    sum : (number : ℕ) (leg : Leg) (steps : ℕ) → slice_get conf.legs number ≡ Some leg → IsLength conf tree leg steps
        → (e.leg ≡ number) ⊎ (e.leg ≢ number) → replay (history ++ e ∷ []) number ≤ steps
    sum number leg steps at is (inl same) =
        subst (λ n. replay (history ++ e ∷ []) n ≤ steps) same
        (rw (replay-event history e) (left leg steps (ap (slice_get conf.legs) same ∙ at) is))
    sum number leg steps at is (inr other) = rw (replay-others history e number other) (legal.sums number leg steps at is)

-- for a burst, or for the first steps of one, a leg has steps left
pub burst_left : (most : Option ℕ) (conf : Conf) (tree : Batch) (history : List Event) (event : Event) (leg : Leg) (steps : ℕ)
    → slice_get conf.legs event.leg ≡ Some leg → IsBurst most (state_alone conf tree leg) (replay history event.leg) steps
    → event.steps ≤ steps → HasLeft conf tree history event
burst_left most conf tree history event leg steps at burst few = λ other length found is.
    let same : other ≡ leg = some-same other leg (sym found ∙ at) in
    let fits = burst_fits most conf tree leg (replay history event.leg) steps length (subst (λ (l : Leg). IsLength conf tree l length) same is) burst in
    omega (arith, few, fits)
  where
    some-same : (x y : Leg) → Some x ≡ Some y → x ≡ y
    some-same x y e = cc

-- what came before is legal
pub before_legal : (conf : Conf) (tree : Batch) (xs ys : List Event) → Legal conf tree (xs ++ ys) → Legal conf tree xs
before_legal conf tree xs ys legal = record {
  events = λ before after event is. legal.events before (after ++ ys) event
      (ap (λ es. es ++ ys) is ∙ append_assoc before (event ∷ after) ys);
  sums = λ number leg steps at is.
      let most : replay (xs ++ ys) number ≤ steps = legal.sums number leg steps at is in
      let e : replay (xs ++ ys) number ≡ replay xs number + replay ys number = replay-append xs ys number in
      omega (arith, most, e);
}

-- Two in the other order.

ended_alike : (conf : Conf) (tree : Batch) (h k : List Event) (number : ℕ) → replay h number ≡ replay k number
    → IsAtEnd conf tree h number → IsAtEnd conf tree k number
ended_alike conf tree h k number same ended leg at = subst (IsLength conf tree leg) same (ended leg at)

follows_alike : (conf : Conf) (tree : Batch) (h k : List Event) (e : Event) → ((n : ℕ) → replay h n ≡ replay k n)
    → MayFollow conf tree h e → MayFollow conf tree k e
follows_alike conf tree h k e same may = record {
  known = may.known;
  some = may.some;
  parent = λ leg above at is. ended_alike conf tree h k above (same above) (may.parent leg above at is);
}

module _ (conf : Conf) (tree : Batch) (xs ys : List Event) (a b : Event) (legal : Legal conf tree (xs ++ a ∷ b ∷ ys))
    (apart : (leg : Leg) → slice_get conf.legs b.leg ≡ Some leg → leg.parent ≢ Some a.leg) where
  first_before : MayFollow conf tree xs a
  first_before = legal.events xs (b ∷ ys) a refl

  second_before : MayFollow conf tree (xs ++ a ∷ []) b
  second_before = legal.events (xs ++ a ∷ []) ys b (sym (append_assoc xs (a ∷ []) (b ∷ ys)))

  -- the second didn't wait for the first
  second_first : MayFollow conf tree xs b
  second_first = record {
    known = second_before.known;
    some = second_before.some;
    parent = λ leg above at is.
        ended_alike conf tree (xs ++ a ∷ []) xs above
        (replay-others xs a above (λ same. apart leg at (is ∙ ap Some (sym same))))
        (second_before.parent leg above at is);
  }

  -- the leg above the first is at its end, so the second is none of its steps
  first_waits : (above : ℕ) → IsAtEnd conf tree xs above → (b.leg ≡ above) ⊎ (b.leg ≢ above) → IsAtEnd conf tree (xs ++ b ∷ []) above
  first_waits above ended (inl same) = λ leg at.
      let most : replay (xs ++ a ∷ b ∷ ys) above ≤ replay xs above = legal.sums above leg (replay xs above) at (ended leg at) in
      let sum : replay (xs ++ a ∷ b ∷ ys) above ≡ replay xs above + (steps_on above a + (steps_on above b + replay ys above)) =
      replay-append xs (a ∷ b ∷ ys) above in
      let own : steps_on above b ≡ b.steps = subst (λ n. steps_on n b ≡ b.steps) same (steps-same b) in
      let some : 0 < b.steps = second_before.some in
      absurd (omega (arith, most, sum, own, some))
  first_waits above ended (inr other) = ended_alike conf tree xs (xs ++ b ∷ []) above (sym (replay-others xs b above other)) ended

  first_second : MayFollow conf tree (xs ++ b ∷ []) a
  first_second = record {
    known = first_before.known;
    some = first_before.some;
    parent = λ leg above at is. first_waits above (first_before.parent leg above at is) (same_or_not b.leg above);
  }

  rest : (before after : List Event) (e : Event) → b ∷ a ∷ ys ≡ before ++ e ∷ after → MayFollow conf tree (xs ++ before) e
  rest [] after e is =
      subst (MayFollow conf tree (xs ++ [])) (cons-head b e (a ∷ ys) after is)
      (subst (λ (hs : List Event). MayFollow conf tree hs b) (sym (append-nil xs)) second_first)
  rest (p ∷ []) after e is =
      let tail : a ∷ ys ≡ e ∷ after = cons-tail b p (a ∷ ys) (e ∷ after) is in
      subst (λ (q : Event). MayFollow conf tree (xs ++ q ∷ []) e) (cons-head b p (a ∷ ys) (e ∷ after) is)
      (subst (MayFollow conf tree (xs ++ b ∷ [])) (cons-head a e ys after tail) first_second)
  rest (p ∷ q ∷ before) after e is =
      let tail : a ∷ ys ≡ q ∷ before ++ e ∷ after = cons-tail b p (a ∷ ys) (q ∷ before ++ e ∷ after) is in
      let more : ys ≡ before ++ e ∷ after = cons-tail a q ys (before ++ e ∷ after) tail in
      subst (λ (r : Event). MayFollow conf tree (xs ++ r ∷ q ∷ before) e) (cons-head b p (a ∷ ys) (q ∷ before ++ e ∷ after) is)
      (subst (λ (r : Event). MayFollow conf tree (xs ++ b ∷ r ∷ before) e) (cons-head a q ys (before ++ e ∷ after) tail)
      (follows_alike conf tree (xs ++ a ∷ b ∷ before) (xs ++ b ∷ a ∷ before) e (λ n. sym (replay-swap xs before a b n))
      (legal.events (xs ++ a ∷ b ∷ before) after e
      (ap (λ zs. xs ++ a ∷ b ∷ zs) more ∙ sym (append_assoc xs (a ∷ b ∷ before) (e ∷ after))))))

  pub swapped : Legal conf tree (xs ++ b ∷ a ∷ ys)
  swapped = record {
    events = of_two (MayFollow conf tree) xs (b ∷ a ∷ ys)
        (λ before after e is. legal.events before (after ++ a ∷ b ∷ ys) e
        (ap (λ zs. zs ++ a ∷ b ∷ ys) is ∙ append_assoc before (e ∷ after) (a ∷ b ∷ ys)))
        rest;
    sums = λ number leg steps at is. rw (replay-swap xs ys a b number) (legal.sums number leg steps at is);
  }

-- Below a leg that isn't at its end nothing is done.

module _ (conf : Conf) (tree : Batch) (history : List Event) (legal : Legal conf tree history) where
  -- a leg that was at its end stays there
  ended_stays : (before after : List Event) (number : ℕ) → history ≡ before ++ after
      → IsAtEnd conf tree before number → IsAtEnd conf tree history number
  ended_stays before after number is ended = λ leg at.
      let sum : replay (before ++ after) number ≡ replay before number + replay after number = replay-append before after number in
      let all : replay history number ≡ replay (before ++ after) number = ap (λ hs. replay hs number) is in
      let most : replay history number ≤ replay before number = legal.sums number leg (replay before number) at (ended leg at) in
      let same : replay before number ≡ replay history number = omega (arith, sum, all, most) in
      subst (IsLength conf tree leg) same (ended leg at)

  none_on : (number above : ℕ) (leg : Leg) → slice_get conf.legs number ≡ Some leg → leg.parent ≡ Some above
      → (IsAtEnd conf tree history above → ⊥)
      → (before after : List Event) → history ≡ before ++ after → replay after number ≡ 0
  none_on number above leg at is waiting before [] whole = refl
  none_on number above leg at is waiting before (e ∷ after) whole =
      let others : replay after number ≡ 0 =
      none_on number above leg at is waiting (before ++ e ∷ []) after (whole ∙ sym (append_assoc before (e ∷ []) after)) in
      let own : steps_on number e ≡ 0 = one (same_or_not e.leg number) in
      omega (arith, others, own)
    where
      one : (e.leg ≡ number) ⊎ (e.leg ≢ number) → steps_on number e ≡ 0
      one (inr other) = steps-other e number other
      one (inl same) =
          absurd (waiting (ended_stays before (e ∷ after) above whole
          ((legal.events before after e whole).parent leg above (ap (slice_get conf.legs) same ∙ at) is)))

-- a leg below one that isn't at its end has done no step
pub waits : (conf : Conf) (tree : Batch) (history : List Event) → Legal conf tree history
    → (number above : ℕ) (leg : Leg) → slice_get conf.legs number ≡ Some leg → leg.parent ≡ Some above
    → (IsAtEnd conf tree history above → ⊥) → replay history number ≡ 0
waits conf tree history legal number above leg at is waiting = none_on conf tree history legal number above leg at is waiting [] history refl

-- a leg that holds its result is at its end
pub over_is_end : (conf : Conf) (tree : Batch) (history : List Event) (number : ℕ) (leg : Leg) → Legal conf tree history
    → slice_get conf.legs number ≡ Some leg → is_over (state_alone conf tree leg (replay history number)) ≡ true
    → IsAtEnd conf tree history number
over_is_end conf tree history number leg legal at held = λ other found.
    let first : (n : ℕ) × IsFirst (λ k. is_over (state_alone conf tree leg k)) n =
    first_of_all (replay history number) (λ k. is_over (state_alone conf tree leg k)) held in
    let is : IsLength conf tree leg first.0 = record { ends = first.1.0; before = first.1.1 } in
    let fewer : first.0 ≤ replay history number = over_not_before conf tree leg first.0 (replay history number) is held in
    let most : replay history number ≤ first.0 = legal.sums number leg first.0 at is in
    let all : first.0 ≡ replay history number = omega (arith, fewer, most) in
    subst (λ (l : Leg). IsLength conf tree l (replay history number)) (some-leg leg other (sym at ∙ found))
    (subst (IsLength conf tree leg) all is)
  where
    some-leg : (x y : Leg) → Some x ≡ Some y → x ≡ y
    some-leg x y e = cc

-- a leg that isn't at its end, below one that is, has a turn, and this may follow
turn_of_length : (most : Option ℕ) (conf : Conf) (tree : Batch) (history : List Event) (number : ℕ) (leg : Leg) (total : ℕ)
    → IsLength conf tree leg total → Legal conf tree history → slice_get conf.legs number ≡ Some leg
    → ((above : ℕ) → leg.parent ≡ Some above → IsAtEnd conf tree history above)
    → is_over (state_alone conf tree leg (replay history number)) ≡ false
    → (steps : ℕ) × IsBurst most (state_alone conf tree leg) (replay history number) steps
    × Legal conf tree (history ++ record { leg = number; steps = steps } ∷ [])
turn_of_length most conf tree history number leg total is legal at ready begins =
    let under : replay history number < total = open_below conf tree leg total (replay history number) is begins in
    let b = has_burst most conf tree leg (replay history number) total is under in
    let event : Event = record { leg = number; steps = b.0 } in
    let may : MayFollow conf tree history event = record {
      some = b.1.some;
      known = slice_get_within conf.legs number leg at;
      parent = λ other above found below.
          ready above (ap (λ (l : Leg). l.parent) (some-inside leg other (sym at ∙ found)) ∙ below);
    } in (
      b.0,
      b.1,
      one_more conf tree history event legal may
          (burst_left most conf tree history event leg b.0 at b.1 (omega arith)),
    )
  where
    some-inside : (x y : Leg) → Some x ≡ Some y → x ≡ y
    some-inside x y e = cc

-- and it is the one that is meant
pub end_is_meant : (conf : Conf) (tree : Batch) (history : List Event) (number : ℕ) (leg : Leg)
    → slice_get conf.legs number ≡ Some leg → IsAtEnd conf tree history number
    → state_alone conf tree leg (replay history number) ≡ over (leg_outcome logs conf tree leg)
end_is_meant conf tree history number leg at ended =
    let all : replay history number ≡ replay history number + 0 = omega arith in
    ap (state_alone conf tree leg) all ∙ length_leaves conf tree leg (replay history number) 0 (ended leg at)

pub may_have_turn : (most : Option ℕ) (conf : Conf) (tree : Batch) (history : List Event) (number : ℕ) (leg : Leg)
    → Legal conf tree history → slice_get conf.legs number ≡ Some leg
    → ((above : ℕ) → leg.parent ≡ Some above → IsAtEnd conf tree history above)
    → is_over (state_alone conf tree leg (replay history number)) ≡ false
    → (steps : ℕ) × IsBurst most (state_alone conf tree leg) (replay history number) steps
    × Legal conf tree (history ++ record { leg = number; steps = steps } ∷ [])
may_have_turn most conf tree history number leg =
    let total = has_length conf tree leg in
    turn_of_length most conf tree history number leg total.0 total.1
