-- What calls after one another leave of the roots of a forest.
use Rattle.std.proofs.Common.{◌≡◌, ◌≢◌, ◌∙◌, ◌+◌, ◌⊎◌, inl, inr, ℕ, List, [], ◌∷◌, ◌++◌, length, None, sym, subst, refl, arith}
use Rattle.std.specs.Prelude.{Contains}
use Rattle.std.proofs.lemmas.List.{length-append}
use Rattle.std.proofs.lemmas.List.Elements.{Contains-append_cases, Contains-append_left, Contains-append_right}
use Rattle.fanout.specs.Handing.{AreApart}
use Rattle.share_cow.specs.Kept.{OthersStay, SameTree, SharesWith}
use Rattle.share_cow.specs.Store.{IsLiveRoot, Store, made, root_at, spare}
use Rattle.routing_conn.specs.Given.{Gave, GivesUp}
use Rattle.routing_conn.specs.Rows.{Routes}
use Rattle.routing_conn.proofs.Lists.{apart_both, apart_last, first_or_later, first_there, free_apart, free_of, later_there, none_there, not_both, one_there, same_or_not}

pub same_here : (s : Store) (root : ℕ) → SameTree s s root
same_here s root = record { tree = refl; live = (λ h. h, λ h. h) }

pub same_on : (s t u : Store) (root : ℕ) → SameTree s t root → SameTree t u root → SameTree s u root
same_on s t u root a b = record { tree = b.tree ∙ a.tree; live = (λ h. a.live.0 (b.live.0 h), λ h. b.live.1 (a.live.1 h)) }

-- Rows.

pub routes_none : (rest : ℕ) (s : Store) → IsLiveRoot s rest → Routes rest s s []
routes_none rest s live = record {
  own = live;
  live = λ r h. absurd (none_there r h);
  fresh = λ r h. absurd (none_there r h);
  apart = tt;
  no_other = λ r h. inl h;
  trees = λ r h apart. same_here s r;
  shared = λ r h apart. omega arith;
  spare = omega arith;
  grew = omega arith;
}

-- rows after rows
module _ (rest : ℕ) (old now new : Store) (rows more : List ℕ) (lived : IsLiveRoot old rest) (before : Routes rest old now rows) (step : Routes rest now new more) where
  stays_live : (r : ℕ) → Contains rows r ⊎ Contains more r → IsLiveRoot new r
  stays_live r (inl h) =
      let live = before.live r h in
      (step.trees r live (λ is. not_both old rest lived (subst (λ (q : ℕ). root_at old q ≡ None) is (before.fresh r h)))).live.1 live
  stays_live r (inr h) = step.live r h

  was_free : (r : ℕ) → Contains rows r ⊎ Contains more r → root_at old r ≡ None
  was_free r (inl h) = before.fresh r h
  was_free r (inr h) =
      let free = step.fresh r h in
      free_of old r
      (λ live. not_both now r
      ((before.trees r live (λ is. free_apart now rest r before.own free (sym is))).live.1 live) free)

  one_of_all : (r : ℕ) → IsLiveRoot now r ⊎ Contains more r → IsLiveRoot old r ⊎ Contains (rows ++ more) r
  one_of_all r (inl live) = elim (before.no_other r live) [
    | inl there ↦ inl there
    | inr h ↦ inr (Contains-append_left rows more r h)
  ]
  one_of_all r (inr h) = inr (Contains-append_right rows more r h)

  pub routes_on : Routes rest old new (rows ++ more)
  routes_on = record {
    own = step.own;
    live = λ r h. stays_live r (Contains-append_cases rows more r h);
    fresh = λ r h. was_free r (Contains-append_cases rows more r h);
    apart = apart_both rows more before.apart step.apart (λ r h k. not_both now r (before.live r h) (step.fresh r k));
    no_other = λ r live. one_of_all r (step.no_other r live);
    trees = λ r live apart. let a = before.trees r live apart in same_on old now new r a (step.trees r (a.live.1 live) apart);
    shared = λ r live apart.
        omega (arith, before.shared r live apart, step.shared r ((before.trees r live apart).live.1 live) apart);
    spare = omega (arith, before.spare, step.spare, length-append rows more);
    grew = omega (arith, before.grew, step.grew);
  }

-- A share of the lent root is routed.
module _ (lent rest : ℕ) (old mid new : Store) (rows : List ℕ) (shares : SharesWith lent rest old mid) (live : IsLiveRoot mid rest)
    (fresh : root_at old rest ≡ None) (entries : spare mid + 1 ≡ spare old) (count : made mid ≡ made old) (step : Routes rest mid new rows) where
  isnt_rest : (r : ℕ) → IsLiveRoot old r → r ≢ rest
  isnt_rest r lived = free_apart old r rest lived fresh

  all_live : (r : ℕ) → (r ≡ rest) ⊎ Contains rows r → IsLiveRoot new r
  all_live r (inl is) = subst (IsLiveRoot new) (sym is) step.own
  all_live r (inr h) = step.live r h

  all_fresh : (r : ℕ) → (r ≡ rest) ⊎ Contains rows r → root_at old r ≡ None
  all_fresh r (inl is) = subst (λ (q : ℕ). root_at old q ≡ None) (sym is) fresh
  all_fresh r (inr h) =
      free_of old r (λ lived. not_both mid r ((shares.trees r (isnt_rest r lived)).live.1 lived) (step.fresh r h))

  old_or_rest : (r : ℕ) → IsLiveRoot mid r → (r ≡ rest) ⊎ (r ≢ rest) → IsLiveRoot old r ⊎ Contains (rest ∷ rows) r
  old_or_rest r there (inl is) = inr (subst (λ (q : ℕ). Contains (rest ∷ rows) q) (sym is) (first_there rest rows))
  old_or_rest r there (inr isnt) = inl ((shares.trees r isnt).live.0 there)

  no_more : (r : ℕ) → IsLiveRoot mid r ⊎ Contains rows r → IsLiveRoot old r ⊎ Contains (rest ∷ rows) r
  no_more r (inl there) = old_or_rest r there (same_or_not r rest)
  no_more r (inr h) = inr (later_there rest r rows h)

  pub gave_all : Gave lent old new (rest ∷ rows)
  gave_all = record {
    live = λ r h. all_live r (first_or_later rest r rows h);
    fresh = λ r h. all_fresh r (first_or_later rest r rows h);
    apart = (λ h. not_both mid rest live (step.fresh rest h), step.apart);
    no_other = λ r there. no_more r (step.no_other r there);
    trees = λ r lived.
        let a = shares.trees r (isnt_rest r lived) in
        same_on old mid new r a (step.trees r (a.live.1 lived) (isnt_rest r lived));
    shared = λ r lived apart.
        omega (
          arith,
          shares.shared r (isnt_rest r lived) apart,
          step.shared r ((shares.trees r (isnt_rest r lived)).live.1 lived) (isnt_rest r lived),
        );
    spare = omega (arith, entries, step.spare);
    grew = omega (arith, count, step.grew);
  }

-- Roots that are given up.

pub gave_none : (lent : ℕ) (s : Store) → Gave lent s s []
gave_none lent s = record {
  live = λ r h. absurd (none_there r h);
  fresh = λ r h. absurd (none_there r h);
  apart = tt;
  no_other = λ r h. inl h;
  trees = λ r h. same_here s r;
  shared = λ r h apart. omega arith;
  spare = omega arith;
  grew = omega arith;
}

-- some of those that were given are given up, and others are left
module _ (lent : ℕ) (old now new : Store) (given gone left : List ℕ) (gave : Gave lent old now given) (up : GivesUp gone now new) (apart : AreApart left)
    (goes : (r : ℕ) → Contains gone r → Contains given r) (stays : (r : ℕ) → Contains left r → Contains given r)
    (either : (r : ℕ) → Contains given r → Contains left r ⊎ Contains gone r) (not_two : (r : ℕ) → Contains left r → Contains gone r → ⊥)
    (count : length given ≡ length left + length gone) where
  isnt_gone : (r : ℕ) → IsLiveRoot old r → Contains gone r → ⊥
  isnt_gone r lived h = not_both old r lived (gave.fresh r (goes r h))

  left_or_old : (r : ℕ) → (Contains gone r → ⊥) → IsLiveRoot old r ⊎ Contains given r → IsLiveRoot old r ⊎ Contains left r
  left_or_old r here (inl lived) = inl lived
  left_or_old r here (inr h) = elim (either r h) [ inl k ↦ inr k | inr k ↦ absurd (here k) ]

  pub gave_back : Gave lent old new left
  gave_back = record {
    live = λ r h. (up.trees r (not_two r h)).live.1 (gave.live r (stays r h));
    fresh = λ r h. gave.fresh r (stays r h);
    apart = apart;
    no_other = λ r live.
        let here : Contains gone r → ⊥ = λ h. not_both new r live (up.gone r h) in
        left_or_old r here (gave.no_other r ((up.trees r here).live.0 live));
    trees = λ r lived. same_on old now new r (gave.trees r lived) (up.trees r (isnt_gone r lived));
    shared = λ r lived apart. omega (arith, gave.shared r lived apart, up.shared r (isnt_gone r lived));
    spare = omega (arith, gave.spare, up.spare, count);
    grew = omega (arith, gave.grew, up.made);
  }

pub up_none : (s : Store) → GivesUp [] s s
up_none s = record {
  gone = λ r h. absurd (none_there r h);
  trees = λ r here. same_here s r;
  shared = λ r here. omega arith;
  spare = omega arith;
  made = refl;
}

-- the last one is given up, and then those before it
module _ (front : List ℕ) (last : ℕ) (old now new : Store) (apart : AreApart (front ++ last ∷ [])) (free : root_at now last ≡ None)
    (others : OthersStay last old now) (entries : spare now ≡ spare old + 1) (count : made now ≡ made old) (up : GivesUp front now new) where
  all_gone : (r : ℕ) → Contains front r ⊎ Contains (last ∷ []) r → root_at new r ≡ None
  all_gone r (inl h) = up.gone r h
  all_gone r (inr h) =
      subst (λ (q : ℕ). root_at new q ≡ None) (sym (one_there last r h))
      (free_of new last (λ live. not_both now last ((up.trees last (apart_last front last apart)).live.0 live) free))

  isnt_last : (r : ℕ) → (Contains (front ++ last ∷ []) r → ⊥) → r ≢ last
  isnt_last r here is =
      here (subst (λ (q : ℕ). Contains (front ++ last ∷ []) q) (sym is) (Contains-append_right front (last ∷ []) last (first_there last [])))

  isnt_before : (r : ℕ) → (Contains (front ++ last ∷ []) r → ⊥) → Contains front r → ⊥
  isnt_before r here h = here (Contains-append_left front (last ∷ []) r h)

  pub up_more : GivesUp (front ++ last ∷ []) old new
  up_more = record {
    gone = λ r h. all_gone r (Contains-append_cases front (last ∷ []) r h);
    trees = λ r here. same_on old now new r (others.trees r (isnt_last r here)) (up.trees r (isnt_before r here));
    shared = λ r here. omega (arith, others.shared r (isnt_last r here), up.shared r (isnt_before r here));
    spare = omega (arith, entries, up.spare, length-append front (last ∷ []));
    made = up.made ∙ count;
  }

-- of the roots that rows and the rest were given, all are given up: first those of the rows, then the rest
module _ (lent rest : ℕ) (old now mid new : Store) (rows : List ℕ) (gave : Gave lent old now (rest ∷ rows)) (up : GivesUp rows now mid) where
  pub rest_given : Gave lent old mid (rest ∷ [])
  rest_given =
      gave_back lent old now mid (rest ∷ rows) rows (rest ∷ []) gave up (λ h. none_there rest h, tt) (λ r h. later_there rest r rows h)
      (λ r h. subst (λ (q : ℕ). Contains (rest ∷ rows) q) (sym (one_there rest r h)) (first_there rest rows))
      (λ r h. elim (first_or_later rest r rows h) [
        | inl is ↦ inl (subst (λ (q : ℕ). Contains (rest ∷ []) q) (sym is) (first_there rest []))
        | inr k ↦ inr k
      ])
      (λ r h k. gave.apart.0 (subst (λ (q : ℕ). Contains rows q) (one_there rest r h) k)) (omega arith)

  pub rest_live : IsLiveRoot mid rest
  rest_live = rest_given.live rest (first_there rest [])

  pub none_given : root_at new rest ≡ None → OthersStay rest mid new → spare new ≡ spare mid + 1 → made new ≡ made mid → Gave lent old new []
  none_given free others entries count =
      gave_back lent old mid new (rest ∷ []) (rest ∷ []) [] rest_given
      (up_more [] rest mid new new (λ h. none_there rest h, tt) free others entries count (up_none new)) tt (λ r h. h) (λ r h. absurd (none_there r h))
      (λ r h. inr h) (λ r h. absurd (none_there r h)) (omega arith)
