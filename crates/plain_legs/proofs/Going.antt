-- What legs left so far, and the legs that are left.
use Rattle.std.proofs.Common.{◌≡◌, ◌||◌, is_none, true, ℕ, zero, suc, ◌+◌, ◌-◌, ◌<◌, ◌≤◌, List, [], ◌∷◌, ◌++◌, length, map, take, drop, get_or, Some, None, slice_get, option_map, refl, sym, ap, ◌∙◌, subst, arith, append_assoc, append-nil, length-append}
use Rattle.std.proofs.lemmas.List.{length-map, map-append}
use Rattle.std.proofs.lemmas.Option.{slice_get-map}
use Rattle.std.proofs.lemmas.List.{take_rest}
use Rattle.graph_build.specs.Conf.{Conf}
use Rattle.graph_build.specs.declared.leg.Leg.{Leg}
use Rattle.leg_model.specs.Course.{Outcome, outcome}
use Rattle.leg_model.specs.Facts.{ParentsFirst}
use Rattle.leg_model.specs.Exports.{logs}
use Rattle.leg_model.specs.Legs.{gets, leg_outcome}
use Rattle.leg_model.specs.Parts.{parts_of}
use Rattle.pdata_tree.specs.Grouping.{grouped}
use Rattle.pdata_tree.specs.Operations.{log_trees}
use Rattle.pdata_tree.specs.declared.batch.Batch.{Batch}
use Rattle.plain_legs.specs.Views.{entry_by, has_root, outcome_of, parts_in, HaveParts}
use Rattle.plain_legs.specs.declared.outcome.LegOutcome.{LegOutcome}
use Rattle.plain_legs.specs.declared.parts.PipelineParts.{PipelineParts}
use Rattle.pdata_value.proofs.Bools.{or_true}
use Rattle.plain_legs.proofs.Entries.{entry_is, same_entry, Left}

-- the first legs left what is meant, and these legs are left, with these parts and this tree
pub record IsGoing (conf : Conf) (tree kept : Batch) (left : List LegOutcome) (legs : List Leg) (parts : List PipelineParts) : Type 0 where
  pub whole : map outcome_of left ++ map (leg_outcome logs conf tree) legs ≡ map (leg_outcome logs conf tree) conf.legs
  pub rest : (k : ℕ) → slice_get conf.legs (length left + k) ≡ slice_get legs k
  pub fit : HaveParts conf.meant legs parts
  -- the payload's tree is there for a leg that gets it
  pub whole_tree : has_root legs ≡ true → kept ≡ tree

-- before an end, an item is one of the first
first_get : {X : Type 0} → (xs ys : List X) (p : ℕ) → p < length xs → slice_get (xs ++ ys) p ≡ slice_get xs p
first_get [] ys p less = absurd (omega (arith, less))
first_get (x ∷ xs) ys zero less = refl
first_get (x ∷ xs) ys (suc p) less = first_get xs ys p (omega (arith, less))

known : (conf : Conf) (tree kept : Batch) (left : List LegOutcome) (legs : List Leg) (parts : List PipelineParts)
    → IsGoing conf tree kept left legs parts → Left conf tree (length left) (map outcome_of left)
known conf tree kept left legs parts g p less q at =
    sym (first_get (map outcome_of left) (map (leg_outcome logs conf tree) legs) p (omega (arith, less, length-map left outcome_of)))
    ∙ ap (λ (os : List (Outcome Batch)). slice_get os p) g.whole
    ∙ slice_get-map (leg_outcome logs conf tree) conf.legs p
    ∙ ap (option_map (leg_outcome logs conf tree)) at

pub legs_start : (conf : Conf) (tree : Batch) (parts : List PipelineParts) → HaveParts conf.meant conf.legs parts
    → IsGoing conf tree tree [] conf.legs parts
legs_start conf tree parts fit = record {
  whole = refl;
  rest = λ k. ap (slice_get conf.legs) (omega (arith));
  fit = fit;
  whole_tree = λ root. refl;
}

-- the first of the legs that are left
head_is : (conf : Conf) (tree kept : Batch) (left : List LegOutcome) (leg : Leg) (legs : List Leg)
    (own : PipelineParts) (parts : List PipelineParts) → IsGoing conf tree kept left (leg ∷ legs) (own ∷ parts)
    → slice_get conf.legs (length left) ≡ Some leg
head_is conf tree kept left leg legs own parts g =
    let none : length left ≡ length left + 0 = omega (arith) in
    ap (slice_get conf.legs) none ∙ g.rest 0

-- what it leaves, of what it gets
left_is : (conf : Conf) → ParentsFirst conf.legs → (tree kept entry : Batch) (left : List LegOutcome) (leg : Leg) (legs : List Leg)
    (own : PipelineParts) (parts : List PipelineParts) (new : LegOutcome)
    → IsGoing conf tree kept left (leg ∷ legs) (own ∷ parts)
    → entry ≡ entry_by leg (map outcome_of left) kept
    → outcome_of new ≡ outcome log_trees grouped (parts_in own) entry
    → outcome_of new ≡ leg_outcome logs conf tree leg
left_is conf first tree kept entry left leg legs own parts new g entry_is_so new_is =
    let own_is : parts_in own ≡ parts_of conf.meant leg.pipeline = let e = g.fit in cc in
    let head = head_is conf tree kept left leg legs own parts g in
    let before = known conf tree kept left (leg ∷ legs) (own ∷ parts) g in
    let root : leg.parent ≡ None → kept ≡ tree = λ none. g.whole_tree (ap (λ p. is_none p || has_root legs) none) in
    let got : entry ≡ gets logs conf tree (length conf.legs) leg =
    entry_is_so ∙ same_entry conf first tree kept (length left) leg head (map outcome_of left) before root
    ∙ entry_is conf first tree (length left) leg head (map outcome_of left) before in
    new_is ∙ ap (λ p. outcome log_trees grouped p entry) own_is
    ∙ ap (λ t. outcome log_trees grouped (parts_of conf.meant leg.pipeline) t) got

legs_go : (conf : Conf) → ParentsFirst conf.legs → (tree kept next_kept entry : Batch) (left more : List LegOutcome) (leg : Leg) (legs : List Leg)
    (own : PipelineParts) (parts : List PipelineParts) (new : LegOutcome)
    → IsGoing conf tree kept left (leg ∷ legs) (own ∷ parts)
    → entry ≡ entry_by leg (map outcome_of left) kept
    → (has_root legs ≡ true → next_kept ≡ kept)
    → outcome_of new ≡ outcome log_trees grouped (parts_in own) entry
    → more ≡ left ++ new ∷ [] → IsGoing conf tree next_kept more legs parts
legs_go conf first tree kept next_kept entry left more leg legs own parts new g entry_is_so stays new_is more_is = record {
  whole =
      ap (λ ms. map outcome_of ms ++ map (leg_outcome logs conf tree) legs) more_is
      ∙ ap (λ os. os ++ map (leg_outcome logs conf tree) legs) (map-append outcome_of left (new ∷ []))
      ∙ append_assoc (map outcome_of left) (outcome_of new ∷ []) (map (leg_outcome logs conf tree) legs)
      ∙ ap (λ o. map outcome_of left ++ (o ∷ map (leg_outcome logs conf tree) legs))
      (left_is conf first tree kept entry left leg legs own parts new g entry_is_so new_is)
      ∙ g.whole;
  rest = λ k.
      let next : length more + k ≡ length left + suc k =
      omega (arith, ap (length {A = LegOutcome}) more_is, length-append {A = LegOutcome}) in
      ap (slice_get conf.legs) next ∙ g.rest (suc k);
  fit = let e = g.fit in cc;
  whole_tree = λ root. stays root ∙ g.whole_tree (or_true (is_none leg.parent) (has_root legs) root);
}

-- a list by its first item and the rest
pub by_first : {X : Type 0} (xs : List X) (x : X) → 1 ≤ length xs → x ≡ get_or xs 0 x
    → xs ≡ x ∷ take (length xs - 1) (drop 1 xs)
by_first [] x some is = absurd (omega (arith, some))
by_first (y ∷ ys) x some is =
    ap (λ z. z ∷ ys) (sym is) ∙ ap (λ zs. x ∷ zs) (sym (take_rest (y ∷ ys) 1))

-- one turn of the loop over legs
pub legs_turn : (conf : Conf) → ParentsFirst conf.legs → (tree kept next_kept entry : Batch) (left more : List LegOutcome) (leg : Leg) (all legs : List Leg)
    (own : PipelineParts) (both parts : List PipelineParts) (new : LegOutcome)
    → all ≡ leg ∷ legs → both ≡ own ∷ parts
    → entry ≡ entry_by leg (map outcome_of left) kept
    → (has_root legs ≡ true → next_kept ≡ kept)
    → outcome_of new ≡ outcome log_trees grouped (parts_in own) entry
    → more ≡ left ++ new ∷ [] → IsGoing conf tree kept left all both → IsGoing conf tree next_kept more legs parts
legs_turn conf first tree kept next_kept entry left more leg all legs own both parts new all_is both_is entry_is_so stays new_is more_is g =
    legs_go conf first tree kept next_kept entry left more leg legs own parts new
    (subst (λ ls. IsGoing conf tree kept left ls (own ∷ parts)) all_is
    (subst (λ ps. IsGoing conf tree kept left all ps) both_is g))
    entry_is_so stays new_is more_is

-- there is no part without a leg
pub no_leg : (conf : Conf) (tree kept : Batch) (left : List LegOutcome) (own : PipelineParts) (parts : List PipelineParts)
    → IsGoing conf tree kept left [] (own ∷ parts) → IsGoing conf tree kept left [] parts
no_leg conf tree kept left own parts g = absurd (let e = g.fit in cc)

-- where no part is left, no leg is
pub legs_end : (conf : Conf) (tree kept : Batch) (left : List LegOutcome) (legs : List Leg) → IsGoing conf tree kept left legs []
    → map outcome_of left ≡ map (leg_outcome logs conf tree) conf.legs
legs_end conf tree kept left [] g = sym (append-nil (map outcome_of left)) ∙ g.whole
legs_end conf tree kept left (leg ∷ legs) g = absurd (let e = g.fit in cc)

pub ruleset legs_go_on = (legs_turn, legs_start, no_leg, legs_end)
