-- A row that is judged on the tree of a root.
use Rattle.std.proofs.Common.{◌≡◌, ◌∙◌, ◌<◌, ◌≤◌, ◌+◌, ℕ, zero, suc, Bool, List, [], ◌∷◌, ◌++◌, drop, length, Some, Result, Ok, Err, sym, ap, subst, refl, arith}
use Rattle.std.specs.Prelude.{OnOk, slice_get, slice_index_or}
use Rattle.std.proofs.Math.Seq.{drop-cons}
use Rattle.conf_json.specs.Account.{Account}
use Rattle.conf_json.specs.declared.account.Note.{Note}
use Rattle.conf_json.specs.declared.account.PlainStop.{PlainStop}
use Rattle.ottl_eval.specs.Stages.{Stage, stage}
use Rattle.ottl_eval.specs.Values.{holds}
use Rattle.ottl_plan.specs.declared.planned.PlannedCondition.{PlannedCondition}
use Rattle.pdata_tree.specs.Operations.{log_trees}
use Rattle.pdata_tree.specs.Places.{IsPlaceIn, targets}
use Rattle.pdata_tree.specs.declared.batch.Batch.{Batch}
use Rattle.pdata_tree.specs.declared.place.Context.{Context}
use Rattle.pdata_tree.specs.declared.place.Place.{Place}
use Rattle.proc_targets.proofs.Flags.{behind, behind_more}
use Rattle.proc_targets.proofs.Inside.{target_inside}
use Rattle.proc_targets.specs.Ends.{Ends}
use Rattle.proc_targets.specs.Judging.{◌>>=◌, no_pairs, truth_after}
use Rattle.proc_targets.specs.declared.spot.Spot.{Spot}
use Rattle.share_cow.specs.Scene.{tree_of}
use Rattle.share_cow.specs.Store.{Store, made}
use Rattle.routing_conn.specs.Bills.{parts_bill, row_bill}
use Rattle.routing_conn.specs.Meaning.{Judge, hits, matches, parted, row_gives}
use Rattle.routing_conn.specs.Rows.{PartsRow, Routes, row_trees}

at_index : (places : List Place) (i : ℕ) (d : Place) → i < length places → slice_get places i ≡ Some (slice_index_or places i d)
at_index [] i d within = absurd (omega (arith, within))
at_index (p ∷ places) zero d within = refl
at_index (p ∷ places) (suc i) d within = at_index places i d (omega (arith, within))

-- a target of a root's tree is in the tree
pub target_at : (old now : Store) (root : ℕ) (context : Context) (places : List Place) (i : ℕ) (d : Place) → now ≡ old
    → places ≡ targets (tree_of old root) context → i < length places → IsPlaceIn (tree_of now root) context (slice_index_or places i d)
target_at old now root context places i d same are within =
    subst (λ (f : Store). IsPlaceIn (tree_of f root) context (slice_index_or places i d)) (sym same)
    (target_inside (tree_of old root) context i (slice_index_or places i d)
    (subst (λ (ps : List Place). slice_get ps i ≡ Some (slice_index_or places i d)) are (at_index places i d within)))

abbrev stage_on : Store → ℕ → Context → Place → Stage Batch
stage_on forest root context place = stage (tree_of forest root) context place no_pairs

-- a condition that was judged on a scene is judged on the forest that it was lent
pub judged_on : (result : Result Bool PlainStop) (spot meant : Spot) (index : ℕ) (condition : PlannedCondition) (account now : Account)
    (given lent : Store) (at_first root : ℕ) (context_first context : Context) (place_first place : Place) → spot ≡ meant → given ≡ lent
    → at_first ≡ root → context_first ≡ context → place_first ≡ place
    → Ends now result (truth_after spot index (holds log_trees condition.expr (stage_on given at_first context_first place_first)) account)
    → Ends now result (truth_after meant index (holds log_trees condition.expr (stage_on lent root context place)) account)
judged_on result spot meant index condition account now given lent at_first root context_first context place_first place spot_is forest_is root_is
    context_is place_is h =
    let stages = ap (λ (f : Store). stage_on f at_first context_first place_first) forest_is
    ∙ ap (λ (r : ℕ). stage_on lent r context_first place_first) root_is
    ∙ ap (λ (c : Context). stage_on lent root c place_first) context_is
    ∙ ap (λ (p : Place). stage_on lent root context p) place_is in
    subst (λ (s : Stage Batch). Ends now result (truth_after meant index (holds log_trees condition.expr s) account)) stages
    (subst (λ (s : Spot). Ends now result
    (truth_after s index (holds log_trees condition.expr (stage_on given at_first context_first place_first)) account)) spot_is h)

-- what a call left that answered Ok
pub when_ok : {X E : Type 0} (P : Type 0) (result : Result X E) (value : X) → OnOk result P → result ≡ Ok value → P
when_ok P (Ok x) value h is = h
when_ok P (Err error) value h is = absurd (cc is)

-- one place more was judged
pub hits_on : (judge : Judge) (tree later : Batch) (places : List Place) (i : ℕ) (d : Place) (flags more : List Bool) (hit : Bool) (a b : Account)
    → later ≡ tree → i < length places → more ≡ flags ++ hit ∷ [] → matches log_trees judge tree (slice_index_or places i d) a ≡ Ok (hit, b)
    → behind more (hits log_trees judge later (drop (i + 1) places) b) ≡ behind flags (hits log_trees judge tree (drop i places) a)
hits_on judge tree later places i d flags more hit a b same within pushed judged =
    let next : suc i ≡ i + 1 = omega arith in
    let rest = hits log_trees judge tree (drop (i + 1) places) in
    ap (λ (t : Batch). behind more (hits log_trees judge t (drop (i + 1) places) b)) same
    ∙ ap (λ (front : List Bool). behind front (rest b)) pushed
    ∙ behind_more flags hit (rest b)
    ∙ ap (λ (first : Result (Bool × Account) Note).
    behind flags (first >>= λ first. rest first.1 >>= λ others. Ok (first.0 ∷ others.0, others.1))) (sym judged)
    ∙ ap (λ (ps : List Place). behind flags (hits log_trees judge tree ps a))
    (sym (drop-cons places i d within ∙ ap (λ (n : ℕ). slice_index_or places i d ∷ drop n places) next))

-- a row was judged on a root's tree, which was parted
module _ (judge : Judge) (old now new : Store) (rest taken : ℕ) (flags : List Bool) (a b : Account) (same : now ≡ old)
    (judged : hits log_trees judge (tree_of old rest) (targets (tree_of old rest) judge.row.context) a ≡ Ok (flags, b))
    (parts : PartsRow judge.row flags rest taken now new) where
  pub row_given : row_gives log_trees judge (tree_of old rest) a ≡ Ok (row_trees new rest taken, b)
  row_given =
      ap (λ (r : Result (List Bool × Account) Note). r >>= λ hit. Ok (parted log_trees judge.row hit.0 (tree_of old rest), hit.1)) judged
      ∙ ap (λ (trees : Batch × Batch). Ok (trees, b))
      (subst (λ (f : Store). parted log_trees judge.row flags (tree_of f rest) ≡ row_trees new rest taken) same parts.trees)

  pub row_made : made new ≤ made old + row_bill judge.row (row_gives log_trees judge (tree_of old rest) a)
  row_made =
      let bill : row_bill judge.row (row_gives log_trees judge (tree_of old rest) a) ≡ parts_bill judge.row.action (row_trees new rest taken) =
      ap (row_bill judge.row) row_given in
      omega (arith, parts.made, bill, ap made same)

  pub row_routes : Routes rest old new (taken ∷ [])
  row_routes = subst (λ (f : Store). Routes rest f new (taken ∷ [])) same parts.routes
