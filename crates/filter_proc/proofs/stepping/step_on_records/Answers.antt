use Rattle.std.proofs.Common.{◌≡◌, ℕ, List, length, Some, subst, refl}
use Rattle.std.specs.Prelude.{slice_get}
use Rattle.std.proofs.lemmas.Option.{slice_get_read}
use Rattle.pdata_tree.specs.declared.place.Context.TheVariants.{Log}
use Rattle.pdata_tree.specs.declared.place.Place.{Place}
use Rattle.proc_targets.proofs.Inside.{target_inside}
use Rattle.share_cow.specs.Scene.{tree_of}
use Rattle.filter_proc.proofs.stepping.step_on_records.Goals as goal

pub returns-in_default : goal.returns-in_default
returns-in_default c = c.remove.ensures c.args.book.now

pub judge_record-requires-clause-inside : goal.judge_record-requires-clause-inside
judge_record-requires-clause-inside c =
    let place = c.in-Some.place.now in
    let found : slice_get c.args.judged.now.places c.len.result ≡ Some place =
    subst (λ (xs : List Place). slice_get xs c.len.result ≡ Some place) c.as_slice.ensures
    (slice_get_read c.as_slice.result.now (length c.as_slice.result.now) c.len.result place refl c.in-Some.ensures.lookup.3.0 c.in-Some.ensures.lookup.1) in
    target_inside (tree_of c.args.forest.now c.args.site.now.root.now) Log c.len.result place
    (subst (λ (xs : List Place). slice_get xs c.len.result ≡ Some place) c.requires.places found)

pub judge_record-requires-clause-at : goal.judge_record-requires-clause-at
judge_record-requires-clause-at c =
    let place = c.in-Some.place.now in
    subst (λ (i : ℕ). slice_get c.args.judged.now.places i ≡ Some place) c.len.ensures
    (subst (λ (xs : List Place). slice_get xs c.len.result ≡ Some place) c.as_slice.ensures
    (slice_get_read c.as_slice.result.now (length c.as_slice.result.now) c.len.result place refl c.in-Some.ensures.lookup.3.0 c.in-Some.ensures.lookup.1))
