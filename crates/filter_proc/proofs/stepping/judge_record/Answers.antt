use Rattle.std.proofs.Common.{◌≡◌, ◌∙◌, ◌++◌, ℕ, Bool, List, [], ◌∷◌, length, ap, subst, sym, refl, take, set}
use Rattle.std.specs.Prelude.{not, true}
use Rattle.std.proofs.Math.Seq.{set-append_seam, take-append_seam}
use Rattle.conf_json.specs.Account.{Account}
use Rattle.conf_json.specs.declared.account.StepEnd.{StepEnd}
use Rattle.conf_json.specs.declared.account.StepEnd.TheVariants as end
use Rattle.proc_targets.specs.Ends.{end_at}
use Rattle.share_cow.specs.Store.{Store}
use Rattle.filter_proc.specs.Progress.{LeavesJudged}
use Rattle.filter_proc.specs.declared.cursor.Judged.{Judged}
use Rattle.filter_proc.proofs.Judging.{on_ok, same_judged}
use Rattle.filter_proc.proofs.Leaving.{leaves_on, leaves_stopped}
use Rattle.filter_proc.proofs.stepping.judge_record.Goals as goal

pub returns-in-Ok : goal.returns-in-Ok
returns-in-Ok c =
    let settings = c.args.site.now.settings.now in
    let root = c.args.site.now.root.now in
    let forest = c.args.forest.now in
    let j = c.args.judged.now in
    let k : Judged = record { places = j.places; flags = c.set.new.self } in
    let goes = c.in-Ok.goes in
    let pushed : c.push.new.self ≡ j.flags ++ true ∷ [] =
    on_ok (c.push.new.self ≡ j.flags ++ true ∷ []) c.push.result c.push.ensures.ok c.if-is_err.ensures.value in
    let flags : k.flags ≡ j.flags ++ not goes ∷ [] =
    c.set.ensures ∙ ap (λ (i : ℕ). set c.push.new.self i (not goes)) c.len-last.ensures
    ∙ ap (λ (fs : List Bool). set fs (length j.flags) (not goes)) pushed ∙ set-append_seam j.flags true [] (not goes) in
    subst (λ (f : Store). LeavesJudged settings root j k forest f c.args.book.now c.is_dropped.new.book end.More) (sym c.is_dropped.ensures.forest)
    (leaves_on settings root j k c.args.place forest c.args.book.now c.is_dropped.new.book goes c.requires.at c.in-Ok.ensures.value refl flags)

pub returns-in-Err : goal.returns-in-Err
returns-in-Err c =
    let settings = c.args.site.now.settings.now in
    let root = c.args.site.now.root.now in
    let forest = c.args.forest.now in
    let book = c.args.book.now in
    let j = c.args.judged.now in
    let k : Judged = record { places = j.places; flags = c.truncate.new.self } in
    let stop = c.in-Err.stop in
    let pushed : c.push.new.self ≡ j.flags ++ true ∷ [] =
    on_ok (c.push.new.self ≡ j.flags ++ true ∷ []) c.push.result c.push.ensures.ok c.if-is_err.ensures.value in
    let flags : k.flags ≡ j.flags =
    c.truncate.ensures ∙ ap (λ (i : ℕ). take i c.push.new.self) c.len-last.ensures
    ∙ ap (λ (fs : List Bool). take (length j.flags) fs) pushed ∙ take-append_seam j.flags (true ∷ []) in
    subst (λ (e : StepEnd). LeavesJudged settings root j k forest c.is_dropped.new.forest book c.is_dropped.new.book e) (sym c.end_of.ensures)
    (subst (λ (f : Store). LeavesJudged settings root j k forest f book c.is_dropped.new.book (end_at stop)) (sym c.is_dropped.ensures.forest)
    (subst (λ (a : Account). LeavesJudged settings root j k forest forest book a (end_at stop)) (sym c.in-Err.ensures.back)
    (subst (λ (l : Judged). LeavesJudged settings root j l forest forest book book (end_at stop)) (sym (same_judged k j refl flags))
    (leaves_stopped settings root j c.args.place forest book stop c.requires.at c.in-Err.ensures.value c.in-Err.ensures.failed))))
