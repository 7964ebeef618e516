use Rattle.std.proofs.Common.{[], ◌∷◌, ◌++◌, List, length, map, ap, sym, ◌∙◌, append_assoc, arith}
use Rattle.std.proofs.lemmas.List.{length-append, map-append}
use Rattle.pdata_tree.specs.declared.record.LogRecord.{LogRecord}
use Rattle.share_cow.specs.Store.{Part, a_log, log_level}
use Rattle.share_cow.proofs.Growing.{grows_none, grows_on, keeps_none, keeps_on, spent_by, spent_refl}
use Rattle.share_cow.proofs.planting.plant_logs.Goals as goal

pub loop-log-init : goal.loop-log-init
loop-log-init c = (
  tt,
  tt,
  (
    [],
    sym (c.into_iter-log-iterator.ensures.into_iter_gives.0 ∙ c.into_vec-log-items.ensures),
    rw c.in_ok-places.ensures.items (grows_none (log_level c.args.logs.now) [] tt),
    keeps_none c.args.logs.now c.requires,
    c.in_ok-places.ensures.len,
    omega (arith, c.in_ok-places.ensures.capacity, c.len.ensures),
  ),
)

pub loop-log-preserved : goal.loop-log-preserved
loop-log-preserved c =
    let so_far = c.loop-log.invariant.2 in (
      tt,
      tt,
      (
        so_far.0 ++ c.in-Some.log ∷ [],
        so_far.1 ∙ ap (λ (xs : List LogRecord). so_far.0 ++ xs) c.in-Some.ensures.steps.0 ∙ sym (append_assoc so_far.0 (c.in-Some.log ∷ []) c.next.new.self.rest.items),
        rw (c.push_reserved.ensures.items, map-append {A = LogRecord} {B = Part} a_log so_far.0 (c.in-Some.log ∷ []))
            (grows_on c.loop-log.places.items (c.in-Ok.place ∷ []) (map a_log so_far.0) (a_log c.in-Some.log ∷ []) (log_level c.args.logs.now) (log_level c.loop-log.logs) (log_level c.plant_log.new.logs) [] [] []
            so_far.2 c.in-Ok.ensures.ok),
        rw (length-append so_far.0 (c.in-Some.log ∷ [])) (keeps_on c.args.logs.now c.loop-log.logs c.plant_log.new.logs (length so_far.0) 1 so_far.3 c.in-Ok.ensures.kept),
        omega (arith, c.push_reserved.ensures.len, so_far.4, length-append so_far.0 (c.in-Some.log ∷ [])),
        omega (arith, c.push_reserved.ensures.capacity, so_far.5),
      ),
    )

pub returns-in-Err-clause-err_logs : goal.returns-in-Err-clause-err_logs
returns-in-Err-clause-err_logs c =
    let so_far = c.loop-log.invariant.2 in
    let refused = rw c.in-Err.ensures.err at c.lower_logs.ensures.logs in
    spent_by c.args.logs.now c.loop-log.logs c.loop-log.logs c.lower_logs.new.logs (length so_far.0) c.requires so_far.3 (spent_refl c.loop-log.logs so_far.3.kept) refused
