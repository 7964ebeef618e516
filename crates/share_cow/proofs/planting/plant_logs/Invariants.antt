use Rattle.std.proofs.Common.{◌≡◌, ◌≤◌, ◌++◌, [], List, length, map, vec_len, vec_capacity}
use Rattle.pdata_tree.specs.declared.record.LogRecord.{LogRecord}
use Rattle.share_cow.specs.Planting.{Grows, Keeps}
use Rattle.share_cow.specs.Store.{a_log, log_level}
use Rattle.share_cow.proofs.planting.plant_logs.Given as goal

-- those so far have come, and there is room for the places of all
abbrev pub invariant-loop-log : goal.invariant-loop-log
invariant-loop-log l =
    (goal.iterator-loop-log).can_next l.log-iterator
    × (goal.iterator-loop-log).is_finite l.log-iterator
    × ((done : List LogRecord) × (l.fn.list ≡ done ++ l.log-iterator.rest.items)
    × Grows l.places.items (map a_log done) (log_level l.fn.logs) (log_level l.logs) [] []
    × Keeps (length done) l.fn.logs l.logs
    × (vec_len l.places ≡ length done)
    × (length l.fn.list ≤ vec_capacity l.places))
