use Rattle.std.proofs.Common.{◌≡◌, ◌++◌, ℕ, List, map, take, drop}
use Rattle.conf_shape.specs.Path.{pointer_of}
use Rattle.conf_draft.specs.References.{is_among}
use Rattle.conf_draft.specs.Limits.{paths_fault}
use Rattle.conf_draft.specs.Seen.{has}
use Rattle.conf_draft.proofs.limits.check_files.Given as goal

-- the names so far were seen
abbrev pub invariant-loop-name : goal.invariant-loop-name
invariant-loop-name l =
    (q : List ℕ) → has l.seen q ≡ is_among q (map (λ name. name.now) (take l.name-index l.taken))

-- the exporters left answer as all of them do, and the names and the paths before theirs were seen
abbrev pub invariant-loop-exporter : goal.invariant-loop-exporter
invariant-loop-exporter l =
    (paths_fault (pointer_of l.path) (map (λ name. name.now) l.taken ++ map (λ e. e.path) (take l.exporter-index l.exporters)) (drop l.exporter-index l.exporters)
    ≡ paths_fault (pointer_of l.path) (map (λ name. name.now) l.taken) l.exporters)
    × ((q : List ℕ) → has l.seen q ≡ is_among q (map (λ name. name.now) l.taken ++ map (λ e. e.path) (take l.exporter-index l.exporters)))
