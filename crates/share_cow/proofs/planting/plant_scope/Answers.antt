use Rattle.std.proofs.Common.{[], ◌∷◌, List, map, ap, subst, arith}
use Rattle.pdata_tree.specs.declared.record.LogRecord.{LogRecord}
use Rattle.share_cow.specs.Planting.{Grows}
use Rattle.share_cow.specs.Store.{Part, a_log, a_scope, scope_made, scope_level, log_level}
use Rattle.share_cow.proofs.Added.{add_keeps, grows_above}
use Rattle.share_cow.proofs.Growing.{logs_back}
use Rattle.share_cow.proofs.planting.plant_scope.Goals as goal

pub returns-in-Ok-clause-ok : goal.returns-in-Ok-clause-ok
returns-in-Ok-clause-ok c =
    let grown = grows_above scope_made c.args.scopes.now c.add_node.new.shelf c.in-Ok.place _ c.in-Ok.ensures.ok (log_level c.args.logs.now) (log_level c.plant_logs.new.logs) ([]) ([])
    (map a_log c.args.tree.logs) c.requires.counts c.in_ok-children.ensures.ok in
    subst (λ (parts : List Part). Grows (c.in-Ok.place ∷ []) parts (scope_level c.args.scopes.now) (scope_level c.add_node.new.shelf) (log_level c.args.logs.now ∷ ([])) (log_level c.plant_logs.new.logs ∷ ([])))
    (ap (λ (xs : List LogRecord). a_scope (record { node = c.args.tree.node; logs = xs }) ∷ []) (logs_back c.args.tree.logs)) grown

pub returns-in-Ok-clause-scopes : goal.returns-in-Ok-clause-scopes
returns-in-Ok-clause-scopes c =
    add_keeps c.args.scopes.now c.add_node.new.shelf c.in-Ok.place _ c.in-Ok.ensures.ok c.requires.scopes (omega arith) c.in_ok-children.ensures.short
