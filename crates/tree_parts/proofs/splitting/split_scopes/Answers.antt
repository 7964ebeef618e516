use Rattle.std.proofs.Common.{◌∙◌, ℕ, ap, drop, length, map, not}
use Rattle.tree_parts.proofs.splitting.split_scopes.Goals as goal
use Rattle.tree_parts.proofs.Parts.{rest_turn, scope_turn, turned}

pub loop-scope-preserved : goal.loop-scope-preserved
loop-scope-preserved c =
    let scope = c.in-Some.scope in let is = c.in-Some.ensures.steps.0 in
    let flags = c.loop-scope.rest.now in let after = c.behind-after.result.now in
    let on = c.behind-after.ensures ∙ ap (λ (n : ℕ). drop n flags) c.len.ensures in
    record {
      taken =
          scope_turn scope _ _ _ _ _ _ flags after is c.in_ok-parts.ensures.taken c.in_ok-logs.ensures.taken on
          c.loop-scope.invariant.taken;
      left =
          scope_turn scope _ _ _ _ _ _ (map not flags) (map not after) is c.in_ok-parts.ensures.left
          c.in_ok-logs.ensures.left (turned (length scope.logs) flags after on) c.loop-scope.invariant.left;
      rest = rest_turn scope _ _ flags after _ is on c.loop-scope.invariant.rest;
    }
