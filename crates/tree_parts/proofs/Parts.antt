-- One scope after another, and one resource.
use Rattle.std.proofs.Common.{◌≡◌, ◌∙◌, ℕ, ◌+◌, zero, suc, Bool, List, [], ◌∷◌, ◌++◌, drop, length, map, not, refl, sym, ap, arith, append_assoc}
use Rattle.pdata_tree.specs.Selecting.{flagged, kept_in, kept_scopes, resource_with, scope_with}
use Rattle.pdata_tree.specs.Tree.{records_of_scopes}
use Rattle.pdata_tree.specs.declared.record.LogRecord.{LogRecord}
use Rattle.pdata_tree.specs.declared.resource.ResourceTree.{ResourceTree}
use Rattle.pdata_tree.specs.declared.scope.ScopeTree.{ScopeTree}

-- what was pushed of a scope is what is kept of it
pub scope_on : (s : ScopeTree) (ss before now total : List ScopeTree) (flags after : List Bool)
    → now ≡ before ++ scope_with s (flagged flags s.logs) → after ≡ drop (length s.logs) flags
    → before ++ kept_scopes flags (s ∷ ss) ≡ total → now ++ kept_scopes after ss ≡ total
scope_on s ss before now total flags after more on inv =
    let here : List ScopeTree = scope_with s (flagged flags s.logs) in
    let all : before ++ (here ++ kept_scopes (drop (length s.logs) flags) ss) ≡ total = inv in
    ap (λ ys. ys ++ kept_scopes after ss) more ∙ append_assoc before here (kept_scopes after ss)
    ∙ ap (λ fs. before ++ (here ++ kept_scopes fs ss)) on ∙ all

-- what was pushed of a resource is what is kept of it
pub resource_on : (r : ResourceTree) (rs before now total : List ResourceTree) (flags after : List Bool)
    → now ≡ before ++ resource_with r (kept_scopes flags r.scopes) → after ≡ drop (records_of_scopes r.scopes) flags
    → before ++ kept_in flags (r ∷ rs) ≡ total → now ++ kept_in after rs ≡ total
resource_on r rs before now total flags after more on inv =
    let here : List ResourceTree = resource_with r (kept_scopes flags r.scopes) in
    let all : before ++ (here ++ kept_in (drop (records_of_scopes r.scopes) flags) rs) ≡ total = inv in
    ap (λ ys. ys ++ kept_in after rs) more ∙ append_assoc before here (kept_in after rs)
    ∙ ap (λ fs. before ++ (here ++ kept_in fs rs)) on ∙ all

drop_none : (n : ℕ) → drop {A = Bool} n [] ≡ []
drop_none zero = refl
drop_none (suc n) = refl

drop_more : (n m : ℕ) (flags : List Bool) → drop m (drop n flags) ≡ drop (n + m) flags
drop_more zero m flags = let e : m ≡ 0 + m = omega arith in ap (λ (k : ℕ). drop k flags) e
drop_more (suc n) m [] = drop_none m ∙ sym (drop_none (suc n + m))
drop_more (suc n) m (flag ∷ flags) =
    let e : suc (n + m) ≡ suc n + m = omega arith in drop_more n m flags ∙ ap (λ (k : ℕ). drop k (flag ∷ flags)) e

drop_not : (n : ℕ) (flags : List Bool) → map not (drop n flags) ≡ drop n (map not flags)
drop_not zero flags = refl
drop_not (suc n) [] = refl
drop_not (suc n) (flag ∷ flags) = drop_not n flags

-- a scope that is pushed holds the log records that are kept of it
kept_scope : (s : ScopeTree) (logs : List LogRecord) → scope_with (record { node = s.node; logs = logs }) logs ≡ scope_with s logs
kept_scope s [] = refl
kept_scope s (l ∷ logs) = refl

kept_resource : (r : ResourceTree) (scopes : List ScopeTree) → resource_with (record { node = r.node; scopes = scopes }) scopes ≡ resource_with r scopes
kept_resource r [] = refl
kept_resource r (s ∷ scopes) = refl

-- one turn over scopes
pub scope_turn : (s : ScopeTree) (all ss before now total : List ScopeTree) (logs : List LogRecord) (flags after : List Bool)
    → all ≡ s ∷ ss → now ≡ before ++ scope_with (record { node = s.node; logs = logs }) logs → logs ≡ flagged flags s.logs
    → after ≡ drop (length s.logs) flags → before ++ kept_scopes flags all ≡ total → now ++ kept_scopes after ss ≡ total
scope_turn s all ss before now total logs flags after is more kept on inv =
    scope_on s ss before now total flags after (more ∙ ap (λ ys. before ++ ys) (kept_scope s logs ∙ ap (scope_with s) kept)) on
    (sym (ap (λ xs. before ++ kept_scopes flags xs) is) ∙ inv)

-- one turn over resources
pub resource_turn : (r : ResourceTree) (all rs before now total : List ResourceTree) (scopes : List ScopeTree) (flags after : List Bool)
    → all ≡ r ∷ rs → now ≡ before ++ resource_with (record { node = r.node; scopes = scopes }) scopes → scopes ≡ kept_scopes flags r.scopes
    → after ≡ drop (records_of_scopes r.scopes) flags → before ++ kept_in flags all ≡ total → now ++ kept_in after rs ≡ total
resource_turn r all rs before now total scopes flags after is more kept on inv =
    resource_on r rs before now total flags after (more ∙ ap (λ ys. before ++ ys) (kept_resource r scopes ∙ ap (resource_with r) kept)) on
    (sym (ap (λ xs. before ++ kept_in flags xs) is) ∙ inv)

-- the flags behind a scope
pub rest_turn : (s : ScopeTree) (all ss : List ScopeTree) (flags after total : List Bool) → all ≡ s ∷ ss → after ≡ drop (length s.logs) flags
    → drop (records_of_scopes all) flags ≡ total → drop (records_of_scopes ss) after ≡ total
rest_turn s all ss flags after total is on inv =
    ap (drop (records_of_scopes ss)) on ∙ drop_more (length s.logs) (records_of_scopes ss) flags
    ∙ sym (ap (λ xs. drop (records_of_scopes xs) flags) is) ∙ inv

pub turned : (n : ℕ) (flags after : List Bool) → after ≡ drop n flags → map not after ≡ drop n (map not flags)
turned n flags after on = ap (map not) on ∙ drop_not n flags
