-- What the nodes of a part stand for.
use Rattle.std.proofs.Common.{◌≡◌, ◌+◌, ◌<◌, ◌≤◌, ℕ, zero, suc, Bool, List, [], ◌∷◌, ◌++◌, length, map, drop, take, get_or, refl, ap, sym, ◌∙◌, arith, append_assoc, inl, inr}
use Rattle.std.specs.Prelude.{Option, Some, filter_map}
use Rattle.std.proofs.lemmas.Bool.Decides.{eqb_tells}
use Rattle.std.proofs.Math.Seq.{drop-nil}
use Rattle.std.proofs.lemmas.List.{map-append, take_more}
use Rattle.std.proofs.lemmas.List.Elements.{filter_map-append}
use Rattle.pdata_tree.specs.Selecting.{flagged, kept_in, kept_scopes, resource_with, scope_with}
use Rattle.pdata_tree.specs.Tree.{records_of_resources, records_of_scopes}
use Rattle.pdata_tree.specs.declared.record.LogRecord.{LogRecord}
use Rattle.pdata_tree.specs.declared.resource.ResourceTree.{ResourceTree}
use Rattle.pdata_tree.specs.declared.scope.ScopeNode.{ScopeNode}
use Rattle.pdata_tree.specs.declared.scope.ScopeTree.{ScopeTree}
use Rattle.shelf.specs.Places.{Adds, Places, count_at, item_at}
use Rattle.share_cow.specs.Levels.{AllCounted, Level, list_at, stands, sum_over, times, value}
use Rattle.share_cow.specs.Lowering.{Holds}
use Rattle.share_cow.specs.Owning.{Raises}
use Rattle.share_cow.specs.Parting.{Parts, below_scopes, scopes_at}
use Rattle.share_cow.specs.Store.{Part, a_resource, a_scope, as_log, as_scope, children_of, log_level, log_made, nothing, scope_level, scope_levels, scope_made}
use Rattle.share_cow.specs.declared.node.Node.{Node}
use Rattle.share_cow.proofs.Apart.{sum_is_times}
use Rattle.share_cow.proofs.Flagged.{flagged_parts, flagged_times}
use Rattle.share_cow.proofs.Lists.{sum_append, times_head, times_other}
use Rattle.share_cow.proofs.Looks.{found_value, is_log, length_parts, named_logs, records_counted}
use Rattle.share_cow.proofs.Parts.{parts_on, parts_over, parts_still}
use Rattle.share_cow.proofs.Same.{SameFrom, same_from, value_same}
use Rattle.share_cow.proofs.Slots.{names, names_at}

-- parts by another name
pub parts_are : (most : ℕ → ℕ) (xs : List ℕ) (P Q : List Part) (l m : Level Part) (ls ms : List (Level Part)) (k n : Level Part) → Parts most xs P l m ls ms k n → P ≡ Q → Parts most xs Q l m ls ms k n
parts_are most xs P Q l m ls ms k n a e = record {
  counts = a.counts;
  fresh = a.fresh;
  more = a.more;
  no_fewer = a.no_fewer;
  rose = a.rose;
  agree = a.agree;
  counted = a.counted;
  values = a.values ∙ e;
}

pub not_empty : {X : Type 0} (xs : List X) → (xs ≡ [] → ⊥) → 0 < length xs
not_empty [] some = absurd (some refl)
not_empty (x ∷ xs) some = omega arith

scope_with_some : (s : ScopeTree) (ls : List LogRecord) → 0 < length ls → scope_with s ls ≡ record s { logs = ls } ∷ []
scope_with_some s [] some = absurd (omega (arith, some))
scope_with_some s (l ∷ ls) some = refl

-- one scope
module _ (scopes : Places (Node ScopeNode)) (logs : Places (Node LogRecord)) (p : ℕ) (node : Node ScopeNode) (is : item_at scopes p ≡ Some node) (counted : AllCounted (scope_levels scopes logs)) (flags : List Bool) (kept : List ℕ)
    (e : kept ≡ flagged flags (list_at (map children_of scopes.slots) p)) where
  abbrev below : ℕ → Part
  below = value nothing (log_level logs ∷ [])

  abbrev scope_there : ScopeTree
  scope_there = record { node = node.content; logs = filter_map as_log (map below node.children) }

  scope_is : scopes_at scopes logs (p ∷ []) ≡ scope_there ∷ []
  scope_is = ap (λ (x : Part). filter_map as_scope (x ∷ [])) (found_value scope_made scopes (log_level logs ∷ []) p node is)

  logs_kept : flagged flags (filter_map as_log (map below node.children)) ≡ filter_map as_log (map below kept)
  logs_kept =
      ap (λ (qs : List ℕ). flagged flags (filter_map as_log (map below qs))) (sym (names_at scopes p ∙ ap names is))
      ∙ sym (flagged_parts as_log below flags (list_at (map children_of scopes.slots) p) (is_log logs (list_at (map children_of scopes.slots) p) (named_logs scopes logs counted.0 p)))
      ∙ ap (λ (qs : List ℕ). filter_map as_log (map below qs)) (sym e)

  scope_kept : kept_scopes flags (scopes_at scopes logs (p ∷ [])) ≡ scope_with scope_there (filter_map as_log (map below kept)) ++ []
  scope_kept = ap (kept_scopes flags) scope_is ∙ ap (λ (ls : List LogRecord). scope_with scope_there ls ++ []) logs_kept

  pub scope_none : kept ≡ [] → [] ≡ map a_scope (kept_scopes flags (scopes_at scopes logs (p ∷ [])))
  scope_none none =
      sym (ap (map a_scope) (scope_kept ∙ ap (λ (qs : List ℕ). scope_with scope_there (filter_map as_log (map below qs)) ++ []) none))

  kept_held : Holds kept (log_level logs)
  kept_held q = omega (arith, ap (times q) e, flagged_times q flags (list_at (map children_of scopes.slots) p), named_logs scopes logs counted.0 p q)

  scope_some : 0 < length kept → scope_made node.content (map below kept) ∷ [] ≡ map a_scope (kept_scopes flags (scopes_at scopes logs (p ∷ [])))
  scope_some some =
      let many = length_parts as_log below kept (is_log logs kept kept_held) in
      sym (ap (map a_scope) (scope_kept ∙ ap (λ (ss : List ScopeTree). ss ++ []) (scope_with_some scope_there (filter_map as_log (map below kept)) (omega (arith, many, some)))))

  scope_few : (q : ℕ) → times q kept ≤ below_scopes scopes (p ∷ []) q
  scope_few q =
      omega (
        arith,
        ap (times q) e,
        flagged_times q flags (list_at (map children_of scopes.slots) p),
        sum_is_times q (list_at (map children_of scopes.slots) p),
      )

  -- the node that came for it
  module _ (scopes2 : Places (Node ScopeNode)) (logs2 : Places (Node LogRecord)) (part : ℕ) (content : ScopeNode) (same : content ≡ node.content)
      (add : Adds scopes scopes2 part (record { content = content; children = kept })) (raised : Raises kept logs logs2) (some : 0 < length kept) where
    pub scope_part : Parts (below_scopes scopes (p ∷ [])) (part ∷ []) (map a_scope (kept_scopes flags (scopes_at scopes logs (p ∷ []))))
        (scope_level scopes) (scope_level scopes2) [] [] (log_level logs) (log_level logs2)
    scope_part =
        parts_are (below_scopes scopes (p ∷ [])) (part ∷ []) (scope_made content (map below kept) ∷ []) (map a_scope (kept_scopes flags (scopes_at scopes logs (p ∷ []))))
        (scope_level scopes) (scope_level scopes2) [] [] (log_level logs) (log_level logs2)
        (parts_over scope_made scopes scopes2 part (record { content = content; children = kept }) add log_made logs logs2 raised (below_scopes scopes (p ∷ [])) counted scope_few)
        (ap (λ (own : ScopeNode). scope_made own (map below kept) ∷ []) same ∙ scope_some some)

-- flags one after another
pub drop_more : (n m : ℕ) (flags : List Bool) → drop m (drop n flags) ≡ drop (n + m) flags
drop_more zero m flags = let e : m ≡ 0 + m = omega arith in ap (λ (k : ℕ). drop k flags) e
drop_more (suc n) m [] = drop-nil m ∙ sym (drop-nil (suc n + m))
drop_more (suc n) m (flag ∷ flags) =
    let e : suc (n + m) ≡ suc n + m = omega arith in drop_more n m flags ∙ ap (λ (k : ℕ). drop k (flag ∷ flags)) e

scopes_records_on : (xs ys : List ScopeTree) → records_of_scopes (xs ++ ys) ≡ records_of_scopes xs + records_of_scopes ys
scopes_records_on [] ys = omega arith
scopes_records_on (x ∷ xs) ys = omega (arith, scopes_records_on xs ys)

kept_scopes_on : (flags : List Bool) (xs ys : List ScopeTree) → kept_scopes flags (xs ++ ys) ≡ kept_scopes flags xs ++ kept_scopes (drop (records_of_scopes xs) flags) ys
kept_scopes_on flags [] ys = refl
kept_scopes_on flags (x ∷ xs) ys =
    ap (λ (ss : List ScopeTree). scope_with x (flagged flags x.logs) ++ ss)
    (kept_scopes_on (drop (length x.logs) flags) xs ys
    ∙ ap (λ (fs : List Bool). kept_scopes (drop (length x.logs) flags) xs ++ kept_scopes fs ys) (drop_more (length x.logs) (records_of_scopes xs) flags))
    ∙ sym (append_assoc (scope_with x (flagged flags x.logs)) (kept_scopes (drop (length x.logs) flags) xs) (kept_scopes (drop (records_of_scopes (x ∷ xs)) flags) ys))

pub records_on : (xs ys : List ResourceTree) → records_of_resources (xs ++ ys) ≡ records_of_resources xs + records_of_resources ys
records_on [] ys = omega arith
records_on (x ∷ xs) ys = omega (arith, records_on xs ys)

pub kept_in_on : (flags : List Bool) (xs ys : List ResourceTree) → kept_in flags (xs ++ ys) ≡ kept_in flags xs ++ kept_in (drop (records_of_resources xs) flags) ys
kept_in_on flags [] ys = refl
kept_in_on flags (x ∷ xs) ys =
    ap (λ (rs : List ResourceTree). resource_with x (kept_scopes flags x.scopes) ++ rs)
    (kept_in_on (drop (records_of_scopes x.scopes) flags) xs ys
    ∙ ap (λ (fs : List Bool). kept_in (drop (records_of_scopes x.scopes) flags) xs ++ kept_in fs ys) (drop_more (records_of_scopes x.scopes) (records_of_resources xs) flags))
    ∙ sym (append_assoc (resource_with x (kept_scopes flags x.scopes)) (kept_in (drop (records_of_scopes x.scopes) flags) xs) (kept_in (drop (records_of_resources (x ∷ xs)) flags) ys))

-- what is kept of further scopes
scopes_kept_on : (flags rest : List Bool) (xs ys zs : List ScopeTree) → zs ≡ xs ++ ys → rest ≡ drop (records_of_scopes xs) flags
    → map a_scope (kept_scopes flags xs) ++ map a_scope (kept_scopes rest ys) ≡ map a_scope (kept_scopes flags zs)
scopes_kept_on flags rest xs ys zs all on =
    sym (ap (λ (ss : List ScopeTree). map a_scope (kept_scopes flags ss)) all
    ∙ ap (map a_scope) (kept_scopes_on flags xs ys ∙ ap (λ (fs : List Bool). kept_scopes flags xs ++ kept_scopes fs ys) (sym on))
    ∙ map-append {A = ScopeTree} {B = Part} a_scope (kept_scopes flags xs) (kept_scopes rest ys))

pub resources_kept_on : (flags rest : List Bool) (xs ys zs : List ResourceTree) → zs ≡ xs ++ ys → rest ≡ drop (records_of_resources xs) flags
    → map a_resource (kept_in flags xs) ++ map a_resource (kept_in rest ys) ≡ map a_resource (kept_in flags zs)
resources_kept_on flags rest xs ys zs all on =
    sym (ap (λ (rs : List ResourceTree). map a_resource (kept_in flags rs)) all
    ∙ ap (map a_resource) (kept_in_on flags xs ys ∙ ap (λ (fs : List Bool). kept_in flags xs ++ kept_in fs ys) (sym on))
    ∙ map-append {A = ResourceTree} {B = Part} a_resource (kept_in flags xs) (kept_in rest ys))

-- the next of some places
pub next_at : {Y : Type 0} (kind : Part → Option Y) (v : ℕ → Part) (qs : List ℕ) (i : ℕ) → i < length qs
    → filter_map kind (map v (take (i + 1) qs)) ≡ filter_map kind (map v (take i qs)) ++ filter_map kind (map v (get_or qs i 0 ∷ []))
next_at kind v qs i h =
    ap (λ (xs : List ℕ). filter_map kind (map v xs)) (take_more qs i 0 h)
    ∙ ap (filter_map kind) (map-append v (take i qs) (get_or qs i 0 ∷ []))
    ∙ filter_map-append kind (map v (take i qs)) (map v (get_or qs i 0 ∷ []))

pub next_sum : (f : ℕ → ℕ) (qs : List ℕ) (i : ℕ) → i < length qs → sum_over f (take i qs) + sum_over f (get_or qs i 0 ∷ []) ≤ sum_over f (take (i + 1) qs)
next_sum f qs i h = omega (arith, ap (sum_over f) (take_more qs i 0 h), sum_append f (take i qs) (get_or qs i 0 ∷ []))

-- one scope after another
module _ (scopes0 scopes : Places (Node ScopeNode)) (logs0 logs : Places (Node LogRecord)) (places : List ℕ) (i : ℕ) (h : i < length places) (flags rest : List Bool) (xs : List ℕ) (P : List Part)
    (counted : AllCounted (scope_levels scopes0 logs0)) (live : 0 < count_at scopes0 (get_or places i 0))
    (a : Parts (below_scopes scopes0 (take i places)) xs P (scope_level scopes0) (scope_level scopes) [] [] (log_level logs0) (log_level logs))
    (is : P ≡ map a_scope (kept_scopes flags (scopes_at scopes0 logs0 (take i places)))) (on : rest ≡ drop (records_of_scopes (scopes_at scopes0 logs0 (take i places))) flags) where
  next_scope_same : SameFrom (scope_levels scopes0 logs0) (scope_levels scopes logs) (get_or places i 0)
  next_scope_same = same_from (scope_level scopes0) (log_level logs0 ∷ []) (scope_levels scopes0 logs0) (scope_levels scopes logs) counted a.agree (get_or places i 0) live

  next_scope_at : scopes_at scopes logs (get_or places i 0 ∷ []) ≡ scopes_at scopes0 logs0 (get_or places i 0 ∷ [])
  next_scope_at = ap (λ (x : Part). filter_map as_scope (x ∷ [])) (value_same nothing (scope_levels scopes0 logs0) (scope_levels scopes logs) (get_or places i 0) next_scope_same)

  pub next_scope_live : 0 < count_at scopes (get_or places i 0)
  next_scope_live = (parts_still xs P (scope_level scopes0) (scope_level scopes) [] [] (log_level logs0) (log_level logs) a).0 (get_or places i 0) live

  -- the flags behind its own
  pub next_scope_rest : drop (length (list_at (map children_of scopes.slots) (get_or places i 0))) rest ≡ drop (records_of_scopes (scopes_at scopes0 logs0 (take (i + 1) places))) flags
  next_scope_rest =
      let own = records_counted scopes0 logs0 counted.0 (get_or places i 0 ∷ []) (λ q. elim (eqb_tells q (get_or places i 0)) as (λ x. times q (get_or places i 0 ∷ []) ≤ count_at scopes0 q) [
        | inl e ↦ omega (arith, live, ap (count_at scopes0) e.1, ap (λ (k : ℕ). times k (get_or places i 0 ∷ [])) e.1, times_head (get_or places i 0) [])
        | inr e ↦ omega (arith, times_other q (get_or places i 0) [] (λ d. e.1 (sym d)))
      ]) in
      let both = scopes_records_on (scopes_at scopes0 logs0 (take i places)) (scopes_at scopes0 logs0 (get_or places i 0 ∷ [])) in
      let children = ap length next_scope_same.0 in
      let e : records_of_scopes (scopes_at scopes0 logs0 (take i places)) + length (list_at (map children_of scopes.slots) (get_or places i 0)) ≡ records_of_scopes (scopes_at scopes0 logs0 (take i places) ++ scopes_at scopes0 logs0 (get_or places i 0 ∷ [])) = omega (arith, own, both, children) in
      ap (drop (length (list_at (map children_of scopes.slots) (get_or places i 0)))) on
      ∙ drop_more (records_of_scopes (scopes_at scopes0 logs0 (take i places))) (length (list_at (map children_of scopes.slots) (get_or places i 0))) flags
      ∙ ap (λ (k : ℕ). drop k flags) e
      ∙ ap (λ (ss : List ScopeTree). drop (records_of_scopes ss) flags) (sym (next_at as_scope (value nothing (scope_levels scopes0 logs0)) places i h))

  module _ (scopes2 : Places (Node ScopeNode)) (logs2 : Places (Node LogRecord)) (ys : List ℕ)
      (b : Parts (below_scopes scopes (get_or places i 0 ∷ [])) ys (map a_scope (kept_scopes rest (scopes_at scopes logs (get_or places i 0 ∷ [])))) (scope_level scopes) (scope_level scopes2) [] [] (log_level logs) (log_level logs2)) where
    pub next_scope : Parts (below_scopes scopes0 (take (i + 1) places)) (xs ++ ys) (map a_scope (kept_scopes flags (scopes_at scopes0 logs0 (take (i + 1) places))))
        (scope_level scopes0) (scope_level scopes2) [] [] (log_level logs0) (log_level logs2)
    next_scope =
        parts_are (below_scopes scopes0 (take (i + 1) places)) (xs ++ ys) (P ++ map a_scope (kept_scopes rest (scopes_at scopes logs (get_or places i 0 ∷ [])))) (map a_scope (kept_scopes flags (scopes_at scopes0 logs0 (take (i + 1) places))))
        (scope_level scopes0) (scope_level scopes2) [] [] (log_level logs0) (log_level logs2)
        (parts_on (below_scopes scopes0 (take i places)) (below_scopes scopes (get_or places i 0 ∷ [])) (below_scopes scopes0 (take (i + 1) places)) xs ys P (map a_scope (kept_scopes rest (scopes_at scopes logs (get_or places i 0 ∷ []))))
        (scope_level scopes0) (scope_level scopes) (scope_level scopes2) [] [] [] (log_level logs0) (log_level logs) (log_level logs2) a b
        (λ q. omega (arith, ap (sum_over (stands {X = Part} [] q)) next_scope_same.0, next_sum (stands (scope_level scopes0 ∷ []) q) places i h)))
        (ap (λ (R : List Part). R ++ map a_scope (kept_scopes rest (scopes_at scopes logs (get_or places i 0 ∷ [])))) is
        ∙ ap (λ (ss : List ScopeTree). map a_scope (kept_scopes flags (scopes_at scopes0 logs0 (take i places))) ++ map a_scope (kept_scopes rest ss)) next_scope_at
        ∙ scopes_kept_on flags rest (scopes_at scopes0 logs0 (take i places)) (scopes_at scopes0 logs0 (get_or places i 0 ∷ [])) (scopes_at scopes0 logs0 (take (i + 1) places))
        (next_at as_scope (value nothing (scope_levels scopes0 logs0)) places i h) on)
