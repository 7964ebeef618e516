-- What a live node stands for, and what its list says of it.
use Rattle.std.proofs.Common.{◌≡◌, ◌+◌, ◌<◌, ◌≤◌, ℕ, zero, suc, List, [], ◌∷◌, ◌++◌, length, get_or, map, Option, Some, None, refl, ap, ◌∙◌, arith, take, inl, inr, ◌⊎◌}
use Rattle.std.specs.Prelude.{IsSome, cond, filter_map, option_map, slice_get}
use Rattle.std.proofs.lemmas.List.{take_more}
use Rattle.pdata_tree.specs.Tree.{nodes_of_resources, nodes_of_scopes, records_of_resources, records_of_scopes}
use Rattle.pdata_tree.specs.declared.resource.ResourceNode.{ResourceNode}
use Rattle.pdata_tree.specs.declared.resource.ResourceTree.{ResourceTree}
use Rattle.pdata_tree.specs.declared.record.LogRecord.{LogRecord}
use Rattle.pdata_tree.specs.declared.scope.ScopeNode.{ScopeNode}
use Rattle.pdata_tree.specs.declared.scope.ScopeTree.{ScopeTree}
use Rattle.shelf.specs.Places.{Places, count_at, count_of, item_at, slot_at}
use Rattle.share_cow.specs.Levels.{Counted, Level, list_at, named, sum_over, times, value}
use Rattle.share_cow.specs.Lowering.{Holds}
use Rattle.share_cow.specs.Store.{Part, as_log, as_resource, as_scope, batch_level, batch_made, built, children_of, level_of, log_level, log_made, nothing, resource_level, resource_levels, resource_made, scope_level, scope_levels, scope_made}
use Rattle.share_cow.specs.Views.{children_in, grandchildren_in, logs_or_none, scopes_or_none, tree_at}
use Rattle.share_cow.specs.declared.node.Node.{Node}
use Rattle.share_cow.proofs.Lists.{entry_times, times_at, times_head}
use Rattle.share_cow.proofs.Slots.{names, names_at}

pub some_is : {Y : Type 0} (o : Option Y) → IsSome o → (y : Y) × (o ≡ Some y)
some_is None h = absurd (omega (arith, ap (λ b. cond {A = ℕ} b 1 0) h))
some_is (Some y) h = (y, refl)

some_kept : {T : Type 0} (slot : Option (T × ℕ)) → 0 < count_of slot → (kept : T × ℕ) × (slot ≡ Some kept)
some_kept None h = absurd (omega arith)
some_kept (Some kept) h = (kept, refl)

-- a live node stands for what is made of its own and of its children
module _ {D : Type 0} (make : D → List Part → Part) (s : Places (Node D)) (below : List (Level Part)) (p : ℕ) (live : 0 < count_at s p) where
  pub node_there : Node D
  node_there = (some_kept (slot_at s p) live).0.0

  pub live_value : value nothing (level_of make s ∷ below) p ≡ make node_there.content (map (value nothing below) (list_at (map children_of s.slots) p))
  unfolding node_there some_kept
  live_value = ap (λ (slot : Option (Node D × ℕ)). built make (option_map (λ kept. kept.0) slot) (map (value nothing below) (list_at (map children_of s.slots) p)))
      (some_kept (slot_at s p) live).1

pub found_value : {D : Type 0} (make : D → List Part → Part) (s : Places (Node D)) (below : List (Level Part)) (p : ℕ) (node : Node D) → item_at s p ≡ Some node
    → value nothing (level_of make s ∷ below) p ≡ make node.content (map (value nothing below) node.children)
found_value {D} make s below p node is =
    ap (λ (o : Option (Node D)). built make o (map (value nothing below) (list_at (map children_of s.slots) p))) is
    ∙ ap (λ (qs : List ℕ). make node.content (map (value nothing below) qs)) (names_at s p ∙ ap names is)

-- what a found node names is live
pub found_live : {D : Type 0} (s : Places (Node D)) (p : ℕ) (node : Node D) (lower : Level Part) → item_at s p ≡ Some node
    → ((q : ℕ) → lower.count q ≡ named q (map children_of s.slots)) → Holds node.children lower
found_live s p node lower is counted q =
    omega (arith, counted q, times_at q (map children_of s.slots) p, ap (times q) (names_at s p ∙ ap names is))

-- lists whose items all are of one kind
module _ {Y : Type 0} (kind : Part → Option Y) (v : ℕ → Part) where
  pub length_parts : (qs : List ℕ) → ((q : ℕ) → 0 < times q qs → IsSome (kind (v q))) → length (filter_map kind (map v qs)) ≡ length qs
  length_parts [] all = refl
  length_parts (q ∷ qs) all =
      let head = some_is (kind (v q)) (all q (omega (arith, times_head q qs))) in
      let rest = length_parts qs (λ r h. all r (omega arith)) in
      rw head.1 (omega (arith, rest))

  pub get_parts : (qs : List ℕ) (i : ℕ) → i < length qs → ((q : ℕ) → 0 < times q qs → IsSome (kind (v q))) → slice_get (filter_map kind (map v qs)) i ≡ kind (v (get_or qs i 0))
  get_parts [] i h all = absurd (omega arith)
  get_parts (q ∷ qs) zero h all = let head = some_is (kind (v q)) (all q (omega (arith, times_head q qs))) in rw head.1 refl
  get_parts (q ∷ qs) (suc i) h all =
      let head = some_is (kind (v q)) (all q (omega (arith, times_head q qs))) in
      rw head.1 (get_parts qs i (omega arith) (λ r n. all r (omega arith)))

-- the tree of a live batch
pub tree_is : (batches : Places (Node Unit)) (below : List (Level Part)) (b : ℕ) → 0 < count_at batches b
    → tree_at (batch_level batches ∷ below) b ≡ record { resources = filter_map as_resource (map (value nothing below) (list_at (map children_of batches.slots) b)) }
tree_is batches below b live = rw (live_value batch_made batches below b live) refl

-- log records at places
module _ (logs : Places (Node LogRecord)) (qs : List ℕ) (live : Holds qs (log_level logs)) where
  pub is_log : (q : ℕ) → 0 < times q qs → IsSome (as_log (value nothing (log_level logs ∷ []) q))
  is_log q h = rw (live_value log_made logs [] q (omega (arith, h, live q))) refl

  pub logs_length : length (filter_map as_log (map (value nothing (log_level logs ∷ [])) qs)) ≡ length qs
  logs_length = length_parts as_log (value nothing (log_level logs ∷ [])) qs is_log

-- scopes at places
module _ (scopes : Places (Node ScopeNode)) (logs : Places (Node LogRecord)) (counted : Counted (scope_level scopes) (log_level logs)) where
  pub named_logs : (q : ℕ) → Holds (list_at (map children_of scopes.slots) q) (log_level logs)
  named_logs q p = omega (arith, counted p, times_at p (map children_of scopes.slots) q)

  pub is_scope : (qs : List ℕ) → Holds qs (scope_level scopes) → (q : ℕ) → 0 < times q qs → IsSome (as_scope (value nothing (scope_levels scopes logs) q))
  is_scope qs live q h = rw (live_value scope_made scopes (log_level logs ∷ []) q (omega (arith, h, live q))) refl

  pub scopes_length : (qs : List ℕ) → Holds qs (scope_level scopes) → length (filter_map as_scope (map (value nothing (scope_levels scopes logs)) qs)) ≡ length qs
  scopes_length qs live = length_parts as_scope (value nothing (scope_levels scopes logs)) qs (is_scope qs live)

  -- the log records of one of them
  pub logs_counted : (qs : List ℕ) → Holds qs (scope_level scopes) → (j : ℕ) → j < length qs
      → length (logs_or_none (slice_get (filter_map as_scope (map (value nothing (scope_levels scopes logs)) qs)) j)) ≡ length (list_at (map children_of scopes.slots) (get_or qs j 0))
  logs_counted qs live j h =
      let q = get_or qs j 0 in
      let there : 0 < count_at scopes q = omega (arith, live q, entry_times qs j h) in
      let found = get_parts as_scope (value nothing (scope_levels scopes logs)) qs j h (is_scope qs live) in
      let seen = live_value scope_made scopes (log_level logs ∷ []) q there in
      ap (λ (o : Option ScopeTree). length (logs_or_none o)) (found ∙ ap as_scope seen)
      ∙ logs_length logs (list_at (map children_of scopes.slots) q) (named_logs q)

  -- and of all of them
  pub records_counted : (qs : List ℕ) → Holds qs (scope_level scopes) → records_of_scopes (filter_map as_scope (map (value nothing (scope_levels scopes logs)) qs)) ≡ children_in scopes qs
  records_counted [] live = refl
  records_counted (q ∷ qs) live =
      let there : 0 < count_at scopes q = omega (arith, live q, times_head q qs) in
      let seen = live_value scope_made scopes (log_level logs ∷ []) q there in
      let rest = records_counted qs (λ p. omega (arith, live p)) in
      let own = logs_length logs (list_at (map children_of scopes.slots) q) (named_logs q) in
      rw seen (omega (arith, rest, own))

-- resources at places
module _ (resources : Places (Node ResourceNode)) (scopes : Places (Node ScopeNode)) (logs : Places (Node LogRecord))
    (upper : Counted (resource_level resources) (scope_level scopes)) (lower : Counted (scope_level scopes) (log_level logs)) where
  pub named_scopes : (q : ℕ) → Holds (list_at (map children_of resources.slots) q) (scope_level scopes)
  named_scopes q p = omega (arith, upper p, times_at p (map children_of resources.slots) q)

  pub is_resource : (qs : List ℕ) → Holds qs (resource_level resources) → (q : ℕ) → 0 < times q qs → IsSome (as_resource (value nothing (resource_levels resources scopes logs) q))
  is_resource qs live q h = rw (live_value resource_made resources (scope_levels scopes logs) q (omega (arith, h, live q))) refl

  pub resources_length : (qs : List ℕ) → Holds qs (resource_level resources) → length (filter_map as_resource (map (value nothing (resource_levels resources scopes logs)) qs)) ≡ length qs
  resources_length qs live = length_parts as_resource (value nothing (resource_levels resources scopes logs)) qs (is_resource qs live)

  -- the scopes of one of them
  pub scopes_found : (qs : List ℕ) → Holds qs (resource_level resources) → (i : ℕ) → i < length qs
      → scopes_or_none (slice_get (filter_map as_resource (map (value nothing (resource_levels resources scopes logs)) qs)) i)
      ≡ filter_map as_scope (map (value nothing (scope_levels scopes logs)) (list_at (map children_of resources.slots) (get_or qs i 0)))
  scopes_found qs live i h =
      let q = get_or qs i 0 in
      let there : 0 < count_at resources q = omega (arith, live q, entry_times qs i h) in
      let found = get_parts as_resource (value nothing (resource_levels resources scopes logs)) qs i h (is_resource qs live) in
      ap scopes_or_none (found ∙ ap as_resource (live_value resource_made resources (scope_levels scopes logs) q there))

  -- and the log records of all of them
  pub all_records_counted : (qs : List ℕ) → Holds qs (resource_level resources)
      → records_of_resources (filter_map as_resource (map (value nothing (resource_levels resources scopes logs)) qs)) ≡ grandchildren_in resources scopes qs
  all_records_counted [] live = refl
  all_records_counted (q ∷ qs) live =
      let there : 0 < count_at resources q = omega (arith, live q, times_head q qs) in
      let seen = live_value resource_made resources (scope_levels scopes logs) q there in
      let rest = all_records_counted qs (λ p. omega (arith, live p)) in
      let own = records_counted scopes logs lower (list_at (map children_of resources.slots) q) (named_scopes q) in
      rw seen (omega (arith, rest, own))

records_few : (ss : List ScopeTree) → records_of_scopes ss ≤ nodes_of_scopes ss
records_few [] = omega arith
records_few (s ∷ ss) = omega (arith, records_few ss)

pub all_records_few : (rs : List ResourceTree) → records_of_resources rs ≤ nodes_of_resources rs
all_records_few [] = omega arith
all_records_few (r ∷ rs) = omega (arith, records_few r.scopes, all_records_few rs)

pub resources_few : (rs : List ResourceTree) → length rs ≤ nodes_of_resources rs
resources_few [] = omega arith
resources_few (r ∷ rs) = omega (arith, resources_few rs)

pub scopes_few : (ss : List ScopeTree) → length ss ≤ nodes_of_scopes ss
scopes_few [] = omega arith
scopes_few (s ∷ ss) = omega (arith, scopes_few ss)

pub scopes_within : (rs : List ResourceTree) (i : ℕ) → nodes_of_scopes (scopes_or_none (slice_get rs i)) ≤ nodes_of_resources rs
scopes_within [] i = omega arith
scopes_within (r ∷ rs) zero = omega arith
scopes_within (r ∷ rs) (suc i) = omega (arith, scopes_within rs i)

pub logs_within : (ss : List ScopeTree) (j : ℕ) → length (logs_or_none (slice_get ss j)) ≤ nodes_of_scopes ss
logs_within [] j = omega arith
logs_within (s ∷ ss) zero = omega arith
logs_within (s ∷ ss) (suc j) = omega (arith, logs_within ss j)

pub in_resources : (rs : List ResourceTree) (i : ℕ) → 0 < length (scopes_or_none (slice_get rs i)) → i < length rs
in_resources [] i h = absurd (omega arith)
in_resources (r ∷ rs) zero h = omega arith
in_resources (r ∷ rs) (suc i) h = omega (arith, in_resources rs i h)

-- one part more
some_or_no : {Y : Type 0} (o : Option Y) → (o ≡ None) ⊎ ((y : Y) × (o ≡ Some y))
some_or_no None = inl refl
some_or_no (Some y) = inr (y, refl)

filter_one : {Y : Type 0} (kind : Part → Option Y) (v : ℕ → Part) (qs : List ℕ) (q : ℕ) (y : Y) → kind (v q) ≡ Some y → filter_map kind (map v (qs ++ q ∷ [])) ≡ filter_map kind (map v qs) ++ y ∷ []
filter_one kind v [] q y is = rw is refl
filter_one {Y} kind v (p ∷ qs) q y is =
    let rest = filter_one kind v qs q y is in
    elim (some_or_no (kind (v p))) as (λ x. filter_map kind (map v (p ∷ (qs ++ q ∷ []))) ≡ filter_map kind (map v (p ∷ qs)) ++ y ∷ []) [
      | inl e ↦ rw e rest
      | inr e ↦ rw e.1 (ap (λ (ys : List Y). e.0 ∷ ys) rest)
    ]

pub next_part : {Y : Type 0} (kind : Part → Option Y) (v : ℕ → Part) (qs : List ℕ) (i : ℕ) (y : Y) → i < length qs → kind (v (get_or qs i 0)) ≡ Some y
    → filter_map kind (map v (take (i + 1) qs)) ≡ filter_map kind (map v (take i qs)) ++ y ∷ []
next_part kind v qs i y h is = ap (λ (xs : List ℕ). filter_map kind (map v xs)) (take_more qs i 0 h) ∙ filter_one kind v (take i qs) (get_or qs i 0) y is

-- sums along a list
sum_one : (f : ℕ → ℕ) (qs : List ℕ) (q : ℕ) → sum_over f (qs ++ q ∷ []) ≡ sum_over f qs + f q
sum_one f [] q = omega arith
sum_one f (p ∷ qs) q = omega (arith, sum_one f qs q)

pub sum_next : (f : ℕ → ℕ) (qs : List ℕ) (i : ℕ) → i < length qs → sum_over f (take (i + 1) qs) ≡ sum_over f (take i qs) + f (get_or qs i 0)
sum_next f qs i h = ap (sum_over f) (take_more qs i 0 h) ∙ sum_one f (take i qs) (get_or qs i 0)

pub sum_front : (f : ℕ → ℕ) (qs : List ℕ) (i : ℕ) → sum_over f (take i qs) ≤ sum_over f qs
sum_front f [] zero = omega arith
sum_front f [] (suc i) = omega arith
sum_front f (q ∷ qs) zero = omega arith
sum_front f (q ∷ qs) (suc i) = omega (arith, sum_front f qs i)
