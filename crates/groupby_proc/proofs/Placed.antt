-- Log records that are placed and gathered are the tree grouped.
use Rattle.std.proofs.Common.{◌≡◌, ◌∙◌, ℕ, ◌+◌, ◌<◌, ◌≤◌, length, drop, get_or, arith, Bool, true, false, cond, List, [], ◌∷◌, ◌++◌, map, filter, not, refl, sym, ap}
use Rattle.std.specs.Prelude.{◌||◌}
use Rattle.std.specs.Str.{bytes_eq}
use Rattle.std.proofs.lemmas.Grind.{common_steps}
use Rattle.pdata_value.specs.Pairs.{is_listed, without}
use Rattle.pdata_value.specs.declared.value.Value.{Value}
use Rattle.pdata_value.proofs.Bools.{same_bytes, bytes_same}
use Rattle.pdata_tree.specs.Grouping.{Member, distinct, grouped, members, members_of_scope, members_of_scopes, resource_group, same_resource, same_scope, scope_group, scope_groups}
use Rattle.pdata_tree.specs.declared.batch.Batch.{Batch}
use Rattle.pdata_tree.specs.declared.record.LogRecord.{LogRecord}
use Rattle.pdata_tree.specs.declared.resource.ResourceNode.{ResourceNode}
use Rattle.pdata_tree.specs.declared.resource.ResourceTree.{ResourceTree}
use Rattle.pdata_tree.specs.declared.scope.ScopeNode.{ScopeNode}
use Rattle.pdata_tree.specs.declared.scope.ScopeTree.{ScopeTree}
use Rattle.groupby_proc.specs.Gathering.{gathered, group_of, items_under}
use Rattle.groupby_proc.specs.Placing.{Placed, placed_in, placed_logs, placed_scopes, resource_tree, scope_tree}

map_map : {X Y Z : Type 0} (f : X → Y) (g : Y → Z) (xs : List X) → map g (map f xs) ≡ map (λ x. g (f x)) xs
map_map f g [] = refl
map_map f g (x ∷ xs) = ap (λ zs. g (f x) ∷ zs) (map_map f g xs)

map_append : {X Y : Type 0} (f : X → Y) (xs ys : List X) → map f (xs ++ ys) ≡ map f xs ++ map f ys
map_append f [] ys = refl
map_append f (x ∷ xs) ys = ap (λ zs. f x ∷ zs) (map_append f xs ys)

map_same : {X Y : Type 0} (f g : X → Y) (xs : List X) → ((x : X) → f x ≡ g x) → map f xs ≡ map g xs
map_same f g [] h = refl
map_same f g (x ∷ xs) h = ap (λ y. y ∷ map f xs) (h x) ∙ ap (λ ys. g x ∷ ys) (map_same f g xs h)

-- a member as it is placed
abbrev place_of : Member → Placed
place_of m = (m.resource, (m.scope, m.log))

logs_placed : (keys : List (List ℕ)) (r : ResourceNode) (s : ScopeTree) → placed_logs keys r s.node s.logs ≡ map place_of (members_of_scope keys r s)
logs_placed keys r s = sym (map_map _ place_of s.logs)

scopes_placed : (keys : List (List ℕ)) (r : ResourceNode) (ss : List ScopeTree) → placed_scopes keys r ss ≡ map place_of (members_of_scopes keys r ss)
scopes_placed keys r [] = refl
scopes_placed keys r (s ∷ ss) =
    ap (λ (xs : List Placed). xs ++ placed_scopes keys r ss) (logs_placed keys r s)
    ∙ ap (λ (xs : List Placed). map place_of (members_of_scope keys r s) ++ xs) (scopes_placed keys r ss)
    ∙ sym (map_append place_of (members_of_scope keys r s) (members_of_scopes keys r ss))

all_placed : (keys : List (List ℕ)) (rs : List ResourceTree) → placed_in keys rs ≡ map place_of (members keys rs)
all_placed keys [] = refl
all_placed keys (r ∷ rs) =
    ap (λ (xs : List Placed). xs ++ placed_in keys rs) (scopes_placed keys r.node r.scopes)
    ∙ ap (λ (xs : List Placed). map place_of (members_of_scopes keys r.node r.scopes) ++ xs) (all_placed keys rs)
    ∙ sym (map_append place_of (members_of_scopes keys r.node r.scopes) (members keys rs))

-- a member without its resource
abbrev scoped : Member → ScopeNode × LogRecord
scoped m = (m.scope, m.log)

logs_on : (t : Bool) (s : ScopeNode) (m : Member) (ms : List Member)
    → items_under same_scope s (map scoped ms) ≡ map (λ m. m.log) (filter (λ m. same_scope s m.scope) ms)
    → map (λ n. n.1) (cond t (scoped m ∷ filter (λ n. same_scope s n.0) (map scoped ms)) (filter (λ n. same_scope s n.0) (map scoped ms)))
    ≡ map (λ m. m.log) (cond t (m ∷ filter (λ m. same_scope s m.scope) ms) (filter (λ m. same_scope s m.scope) ms))
logs_on true s m ms inv = ap (λ ls. m.log ∷ ls) inv
logs_on false s m ms inv = inv

logs_under : (s : ScopeNode) (ms : List Member)
    → items_under same_scope s (map scoped ms) ≡ map (λ m. m.log) (filter (λ m. same_scope s m.scope) ms)
logs_under s [] = refl
logs_under s (m ∷ ms) = logs_on (same_scope s m.scope) s m ms (logs_under s ms)

-- the scopes of members
scopes_gathered : (ms : List Member) → map scope_tree (gathered same_scope (map scoped ms)) ≡ scope_groups ms
scopes_gathered ms =
    ap (λ (ks : List ScopeNode). map scope_tree (map (group_of same_scope (map scoped ms)) (distinct same_scope ks))) (map_map scoped (λ n. n.0) ms)
    ∙ map_map (group_of same_scope (map scoped ms)) scope_tree (distinct same_scope (map (λ m. m.scope) ms))
    ∙ map_same (λ s. scope_tree (group_of same_scope (map scoped ms) s)) (scope_group ms) (distinct same_scope (map (λ m. m.scope) ms))
    (λ s. ap (λ (ls : List LogRecord). scope_tree (s, ls)) (logs_under s ms))

records_on : (t : Bool) (r : ResourceNode) (m : Member) (ms : List Member)
    → items_under same_resource r (map place_of ms) ≡ map scoped (filter (λ m. same_resource r m.resource) ms)
    → map (λ n. n.1) (cond t (place_of m ∷ filter (λ n. same_resource r n.0) (map place_of ms)) (filter (λ n. same_resource r n.0) (map place_of ms)))
    ≡ map scoped (cond t (m ∷ filter (λ m. same_resource r m.resource) ms) (filter (λ m. same_resource r m.resource) ms))
records_on true r m ms inv = ap (λ xs. scoped m ∷ xs) inv
records_on false r m ms inv = inv

records_under : (r : ResourceNode) (ms : List Member)
    → items_under same_resource r (map place_of ms) ≡ map scoped (filter (λ m. same_resource r m.resource) ms)
records_under r [] = refl
records_under r (m ∷ ms) = records_on (same_resource r m.resource) r m ms (records_under r ms)

-- the resources of members
resources_gathered : (ms : List Member)
    → map resource_tree (gathered same_resource (map place_of ms)) ≡ map (resource_group ms) (distinct same_resource (map (λ m. m.resource) ms))
resources_gathered ms =
    ap (λ (ks : List ResourceNode). map resource_tree (map (group_of same_resource (map place_of ms)) (distinct same_resource ks))) (map_map place_of (λ n. n.0) ms)
    ∙ map_map (group_of same_resource (map place_of ms)) resource_tree (distinct same_resource (map (λ m. m.resource) ms))
    ∙ map_same (λ r. resource_tree (group_of same_resource (map place_of ms) r)) (resource_group ms) (distinct same_resource (map (λ m. m.resource) ms))
    (λ r. ap (λ (xs : List (ScopeNode × LogRecord)). resource_tree (r, xs)) (records_under r ms)
    ∙ ap (λ (ss : List ScopeTree). record { node = r; scopes = ss }) (scopes_gathered (filter (λ m. same_resource r m.resource) ms)))

-- the tree grouped
pub regrouped : (keys : List (List ℕ)) (tree : Batch) (rs : List ResourceTree)
    → rs ≡ map resource_tree (gathered same_resource (placed_in keys tree.resources)) → record tree { resources = rs } ≡ grouped keys tree
regrouped keys tree rs is =
    let all : rs ≡ map (resource_group (members keys tree.resources)) (distinct same_resource (map (λ m. m.resource) (members keys tree.resources))) =
    is ∙ ap (λ (xs : List Placed). map resource_tree (gathered same_resource xs)) (all_placed keys tree.resources)
    ∙ resources_gathered (members keys tree.resources) in
    ap (λ (xs : List ResourceTree). record tree { resources = xs }) all

-- Attributes that are taken out.

turned_on : (t u : Bool) (a b : List ℕ) → bytes_eq a b ≡ t → bytes_eq b a ≡ u → t ≡ u
turned_on true true a b e f = refl
turned_on false false a b e f = refl
turned_on true false a b e f = sym (bytes_same b a (sym (same_bytes a b e))) ∙ f
turned_on false true a b e f = sym (sym (bytes_same a b (sym (same_bytes b a f))) ∙ e)

turned : (a b : List ℕ) → bytes_eq a b ≡ bytes_eq b a
turned a b = turned_on (bytes_eq a b) (bytes_eq b a) a b refl refl

abbrev unlisted : List (List ℕ) → List (List ℕ × Value) → List (List ℕ × Value)
unlisted keys ps = filter (λ p. not (is_listed keys p.0)) ps

key_on : (t u : Bool) (k : List ℕ) (ks : List (List ℕ)) (p : List ℕ × Value) (ps : List (List ℕ × Value)) → bytes_eq p.0 k ≡ t
    → is_listed ks p.0 ≡ u → unlisted ks (without ps k) ≡ unlisted (k ∷ ks) ps
    → unlisted ks (cond (not t) (p ∷ without ps k) (without ps k)) ≡ cond (not (t || u)) (p ∷ unlisted (k ∷ ks) ps) (unlisted (k ∷ ks) ps)
key_on true u k ks p ps e f inv = inv
key_on false true k ks p ps e f inv =
    ap (λ b. cond (not b) (p ∷ unlisted ks (without ps k)) (unlisted ks (without ps k))) f ∙ inv
key_on false false k ks p ps e f inv =
    ap (λ b. cond (not b) (p ∷ unlisted ks (without ps k)) (unlisted ks (without ps k))) f ∙ ap (λ qs. p ∷ qs) inv

-- without one key, and then the others
pub key_out : (k : List ℕ) (ks : List (List ℕ)) (ps : List (List ℕ × Value)) → unlisted ks (without ps k) ≡ unlisted (k ∷ ks) ps
key_out k ks [] = refl
key_out k ks (p ∷ ps) =
    key_on (bytes_eq p.0 k) (is_listed ks p.0) k ks p ps refl refl (key_out k ks ps)
    ∙ ap (λ b. cond (not (b || is_listed ks p.0)) (p ∷ unlisted (k ∷ ks) ps) (unlisted (k ∷ ks) ps)) (turned p.0 k)

pub none_out : (ps : List (List ℕ × Value)) → unlisted [] ps ≡ ps
none_out [] = refl
none_out (p ∷ ps) = ap (λ qs. p ∷ qs) (none_out ps)

pub key_turn : (keys : List (List ℕ)) (i : ℕ) (k : List ℕ) (ps qs : List (List ℕ × Value)) (total : List (List ℕ × Value)) → i < length keys
    → k ≡ get_or keys i k → qs ≡ without ps k → unlisted (drop i keys) ps ≡ total → unlisted (drop (i + 1) keys) qs ≡ total
key_turn keys i k ps qs total within is out inv =
    let here : drop i keys ≡ k ∷ drop (i + 1) keys = grind (arith, common_steps) in
    ap (unlisted (drop (i + 1) keys)) out ∙ key_out k (drop (i + 1) keys) ps ∙ sym (ap (λ (ks : List (List ℕ)). unlisted ks ps) here) ∙ inv

pub keys_ended : (keys : List (List ℕ)) (i : ℕ) (ps total : List (List ℕ × Value)) → length keys ≤ i → unlisted (drop i keys) ps ≡ total → ps ≡ total
keys_ended keys i ps total past inv =
    let here : drop i keys ≡ [] = grind (arith, common_steps) in
    sym (none_out ps) ∙ sym (ap (λ (ks : List (List ℕ)). unlisted ks ps) here) ∙ inv
