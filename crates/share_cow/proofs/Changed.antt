-- A forest in which one node at the end of a root's own path holds something else.
use Rattle.std.proofs.Common.{◌≡◌, ◌≢◌, ◌-◌, ◌<◌, ◌≤◌, ◌^◌, ℕ, true, false, Bool, List, ◌∷◌, ◌++◌, map, Option, Some, None, refl, ap, sym, ◌∙◌, subst, arith, inl, inr}
use Rattle.std.specs.Prelude.{option_map}
use Rattle.std.proofs.lemmas.Bool.Decides.{eqb_tells}
use Rattle.shelf.specs.Places.{Places, count_at, item_at, slot_at, with_item, with_slot}
use Rattle.share_cow.specs.Copies.{InTree, OpenPath, Owns, end_of, owed}
use Rattle.share_cow.specs.Kept.{KeepsOthers}
use Rattle.share_cow.specs.Levels.{AllCounted, IsApart, Level, list_at, shared_places, value}
use Rattle.share_cow.specs.Lowering.{Thins}
use Rattle.share_cow.specs.Owning.{with_node}
use Rattle.share_cow.specs.Store.{IsKept, IsSound, Part, Store, as_batch, built, children_of, level_of, levels, made, nothing, shared}
use Rattle.share_cow.specs.declared.node.Node.{Node}
use Rattle.share_cow.proofs.Edits.{Edits, alone, edit_apart, edit_counted, edit_end, edit_in_tree, edit_owed, edit_shared, edit_stays}
use Rattle.share_cow.proofs.Owned.{with_counts, with_item_here, with_item_other, with_names_here, with_names_other, with_thins}
use Rattle.share_cow.proofs.Slots.{names, names_at}
use Rattle.share_cow.proofs.Steps.{levels_places, levels_shared}

-- the shelf where a node holds something else
abbrev pub set_content_of : {D : Type 0} → Places (Node D) → ℕ → D → Places (Node D)
set_content_of s p content = with_node s p (λ n. record n { content = content })

module _ {D : Type 0} (make : D → List Part → Part) (s : Places (Node D)) (p : ℕ) (live : 0 < count_at s p) (node : Node D) (is : item_at s p ≡ Some node) (content : D) where
  pub content_names : (q : ℕ) → list_at (map children_of (set_content_of s p content).slots) q ≡ list_at (map children_of s.slots) q
  content_names q = elim (eqb_tells q p) as (λ x. list_at (map children_of (set_content_of s p content).slots) q ≡ list_at (map children_of s.slots) q) [
    | inl e ↦ subst (λ (k : ℕ). list_at (map children_of (set_content_of s p content).slots) k ≡ list_at (map children_of s.slots) k) (sym e.1)
        (with_names_here s p live (λ n. record n { content = content }) node is ∙ sym (names_at s p ∙ ap names is))
    | inr e ↦ with_names_other s p live (λ n. record n { content = content }) q e.1
  ]

  pub content_edits : Edits p (level_of make s) (level_of make (set_content_of s p content))
  content_edits = record {
    children = content_names;
    counts = λ q. with_counts s p live (λ n. record n { content = content }) q;
    builds = λ q d. ap (built make) (with_item_other s p live (λ n. record n { content = content }) q d);
  }

  pub content_item : item_at (set_content_of s p content) p ≡ Some (record { content = content; children = node.children })
  content_item =
      let f : Node D → Node D = λ n. record n { content = content } in
      with_item_here s p live (λ n. record n { content = content }) ∙ ap (option_map f) is

  pub content_thins : IsKept s → Thins s (set_content_of s p content)
  content_thins kept = with_thins s p live (λ n. record n { content = content }) kept node is refl

-- a node that is put in the place of one with the same children
item_slot : {D : Type 0} (slot : Option (Node D × ℕ)) (node : Node D) (content : D) → option_map (λ (kept : Node D × ℕ). kept.0) slot ≡ Some node
    → option_map {U = Node D × ℕ} (λ (kept : Node D × ℕ). (record { content = content; children = node.children }, kept.1)) slot ≡ option_map (λ (kept : Node D × ℕ). (record kept.0 { content = content }, kept.1)) slot
item_slot None node content is = refl
item_slot {D} (Some kept) node content is =
    let f : List ℕ → Option (Node D × ℕ) = λ qs. Some (record { content = content; children = qs }, kept.1) in
    ap (λ (o : Option (Node D)). f (names o)) (sym is)

pub item_is : {D : Type 0} (s : Places (Node D)) (p : ℕ) (node : Node D) (content : D) → item_at s p ≡ Some node
    → with_item s p (record { content = content; children = node.children }) ≡ set_content_of s p content
item_is s p node content is = ap (with_slot s p) (item_slot (slot_at s p) node content is)

-- what such a change does to all levels
pub record Changed (ls ms : List (Level Part)) (root : ℕ) : Type 0 where
  pub counted : AllCounted ms
  pub apart : (r : ℕ) → IsApart ls r → IsApart ms r
  pub others : (r : ℕ) → r ≢ root → value nothing ms r ≡ value nothing ls r
  pub places : (a : Bool) (r : ℕ) → shared_places a ms r ≡ shared_places a ls r
  pub owes : (r : ℕ) (is : List ℕ) → owed ms r is ≡ owed ls r is
  pub inside : (r : ℕ) (is : List ℕ) → InTree ls r is → InTree ms r is
  pub ends : (r : ℕ) (is : List ℕ) → end_of ms r is ≡ end_of ls r is

pub changed_by : {place : ℕ} {m m2 : Level Part} → Edits place m m2 → (above rest : List (Level Part)) (root : ℕ) (path : List ℕ) → AllCounted (above ++ m ∷ rest) → OpenPath above root path place
    → m.count place ≤ 1 → Changed (above ++ m ∷ rest) (above ++ m2 ∷ rest) root
changed_by {place = place} {m = m} e above rest root path all open_path one = record {
  counted = edit_counted e rest above all;
  apart = λ r a. edit_apart e rest above r a;
  others = λ r d. edit_stays e nothing rest above r (alone above rest m root r path place all open_path one d);
  places = λ a r. edit_shared e a rest above r;
  owes = λ r is. edit_owed e rest above r is;
  inside = λ r is there. edit_in_tree e rest above r is there;
  ends = λ r is. edit_end e rest above r is;
}

-- what was a root's own is so still
pub owns_changed : (os ls ms : List (Level Part)) (root : ℕ) (path : List ℕ) (place : ℕ) → Owns os ls root path place → Changed ls ms root → Owns os ms root path place
owns_changed os ls ms root path place w c = record {
  ends = c.ends root path ∙ w.ends;
  own = c.owes root path ∙ w.own;
  left = omega (arith, w.left, c.places false root);
  longer = λ rest there.
      (let on = w.longer rest there in (c.inside root (path ++ rest) on.0, omega (arith, on.1, c.owes root (path ++ rest))));
}

module _ (s u : Store) (root : ℕ) (sound : IsSound s) (c : Changed (levels s) (levels u) root) (roots : u.roots ≡ s.roots) (most : u.most ≡ s.most) where
  change_shared : (r : ℕ) → shared u r ≡ shared s r
  change_shared r = omega (arith, c.places false r, levels_shared s r, levels_shared u r)

  pub change_keeps : made u ≡ made s → made s ≤ 2 ^ 128 - 1 → KeepsOthers root s u
  change_keeps same few = record {
    others = record {
      trees = λ other d. record { tree = ap as_batch (c.others other d); live = rw roots (λ h. h, λ h. h) };
      shared = λ other d. omega (arith, change_shared other);
    };
    live = rw roots (λ h. h, λ h. h);
    places = omega (arith, c.places true root, levels_places s root, levels_places u root);
    fewer = omega (arith, change_shared root);
    rose = omega (arith, same, few, change_shared root);
    entries = rw (roots, most) refl;
  }

  pub change_sound : IsKept u.batches → IsKept u.resources → IsKept u.scopes → IsKept u.logs → IsSound u
  change_sound batches resources scopes logs = record {
    counts = c.counted;
    apart = λ r. c.apart r (sound.apart r);
    batches = batches;
    resources = resources;
    scopes = scopes;
    logs = logs;
    roots = rw (roots, most) sound.roots;
    most = rw most sound.most;
  }
