-- What stands at a place of a root's tree, and the tree once it holds something else.
use Rattle.std.proofs.Common.{◌≡◌, ◌<◌, ◌≤◌, ℕ, List, [], ◌∷◌, length, get_or, set, map, Option, Some, None, refl, ap, sym, ◌∙◌, arith}
use Rattle.std.specs.Prelude.{filter_map, slice_get}
use Rattle.std.proofs.lemmas.List.{length-map}
use Rattle.pdata_tree.specs.declared.batch.Batch.{Batch}
use Rattle.pdata_tree.specs.declared.record.LogRecord.{LogRecord}
use Rattle.pdata_tree.specs.declared.resource.ResourceNode.{ResourceNode}
use Rattle.pdata_tree.specs.declared.resource.ResourceTree.{ResourceTree}
use Rattle.pdata_tree.specs.declared.scope.ScopeNode.{ScopeNode}
use Rattle.pdata_tree.specs.declared.scope.ScopeTree.{ScopeTree}
use Rattle.shelf.specs.Places.{count_at, item_at}
use Rattle.share_cow.specs.Copies.{OpenPath}
use Rattle.share_cow.specs.Levels.{list_at, value}
use Rattle.share_cow.specs.Lowering.{Holds}
use Rattle.share_cow.specs.Scene.{tree_of}
use Rattle.share_cow.specs.Store.{IsSound, Part, Store, as_batch, as_log, as_resource, as_scope, batch_level, batch_made, batch_named, built, children_of, first_part, levels, log_level, log_made, nothing, resource_level, resource_levels, resource_made, root_at, root_level, scope_level, scope_levels, scope_made, tree_levels}
use Rattle.share_cow.specs.Views.{batch_or_empty, tree_at}
use Rattle.share_cow.specs.declared.node.Node.{Node}
use Rattle.share_cow.proofs.Changed.{Changed, changed_by, content_edits, content_item, content_names, set_content_of}
use Rattle.share_cow.proofs.Edits.{Edits, edit_replaces}
use Rattle.share_cow.proofs.Found.{l_held, l_live, r_live, s_held, s_live}
use Rattle.share_cow.proofs.Looks.{get_parts, is_log, is_resource, is_scope}
use Rattle.share_cow.proofs.OwnBatch.{item_there}
use Rattle.share_cow.proofs.Share.{batch_live}
use Rattle.share_cow.proofs.Table.{root_list}
use Rattle.share_cow.proofs.TreeEdits.{batch_set, resource_set, scope_set}
use Rattle.share_cow.proofs.Views.{resources_are, resources_live, root_tree}

named_some : (o : Option ℕ) → 0 < length (batch_named o) → o ≡ Some (get_or (batch_named o) 0 0)
named_some None h = absurd (omega arith)
named_some (Some b) h = refl

-- the batch that a root names
abbrev pub root_batch : Store → ℕ → ℕ
root_batch s root = get_or (list_at (map batch_named s.roots) root) 0 0

pub root_names : (s : Store) (root : ℕ) → 0 < length (list_at (map batch_named s.roots) root) → root_at s root ≡ Some (root_batch s root)
root_names s root h =
    named_some (root_at s root) (omega (arith, h, ap length (root_list s.roots root)))
    ∙ ap (λ (qs : List ℕ). Some (get_or qs 0 0)) (sym (root_list s.roots root))

module _ (s : Store) (root : ℕ) (sound : IsSound s) (named : 0 < length (list_at (map batch_named s.roots) root)) where
  is_root : root_at s root ≡ Some (root_batch s root)
  is_root = root_names s root named

  pub b_live : 0 < count_at s.batches (root_batch s root)
  b_live = batch_live s root (root_batch s root) sound is_root

  pub tree_here : tree_of s root ≡ tree_at (tree_levels s) (root_batch s root)
  tree_here = ap batch_or_empty (root_tree s root (root_batch s root) sound is_root)

  abbrev pub r_places : List ℕ
  r_places = list_at (map children_of s.batches.slots) (root_batch s root)

  pub all_resources : (tree_of s root).resources ≡ filter_map as_resource (map (value nothing (resource_levels s.resources s.scopes s.logs)) r_places)
  all_resources =
      ap (λ (t : Batch). t.resources) tree_here
      ∙ resources_are s.batches s.resources s.scopes s.logs (root_batch s root) b_live sound.counts.1

  module _ (i : ℕ) (r_inside : i < length r_places) where
    abbrev pub r_place : ℕ
    r_place = get_or r_places i 0

    pub r_counts : 0 < count_at s.resources r_place
    r_counts = r_live s.batches s.resources s.scopes s.logs (root_batch s root) b_live sound.counts.1 i r_inside

    abbrev pub s_places : List ℕ
    s_places = list_at (map children_of s.resources.slots) r_place

    module _ (rn : Node ResourceNode) (r_is : item_at s.resources r_place ≡ Some rn) where
      abbrev pub r_tree : ResourceTree
      r_tree = record { node = rn.content; scopes = filter_map as_scope (map (value nothing (scope_levels s.scopes s.logs)) s_places) }

      pub r_found : slice_get (tree_of s root).resources i ≡ Some r_tree
      r_found =
          ap (λ (rs : List ResourceTree). slice_get rs i) all_resources
          ∙ get_parts as_resource (value nothing (resource_levels s.resources s.scopes s.logs)) r_places i r_inside
          (is_resource s.resources s.scopes s.logs sound.counts.1.1.0 sound.counts.1.1.1.0 r_places (resources_live s.batches s.resources s.scopes s.logs (root_batch s root) b_live sound.counts.1))
          ∙ ap (λ (o : Option (Node ResourceNode)). as_resource (built resource_made o (map (value nothing (scope_levels s.scopes s.logs)) s_places))) r_is

      -- the tree with another resource there
      pub with_resource : (x : Part) (r : ResourceTree) → as_resource x ≡ Some r
          → as_batch (first_part (set (map (value nothing (tree_levels s)) (list_at (map batch_named s.roots) root)) 0 (built batch_made (item_at s.batches (root_batch s root)) (set (map (value nothing (resource_levels s.resources s.scopes s.logs)) r_places) i x))))
          ≡ Some (record { resources = set (tree_of s root).resources i r })
      with_resource x r are =
          let node = item_there s.batches (root_batch s root) b_live in
          batch_set s.resources s.scopes s.logs sound.counts.1.1.0 sound.counts.1.1.1.0 s.batches (root_batch s root) node.0 r_places i x r (map (value nothing (tree_levels s)) (list_at (map batch_named s.roots) root))
          node.1 (resources_live s.batches s.resources s.scopes s.logs (root_batch s root) b_live sound.counts.1) r_inside (omega (arith, named, length-map (list_at (map batch_named s.roots) root) (value nothing (tree_levels s)))) are
          ∙ ap (λ (rs : List ResourceTree). Some (record { resources = set rs i r })) (sym all_resources)

      -- the resource holds something else
      module _ (content : ResourceNode) (open_path : OpenPath (root_level s.roots ∷ batch_level s.batches ∷ []) root (0 ∷ i ∷ []) r_place) (one : count_at s.resources r_place ≤ 1) where
        abbrev pub r_after : Store
        r_after = record s { resources = set_content_of s.resources r_place content }

        r_edit : Edits r_place (resource_level s.resources) (resource_level (set_content_of s.resources r_place content))
        r_edit = content_edits resource_made s.resources r_place r_counts rn r_is content

        pub r_changed : Changed (levels s) (levels r_after) root
        r_changed = changed_by r_edit (root_level s.roots ∷ batch_level s.batches ∷ []) (scope_levels s.scopes s.logs) root (0 ∷ i ∷ []) sound.counts open_path one

        r_new : as_resource (value nothing (resource_levels (set_content_of s.resources r_place content) s.scopes s.logs) r_place) ≡ Some (record { node = content; scopes = r_tree.scopes })
        r_new =
            ap (λ (o : Option (Node ResourceNode)). as_resource (built resource_made o (map (value nothing (scope_levels s.scopes s.logs)) (list_at (map children_of (set_content_of s.resources r_place content).slots) r_place))))
            (content_item resource_made s.resources r_place r_counts rn r_is content)
            ∙ ap (λ (qs : List ℕ). Some (record { node = content; scopes = filter_map as_scope (map (value nothing (scope_levels s.scopes s.logs)) qs) }))
            (content_names resource_made s.resources r_place r_counts rn r_is content r_place)

        pub r_written : tree_of r_after root ≡ record { resources = set (tree_of s root).resources i (record { node = content; scopes = r_tree.scopes }) }
        r_written =
            ap batch_or_empty
            (ap as_batch (edit_replaces r_edit nothing (scope_levels s.scopes s.logs) (root_level s.roots ∷ batch_level s.batches ∷ []) root (0 ∷ i ∷ []) open_path (sound.apart root 2 r_place (omega arith)))
            ∙ with_resource (value nothing (resource_levels (set_content_of s.resources r_place content) s.scopes s.logs) r_place) (record { node = content; scopes = r_tree.scopes }) r_new)

      module _ (j : ℕ) (s_inside : j < length s_places) where
        abbrev pub s_place : ℕ
        s_place = get_or s_places j 0

        pub s_counts : 0 < count_at s.scopes s_place
        s_counts = s_live s.batches s.resources s.scopes s.logs (root_batch s root) b_live sound.counts.1 i r_inside j s_inside

        scopes_held : Holds s_places (scope_level s.scopes)
        scopes_held = s_held s.batches s.resources s.scopes s.logs (root_batch s root) b_live sound.counts.1 i r_inside

        abbrev pub l_places : List ℕ
        l_places = list_at (map children_of s.scopes.slots) s_place

        module _ (sn : Node ScopeNode) (s_is : item_at s.scopes s_place ≡ Some sn) where
          abbrev pub s_tree : ScopeTree
          s_tree = record { node = sn.content; logs = filter_map as_log (map (value nothing (log_level s.logs ∷ [])) l_places) }

          pub s_found : slice_get r_tree.scopes j ≡ Some s_tree
          s_found =
              get_parts as_scope (value nothing (scope_levels s.scopes s.logs)) s_places j s_inside (is_scope s.scopes s.logs sound.counts.1.1.1.0 s_places scopes_held)
              ∙ ap (λ (o : Option (Node ScopeNode)). as_scope (built scope_made o (map (value nothing (log_level s.logs ∷ [])) l_places))) s_is

          -- the tree with another scope there
          pub with_scope : (x : Part) (t : ScopeTree) → as_scope x ≡ Some t
              → as_resource (built resource_made (item_at s.resources r_place) (set (map (value nothing (scope_levels s.scopes s.logs)) s_places) j x))
              ≡ Some (record { node = rn.content; scopes = set r_tree.scopes j t })
          with_scope x t are = resource_set s.scopes s.logs sound.counts.1.1.1.0 s.resources r_place rn s_places j x t r_is scopes_held s_inside are

          -- the scope holds something else
          module _ (content : ScopeNode) (open_path : OpenPath (root_level s.roots ∷ batch_level s.batches ∷ resource_level s.resources ∷ []) root (0 ∷ i ∷ j ∷ []) s_place) (one : count_at s.scopes s_place ≤ 1) where
            abbrev pub s_after : Store
            s_after = record s { scopes = set_content_of s.scopes s_place content }

            s_edit : Edits s_place (scope_level s.scopes) (scope_level (set_content_of s.scopes s_place content))
            s_edit = content_edits scope_made s.scopes s_place s_counts sn s_is content

            pub s_changed : Changed (levels s) (levels s_after) root
            s_changed = changed_by s_edit (root_level s.roots ∷ batch_level s.batches ∷ resource_level s.resources ∷ []) (log_level s.logs ∷ []) root (0 ∷ i ∷ j ∷ []) sound.counts open_path one

            s_new : as_scope (value nothing (scope_levels (set_content_of s.scopes s_place content) s.logs) s_place) ≡ Some (record { node = content; logs = s_tree.logs })
            s_new =
                ap (λ (o : Option (Node ScopeNode)). as_scope (built scope_made o (map (value nothing (log_level s.logs ∷ [])) (list_at (map children_of (set_content_of s.scopes s_place content).slots) s_place))))
                (content_item scope_made s.scopes s_place s_counts sn s_is content)
                ∙ ap (λ (qs : List ℕ). Some (record { node = content; logs = filter_map as_log (map (value nothing (log_level s.logs ∷ [])) qs) }))
                (content_names scope_made s.scopes s_place s_counts sn s_is content s_place)

            pub s_written : tree_of s_after root
                ≡ record { resources = set (tree_of s root).resources i (record { node = rn.content; scopes = set r_tree.scopes j (record { node = content; logs = s_tree.logs }) }) }
            s_written =
                let r_part = built resource_made (item_at s.resources r_place) (set (map (value nothing (scope_levels s.scopes s.logs)) s_places) j (value nothing (scope_levels (set_content_of s.scopes s_place content) s.logs) s_place)) in
                ap batch_or_empty
                (ap as_batch (edit_replaces s_edit nothing (log_level s.logs ∷ []) (root_level s.roots ∷ batch_level s.batches ∷ resource_level s.resources ∷ []) root (0 ∷ i ∷ j ∷ []) open_path (sound.apart root 3 s_place (omega arith)))
                ∙ with_resource r_part (record { node = rn.content; scopes = set r_tree.scopes j (record { node = content; logs = s_tree.logs }) })
                (with_scope (value nothing (scope_levels (set_content_of s.scopes s_place content) s.logs) s_place) (record { node = content; logs = s_tree.logs }) s_new))

          module _ (k : ℕ) (l_inside : k < length l_places) where
            abbrev pub l_place : ℕ
            l_place = get_or l_places k 0

            pub l_counts : 0 < count_at s.logs l_place
            l_counts = l_live s.batches s.resources s.scopes s.logs (root_batch s root) b_live sound.counts.1 i r_inside j s_inside k l_inside

            logs_held : Holds l_places (log_level s.logs)
            logs_held = l_held s.batches s.resources s.scopes s.logs (root_batch s root) b_live sound.counts.1 i r_inside j s_inside

            module _ (ln : Node LogRecord) (l_is : item_at s.logs l_place ≡ Some ln) where
              pub l_found : slice_get s_tree.logs k ≡ Some ln.content
              l_found =
                  get_parts as_log (value nothing (log_level s.logs ∷ [])) l_places k l_inside (is_log s.logs l_places logs_held)
                  ∙ ap (λ (o : Option (Node LogRecord)). as_log (built log_made o (map (value nothing []) (list_at (map children_of s.logs.slots) l_place)))) l_is

              -- the log record holds something else
              module _ (content : LogRecord) (open_path : OpenPath (root_level s.roots ∷ batch_level s.batches ∷ resource_level s.resources ∷ scope_level s.scopes ∷ []) root (0 ∷ i ∷ j ∷ k ∷ []) l_place)
                  (one : count_at s.logs l_place ≤ 1) where
                abbrev pub l_after : Store
                l_after = record s { logs = set_content_of s.logs l_place content }

                l_edit : Edits l_place (log_level s.logs) (log_level (set_content_of s.logs l_place content))
                l_edit = content_edits log_made s.logs l_place l_counts ln l_is content

                pub l_changed : Changed (levels s) (levels l_after) root
                l_changed = changed_by l_edit (root_level s.roots ∷ batch_level s.batches ∷ resource_level s.resources ∷ scope_level s.scopes ∷ []) [] root (0 ∷ i ∷ j ∷ k ∷ []) sound.counts open_path one

                l_new : as_log (value nothing (log_level (set_content_of s.logs l_place content) ∷ []) l_place) ≡ Some content
                l_new =
                    ap (λ (o : Option (Node LogRecord)). as_log (built log_made o (map (value nothing []) (list_at (map children_of (set_content_of s.logs l_place content).slots) l_place))))
                    (content_item log_made s.logs l_place l_counts ln l_is content)

                pub l_written : tree_of l_after root
                    ≡ record { resources = set (tree_of s root).resources i (record { node = rn.content; scopes = set r_tree.scopes j (record { node = sn.content; logs = set s_tree.logs k content }) }) }
                l_written =
                    let x = value nothing (log_level (set_content_of s.logs l_place content) ∷ []) l_place in
                    let s_part = built scope_made (item_at s.scopes s_place) (set (map (value nothing (log_level s.logs ∷ [])) l_places) k x) in
                    let r_part = built resource_made (item_at s.resources r_place) (set (map (value nothing (scope_levels s.scopes s.logs)) s_places) j s_part) in
                    ap batch_or_empty
                    (ap as_batch (edit_replaces l_edit nothing [] (root_level s.roots ∷ batch_level s.batches ∷ resource_level s.resources ∷ scope_level s.scopes ∷ []) root (0 ∷ i ∷ j ∷ k ∷ []) open_path (sound.apart root 4 l_place (omega arith)))
                    ∙ with_resource r_part (record { node = rn.content; scopes = set r_tree.scopes j (record { node = sn.content; logs = set s_tree.logs k content }) })
                    (with_scope s_part (record { node = sn.content; logs = set s_tree.logs k content })
                    (scope_set s.logs s.scopes s_place sn l_places k x content s_is logs_held l_inside l_new)))
