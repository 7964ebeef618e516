-- Parts of a root's tree that became roots.
use Rattle.std.proofs.Common.{◌≡◌, ◌≢◌, ◌∙◌, ◌≤◌, ◌+◌, ◌-◌, ◌^◌, inl, ℕ, Bool, List, [], ◌∷◌, Option, None, Some, Result, Ok, Err, refl, sym, ap, subst, arith}
use Rattle.std.specs.Prelude.{IfOk, OnErr, OnOk, min, option_map}
use Rattle.pdata_tree.specs.Selecting.{kept, kept_resources}
use Rattle.pdata_tree.specs.Tree.{spine}
use Rattle.pdata_tree.specs.declared.batch.Batch.{Batch}
use Rattle.pdata_tree.specs.declared.place.Context.{Context}
use Rattle.pdata_tree.specs.declared.place.Context.TheVariants.{Resource}
use Rattle.share_cow.specs.Kept.{AllStay, OthersStay, SameTree, SharesWith}
use Rattle.share_cow.specs.Scene.{tree_of}
use Rattle.share_cow.specs.Store.{IsLiveRoot, Store, den, made, root_at, spare}
use Rattle.share_cow.specs.Views.{batch_or_empty}
use Rattle.routing_conn.specs.Rows.{Retains, Routes, Selects}
use Rattle.routing_conn.proofs.Frames.{same_here, same_on}
use Rattle.routing_conn.proofs.Lists.{free_apart, none_there}

pub stay_same : (s t : Store) → t ≡ s → AllStay s t
stay_same s t is =
    subst (AllStay s) (sym is) (record { trees = λ r. same_here s r; shared = λ r. omega arith; spare = refl; made = omega arith })

kept_there : (flags : List Bool) (tree : Option Batch) → batch_or_empty (option_map (kept flags) tree) ≡ kept flags (batch_or_empty tree)
kept_there flags None = refl
kept_there flags (Some batch) = refl

resources_there : (flags : List Bool) (tree : Option Batch)
    → batch_or_empty (option_map (kept_resources flags) tree) ≡ kept_resources flags (batch_or_empty tree)
resources_there [] None = refl
resources_there (flag ∷ flags) None = refl
resources_there flags (Some batch) = refl

-- the tree of a part by the calls on a forest is the part of the tree
pub resources_part : (flags : List Bool) (old new : Store) (root part : ℕ) → den new part ≡ option_map (kept_resources flags) (den old root)
    → tree_of new part ≡ kept_resources flags (tree_of old root)
resources_part flags old new root part is = ap batch_or_empty is ∙ resources_there flags (den old root)

pub records_part : (flags : List Bool) (old new : Store) (root part : ℕ) → den new part ≡ option_map (kept flags) (den old root)
    → tree_of new part ≡ kept flags (tree_of old root)
records_part flags old new root part is = ap batch_or_empty is ∙ kept_there flags (den old root)

pub grows : (old new : Store) (more : ℕ) → made new ≡ min (made old + more) (2 ^ 128 - 1) → made old ≤ made new
grows old new more is = omega (arith, is)

pub one_node : (old new : Store) (tree : Batch) → made new ≡ min (made old + 1) (2 ^ 128 - 1) → made new ≤ made old + spine tree
one_node old new tree is = omega (arith, is)

pub spine_nodes : (old new : Store) (more : ℕ) → made new ≡ min (made old + more) (2 ^ 128 - 1) → made new ≤ made old + more
spine_nodes old new more is = omega (arith, is)

-- what the calls on a forest leave of a part by whole resources
pub selects_resources : {E : Type 0} (context : Context) (flags : List Bool) (root : ℕ) (old new : Store) (result : Result ℕ E) → context ≡ Resource
    → IfOk result (λ part. den new part ≡ option_map (kept_resources flags) (den old root)) → IfOk result (λ part. IsLiveRoot new part)
    → IfOk result (λ part. root_at old part ≡ None) → IfOk result (λ part. SharesWith root part old new) → OnOk result (spare new + 1 ≡ spare old)
    → OnOk result (made new ≡ min (made old + 1) (2 ^ 128 - 1)) → IfOk result (λ part. Selects context flags root part old new)
selects_resources context flags root old new (Ok part) is tree live fresh others entries count =
    subst (λ (c : Context). Selects c flags root part old new) (sym is)
    (record {
      tree = resources_part flags old new root part tree;
      live = live;
      fresh = fresh;
      others = others;
      spare = entries;
      grew = grows old new 1 count;
      made = one_node old new (tree_of new part) count;
    })
selects_resources context flags root old new (Err error) is tree live fresh others entries count = tt

pub retains_resources : {E : Type 0} (context : Context) (flags : List Bool) (root : ℕ) (old new : Store) (result : Result Unit E) → context ≡ Resource
    → OnOk result (den new root ≡ option_map (kept_resources flags) (den old root)) → IsLiveRoot new root → OnOk result (OthersStay root old new)
    → spare new ≡ spare old → OnOk result (made new ≡ min (made old + 1) (2 ^ 128 - 1)) → OnOk result (Retains context flags root old new)
retains_resources context flags root old new (Ok done) is tree live others entries count =
    subst (λ (c : Context). Retains c flags root old new) (sym is)
    (record {
      tree = resources_part flags old new root root tree;
      live = live;
      others = others;
      spare = entries;
      grew = grows old new 1 count;
      made = one_node old new (tree_of new root) count;
    })
retains_resources context flags root old new (Err error) is tree live others entries count = tt

-- a refused call that changed nothing leaves all roots as they were
pub refused : {X E : Type 0} (old new : Store) (result : Result X E) → OnErr result (new ≡ old) → OnErr result (AllStay old new)
refused old new (Ok value) is = is
refused old new (Err error) is = stay_same old new is

-- what always holds holds where memory ran out
pub on_err : {X E : Type 0} (P : Type 0) (result : Result X E) → P → OnErr result P
on_err P (Ok value) h = tt
on_err P (Err error) h = h

-- a part that was made is given up again
module _ (context : Context) (flags : List Bool) (rest taken : ℕ) (old mid now new : Store) (live : IsLiveRoot old rest)
    (selects : Selects context flags rest taken old mid) (all : AllStay mid now) (free : root_at new taken ≡ None) (others : OthersStay taken now new)
    (entries : spare new ≡ spare now + 1) (count : made new ≡ made now) where
  same_behind : (r : ℕ) → r ≢ taken → SameTree old new r
  same_behind r isnt = same_on old mid new r (selects.others.trees r isnt) (same_on mid now new r (all.trees r) (others.trees r isnt))

  pub routes_undone : Routes rest old new []
  routes_undone = record {
    own = (same_behind rest (free_apart old rest taken live selects.fresh)).live.1 live;
    live = λ r h. absurd (none_there r h);
    fresh = λ r h. absurd (none_there r h);
    apart = tt;
    no_other = λ r there. inl ((same_behind r (free_apart new r taken there free)).live.0 there);
    trees = λ r lived apart. same_behind r (free_apart old r taken lived selects.fresh);
    shared = λ r lived apart.
        let isnt = free_apart old r taken lived selects.fresh in
        omega (arith, selects.others.shared r isnt apart, all.shared r, others.shared r isnt);
    spare = omega (arith, selects.spare, all.spare, entries);
    grew = omega (arith, selects.grew, all.made, count);
  }
