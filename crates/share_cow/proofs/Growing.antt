-- Nodes that come, one after another, and what is left where they go again.
use Rattle.std.proofs.Common.{◌≡◌, ◌+◌, ◌<◌, ◌≤◌, ℕ, zero, suc, List, [], ◌∷◌, ◌++◌, length, map, refl, ap, sym, ◌∙◌, arith, inl, inr, ◌⊎◌}
use Rattle.std.proofs.lemmas.List.{map-append}
use Rattle.std.specs.Prelude.{filter_map, option_map, Option}
use Rattle.pdata_tree.specs.Tree.{records_of_resources, records_of_scopes}
use Rattle.pdata_tree.specs.declared.record.LogRecord.{LogRecord}
use Rattle.pdata_tree.specs.declared.resource.ResourceTree.{ResourceTree}
use Rattle.pdata_tree.specs.declared.scope.ScopeTree.{ScopeTree}
use Rattle.shelf.specs.Places.{Places}
use Rattle.share_cow.specs.declared.node.Node.{Node}
use Rattle.share_cow.specs.Levels.{Level, AllCounted, list_at, times, value}
use Rattle.share_cow.specs.Lowering.{Agree, AllAgree, Lowers, Thins}
use Rattle.share_cow.specs.Planting.{AllMore, AllSame, Grows, Keeps, Restores, Spent, scopes_of_resources}
use Rattle.share_cow.specs.Store.{IsKept, Part, a_log, a_resource, a_scope, as_log, as_resource, as_scope, level_of, nothing}
use Rattle.share_cow.proofs.Added.{newer}
use Rattle.share_cow.proofs.Falling.{agree_refl}
use Rattle.share_cow.proofs.Lists.{map_same, named_same, times_append}
use Rattle.share_cow.proofs.Slots.{names, names_at}
use Rattle.share_cow.proofs.Same.{same_from, value_same}

abbrev pub New : Level Part → Level Part → ℕ → Type 0
New l m p = (m.count p ≡ l.count p) ⊎ ((l.count p ≡ 0) × (m.count p ≡ 1))

new_on : (l m n : Level Part) (p : ℕ) → New l m p → New m n p → New l n p
new_on l m n p (inl a) (inl b) = inl (b ∙ a)
new_on l m n p (inl a) (inr b) = inr (sym a ∙ b.0, b.1)
new_on l m n p (inr a) (inl b) = inr (a.0, b ∙ a.1)
new_on l m n p (inr a) (inr b) = absurd (omega (arith, a.1, b.0))

pub still : (l m : Level Part) (p : ℕ) → New l m p → 0 < l.count p → 0 < m.count p
still l m p (inl a) h = omega (arith, a, h)
still l m p (inr a) h = omega (arith, a.1)

pub more_refl : (ls : List (Level Part)) → AllMore ls ls
more_refl [] = tt
more_refl (l ∷ ls) = (λ p. inl refl, more_refl ls)

pub more_on : (ls ms ns : List (Level Part)) → AllMore ls ms → AllMore ms ns → AllMore ls ns
more_on [] [] [] a b = tt
more_on [] [] (n ∷ ns) a b = absurd b
more_on [] (m ∷ ms) ns a b = absurd a
more_on (l ∷ ls) [] ns a b = absurd a
more_on (l ∷ ls) (m ∷ ms) [] a b = absurd b
more_on (l ∷ ls) (m ∷ ms) (n ∷ ns) a b = (λ p. new_on l m n p (a.0 p) (b.0 p), more_on ls ms ns a.1 b.1)

-- what counts counts still
abbrev pub AllStill : List (Level Part) → List (Level Part) → Type 0
AllStill [] [] = Unit {0}
AllStill [] (m ∷ ms) = ⊥
AllStill (l ∷ ls) [] = ⊥
AllStill (l ∷ ls) (m ∷ ms) = ((p : ℕ) → 0 < l.count p → 0 < m.count p) × AllStill ls ms

still_all : (ls ms : List (Level Part)) → AllMore ls ms → AllStill ls ms
still_all [] [] more = tt
still_all [] (m ∷ ms) more = absurd more
still_all (l ∷ ls) [] more = absurd more
still_all (l ∷ ls) (m ∷ ms) more = (λ p h. still l m p (more.0 p) h, still_all ls ms more.1)

pub agree_still : (ls ms ns : List (Level Part)) → AllAgree ls ls ms → AllAgree ms ms ns → AllStill ls ms → AllAgree ls ls ns
agree_still [] [] [] a b f = tt
agree_still [] [] (n ∷ ns) a b f = absurd b
agree_still [] (m ∷ ms) ns a b f = absurd a
agree_still (l ∷ ls) [] ns a b f = absurd a
agree_still (l ∷ ls) (m ∷ ms) [] a b f = absurd b
agree_still (l ∷ ls) (m ∷ ms) (n ∷ ns) a b f = (
  record {
    children = λ p h. b.0.children p (f.0 p h) ∙ a.0.children p h;
    builds = λ p h. b.0.builds p (f.0 p h) ∙ a.0.builds p h;
    counted = λ p h. refl;
  },
  agree_still ls ms ns a.1 b.1 f.1,
)

agree_more : (ls ms ns : List (Level Part)) → AllAgree ls ls ms → AllAgree ms ms ns → AllMore ls ms → AllAgree ls ls ns
agree_more ls ms ns a b f = agree_still ls ms ns a b (still_all ls ms f)

-- where nothing comes
pub grows_none : (l : Level Part) (ls : List (Level Part)) → AllCounted (l ∷ ls) → Grows [] [] l l ls ls
grows_none l ls counted = record {
  counts = λ p. omega arith;
  fresh = λ p h. absurd (omega (arith, h));
  more = more_refl ls;
  agree = agree_refl (l ∷ ls);
  counted = counted;
  values = refl;
}

-- what comes in turn comes in all
pub grows_on : (xs ys : List ℕ) (P Q : List Part) (l m n : Level Part) (ls ms ns : List (Level Part)) → Grows xs P l m ls ms → Grows ys Q m n ms ns → Grows (xs ++ ys) (P ++ Q) l n ls ns
grows_on xs ys P Q l m n ls ms ns a b = record {
  counts = λ p. omega (arith, a.counts p, b.counts p, times_append p xs ys);
  fresh = λ p h.
      elim (newer ys Q m n ms ns b p) as (λ x. n.count p ≡ 1) [
        | inl e ↦ e ∙ a.fresh p (omega (arith, h, e, b.counts p, times_append p xs ys))
        | inr e ↦ e.1
      ];
  more = more_on ls ms ns a.more b.more;
  agree = agree_more (l ∷ ls) (m ∷ ms) (n ∷ ns) a.agree b.agree (newer xs P l m ls ms a, a.more);
  counted = b.counted;
  values =
      (let both = map-append (value nothing (n ∷ ns)) xs ys in
      let old = map_same (value nothing (n ∷ ns)) (value nothing (m ∷ ms)) xs
      (λ q h. value_same nothing (m ∷ ms) (n ∷ ns) q (same_from m ms (m ∷ ms) (n ∷ ns) a.counted b.agree q (omega (arith, h, a.counts q)))) in
      let first = a.values in
      let second = b.values in
      cc);
}

-- the places that came can go again
pub grown_held : (xs : List ℕ) (P : List Part) (l m : Level Part) (ls ms : List (Level Part)) → Grows xs P l m ls ms → (p : ℕ) → times p xs ≤ m.count p
grown_held xs P l m ls ms g p = omega (arith, g.counts p)

-- a level where a place that doesn't count names nothing
abbrev pub Tidy : Level Part → Type 0
Tidy l = (p : ℕ) → l.count p ≡ 0 → list_at l.children p ≡ []

abbrev pub AllTidy : List (Level Part) → Type 0
AllTidy [] = Unit {0}
AllTidy (l ∷ ls) = Tidy l × AllTidy ls

pub some_or_none : (n : ℕ) → (0 < n) ⊎ (n ≡ 0)
some_or_none zero = inr refl
some_or_none (suc n) = inl (omega arith)

children_back : (l m n : Level Part) → Agree l l m → Agree n m n → Tidy l → Tidy n → ((p : ℕ) → n.count p ≡ l.count p) → (p : ℕ) → list_at n.children p ≡ list_at l.children p
children_back l m n a b tl tn same p = elim (some_or_none (l.count p)) as (λ x. list_at n.children p ≡ list_at l.children p) [
  | inl e ↦ b.children p (omega (arith, e, same p)) ∙ a.children p e
  | inr e ↦ tn p (same p ∙ e) ∙ sym (tl p e)
]

pub back : (l m n : Level Part) (ls ms ns : List (Level Part)) → AllAgree (l ∷ ls) (l ∷ ls) (m ∷ ms) → AllAgree (n ∷ ns) (m ∷ ms) (n ∷ ns) → AllTidy (l ∷ ls) → AllTidy (n ∷ ns)
    → AllCounted (l ∷ ls) → AllCounted (n ∷ ns) → ((p : ℕ) → n.count p ≡ l.count p) → AllSame (l ∷ ls) (n ∷ ns) × AllAgree (l ∷ ls) (l ∷ ls) (n ∷ ns)
back l m n [] [] [] a b tl tn cl cn same = (
  (same, tt),
  (
    record {
      children = λ p h. b.0.children p (omega (arith, h, same p)) ∙ a.0.children p h;
      builds = λ p h. b.0.builds p (omega (arith, h, same p)) ∙ a.0.builds p h;
      counted = λ p h. refl;
    },
    tt,
  ),
)
back l m n [] [] (n2 ∷ ns) a b tl tn cl cn same = absurd b.1
back l m n [] (m2 ∷ ms) ns a b tl tn cl cn same = absurd a.1
back l m n (l2 ∷ ls) [] ns a b tl tn cl cn same = absurd a.1
back l m n (l2 ∷ ls) (m2 ∷ ms) [] a b tl tn cl cn same = absurd b.1
back l m n (l2 ∷ ls) (m2 ∷ ms) (n2 ∷ ns) a b tl tn cl cn same =
    let below = back l2 m2 n2 ls ms ns a.1 b.1 tl.1 tn.1 cl.1 cn.1
    (λ p. cn.0 p ∙ named_same p l.children n.children (children_back l m n a.0 b.0 tl.0 tn.0 same) ∙ sym (cl.0 p)) in (
      (same, below.0),
      (
        record {
          children = λ p h. b.0.children p (omega (arith, h, same p)) ∙ a.0.children p h;
          builds = λ p h. b.0.builds p (omega (arith, h, same p)) ∙ a.0.builds p h;
          counted = λ p h. refl;
        },
        below.1,
      ),
    )

-- what came and went again left all as it was
pub restored : (xs : List ℕ) (P : List Part) (l m n : Level Part) (ls ms ns : List (Level Part)) → Grows xs P l m ls ms → Lowers xs m n ms ns
    → AllCounted (l ∷ ls) → AllTidy (l ∷ ls) → AllTidy (n ∷ ns) → Restores (l ∷ ls) (n ∷ ns)
restored xs P l m n ls ms ns g low counted tl tn =
    let both = back l m n ls ms ns g.agree low.agree tl tn counted low.counted (λ p. omega (arith, g.counts p, low.counts p)) in
    record { counts = both.0; agree = both.1; counted = low.counted }

pub same_refl : (ls : List (Level Part)) → AllSame ls ls
same_refl [] = tt
same_refl (l ∷ ls) = (λ p. refl, same_refl ls)

pub restores_refl : (ls : List (Level Part)) → AllCounted ls → Restores ls ls
restores_refl ls counted = record { counts = same_refl ls; agree = agree_refl ls; counted = counted }

pub keeps_none : {D : Type 0} (s : Places (Node D)) → IsKept s → Keeps 0 s s
keeps_none s kept = record { kept = kept; added = omega (arith, kept.most) }

pub keeps_on : {D : Type 0} (s t u : Places (Node D)) (n m : ℕ) → Keeps n s t → Keeps m t u → Keeps (n + m) s u
keeps_on s t u n m a b = record { kept = b.kept; added = omega (arith, a.added, b.added) }

pub spent_by : {D : Type 0} (s t u v : Places (Node D)) (n : ℕ) → IsKept s → Keeps n s t → Spent t u → Thins u v → Spent s v
spent_by s t u v n kept a b d = record { kept = d.kept; added = omega (arith, a.added, b.added, d.added, kept.most) }

pub spent_refl : {D : Type 0} (s : Places (Node D)) → IsKept s → Spent s s
spent_refl s kept = record { kept = kept; added = omega arith }

pub restored_more : (ls ms ns : List (Level Part)) → AllMore ls ms → AllSame ms ns → AllMore ls ns
restored_more [] [] [] a b = tt
restored_more [] [] (n ∷ ns) a b = absurd b
restored_more [] (m ∷ ms) ns a b = absurd a
restored_more (l ∷ ls) [] ns a b = absurd a
restored_more (l ∷ ls) (m ∷ ms) [] a b = absurd b
restored_more (l ∷ ls) (m ∷ ms) (n ∷ ns) a b = (λ p. new_on l m n p (a.0 p) (inl (b.0 p)), restored_more ls ms ns a.1 b.1)

-- what came before a refusal is still there
pub grows_restored : (xs : List ℕ) (P : List Part) (l m n : Level Part) (ls ms ns : List (Level Part)) → Grows xs P l m ls ms → Restores (m ∷ ms) (n ∷ ns) → Grows xs P l n ls ns
grows_restored xs P l m n ls ms ns g r = record {
  counts = λ p. r.counts.0 p ∙ g.counts p;
  fresh = λ p h. r.counts.0 p ∙ g.fresh p h;
  more = restored_more ls ms ns g.more r.counts.1;
  agree = agree_more (l ∷ ls) (m ∷ ms) (n ∷ ns) g.agree r.agree (newer xs P l m ls ms g, g.more);
  counted = r.counted;
  values = map_same (value nothing (n ∷ ns)) (value nothing (m ∷ ms)) xs
      (λ q h. value_same nothing (m ∷ ms) (n ∷ ns) q (same_from m ms (m ∷ ms) (n ∷ ns) g.counted r.agree q (omega (arith, h, g.counts q))))
      ∙ g.values;
}

-- a shelf's level
pub tidy_level : {D : Type 0} (make : D → List Part → Part) (s : Places (Node D)) → IsKept s → Tidy (level_of make s)
tidy_level make s kept p none = names_at s p ∙ ap (λ (slot : Option (Node _ × ℕ)). names (option_map (λ kept. kept.0) slot)) (kept.tidy p none)

-- parts of one kind
pub logs_back : (ls : List LogRecord) → filter_map as_log (map a_log ls) ≡ ls
logs_back [] = refl
logs_back (l ∷ ls) = ap (λ (xs : List LogRecord). l ∷ xs) (logs_back ls)

pub scopes_back : (ss : List ScopeTree) → filter_map as_scope (map a_scope ss) ≡ ss
scopes_back [] = refl
scopes_back (s ∷ ss) = ap (λ (xs : List ScopeTree). s ∷ xs) (scopes_back ss)

pub resources_back : (rs : List ResourceTree) → filter_map as_resource (map a_resource rs) ≡ rs
resources_back [] = refl
resources_back (r ∷ rs) = ap (λ (xs : List ResourceTree). r ∷ xs) (resources_back rs)

-- numbers of records and scopes in one more
pub records_more : (ss : List ScopeTree) (s : ScopeTree) → records_of_scopes (ss ++ s ∷ []) ≡ records_of_scopes ss + length s.logs
records_more [] s = omega arith
records_more (t ∷ ss) s = omega (arith, records_more ss s)

pub all_records_more : (rs : List ResourceTree) (r : ResourceTree) → records_of_resources (rs ++ r ∷ []) ≡ records_of_resources rs + records_of_scopes r.scopes
all_records_more [] r = omega arith
all_records_more (t ∷ rs) r = omega (arith, all_records_more rs r)

pub scopes_more : (rs : List ResourceTree) (r : ResourceTree) → scopes_of_resources (rs ++ r ∷ []) ≡ scopes_of_resources rs + length r.scopes
scopes_more [] r = omega arith
scopes_more (t ∷ rs) r = omega (arith, scopes_more rs r)

pub restored_above : (l k n : Level Part) (ks ns : List (Level Part)) → AllCounted (l ∷ k ∷ ks) → Restores (k ∷ ks) (n ∷ ns) → Restores (l ∷ k ∷ ks) (l ∷ n ∷ ns)
restored_above l k n ks ns counted r = record {
  counts = (λ p. refl, r.counts);
  agree = (record { children = λ p h. refl; builds = λ p h. refl; counted = λ p h. refl }, r.agree);
  counted = (λ p. r.counts.0 p ∙ counted.0 p, r.counted);
}
