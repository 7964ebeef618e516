use Rattle.std.proofs.Common.{◌≡◌, ◌∙◌, ℕ, List, length, Some, None, sym, ap, subst}
use Rattle.groupby_proc.specs.Indexing.{IsIndexed, candidates, codes_of, found, with_place}
use Rattle.groupby_proc.proofs.Indexed.{codes_found, found_within, if_ok, indexed_new, put_found, put_new}
use Rattle.groupby_proc.proofs.gathering.put.Goals as goal

pub put_at-requires : goal.put_at-requires
put_at-requires g c =
    let same = g.K.GroupKey.alike in
    let at : found same c.args.groups c.args.key c.candidates.result.now ≡ Some c.in-Some.at =
    sym (c.in-Some.ensures ∙ ap (λ gs. found same gs c.args.key c.candidates.result.now) c.as_slice.ensures) in
    found_within same c.args.groups c.args.key c.in-Some.at c.candidates.result.now at

-- the item goes into the group that was found
pub returns-in-Some-clause-groups : goal.returns-in-Some-clause-groups
returns-in-Some-clause-groups g c =
    let same = g.K.GroupKey.alike in
    let at : found same c.args.groups c.args.key c.candidates.result.now ≡ Some c.in-Some.at =
    sym (c.in-Some.ensures ∙ ap (λ gs. found same gs c.args.key c.candidates.result.now) c.as_slice.ensures) in
    if_ok _ _ c.put_at.result
    (λ new put. put_found same c.requires.equivalence c.args.groups new c.args.key c.args.item c.in-Some.at c.candidates.result.now c.requires.apart at put)
    c.put_at.ensures

pub returns-in-Some-clause-indexed : goal.returns-in-Some-clause-indexed
returns-in-Some-clause-indexed g c =
    let same = g.K.GroupKey.alike in
    let code = g.K.GroupKey.code in
    let at : found same c.args.groups c.args.key c.candidates.result.now ≡ Some c.in-Some.at =
    sym (c.in-Some.ensures ∙ ap (λ gs. found same gs c.args.key c.candidates.result.now) c.as_slice.ensures) in
    if_ok _ _ c.put_at.result
    (λ new put. subst (λ (cs : List ℕ). IsIndexed cs c.args.index.now.buckets)
    (sym (codes_found same code c.args.groups new c.args.key c.args.item c.in-Some.at c.candidates.result.now at put)) c.requires.indexed)
    c.put_at.ensures

-- there was no group of the key
pub returns-in_ok-add-in-None-clause-groups : goal.returns-in_ok-add-in-None-clause-groups
returns-in_ok-add-in-None-clause-groups g c =
    let same = g.K.GroupKey.alike in
    let code = g.K.GroupKey.code in
    let places : c.candidates.result.now ≡ candidates c.args.index.now.buckets (code c.args.key) =
    c.candidates.ensures ∙ ap (candidates c.args.index.now.buckets) c.key_code-code.ensures in
    let none : found same c.args.groups c.args.key (candidates c.args.index.now.buckets (code c.args.key)) ≡ None =
    sym (c.in-None.ensures ∙ ap (λ gs. found same gs c.args.key c.candidates.result.now) c.as_slice.ensures
    ∙ ap (found same c.args.groups c.args.key) places) in
    if_ok _ _ c.put_behind.result
    (λ new is. put_new same c.requires.equivalence code c.args.groups new c.args.index.now.buckets c.args.key c.args.item c.requires.codes c.requires.indexed none is)
    c.put_behind.ensures

pub returns-in_ok-add-in-None-clause-indexed : goal.returns-in_ok-add-in-None-clause-indexed
returns-in_ok-add-in-None-clause-indexed g c =
    let same = g.K.GroupKey.alike in
    let code = g.K.GroupKey.code in
    let buckets : c.add.new.self.buckets ≡ with_place c.args.index.now.buckets (code c.args.key) (length c.args.groups) =
    c.in_ok-add-in-None.ensures
    ∙ ap (λ (n : ℕ). with_place c.args.index.now.buckets n c.len.result) c.key_code-code.ensures
    ∙ ap (with_place c.args.index.now.buckets (code c.args.key)) c.len.ensures in
    if_ok _ _ c.put_behind.result
    (λ new is. subst (λ (bs : List (List ℕ)). IsIndexed (codes_of code new) bs) (sym buckets)
    (indexed_new same code c.args.groups new c.args.index.now.buckets c.args.key c.args.item c.args.index.now.some c.requires.indexed is))
    c.put_behind.ensures
