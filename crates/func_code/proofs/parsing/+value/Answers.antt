use Rattle.std.proofs.Common.{◌≡◌, ◌∙◌, ◌≤◌, ℕ, zero, suc, true, List, [], ◌∷◌, ◌++◌, length, drop, map, arith, refl, ap, sym, subst}
use Rattle.std.proofs.lemmas.List.{append-nil}
use Rattle.json_text.specs.declared.json.Json.{Json}
use Rattle.std.specs.Prelude.{IfOk, filter}
use Rattle.pdata_value.specs.Value.{pairs}
use Rattle.pdata_value.specs.Pairs.{put_all}
use Rattle.func_code.specs.Json.{member_of}
use Rattle.pdata_value.specs.declared.value.Value.{Value}
use Rattle.pdata_value.specs.declared.value.Value.TheVariants as kind
use Rattle.pdata_value.specs.Wanted.{list_of, map_of}
use Rattle.func_code.proofs.Values.{of-Null, of-Truth, of-Number, of-Text, of-List, of-Object}
use Rattle.func_code.proofs.parsing.+value.Goals as goal

pub value_of-returns-in-Null : goal.value_of-returns-in-Null
value_of-returns-in-Null t c = sym (of-Null c.args.json.now c.in-Null.is)

pub value_of-returns-in-Truth : goal.value_of-returns-in-Truth
value_of-returns-in-Truth t c = sym (of-Truth c.args.json.now c.in-Truth.truth c.in-Truth.is)

pub value_of-returns-in-Number : goal.value_of-returns-in-Number
value_of-returns-in-Number t c =
    subst (λ (v : Value). IfOk c.number_of.result (λ value. value ≡ v)) (sym (of-Number c.args.json.now c.in-Number.numeral c.in-Number.is))
    c.number_of.ensures

pub value_of-returns-in_ok-copy-in-Text : goal.value_of-returns-in_ok-copy-in-Text
value_of-returns-in_ok-copy-in-Text t c =
    ap (λ (text : List ℕ). kind.Text text) c.in_ok-copy-in-Text.ensures ∙ sym (of-Text c.args.json.now c.in-Text.text c.in-Text.is)

pub value_of-returns-in_ok-values_of-in-List : goal.value_of-returns-in_ok-values_of-in-List
value_of-returns-in_ok-values_of-in-List t c =
    ap (λ (vs : List Value). list_of vs) c.in_ok-values_of-in-List.ensures ∙ sym (of-List c.args.json.now c.in-List.items c.in-List.is)

pub value_of-returns-in_ok-pairs_of-in-Object : goal.value_of-returns-in_ok-pairs_of-in-Object
value_of-returns-in_ok-pairs_of-in-Object t c =
    ap (λ (ps : List (List ℕ × Value)). map_of ps) c.in_ok-pairs_of-in-Object.ensures ∙ sym (of-Object c.args.json.now c.in-Object.members c.in-Object.is)

all_taken : (ps : List (List ℕ × Value)) → filter (λ (p : List ℕ × Value). true) ps ≡ ps
all_taken [] = refl
all_taken (p ∷ ps) = ap (λ (qs : List (List ℕ × Value)). p ∷ qs) (all_taken ps)

none_left : {X : Type 0} (xs : List X) (i : ℕ) → length xs ≤ i → drop i xs ≡ []
none_left [] zero le = refl
none_left [] (suc i) le = refl
none_left (x ∷ xs) zero le = absurd (omega (arith, le))
none_left (x ∷ xs) (suc i) le = none_left xs i (omega (arith, le))

all_listed : (members : List (List ℕ × Json)) (i : ℕ) (ps : List (List ℕ × Value)) → length members ≤ i
    → ps ++ map member_of (drop i members) ≡ map member_of members → ps ≡ map member_of members
all_listed members i ps le so_far =
    sym (append-nil ps) ∙ ap (λ (ms : List (List ℕ × Json)). ps ++ map member_of ms) (sym (none_left members i le)) ∙ so_far

-- all members are put into the empty map
pub pairs_of-returns : goal.pairs_of-returns
pairs_of-returns t c =
    let listed : pairs c.loop-member.listed ≡ map member_of c.args.members.now =
    all_listed c.as_slice-member-items.result.now c.loop-member.member-index (pairs c.loop-member.listed) (omega (arith, c.loop-member-test.false)) c.loop-member.invariant
    ∙ ap (map member_of) c.as_slice-member-items.ensures in
    c.in_ok-merge.ensures.ok
    ∙ ap (λ (qs : List (List ℕ × Value)). put_all (pairs c.new-pairs.result) qs) (all_taken (pairs c.loop-member.listed))
    ∙ ap (λ (qs : List (List ℕ × Value)). put_all (pairs c.new-pairs.result) qs) listed
    ∙ ap (λ (ps : List (List ℕ × Value)). put_all ps (map member_of c.args.members.now)) c.new-pairs.ensures
