-- A row of rules run over a text.
use Rattle.std.proofs.Common.{◌≡◌, ℕ, suc, Bool, true, false, List, [], ◌∷◌, ◌++◌, Option, Some, None, refl, ap, append_assoc, cond}
use Rattle.std.specs.Prelude.{◌&&◌, ◌||◌}
use Rattle.contract_words.specs.Grammar.{Rule, nothing, alt, seq, many, nullable, first, after}
use Rattle.contract_words.specs.Rows.{step, stop, one_more, row_nullable, taken, run}

pub run-stop : (rs : List Rule) (text : List ℕ) → (run rs text).0 ≡ stop rs text
run-stop rs [] = refl
run-stop rs (b ∷ text) = by_step (step rs b) (λ ss. run-stop ss text) where
  by_step : (o : Option (List Rule)) → ((ss : List Rule) → (run ss text).0 ≡ stop ss text) → (taken o (λ ss. run ss text)).0 ≡ one_more o (λ ss. stop ss text)
  by_step None more = refl
  by_step (Some ss) more = ap suc (more ss)

-- rows that do the same
pub record Alike (rs ss : List Rule) : Type 0 where
  pub ends : row_nullable rs ≡ row_nullable ss
  pub steps : (b : ℕ) → step rs b ≡ step ss b

pub run-alike : (rs ss : List Rule) → Alike rs ss → (text : List ℕ) → run rs text ≡ run ss text
run-alike rs ss same [] = ap (λ (e : Bool). (0, e)) same.ends
run-alike rs ss same (b ∷ text) = ap (λ (o : Option (List Rule)). taken o (λ us. run us text)) (same.steps b)

pub run-steps : (rs ss : List Rule) (b : ℕ) (text : List ℕ) → step rs b ≡ step ss b → run rs (b ∷ text) ≡ run ss (b ∷ text)
run-steps rs ss b text same = ap (λ (o : Option (List Rule)). taken o (λ us. run us text)) same

and_three : (a b c : Bool) → ((a && b) && c) ≡ (a && (b && c))
and_three true b c = refl
and_three false b c = refl

seq_step : (fl nl fr nr : Bool) (a b rs : List Rule) (r : Rule) (o : Option (List Rule))
    → cond (fl || (nl && fr)) (Some (cond fl (a ++ r ∷ []) b ++ rs)) (cond (nl && nr) o None)
    ≡ cond fl (Some (a ++ r ∷ rs)) (cond nl (cond fr (Some (b ++ rs)) (cond nr o None)) None)
seq_step true nl fr nr a b rs r o = ap (λ (us : List Rule). Some us) (append_assoc a (r ∷ []) rs)
seq_step false true true nr a b rs r o = refl
seq_step false true false nr a b rs r o = refl
seq_step false false fr nr a b rs r o = refl

pub Alike-seq : (l r : Rule) (rs : List Rule) → Alike (seq l r ∷ rs) (l ∷ r ∷ rs)
Alike-seq l r rs = record {
  ends = and_three (nullable l) (nullable r) (row_nullable rs);
  steps = λ b. seq_step (first l b) (nullable l) (first r b) (nullable r) (after l b) (after r b) rs r (step rs b);
}

pub run-seq : (l r : Rule) (rs : List Rule) (text : List ℕ) → run (seq l r ∷ rs) text ≡ run (l ∷ r ∷ rs) text
run-seq l r rs = run-alike (seq l r ∷ rs) (l ∷ r ∷ rs) (Alike-seq l r rs)

pub run-nothing : (rs : List Rule) (text : List ℕ) → run (nothing ∷ rs) text ≡ run rs text
run-nothing rs = run-alike (nothing ∷ rs) rs (record { ends = refl; steps = λ b. refl })

left_step : (fl fr nl nr : Bool) (a b rs : List Rule) (o : Option (List Rule)) → fl ≡ false → nl ≡ false
    → cond (fl || fr) (Some (cond fl a b ++ rs)) (cond (nl || nr) o None) ≡ cond fr (Some (b ++ rs)) (cond nr o None)
left_step true fr nl nr a b rs o e n = absurd cc
left_step false fr true nr a b rs o e n = absurd cc
left_step false fr false nr a b rs o e n = refl

-- a case that can't begin with the byte
pub step-right : (l r : Rule) (rs : List Rule) (b : ℕ) → first l b ≡ false → nullable l ≡ false → step (alt l r ∷ rs) b ≡ step (r ∷ rs) b
step-right l r rs b is none = left_step (first l b) (first r b) (nullable l) (nullable r) (after l b) (after r b) rs (step rs b) is none

right_step : (fl fr nl nr : Bool) (a b rs : List Rule) (o : Option (List Rule)) → fr ≡ false → nr ≡ false
    → cond (fl || fr) (Some (cond fl a b ++ rs)) (cond (nl || nr) o None) ≡ cond fl (Some (a ++ rs)) (cond nl o None)
right_step fl true nl nr a b rs o e n = absurd cc
right_step fl false nl true a b rs o e n = absurd cc
right_step true false nl false a b rs o e n = refl
right_step false false true false a b rs o e n = refl
right_step false false false false a b rs o e n = refl

pub step-left : (l r : Rule) (rs : List Rule) (b : ℕ) → first r b ≡ false → nullable r ≡ false → step (alt l r ∷ rs) b ≡ step (l ∷ rs) b
step-left l r rs b is none = right_step (first l b) (first r b) (nullable l) (nullable r) (after l b) (after r b) rs (step rs b) is none

pub step-turn : (a : Rule) (rs : List Rule) (b : ℕ) → first a b ≡ true → step (many a ∷ rs) b ≡ step (a ∷ many a ∷ rs) b
step-turn a rs b is = turn (first a b) is where
  turn : (t : Bool) → t ≡ true → cond t (Some ((after a b ++ many a ∷ []) ++ rs)) (step rs b) ≡ cond t (Some (after a b ++ many a ∷ rs)) (cond (nullable a) (step (many a ∷ rs) b) None)
  turn true e = ap (λ (us : List Rule). Some us) (append_assoc (after a b) (many a ∷ []) rs)
  turn false e = absurd cc

pub step-end : (a : Rule) (rs : List Rule) (b : ℕ) → first a b ≡ false → step (many a ∷ rs) b ≡ step rs b
step-end a rs b is = rw is refl
