-- Each reading of a part does what the part's rule does.
use Rattle.std.proofs.Common.{◌≡◌, ◌∙◌, ℕ, suc, ◌+◌, Bool, true, false, List, [], ◌∷◌, drop, get_or, Some, None, Ok, Err, refl, sym, ap, subst, arith, cond}
use Rattle.std.specs.Prelude.{◌&&◌, ◌==◌, not, IsTrue}
use Rattle.std.specs.List.{prefix_len, list_all}
use Rattle.contract_words.specs.Grammar.{Rule, nothing, byte, many}
use Rattle.contract_words.specs.Rows.{step}
use Rattle.json_text.specs.Place.{Rest, head, past, behind}
use Rattle.json_text.specs.Reading.{one_of, this, these}
use Rattle.json_text.specs.Grammar.{one, word_rule}
use Rattle.json_text.specs.declared.error.JsonFault.TheVariants.{BadJson}
use Rattle.contract_words.specs.Rows.{run, taken}
use Rattle.contract_words.proofs.Machine.{run-steps, run-seq, run-nothing, step-end}
use Rattle.json_text.proofs.Runs.{ahead, Goes, Stops, Follows, follows_then, follows_bind, follows_same, follows_less, goes_on}

abbrev pub here : Rest → Rest
here r = r

abbrev pub behind_it : {X : Type 0} → X × Rest → Rest
behind_it p = p.1

one_ahead : (o : ℕ × Bool) → (suc o.0, o.1) ≡ ahead 1 o
one_ahead o = let e : suc o.0 ≡ 1 + o.0 = omega arith in ap (λ (k : ℕ). (k, o.1)) e

-- one byte of a kind
pub byte_goes : (kind : ℕ → Bool) (rs : List Rule) (at x : ℕ) (xs : List ℕ) → kind x ≡ true
    → Goes 1 (run (byte kind ∷ rs) (x ∷ xs)) (record { at = at; left = x ∷ xs }) rs (record { at = at + 1; left = xs })
byte_goes kind rs at x xs is = record {
  count = 1;
  at_least = omega arith;
  within = omega arith;
  place = refl;
  runs = ap (λ (t : Bool). taken (cond t (Some rs) None) (λ ss. run ss xs)) is ∙ one_ahead (run rs xs);
}

pub byte_stops : (kind : ℕ → Bool) (rs : List Rule) (at x : ℕ) (xs : List ℕ) → kind x ≡ false
    → Stops (run (byte kind ∷ rs) (x ∷ xs)) (record { at = at; left = x ∷ xs }) at
byte_stops kind rs at x xs is = record { count = 0; place = omega arith; runs = ap (λ (t : Bool). taken (cond t (Some rs) None) (λ ss. run ss xs)) is }

pub stops_here : (r : Rest) → Stops (0, false) r r.at
stops_here r = record { count = 0; place = omega arith; runs = refl }

pub stops_same : (o p : ℕ × Bool) (r : Rest) (at : ℕ) → o ≡ p → Stops p r at → Stops o r at
stops_same o p r at same h = record { count = h.count; place = h.place; runs = same ∙ h.runs }

both : (s t : Bool) → IsTrue (not s && t) → (s ≡ false) × IsTrue t
both true t h = absurd cc
both false t h = (refl, h)

module _ (deeper : Bool) where
  byte_case : {A : Type 0} (place : A → Rest) (kind : ℕ → Bool) (rs : List Rule) (at x : ℕ) (xs : List ℕ) (a : A) → place a ≡ record { at = at + 1; left = xs } → (t : Bool) → kind x ≡ t
      → Follows place deeper 1 (run (byte kind ∷ rs) (x ∷ xs)) (record { at = at; left = x ∷ xs }) rs (cond t (Ok a) (Err (BadJson at)))
  byte_case place kind rs at x xs a is true e =
      subst (λ (there : Rest). Goes 1 (run (byte kind ∷ rs) (x ∷ xs)) (record { at = at; left = x ∷ xs }) rs there) (sym is) (byte_goes kind rs at x xs e)
  byte_case place kind rs at x xs a is false e = byte_stops kind rs at x xs e

  byte_at : {A : Type 0} (place : A → Rest) (kind : ℕ → Bool) → kind 0 ≡ false → (rs : List Rule) (at : ℕ) (left : List ℕ) (a : A) → place a ≡ record { at = at + 1; left = drop 1 left }
      → Follows place deeper 1 (run (byte kind ∷ rs) left) (record { at = at; left = left }) rs (cond (kind (get_or left 0 0)) (Ok a) (Err (BadJson at)))
  byte_at place kind none rs at [] a is =
      subst (λ (t : Bool). Follows place deeper 1 (0, false) (record { at = at; left = [] }) rs (cond t (Ok a) (Err (BadJson at)))) (sym none) (stops_here (record { at = at; left = [] }))
  byte_at place kind none rs at (x ∷ xs) a is = byte_case place kind rs at x xs a is (kind x) refl

  pub this_follows : (b : ℕ) → (0 == b) ≡ false → (rs : List Rule) (r : Rest) → Follows here deeper 1 (run (one b ∷ rs) r.left) r rs (this b r)
  this_follows b some rs r = byte_at here (λ x. x == b) some rs r.at r.left (past 1 r) refl

  pub one_of_follows : (kind : ℕ → Bool) → kind 0 ≡ false → (rs : List Rule) (r : Rest) → Follows behind_it deeper 1 (run (byte kind ∷ rs) r.left) r rs (one_of kind r)
  one_of_follows kind none rs r = byte_at behind_it kind none rs r.at r.left (head r, past 1 r) refl

  pub word_follows : (b : ℕ) (bs : List ℕ) → (0 == b) ≡ false → (rs : List Rule) (r : Rest) → ((q : Rest) → Follows here deeper 0 (run (word_rule bs ∷ rs) q.left) q rs (these bs q))
      → Follows here deeper 1 (run (word_rule (b ∷ bs) ∷ rs) r.left) r rs (these (b ∷ bs) r)
  word_follows b bs some rs r below =
      follows_same here deeper 1 _ _ r rs _ (run-seq (one b) (word_rule bs) rs r.left)
      (follows_bind here here deeper 1 0 _ r (word_rule bs ∷ rs) rs (this b r) (these bs) (this_follows b some (word_rule bs ∷ rs) r) below)

  -- these bytes
  pub these_follows : (word : List ℕ) → IsTrue (list_all (λ b. not (0 == b)) word) → (rs : List Rule) (r : Rest) → Follows here deeper 0 (run (word_rule word ∷ rs) r.left) r rs (these word r)
  these_follows [] all rs r = goes_on (run (nothing ∷ rs) r.left) r rs (run-nothing rs r.left)
  these_follows (b ∷ bs) all rs r =
      let parts = both (0 == b) (list_all (λ b. not (0 == b)) bs) all in
      follows_less here deeper 0 1 _ r rs _ (omega arith) (word_follows b bs parts.0 rs r (these_follows bs parts.1 rs))

  -- bytes of a kind
  many_case : (kind : ℕ → Bool) (rs : List Rule) (at x : ℕ) (xs : List ℕ)
      → Goes 0 (run (many (byte kind) ∷ rs) xs) (record { at = at + 1; left = xs }) rs (record { at = at + 1 + prefix_len kind xs; left = drop (prefix_len kind xs) xs })
      → (t : Bool) → kind x ≡ t
      → Goes 0 (run (many (byte kind) ∷ rs) (x ∷ xs)) (record { at = at; left = x ∷ xs }) rs
      (record { at = at + cond t (suc (prefix_len kind xs)) 0; left = drop (cond t (suc (prefix_len kind xs)) 0) (x ∷ xs) })
  many_case kind rs at x xs rest true is =
      let n = prefix_len kind xs in
      let place : at + 1 + n ≡ at + suc n = omega arith in
      let first_byte : Goes 1 (run (many (byte kind) ∷ rs) (x ∷ xs)) (record { at = at; left = x ∷ xs }) (many (byte kind) ∷ rs) (record { at = at + 1; left = xs }) = record {
        count = 1;
        at_least = omega arith;
        within = omega arith;
        place = refl;
        runs = ap (λ (t : Bool). taken (cond t (Some (many (byte kind) ∷ rs)) (step rs x)) (λ ss. run ss xs)) is ∙ one_ahead (run (many (byte kind) ∷ rs) xs);
      } in
      subst (λ (k : ℕ). Goes 0 (run (many (byte kind) ∷ rs) (x ∷ xs)) (record { at = at; left = x ∷ xs }) rs (record { at = k; left = drop n xs })) place
      (follows_less here deeper 0 1 (run (many (byte kind) ∷ rs) (x ∷ xs)) (record { at = at; left = x ∷ xs }) rs (Ok (record { at = at + 1 + n; left = drop n xs })) (omega arith)
      (follows_then here deeper 1 0 (run (many (byte kind) ∷ rs) (x ∷ xs)) (record { at = at; left = x ∷ xs }) (record { at = at + 1; left = xs }) (many (byte kind) ∷ rs) rs (Ok (record { at = at + 1 + n; left = drop n xs })) first_byte rest))
  many_case kind rs at x xs rest false is =
      let place : at ≡ at + 0 = omega arith in
      subst (λ (k : ℕ). Goes 0 (run (many (byte kind) ∷ rs) (x ∷ xs)) (record { at = at; left = x ∷ xs }) rs (record { at = k; left = x ∷ xs })) place
      (goes_on (run (many (byte kind) ∷ rs) (x ∷ xs)) (record { at = at; left = x ∷ xs }) rs (run-steps (many (byte kind) ∷ rs) rs x xs (step-end (byte kind) rs x is)))

  many_at : (kind : ℕ → Bool) (rs : List Rule) (at : ℕ) (left : List ℕ)
      → Goes 0 (run (many (byte kind) ∷ rs) left) (record { at = at; left = left }) rs (record { at = at + prefix_len kind left; left = drop (prefix_len kind left) left })
  many_at kind rs at [] = record { count = 0; at_least = omega arith; within = omega arith; place = refl; runs = refl }
  many_at kind rs at (x ∷ xs) =
      let one_more : 1 + prefix_len kind xs ≡ suc (prefix_len kind xs) = omega arith in
      rw one_more (many_case kind rs at x xs (many_at kind rs (at + 1) xs) (kind x) refl)

  pub behind_follows : (kind : ℕ → Bool) (rs : List Rule) (r : Rest) → Goes 0 (run (many (byte kind) ∷ rs) r.left) r rs (behind kind r)
  behind_follows kind rs r = many_at kind rs r.at r.left
