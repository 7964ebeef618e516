-- Steps of the reader's loops: how far each has read, and what reading gives from there.
use Rattle.std.proofs.Common.{◌≡◌, ◌∙◌, ℕ, zero, suc, ◌+◌, ◌<◌, ◌≤◌, Bool, true, false, List, [], ◌∷◌, ◌++◌, length, take, drop, get_or, Result, Ok, Err, refl, sym, ap, arith, append_assoc, cond}
use Rattle.std.specs.Prelude.{Option, Some, None, IfSome, ◌==◌, length}
use Rattle.std.specs.List.{prefix_len}
use Rattle.std.specs.Char.{encode_utf8}
use Rattle.std.proofs.lemmas.Bool.Decides.{nat_tests}
use Rattle.std.proofs.lemmas.List.{append-nil}
use Rattle.json_text.specs.Place.{Rest, head, past, behind, blanks}
use Rattle.json_text.specs.Reading.{Reads, fault_of, ◌>>=◌, with_front, one_of, these, is_plain, piece, escape, text, comma_or, more, elements, sequence}
use Rattle.json_text.specs.declared.error.JsonFault.{JsonFault}
use Rattle.json_text.specs.declared.error.JsonFault.TheVariants.{BadJson}

-- an error that a call met is the one of a reading, unless memory ran out
abbrev pub Fails : {X : Type 0} → JsonFault → Result X JsonFault → Type 0
Fails e read = IfSome (fault_of e) (λ f. read ≡ Err f)

some_also : (o : Option JsonFault) (P Q : JsonFault → Type 0) → ((f : JsonFault) → P f → Q f) → IfSome o P → IfSome o Q
some_also None P Q also h = tt
some_also (Some f) P Q also h = also f h

pub Fails-also : {X Y : Type 0} (e : JsonFault) (read : Result X JsonFault) (other : Result Y JsonFault)
    → ((f : JsonFault) → read ≡ Err f → other ≡ Err f) → Fails e read → Fails e other
Fails-also e read other also h = some_also (fault_of e) (λ f. read ≡ Err f) (λ f. other ≡ Err f) also h

pub Fails-bind : {A B : Type 0} (e : JsonFault) (read : Result A JsonFault) (f : A → Result B JsonFault) → Fails e read → Fails e (read >>= f)
Fails-bind e read f h = Fails-also e read (read >>= f) (λ g is. rw is refl) h

-- Words.

pub record WordSoFar (word : List ℕ) (start : Rest) (index : ℕ) (here : Rest) : Type 0 where
  pub reads : these word start ≡ these (drop index word) here
  pub shorter : length here.left + index ≤ length start.left

-- Texts.

pub with_front-nil : {X : Type 0} (r : Reads (List X)) → with_front [] r ≡ r
with_front-nil (Ok p) = refl
with_front-nil (Err e) = refl

pub with_front-append : {X : Type 0} (a b : List X) (r : Reads (List X)) → with_front a (with_front b r) ≡ with_front (a ++ b) r
with_front-append a b (Ok p) = ap (λ xs. Ok (xs, p.1)) (sym (append_assoc a b p.0))
with_front-append a b (Err e) = refl

pub cond-true : {X : Type 0} (t : Bool) (a b : X) → t ≡ true → cond t a b ≡ a
cond-true t a b is = rw is refl

pub cond-false : {X : Type 0} (t : Bool) (a b : X) → t ≡ false → cond t a b ≡ b
cond-false t a b is = rw is refl

pub one_of-is : (kind : ℕ → Bool) (r : Rest) → kind (head r) ≡ true → one_of kind r ≡ Ok (head r, past 1 r)
one_of-is kind r is = cond-true (kind (head r)) _ _ is

pub one_of-not : (kind : ℕ → Bool) (r : Rest) → kind (head r) ≡ false → one_of kind r ≡ Err (BadJson r.at)
one_of-not kind r is = cond-false (kind (head r)) _ _ is

no_escape : (r : Rest) → (head r == 92) ≡ false → piece r ≡ (one_of is_plain r >>= λ p. Ok (p.0 ∷ [], p.1))
no_escape r slash = cond-false (head r == 92) _ _ slash

abbrev pub goes_on : ℕ → List ℕ × Rest → Reads (List ℕ)
goes_on n p = with_front p.0 (text n p.1)

no_quote : (n : ℕ) (r : Rest) → (head r == 34) ≡ false → text (suc n) r ≡ (piece r >>= goes_on n)
unfolding text
no_quote n r quote = cond-false (head r == 34) _ _ quote

-- a byte that stands for itself
plain_facts : (x : ℕ) → is_plain x ≡ true → ((x == 34) ≡ false) × ((x == 92) ≡ false)
plain_facts x plain = (grind (arith, nat_tests), grind (arith, nat_tests))

pub text-plain : (n : ℕ) (r : Rest) → is_plain (head r) ≡ true → text (suc n) r ≡ with_front (head r ∷ []) (text n (past 1 r))
text-plain n r plain =
    let facts = plain_facts (head r) plain in
    no_quote n r facts.0 ∙ ap (λ (m : Reads (List ℕ)). m >>= goes_on n) (no_escape r facts.1 ∙ ap (λ (m : Reads ℕ). m >>= λ p. Ok (p.0 ∷ [], p.1)) (one_of-is is_plain r plain))

-- the bytes that stand for themselves, as many as there are
pub record Ran (n : ℕ) (start : Rest) (run : List ℕ) (here : Rest) : Type 0 where
  pub turns : ℕ
  pub enough : length here.left < turns
  pub reads : text n start ≡ with_front run (text turns here)

run_step : (n at x : ℕ) (xs : List ℕ) → length (x ∷ xs) < suc n
    → Ran n (record { at = at + 1; left = xs }) (take (prefix_len is_plain xs) xs) (record { at = at + 1 + prefix_len is_plain xs; left = drop (prefix_len is_plain xs) xs })
    → (t : Bool) → is_plain x ≡ t
    → Ran (suc n) (record { at = at; left = x ∷ xs }) (take (cond t (suc (prefix_len is_plain xs)) 0) (x ∷ xs))
    (record { at = at + cond t (suc (prefix_len is_plain xs)) 0; left = drop (cond t (suc (prefix_len is_plain xs)) 0) (x ∷ xs) })
run_step n at x xs enough rest true plain =
    let place : at + 1 + prefix_len is_plain xs ≡ at + suc (prefix_len is_plain xs) = omega arith in
    record {
      turns = rest.turns;
      enough = rest.enough;
      reads = text-plain n (record { at = at; left = x ∷ xs }) plain ∙ ap (with_front (x ∷ [])) rest.reads
          ∙ with_front-append (x ∷ []) (take (prefix_len is_plain xs) xs) (text rest.turns (record { at = at + 1 + prefix_len is_plain xs; left = drop (prefix_len is_plain xs) xs }))
          ∙ ap (λ (m : ℕ). with_front (x ∷ take (prefix_len is_plain xs) xs) (text rest.turns (record { at = m; left = drop (prefix_len is_plain xs) xs }))) place;
    }
run_step n at x xs enough rest false plain =
    let place : at ≡ at + 0 = omega arith in
    record {
      turns = suc n;
      enough = enough;
      reads = sym (with_front-nil (text (suc n) (record { at = at; left = x ∷ xs }))) ∙ ap (λ (m : ℕ). with_front [] (text (suc n) (record { at = m; left = x ∷ xs }))) place;
    }

run_at : (n at : ℕ) (left : List ℕ) → length left < n
    → Ran n (record { at = at; left = left }) (take (prefix_len is_plain left) left) (record { at = at + prefix_len is_plain left; left = drop (prefix_len is_plain left) left })
run_at n at [] enough =
    let place : at ≡ at + 0 = omega arith in
    record {
      turns = n;
      enough = enough;
      reads = sym (with_front-nil (text n (record { at = at; left = [] }))) ∙ ap (λ (m : ℕ). with_front [] (text n (record { at = m; left = [] }))) place;
    }
run_at zero at (x ∷ xs) enough = absurd (omega arith)
run_at (suc n) at (x ∷ xs) enough =
    let one_more : 1 + prefix_len is_plain xs ≡ suc (prefix_len is_plain xs) = omega arith in
    rw one_more (run_step n at x xs enough (run_at n (at + 1) xs (omega arith)) (is_plain x) refl)

pub Ran-all : (n : ℕ) (r : Rest) → length r.left < n → Ran n r (take (prefix_len is_plain r.left) r.left) (behind is_plain r)
Ran-all n r enough = run_at n r.at r.left enough

stop_step : (x : ℕ) (xs : List ℕ) → is_plain (get_or (drop (prefix_len is_plain xs) xs) 0 0) ≡ false → (t : Bool) → is_plain x ≡ t
    → is_plain (get_or (drop (cond t (suc (prefix_len is_plain xs)) 0) (x ∷ xs)) 0 0) ≡ false
stop_step x xs below true plain = below
stop_step x xs below false plain = plain

stop_at : (left : List ℕ) → is_plain (get_or (drop (prefix_len is_plain left) left) 0 0) ≡ false
stop_at [] = refl
stop_at (x ∷ xs) =
    let one_more : 1 + prefix_len is_plain xs ≡ suc (prefix_len is_plain xs) = omega arith in
    rw one_more (stop_step x xs (stop_at xs) (is_plain x) refl)

-- the byte behind them is none
pub behind_plain : (r : Rest) → is_plain (head (behind is_plain r)) ≡ false
behind_plain r = stop_at r.left

pub none_plain : (r mid : Rest) → mid ≡ behind is_plain r → is_plain (head mid) ≡ false
none_plain r mid moved = rw moved (behind_plain r)

-- how far a text was read: what it spells so far, and what reading gives from here
pub record TextSoFar (before : List ℕ) (n : ℕ) (start : Rest) (spelled : List ℕ) (here : Rest) : Type 0 where
  pub turns : ℕ
  pub enough : length here.left < turns
  pub reads : with_front before (text n start) ≡ with_front spelled (text turns here)

pub TextSoFar-begin : (before : List ℕ) (n : ℕ) (start : Rest) → length start.left < n → TextSoFar before n start before start
TextSoFar-begin before n start enough = record { turns = n; enough = enough; reads = refl }

turn_of : (count turns : ℕ) → count < turns → (t : ℕ) × (turns ≡ suc t)
turn_of count zero h = absurd (omega arith)
turn_of count (suc t) h = (t, refl)

pub text-quote : (t : ℕ) (r : Rest) → head r ≡ 34 → text (suc t) r ≡ Ok ([], past 1 r)
unfolding text
text-quote t r quote = rw quote refl

differs : (b c : ℕ) → (b ≡ c → ⊥) → (b == c) ≡ false
differs b c h = grind (arith, nat_tests)

pub text-bad : (t : ℕ) (r : Rest) → (head r ≡ 34 → ⊥) → (head r ≡ 92 → ⊥) → is_plain (head r) ≡ false → text (suc t) r ≡ Err (BadJson r.at)
text-bad t r quote slash plain =
    no_quote t r (differs (head r) 34 quote)
    ∙ ap (λ (m : Reads (List ℕ)). m >>= goes_on t) (no_escape r (differs (head r) 92 slash) ∙ ap (λ (m : Reads ℕ). m >>= λ p. Ok (p.0 ∷ [], p.1)) (one_of-not is_plain r plain))

abbrev pub in_utf8 : ℕ × Rest → Reads (List ℕ)
in_utf8 p = Ok (encode_utf8 p.0, p.1)

pub text-escape : (t : ℕ) (r : Rest) → head r ≡ 92 → text (suc t) r ≡ (escape (past 1 r) >>= in_utf8 >>= goes_on t)
unfolding text
text-escape t r slash = rw slash refl

module _ (before : List ℕ) (n : ℕ) (start : Rest) where
  pub TextSoFar-run : (spelled : List ℕ) (here : Rest) → TextSoFar before n start spelled here
      → TextSoFar before n start (spelled ++ take (prefix_len is_plain here.left) here.left) (behind is_plain here)
  TextSoFar-run spelled here so_far =
      let ran = Ran-all so_far.turns here so_far.enough in
      record {
        turns = ran.turns;
        enough = ran.enough;
        reads = so_far.reads ∙ ap (with_front spelled) ran.reads
            ∙ with_front-append spelled (take (prefix_len is_plain here.left) here.left) (text ran.turns (behind is_plain here));
      }

  pub TextSoFar-ran : (spelled now run : List ℕ) (here mid : Rest) → TextSoFar before n start spelled here → run ≡ take (prefix_len is_plain here.left) here.left
      → mid ≡ behind is_plain here → now ≡ spelled ++ run → TextSoFar before n start now mid
  TextSoFar-ran spelled now run here mid so_far ran moved grown = rw (grown, ran, moved) (TextSoFar-run spelled here so_far)

  pub TextSoFar-quote : (spelled : List ℕ) (here : Rest) → TextSoFar before n start spelled here → head here ≡ 34
      → with_front before (text n start) ≡ Ok (spelled, past 1 here)
  TextSoFar-quote spelled here so_far quote =
      let t = turn_of (length here.left) so_far.turns so_far.enough in
      so_far.reads ∙ rw (t.1, text-quote t.0 here quote) (ap (λ (xs : List ℕ). Ok (xs, past 1 here)) (append-nil spelled))

  pub TextSoFar-bad : (spelled : List ℕ) (here : Rest) → TextSoFar before n start spelled here → (head here ≡ 34 → ⊥) → (head here ≡ 92 → ⊥)
      → is_plain (head here) ≡ false → with_front before (text n start) ≡ Err (BadJson here.at)
  TextSoFar-bad spelled here so_far quote slash plain =
      let t = turn_of (length here.left) so_far.turns so_far.enough in
      so_far.reads ∙ rw (t.1, text-bad t.0 here quote slash plain) refl

  escape_fails : (spelled : List ℕ) (here : Rest) (so_far : TextSoFar before n start spelled here) → head here ≡ 92 → (f : JsonFault) → escape (past 1 here) ≡ Err f
      → with_front before (text n start) ≡ Err f
  escape_fails spelled here so_far slash f is =
      let t = turn_of (length here.left) so_far.turns so_far.enough in
      so_far.reads ∙ rw (t.1, text-escape t.0 here slash, is) refl

  pub TextSoFar-fail : (e : JsonFault) (spelled : List ℕ) (here : Rest) → TextSoFar before n start spelled here → head here ≡ 92 → Fails e (escape (past 1 here))
      → Fails e (with_front before (text n start))
  TextSoFar-fail e spelled here so_far slash h =
      Fails-also e (escape (past 1 here)) (with_front before (text n start)) (escape_fails spelled here so_far slash) h

  pub TextSoFar-escape : (spelled : List ℕ) (here after : Rest) (character : ℕ) → TextSoFar before n start spelled here → head here ≡ 92
      → escape (past 1 here) ≡ Ok (character, after) → length after.left < length here.left
      → TextSoFar before n start (spelled ++ encode_utf8 character) after
  TextSoFar-escape spelled here after character so_far slash is shorter =
      let t = turn_of (length here.left) so_far.turns so_far.enough in
      record {
        turns = t.0;
        enough = omega (arith, so_far.enough, t.1);
        reads = so_far.reads ∙ ap (with_front spelled) (ap (λ (m : ℕ). text m here) t.1 ∙ text-escape t.0 here slash ∙ ap (λ (m : Reads ℕ). m >>= in_utf8 >>= goes_on t.0) is)
            ∙ with_front-append spelled (encode_utf8 character) (text t.0 after);
      }

-- Lists and objects.

-- how far a sequence was read: these elements, and what reading gives from here
pub record ElementsSoFar {X : Type 0} (one : Rest → Reads X) (close n : ℕ) (start : Rest) (found : List X) (here : Rest) : Type 0 where
  pub turns : ℕ
  pub enough : length here.left < turns
  pub reads : sequence one close n start ≡ with_front found (elements one close turns here)

module _ {X : Type 0} (one : Rest → Reads X) (close : ℕ) where
  pub elements-goes : (t : ℕ) (here mid after : Rest) (x : X) → one here ≡ Ok (x, mid) → comma_or close (blanks mid) ≡ Ok (true, after)
      → elements one close (suc t) here ≡ with_front (x ∷ []) (elements one close t after)
  unfolding elements
  elements-goes t here mid after x read comma = rw (read, comma) refl

  pub elements-end : (t : ℕ) (here mid after : Rest) (x : X) → one here ≡ Ok (x, mid) → comma_or close (blanks mid) ≡ Ok (false, after)
      → elements one close (suc t) here ≡ Ok (x ∷ [], after)
  unfolding elements
  elements-end t here mid after x read comma = rw (read, comma) refl

  elements-fail : (t : ℕ) (here : Rest) (f : JsonFault) → one here ≡ Err f → elements one close (suc t) here ≡ Err f
  unfolding elements
  elements-fail t here f read = rw read refl

  elements-stop : (t : ℕ) (here mid : Rest) (x : X) (f : JsonFault) → one here ≡ Ok (x, mid) → comma_or close (blanks mid) ≡ Err f
      → elements one close (suc t) here ≡ Err f
  unfolding elements
  elements-stop t here mid x f read comma = rw (read, comma) refl

  pub ElementsSoFar-begin : (n : ℕ) (start here : Rest) → here ≡ blanks start → (head (blanks start) == close) ≡ false → length here.left < n
      → ElementsSoFar one close n start [] here
  ElementsSoFar-begin n start here is more enough = record {
    turns = n;
    enough = enough;
    reads = rw more (ap (elements one close n) (sym is)) ∙ sym (with_front-nil (elements one close n here));
  }

  module _ (n : ℕ) (start here : Rest) (found : List X) where
    pub ElementsSoFar-goes : (mid after : Rest) (x : X) → ElementsSoFar one close n start found here → one here ≡ Ok (x, mid)
        → comma_or close (blanks mid) ≡ Ok (true, after) → length after.left < length here.left
        → ElementsSoFar one close n start (found ++ x ∷ []) after
    ElementsSoFar-goes mid after x so_far read comma shorter =
        let t = turn_of (length here.left) so_far.turns so_far.enough in
        record {
          turns = t.0;
          enough = omega (arith, so_far.enough, t.1);
          reads = so_far.reads ∙ ap (with_front found) (ap (λ m. elements one close m here) t.1 ∙ elements-goes t.0 here mid after x read comma) ∙ with_front-append found (x ∷ []) (elements one close t.0 after);
        }

    pub ElementsSoFar-end : (mid after : Rest) (x : X) → ElementsSoFar one close n start found here → one here ≡ Ok (x, mid)
        → comma_or close (blanks mid) ≡ Ok (false, after) → sequence one close n start ≡ Ok (found ++ x ∷ [], after)
    ElementsSoFar-end mid after x so_far read comma =
        let t = turn_of (length here.left) so_far.turns so_far.enough in
        so_far.reads ∙ rw (t.1, elements-end t.0 here mid after x read comma) refl

    fails : (f : JsonFault) (turns : ℕ) → sequence one close n start ≡ with_front found (elements one close turns here)
        → elements one close turns here ≡ Err f → sequence one close n start ≡ Err f
    fails f turns reads stop = reads ∙ ap (with_front found) stop

    pub ElementsSoFar-fail : (e : JsonFault) → ElementsSoFar one close n start found here → Fails e (one here) → Fails e (sequence one close n start)
    ElementsSoFar-fail e so_far read =
        let t = turn_of (length here.left) so_far.turns so_far.enough in
        Fails-also e (one here) (sequence one close n start)
        (λ f is. fails f so_far.turns so_far.reads (rw t.1 (elements-fail t.0 here f is))) read

    pub ElementsSoFar-stop : (e : JsonFault) (mid : Rest) (x : X) → ElementsSoFar one close n start found here → one here ≡ Ok (x, mid)
        → Fails e (comma_or close (blanks mid)) → Fails e (sequence one close n start)
    ElementsSoFar-stop e mid x so_far read comma =
        let t = turn_of (length here.left) so_far.turns so_far.enough in
        Fails-also e (comma_or close (blanks mid)) (sequence one close n start)
        (λ f is. fails f so_far.turns so_far.reads (rw t.1 (elements-stop t.0 here mid x f read is))) comma
