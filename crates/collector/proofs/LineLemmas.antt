-- From line to line: what was done, and what is left.
use Rattle.std.proofs.Common.{◌≡◌, ◌∙◌, ◌+◌, ◌++◌, [], ◌∷◌, List, ℕ, Result, Ok, Err, length, ap, sym, refl, subst, arith, append_assoc, append-nil}
use Rattle.contract_words.specs.Fronts.{IsFront, GrewByFront}
use Rattle.collector.specs.Payload.{judged}
use Rattle.collector.specs.Ends.{GrewBy}
use Rattle.collector.specs.Pass.{text_of_line, note_of_line, accepted_by, refused_by, pass_text, pass_notes, count_accepted, count_refused}

pub pass_text-append : (a b : List (List ℕ)) → pass_text (a ++ b) ≡ pass_text a ++ pass_text b
pass_text-append [] b = refl
pass_text-append (l ∷ a) b =
    ap (λ (t : List ℕ). text_of_line (judged l) ++ t) (pass_text-append a b) ∙ sym (append_assoc (text_of_line (judged l)) (pass_text a) (pass_text b))

pub pass_notes-append : (n : ℕ) (a b : List (List ℕ)) → pass_notes n (a ++ b) ≡ pass_notes n a ++ pass_notes (n + length a) b
pass_notes-append n [] b = ap (λ (k : ℕ). pass_notes k b) (omega arith)
pass_notes-append n (l ∷ a) b =
    let at : n + 1 + length a ≡ n + length (l ∷ a) = omega arith in
    ap (λ (t : List ℕ). note_of_line n (judged l) ++ t) (pass_notes-append (n + 1) a b ∙ ap (λ (k : ℕ). pass_notes (n + 1) a ++ pass_notes k b) at)
    ∙ sym (append_assoc (note_of_line n (judged l)) (pass_notes (n + 1) a) (pass_notes (n + length (l ∷ a)) b))

pub count_accepted-append : (a b : List (List ℕ)) → count_accepted (a ++ b) ≡ count_accepted a + count_accepted b
count_accepted-append [] b = omega arith
count_accepted-append (l ∷ a) b = omega (arith, count_accepted-append a b)

pub count_refused-append : (a b : List (List ℕ)) → count_refused (a ++ b) ≡ count_refused a + count_refused b
count_refused-append [] b = omega arith
count_refused-append (l ∷ a) b = omega (arith, count_refused-append a b)

pub one_of : (r : Result (List ℕ) (List ℕ)) → accepted_by r + refused_by r ≡ 1
one_of (Ok written) = refl
one_of (Err fault) = refl

-- each line is accepted or refused
pub counts-length : (a : List (List ℕ)) → count_accepted a + count_refused a ≡ length a
counts-length [] = refl
counts-length (l ∷ a) = omega (arith, counts-length a, one_of (judged l))

pub front-more : (front bytes more : List ℕ) → IsFront front bytes → IsFront front (bytes ++ more)
front-more front bytes more f = record { rest = f.rest ++ more; whole = ap (λ (t : List ℕ). t ++ more) f.whole ∙ append_assoc front f.rest more }

pub front-behind : (written bytes front : List ℕ) → IsFront front bytes → IsFront (written ++ front) (written ++ bytes)
front-behind written bytes front f = record { rest = f.rest; whole = ap (λ (t : List ℕ). written ++ t) f.whole ∙ sym (append_assoc written front f.rest) }

-- a front of what is gathered, behind what is written, is a front of all texts
pub front-flush : (done more : List (List ℕ)) (written gathered front : List ℕ) → written ++ gathered ≡ pass_text done → IsFront front gathered → IsFront (written ++ front) (pass_text (done ++ more))
front-flush done more written gathered front is f =
    subst (λ (t : List ℕ). IsFront (written ++ front) t) (ap (λ (t : List ℕ). t ++ pass_text more) is ∙ sym (pass_text-append done more))
    (front-more (written ++ front) (written ++ gathered) (pass_text more) (front-behind written gathered front f))

text-more : (done : List (List ℕ)) (l : List ℕ) → pass_text (done ++ l ∷ []) ≡ pass_text done ++ text_of_line (judged l)
text-more done l = pass_text-append done (l ∷ []) ∙ ap (λ (t : List ℕ). pass_text done ++ t) (append-nil (text_of_line (judged l)))

-- the text with one line more
pub text-next : (done : List (List ℕ)) (l written gathered : List ℕ) → written ++ gathered ≡ pass_text done → written ++ (gathered ++ text_of_line (judged l)) ≡ pass_text (done ++ l ∷ [])
text-next done l written gathered is =
    sym (append_assoc written gathered (text_of_line (judged l))) ∙ (ap (λ (t : List ℕ). t ++ text_of_line (judged l)) is ∙ sym (text-more done l))

pub notes-next : (done : List (List ℕ)) (l : List ℕ) (n : ℕ) (old mid now : List ℕ) → n ≡ length done → GrewBy (pass_notes 1 done) old mid → GrewBy (note_of_line (n + 1) (judged l)) mid now → GrewBy (pass_notes 1 (done ++ l ∷ [])) old now
notes-next done l n old mid now at before after =
    let number : n + 1 ≡ 1 + length done = omega (arith, at) in
    let note = note_of_line (n + 1) (judged l) in
    let more : pass_notes 1 (done ++ l ∷ []) ≡ pass_notes 1 done ++ note =
    pass_notes-append 1 done (l ∷ []) ∙ ap (λ (t : List ℕ). pass_notes 1 done ++ t) (append-nil (note_of_line (1 + length done) (judged l)) ∙ ap (λ (k : ℕ). note_of_line k (judged l)) (sym number)) in
    after ∙ (ap (λ (t : List ℕ). t ++ note) before ∙ (append_assoc old (pass_notes 1 done) note ∙ ap (λ (t : List ℕ). old ++ t) (sym more)))

pub notes-some : (done more : List (List ℕ)) (old now : List ℕ) → GrewBy (pass_notes 1 done) old now → GrewByFront (pass_notes 1 (done ++ more)) old now
notes-some done more old now grew = record {
  front = pass_notes 1 done;
  of_bytes = record { rest = pass_notes (1 + length done) more; whole = pass_notes-append 1 done more };
  grew = grew;
}

pub notes-broken : (done more : List (List ℕ)) (l : List ℕ) (n : ℕ) (old mid now : List ℕ) → n ≡ length done → GrewBy (pass_notes 1 done) old mid → GrewByFront (note_of_line (n + 1) (judged l)) mid now → GrewByFront (pass_notes 1 (done ++ l ∷ more)) old now
notes-broken done more l n old mid now at before after =
    let number : n + 1 ≡ 1 + length done = omega (arith, at) in
    let rest = pass_notes (1 + length done + 1) more in
    let note : note_of_line (1 + length done) (judged l) ≡ after.front ++ after.of_bytes.rest = ap (λ (k : ℕ). note_of_line k (judged l)) (sym number) ∙ after.of_bytes.whole in
    record {
      front = pass_notes 1 done ++ after.front;
      of_bytes = record {
        rest = after.of_bytes.rest ++ rest;
        whole = pass_notes-append 1 done (l ∷ more) ∙ (ap (λ (t : List ℕ). pass_notes 1 done ++ t) (ap (λ (t : List ℕ). t ++ rest) note ∙ append_assoc after.front after.of_bytes.rest rest)
            ∙ sym (append_assoc (pass_notes 1 done) after.front (after.of_bytes.rest ++ rest)));
      };
      grew = after.grew ∙ (ap (λ (t : List ℕ). t ++ after.front) before ∙ append_assoc old (pass_notes 1 done) after.front);
    }
