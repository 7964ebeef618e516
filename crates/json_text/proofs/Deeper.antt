-- A grammar that nests deeper has more texts and more viable prefixes.
use Rattle.std.proofs.Common.{◌≡◌, ℕ, zero, suc, ◌+◌, List, take, Err, inl, inr, subst, arith}
use Rattle.contract_words.specs.Fronts.{IsLongest}
use Rattle.contract_words.specs.Grammar.{Rule, alt, seq, many, Turns, spells, viable}
use Rattle.json_text.specs.Reading.{json_text}
use Rattle.json_text.specs.Grammar.{one, ws, text_rule, scalar_rule, comma_rule, sequence_rule, list_rule, member_rule, object_rule, value_rule, json, IsJsonPrefix}
use Rattle.json_text.specs.declared.error.JsonFault.TheVariants.{BadJson}
use Rattle.json_text.proofs.Law.{bad_longest}

-- what the first spells the second spells, and what is viable in it is viable in the second
pub record Grows (r s : Rule) : Type 0 where
  pub whole : (text : List ℕ) → spells r text → spells s text
  pub begun : (text : List ℕ) → viable r text → viable s text

same : (r : Rule) → Grows r r
same r = record { whole = λ text h. h; begun = λ text h. h }

both : (l l' r r' : Rule) → Grows l l' → Grows r r' → Grows (seq l r) (seq l' r')
both l l' r r' f g = record { whole = λ text h. (h.0, h.1, f.whole h.0 h.2, g.whole h.1 h.3, h.4); begun = begun_both } where
  begun_both : (text : List ℕ) → viable (seq l r) text → viable (seq l' r') text
  begun_both text (inl h) = inl (f.begun text h)
  begun_both text (inr h) = inr (h.0, h.1, f.whole h.0 h.2, g.begun h.1 h.3, h.4)

either : (l l' r r' : Rule) → Grows l l' → Grows r r' → Grows (alt l r) (alt l' r')
either l l' r r' f g = record { whole = whole_either; begun = begun_either } where
  whole_either : (text : List ℕ) → spells (alt l r) text → spells (alt l' r') text
  whole_either text (inl h) = inl (f.whole text h)
  whole_either text (inr h) = inr (g.whole text h)

  begun_either : (text : List ℕ) → viable (alt l r) text → viable (alt l' r') text
  begun_either text (inl h) = inl (f.begun text h)
  begun_either text (inr h) = inr (g.begun text h)

turns : (a b : Rule) → Grows a b → (n : ℕ) (text : List ℕ) → Turns (spells a) n text → Turns (spells b) n text
turns a b f zero text t = t
turns a b f (suc n) text t = (t.0, t.1, f.whole t.0 t.2, turns a b f n t.1 t.3, t.4)

each_turn : (a b : Rule) → Grows a b → Grows (many a) (many b)
each_turn a b f = record {
  whole = λ text h. (h.0, turns a b f h.0 text h.1);
  begun = λ text h. (h.0, h.1, h.2, turns a b f h.0 h.1 h.3, f.begun h.2 h.4, h.5);
}

sequence_grows : (a b : Rule) (close : ℕ) → Grows a b → Grows (sequence_rule a close) (sequence_rule b close)
sequence_grows a b close f =
    let element : Grows (seq a ws) (seq b ws) = both a b ws ws f (same ws) in
    let comma : Grows (comma_rule a) (comma_rule b) = both (one 44) (one 44) (seq ws (seq a ws)) (seq ws (seq b ws)) (same (one 44)) (both ws ws (seq a ws) (seq b ws) (same ws) element) in
    let all : Grows (seq (seq a ws) (many (comma_rule a))) (seq (seq b ws) (many (comma_rule b))) = both (seq a ws) (seq b ws) (many (comma_rule a)) (many (comma_rule b)) element (each_turn (comma_rule a) (comma_rule b) comma) in
    both ws ws (alt (one close) (seq (seq (seq a ws) (many (comma_rule a))) (one close))) (alt (one close) (seq (seq (seq b ws) (many (comma_rule b))) (one close))) (same ws)
    (either (one close) (one close) (seq (seq (seq a ws) (many (comma_rule a))) (one close)) (seq (seq (seq b ws) (many (comma_rule b))) (one close)) (same (one close))
    (both (seq (seq a ws) (many (comma_rule a))) (seq (seq b ws) (many (comma_rule b))) (one close) (one close) all (same (one close))))

list_grows : (a b : Rule) → Grows a b → Grows (list_rule a) (list_rule b)
list_grows a b f = both (one 91) (one 91) (sequence_rule a 93) (sequence_rule b 93) (same (one 91)) (sequence_grows a b 93 f)

member_grows : (a b : Rule) → Grows a b → Grows (member_rule a) (member_rule b)
member_grows a b f =
    both text_rule text_rule (seq ws (seq (one 58) (seq ws a))) (seq ws (seq (one 58) (seq ws b))) (same text_rule)
    (both ws ws (seq (one 58) (seq ws a)) (seq (one 58) (seq ws b)) (same ws) (both (one 58) (one 58) (seq ws a) (seq ws b) (same (one 58)) (both ws ws a b (same ws) f)))

object_grows : (a b : Rule) → Grows a b → Grows (object_rule a) (object_rule b)
object_grows a b f = both (one 123) (one 123) (sequence_rule (member_rule a) 125) (sequence_rule (member_rule b) 125) (same (one 123)) (sequence_grows (member_rule a) (member_rule b) 125 (member_grows a b f))

value_grows : (d : ℕ) → Grows (value_rule d) (value_rule (suc d))
value_grows zero = record { whole = λ text h. inl h; begun = λ text h. inl h }
value_grows (suc d) =
    let v : Rule = value_rule d in
    let w : Rule = value_rule (suc d) in
    either scalar_rule scalar_rule (alt (list_rule v) (object_rule v)) (alt (list_rule w) (object_rule w)) (same scalar_rule)
    (either (list_rule v) (list_rule w) (object_rule v) (object_rule w) (list_grows v w (value_grows d)) (object_grows v w (value_grows d)))

pub json_grows : (d : ℕ) → Grows (json d) (json (suc d))
json_grows d =
    both ws ws (seq (value_rule d) ws) (seq (value_rule (suc d)) ws) (same ws) (both (value_rule d) (value_rule (suc d)) ws ws (value_grows d) (same ws))

json_more : (more d : ℕ) (text : List ℕ) → viable (json d) text → viable (json (more + d)) text
json_more zero d text h = subst (λ (n : ℕ). viable (json n) text) (let none : d ≡ 0 + d = omega arith in none) h
json_more (suc more) d text h =
    subst (λ (n : ℕ). viable (json n) text) (let next : suc (more + d) ≡ suc more + d = omega arith in next) ((json_grows (more + d)).begun text (json_more more d text h))

-- BadJson stands at the end of the longest viable prefix, however deep that nests
pub bad_prefix : (bytes : List ℕ) (depth at : ℕ) → json_text bytes depth ≡ Err (BadJson at) → IsLongest IsJsonPrefix bytes at
bad_prefix bytes depth at is =
    let here : IsLongest (viable (json depth)) bytes at = bad_longest bytes depth at depth is (omega arith) in
    record {
      within = here.within;
      begun = (depth, here.begun);
      no_longer = λ more above within h.
          (bad_longest bytes depth at (depth + h.0) is (omega arith)).no_longer more above within (json_more depth h.0 (take more bytes) h.1);
    }
