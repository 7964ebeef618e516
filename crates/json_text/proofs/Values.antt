-- What a text and a value are, by their first bytes.
use Rattle.std.proofs.Common.{◌≡◌, ◌∙◌, ℕ, zero, suc, ◌+◌, ◌-◌, ◌<◌, true, false, List, [], length, take, Ok, Err, refl, sym, ap, arith}
use Rattle.std.specs.Prelude.{◌==◌}
use Rattle.std.specs.List.{prefix_len}
use Rattle.std.specs.Str.{IsUtf8}
use Rattle.std.specs.Str.Lossy.{utf8_valid_len}
use Rattle.std.proofs.lemmas.Str.{utf8_valid_len-IsUtf8}
use Rattle.std.proofs.lemmas.Bool.Decides.{nat_tests}
use Rattle.json_text.specs.Place.{Rest, head, past, behind}
use Rattle.json_text.specs.Reading.{with_front, this, is_plain, text, quoted, sequence, member, make, scalar, value, document, json_text}
use Rattle.json_text.specs.declared.json.JsonKind.TheVariants as kinds
use Rattle.json_text.specs.declared.error.JsonFault.TheVariants.{TooDeep}
use Rattle.json_text.proofs.Turns.{Ran-all, TextSoFar-begin, TextSoFar-run, TextSoFar-quote, with_front-nil, cond-true}

module _ (r q : Rest) (opened : this 34 r ≡ Ok q) where
  quoted_is : quoted r ≡ text (length q.left + 1) q
  quoted_is = rw opened refl

  -- a text without escapes
  pub quoted-closed : (mid : Rest) (run : List ℕ) → run ≡ take (prefix_len is_plain q.left) q.left → mid ≡ behind is_plain q → head mid ≡ 34
      → quoted r ≡ Ok (run, past 1 mid)
  quoted-closed mid run ran moved quote =
      let n = length q.left + 1 in
      let so_far = TextSoFar-run [] n q [] q (TextSoFar-begin [] n q (omega arith)) in
      quoted_is ∙ sym (with_front-nil (text n q)) ∙ rw (ran, moved) (TextSoFar-quote [] n q _ (behind is_plain q) so_far (rw moved at quote))

  -- a text with escapes, behind its first run
  pub record Opened (mid : Rest) (run : List ℕ) : Type 0 where
    pub turns : ℕ
    pub enough : length mid.left < turns
    pub reads : quoted r ≡ with_front run (text turns mid)

  pub quoted-opened : (mid : Rest) (run : List ℕ) → run ≡ take (prefix_len is_plain q.left) q.left → mid ≡ behind is_plain q → Opened mid run
  quoted-opened mid run ran moved =
      let all = Ran-all (length q.left + 1) q (omega arith) in
      record {
        turns = all.turns;
        enough = rw moved all.enough;
        reads = rw (ran, moved) (quoted_is ∙ all.reads);
      }

same_byte : (b c : ℕ) → b ≡ c → (b == c) ≡ true
same_byte b c h = grind (arith, nat_tests)

other_byte : (b c : ℕ) → (b ≡ c → ⊥) → (b == c) ≡ false
other_byte b c h = grind (arith, nat_tests)

pub value-list : (depth : ℕ) (r : Rest) → head r ≡ 91 → 0 < depth
    → value depth r ≡ make r kinds.List (sequence (value (depth - 1)) 93 (length r.left) (past 1 r))
unfolding value
value-list zero r is deep = absurd (omega arith)
value-list (suc d) r is deep = let less : suc d - 1 ≡ d = omega arith in rw (less, is) refl

pub value-object : (depth : ℕ) (r : Rest) → head r ≡ 123 → 0 < depth
    → value depth r ≡ make r kinds.Object (sequence (member (value (depth - 1))) 125 (length r.left) (past 1 r))
unfolding value
value-object zero r is deep = absurd (omega arith)
value-object (suc d) r is deep = let less : suc d - 1 ≡ d = omega arith in rw (less, is) refl

pub deep-list : (depth : ℕ) (r : Rest) → head r ≡ 91 → depth ≡ 0 → value depth r ≡ Err (TooDeep r.at)
unfolding value
deep-list zero r is none = rw is refl
deep-list (suc d) r is none = absurd (omega arith)

pub deep-object : (depth : ℕ) (r : Rest) → head r ≡ 123 → depth ≡ 0 → value depth r ≡ Err (TooDeep r.at)
unfolding value
deep-object zero r is none = rw is refl
deep-object (suc d) r is none = absurd (omega arith)

pub value-scalar : (depth : ℕ) (r : Rest) → (head r ≡ 91 → ⊥) → (head r ≡ 123 → ⊥) → value depth r ≡ scalar r
unfolding value
value-scalar zero r list object = rw (other_byte (head r) 91 list, other_byte (head r) 123 object) refl
value-scalar (suc d) r list object = rw (other_byte (head r) 91 list, other_byte (head r) 123 object) refl

pub same_length : (bytes : List ℕ) → utf8_valid_len bytes ≡ length bytes → (depth : ℕ) → json_text bytes depth ≡ document depth bytes
same_length bytes is depth = cond-true (utf8_valid_len bytes == length bytes) _ _ (same_byte (utf8_valid_len bytes) (length bytes) is)

pub json_text-utf8 : (text bytes : List ℕ) → text ≡ bytes → IsUtf8 bytes → (depth : ℕ) → json_text bytes depth ≡ document depth text
json_text-utf8 text bytes same utf8 depth = same_length bytes (utf8_valid_len-IsUtf8 bytes utf8) depth ∙ ap (document depth) (sym same)
