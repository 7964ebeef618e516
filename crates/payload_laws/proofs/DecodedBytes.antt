-- What hexadecimal, base64 and UTF-8 decode to are bytes.
use Rattle.std.proofs.Common.{◌≡◌, ◌∙◌, ℕ, zero, suc, ◌+◌, ◌-◌, ◌*◌, ◌/◌, ◌%◌, ◌<◌, ◌≤◌, Bool, true, false, List, [], ◌∷◌, ◌++◌, length, take, drop, replicate, slice_index, Option, Some, None, Result, Ok, Err, inl, inr, refl, sym, ap, subst, arith, cond}
use Rattle.std.specs.Prelude.{◌&&◌, nat_lt}
use Rattle.std.specs.Char.{encode_utf8, IsScalar}
use Rattle.std.specs.Result.{result_ok}
use Rattle.std.specs.Str.{IsUtf8, encode_utf8_all, all_scalars}
use Rattle.std.proofs.lemmas.Bool.Decides.{nat_tests}
use Rattle.std.proofs.lemmas.List.{length-drop, length-replicate, get_or-drop}
use Rattle.hex.specs.Hex.{IsBytes, decode_sized}
use Rattle.hex.proofs.HexLemmas.{decode_sized-ok, decode_sized-twice, decode_of-ok}
use Rattle.base64.specs.Decode.{decode_error, decode_group, decode_outcome, decoded_bytes, group_bytes, group_error, groups_before_last, groups_bytes, groups_error, lone_error, no_leftover, or_else, scan_bytes, scan_last, suffix_bytes, suffix_error, symbol_error}
use Rattle.base64.specs.Engines.{standard}
use Rattle.base64.specs.GeneralPurpose as base64
use Rattle.base64.specs.Tables.{is_inverse}
use Rattle.base64.specs.declared.decode.DecodeError.{DecodeError}
use Rattle.base64.specs.declared.engine.DecodePaddingMode.{DecodePaddingMode}
use Rattle.base64.proofs.Canonical.{IsScanned-scan}
use Rattle.base64.proofs.EngineFacts.{decode_of_bytes}
use Rattle.base64.proofs.Tables.{are_tables_inverse, IsDecodeTable_from}

-- Lists of bytes.

no_bytes : IsBytes []
no_bytes i = omega arith

one_more : (b : ℕ) (bs : List ℕ) → b < 256 → IsBytes bs → IsBytes (b ∷ bs)
one_more b bs here rest zero = here
one_more b bs here rest (suc i) = rest i

both_bytes : (xs ys : List ℕ) → IsBytes xs → IsBytes ys → IsBytes (xs ++ ys)
both_bytes [] ys hx hy = hy
both_bytes (x ∷ xs) ys hx hy = one_more x (xs ++ ys) (hx 0) (both_bytes xs ys (λ i. hx (suc i)) hy)

take_bytes : (n : ℕ) (xs : List ℕ) → IsBytes xs → IsBytes (take n xs)
take_bytes zero xs h = no_bytes
take_bytes (suc n) [] h = no_bytes
take_bytes (suc n) (x ∷ xs) h = one_more x (take n xs) (h 0) (take_bytes n xs (λ i. h (suc i)))

zeros_bytes : (n : ℕ) → IsBytes (replicate n 0)
zeros_bytes zero = no_bytes
zeros_bytes (suc n) = one_more 0 (replicate n 0) (omega arith) (zeros_bytes n)

-- UTF-8.

char_bytes : (c : ℕ) → IsScalar c → IsBytes (encode_utf8 c)
unfolding encode_utf8
char_bytes c scalar = by (nat_lt c 128) (nat_lt c 2048) (nat_lt c 65536) refl refl refl where
  limit : c < 1114112
  limit = grind (arith, nat_tests)

  below : (n : ℕ) → nat_lt c n ≡ true → c < n
  below n is = grind (arith, nat_tests)

  by : (s t u : Bool) → nat_lt c 128 ≡ s → nat_lt c 2048 ≡ t → nat_lt c 65536 ≡ u
      → IsBytes (cond s (c ∷ []) (cond t ((192 + c / 64) ∷ (128 + c % 64) ∷ []) (cond u ((224 + c / 4096) ∷ (128 + c / 64 % 64) ∷ (128 + c % 64) ∷ []) ((240 + c / 262144) ∷ (128 + c / 4096 % 64) ∷ (128 + c / 64 % 64) ∷ (128 + c % 64) ∷ []))))
  by true t u one two three = one_more c [] (omega (arith, below 128 one)) no_bytes
  by false true u one two three = one_more (192 + c / 64) ((128 + c % 64) ∷ []) (omega (arith, below 2048 two)) (one_more (128 + c % 64) [] (omega arith) no_bytes)
  by false false true one two three =
      one_more (224 + c / 4096) ((128 + c / 64 % 64) ∷ (128 + c % 64) ∷ []) (omega (arith, below 65536 three))
      (one_more (128 + c / 64 % 64) ((128 + c % 64) ∷ []) (omega arith) (one_more (128 + c % 64) [] (omega arith) no_bytes))
  by false false false one two three =
      one_more (240 + c / 262144) ((128 + c / 4096 % 64) ∷ (128 + c / 64 % 64) ∷ (128 + c % 64) ∷ []) (omega (arith, limit))
      (one_more (128 + c / 4096 % 64) ((128 + c / 64 % 64) ∷ (128 + c % 64) ∷ []) (omega arith)
      (one_more (128 + c / 64 % 64) ((128 + c % 64) ∷ []) (omega arith) (one_more (128 + c % 64) [] (omega arith) no_bytes)))

both_true : (s t : Bool) → (s && t) ≡ true → (s ≡ true) × (t ≡ true)
both_true true t h = (refl, h)
both_true false t h = absurd cc

chars_bytes : (cs : List ℕ) → all_scalars cs ≡ true → IsBytes (encode_utf8_all cs)
chars_bytes [] h = no_bytes
chars_bytes (c ∷ cs) h =
    let parts = both_true _ (all_scalars cs) h in
    both_bytes (encode_utf8 c) (encode_utf8_all cs) (char_bytes c parts.0) (chars_bytes cs parts.1)

pub utf8_bytes : (text : List ℕ) → IsUtf8 text → IsBytes text
utf8_bytes text h = subst IsBytes h.1.1 (chars_bytes h.0 h.1.0)

-- Hexadecimal.

ok_is : {E : Type 0} (r : Result (List ℕ) E) (bytes : List ℕ) → result_ok r ≡ Some bytes → r ≡ Ok bytes
ok_is (Ok x) bytes is =
    let same : x ≡ bytes = cc is in
    ap Ok same
ok_is (Err e) bytes is = absurd (cc is)

pub sized_bytes : (text : List ℕ) (size : ℕ) (id : List ℕ) → result_ok (decode_sized text size) ≡ Some id → (length id ≡ size) × IsBytes id
sized_bytes text size id is =
    let read : decode_sized text size ≡ Ok id = ok_is (decode_sized text size) id is in
    let twice : length text ≡ 2 * size = decode_sized-ok text size id read in
    let facts = decode_of-ok text id (sym (decode_sized-twice text size twice) ∙ read) in
    (omega (arith, twice, facts.2), facts.3)

pub zero_bytes : (size : ℕ) → (length {A = ℕ} (replicate size 0) ≡ size) × IsBytes (replicate size 0)
zero_bytes size = (length-replicate size 0, zeros_bytes size)

-- Base64.

none_both : (x y : Option DecodeError) → or_else x y ≡ None → (x ≡ None) × (y ≡ None)
none_both None y h = (refl, h)
none_both (Some e) y h = absurd (cc h)

group_below : (a b c d : ℕ) → a < 64 → b < 64 → c < 64 → d < 64 → IsBytes (decode_group a b c d)
group_below a b c d less_a less_b less_c less_d =
    one_more (a * 4 + b / 16) ((b % 16 * 16 + c / 4) ∷ (c % 4 * 64 + d) ∷ []) (omega arith)
    (one_more (b % 16 * 16 + c / 4) ((c % 4 * 64 + d) ∷ []) (omega arith) (one_more (c % 4 * 64 + d) [] (omega arith) no_bytes))

module _ (enc dec s : List ℕ) (inverse : is_inverse enc dec ≡ true) (bytes : IsBytes s) where
  symbol_below : (i : ℕ) → symbol_error dec s i ≡ None → slice_index dec (slice_index s i) < 64
  symbol_below i none = elim (IsDecodeTable_from enc dec inverse (slice_index s i) (bytes i)) [
    | inl bad ↦ absurd (cc (rw bad at none))
    | inr good ↦ good
  ]

  groups_below : (q : ℕ) → groups_error dec s q ≡ None → IsBytes (groups_bytes dec s q)
  unfolding groups_error groups_bytes
  groups_below zero none = no_bytes
  groups_below (suc q) none =
      let i : ℕ = 4 * q in
      let parts = none_both (groups_error dec s q) (group_error dec s i) none in
      let first = none_both (symbol_error dec s i) _ parts.1 in
      let second = none_both (symbol_error dec s (i + 1)) _ first.1 in
      let third = none_both (symbol_error dec s (i + 2)) (symbol_error dec s (i + 3)) second.1 in
      both_bytes (groups_bytes dec s q) (group_bytes dec s i) (groups_below q parts.0)
      (group_below _ _ _ _ (symbol_below i first.0) (symbol_below (i + 1) second.0) (symbol_below (i + 2) third.0) (symbol_below (i + 3) third.1))

  zeros_below : (k : ℕ) → slice_index (0 ∷ 0 ∷ 0 ∷ 0 ∷ []) k < 64
  zeros_below zero = omega arith
  zeros_below (suc zero) = omega arith
  zeros_below (suc (suc zero)) = omega arith
  zeros_below (suc (suc (suc zero))) = omega arith
  zeros_below (suc (suc (suc (suc k)))) = omega arith

  last_below : (pad at : ℕ) (r : Result _ DecodeError) → length s ≤ at + 4 → scan_last dec pad at s ≡ r → IsBytes (scan_bytes r)
  last_below pad at (Err e) short is = no_bytes
  last_below pad at (Ok st) short is =
      let size : length (drop at s) ≡ length s - at = length-drop at s in
      let rest : (k : ℕ) → slice_index (drop at s) k < 256 = λ k. rw (get_or-drop at s k 0) (bytes (at + k)) in
      let held = IsScanned-scan enc dec (drop at s) pad at (drop at s) no_leftover st 0 inverse rest (omega (arith, size)) (omega arith) refl
      ((refl, refl, λ j lt. absurd (omega arith), λ j low lt. absurd (omega arith)), (omega arith, omega arith, omega arith, zeros_below)) is in
      let small = held.1.3 in
      take_bytes _ (decode_group (slice_index st.morsels 0) (slice_index st.morsels 1) (slice_index st.morsels 2) (slice_index st.morsels 3))
      (group_below _ _ _ _ (small 0) (small 1) (small 2) (small 3))

  all_below : (pad : ℕ) (allow : Bool) (mode : DecodePaddingMode) → decode_error dec pad allow mode s ≡ None → IsBytes (decoded_bytes dec pad s)
  all_below pad allow mode none =
      let q : ℕ = groups_before_last (length s) in
      let lone = none_both (lone_error dec pad s) _ none in
      let groups = none_both (groups_error dec s q) (suffix_error dec pad allow mode (4 * q) s) lone.1 in
      both_bytes (groups_bytes dec s q) (suffix_bytes dec pad (4 * q) s) (groups_below q groups.0) (last_below pad (4 * q) (scan_last dec pad (4 * q) s) (omega arith) refl)

no_error : (error : Option DecodeError) (found bytes : List ℕ) → decode_outcome error found ≡ Ok bytes → error ≡ None
no_error None found bytes h = refl
no_error (Some e) found bytes h = absurd (cc h)

pub base64_bytes : (text bytes : List ℕ) → IsBytes text → result_ok (base64.decode_of standard text) ≡ Some bytes → IsBytes bytes
base64_bytes text bytes h is =
    let read = ok_is (base64.decode_of standard text) bytes is in
    let none = no_error _ _ bytes read in
    let found : IsBytes (base64.decoded_bytes_of standard text) =
    all_below standard.encode_table standard.decode_table text (are_tables_inverse standard.encode_table standard.decode_table standard.padding.value standard.tables) h standard.padding.value
    standard.config.decode_allow_trailing_bits standard.config.decode_padding_mode none in
    decode_of_bytes standard text bytes found read
