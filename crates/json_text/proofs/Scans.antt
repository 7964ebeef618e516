-- How far bytes of a kind go, and that the text may be cut there.
use Rattle.std.proofs.Common.{◌≡◌, ℕ, zero, suc, ◌+◌, ◌<◌, ◌≤◌, Bool, true, false, List, [], ◌∷◌, length, drop, get_or, arith, refl, ap, add-one, drop-cons}
use Rattle.std.specs.Prelude.{cond}
use Rattle.std.specs.List.{prefix_len}
use Rattle.std.specs.Str.{IsUtf8, IsCharBoundary}
use Rattle.std.proofs.lemmas.Bool.Decides.{nat_tests}
use Rattle.std.proofs.lemmas.Str.{IsCharBoundary-start, IsCharBoundary-after_ascii}
use Rattle.pdata_value.specs.Numeral.{is_digit}
use Rattle.json_text.specs.Place.{Rest, head, is_blank}
use Rattle.json_text.specs.Reading.{is_plain}

-- how far it goes from the start is how far it went, and how far it goes from there
pub record GoesOn (kind : ℕ → Bool) (bytes : List ℕ) (count : ℕ) : Type 0 where
  pub so_far : prefix_len kind bytes ≡ count + prefix_len kind (drop count bytes)
  pub within : count ≤ length bytes

rest_of : (kind : ℕ → Bool) (bytes : List ℕ) (count : ℕ) → count < length bytes → kind (get_or bytes count 0) ≡ true
    → prefix_len kind (drop count bytes) ≡ 1 + prefix_len kind (drop (suc count) bytes)
rest_of kind bytes count within is = rw (drop-cons bytes count 0, is) refl

stops_at : (kind : ℕ → Bool) (bytes : List ℕ) (count : ℕ) → kind (get_or bytes count 0) ≡ false → prefix_len kind (drop count bytes) ≡ 0
stops_at kind [] zero is = refl
stops_at kind [] (suc count) is = refl
stops_at kind (x ∷ xs) zero is = rw is refl
stops_at kind (x ∷ xs) (suc count) is = stops_at kind xs count is

past_end : (kind : ℕ → Bool) (bytes : List ℕ) (count : ℕ) → length bytes ≤ count → prefix_len kind (drop count bytes) ≡ 0
past_end kind [] zero end = refl
past_end kind [] (suc count) end = refl
past_end kind (x ∷ xs) zero end = absurd (omega arith)
past_end kind (x ∷ xs) (suc count) end = past_end kind xs count (omega arith)

-- each byte that was passed is ASCII
ascii_step : (kind : ℕ → Bool) → ((b : ℕ) → kind b ≡ true → b < 128) → (x : ℕ) (xs : List ℕ) → ((n : ℕ) → n < prefix_len kind xs → get_or xs n 0 < 128)
    → (t : Bool) → kind x ≡ t → (count : ℕ) → count < cond t (1 + prefix_len kind xs) 0 → get_or (x ∷ xs) count 0 < 128
ascii_step kind ascii x xs below true is zero h = ascii x is
ascii_step kind ascii x xs below true is (suc n) h = below n (omega arith)
ascii_step kind ascii x xs below false is count h = absurd (omega arith)

past_ascii : (kind : ℕ → Bool) → ((b : ℕ) → kind b ≡ true → b < 128) → (bytes : List ℕ) (count : ℕ) → count < prefix_len kind bytes → get_or bytes count 0 < 128
past_ascii kind ascii [] count within = absurd (omega arith)
past_ascii kind ascii (x ∷ xs) count within = ascii_step kind ascii x xs (past_ascii kind ascii xs) (kind x) refl count within

cut_at : (kind : ℕ → Bool) → ((b : ℕ) → kind b ≡ true → b < 128) → (bytes : List ℕ) → IsUtf8 bytes → (count : ℕ) → count ≡ prefix_len kind bytes
    → count ≤ length bytes → IsCharBoundary bytes count
cut_at kind ascii bytes utf8 zero is within = IsCharBoundary-start bytes utf8
cut_at kind ascii bytes utf8 (suc n) is within =
    let last : get_or bytes n 0 < 128 = past_ascii kind ascii bytes n (omega arith) in
    rw add-one at (IsCharBoundary-after_ascii bytes n utf8 (omega arith) last)

pub cut_behind : (kind : ℕ → Bool) → ((b : ℕ) → kind b ≡ true → b < 128) → (left bytes : List ℕ) → left ≡ bytes → IsUtf8 bytes → (count : ℕ)
    → count ≡ prefix_len kind bytes → count ≤ length bytes → IsCharBoundary left count
cut_behind kind ascii left bytes same utf8 count is within = rw same (cut_at kind ascii bytes utf8 count is within)

-- the byte at which it stops isn't of the kind
stop_step : (kind : ℕ → Bool) (x : ℕ) (xs : List ℕ) → (prefix_len kind xs < length xs → kind (get_or xs (prefix_len kind xs) 0) ≡ false)
    → (t : Bool) → kind x ≡ t → cond t (1 + prefix_len kind xs) 0 < length (x ∷ xs) → kind (get_or (x ∷ xs) (cond t (suc (prefix_len kind xs)) 0) 0) ≡ false
stop_step kind x xs below true is h = below (omega arith)
stop_step kind x xs below false is h = is

pub stopped : (kind : ℕ → Bool) (bytes : List ℕ) → prefix_len kind bytes < length bytes → kind (get_or bytes (prefix_len kind bytes) 0) ≡ false
stopped kind [] within = absurd (omega arith)
stopped kind (x ∷ xs) within =
    let one_more : 1 + prefix_len kind xs ≡ suc (prefix_len kind xs) = omega arith in
    rw one_more (stop_step kind x xs (stopped kind xs) (kind x) refl within)

pub cut_before : (kind : ℕ → Bool) → ((b : ℕ) → kind b ≡ false → b < 128) → (left bytes : List ℕ) → left ≡ bytes → (count : ℕ)
    → count ≡ prefix_len kind bytes → count ≤ length bytes → IsCharBoundary left count
cut_before kind ascii left bytes same count is within =
    rw same (
      within,
      λ h high.
          let at_stop : kind (get_or bytes count 0) ≡ false = rw is (stopped kind bytes (omega arith)) in
          absurd (omega (arith, ascii (get_or bytes count 0) at_stop)),
    )

pub blank_ascii : (b : ℕ) → is_blank b ≡ true → b < 128
blank_ascii b h = grind (arith, nat_tests)

pub digit_ascii : (b : ℕ) → is_digit b ≡ true → b < 128
digit_ascii b h = grind (arith, nat_tests)

pub plain_ascii : (b : ℕ) → is_plain b ≡ false → b < 128
plain_ascii b h = grind (arith, nat_tests)

pub cut_after_first : (bytes : List ℕ) (r : Rest) → bytes ≡ r.left → IsUtf8 bytes → 0 < head r → head r < 128 → IsCharBoundary bytes 1
cut_after_first [] r same utf8 some ascii = let none : 0 ≡ head r = ap (λ (l : List ℕ). get_or l 0 0) same in absurd (omega arith)
cut_after_first (x ∷ xs) r same utf8 some ascii =
    let first : x ≡ head r = ap (λ (l : List ℕ). get_or l 0 0) same in
    IsCharBoundary-after_ascii (x ∷ xs) 0 utf8 (omega arith) (omega arith)
