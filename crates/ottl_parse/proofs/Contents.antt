-- The contents of a text between quotes, run by run.
use Rattle.std.proofs.Common.{◌≡◌, ◌∙◌, ℕ, suc, ◌+◌, ◌-◌, ◌<◌, ◌≤◌, Bool, true, false, List, [], ◌∷◌, ◌++◌, length, take, drop, get_or, refl, sym, ap, cond, arith, append_assoc, drop-cons}
use Rattle.std.specs.List.{prefix_len, slice_range}
use Rattle.std.specs.Str.{IsUtf8, IsCharBoundary}
use Rattle.std.proofs.Math.Seq.{take-length}
use Rattle.std.proofs.lemmas.Bool.Decides.{nat_tests}
use Rattle.std.proofs.lemmas.Str.{IsCharBoundary-after_ascii}
use Rattle.ottl_parse.specs.Printing.{is_plain, escape_of, contents_text}

-- the byte at which it stops isn't plain
stop_step : (x : ℕ) (xs : List ℕ) → (prefix_len is_plain xs < length xs → is_plain (get_or xs (prefix_len is_plain xs) 0) ≡ false)
    → (t : Bool) → is_plain x ≡ t → cond t (1 + prefix_len is_plain xs) 0 < length (x ∷ xs) → is_plain (get_or (x ∷ xs) (cond t (suc (prefix_len is_plain xs)) 0) 0) ≡ false
stop_step x xs below true is h = below (omega arith)
stop_step x xs below false is h = is

stopped : (bytes : List ℕ) → prefix_len is_plain bytes < length bytes → is_plain (get_or bytes (prefix_len is_plain bytes) 0) ≡ false
stopped [] within = absurd (omega arith)
stopped (x ∷ xs) within =
    let one_more : 1 + prefix_len is_plain xs ≡ suc (prefix_len is_plain xs) = omega arith in
    rw one_more (stop_step x xs (stopped xs) (is_plain x) refl within)

plain_ascii : (b : ℕ) → is_plain b ≡ false → b < 128
plain_ascii b h = grind (arith, nat_tests)

-- the text may be cut before that byte and behind it
pub cut-before : (bytes : List ℕ) (count : ℕ) → count ≡ prefix_len is_plain bytes → count ≤ length bytes → IsCharBoundary bytes count
cut-before bytes count is within = (
  within,
  λ h high.
      let at_stop : is_plain (get_or bytes count 0) ≡ false = rw is (stopped bytes (omega arith)) in
      absurd (omega (arith, plain_ascii (get_or bytes count 0) at_stop)),
)

pub cut-behind : (bytes : List ℕ) (count : ℕ) → IsUtf8 bytes → count ≡ prefix_len is_plain bytes → count < length bytes → IsCharBoundary bytes (count + 1)
cut-behind bytes count utf8 is within =
    let at_stop : is_plain (get_or bytes count 0) ≡ false = rw is (stopped bytes (omega arith)) in
    IsCharBoundary-after_ascii bytes count utf8 within (plain_ascii (get_or bytes count 0) at_stop)

run_step : (x : ℕ) (xs : List ℕ) → contents_text xs ≡ take (prefix_len is_plain xs) xs ++ contents_text (drop (prefix_len is_plain xs) xs)
    → (t : Bool) → is_plain x ≡ t
    → cond t (x ∷ []) (escape_of x) ++ contents_text xs
    ≡ take (cond t (suc (prefix_len is_plain xs)) 0) (x ∷ xs) ++ contents_text (drop (cond t (suc (prefix_len is_plain xs)) 0) (x ∷ xs))
run_step x xs below true plain = ap (λ (ys : List ℕ). x ∷ ys) below
run_step x xs below false plain = ap (λ (t : Bool). cond t (x ∷ []) (escape_of x) ++ contents_text xs) (sym plain)

contents-run : (bytes : List ℕ) → contents_text bytes ≡ take (prefix_len is_plain bytes) bytes ++ contents_text (drop (prefix_len is_plain bytes) bytes)
contents-run [] = refl
contents-run (x ∷ xs) =
    let one_more : 1 + prefix_len is_plain xs ≡ suc (prefix_len is_plain xs) = omega arith in
    rw one_more (run_step x xs (contents-run xs) (is_plain x) refl)

escape_step : (bytes : List ℕ) (count : ℕ) → count < length bytes → is_plain (get_or bytes count 0) ≡ false
    → contents_text (drop count bytes) ≡ escape_of (get_or bytes count 0) ++ contents_text (drop (count + 1) bytes)
escape_step bytes count within is =
    let next : suc count ≡ count + 1 = omega arith in
    ap contents_text (drop-cons bytes count 0 within)
    ∙ ap (λ (t : Bool). cond t (get_or bytes count 0 ∷ []) (escape_of (get_or bytes count 0)) ++ contents_text (drop (suc count) bytes)) is
    ∙ ap (λ (n : ℕ). escape_of (get_or bytes count 0) ++ contents_text (drop n bytes)) next

contents-escape : (bytes : List ℕ) (count : ℕ) → count ≡ prefix_len is_plain bytes → count < length bytes
    → contents_text bytes ≡ take count bytes ++ (escape_of (get_or bytes count 0) ++ contents_text (drop (count + 1) bytes))
contents-escape bytes count is within =
    let at_stop : is_plain (get_or bytes count 0) ≡ false = rw is (stopped bytes (omega arith)) in
    contents-run bytes ∙ rw (← is) (ap (λ (ys : List ℕ). take count bytes ++ ys) (escape_step bytes count within at_stop))

take_all : (bytes : List ℕ) → take (length bytes) bytes ++ contents_text (drop (length bytes) bytes) ≡ bytes
take_all [] = refl
take_all (x ∷ xs) = ap (λ (ys : List ℕ). x ∷ ys) (take_all xs)

contents-plain : (bytes : List ℕ) (count : ℕ) → count ≡ prefix_len is_plain bytes → count ≡ length bytes → contents_text bytes ≡ bytes
contents-plain bytes count is all = contents-run bytes ∙ rw (← is, all) (take_all bytes)

-- how far the contents are written
pub contents-end : (before all now rest after : List ℕ) (count : ℕ) → now ++ contents_text rest ≡ before ++ contents_text all → count ≡ prefix_len is_plain rest
    → count ≡ length rest → after ≡ now ++ take count rest → after ≡ before ++ contents_text all
contents-end before all now rest after count so_far is end grown =
    let whole : take count rest ≡ rest = rw end (take-length rest) in
    grown ∙ ap (λ (t : List ℕ). now ++ t) (whole ∙ sym (contents-plain rest count is end)) ∙ so_far

pub contents-more : (before all now rest mid after behind : List ℕ) (count byte : ℕ) → now ++ contents_text rest ≡ before ++ contents_text all → count ≡ prefix_len is_plain rest
    → count < length rest → mid ≡ now ++ take count rest → byte ≡ get_or rest count 0 → after ≡ mid ++ escape_of byte → behind ≡ drop (count + 1) rest
    → after ++ contents_text behind ≡ before ++ contents_text all
contents-more before all now rest mid after behind count byte so_far is within ran byte_is grown behind_is =
    let left = drop (count + 1) rest in
    let escape = escape_of (get_or rest count 0) in
    ap (λ (t : List ℕ). after ++ contents_text t) behind_is
    ∙ ap (λ (t : List ℕ). t ++ contents_text left) (grown ∙ ap (λ (b : ℕ). mid ++ escape_of b) byte_is ∙ ap (λ (t : List ℕ). t ++ escape) ran)
    ∙ append_assoc (now ++ take count rest) escape (contents_text left)
    ∙ append_assoc now (take count rest) (escape ++ contents_text left)
    ∙ ap (λ (t : List ℕ). now ++ t) (sym (contents-escape rest count is within))
    ∙ so_far

-- the front of a text
pub range-front : (rest : List ℕ) (count : ℕ) → slice_range rest 0 count ≡ take count rest
range-front rest count = let same : count - 0 ≡ count = omega arith in ap (λ (n : ℕ). take n rest) same
