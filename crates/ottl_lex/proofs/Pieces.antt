-- A run of plain bytes and the escape behind it, as a loop reads them.
use Rattle.std.proofs.Common.{◌≡◌, ◌∙◌, ℕ, zero, suc, ◌+◌, List, [], ◌∷◌, ◌++◌, length, take, drop, Bool, true, false, refl, sym, ap, arith, add-zero}
use Rattle.std.specs.Prelude.{Some, None, Result, Ok, Err, ◌==◌}
use Rattle.std.specs.List.{prefix_len}
use Rattle.std.proofs.lemmas.List.{append-nil}
use Rattle.std.proofs.lemmas.Str.{is_utf8-from_IsUtf8, IsUtf8-from_is_utf8}
use Rattle.std.specs.Str.{IsUtf8, is_utf8}
use Rattle.ottl_lex.specs.declared.fault.SyntaxFault.{SyntaxFault}
use Rattle.ottl_lex.specs.declared.fault.SyntaxKind.TheVariants.{BadEscape, NotUtf8}
use Rattle.ottl_lex.specs.Quoted.{fault, with_front, escape_at, is_plain, escaped, unescaped, as_utf8, contents}
use Rattle.ottl_lex.proofs.Steps.{with_front-nil, with_front-append}

-- the bytes of an escape are passed
pub unescaped-passed : (n at : ℕ) (text : List ℕ) → unescaped n at text ≡ unescaped 0 (at + n) (drop n text)
unescaped-passed zero at text = ap (λ a. unescaped 0 a text) (omega arith)
unescaped-passed (suc n) at [] = refl
unescaped-passed (suc n) at (b ∷ rest) =
    unescaped-passed n (at + 1) rest ∙ ap (λ a. unescaped 0 a (drop n rest)) (omega arith)

-- a run of plain bytes stands for itself
abbrev Runs : ℕ → List ℕ → Type 0
Runs at text = unescaped 0 at text
    ≡ with_front (take (prefix_len is_plain text) text) (unescaped 0 (at + prefix_len is_plain text) (drop (prefix_len is_plain text) text))

run_by : (at b : ℕ) (rest : List ℕ) (slash : Bool) → (b == 92) ≡ slash → Runs (at + 1) rest → Runs at (b ∷ rest)
run_by at b rest true is runs = rw (is, add-zero, is) (sym (with_front-nil (escaped at (escape_at rest) (λ n. unescaped n (at + 1) rest))))
run_by at b rest false is runs =
    let n : ℕ = prefix_len is_plain rest in
    let one : 1 + n ≡ suc n = omega arith in
    let far : at + 1 + n ≡ at + suc n = omega arith in
    rw (is, one) (ap (with_front (b ∷ [])) runs ∙ with_front-append (b ∷ []) (take n rest) (unescaped 0 (at + 1 + n) (drop n rest))
    ∙ ap (λ a. with_front (b ∷ take n rest) (unescaped 0 a (drop n rest))) far)

pub unescaped-run : (at : ℕ) (text : List ℕ) → Runs at text
unescaped-run at [] = refl
unescaped-run at (b ∷ rest) = run_by at b rest (b == 92) refl (unescaped-run (at + 1) rest)

-- what ends a run is a backslash
run_ends_by : (x : ℕ) (rest : List ℕ) (b : ℕ) (behind : List ℕ) (slash : Bool) → (x == 92) ≡ slash
    → (drop (prefix_len is_plain rest) rest ≡ b ∷ behind → (b == 92) ≡ true)
    → drop (prefix_len is_plain (x ∷ rest)) (x ∷ rest) ≡ b ∷ behind → (b == 92) ≡ true
run_ends_by x rest b behind true slash more is =
    let same : x ∷ rest ≡ b ∷ behind = rw slash at is in
    let first : x ≡ b = cc in
    rw (← first) slash
run_ends_by x rest b behind false slash more is =
    let one : 1 + prefix_len is_plain rest ≡ suc (prefix_len is_plain rest) = omega arith in
    more (rw (slash, one) at is)

run_ends : (text : List ℕ) (b : ℕ) (behind : List ℕ) → drop (prefix_len is_plain text) text ≡ b ∷ behind → (b == 92) ≡ true
run_ends [] b behind is = cc
run_ends (x ∷ rest) b behind is = run_ends_by x rest b behind (x == 92) refl (run_ends rest b behind) is

-- a run is passed: the bytes so far and the run stand before what is left
pub run-passed : (held : List ℕ) (at : ℕ) (text : List ℕ) (meant : Result (List ℕ) SyntaxFault) (count : ℕ) (front others : List ℕ)
    → with_front held (unescaped 0 at text) ≡ meant → count ≡ prefix_len is_plain text → front ≡ take count text → others ≡ drop count text
    → with_front (held ++ front) (unescaped 0 (at + count) others) ≡ meant
run-passed held at text meant count front others reads counted before behind =
    rw (before, behind, counted) (sym (with_front-append held (take (prefix_len is_plain text) text) (unescaped 0 (at + prefix_len is_plain text) (drop (prefix_len is_plain text) text)))
    ∙ ap (with_front held) (sym (unescaped-run at text)) ∙ reads)

-- a run ends at a backslash
pub run-ends : (text : List ℕ) (count : ℕ) (others : List ℕ) (b : ℕ) (behind : List ℕ) → count ≡ prefix_len is_plain text → others ≡ drop count text
    → others ≡ b ∷ behind → (b == 92) ≡ true
run-ends text count others b behind counted is first = run_ends text b behind (rw (← counted) (sym is ∙ first))

module _ (held : List ℕ) (at : ℕ) (meant : Result (List ℕ) SyntaxFault) where
  -- nothing is left
  pub pieces-end : (others : List ℕ) → length others ≡ 0 → with_front held (unescaped 0 at others) ≡ meant → meant ≡ Ok held
  pieces-end [] empty reads = sym reads ∙ ap Ok (append-nil held)
  pieces-end (b ∷ behind) empty reads = absurd (omega arith)

  module _ (others : List ℕ) (b : ℕ) (behind : List ℕ) (slash : (b == 92) ≡ true) (first : others ≡ b ∷ behind)
      (reads : with_front held (unescaped 0 at others) ≡ meant) where
    -- no escape stands there
    pub pieces-bad : None ≡ escape_at behind → meant ≡ Err (fault BadEscape at)
    pieces-bad none = sym reads ∙ rw (first, slash, ← none) refl

    -- an escape stands there
    pub pieces-escape : (bytes : List ℕ) (size : ℕ) → Some (bytes, size) ≡ escape_at behind
        → with_front (held ++ bytes) (unescaped 0 (at + (1 + size)) (drop size behind)) ≡ meant
    pieces-escape bytes size some =
        ap (λ a. with_front (held ++ bytes) (unescaped 0 a (drop size behind))) (omega arith)
        ∙ ap (with_front (held ++ bytes)) (sym (unescaped-passed size (at + 1) behind))
        ∙ sym (with_front-append held bytes (unescaped size (at + 1) behind))
        ∙ rw (← reads) (rw (first, slash, ← some) refl)

-- contents that are UTF-8
pub contents-utf8 : (at : ℕ) (inside bytes : List ℕ) → unescaped 0 (at + 1) inside ≡ Ok bytes → IsUtf8 bytes → contents at inside ≡ Ok bytes
contents-utf8 at inside bytes reads utf8 = rw (reads, is_utf8-from_IsUtf8 bytes utf8) refl

-- contents that aren't
pub contents-not_utf8 : (at : ℕ) (inside bytes : List ℕ) → unescaped 0 (at + 1) inside ≡ Ok bytes → (IsUtf8 bytes → ⊥)
    → contents at inside ≡ Err (fault NotUtf8 at)
contents-not_utf8 at inside bytes reads wrong = rw reads (by_test (is_utf8 bytes) refl) where
  by_test : (test : Bool) → is_utf8 bytes ≡ test → as_utf8 at bytes ≡ Err (fault NotUtf8 at)
  by_test true is = absurd (wrong (IsUtf8-from_is_utf8 bytes is))
  by_test false is = rw is refl
