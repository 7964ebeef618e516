-- What is made first, before what is left to make.
use Rattle.std.proofs.Common.{◌≡◌, ℕ, zero, suc, ◌+◌, ◌-◌, ◌<◌, List, [], ◌∷◌, ◌++◌, refl, sym, ap, ◌∙◌, arith, append_assoc}
use Rattle.load_gen.specs.Draws.{after}
use Rattle.load_gen.specs.Payloads.{Made, Makes, before, line_of, lines_from, log_of, logs_of, payload_of, time_of}
use Rattle.otlp_json.specs.Line.{line}
use Rattle.pdata_tree.specs.declared.batch.Batch.{Batch}
use Rattle.pdata_tree.specs.declared.record.LogRecord.{LogRecord}

before-before : {X : Type 0} (xs ys : List X) (rest : Made (List X))
    → before xs (before ys rest) ≡ before (xs ++ ys) rest
before-before xs ys rest =
    ap (λ made. record { made = made; state = rest.state }) (sym (append_assoc xs ys rest.made))

next_logs : (i j left state : ℕ) → 0 < left
    → logs_of i j left state
    ≡ before (log_of (time_of i j) state ∷ []) (logs_of i (j + 1) (left - 1) (after 4 state))
next_logs i j zero state less = absurd (omega (arith, less))
next_logs i j (suc left) state less =
    let same : suc left - 1 ≡ left = omega arith in
    let next : j + 1 ≡ suc j = omega arith in
    rw same (rw next refl)

next_lines : (i left state : ℕ) → 0 < left
    → lines_from i left state
    ≡ before (line_of (payload_of i state).made) (lines_from (i + 1) (left - 1) (payload_of i state).state)
next_lines i zero state less = absurd (omega (arith, less))
next_lines i (suc left) state less =
    let same : suc left - 1 ≡ left = omega arith in
    let next : i + 1 ≡ suc i = omega arith in
    rw same (rw next refl)

-- the next record goes from what is left to what is made
pub logs_grow : (i j left state now : ℕ) (whole : Made (List LogRecord)) (logs more : List LogRecord) (log : LogRecord)
    → whole ≡ before logs (logs_of i j left state) → 0 < left
    → log ≡ log_of (time_of i j) state → now ≡ after 4 state → more ≡ logs ++ log ∷ []
    → whole ≡ before more (logs_of i (j + 1) (left - 1) now)
logs_grow i j left state now whole logs more log is less log_is now_is more_is =
    rw more_is (rw log_is (rw now_is
    (is ∙ ap (before logs) (next_logs i j left state less)
    ∙ before-before logs (log_of (time_of i j) state ∷ []) (logs_of i (j + 1) (left - 1) (after 4 state)))))

-- the same of payloads
pub lines_grow : (i left state now : ℕ) (whole : Made (List ℕ)) (lines with more : List ℕ) (payload : Batch)
    → whole ≡ before lines (lines_from i left state) → 0 < left
    → Makes now payload (payload_of i state) → with ≡ lines ++ line payload → more ≡ with ++ 10 ∷ []
    → whole ≡ before more (lines_from (i + 1) (left - 1) now)
lines_grow i left state now whole lines with more payload is less made with_is more_is =
    rw more_is (rw with_is (rw made.0 (rw made.1
    (is ∙ ap (before lines) (next_lines i left state less)
    ∙ before-before lines (line_of (payload_of i state).made) (lines_from (i + 1) (left - 1) (payload_of i state).state)
    ∙ ap (λ made. before made (lines_from (i + 1) (left - 1) (payload_of i state).state))
    (sym (append_assoc lines (line (payload_of i state).made) (10 ∷ [])))))))
