-- The factored grammar has the texts and the viable prefixes of the grammar that nests at most as deep.
use Rattle.std.proofs.Common.{◌≡◌, ℕ, zero, suc, ◌≤◌, Bool, true, false, refl, arith, inl, inr, ◌⊎◌}
use Rattle.std.specs.Prelude.{◌==◌, ◌||◌}
use Rattle.contract_words.specs.Grammar.{Rule, nothing, byte, alt, seq, many}
use Rattle.ottl_lex.specs.Codes.{lower, upper, quoted, digits, hex, where_word, not_word, true_word, false_word, nil_word}
use Rattle.ottl_parse.specs.Grammar.{one, optional, comma_list, never, Opens, enclosed, is_literal_word, number_rule, literal_rule, key_rule, path_rule, call_rule, part_rule, primary_rule, product_rule, sum_rule, is_comparison_sign, comparison_rule, not_rule, and_rule, expr_rule, negation_rule, condition_rule, statement_rule}
use Rattle.ottl_parse.specs.Reading.{is_product_sign, is_sum_sign}
use Rattle.statement_laws.proofs.Factored.{opens, closed, signed, literal, further, arguments, named, group, list, pairs, primary, negated, negation, condition, call, statement}
use Rattle.statement_laws.proofs.Growing.{Grows, same, then, both, cases, on-left, on-right, either-way, each-turn, two-kinds, no-texts, nothing-before, nothing-behind, choice-before, regrouped}

two-ways : (a b : Bool) → (a || b) ≡ true → (a ≡ true) ⊎ (b ≡ true)
two-ways true b h = inl refl
two-ways false b h = inr h

-- Literals.
number-grows : Grows number_rule (alt (one digits) (alt (signed 43) (signed 45)))
number-grows =
    let sign : Rule = byte is_sum_sign in
    let both_signs : Rule = alt (signed 43) (signed 45) in
    let parted : Grows sign (alt (one 43) (one 45)) = two-kinds is_sum_sign (λ b. b == 43) (λ b. b == 45) (λ b h. two-ways (b == 43) (b == 45) h) in
    let behind_sign : Grows (seq sign (one digits)) both_signs =
    then (seq sign (one digits)) (seq (alt (one 43) (one 45)) (one digits)) both_signs (both sign (alt (one 43) (one 45)) (one digits) (one digits) parted (same (one digits)))
    (choice-before (one 43) (one 45) (one digits)) in
    then number_rule (alt (seq sign (one digits)) (seq nothing (one digits))) (alt (one digits) both_signs) (choice-before sign nothing (one digits))
    (cases (seq sign (one digits)) (seq nothing (one digits)) (alt (one digits) both_signs) (on-right _ (one digits) both_signs behind_sign) (on-left _ (one digits) both_signs (nothing-before (one digits))))

words : Rule
words = alt (one true_word) (alt (one false_word) (one nil_word))

word-grows : Grows (byte is_literal_word) words
unfolding words
word-grows =
    let last : ℕ → Bool = λ b. b == false_word || b == nil_word in
    then (byte is_literal_word) (alt (one true_word) (byte last)) words
    (two-kinds is_literal_word (λ b. b == true_word) last (λ b h. three (b == true_word) (b == false_word) (b == nil_word) h))
    (either-way (one true_word) (one true_word) (byte last) (alt (one false_word) (one nil_word)) (same (one true_word))
    (two-kinds last (λ b. b == false_word) (λ b. b == nil_word) (λ b h. two-ways (b == false_word) (b == nil_word) h)))
  where
    three : (a b c : Bool) → (a || b || c) ≡ true → (a ≡ true) ⊎ ((b || c) ≡ true)
    three true b c h = inl refl
    three false b c h = inr h

literal-grows : Grows literal_rule literal
unfolding words
literal-grows =
    let tail : Rule = alt (one digits) (alt (signed 43) (alt (signed 45) words)) in
    let number : Grows number_rule tail =
    then number_rule (alt (one digits) (alt (signed 43) (signed 45))) tail number-grows
    (either-way (one digits) (one digits) (alt (signed 43) (signed 45)) (alt (signed 43) (alt (signed 45) words)) (same (one digits))
    (either-way (signed 43) (signed 43) (signed 45) (alt (signed 45) words) (same (signed 43)) (on-left (signed 45) (signed 45) words (same (signed 45))))) in
    let word : Grows (byte is_literal_word) tail =
    on-right (byte is_literal_word) (one digits) (alt (signed 43) (alt (signed 45) words))
    (on-right (byte is_literal_word) (signed 43) (alt (signed 45) words) (on-right (byte is_literal_word) (signed 45) words word-grows)) in
    either-way (one quoted) (one quoted) (alt (one hex) (alt number_rule (byte is_literal_word))) (alt (one hex) tail) (same (one quoted))
    (either-way (one hex) (one hex) (alt number_rule (byte is_literal_word)) tail (same (one hex)) (cases number_rule (byte is_literal_word) tail number word))

-- elements up to a token that closes
closed-grows : (rule rule' : Rule) (close : ℕ) → Grows rule rule' → Grows (seq (comma_list rule) (one close)) (closed rule' close)
closed-grows rule rule' close f =
    let more : Rule = many (seq (one 44) rule) in
    let more' : Rule = many (seq (one 44) rule') in
    let last : Rule = one close in
    let filled : Grows (seq rule (seq more last)) (seq rule' (seq more' last)) =
    both rule rule' (seq more last) (seq more' last) f (both more more' last last (each-turn (seq (one 44) rule) (seq (one 44) rule') (both (one 44) (one 44) rule rule' (same (one 44)) f)) (same last)) in
    then (seq (comma_list rule) last) (alt (seq (seq rule more) last) (seq nothing last)) (closed rule' close) (choice-before (seq rule more) nothing last)
    (cases (seq (seq rule more) last) (seq nothing last) (closed rule' close)
    (on-right _ last (seq rule' (seq more' last)) (then (seq (seq rule more) last) (seq rule (seq more last)) (seq rule' (seq more' last)) (regrouped rule more last) filled))
    (on-left _ last (seq rule' (seq more' last)) (nothing-before last)))

module _ (tokens : Opens) (more : Bool) (opened : (c : ℕ) → Grows (tokens c) (opens more c)) (e e' : Rule) (expr : Grows e e') (o o' : Rule) (operand : Grows o o') where
  enclosed-grows : (c : ℕ) (rule rule' : Rule) (close : ℕ) → Grows rule rule' → Grows (enclosed (tokens c) rule close) (seq (opens more c) (closed rule' close))
  enclosed-grows c rule rule' close f = both (tokens c) (opens more c) (seq (comma_list rule) (one close)) (closed rule' close) (opened c) (closed-grows rule rule' close f)

  key-grows : Grows (key_rule tokens) (key_rule (opens more))
  key-grows = both (tokens 91) (opens more 91) (seq (alt (one quoted) (one digits)) (one 93)) (seq (alt (one quoted) (one digits)) (one 93)) (opened 91) (same (seq (alt (one quoted) (one digits)) (one 93)))

  part-grows : Grows (part_rule e) (part_rule e')
  part-grows = both (one quoted) (one quoted) (seq (one 58) e) (seq (one 58) e') (same (one quoted)) (both (one 58) (one 58) e e' (same (one 58)) expr)

  abbrev Arguments : Rule
  Arguments = arguments more e'

  abbrev Further : Rule
  Further = further more

  abbrev low : Rule
  low = seq (one lower) (alt Arguments Further)

  abbrev up : Rule
  up = seq (one upper) (optional Arguments)

  call-grows : Grows (call_rule tokens e) (named more e')
  call-grows =
      let args : Rule = enclosed (tokens 40) e 41 in
      let behind : Grows args Arguments = enclosed-grows 40 e e' 41 expr in
      then (call_rule tokens e) (alt (seq (one lower) args) (seq (one upper) args)) (named more e') (choice-before (one lower) (one upper) args)
      (either-way (seq (one lower) args) low (seq (one upper) args) up
      (both (one lower) (one lower) args (alt Arguments Further) (same (one lower)) (on-left args Arguments Further behind))
      (both (one upper) (one upper) args (optional Arguments) (same (one upper)) (on-left args Arguments nothing behind)))

  path-grows : Grows (path_rule tokens) (named more e')
  path-grows =
      let names : Rule = many (seq (one 46) (one lower)) in
      let keys : Rule = many (key_rule tokens) in
      let behind : Grows (seq names keys) Further = both names names keys (many (key_rule (opens more))) (same names) (each-turn (key_rule tokens) (key_rule (opens more)) key-grows) in
      on-left (path_rule tokens) low up (both (one lower) (one lower) (seq names keys) (alt Arguments Further) (same (one lower)) (on-right (seq names keys) Arguments Further behind))

  enum-grows : Grows (one upper) (named more e')
  enum-grows = on-right (one upper) low up (nothing-behind (one upper) (optional Arguments) (inr refl))

  abbrev behind-pairs : Rule
  behind-pairs = alt (named more e') literal

  abbrev behind-list : Rule
  behind-list = alt (pairs more e') behind-pairs

  abbrev behind-group : Rule
  behind-group = alt (list more e') behind-list

  named-in : (r : Rule) → Grows r (named more e') → Grows r (primary more e')
  named-in r f = on-right r (group more e') behind-group (on-right r (list more e') behind-list (on-right r (pairs more e') behind-pairs (on-left r (named more e') literal f)))

  primary-grows : Grows (primary_rule tokens e) (primary more e')
  primary-grows =
      let whole : Rule = primary more e' in
      let open_group : Rule = seq (tokens 40) (seq e (one 41)) in
      cases literal_rule _ whole (on-right _ (group more e') behind-group (on-right _ (list more e') behind-list (on-right _ (pairs more e') behind-pairs (on-right _ (named more e') literal literal-grows))))
      (cases (enclosed (tokens 91) e 93) _ whole (on-right _ (group more e') behind-group (on-left _ (list more e') behind-list (enclosed-grows 91 e e' 93 expr)))
      (cases (enclosed (tokens 123) (part_rule e) 125) _ whole (on-right _ (group more e') behind-group (on-right _ (list more e') behind-list (on-left _ (pairs more e') behind-pairs (enclosed-grows 123 (part_rule e) (part_rule e') 125 part-grows))))
      (cases (call_rule tokens e) _ whole (named-in _ call-grows)
      (cases (path_rule tokens) _ whole (named-in _ path-grows)
      (cases (one upper) open_group whole (named-in _ enum-grows)
      (on-left open_group (group more e') behind-group (both (tokens 40) (opens more 40) (seq e (one 41)) (seq e' (one 41)) (opened 40) (both e e' (one 41) (one 41) expr (same (one 41))))))))))

  -- a level of binding
  level-grows : (a a' : Rule) (kind : ℕ → Bool) → Grows a a' → Grows (seq a (many (seq (byte kind) a))) (seq a' (many (seq (byte kind) a')))
  level-grows a a' kind f = both a a' (many (seq (byte kind) a)) (many (seq (byte kind) a')) f (each-turn (seq (byte kind) a) (seq (byte kind) a') (both (byte kind) (byte kind) a a' (same (byte kind)) f))

  comparison-grows : Grows (comparison_rule (primary_rule tokens e)) (comparison_rule (primary more e'))
  comparison-grows =
      let P : Rule = primary_rule tokens e in
      let P' : Rule = primary more e' in
      let S : Rule = sum_rule (product_rule P) in
      let S' : Rule = sum_rule (product_rule P') in
      let sign : Rule = byte is_comparison_sign in
      let sum : Grows S S' = level-grows (product_rule P) (product_rule P') is_sum_sign (level-grows P P' is_product_sign primary-grows) in
      both S S' (optional (seq sign S)) (optional (seq sign S')) sum (either-way (seq sign S) (seq sign S') nothing nothing (both sign sign S S' (same sign) sum) (same nothing))

  pub not-grows : Grows (not_rule tokens o e) (negated more o' e')
  not-grows =
      either-way (seq (tokens not_word) o) (seq (opens more not_word) o') (comparison_rule (primary_rule tokens e)) (comparison_rule (primary more e'))
      (both (tokens not_word) (opens more not_word) o o' (opened not_word) operand) comparison-grows

  pub first-call-grows : Grows (seq (alt (one lower) (one upper)) (enclosed (tokens 40) e 41)) (seq (alt (one lower) (one upper)) (arguments more e'))
  first-call-grows =
      both (alt (one lower) (one upper)) (alt (one lower) (one upper)) (enclosed (tokens 40) e 41) Arguments (same (alt (one lower) (one upper))) (enclosed-grows 40 e e' 41 expr)

exprs-grow : (n n' : Rule) → Grows n n' → Grows (expr_rule n) (expr_rule n')
exprs-grow n n' f = level (and_rule n) (and_rule n') (λ c. c == 8) (level n n' (λ c. c == 7) f) where
  level : (a a' : Rule) (kind : ℕ → Bool) → Grows a a' → Grows (seq a (many (seq (byte kind) a))) (seq a' (many (seq (byte kind) a')))
  level a a' kind f = both a a' (many (seq (byte kind) a)) (many (seq (byte kind) a')) f (each-turn (seq (byte kind) a) (seq (byte kind) a') (both (byte kind) (byte kind) a a' (same (byte kind)) f))

open-one : (c : ℕ) → Grows (one c) (opens true c)
open-one c = nothing-behind (one c) nothing refl

negation-grows : (room depth : ℕ) → room ≤ depth → Grows (negation_rule room) (negation depth)
negation-grows zero zero le = not-grows (λ c. never) false (λ c. no-texts (opens false c)) never never (same never) never never (same never)
negation-grows zero (suc depth) le =
    not-grows (λ c. never) true (λ c. no-texts (opens true c)) never (condition depth) (no-texts (condition depth)) never (negation depth) (no-texts (negation depth))
negation-grows (suc room) zero le = absurd (omega (arith, le))
negation-grows (suc room) (suc depth) le =
    let below : Grows (negation_rule room) (negation depth) = negation-grows room depth (omega (arith, le)) in
    not-grows one true open-one (expr_rule (negation_rule room)) (condition depth) (exprs-grow (negation_rule room) (negation depth) below) (negation_rule room) (negation depth) below

pub condition-grows : (room depth : ℕ) → room ≤ depth → Grows (condition_rule room) (condition depth)
condition-grows room depth le = exprs-grow (negation_rule room) (negation depth) (negation-grows room depth le)

pub statement-grows : (room depth : ℕ) → room ≤ depth → Grows (statement_rule room) (statement depth)
statement-grows room depth le =
    let C : Rule = condition_rule room in
    let C' : Rule = condition depth in
    let D : Rule = seq (one where_word) (condition_rule (suc room)) in
    let D' : Rule = seq (one where_word) (condition (suc depth)) in
    both (call_rule one C) (call C') (optional D) (optional D')
    (first-call-grows one true open-one C C' (condition-grows room depth le) never never (same never))
    (either-way D D' nothing nothing (both (one where_word) (one where_word) (condition_rule (suc room)) (condition (suc depth)) (same (one where_word)) (condition-grows (suc room) (suc depth) (omega (arith, le)))) (same nothing))
