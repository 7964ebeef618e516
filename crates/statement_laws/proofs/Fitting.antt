-- One token always tells how the grammar goes on.
use Rattle.std.proofs.Common.{◌≡◌, ℕ, zero, suc, Bool, true, false, [], ◌∷◌, refl, arith, ◌⊎◌, inl, inr}
use Rattle.std.specs.Prelude.{◌&&◌, ◌||◌, ◌==◌}
use Rattle.std.proofs.lemmas.Bool.Decides.{nat_tests}
use Rattle.contract_words.specs.Grammar.{Rule, nothing, byte, alt, seq, many, nullable, first}
use Rattle.contract_words.specs.Rows.{Apart, fits, fits_row}
use Rattle.ottl_lex.specs.Codes.{lower, upper, quoted, digits, where_word, and_word, or_word, not_word}
use Rattle.ottl_parse.specs.Grammar.{one, optional, never, key_rule, part_rule, product_rule, sum_rule, is_comparison_sign, comparison_rule, and_rule, expr_rule}
use Rattle.ottl_parse.specs.Reading.{is_product_sign, is_sum_sign}
use Rattle.statement_laws.proofs.Factored.{gate, opens, closed, signed, literal, further, arguments, named, group, list, pairs, primary, negated, negation, condition, statement}

untrue : {X : Type 0} → false ≡ true → X
untrue e = absurd cc

not-null : {X : Type 0} (n : Bool) → n ≡ false → n ≡ true → X
not-null n none null = absurd cc

two-ways : (a b : Bool) → (a || b) ≡ true → (a ≡ true) ⊎ (b ≡ true)
two-ways true b h = inl refl
two-ways false b h = inr h

only : (a : Bool) → (a || false) ≡ true → a ≡ true
only true h = refl
only false h = h

-- Before less, a rule fits too.
abbrev Within : (ℕ → Bool) → (ℕ → Bool) → Type 0
Within q p = (b : ℕ) → q b ≡ true → p b ≡ true

or-more : (a p q : Bool) → (q ≡ true → p ≡ true) → (a || q) ≡ true → (a || p) ≡ true
or-more true p q sub h = refl
or-more false p q sub h = sub h

and-more : (n p q : Bool) → (q ≡ true → p ≡ true) → (n && q) ≡ true → (n && p) ≡ true
and-more true p q sub h = sub h
and-more false p q sub h = h

apart-less : (s p q : ℕ → Bool) → Within q p → Apart s p → Apart s q
apart-less s p q sub a b h k = a b h (sub b k)

fits-less : (r : Rule) (p q : ℕ → Bool) → Within q p → fits r p → fits r q
fits-less nothing p q sub f = tt
fits-less (byte k) p q sub f = tt
fits-less (alt l r) p q sub f = (f.0, fits-less l p q sub f.1, fits-less r p q sub f.2)
fits-less (seq l r) p q sub f =
    let more : Within (λ b. first r b || (nullable r && q b)) (λ b. first r b || (nullable r && p b)) =
    λ b h. or-more (first r b) (nullable r && p b) (nullable r && q b) (and-more (nullable r) (p b) (q b) (sub b)) h in (
      fits-less l (λ b. first r b || (nullable r && p b)) (λ b. first r b || (nullable r && q b)) more f.0,
      λ null. apart-less (first l) (λ b. first r b || (nullable r && p b)) (λ b. first r b || (nullable r && q b)) more (f.1 null),
      fits-less r p q sub f.2,
      λ null. apart-less (first r) p q sub (f.3 null),
    )
fits-less (many a) p q sub f = (
  f.0,
  fits-less a (λ b. first a b || p b) (λ b. first a b || q b) (λ b h. or-more (first a b) (p b) (q b) (sub b) h) f.1,
  apart-less (first a) p q sub f.2,
)

-- a token before what isn't empty
byte-seq : (k : ℕ → Bool) (r : Rule) (next : ℕ → Bool) → nullable r ≡ false → fits r next → fits (seq (byte k) r) next
byte-seq k r next none f = (tt, untrue, f, not-null (nullable r) none)

-- a part that may be absent
optional-fits : (r : Rule) (next : ℕ → Bool) → fits r next → fits (optional r) next
optional-fits r next f = ((λ b h e. untrue e), f, tt)

-- What stands behind the parts.
abbrev closing : ℕ → Bool
closing b = (b == 41) || ((b == 93) || ((b == 125) || (b == 44)))

abbrev behind-and : ℕ → Bool
behind-and b = (b == or_word) || closing b

abbrev behind-not : ℕ → Bool
behind-not b = (b == and_word) || behind-and b

abbrev behind-sum : ℕ → Bool
behind-sum b = is_comparison_sign b || behind-not b

abbrev behind-product : ℕ → Bool
behind-product b = is_sum_sign b || behind-sum b

abbrev behind-primary : ℕ → Bool
behind-primary b = is_product_sign b || behind-product b

-- how an expression begins
abbrev opening : ℕ → Bool
opening b =
    (b == not_word) || ((b == 40) || ((b == 91) || ((b == 123) || ((b == lower) || ((b == upper) || ((b == quoted) || ((b == 5)
    || ((b == digits) || ((b == 43) || ((b == 45) || ((b == 10) || ((b == 11) || (b == 12)))))))))))))

-- the token that opens a construct
gate-fits : (more : Bool) (next : ℕ → Bool) → fits (gate more) next
gate-fits true next = tt
gate-fits false next = tt

gate-apart : (more : Bool) (next : ℕ → Bool) → Apart (first (gate more)) next
gate-apart true next b h k = untrue h
gate-apart false next b h k = untrue h

opens-seq : (more : Bool) (c : ℕ) (r : Rule) (next : ℕ → Bool) → nullable r ≡ false → fits r next → fits (seq (opens more c) r) next
opens-seq more c r next none f =
    let before : ℕ → Bool = λ b. first r b || (nullable r && next b) in
    ((tt, untrue, gate-fits more before, (λ null. gate-apart more before)), untrue, f, not-null (nullable r) none)

-- elements up to a token that closes
module _ (rule : Rule) (none : nullable rule ≡ false) (begins : Within (first rule) opening) (fit : fits rule closing)
    (close : ℕ) (closes : (b : ℕ) → (b == close) ≡ true → closing b ≡ true) (comma_close : (b : ℕ) → (b == 44) ≡ true → (b == close) ≡ true → ⊥)
    (next : ℕ → Bool) where
  abbrev comma : Rule
  comma = seq (one 44) rule

  abbrev rest : Rule
  rest = seq (many comma) (one close)

  -- behind an element
  behind-one : (b : ℕ) → (((b == 44) || false) || (b == close)) ≡ true → closing b ≡ true
  behind-one b h = elim (two-ways ((b == 44) || false) (b == close) h) [ inl c ↦ comma-closing b (only (b == 44) c) | inr k ↦ closes b k ] where
    comma-closing : (b : ℕ) → (b == 44) ≡ true → closing b ≡ true
    comma-closing b h = grind (arith, nat_tests)

  first-element : (n f x : Bool) → n ≡ false → (f || (n && x)) ≡ true → f ≡ true
  first-element n true x null h = refl
  first-element true false x null h = absurd (cc)
  first-element false false x null h = h

  close-opening : (b : ℕ) → closing b ≡ true → opening b ≡ true → ⊥
  close-opening b h k = grind (arith, nat_tests)

  comma-fits : (behind : ℕ → Bool) → Within behind closing → fits comma behind
  comma-fits behind sub = byte-seq (λ b. b == 44) rule behind none (fits-less rule closing behind sub fit)

  abbrev last : ℕ → Bool
  last b = (b == close) || (false && next b)

  last-is : (b : ℕ) → last b ≡ true → (b == close) ≡ true
  last-is b h = only (b == close) h

  comma-last : Apart (first comma) last
  comma-last b h k = comma_close b (only (b == 44) h) (last-is b k)

  within-closing : Within (λ b. first comma b || last b) closing
  within-closing b h = behind-one b (join (first comma b) (b == close) h) where
    join : (f k : Bool) → (f || (k || false)) ≡ true → (f || k) ≡ true
    join true k h = refl
    join false k h = only k h

  rest-fits : fits rest next
  rest-fits = ((refl, comma-fits (λ b. first comma b || last b) within-closing, comma-last), (λ null. comma-last), tt, untrue)

  behind-element : Within (λ b. first rest b || (nullable rest && next b)) closing
  behind-element b h = behind-one b (only (first comma b || (b == close)) h)

  closed-fits : fits (closed rule close) next
  closed-fits = (
    (λ b h k. close-opening b (closes b h) (begins b (first-element (nullable rule) (first rule b) (first rest b) none k))),
    tt,
    (fits-less rule closing (λ b. first rest b || (nullable rest && next b)) behind-element fit, not-null (nullable rule) none, rest-fits, untrue),
  )

closed-null : (rule : Rule) (close : ℕ) → nullable rule ≡ false → nullable (closed rule close) ≡ false
closed-null rule close none = rw none refl

-- Literals.
module _ (next : ℕ → Bool) where
  signed-fits : (c : ℕ) → fits (signed c) next
  signed-fits c = byte-seq (λ b. b == c) (one digits) next refl tt

  module _ (b : ℕ) where
    apart-1 : (b == 3) ≡ true → ((b == 5) || ((b == 4) || (((b == 43) || false) || (((b == 45) || false) || ((b == 10) || ((b == 11) || (b == 12))))))) ≡ true → ⊥
    apart-1 h k = grind (arith, nat_tests)

    apart-2 : (b == 5) ≡ true → ((b == 4) || (((b == 43) || false) || (((b == 45) || false) || ((b == 10) || ((b == 11) || (b == 12)))))) ≡ true → ⊥
    apart-2 h k = grind (arith, nat_tests)

    apart-3 : (b == 4) ≡ true → (((b == 43) || false) || (((b == 45) || false) || ((b == 10) || ((b == 11) || (b == 12))))) ≡ true → ⊥
    apart-3 h k = grind (arith, nat_tests)

    apart-4 : ((b == 43) || false) ≡ true → (((b == 45) || false) || ((b == 10) || ((b == 11) || (b == 12)))) ≡ true → ⊥
    apart-4 h k = grind (arith, nat_tests)

    apart-5 : ((b == 45) || false) ≡ true → ((b == 10) || ((b == 11) || (b == 12))) ≡ true → ⊥
    apart-5 h k = grind (arith, nat_tests)

    apart-6 : (b == 10) ≡ true → ((b == 11) || (b == 12)) ≡ true → ⊥
    apart-6 h k = grind (arith, nat_tests)

    apart-7 : (b == 11) ≡ true → (b == 12) ≡ true → ⊥
    apart-7 h k = grind (arith, nat_tests)

  literal-fits : fits literal next
  literal-fits = (apart-1, tt, (apart-2, tt, (apart-3, tt, (apart-4, signed-fits 43, (apart-5, signed-fits 45, (apart-6, tt, (apart-7, tt, tt)))))))

-- What a name begins.
module _ (more : Bool) (expr operand : Rule) (none : nullable expr ≡ false) (begins : Within (first expr) opening) (fit : fits expr closing)
    (operand_none : nullable operand ≡ false) (operand_fit : fits operand behind-not) where
  closes-41 : (b : ℕ) → (b == 41) ≡ true → closing b ≡ true
  closes-41 b h = grind (arith, nat_tests)

  closes-93 : (b : ℕ) → (b == 93) ≡ true → closing b ≡ true
  closes-93 b h = grind (arith, nat_tests)

  closes-125 : (b : ℕ) → (b == 125) ≡ true → closing b ≡ true
  closes-125 b h = grind (arith, nat_tests)

  comma-41 : (b : ℕ) → (b == 44) ≡ true → (b == 41) ≡ true → ⊥
  comma-41 b h k = grind (arith, nat_tests)

  comma-93 : (b : ℕ) → (b == 44) ≡ true → (b == 93) ≡ true → ⊥
  comma-93 b h k = grind (arith, nat_tests)

  comma-125 : (b : ℕ) → (b == 44) ≡ true → (b == 125) ≡ true → ⊥
  comma-125 b h k = grind (arith, nat_tests)

  arguments-fit : (next : ℕ → Bool) → fits (arguments more expr) next
  arguments-fit next = opens-seq more 40 (closed expr 41) next (closed-null expr 41 none) (closed-fits expr none begins fit 41 closes-41 comma-41 next)

  list-fits : (next : ℕ → Bool) → fits (list more expr) next
  list-fits next = opens-seq more 91 (closed expr 93) next (closed-null expr 93 none) (closed-fits expr none begins fit 93 closes-93 comma-93 next)

  part-begins : Within (first (part_rule expr)) opening
  part-begins b h = grind (arith, nat_tests)

  part-fits : fits (part_rule expr) closing
  part-fits = byte-seq (λ b. b == quoted) (seq (one 58) expr) closing refl (byte-seq (λ b. b == 58) expr closing none fit)

  pairs-fit : (next : ℕ → Bool) → fits (pairs more expr) next
  pairs-fit next = opens-seq more 123 (closed (part_rule expr) 125) next refl (closed-fits (part_rule expr) refl part-begins part-fits 125 closes-125 comma-125 next)

  group-fits : (next : ℕ → Bool) → fits (group more expr) next
  group-fits next =
      let paren : Within (λ b. (b == 41) || (false && next b)) closing = λ b h. closes-41 b (only (b == 41) h) in
      opens-seq more 40 (seq expr (one 41)) next (null-group (nullable expr) none)
      (fits-less expr closing (λ b. (b == 41) || (false && next b)) paren fit, not-null (nullable expr) none, tt, untrue)
    where
      null-group : (n : Bool) → n ≡ false → (n && false) ≡ false
      null-group true e = absurd (cc)
      null-group false e = refl

  -- further names, and keys
  abbrev dotted : Rule
  dotted = seq (one 46) (one lower)

  abbrev key : Rule
  key = key_rule (opens more)

  key-fits : (next : ℕ → Bool) → fits key next
  key-fits next = opens-seq more 91 (seq (alt (one quoted) (one digits)) (one 93)) next refl (((λ b h k. text-number b h k), tt, tt), untrue, tt, untrue) where
    text-number : (b : ℕ) → (b == quoted) ≡ true → (b == digits) ≡ true → ⊥
    text-number b h k = grind (arith, nat_tests)

  key-primary : (b : ℕ) → (((b == 91) || false) || false) ≡ true → behind-primary b ≡ true → ⊥
  key-primary b h k = grind (arith, nat_tests)

  dotted-behind : (b : ℕ) → ((b == 46) || false) ≡ true → ((((b == 91) || false) || false) || behind-primary b) ≡ true → ⊥
  dotted-behind b h k = grind (arith, nat_tests)

  further-fits : fits (further more) behind-primary
  further-fits = (
    (refl, byte-seq (λ b. b == 46) (one lower) (λ b. first dotted b || (first (many key) b || (true && behind-primary b))) refl tt, dotted-behind),
    (λ null. dotted-behind),
    (refl, key-fits (λ b. first key b || behind-primary b), key-primary),
    (λ null. key-primary),
  )

  arguments-further : (b : ℕ) → (((b == 40) || false) || false) ≡ true → (((b == 46) || false) || (((b == 91) || false) || false)) ≡ true → ⊥
  arguments-further b h k = grind (arith, nat_tests)

  arguments-behind : (b : ℕ) → ((((b == 40) || false) || false) || false) ≡ true → behind-primary b ≡ true → ⊥
  arguments-behind b h k = grind (arith, nat_tests)

  name-behind : (b : ℕ) → ((((b == 40) || false) || false) || (((b == 46) || false) || (((b == 91) || false) || false))) ≡ true → behind-primary b ≡ true → ⊥
  name-behind b h k = grind (arith, nat_tests)

  lower-upper : (b : ℕ) → ((b == lower) || false) ≡ true → ((b == upper) || false) ≡ true → ⊥
  lower-upper b h k = grind (arith, nat_tests)

  named-fits : fits (named more expr) behind-primary
  named-fits = (
    lower-upper,
    (tt, untrue, (arguments-further, arguments-fit behind-primary, further-fits), (λ null. name-behind)),
    (tt, untrue, optional-fits (arguments more expr) behind-primary (arguments-fit behind-primary), (λ null. arguments-behind)),
  )

  -- What binds tightest.
  module _ (b : ℕ) where
    group-other : (((b == 40) || false) || false) ≡ true → ((((b == 91) || false) || false) || ((((b == 123) || false) || false) || ((((b == lower) || false) || ((b == upper) || false)) || first literal b))) ≡ true → ⊥
    group-other h k = grind (arith, nat_tests)

    list-other : (((b == 91) || false) || false) ≡ true → ((((b == 123) || false) || false) || ((((b == lower) || false) || ((b == upper) || false)) || first literal b)) ≡ true → ⊥
    list-other h k = grind (arith, nat_tests)

    pairs-other : (((b == 123) || false) || false) ≡ true → ((((b == lower) || false) || ((b == upper) || false)) || first literal b) ≡ true → ⊥
    pairs-other h k = grind (arith, nat_tests)

    name-other : (((b == lower) || false) || ((b == upper) || false)) ≡ true → first literal b ≡ true → ⊥
    name-other h k = grind (arith, nat_tests)

  abbrev Primary : Rule
  Primary = primary more expr

  primary-fits : fits Primary behind-primary
  primary-fits = (
    group-other,
    group-fits behind-primary,
    (list-other, list-fits behind-primary, (pairs-other, pairs-fit behind-primary, (name-other, named-fits, literal-fits behind-primary))),
  )

  -- Levels of binding.
  level-fits : (a : Rule) (k next after : ℕ → Bool) → nullable a ≡ false → fits a after → Within k after → Within next after → Apart k next → fits (seq a (many (seq (byte k) a))) next
  level-fits a k next after null f k_after next_after apart =
      let further_one : Within (λ b. (k b || false) || next b) after = λ b h. elim (two-ways (k b || false) (next b) h) [ inl s ↦ k_after b (only (k b) s) | inr n ↦ next_after b n ] in
      let begin_apart : Apart (λ b. k b || false) next = λ b h n. apart b (only (k b) h) n in (
        fits-less a after (λ b. (k b || false) || next b) further_one f,
        not-null (nullable a) null,
        (refl, byte-seq k a (λ b. (k b || false) || next b) null (fits-less a after (λ b. (k b || false) || next b) further_one f), begin_apart),
        (λ null. begin_apart),
      )

  abbrev Product : Rule
  Product = product_rule Primary

  abbrev Sum : Rule
  Sum = sum_rule Product

  product-fits : fits Product behind-product
  product-fits = level-fits Primary is_product_sign behind-product behind-primary refl primary-fits (λ b h. sign-in b h) (λ b h. rest-in b h) (λ b h k. apart b h k) where
    sign-in : (b : ℕ) → is_product_sign b ≡ true → behind-primary b ≡ true
    sign-in b h = grind (arith, nat_tests)

    rest-in : (b : ℕ) → behind-product b ≡ true → behind-primary b ≡ true
    rest-in b h = grind (arith, nat_tests)

    apart : (b : ℕ) → is_product_sign b ≡ true → behind-product b ≡ true → ⊥
    apart b h k = grind (arith, nat_tests)

  sum-fits : fits Sum behind-sum
  sum-fits = level-fits Product is_sum_sign behind-sum behind-product refl product-fits (λ b h. sign-in b h) (λ b h. rest-in b h) (λ b h k. apart b h k) where
    sign-in : (b : ℕ) → is_sum_sign b ≡ true → behind-product b ≡ true
    sign-in b h = grind (arith, nat_tests)

    rest-in : (b : ℕ) → behind-sum b ≡ true → behind-product b ≡ true
    rest-in b h = grind (arith, nat_tests)

    apart : (b : ℕ) → is_sum_sign b ≡ true → behind-sum b ≡ true → ⊥
    apart b h k = grind (arith, nat_tests)

  comparison-fits : fits (comparison_rule Primary) behind-not
  comparison-fits = (
    fits-less Sum behind-sum (λ b. ((is_comparison_sign b || false) || false) || (true && behind-not b)) side-in sum-fits,
    untrue,
    optional-fits (seq (byte is_comparison_sign) Sum) behind-not (byte-seq is_comparison_sign Sum behind-not refl (fits-less Sum behind-sum behind-not not-in sum-fits)),
    (λ null. sign-apart),
  ) where
    side-in : (b : ℕ) → (((is_comparison_sign b || false) || false) || behind-not b) ≡ true → behind-sum b ≡ true
    side-in b h = grind (arith, nat_tests)

    not-in : (b : ℕ) → behind-not b ≡ true → behind-sum b ≡ true
    not-in b h = grind (arith, nat_tests)

    sign-apart : (b : ℕ) → ((is_comparison_sign b || false) || false) ≡ true → behind-not b ≡ true → ⊥
    sign-apart b h k = grind (arith, nat_tests)

  abbrev Not : Rule
  Not = negated more operand expr

  negated-fits : fits Not behind-not
  negated-fits = ((λ b h k. not-other b h k), opens-seq more not_word operand behind-not operand_none operand_fit, comparison-fits) where
    not-other : (b : ℕ) → (((b == not_word) || false) || false) ≡ true → first (comparison_rule Primary) b ≡ true → ⊥
    not-other b h k = grind (arith, nat_tests)

  and-fits : fits (and_rule Not) behind-and
  and-fits = level-fits Not (λ b. b == and_word) behind-and behind-not refl negated-fits (λ b h. sign-in b h) (λ b h. rest-in b h) (λ b h k. apart b h k) where
    sign-in : (b : ℕ) → (b == and_word) ≡ true → behind-not b ≡ true
    sign-in b h = grind (arith, nat_tests)

    rest-in : (b : ℕ) → behind-and b ≡ true → behind-not b ≡ true
    rest-in b h = grind (arith, nat_tests)

    apart : (b : ℕ) → (b == and_word) ≡ true → behind-and b ≡ true → ⊥
    apart b h k = grind (arith, nat_tests)

  expr-fits : fits (expr_rule Not) closing
  expr-fits = level-fits (and_rule Not) (λ b. b == or_word) closing behind-and refl and-fits (λ b h. sign-in b h) (λ b h. rest-in b h) (λ b h k. apart b h k) where
    sign-in : (b : ℕ) → (b == or_word) ≡ true → behind-and b ≡ true
    sign-in b h = grind (arith, nat_tests)

    rest-in : (b : ℕ) → closing b ≡ true → behind-and b ≡ true
    rest-in b h = grind (arith, nat_tests)

    apart : (b : ℕ) → (b == or_word) ≡ true → closing b ≡ true → ⊥
    apart b h k = grind (arith, nat_tests)

  expr-begins : Within (first (expr_rule Not)) opening
  expr-begins b h = grind (arith, nat_tests)

-- where so many constructs may be open
record Fit (room : ℕ) : Type 0 where
  negations : fits (negation room) behind-not
  negations_null : nullable (negation room) ≡ false
  exprs : fits (condition room) closing
  exprs_null : nullable (condition room) ≡ false
  begin : Within (first (condition room)) opening

fit : (room : ℕ) → Fit room
fit zero =
    let nothing_begins : Within (first never) opening = λ b h. untrue h in
    record {
      negations = negated-fits false never never refl nothing_begins tt refl tt;
      negations_null = refl;
      exprs = expr-fits false never never refl nothing_begins tt refl tt;
      exprs_null = refl;
      begin = expr-begins false never never refl nothing_begins tt refl tt;
    }
fit (suc room) =
    let below = fit room in
    record {
      negations = negated-fits true (condition room) (negation room) below.exprs_null below.begin below.exprs below.negations_null below.negations;
      negations_null = refl;
      exprs = expr-fits true (condition room) (negation room) below.exprs_null below.begin below.exprs below.negations_null below.negations;
      exprs_null = refl;
      begin = expr-begins true (condition room) (negation room) below.exprs_null below.begin below.exprs below.negations_null below.negations;
    }

-- Whole conditions and statements.
abbrev nothing-behind : ℕ → Bool
nothing-behind b = false

pub condition-fits : (room : ℕ) → fits_row (condition room ∷ [])
condition-fits room = (fits-less (condition room) closing nothing-behind (λ b h. untrue h) (fit room).exprs, (λ null b h k. untrue k), tt)

pub statement-fits : (room : ℕ) → fits_row (statement room ∷ [])
statement-fits room =
    let inner = fit room in
    let further_one : Rule = seq (one where_word) (condition (suc room)) in
    let all_behind : ℕ → Bool = λ b. first (optional further_one) b || (nullable (optional further_one) && nothing-behind b) in
    let Arguments : Rule = arguments true (condition room) in
    let arguments_null : nullable Arguments ≡ false = refl in (
      (
        (((λ b h k. low-up b h k), tt, tt), untrue, arguments-fit true (condition room) (negation room) inner.exprs_null inner.begin inner.exprs inner.negations_null inner.negations all_behind, untrue),
        untrue,
        optional-fits further_one nothing-behind (byte-seq (λ b. b == where_word) (condition (suc room)) nothing-behind (fit (suc room)).exprs_null
            (fits-less (condition (suc room)) closing nothing-behind (λ b h. untrue h) (fit (suc room)).exprs)),
        (λ null b h k. untrue k),
      ),
      (λ null b h k. untrue k),
      tt,
    )
  where
    low-up : (b : ℕ) → (b == lower) ≡ true → (b == upper) ≡ true → ⊥
    low-up b h k = grind (arith, nat_tests)
