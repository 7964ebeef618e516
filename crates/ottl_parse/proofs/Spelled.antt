-- What is read is spelled so by the grammar.
use Rattle.std.proofs.Common.{◌≡◌, ◌∙◌, ℕ, zero, suc, ◌<◌, Bool, true, false, List, [], ◌∷◌, ◌++◌, length, drop, Option, Some, None, Result, Ok, Err, inl, inr, refl, sym, ap, subst, length-append, take, take_at, ◌+◌, arith, append_assoc, append-nil, cond}
use Rattle.std.specs.Prelude.{◌==◌, ◌||◌}
use Rattle.std.proofs.lemmas.Bool.Decides.{nat_tests}
use Rattle.contract_words.specs.Grammar.{Rule, byte, alt, seq, many, spells, viable}
use Rattle.contract_words.proofs.Viable.{empty_viable, spelled_viable}
use Rattle.std.specs.Str.{is_utf8}
use Rattle.std.proofs.lemmas.List.{drop-drop, length-map}
use Rattle.ottl_lex.specs.Quoted as lex
use Rattle.ottl_lex.specs.declared.fault.SyntaxKind.{SyntaxKind}
use Rattle.ottl_lex.specs.Codes.{code_of, lower, upper, quoted, digits, hex, where_word, and_word, or_word, not_word, true_word, false_word, nil_word, equal, unequal, at_most, at_least}
use Rattle.ottl_lex.specs.Quoted.{◌>>=◌, text_of}
use Rattle.ottl_lex.specs.declared.fault.SyntaxFault.{SyntaxFault}
use Rattle.ottl_lex.specs.declared.token.Token.{Token}
use Rattle.ottl_parse.specs.Place.{Rest, head_of, place_of, head, place, slice, past}
use Rattle.ottl_parse.specs.Reading as reading
use Rattle.ottl_parse.specs.Reading.{Reads, Inside, inside_of, with_front, pieces, make, level, is_product_sign, is_sum_sign}
use Rattle.ottl_parse.specs.Parsing.{max_open, condition, call, statement, at_end, check_condition, check_statement, parsed, statement_of, condition_of}
use Rattle.ottl_parse.specs.Checks.{Checked}
use Rattle.ottl_parse.specs.Grammar.{codes_of, one, optional, comma_list, never, Opens, enclosed, is_literal_word, number_rule, literal_rule, key_rule, path_rule, call_rule, part_rule, primary_rule, product_rule, sum_rule, is_comparison_sign, comparison_rule, not_rule, and_rule, expr_rule, negation_rule, condition_rule, statement_rule, IsBegun, IsAtToken, FaultsAreBehindPrefixes}
use Rattle.ottl_lex.specs.Tokens.{tokens_of}
use Rattle.ottl_lex.specs.declared.fault.SyntaxKind.TheVariants.{BadChar, OpenText, BadEscape, NotUtf8, Fraction, BadNumber, Wide, Unexpected, ConditionWanted, ValueWanted, TooDeep}
use Rattle.ottl_parse.specs.declared.sign.Sign.{Sign}
use Rattle.ottl_parse.specs.declared.sign.Sign.TheVariants.{Equal, Unequal, Less, AtMost, Greater, AtLeast}
use Rattle.ottl_parse.specs.declared.statement.Condition.{Condition}
use Rattle.ottl_parse.specs.declared.statement.Statement.{Statement}
use Rattle.ottl_parse.specs.declared.expr.Expr.{Expr}
use Rattle.ottl_parse.specs.declared.expr.ExprKind.{ExprKind}

abbrev codes : Rest → List ℕ
codes r = codes_of r.text r.left

-- the rule spells the tokens between two places
record Between (rule : Rule) (from to : Rest) : Type 0 where
  word : List ℕ
  whole : codes from ≡ word ++ codes to
  left : to.left ≡ drop (length word) from.left
  text : to.text ≡ from.text
  spelled : spells rule word

-- a fault that reading finds stands at a token
abbrev PlacedBy : SyntaxKind → ℕ → Rest → Type 0
PlacedBy Unexpected at r = at ≡ place r
PlacedBy Wide at r = at ≡ place r
PlacedBy TooDeep at r = at ≡ place r
PlacedBy _ at r = Unit {0}

-- the tokens before the fault are a viable prefix of the rule
record Begun (rule : Rule) (from : Rest) (fault : SyntaxFault) : Type 0 where
  word : List ℕ
  there : Rest
  whole : codes from ≡ word ++ codes there
  left : there.left ≡ drop (length word) from.left
  text : there.text ≡ from.text
  begun : viable rule word
  placed : PlacedBy fault.kind fault.at there

-- what was read is spelled by the rule, or begun up to the fault
abbrev Spells : {A : Type 0} → (A → Rest) → Rule → Rest → Result A SyntaxFault → Type 0
Spells to rule from (Ok x) = Between rule from (to x)
Spells to rule from (Err e) = Begun rule from e

abbrev here : Rest → Rest
here r = r

abbrev behind : {X : Type 0} → X × Rest → Rest
behind p = p.1

-- the next token
first-code : (r : Rest) (c : ℕ) → 0 < c → head r ≡ c → codes r ≡ c ∷ codes (past r)
first-code r c some is = by r.left is where
  by : (ts : List Token) → head_of r.text ts ≡ c → codes_of r.text ts ≡ c ∷ codes_of r.text (drop 1 ts)
  by [] h = absurd (omega (arith, some, h))
  by (t ∷ ts) h = ap (λ (b : ℕ). b ∷ codes_of r.text ts) h

same : (a b : ℕ) → (a == b) ≡ true → a ≡ b
same a b is = grind (arith, nat_tests)

token : (p : ℕ → Bool) (r : Rest) (c : ℕ) → 0 < c → head r ≡ c → p c ≡ true → Between (byte p) r (past r)
token p r c some is passes = record { word = c ∷ []; whole = first-code r c some is; left = refl; text = refl; spelled = (c, passes, refl) }

this-token : (c : ℕ) (r : Rest) → 0 < c → (head r == c) ≡ true → Between (one c) r (past r)
this-token c r some is = token (λ b. b == c) r c some (same (head r) c is) (grind (arith, nat_tests))

-- no token
no-token : (rule : Rule) → spells rule [] → (r : Rest) → Between rule r r
no-token rule is r = record { word = []; whole = refl; left = refl; text = refl; spelled = is }

between-into : (a b : Rule) → ((w : List ℕ) → spells a w → spells b w) → (r s : Rest) → Between a r s → Between b r s
between-into a b more r s h = record { word = h.word; whole = h.whole; left = h.left; text = h.text; spelled = more h.word h.spelled }

-- a fault at the next token
stopped : (rule : Rule) (r : Rest) (kind : SyntaxKind) → PlacedBy kind (place r) r → Begun rule r (record { kind = kind; at = place r })
stopped rule r kind is = record { word = []; there = r; whole = refl; left = refl; text = refl; begun = empty_viable rule; placed = is }

words : (r s t : Rest) (x y : List ℕ) → codes r ≡ x ++ codes s → codes s ≡ y ++ codes t → codes r ≡ (x ++ y) ++ codes t
words r s t x y f g = f ∙ ap (λ (w : List ℕ). x ++ w) g ∙ sym (append_assoc x y (codes t))

lefts : (r s t : Rest) (x y : List ℕ) → s.left ≡ drop (length x) r.left → t.left ≡ drop (length y) s.left → t.left ≡ drop (length (x ++ y)) r.left
lefts r s t x y f g =
    g ∙ ap (drop (length y)) f ∙ drop-drop (length y) (length x) r.left ∙ ap (λ (n : ℕ). drop n r.left) (sym (length-append x y))

then : (a b : Rule) (r s t : Rest) → Between a r s → Between b s t → Between (seq a b) r t
then a b r s t x y = record {
  word = x.word ++ y.word;
  whole = words r s t x.word y.word x.whole y.whole;
  left = lefts r s t x.word y.word x.left y.left;
  text = y.text ∙ x.text;
  spelled = (x.word, y.word, x.spelled, y.spelled, refl);
}

-- a fault behind what is spelled
begun-then : (a b c : Rule) (r s : Rest) (f : SyntaxFault) → ((x y : List ℕ) → spells a x → viable b y → viable c (x ++ y)) → Between a r s → Begun b s f → Begun c r f
begun-then a b c r s f join x y = record {
  word = x.word ++ y.word;
  there = y.there;
  whole = words r s y.there x.word y.word x.whole y.whole;
  left = lefts r s y.there x.word y.word x.left y.left;
  text = y.text ∙ x.text;
  begun = join x.word y.word x.spelled y.begun;
  placed = y.placed;
}

begun-into : (a b : Rule) → ((w : List ℕ) → viable a w → viable b w) → (r : Rest) (f : SyntaxFault) → Begun a r f → Begun b r f
begun-into a b more r f h = record { word = h.word; there = h.there; whole = h.whole; left = h.left; text = h.text; begun = more h.word h.begun; placed = h.placed }

-- what is spelled before what is read
lead : {A : Type 0} (to : A → Rest) (a b : Rule) (r s : Rest) (m : Result A SyntaxFault) → Between a r s → Spells to b s m → Spells to (seq a b) r m
lead to a b r s (Ok x) h k = then a b r s (to x) h k
lead to a b r s (Err e) h k = begun-then a b (seq a b) r s e (λ x y f g. inr (x, y, f, g, refl)) h k

-- one reading after another
bind : {A B : Type 0} (pa : A → Rest) (pb : B → Rest) (a b : Rule) (r : Rest) (m : Result A SyntaxFault) (f : A → Result B SyntaxFault)
    → Spells pa a r m → ((x : A) → Spells pb b (pa x) (f x)) → Spells pb (seq a b) r (m >>= f)
bind pa pb a b r (Err e) f h k = begun-into a (seq a b) (λ w g. inl g) r e h
bind pa pb a b r (Ok x) f h k = lead pb a b r (pa x) (f x) h (k x)

-- and one that takes no token
abbrev Keeps : {A : Type 0} → (A → Rest) → Rest → Result A SyntaxFault → Type 0
Keeps to from (Ok x) = to x ≡ from
Keeps to from (Err e) = PlacedBy e.kind e.at from

stays : {B : Type 0} (pb : B → Rest) (a : Rule) (r s : Rest) (m : Result B SyntaxFault) → Between a r s → Keeps pb s m → Spells pb a r m
stays pb a r s (Ok y) h g = subst (λ (q : Rest). Between a r q) (sym g) h
stays pb a r s (Err e) h g = record { word = h.word; there = s; whole = h.whole; left = h.left; text = h.text; begun = spelled_viable a h.word h.spelled; placed = g }

bind-none : {A B : Type 0} (pa : A → Rest) (pb : B → Rest) (a : Rule) (r : Rest) (m : Result A SyntaxFault) (f : A → Result B SyntaxFault)
    → Spells pa a r m → ((x : A) → Keeps pb (pa x) (f x)) → Spells pb a r (m >>= f)
bind-none pa pb a r (Err e) f h k = h
bind-none pa pb a r (Ok x) f h k = stays pb a r (pa x) (f x) h (k x)

-- of a rule that has more texts and more viable prefixes
into : {A : Type 0} (to : A → Rest) (a b : Rule) → ((w : List ℕ) → spells a w → spells b w) → ((w : List ℕ) → viable a w → viable b w) → (r : Rest) (m : Result A SyntaxFault)
    → Spells to a r m → Spells to b r m
into to a b more begins r (Ok x) h = between-into a b more r (to x) h
into to a b more begins r (Err e) h = begun-into a b begins r e h

-- one way or the other
either : {A : Type 0} (to : A → Rest) (rule : Rule) (r : Rest) (t : Bool) (m n : Result A SyntaxFault) → (t ≡ true → Spells to rule r m) → (t ≡ false → Spells to rule r n)
    → Spells to rule r (cond t m n)
either to rule r true m n h k = h refl
either to rule r false m n h k = k refl

this-spelled : (c : ℕ) (r : Rest) → 0 < c → Spells here (one c) r (reading.this c r)
this-spelled c r some = either here (one c) r (head r == c) _ _ (this-token c r some) (λ is. stopped (one c) r Unexpected refl)

bytes-spelled : (c : ℕ) (r : Rest) → 0 < c → Spells behind (one c) r (reading.bytes_of c r)
bytes-spelled c r some = either behind (one c) r (head r == c) _ _ (this-token c r some) (λ is. stopped (one c) r Unexpected refl)

-- pieces
some-turns : (a : Rule) (r s t : Rest) → Between a r s → Between (many a) s t → Between (many a) r t
some-turns a r s t x y = record {
  word = x.word ++ y.word;
  whole = words r s t x.word y.word x.whole y.whole;
  left = lefts r s t x.word y.word x.left y.left;
  text = y.text ∙ x.text;
  spelled = (suc y.spelled.0, (x.word, y.word, x.spelled, y.spelled.1, refl));
}

no-turns : (a : Rule) (r : Rest) → Between (many a) r r
no-turns a r = no-token (many a) (0, refl) r

one-turn-more : (a : Rule) (x y : List ℕ) → spells a x → viable (many a) y → viable (many a) (x ++ y)
one-turn-more a x y f g =
    (suc g.0, x ++ g.1, g.2, (x, g.1, f, g.3, refl), g.4, ap (λ (w : List ℕ). x ++ w) g.5 ∙ sym (append_assoc x g.1 g.2))

further : {X : Type 0} (x : X) (rule : Rule) (r s : Rest) (m : Reads (List X)) → Between rule r s → Spells behind (many rule) s m → Spells behind (many rule) r (with_front (x ∷ []) m)
further x rule r s (Err e) h g = begun-then rule (many rule) (many rule) r s e (one-turn-more rule) h g
further x rule r s (Ok q) h g = some-turns rule r s q.1 h g

turn : {X : Type 0} (rule : Rule) (r : Rest) (m : Reads X) (more : Rest → Reads (List X)) → Spells behind rule r m → ((s : Rest) → Spells behind (many rule) s (more s))
    → Spells behind (many rule) r (m >>= λ p. with_front (p.0 ∷ []) (more p.1))
turn rule r (Err e) more h k = begun-into rule (many rule) (λ w g. (0, [], w, refl, g, refl)) r e h
turn rule r (Ok p) more h k = further p.0 rule r p.1 (more p.1) h (k p.1)

module _ {X : Type 0} (begins : ℕ → Bool) (read : Rest → Reads X) (rule : Rule) (each : (r : Rest) → begins (head r) ≡ true → Spells behind rule r (read r)) where
  pieces-spelled : (n : ℕ) (r : Rest) → Spells behind (many rule) r (pieces begins read n r)
  unfolding pieces
  pieces-spelled zero r = no-turns rule r
  pieces-spelled (suc n) r = either behind (many rule) r (begins (head r)) _ _ (λ is. turn rule r (read r) (pieces begins read n) (each r is) (λ s. pieces-spelled n s)) (λ is. no-turns rule r)

front-spelled : {X : Type 0} (front : List X) (rule : Rule) (r : Rest) (m : Reads (List X)) → Spells behind rule r m → Spells behind rule r (with_front front m)
front-spelled front rule r (Ok p) h = h
front-spelled front rule r (Err e) h = h

make-spelled : {X : Type 0} (kind : X → ExprKind) (rule : Rule) (start r : Rest) (m : Reads X) → Spells behind rule r m → Spells behind rule r (make start kind m)
make-spelled kind rule start r (Ok p) h = h
make-spelled kind rule start r (Err e) h = h

grouped : (a b c : Rule) (w : List ℕ) → spells (seq (seq a b) c) w → spells (seq a (seq b c)) w
grouped a b c w h =
    let s = h.2 in
    (s.0, s.1 ++ h.1, s.2, (s.1, h.1, s.3, h.3, refl), h.4 ∙ (ap (λ (t : List ℕ). t ++ h.1) s.4 ∙ append_assoc s.0 s.1 h.1))

regrouped : (a b c : Rule) (w : List ℕ) → spells (seq a (seq b c)) w → spells (seq (seq a b) c) w
regrouped a b c w h =
    let s = h.3 in
    (h.0 ++ s.0, s.1, (h.0, s.0, h.2, s.2, refl), s.3, h.4 ∙ (ap (λ (t : List ℕ). h.0 ++ t) s.4 ∙ sym (append_assoc h.0 s.0 s.1)))

grouped-begun : (a b c : Rule) (w : List ℕ) → viable (seq (seq a b) c) w → viable (seq a (seq b c)) w
grouped-begun a b c w (inl (inl h)) = inl h
grouped-begun a b c w (inl (inr h)) = inr (h.0, h.1, h.2, inl h.3, h.4)
grouped-begun a b c w (inr h) =
    let s = h.2 in
    inr (s.0, s.1 ++ h.1, s.2, inr (s.1, h.1, s.3, h.3, refl), h.4 ∙ (ap (λ (t : List ℕ). t ++ h.1) s.4 ∙ append_assoc s.0 s.1 h.1))

regrouped-begun : (a b c : Rule) (w : List ℕ) → viable (seq a (seq b c)) w → viable (seq (seq a b) c) w
regrouped-begun a b c w (inl h) = inl (inl h)
regrouped-begun a b c w (inr h) = elim h.3 [
  | inl k ↦ inl (inr (h.0, h.1, h.2, k, h.4))
  | inr k ↦ inr (h.0 ++ k.0, k.1, (h.0, k.0, h.2, k.2, refl), k.3, h.4 ∙ (ap (λ (t : List ℕ). h.0 ++ t) k.4 ∙ sym (append_assoc h.0 k.0 k.1)))
]

-- The contents of a text have no fault that the grammar has.
abbrev Foreign : {X : Type 0} → Result X SyntaxFault → Type 0
Foreign (Ok x) = Unit {0}
Foreign (Err e) = (r : Rest) → PlacedBy e.kind e.at r

kept : {X Y : Type 0} (m : Result X SyntaxFault) (g : X → Y) (q : Rest) → Foreign m → Keeps behind q (m >>= λ x. Ok (g x, q))
kept (Ok x) g q h = refl
kept (Err e) g q h = h q

foreign-front : (front : List ℕ) (m : Result (List ℕ) SyntaxFault) → Foreign m → Foreign (lex.with_front front m)
foreign-front front (Ok x) h = tt
foreign-front front (Err e) h = h

foreign-escape : (at : ℕ) (o : Option lex.Escape) (f : ℕ → Result (List ℕ) SyntaxFault) → ((n : ℕ) → Foreign (f n)) → Foreign (lex.escaped at o f)
foreign-escape at None f h = λ r. tt
foreign-escape at (Some e) f h = foreign-front e.0 (f e.1) (h e.1)

foreign-cond : {X : Type 0} (t : Bool) (m n : Result X SyntaxFault) → Foreign m → Foreign n → Foreign (cond t m n)
foreign-cond true m n h k = h
foreign-cond false m n h k = k

foreign-unescaped : (bytes : List ℕ) (passed at : ℕ) → Foreign (lex.unescaped passed at bytes)
foreign-unescaped [] passed at = tt
foreign-unescaped (b ∷ rest) (suc n) at = foreign-unescaped rest n (at + 1)
foreign-unescaped (b ∷ rest) zero at =
    foreign-cond (b == 92) _ _ (foreign-escape at (lex.escape_at rest) (λ n. lex.unescaped n (at + 1) rest) (λ n. foreign-unescaped rest n (at + 1)))
    (foreign-front (b ∷ []) (lex.unescaped 0 (at + 1) rest) (foreign-unescaped rest 0 (at + 1)))

foreign-utf8 : (at : ℕ) (m : Result (List ℕ) SyntaxFault) → Foreign m → Foreign (m >>= lex.as_utf8 at)
foreign-utf8 at (Ok bytes) h = foreign-cond (is_utf8 bytes) _ _ tt (λ r. tt)
foreign-utf8 at (Err e) h = h

foreign-text : (at : ℕ) (slice : List ℕ) → Foreign (text_of at slice)
unfolding text_of
foreign-text at slice = foreign-utf8 at (lex.unescaped 0 (at + 1) (lex.between_quotes slice)) (foreign-unescaped (lex.between_quotes slice) 0 (at + 1))

-- What has no expressions inside.
text-spelled : (r : Rest) → Spells behind (one quoted) r (reading.text r)
unfolding reading.text
text-spelled r = bind-none behind behind (one quoted) r _ _ (bytes-spelled quoted r (omega arith)) (λ p. kept (text_of (place r) p.0) (λ t. t) p.1 (foreign-text (place r) p.0))

wide-spelled : {X : Type 0} (o : Option X) (r : Rest) → (head r == digits) ≡ true → Spells behind (one digits) r (reading.or_wide o r)
wide-spelled None r is = stopped (one digits) r Wide refl
wide-spelled (Some x) r is = this-token digits r (omega arith) is

number-spelled : (minus : Bool) (r : Rest) → Spells behind (one digits) r (reading.number minus r)
unfolding reading.number
number-spelled minus r = either behind (one digits) r (head r == digits) _ _ (wide-spelled _ r) (λ is. stopped (one digits) r Unexpected refl)

small-spelled : (t : Bool) (n : ℕ) (r : Rest) → (head r == digits) ≡ true → Spells {A = ℕ × Rest} behind (one digits) r (cond t (Ok (n, past r)) (reading.stops Wide r))
small-spelled true n r is = this-token digits r (omega arith) is
small-spelled false n r is = stopped (one digits) r Wide refl

index-spelled : (r : Rest) → Spells behind (one digits) r (reading.index r)
unfolding reading.index
index-spelled r = either behind (one digits) r (head r == digits) _ _ (λ is. small-spelled _ _ r is) (λ is. stopped (one digits) r Unexpected refl)

integer-spelled : (minus : Bool) (r : Rest) → Spells behind (one digits) r (reading.integer minus r)
integer-spelled minus r = bind-none behind behind (one digits) r _ _ (number-spelled minus r) (λ n. refl)

-- a sign, or none, before the digits
signed-spelled : (minus : Bool) (r : Rest) (c : ℕ) → is_sum_sign c ≡ true → 0 < c → (head r == c) ≡ true → Spells behind literal_rule r (reading.integer minus (past r))
signed-spelled minus r c sign some is =
    let first : Between (byte is_sum_sign) r (past r) = token is_sum_sign r c some (same (head r) c is) sign in
    let optional_first : Between (optional (byte is_sum_sign)) r (past r) = between-into (byte is_sum_sign) (optional (byte is_sum_sign)) (λ w h. inl h) r (past r) first in
    into behind number_rule literal_rule (λ w h. inr (inr (inl h))) (λ w h. inr (inr (inl h))) r _
    (lead behind (optional (byte is_sum_sign)) (one digits) r (past r) _ optional_first (integer-spelled minus (past r)))

no-sign : (r : Rest) → Between (optional (byte is_sum_sign)) r r
no-sign r = no-token (optional (byte is_sum_sign)) (inr refl) r

word-spelled : (r : Rest) (c : ℕ) → 0 < c → is_literal_word c ≡ true → (head r == c) ≡ true → Between literal_rule r (past r)
word-spelled r c some word is =
    let t : Between (byte is_literal_word) r (past r) = token is_literal_word r c some (same (head r) c is) word in
    between-into (byte is_literal_word) literal_rule (λ w h. inr (inr (inr h))) r (past r) t

literal-spelled : (r : Rest) → Spells behind literal_rule r (reading.literal r)
unfolding reading.literal
literal-spelled r =
    either behind literal_rule r (head r == quoted) _ _ (λ is. into behind (one quoted) literal_rule (λ w h. inl h) (λ w h. inl h) r _ (bind-none behind behind (one quoted) r _ _ (text-spelled r) (λ t. refl))) (λ _.
    either behind literal_rule r (head r == hex) _ _ (λ is. between-into (one hex) literal_rule (λ w h. inr (inl h)) r (past r) (this-token hex r (omega arith) is)) (λ _.
    either behind literal_rule r (head r == digits) _ _ (λ is. into behind number_rule literal_rule (λ w h. inr (inr (inl h))) (λ w h. inr (inr (inl h))) r _ (lead behind (optional (byte is_sum_sign)) (one digits) r r _ (no-sign r) (integer-spelled false r))) (λ _.
    either behind literal_rule r (head r == 43) _ _ (signed-spelled false r 43 refl (omega arith)) (λ _.
    either behind literal_rule r (head r == 45) _ _ (signed-spelled true r 45 refl (omega arith)) (λ _.
    either behind literal_rule r (head r == true_word) _ _ (word-spelled r true_word (omega arith) refl) (λ _.
    either behind literal_rule r (head r == false_word) _ _ (word-spelled r false_word (omega arith) refl) (λ _.
    either behind literal_rule r (head r == nil_word) _ _ (word-spelled r nil_word (omega arith) refl) (λ _. stopped literal_rule r Unexpected refl))))))))

-- With constructs.
module _ (inside : Inside) (opens : Opens) (expr operand : Rule) (opening : (c : ℕ) (r : Rest) → 0 < c → head r ≡ c → Spells here (opens c) r (inside.opening r))
    (exprs : (r : Rest) → Spells behind expr r (inside.expr r)) (operands : (r : Rest) → Spells behind operand r (inside.operand r)) where
  opened : (c : ℕ) (r : Rest) → 0 < c → (head r == c) ≡ true → Spells here (opens c) r (inside.opening r)
  opened c r some is = opening c r some (same (head r) c is)

  inside-key : (r : Rest) → Spells behind (alt (one quoted) (one digits)) r (reading.key_inside r)
  inside-key r = either behind _ r (head r == quoted) _ _
      (λ is. into behind (one quoted) (alt (one quoted) (one digits)) (λ w h. inl h) (λ w h. inl h) r _ (bind-none behind behind (one quoted) r _ _ (text-spelled r) (λ t. refl)))
      (λ is. into behind (one digits) (alt (one quoted) (one digits)) (λ w h. inr h) (λ w h. inr h) r _ (bind-none behind behind (one digits) r _ _ (index-spelled r) (λ n. refl)))

  key-spelled : (r : Rest) → (head r == 91) ≡ true → Spells behind (key_rule opens) r (reading.key inside r)
  unfolding reading.key
  key-spelled r is =
      into behind (seq (seq (opens 91) (alt (one quoted) (one digits))) (one 93)) (key_rule opens) (grouped (opens 91) (alt (one quoted) (one digits)) (one 93)) (grouped-begun (opens 91) (alt (one quoted) (one digits)) (one 93)) r _
      (bind behind behind (seq (opens 91) (alt (one quoted) (one digits))) (one 93) r _ _
      (bind here behind (opens 91) (alt (one quoted) (one digits)) r _ _ (opened 91 r (omega arith) is) inside-key)
      (λ k. bind-none here behind (one 93) k.1 _ _ (this-spelled 93 k.1 (omega arith)) (λ e. refl)))

  further-name : (r : Rest) → (head r == 46) ≡ true → Spells behind (seq (one 46) (one lower)) r (reading.further_name r)
  further-name r is = lead behind (one 46) (one lower) r (past r) _ (this-token 46 r (omega arith) is) (bytes-spelled lower (past r) (omega arith))

  path-spelled : (name : List ℕ) (r : Rest) → Spells behind (seq (many (seq (one 46) (one lower))) (many (key_rule opens))) r (reading.path_behind inside name r)
  unfolding reading.path_behind
  path-spelled name r = bind behind behind (many (seq (one 46) (one lower))) (many (key_rule opens)) r _ _
      (front-spelled (name ∷ []) (many (seq (one 46) (one lower))) r _ (pieces-spelled (λ c. c == 46) reading.further_name (seq (one 46) (one lower)) further-name (length r.left) r))
      (λ ns. bind-none behind behind (many (key_rule opens)) ns.1 _ _ (pieces-spelled (λ c. c == 91) (reading.key inside) (key_rule opens) key-spelled (length ns.1.left) ns.1) (λ ks. refl))

  module _ {X : Type 0} (read : Rest → Reads X) (rule : Rule) (each : (r : Rest) → Spells behind rule r (read r)) (close : ℕ) (some : 0 < close) where
    comma-spelled : (r : Rest) → (head r == 44) ≡ true → Spells behind (seq (one 44) rule) r (read (past r))
    comma-spelled r is = lead behind (one 44) rule r (past r) _ (this-token 44 r (omega arith) is) (each (past r))

    listed-begun : {w : List ℕ} → viable (seq (seq rule (many (seq (one 44) rule))) (one close)) w → viable (seq (comma_list rule) (one close)) w
    listed-begun (inl h) = inl (inl h)
    listed-begun (inr h) = inr (h.0, h.1, inl h.2, h.3, h.4)

    elements-spelled : (r : Rest) → Spells behind (seq (comma_list rule) (one close)) r (reading.elements read close r)
    elements-spelled r =
        let more : Rule = many (seq (one 44) rule) in
        into behind (seq rule (seq more (one close))) (seq (comma_list rule) (one close)) (λ w h. let g = regrouped rule more (one close) w h in (g.0, g.1, inl g.2, g.3, g.4)) (λ w h. listed-begun (regrouped-begun rule more (one close) w h)) r _
        (bind behind behind rule (seq more (one close)) r _ _ (each r)
        (λ p. bind behind behind more (one close) p.1 _ _
        (front-spelled (p.0 ∷ []) more p.1 _ (pieces-spelled (λ c. c == 44) (λ q. read (past q)) (seq (one 44) rule) comma-spelled (length p.1.left) p.1))
        (λ all. bind-none here behind (one close) all.1 _ _ (this-spelled close all.1 some) (λ e. refl))))

    sequence-spelled : (r : Rest) → Spells behind (seq (comma_list rule) (one close)) r (reading.sequence read close r)
    unfolding reading.sequence
    sequence-spelled r = either behind _ r (head r == close) _ _
        (λ is. let nothing_inside : Between (comma_list rule) r r = no-token (comma_list rule) (inr refl) r in then (comma_list rule) (one close) r r (past r) nothing_inside (this-token close r some is))
        (λ is. elements-spelled r)

    within-spelled : (c : ℕ) (r : Rest) → 0 < c → (head r == c) ≡ true → Spells behind (enclosed (opens c) rule close) r (reading.within inside read close r)
    within-spelled c r first is = bind here behind (opens c) (seq (comma_list rule) (one close)) r _ _ (opened c r first is) sequence-spelled

  part-spelled : (r : Rest) → Spells behind (part_rule expr) r (reading.part inside.expr r)
  unfolding reading.part
  part-spelled r = bind behind behind (one quoted) (seq (one 58) expr) r _ _ (text-spelled r)
      (λ k. bind-none behind behind (seq (one 58) expr) k.1 _ _ (bind here behind (one 58) expr k.1 _ _ (this-spelled 58 k.1 (omega arith)) exprs) (λ v. refl))

  call-spelled : (at : ℕ) (name : List ℕ) (r : Rest) → (head r == 40) ≡ true → Spells behind (enclosed (opens 40) expr 41) r (reading.call_behind inside at name r)
  call-spelled at name r is = bind-none behind behind (enclosed (opens 40) expr 41) r _ _ (within-spelled inside.expr expr exprs 41 (omega arith) 40 r (omega arith) is) (λ p. refl)

  -- a name and what follows it
  name-token : (r : Rest) → ((head r == lower) ≡ true → ⊥) → (head r == lower || head r == upper) ≡ true → (head r == upper) ≡ true
  name-token r other is = by (head r == lower) (head r == upper) other is where
    by : (a b : Bool) → (a ≡ true → ⊥) → (a || b) ≡ true → b ≡ true
    by true b never_so h = absurd (never_so refl)
    by false b never_so h = h

  call-name : (r : Rest) → (head r == lower || head r == upper) ≡ true → Between (alt (one lower) (one upper)) r (past r)
  call-name r is = by (head r == lower) refl where
    by : (t : Bool) → (head r == lower) ≡ t → Between (alt (one lower) (one upper)) r (past r)
    by true low = between-into (one lower) (alt (one lower) (one upper)) (λ w h. inl h) r (past r) (this-token lower r (omega arith) low)
    by false low =
        let up = name-token r (λ h. absurd (let e = sym low ∙ h in cc)) is in
        between-into (one upper) (alt (one lower) (one upper)) (λ w h. inr h) r (past r) (this-token upper r (omega arith) up)

  named-spelled : (r : Rest) → (head r == lower || head r == upper) ≡ true → Spells behind (primary_rule opens expr) r (reading.named inside r)
  unfolding reading.named
  named-spelled r is = either behind _ r (head (past r) == 40) _ _
      (λ call. into behind (call_rule opens expr) (primary_rule opens expr) (λ w h. inr (inr (inr (inl h)))) (λ w h. inr (inr (inr (inl h)))) r _
      (lead behind (alt (one lower) (one upper)) (enclosed (opens 40) expr 41) r (past r) _ (call-name r is) (bind-none behind behind (enclosed (opens 40) expr 41) (past r) _ _ (call-spelled (place r) (slice r) (past r) call) (λ c. refl))))
      (λ other. either behind _ r (head r == lower) _ _
      (λ low. into behind (path_rule opens) (primary_rule opens expr) (λ w h. inr (inr (inr (inr (inl h))))) (λ w h. inr (inr (inr (inr (inl h))))) r _
      (lead behind (one lower) (seq (many (seq (one 46) (one lower))) (many (key_rule opens))) r (past r) _ (this-token lower r (omega arith) low)
      (bind-none behind behind (seq (many (seq (one 46) (one lower))) (many (key_rule opens))) (past r) _ _ (path-spelled (slice r) (past r)) (λ p. refl))))
      (λ low.
      let up = name-token r (λ h. absurd (let e = sym low ∙ h in cc)) is in
      between-into (one upper) (primary_rule opens expr) (λ w h. inr (inr (inr (inr (inr (inl h)))))) r (past r) (this-token upper r (omega arith) up)))

  group-spelled : (r : Rest) → (head r == 40) ≡ true → Spells behind (seq (opens 40) (seq expr (one 41))) r (reading.group inside r)
  group-spelled r is =
      into behind (seq (seq (opens 40) expr) (one 41)) (seq (opens 40) (seq expr (one 41))) (grouped (opens 40) expr (one 41)) (grouped-begun (opens 40) expr (one 41)) r _
      (bind behind behind (seq (opens 40) expr) (one 41) r _ _ (bind here behind (opens 40) expr r _ _ (opened 40 r (omega arith) is) exprs)
      (λ p. bind-none here behind (one 41) p.1 _ _ (this-spelled 41 p.1 (omega arith)) (λ e. refl)))

  primary-spelled : (r : Rest) → Spells behind (primary_rule opens expr) r (reading.primary inside r)
  unfolding reading.primary
  primary-spelled r =
      either behind _ r (head r == 40) _ _ (λ is. into behind (seq (opens 40) (seq expr (one 41))) (primary_rule opens expr) (λ w h. inr (inr (inr (inr (inr (inr h)))))) (λ w h. inr (inr (inr (inr (inr (inr h)))))) r _ (group-spelled r is)) (λ _.
      either behind _ r (head r == 91) _ _ (λ is. make-spelled _ _ r r _ (into behind (enclosed (opens 91) expr 93) (primary_rule opens expr) (λ w h. inr (inl h)) (λ w h. inr (inl h)) r _ (within-spelled inside.expr expr exprs 93 (omega arith) 91 r (omega arith) is))) (λ _.
      either behind _ r (head r == 123) _ _ (λ is. make-spelled _ _ r r _ (into behind (enclosed (opens 123) (part_rule expr) 125) (primary_rule opens expr) (λ w h. inr (inr (inl h))) (λ w h. inr (inr (inl h))) r _ (within-spelled (reading.part inside.expr) (part_rule expr) part-spelled 125 (omega arith) 123 r (omega arith) is))) (λ _.
      either behind _ r (head r == lower || head r == upper) _ _ (λ is. make-spelled _ _ r r _ (named-spelled r is)) (λ _.
      make-spelled _ _ r r _ (into behind literal_rule (primary_rule opens expr) (λ w h. inl h) (λ w h. inl h) r _ (literal-spelled r))))))

  -- a level of binding
  level-spelled : {X : Type 0} (first : Expr → X) (kind : List X → ExprKind) (begins : ℕ → Bool) (read : Rest → Reads Expr) (more : Rest → Reads X) (a b : Rule)
      → ((r : Rest) → Spells behind a r (read r)) → ((r : Rest) → begins (head r) ≡ true → Spells behind b r (more r))
      → (r : Rest) → Spells behind (seq a (many b)) r (level first kind begins read more r)
  level-spelled first kind begins read more a b each further r = bind behind behind a (many b) r _ _ (each r)
      (λ p. either behind (many b) p.1 (begins (head p.1)) _ _
      (λ is. make-spelled kind (many b) r p.1 _ (front-spelled (first p.0 ∷ []) (many b) p.1 _ (pieces-spelled begins more b further (length p.1.left) p.1)))
      (λ is. no-turns b p.1))

  sign-token : (p : ℕ → Bool) (r : Rest) → p (head r) ≡ true → 0 < head r → Between (byte p) r (past r)
  sign-token p r is some = token p r (head r) some refl is

  product-some : (c : ℕ) → is_product_sign c ≡ true → 0 < c
  product-some c is = grind (arith, nat_tests)

  sum-some : (c : ℕ) → is_sum_sign c ≡ true → 0 < c
  sum-some c is = grind (arith, nat_tests)

  comparison-some : (c : ℕ) → is_comparison_sign c ≡ true → 0 < c
  comparison-some c is = grind (arith, nat_tests)

  abbrev Primary : Rule
  Primary = primary_rule opens expr

  product-spelled : (r : Rest) → Spells behind (product_rule Primary) r (reading.product inside r)
  unfolding reading.product
  product-spelled r = level-spelled _ _ is_product_sign (reading.primary inside) _ Primary (seq (byte is_product_sign) Primary) primary-spelled
      (λ q is. lead behind (byte is_product_sign) Primary q (past q) _ (sign-token is_product_sign q is (product-some (head q) is)) (bind-none behind behind Primary (past q) _ _ (primary-spelled (past q)) (λ p. refl))) r

  abbrev Product : Rule
  Product = product_rule Primary

  sum-spelled : (r : Rest) → Spells behind (sum_rule Product) r (reading.sum inside r)
  unfolding reading.sum
  sum-spelled r = level-spelled _ _ is_sum_sign (reading.product inside) _ Product (seq (byte is_sum_sign) Product) product-spelled
      (λ q is. lead behind (byte is_sum_sign) Product q (past q) _ (sign-token is_sum_sign q is (sum-some (head q) is)) (bind-none behind behind Product (past q) _ _ (product-spelled (past q)) (λ p. refl))) r

  -- a sign of a comparison is one
  some-sign : (a b c d e f : Bool) (s : Sign) → cond a (Some Equal) (cond b (Some Unequal) (cond c (Some Less) (cond d (Some AtMost) (cond e (Some Greater) (cond f (Some AtLeast) None))))) ≡ Some s
      → (a || b || c || d || e || f) ≡ true
  some-sign true b c d e f s is = refl
  some-sign false true c d e f s is = refl
  some-sign false false true d e f s is = refl
  some-sign false false false true e f s is = refl
  some-sign false false false false true f s is = refl
  some-sign false false false false false true s is = refl
  some-sign false false false false false false s is = absurd (cc)

  abbrev Sum : Rule
  Sum = sum_rule Product

  compared-spelled : (start : Rest) (left : Expr) (o : Option Sign) (q : Rest) → reading.comparison_sign (head q) ≡ o
      → Spells behind (optional (seq (byte is_comparison_sign) Sum)) q (reading.compared start left (reading.sum inside) o q)
  compared-spelled start left None q is = no-token (optional (seq (byte is_comparison_sign) Sum)) (inr refl) q
  compared-spelled start left (Some sign) q is =
      let sign_is : is_comparison_sign (head q) ≡ true = some-sign (head q == equal) (head q == unequal) (head q == 60) (head q == at_most) (head q == 62) (head q == at_least) sign is in
      make-spelled _ (optional (seq (byte is_comparison_sign) Sum)) start q _
      (into behind (seq (byte is_comparison_sign) Sum) (optional (seq (byte is_comparison_sign) Sum)) (λ w h. inl h) (λ w h. inl h) q _
      (lead behind (byte is_comparison_sign) Sum q (past q) _ (sign-token is_comparison_sign q sign_is (comparison-some (head q) sign_is)) (sum-spelled (past q))))

  comparison-spelled : (r : Rest) → Spells behind (comparison_rule Primary) r (reading.comparison inside r)
  unfolding reading.comparison
  comparison-spelled r = bind behind behind Sum (optional (seq (byte is_comparison_sign) Sum)) r _ _ (sum-spelled r) (λ p. compared-spelled r p.0 (reading.comparison_sign (head p.1)) p.1 refl)

  negation-spelled : (r : Rest) → Spells behind (not_rule opens operand expr) r (reading.negation inside r)
  unfolding reading.negation
  negation-spelled r = either behind _ r (head r == not_word) _ _
      (λ is. make-spelled _ _ r r _ (into behind (seq (opens not_word) operand) (not_rule opens operand expr) (λ w h. inl h) (λ w h. inl h) r _ (bind here behind (opens not_word) operand r _ _ (opened not_word r (omega arith) is) operands)))
      (λ is. into behind (comparison_rule Primary) (not_rule opens operand expr) (λ w h. inr h) (λ w h. inr h) r _ (comparison-spelled r))

  abbrev Not : Rule
  Not = not_rule opens operand expr

  conjunction-spelled : (r : Rest) → Spells behind (and_rule Not) r (reading.conjunction inside r)
  unfolding reading.conjunction
  conjunction-spelled r = level-spelled _ _ (λ c. c == and_word) (reading.negation inside) _ Not (seq (one and_word) Not) negation-spelled
      (λ q is. lead behind (one and_word) Not q (past q) _ (this-token and_word q (omega arith) is) (negation-spelled (past q))) r

  disjunction-spelled : (r : Rest) → Spells behind (expr_rule Not) r (reading.disjunction inside r)
  unfolding reading.disjunction
  disjunction-spelled r = level-spelled _ _ (λ c. c == or_word) (reading.conjunction inside) _ (and_rule Not) (seq (one or_word) (and_rule Not)) conjunction-spelled
      (λ q is. lead behind (one or_word) (and_rule Not) q (past q) _ (this-token or_word q (omega arith) is) (conjunction-spelled (past q))) r

-- where so many more constructs may be open
record Sound (room : ℕ) : Type 0 where
  negations : (r : Rest) → Spells behind (negation_rule room) r (reading.negation (inside_of room) r)
  exprs : (r : Rest) → Spells behind (expr_rule (negation_rule room)) r (reading.disjunction (inside_of room) r)

sound : (room : ℕ) → Sound room
sound zero = record {
  negations = negation-spelled (inside_of zero) (λ c. never) never never (λ c r some is. stopped never r TooDeep refl) (λ r. stopped never r TooDeep refl) (λ r. stopped never r TooDeep refl);
  exprs = disjunction-spelled (inside_of zero) (λ c. never) never never (λ c r some is. stopped never r TooDeep refl) (λ r. stopped never r TooDeep refl) (λ r. stopped never r TooDeep refl);
}
sound (suc room) =
    let below = sound room in
    let opening : (c : ℕ) (r : Rest) → 0 < c → head r ≡ c → Spells here (one c) r (Ok (past r)) = λ c r some is. this-token c r some (grind (arith, nat_tests)) in
    record {
      negations = negation-spelled (inside_of (suc room)) one (expr_rule (negation_rule room)) (negation_rule room) opening below.exprs below.negations;
      exprs = disjunction-spelled (inside_of (suc room)) one (expr_rule (negation_rule room)) (negation_rule room) opening below.exprs below.negations;
    }

-- Whole texts.
condition-spelled : (r : Rest) → Spells behind (condition_rule max_open) r (condition r)
condition-spelled r = bind-none behind behind (condition_rule max_open) r _ _ ((sound max_open).exprs r) (λ e. refl)

opening-one : (c : ℕ) (r : Rest) → 0 < c → head r ≡ c → Spells here (one c) r (Ok (past r))
opening-one c r some is = this-token c r some (grind (arith, nat_tests))

statement-name : (r : Rest) → (head r == lower || head r == upper) ≡ true → Between (alt (one lower) (one upper)) r (past r)
statement-name r is = call-name (inside_of max_open) one (condition_rule 63) (negation_rule 63) opening-one (sound 63).exprs (sound 63).negations r is

statement-arguments : (at : ℕ) (name : List ℕ) (q : Rest) → (head q == 40) ≡ true → Spells behind (enclosed (one 40) (condition_rule 63) 41) q (reading.call_behind (inside_of max_open) at name q)
statement-arguments at name q is = call-spelled (inside_of max_open) one (condition_rule 63) (negation_rule 63) opening-one (sound 63).exprs (sound 63).negations at name q is

call-in-statement : (r : Rest) → Spells behind (call_rule one (condition_rule 63)) r (call r)
unfolding call
call-in-statement r = either behind _ r (head r == lower || head r == upper) _ _
    (λ is. either behind _ r (head (past r) == 40) _ _
    (λ paren. lead behind (alt (one lower) (one upper)) (enclosed (one 40) (condition_rule 63) 41) r (past r) _ (statement-name r is) (statement-arguments (place r) (slice r) (past r) paren))
    (λ other. begun-then (alt (one lower) (one upper)) (enclosed (one 40) (condition_rule 63) 41) (call_rule one (condition_rule 63)) r (past r) _ (λ x y f g. inr (x, y, f, g, refl)) (statement-name r is)
    (stopped (enclosed (one 40) (condition_rule 63) 41) (past r) Unexpected refl)))
    (λ is. stopped (call_rule one (condition_rule 63)) r Unexpected refl)

statement-spelled : (r : Rest) → Spells behind (statement_rule 63) r (statement r)
unfolding statement
statement-spelled r = bind behind behind (call_rule one (condition_rule 63)) (optional (seq (one where_word) (condition_rule 64))) r _ _ (call-in-statement r)
    (λ c. either behind _ c.1 (head c.1 == where_word) _ _
    (λ is. into behind (seq (one where_word) (condition_rule 64)) (optional (seq (one where_word) (condition_rule 64))) (λ w h. inl h) (λ w h. inl h) c.1 _
    (lead behind (one where_word) (condition_rule 64) c.1 (past c.1) _ (this-token where_word c.1 (omega arith) is) (bind-none behind behind (condition_rule 64) (past c.1) _ _ (condition-spelled (past c.1)) (λ d. refl))))
    (λ is. no-token (optional (seq (one where_word) (condition_rule 64))) (inr refl) c.1))

-- what is parsed is spelled
ends : (r : Rest) → at_end r ≡ Ok tt → codes r ≡ []
ends r is = by r.left (length r.left == 0) refl is where
  by : (ts : List Token) (t : Bool) → (length ts == 0) ≡ t → cond t (Ok (tt {0})) (reading.stops Unexpected r) ≡ Ok (tt {0}) → codes_of r.text ts ≡ []
  by [] t e h = refl
  by (t ∷ ts) true e h = absurd (let n = same (length (t ∷ ts)) 0 e in omega (arith, n))
  by (t ∷ ts) false e h = absurd (cc)

module _ {X : Type 0} (read : Rest → Reads X) (well : X → Checked) (rule : Rule) (each : (r : Rest) → Spells behind rule r (read r)) where
  whole-spelled : (start : Rest) (x : X) → (read start >>= λ p. at_end p.1 >>= λ _. well p.0 >>= λ _. Ok p.0) ≡ Ok x → spells rule (codes start)
  whole-spelled start x is = by (read start) (each start) is where
    by : (m : Reads X) → Spells behind rule start m → (m >>= λ p. at_end p.1 >>= λ _. well p.0 >>= λ _. Ok p.0) ≡ Ok x → spells rule (codes start)
    by (Err e) h e_is = absurd (cc)
    by (Ok p) h p_is = at (at_end p.1) refl p_is where
      at : (m : Checked) → at_end p.1 ≡ m → (m >>= λ _. well p.0 >>= λ _. Ok p.0) ≡ Ok x → spells rule (codes start)
      at (Err e) m_is e_is = absurd (cc)
      at (Ok u) m_is p_is =
          let nothing_left : codes p.1 ≡ [] = ends p.1 m_is in
          subst (spells rule) (sym (h.whole ∙ ap (λ (w : List ℕ). h.word ++ w) nothing_left ∙ append-nil h.word)) h.spelled

  parsed-spelled : (text : List ℕ) (tokens : List Token) (x : X) → tokens_of text ≡ Ok tokens → parsed read well text ≡ Ok x → spells rule (codes_of text tokens)
  parsed-spelled text tokens x lexed is =
      whole-spelled (record { text = text; left = tokens }) x
      (sym (ap (λ (m : Result (List Token) SyntaxFault). m >>= λ ts. read (record { text = text; left = ts }) >>= λ p. at_end p.1 >>= λ _. well p.0 >>= λ _. Ok p.0) lexed) ∙ is)

-- the tokens before a fault of reading
at-token : (rule : Rule) (text : List ℕ) (tokens : List Token) (f : SyntaxFault) → Begun rule (record { text = text; left = tokens }) f → IsAtToken f.kind → IsBegun rule text tokens f.at
at-token rule text tokens f h is =
    let all : codes_of text tokens ≡ h.word ++ codes h.there = h.whole in
    record {
      count = length h.word;
      within = omega (arith, ap length all, length-append h.word (codes h.there), length-map tokens (code_of text));
      placed = by_kind f.kind is h.placed ∙ ap (λ (t : List ℕ). place_of t h.there.left) h.text ∙ ap (place_of text) h.left;
      begun = subst (viable rule) (sym (ap (take (length h.word)) all ∙ take_at h.word (codes h.there) (length h.word) refl)) h.begun;
    }
  where
    by_kind : (kind : SyntaxKind) → IsAtToken kind → PlacedBy kind f.at h.there → f.at ≡ place h.there
    by_kind Unexpected is p = p
    by_kind Wide is p = p
    by_kind TooDeep is p = p
    by_kind BadChar is p = absurd is
    by_kind OpenText is p = absurd is
    by_kind BadEscape is p = absurd is
    by_kind NotUtf8 is p = absurd is
    by_kind Fraction is p = absurd is
    by_kind BadNumber is p = absurd is
    by_kind ConditionWanted is p = absurd is
    by_kind ValueWanted is p = absurd is

-- behind what is read the text ends, or the fault stands there
module _ {X : Type 0} (x : X) (rule : Rule) (start r : Rest) (h : Between rule start r) where
  ended-by : (t : Bool) → Spells (λ (y : X). r) rule start (cond t (Ok (tt {0})) (reading.stops Unexpected r) >>= λ _. Ok x)
  ended-by true = h
  ended-by false = record { word = h.word; there = r; whole = h.whole; left = h.left; text = h.text; begun = spelled_viable rule h.word h.spelled; placed = refl }

  ended : Spells (λ (y : X). r) rule start (at_end r >>= λ _. Ok x)
  ended = ended-by (length r.left == 0)

module _ {X : Type 0} (read : Rest → Reads X) (well : X → Checked) (rule : Rule) (each : (r : Rest) → Spells behind rule r (read r)) where
  read-begun : (start : Rest) (f : SyntaxFault) → (read start >>= λ p. at_end p.1 >>= λ _. Ok p.0) ≡ Err f
      → ((read start >>= λ p. at_end p.1 >>= λ _. well p.0 >>= λ _. Ok p.0) ≡ Err f) × Begun rule start f
  read-begun start f is = by (read start) (each start) is where
    by : (m : Reads X) → Spells behind rule start m → (m >>= λ p. at_end p.1 >>= λ _. Ok p.0) ≡ Err f
        → ((m >>= λ p. at_end p.1 >>= λ _. well p.0 >>= λ _. Ok p.0) ≡ Err f) × Begun rule start f
    by (Err e) h e_is = let same_fault : e ≡ f = cc in (ap Err same_fault, subst (Begun rule start) same_fault h)
    by (Ok p) h p_is = at (at_end p.1) (ended p.0 rule start p.1 h) p_is where
      at : (m : Checked) → Spells (λ (y : X). p.1) rule start (m >>= λ _. Ok p.0) → (m >>= λ _. Ok p.0) ≡ Err f
          → ((m >>= λ _. well p.0 >>= λ _. Ok p.0) ≡ Err f) × Begun rule start f
      at (Err e) g e_is = let same_fault : e ≡ f = cc in (ap Err same_fault, subst (Begun rule start) same_fault g)
      at (Ok u) g u_is = absurd (cc)

  faults-begun : FaultsAreBehindPrefixes read (parsed read well) rule
  faults-begun text tokens f lexed is =
      let start : Rest = record { text = text; left = tokens } in
      let Q : Result (List Token) SyntaxFault → Type 0 = λ m. (m >>= λ ts. read (record { text = text; left = ts }) >>= λ p. at_end p.1 >>= λ _. Ok p.0) ≡ Err f in
      let both = read-begun start f (subst Q lexed is) in
      (ap (λ (m : Result (List Token) SyntaxFault). m >>= λ ts. read (record { text = text; left = ts }) >>= λ p. at_end p.1 >>= λ _. well p.0 >>= λ _. Ok p.0) lexed ∙ both.0, at-token rule text tokens f both.1)

pub statement-faults : FaultsAreBehindPrefixes statement statement_of (statement_rule 63)
unfolding statement_of
statement-faults = faults-begun statement check_statement (statement_rule 63) statement-spelled

pub condition-faults : FaultsAreBehindPrefixes condition condition_of (condition_rule 64)
unfolding condition_of
condition-faults = faults-begun condition check_condition (condition_rule 64) condition-spelled

pub statements-spelled : (text : List ℕ) (tokens : List Token) (s : Statement) → tokens_of text ≡ Ok tokens → statement_of text ≡ Ok s → spells (statement_rule 63) (codes_of text tokens)
unfolding statement_of
statements-spelled text tokens s lexed is = parsed-spelled statement check_statement (statement_rule 63) statement-spelled text tokens s lexed is

pub conditions-spelled : (text : List ℕ) (tokens : List Token) (c : Condition) → tokens_of text ≡ Ok tokens → condition_of text ≡ Ok c → spells (condition_rule 64) (codes_of text tokens)
unfolding condition_of
conditions-spelled text tokens c lexed is = parsed-spelled condition check_condition (condition_rule 64) condition-spelled text tokens c lexed is

pub ruleset parsed_are_spelled = (statements-spelled, conditions-spelled)
