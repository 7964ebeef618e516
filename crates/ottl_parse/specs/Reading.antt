-- Reading from tokens: what they spell, or the first fault with its place, whatever stands where a
-- condition or a value is wanted.
use Rattle.std.specs.Prelude.{ℕ, zero, suc, ◌^◌, ℤ, pos, neg_ℤ, Bool, true, false, cond, ◌==◌, ◌||◌, nat_lt, nat_le, List, [], ◌∷◌, ◌++◌, length, Option, Some, None, Result, Ok, Err}
use Rattle.ottl_lex.specs.Codes.{lower, upper, quoted, digits, hex, and_word, or_word, not_word, true_word, false_word, nil_word, equal, unequal, at_most, at_least}
use Rattle.ottl_lex.specs.Numbers.{digits_value, literal_bytes}
use Rattle.ottl_lex.specs.Quoted.{fault, ◌>>=◌, text_of}
use Rattle.ottl_lex.specs.declared.fault.SyntaxFault.{SyntaxFault}
use Rattle.ottl_lex.specs.declared.fault.SyntaxKind.{SyntaxKind}
use Rattle.ottl_lex.specs.declared.fault.SyntaxKind.TheVariants.{Unexpected, Wide, TooDeep}
use Rattle.pdata_value.specs.declared.value.Value.{Value}
use Rattle.pdata_value.specs.declared.value.Value.TheVariants as values
use Rattle.ottl_parse.specs.Place.{Rest, head, place, slice, past}
use Rattle.ottl_parse.specs.declared.expr.Call.{Call, roll-Call}
use Rattle.ottl_parse.specs.declared.expr.Compare.{roll-Compare}
use Rattle.ottl_parse.specs.declared.expr.Expr.{Expr}
use Rattle.ottl_parse.specs.declared.expr.ExprKind.{ExprKind}
use Rattle.ottl_parse.specs.declared.expr.ExprKind.TheVariants as kinds
use Rattle.ottl_parse.specs.declared.expr.MapPart.{MapPart}
use Rattle.ottl_parse.specs.declared.expr.Term.{Term}
use Rattle.ottl_parse.specs.declared.path.Path.{Path}
use Rattle.ottl_parse.specs.declared.path.PathKey.{PathKey}
use Rattle.ottl_parse.specs.declared.path.PathKey.TheVariants as keys
use Rattle.ottl_parse.specs.declared.sign.Sign.{Sign}
use Rattle.ottl_parse.specs.declared.sign.Sign.TheVariants.{Plus, Minus, Times, Over, Equal, Unequal, Less, AtMost, Greater, AtLeast}

-- what was read and what is left, or the first fault
abbrev pub Reads : Type 0 → Type 0
Reads X = Result (X × Rest) SyntaxFault

-- a fault at the next token
abbrev pub stops : {X : Type 0} → SyntaxKind → Rest → Result X SyntaxFault
stops kind r = Err (fault kind (place r))

-- these before what was read
abbrev pub with_front : {X : Type 0} → List X → Reads (List X) → Reads (List X)
with_front front read = read >>= λ p. Ok (front ++ p.0, p.1)

-- this token
abbrev pub this : ℕ → Rest → Result Rest SyntaxFault
this code r = cond (head r == code) (Ok (past r)) (stops Unexpected r)

-- the bytes of a token of this kind
abbrev pub bytes_of : ℕ → Rest → Reads (List ℕ)
bytes_of code r = cond (head r == code) (Ok (slice r, past r)) (stops Unexpected r)

-- Pieces for as long as one that begins with such a token is next. The number bounds them: as many
-- as the tokens are always enough.
unfoldable pub pieces : {X : Type 0} → (ℕ → Bool) → (Rest → Reads X) → ℕ → Rest → Reads (List X)
pieces begins one zero r = Ok ([], r)
pieces begins one (suc n) r =
    cond (begins (head r))
    (one r >>= λ p. with_front (p.0 ∷ []) (pieces begins one n p.1)) (Ok ([], r))

-- elements with commas between them, up to the token that closes, and that token
abbrev pub elements : {X : Type 0} → (Rest → Reads X) → ℕ → Rest → Reads (List X)
elements one close r =
    one r >>= λ p.
    with_front (p.0 ∷ []) (pieces (λ c. c == 44) (λ q. one (past q)) (length p.1.left) p.1)
    >>= λ all. this close all.1 >>= λ e. Ok (all.0, e)

-- the same behind the token that opens, where there may be none
unfoldable pub sequence : {X : Type 0} → (Rest → Reads X) → ℕ → Rest → Reads (List X)
sequence one close r = cond (head r == close) (Ok ([], past r)) (elements one close r)

-- What has no expressions inside.

-- the contents of a text
unfoldable pub text : Rest → Reads (List ℕ)
text r = bytes_of quoted r >>= λ p. text_of (place r) p.0 >>= λ t. Ok (t, p.1)

-- a whole number with its sign, within 64 bits signed
abbrev pub signed : Bool → ℕ → Option ℤ
signed true n = cond (nat_le n (2 ^ 63)) (Some (neg_ℤ (pos n))) None
signed false n = cond (nat_lt n (2 ^ 63)) (Some (pos n)) None

-- of the next token, or Wide there
abbrev pub or_wide : {X : Type 0} → Option X → Rest → Reads X
or_wide (Some x) r = Ok (x, past r)
or_wide None r = stops Wide r

-- digits behind a sign, which is a minus or not
unfoldable pub number : Bool → Rest → Reads ℤ
number minus r =
    cond (head r == digits) (or_wide (signed minus (digits_value (slice r))) r) (stops Unexpected r)

-- a number that is a key of a path
unfoldable pub index : Rest → Reads ℕ
index r =
    let value = digits_value (slice r) in
    cond (head r == digits) (cond (nat_lt value (2 ^ 63)) (Ok (value, past r)) (stops Wide r))
    (stops Unexpected r)

-- this value for the next token
abbrev pub taken : Value → Rest → Reads Value
taken value r = Ok (value, past r)

-- a whole number as a literal
abbrev pub integer : Bool → Rest → Reads Value
integer minus r = number minus r >>= λ n. Ok (values.Int n.0, n.1)

-- a text, bytes, a number with its sign, or one of three words
unfoldable pub literal : Rest → Reads Value
literal r =
    cond (head r == quoted) (text r >>= λ t. Ok (values.Text t.0, t.1))
    (cond (head r == hex) (taken (values.Bytes (literal_bytes (slice r))) r)
    (cond (head r == digits) (integer false r)
    (cond (head r == 43) (integer false (past r))
    (cond (head r == 45) (integer true (past r))
    (cond (head r == true_word) (taken (values.Truth true) r)
    (cond (head r == false_word) (taken (values.Truth false) r)
    (cond (head r == nil_word) (taken values.Empty r) (stops Unexpected r))))))))

-- Constructs: parentheses, those of calls included, brackets, braces and `not`.

-- how the token that opens a construct is read, and then an expression and an operand of `not`
-- inside the construct
pub record Inside : Type 0 where
  pub opening : Rest → Result Rest SyntaxFault
  pub expr : Rest → Reads Expr
  pub operand : Rest → Reads Expr

-- Paths.

-- a name behind a point
abbrev pub further_name : Rest → Reads (List ℕ)
further_name r = bytes_of lower (past r)

-- a text or a number
abbrev pub key_inside : Rest → Reads PathKey
key_inside r =
    cond (head r == quoted)
    (text r >>= λ t. Ok (keys.Name t.0, t.1)) (index r >>= λ n. Ok (keys.Index n.0, n.1))

-- a key in its brackets
unfoldable pub key : Inside → Rest → Reads PathKey
key inside r = inside.opening r >>= key_inside >>= λ k. this 93 k.1 >>= λ e. Ok (k.0, e)

-- further names and then keys, behind the first name
unfoldable pub path_behind : Inside → List ℕ → Rest → Reads Path
path_behind inside name r =
    with_front (name ∷ []) (pieces (λ c. c == 46) further_name (length r.left) r)
    >>= λ ns. pieces (λ c. c == 91) (key inside) (length ns.1.left) ns.1
    >>= λ ks. Ok (record { names = ns.0; keys = ks.0 }, ks.1)

-- Calls, lists, maps.

-- what stands behind the token that opens
abbrev pub within : {X : Type 0} → Inside → (Rest → Reads X) → ℕ → Rest → Reads (List X)
within inside one close r = inside.opening r >>= sequence one close

-- the arguments of a call in their parentheses, behind its name
abbrev pub call_behind : Inside → ℕ → List ℕ → Rest → Reads Call
call_behind inside at name r =
    within inside inside.expr 41 r >>= λ p.
    Ok (roll-Call (record { at = at; name = name; arguments = p.0 }), p.1)

-- a part of a map: a text, a colon and an expression
unfoldable pub part : (Rest → Reads Expr) → Rest → Reads MapPart
part one r =
    text r >>= λ k. this 58 k.1 >>= one >>= λ v. Ok (record { key = k.0; value = v.0 }, v.1)

-- an expression in parentheses, which leave no trace
abbrev pub group : Inside → Rest → Reads Expr
group inside r = inside.opening r >>= inside.expr >>= λ p. this 41 p.1 >>= λ e. Ok (p.0, e)

-- Levels of binding, from the tightest.

-- an expression whose first token is the next one
abbrev pub make : {X : Type 0} → Rest → (X → ExprKind) → Reads X → Reads Expr
make r kind read = read >>= λ p. Ok (record { at = place r; kind = kind p.0 }, p.1)

-- what a name begins: a call where a parenthesis follows it, else a path or an enum
unfoldable pub named : Inside → Rest → Reads ExprKind
named inside r =
    cond (head (past r) == 40)
    (call_behind inside (place r) (slice r) (past r) >>= λ c. Ok (kinds.Call c.0, c.1))
    (cond (head r == lower)
    (path_behind inside (slice r) (past r) >>= λ p. Ok (kinds.Path p.0, p.1))
    (Ok (kinds.Enum (slice r), past r)))

-- what binds tightest: a group, a list, a map, what a name begins, or a literal
unfoldable pub primary : Inside → Rest → Reads Expr
primary inside r =
    cond (head r == 40) (group inside r)
    (cond (head r == 91) (make r kinds.List (within inside inside.expr 93 r))
    (cond (head r == 123) (make r kinds.Map (within inside (part inside.expr) 125 r))
    (cond (head r == lower || head r == upper) (make r (λ k. k) (named inside r))
    (make r kinds.Literal (literal r)))))

-- an operand; or it and further pieces, where one follows it
abbrev pub level : {X : Type 0} → (Expr → X) → (List X → ExprKind) → (ℕ → Bool)
    → (Rest → Reads Expr) → (Rest → Reads X) → Rest → Reads Expr
level first kind begins one more r =
    one r >>= λ p. cond (begins (head p.1))
    (make r kind (with_front (first p.0 ∷ []) (pieces begins more (length p.1.left) p.1))) (Ok p)

-- an operand behind the sign before it
abbrev pub signed_term : (ℕ → Sign) → (Rest → Reads Expr) → Rest → Reads Term
signed_term sign one r = one (past r) >>= λ p. Ok (record { sign = sign (head r); expr = p.0 }, p.1)

-- the sign of a product
abbrev pub is_product_sign : ℕ → Bool
is_product_sign c = c == 42 || c == 47

-- which of the two it is
abbrev pub product_sign : ℕ → Sign
product_sign c = cond (c == 42) Times Over

-- an operand, or a product of such
unfoldable pub product : Inside → Rest → Reads Expr
product inside r =
    level (λ e. record { sign = Times; expr = e }) kinds.Product is_product_sign (primary inside)
    (signed_term product_sign (primary inside)) r

-- the sign of a sum
abbrev pub is_sum_sign : ℕ → Bool
is_sum_sign c = c == 43 || c == 45

-- which of the two it is
abbrev pub sum_sign : ℕ → Sign
sum_sign c = cond (c == 43) Plus Minus

-- a product, or a sum of such
unfoldable pub sum : Inside → Rest → Reads Expr
sum inside r =
    level (λ e. record { sign = Plus; expr = e }) kinds.Sum is_sum_sign (product inside)
    (signed_term sum_sign (product inside)) r

-- the sign of a comparison
abbrev pub comparison_sign : ℕ → Option Sign
comparison_sign c =
    cond (c == equal) (Some Equal) (cond (c == unequal) (Some Unequal) (cond (c == 60) (Some Less)
    (cond (c == at_most) (Some AtMost) (cond (c == 62) (Some Greater)
    (cond (c == at_least) (Some AtLeast) None)))))

-- the left side alone, or both sides where a sign follows it
abbrev pub compared : Rest → Expr → (Rest → Reads Expr) → Option Sign → Rest → Reads Expr
compared r left one None q = Ok (left, q)
compared r left one (Some sign) q =
    make r
    (λ right. kinds.Compare (roll-Compare (record { sign = sign; left = left; right = right })))
    (one (past q))

-- a sum, or a comparison of two
unfoldable pub comparison : Inside → Rest → Reads Expr
comparison inside r =
    sum inside r >>= λ p. compared r p.0 (sum inside) (comparison_sign (head p.1)) p.1

-- `not` and its operand, or a comparison
unfoldable pub negation : Inside → Rest → Reads Expr
negation inside r =
    cond (head r == not_word) (make r kinds.Not (inside.opening r >>= inside.operand))
    (comparison inside r)

-- a negation, or several with `and` between them
unfoldable pub conjunction : Inside → Rest → Reads Expr
conjunction inside r =
    level (λ e. e) kinds.And (λ c. c == and_word) (negation inside)
    (λ q. negation inside (past q)) r

-- a conjunction, or several with `or` between them
unfoldable pub disjunction : Inside → Rest → Reads Expr
disjunction inside r =
    level (λ e. e) kinds.Or (λ c. c == or_word) (conjunction inside)
    (λ q. conjunction inside (past q)) r

-- inside a construct that is opened where so many may be open besides
abbrev pub inside_of : ℕ → Inside
inside_of zero = record { opening = stops TooDeep; expr = stops TooDeep; operand = stops TooDeep }
inside_of (suc room) =
    record {
      opening = λ r. Ok (past r);
      expr = disjunction (inside_of room);
      operand = negation (inside_of room);
    }
