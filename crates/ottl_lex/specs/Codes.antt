-- One code for each kind of token, each keyword and each sign, over which the grammar of statements
-- has its rules.
use Rattle.std.specs.Prelude.{ℕ, cond, ◌==◌, List, [], ◌∷◌, codes}
use Rattle.std.specs.Str.{bytes_eq}
use Rattle.ottl_lex.specs.Tokens.{slice_of}
use Rattle.ottl_lex.specs.declared.token.Token.{Token}
use Rattle.ottl_lex.specs.declared.token.TokenKind.{TokenKind}
use Rattle.ottl_lex.specs.declared.token.TokenKind.TheVariants.{Lower, Word, Upper, Quoted, Digits, Hex, Sign}

-- behind the last token
abbrev pub end : ℕ
end = 0

-- the kinds of tokens
abbrev pub lower : ℕ
lower = 1

-- an upper name
abbrev pub upper : ℕ
upper = 2

-- a text
abbrev pub quoted : ℕ
quoted = 3

-- a whole number
abbrev pub digits : ℕ
digits = 4

-- bytes
abbrev pub hex : ℕ
hex = 5

-- the keywords
abbrev pub where_word : ℕ
where_word = 6

-- the word `and`
abbrev pub and_word : ℕ
and_word = 7

-- the word `or`
abbrev pub or_word : ℕ
or_word = 8

-- the word `not`
abbrev pub not_word : ℕ
not_word = 9

-- the word `true`
abbrev pub true_word : ℕ
true_word = 10

-- the word `false`
abbrev pub false_word : ℕ
false_word = 11

-- the word `nil`
abbrev pub nil_word : ℕ
nil_word = 12

-- the signs of two bytes: `==`, `!=`, `<=` and `>=`
abbrev pub equal : ℕ
equal = 13

-- the sign `!=`
abbrev pub unequal : ℕ
unequal = 14

-- the sign `<=`
abbrev pub at_most : ℕ
at_most = 15

-- the sign `>=`
abbrev pub at_least : ℕ
at_least = 16

-- which keyword
abbrev pub word_code : List ℕ → ℕ
word_code word =
    cond (bytes_eq word (codes "where")) where_word
    (cond (bytes_eq word (codes "and")) and_word
    (cond (bytes_eq word (codes "or")) or_word
    (cond (bytes_eq word (codes "not")) not_word
    (cond (bytes_eq word (codes "true")) true_word
    (cond (bytes_eq word (codes "false")) false_word nil_word)))))

-- which sign of two bytes, by the first
abbrev pub pair_code : ℕ → ℕ
pair_code first =
    cond (first == 61) equal (cond (first == 33) unequal (cond (first == 60) at_most at_least))

-- which sign: one byte is its own code
abbrev pub sign_code : List ℕ → ℕ
sign_code [] = end
sign_code (b ∷ []) = b
sign_code (b ∷ c ∷ rest) = pair_code b

-- of a token of the kind with these bytes
abbrev pub code_in : TokenKind → List ℕ → ℕ
code_in Lower slice = lower
code_in Word slice = word_code slice
code_in Upper slice = upper
code_in Quoted slice = quoted
code_in Digits slice = digits
code_in Hex slice = hex
code_in Sign slice = sign_code slice

-- the code of a token of the text
abbrev pub code_of : List ℕ → Token → ℕ
code_of text token = code_in token.kind (slice_of text token)
