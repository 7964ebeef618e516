-- Plans that loops gather from the front, and what they are as a whole.
use Rattle.std.proofs.Common.{◌≡◌, ◌∙◌, ℕ, List, [], ◌∷◌, ◌++◌, map, Option, Some, None, Result, Ok, Err, append_assoc, refl, sym, ap}
use Rattle.std.proofs.lemmas.List.{append-nil}
use Rattle.ottl_plan.specs.Answers.{◌>>=◌, all_of}
use Rattle.ottl_plan.specs.Planning.{Plan, Form, text_in, with_text, texts_in, Seen, argument_of, arguments, each_argument, values_among, literals_among, arguments_of}
use Rattle.pdata_tree.specs.declared.place.Context.{Context}
use Rattle.ottl_plan.specs.declared.argument.Argument.{Argument}
use Rattle.ottl_plan.specs.declared.argument.Argument.TheVariants as argument
use Rattle.ottl_plan.specs.declared.argument.ArgumentKind.{ArgumentKind}
use Rattle.ottl_plan.specs.declared.argument.ArgumentLiteral.{ArgumentLiteral}
use Rattle.ottl_plan.specs.declared.planned.Arguments.{Arguments}
use Rattle.ottl_plan.specs.declared.planned.PlannedExpr.{PlannedExpr}
use Rattle.ottl_plan.specs.declared.fault.PlanFault.{PlanFault}

-- all items, where these came before
abbrev pub all_from : {X : Type 0} → List X → List (Result X PlanFault) → Result (List X) PlanFault
all_from front [] = Ok front
all_from front (r ∷ rs) = r >>= λ x. all_from (front ++ x ∷ []) rs

-- items before others
abbrev pub behind : {X : Type 0} → List X → Result (List X) PlanFault → Result (List X) PlanFault
behind front (Ok xs) = Ok (front ++ xs)
behind front (Err e) = Err e

-- one more in front
behind-one : {X : Type 0} (front : List X) (x : X) (r : Result (List X) PlanFault)
    → behind (front ++ x ∷ []) r ≡ behind front (r >>= λ xs. Ok (x ∷ xs))
behind-one front x (Ok xs) = ap (λ (ys : List _). Ok ys) (append_assoc front (x ∷ []) xs)
behind-one front x (Err e) = refl

from-front : {X : Type 0} (front : List X) (rs : List (Result X PlanFault))
    → all_from front rs ≡ behind front (all_of rs)
from-front front [] = ap (λ (ys : List _). Ok ys) (sym (append-nil front))
from-front front (Ok x ∷ rs) = from-front (front ++ x ∷ []) rs ∙ behind-one front x (all_of rs)
from-front front (Err e ∷ rs) = refl

behind-nothing : {X : Type 0} (r : Result (List X) PlanFault) → behind [] r ≡ r
behind-nothing (Ok xs) = refl
behind-nothing (Err e) = refl

pub all-from_start : {X : Type 0} (rs : List (Result X PlanFault)) → all_from [] rs ≡ all_of rs
all-from_start rs = from-front [] rs ∙ behind-nothing (all_of rs)

pub ruleset from_start = (all-from_start)

-- all arguments, where these values and literals came before
abbrev pub arguments_from : Context → List ArgumentKind → List Seen → List PlannedExpr → List ArgumentLiteral → Plan Arguments
arguments_from context kinds [] values literals = Ok (arguments values literals)
arguments_from context [] (s ∷ ss) values literals = Ok (arguments values literals)
arguments_from context (k ∷ ks) (s ∷ ss) values literals =
    argument_of context k s >>= λ a. arguments_from context ks ss (values ++ values_among (a ∷ [])) (literals ++ literals_among (a ∷ []))

-- these values and literals before those of arguments
abbrev pub gathered : List PlannedExpr → List ArgumentLiteral → Plan (List Argument) → Plan Arguments
gathered values literals (Ok given) = Ok (arguments (values ++ values_among given) (literals ++ literals_among given))
gathered values literals (Err e) = Err e

nothing-more : (values : List PlannedExpr) (literals : List ArgumentLiteral) → Ok (arguments values literals) ≡ gathered values literals (Ok [])
nothing-more values literals =
    ap (λ (vs : List PlannedExpr). Ok (arguments vs literals)) (sym (append-nil values))
    ∙ ap (λ (ls : List ArgumentLiteral). Ok (arguments (values ++ []) ls)) (sym (append-nil literals))

one-more : (a : Argument) (values : List PlannedExpr) (literals : List ArgumentLiteral) (rest : Plan (List Argument))
    → gathered (values ++ values_among (a ∷ [])) (literals ++ literals_among (a ∷ [])) rest ≡ gathered values literals (rest >>= λ given. Ok (a ∷ given))
one-more (argument.Value v) values literals (Ok given) =
    ap (λ (vs : List PlannedExpr). Ok (arguments vs ((literals ++ []) ++ literals_among given))) (append_assoc values (v ∷ []) (values_among given))
    ∙ ap (λ (ls : List ArgumentLiteral). Ok (arguments (values ++ v ∷ values_among given) (ls ++ literals_among given))) (append-nil literals)
one-more (argument.Literal l) values literals (Ok given) =
    ap (λ (ls : List ArgumentLiteral). Ok (arguments ((values ++ []) ++ values_among given) ls)) (append_assoc literals (l ∷ []) (literals_among given))
    ∙ ap (λ (vs : List PlannedExpr). Ok (arguments (vs ++ values_among given) (literals ++ l ∷ literals_among given))) (append-nil values)
one-more (argument.Value v) values literals (Err e) = refl
one-more (argument.Literal l) values literals (Err e) = refl

step : (r : Plan Argument) (values : List PlannedExpr) (literals : List ArgumentLiteral)
    (f : List PlannedExpr → List ArgumentLiteral → Plan Arguments) (rest : Plan (List Argument))
    → ((vs : List PlannedExpr) (ls : List ArgumentLiteral) → f vs ls ≡ gathered vs ls rest)
    → (r >>= λ a. f (values ++ values_among (a ∷ [])) (literals ++ literals_among (a ∷ []))) ≡ gathered values literals (r >>= λ a. rest >>= λ given. Ok (a ∷ given))
step (Ok a) values literals f rest same =
    same (values ++ values_among (a ∷ [])) (literals ++ literals_among (a ∷ [])) ∙ one-more a values literals rest
step (Err e) values literals f rest same = refl

arguments-front : (context : Context) (ks : List ArgumentKind) (ss : List Seen) (values : List PlannedExpr) (literals : List ArgumentLiteral)
    → arguments_from context ks ss values literals ≡ gathered values literals (each_argument context ks ss)
arguments-front context kinds [] values literals = nothing-more values literals
arguments-front context [] (s ∷ ss) values literals = nothing-more values literals
arguments-front context (k ∷ ks) (s ∷ ss) values literals =
    step (argument_of context k s) values literals (arguments_from context ks ss) (each_argument context ks ss) (arguments-front context ks ss)

from-nothing : (r : Plan (List Argument)) → gathered [] [] r ≡ (r >>= λ given. Ok (arguments (values_among given) (literals_among given)))
from-nothing (Ok given) = refl
from-nothing (Err e) = refl

pub arguments-from-start : (context : Context) (ks : List ArgumentKind) (ss : List Seen) → arguments_from context ks ss [] [] ≡ arguments_of context ks ss
arguments-from-start context ks ss = arguments-front context ks ss [] [] ∙ from-nothing (each_argument context ks ss)

pub ruleset arguments_start = (arguments-from-start)

-- texts before others
abbrev pub texts_behind : List (List ℕ) → Option (List (List ℕ)) → Option (List (List ℕ))
texts_behind front None = None
texts_behind front (Some texts) = Some (front ++ texts)

-- one more text goes on, and none ends it
abbrev pub one_text : List (List ℕ) → Option (List ℕ) → (List (List ℕ) → Option (List (List ℕ))) → Option (List (List ℕ))
one_text front None rest = None
one_text front (Some text) rest = rest (front ++ text ∷ [])

-- all texts, where these came before
abbrev pub texts_from : List (List ℕ) → List Form → Option (List (List ℕ))
texts_from front [] = Some front
texts_from front (f ∷ fs) = one_text front (text_in f) (λ more. texts_from more fs)

text-step : (front : List (List ℕ)) (text : Option (List ℕ)) (rest : List (List ℕ) → Option (List (List ℕ))) (more : Option (List (List ℕ)))
    → ((xs : List (List ℕ)) → rest xs ≡ texts_behind xs more)
    → one_text front text rest ≡ texts_behind front (with_text text more)
text-step front None rest more same = refl
text-step front (Some text) rest (Some texts) same = same (front ++ text ∷ []) ∙ ap (λ (xs : List (List ℕ)). Some xs) (append_assoc front (text ∷ []) texts)
text-step front (Some text) rest None same = same (front ++ text ∷ [])

texts-front : (front : List (List ℕ)) (fs : List Form) → texts_from front fs ≡ texts_behind front (texts_in fs)
texts-front front [] = ap (λ (xs : List (List ℕ)). Some xs) (sym (append-nil front))
texts-front front (f ∷ fs) = text-step front (text_in f) (λ more. texts_from more fs) (texts_in fs) (λ more. texts-front more fs)

behind-no-texts : (texts : Option (List (List ℕ))) → texts_behind [] texts ≡ texts
behind-no-texts (Some texts) = refl
behind-no-texts None = refl

pub texts-from-start : (fs : List Form) → texts_from [] fs ≡ texts_in fs
texts-from-start fs = texts-front [] fs ∙ behind-no-texts (texts_in fs)

pub ruleset texts_start = (texts-from-start)
