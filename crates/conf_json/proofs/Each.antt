-- Plans that loops gather from the front, and what they are as a whole.
use Rattle.std.proofs.Common.{◌≡◌, ◌∙◌, ℕ, suc, List, [], ◌∷◌, ◌++◌, Result, Ok, Err, append_assoc, refl, sym, ap, subst}
use Rattle.std.proofs.lemmas.List.{append-nil}
use Rattle.conf_draft.specs.declared.draft.Connector.{Connector}
use Rattle.conf_draft.specs.declared.draft.Processor.{Processor}
use Rattle.conf_shape.specs.Pointer.{member_of, element_of}
use Rattle.conf_json.specs.declared.fault.ConfFault.{ConfFault}
use Rattle.conf_json.specs.declared.settings.ProcessorSettings.{ProcessorSettings}
use Rattle.conf_json.specs.declared.settings.RouteSettings.{RouteSettings}
use Rattle.conf_json.specs.Fault.{◌>>=◌}
use Rattle.conf_json.specs.Plans.{Plans}
use Rattle.conf_json.specs.declared.fault.ConfStop.{ConfStop}
use Rattle.conf_json.specs.Planning.{each_at, connector_at, connectors_at, kind_at, processors_at}

-- items before others
abbrev pub behind : {X : Type 0} → List X → Result (List X) ConfFault → Result (List X) ConfFault
behind front (Ok xs) = Ok (front ++ xs)
behind front (Err e) = Err e

behind-one : {X : Type 0} (front : List X) (x : X) (r : Result (List X) ConfFault)
    → behind (front ++ x ∷ []) r ≡ behind front (r >>= λ xs. Ok (x ∷ xs))
behind-one front x (Ok xs) = ap (λ (ys : List _). Ok ys) (append_assoc front (x ∷ []) xs)
behind-one front x (Err e) = refl

behind-nothing : {X : Type 0} (r : Result (List X) ConfFault) → behind [] r ≡ r
behind-nothing (Ok xs) = refl
behind-nothing (Err e) = refl

-- what one step gives, and then the rest
step : {X : Type 0} (r : Result X ConfFault) (front : List X) (from : X → Result (List X) ConfFault) (rest : Result (List X) ConfFault)
    → ((x : X) → from x ≡ behind (front ++ x ∷ []) rest) → (r >>= from) ≡ behind front (r >>= λ x. rest >>= λ xs. Ok (x ∷ xs))
step (Ok x) front from rest h = h x ∙ behind-one front x rest
step (Err e) front from rest h = refl

-- what each of a list is planned as, where these came before
abbrev pub each_from : {X Y : Type 0} → (List ℕ → X → Result Y ConfFault) → List ℕ → ℕ → List Y → List X → Result (List Y) ConfFault
each_from plan at index front [] = Ok front
each_from plan at index front (x ∷ xs) = plan (element_of at index) x >>= λ y. each_from plan at (suc index) (front ++ y ∷ []) xs

each-from_front : {X Y : Type 0} (plan : List ℕ → X → Result Y ConfFault) (at : List ℕ) (index : ℕ) (front : List Y) (xs : List X)
    → each_from plan at index front xs ≡ behind front (each_at plan at index xs)
each-from_front plan at index front [] = ap (λ (ys : List _). Ok ys) (sym (append-nil front))
each-from_front plan at index front (x ∷ xs) =
    step (plan (element_of at index) x) front (λ y. each_from plan at (suc index) (front ++ y ∷ []) xs) (each_at plan at (suc index) xs)
    (λ y. each-from_front plan at (suc index) (front ++ y ∷ []) xs)

pub each-from_start : {X Y : Type 0} (plan : List ℕ → X → Result Y ConfFault) (at : List ℕ) (index : ℕ) (xs : List X)
    → each_from plan at index [] xs ≡ each_at plan at index xs
each-from_start plan at index xs = each-from_front plan at index [] xs ∙ behind-nothing (each_at plan at index xs)

-- connectors, where these came before
abbrev pub connectors_from : List ℕ → List RouteSettings → List Connector → Result (List RouteSettings) ConfFault
connectors_from at front [] = Ok front
connectors_from at front (c ∷ cs) = connector_at (member_of at c.name) c >>= λ x. connectors_from at (front ++ x ∷ []) cs

connectors-from_front : (at : List ℕ) (front : List RouteSettings) (cs : List Connector) → connectors_from at front cs ≡ behind front (connectors_at at cs)
connectors-from_front at front [] = ap (λ (ys : List RouteSettings). Ok ys) (sym (append-nil front))
connectors-from_front at front (c ∷ cs) =
    step (connector_at (member_of at c.name) c) front (λ x. connectors_from at (front ++ x ∷ []) cs) (connectors_at at cs)
    (λ x. connectors-from_front at (front ++ x ∷ []) cs)

pub connectors-from_start : (at : List ℕ) (cs : List Connector) → connectors_from at [] cs ≡ connectors_at at cs
connectors-from_start at cs = connectors-from_front at [] cs ∙ behind-nothing (connectors_at at cs)

-- processors, where these came before
abbrev pub processors_from : List ℕ → List ProcessorSettings → List Processor → Result (List ProcessorSettings) ConfFault
processors_from at front [] = Ok front
processors_from at front (p ∷ ps) = kind_at (member_of at p.name) p.kind >>= λ x. processors_from at (front ++ x ∷ []) ps

processors-from_front : (at : List ℕ) (front : List ProcessorSettings) (ps : List Processor)
    → processors_from at front ps ≡ behind front (processors_at at ps)
processors-from_front at front [] = ap (λ (ys : List ProcessorSettings). Ok ys) (sym (append-nil front))
processors-from_front at front (p ∷ ps) =
    step (kind_at (member_of at p.name) p.kind) front (λ x. processors_from at (front ++ x ∷ []) ps) (processors_at at ps)
    (λ x. processors-from_front at (front ++ x ∷ []) ps)

pub processors-from_start : (at : List ℕ) (ps : List Processor) → processors_from at [] ps ≡ processors_at at ps
processors-from_start at ps = processors-from_front at [] ps ∙ behind-nothing (processors_at at ps)

pub ruleset from_start = (each-from_start, connectors-from_start, processors-from_start)

-- what was planned first is what it is meant to be, and so is what follows
pub plans_ok : {X Y : Type 0} (before mid now : ℕ) (r : Result Y ConfStop) (read : Result X ConfFault) (x : X) (go : X → Result Y ConfFault)
    → read ≡ Ok x → mid ≡ before → Plans mid now r (go x) → Plans before now r (read >>= go)
plans_ok before mid now r read x go is same h =
    subst (λ (n : ℕ). Plans n now r (read >>= go)) same (subst (λ (m : Result _ ConfFault). Plans mid now r (m >>= go)) (sym is) h)

-- the same where the maker wasn't lent first
pub plans_read : {X Y : Type 0} (before now : ℕ) (r : Result Y ConfStop) (read : Result X ConfFault) (x : X) (go : X → Result Y ConfFault)
    → read ≡ Ok x → Plans before now r (go x) → Plans before now r (read >>= go)
plans_read before now r read x go is h = subst (λ (m : Result _ ConfFault). Plans before now r (m >>= go)) (sym is) h
