-- Legs that are added to those found so far.
use Rattle.std.proofs.Common.{◌≡◌, ℕ, suc, ◌+◌, ◌-◌, ◌<◌, List, [], ◌∷◌, ◌++◌, length, get_or, drop, Result, Ok, Err, sym, ap, subst, ◌∙◌, append_assoc, arith, length-append}
use Rattle.std.specs.Prelude.{⊤}
use Rattle.std.proofs.Math.Seq.{drop-cons}
use Rattle.conf_draft.specs.declared.draft.Draft.{Draft}
use Rattle.conf_draft.specs.declared.draft.Pipeline.{Pipeline}
use Rattle.graph_build.specs.declared.exits.Exit.{Exit}
use Rattle.graph_build.specs.declared.leg.Leg.{Leg}
use Rattle.graph_build.specs.declared.legs.LegStop.{LegStop}
use Rattle.graph_build.specs.declared.legs.LegStop.TheVariants.{TooMany, NoMemory}
use Rattle.graph_build.specs.Exits.{exits_of}
use Rattle.graph_build.specs.Growing.{Grows}
use Rattle.graph_build.specs.Legs.{max_legs, child_leg, children, legs_below, legs_of_root, legs_from}

-- too many of a part are too many of the whole
Grows-whole : (stop : LegStop) (old now new later these rest all : List Leg) → Grows now later (Err stop) these
    → now ++ (these ++ rest) ≡ old ++ all → Grows old new (Err stop) all
Grows-whole TooMany old now new later these rest all h e =
    omega (arith, length-append {A = Leg}, h, ap length e)
Grows-whole NoMemory old now new later these rest all h e = tt

drop-item : {A : Type 0} (xs : List A) (index : ℕ) (x : A) → index < length xs → x ≡ get_or xs index x
    → drop index xs ≡ x ∷ drop (suc index) xs
drop-item xs index x within is = drop-cons xs index x within ∙ ap (λ y. y ∷ drop (suc index) xs) (sym is)

-- the same where a child of a leg is the part
pub children-whole : (draft : Draft) (below : ℕ → Leg → List Leg) (parent : ℕ) (stop : LegStop) (old now new later : List Leg)
    (exits : List Exit) (index : ℕ) (exit : Exit) (leg : Leg) → index < length exits → exit ≡ get_or exits index exit
    → leg ≡ child_leg draft parent exit
    → now ++ children draft below parent (length now) (drop index exits) ≡ old ++ children draft below parent (length old) exits
    → Grows now later (Err stop) (below (length now) leg)
    → Grows old new (Err stop) (children draft below parent (length old) exits)
children-whole draft below parent stop old now new later exits index exit leg within is child whole h =
    Grows-whole stop old now new later (below (length now) (child_leg draft parent exit))
    (children draft below parent (length now + length (below (length now) (child_leg draft parent exit))) (drop (suc index) exits)) _
    (subst (λ leg. Grows now later (Err stop) (below (length now) leg)) child h)
    (subst (λ left. now ++ children draft below parent (length now) left ≡ old ++ children draft below parent (length old) exits) (drop-item exits index exit within is) whole)

-- the same where a root and the legs below it are the part
pub roots-whole : (draft : Draft) (stop : LegStop) (old now new later : List Leg)
    (ps : List Pipeline) (index : ℕ) (p : Pipeline) → index < length ps → p ≡ get_or ps index p
    → now ++ legs_from draft (length now) (drop index ps) ≡ old ++ legs_from draft (length old) ps
    → Grows now later (Err stop) (legs_of_root draft (length now) p)
    → Grows old new (Err stop) (legs_from draft (length old) ps)
roots-whole draft stop old now new later ps index p within is whole h =
    Grows-whole stop old now new later (legs_of_root draft (length now) p)
    (legs_from draft (length now + length (legs_of_root draft (length now) p)) (drop (suc index) ps)) _ h
    (subst (λ left. now ++ legs_from draft (length now) left ≡ old ++ legs_from draft (length old) ps) (drop-item ps index p within is) whole)

-- a leg, then those behind it
Grows-first : (r : Result ⊤ LegStop) (old new : List Leg) (leg : Leg) (more : List Leg) → length old < max_legs
    → Grows (old ++ leg ∷ []) new r more → Grows old new r (leg ∷ more)
Grows-first (Ok _) old new leg more few h =
    (h.0 ∙ append_assoc old (leg ∷ []) more, λ k. h.1 (omega (arith, length-append {A = Leg}, few)))
Grows-first (Err TooMany) old new leg more few h = omega (arith, length-append {A = Leg}, h)
Grows-first (Err NoMemory) old new leg more few h = tt

level : (levels : ℕ) → 0 < levels → levels ≡ suc (levels - 1)
level levels h = omega (arith, h)

length-last : (old : List Leg) (leg : Leg) → length (old ++ leg ∷ []) ≡ suc (length old)
length-last old leg = omega (arith, length-append {A = Leg})

-- a leg and all legs below it
pub legs_below-first : (draft : Draft) (levels number : ℕ) (r : Result ⊤ LegStop) (old mid new : List Leg) (leg : Leg) (exits : List Exit)
    → 0 < levels → length old < max_legs → mid ≡ old ++ leg ∷ [] → number ≡ length old → exits ≡ exits_of draft leg.pipeline
    → Grows mid new r (children draft (legs_below draft (levels - 1)) number (length mid) exits)
    → Grows old new r (legs_below draft levels (length old) leg)
legs_below-first draft levels number r old mid new leg exits some few pushed is out h =
    let below = legs_below draft (levels - 1) in
    let a = subst (λ m. Grows m new r (children draft below number (length m) exits)) pushed h in
    let b = subst (λ k. Grows (old ++ leg ∷ []) new r (children draft below k (length (old ++ leg ∷ [])) exits)) is a in
    let d = subst (λ xs. Grows (old ++ leg ∷ []) new r (children draft below (length old) (length (old ++ leg ∷ [])) xs)) out b in
    let e = subst (λ n. Grows (old ++ leg ∷ []) new r (children draft below (length old) n (exits_of draft leg.pipeline))) (length-last old leg) d in
    subst (λ n. Grows old new r (legs_below draft n (length old) leg)) (sym (level levels some)) (Grows-first r old new leg _ few e)
