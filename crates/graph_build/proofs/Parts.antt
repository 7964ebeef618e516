-- Configurations without a fault and their parts, and what the calls answer of them.
use Rattle.std.proofs.Common.{◌≡◌, ◌≤◌, ℕ, Bool, true, false, nat_lt, length, List, Option, Some, None, Result, Ok, Err, IsOk, IfOk, if◌then◌else◌, refl, sym, ap, subst, inl, inr, arith}
use Rattle.std.proofs.lemmas.Bool.Decides.{nat_tests}
use Rattle.contract_words.specs.Gives.{Gives}
use Rattle.conf_shape.specs.declared.fault.PointedFault.{PointedFault}
use Rattle.conf_shape.specs.declared.kind.FaultKind.TheVariants.{TooManyLegs}
use Rattle.conf_shape.specs.Fault.{fault, first_of, unless}
use Rattle.conf_json.specs.declared.fault.ConfFault.{ConfFault}
use Rattle.conf_json.specs.declared.fault.ConfStop.{ConfStop}
use Rattle.conf_json.specs.declared.fault.ConfStop.TheVariants.{Fault, NoMemory}
use Rattle.conf_json.specs.declared.settings.Meant.{Meant}
use Rattle.conf_json.specs.Fault.{fault_of, lifted, ◌>>=◌}
use Rattle.conf_json.specs.Reads.{Reads}
use Rattle.conf_draft.specs.References.{pipelines_at}
use Rattle.graph_build.specs.declared.leg.Leg.{Leg}
use Rattle.graph_build.specs.Built.{roots_fault, legs_fault, legs_of}
use Rattle.graph_build.specs.Checks.{Builds, Checks}
use Rattle.graph_build.specs.Conf.{Conf, with_legs, conf_of, IsPart, HasLegs}
use Rattle.graph_build.specs.Cycles.{cycles_fault}
use Rattle.graph_build.specs.Found.{FindsLegs}
use Rattle.graph_build.specs.Legs.{max_legs, all_legs}

-- what is spelled, with these legs
abbrev built : Meant → Result (List Leg) ConfFault → Result Conf ConfFault
built meant found = found >>= λ legs. Ok (record { meant = meant; legs = legs })

part_of_built : {X : Type 0} (part : Meant → X) (x : X) (meant : Meant) (legs : List Leg) (found : Result (List Leg) ConfFault)
    → HasLegs legs (built meant found) → x ≡ part meant → IsPart (λ (c : Conf). part c.meant) x (built meant found)
part_of_built part x meant legs (Ok ls) has is = is
part_of_built part x meant legs (Err f) has is = absurd has

-- what settings show is part of a configuration that has legs
pub part-of : {X : Type 0} (part : Meant → X) (x : X) (settings : Result Meant ConfFault) (legs : List Leg)
    → HasLegs legs (settings >>= with_legs) → IfOk settings (λ meant. x ≡ part meant) → IsPart (λ (c : Conf). part c.meant) x (settings >>= with_legs)
part-of part x (Ok meant) legs has is = part_of_built part x meant legs (lifted (legs_of meant.draft)) has is
part-of part x (Err f) legs has is = absurd has

few_by : (b : Bool) (meant : Meant) (at : List ℕ) (ls legs : List Leg) → b ≡ nat_lt max_legs (length ls)
    → HasLegs legs (built meant (lifted (unless (if b then Some (fault TooManyLegs at) else None) ls))) → length legs ≤ max_legs
few_by true meant at ls legs is has = absurd has
few_by false meant at ls legs is has =
    let few : length ls ≤ max_legs = grind (arith, nat_tests) in
    subst (λ (l : List Leg). length l ≤ max_legs) (sym has) few

few_unless : (meant : Meant) (at : List ℕ) (ls legs : List Leg) (c r : Option PointedFault)
    → HasLegs legs (built meant (lifted (unless (first_of c (first_of r (legs_fault at ls))) ls))) → length legs ≤ max_legs
few_unless meant at ls legs (Some f) r has = absurd has
few_unless meant at ls legs None (Some f) has = absurd has
few_unless meant at ls legs None None has = few_by (nat_lt max_legs (length ls)) meant at ls legs refl has

-- a configuration without a fault has no more legs than there may be
pub few-legs : (settings : Result Meant ConfFault) (legs : List Leg) → HasLegs legs (settings >>= with_legs) → length legs ≤ max_legs
few-legs (Ok meant) legs has =
    few_unless meant pipelines_at (all_legs meant.draft) legs (cycles_fault meant.draft pipelines_at meant.draft.pipelines) (roots_fault meant.draft pipelines_at) has
few-legs (Err f) legs has = absurd has

-- it has no fault
pub has-no-fault : (legs : List Leg) (conf : Result Conf ConfFault) → HasLegs legs conf → IsOk conf
has-no-fault legs (Ok c) has = refl
has-no-fault legs (Err f) has = absurd has

-- what is found of settings is found of the configuration
pub finds-legs : (settings : Result Meant ConfFault) (result : Result (List Leg) ConfStop) → IsOk settings
    → IfOk settings (λ meant. Gives (λ legs. legs) fault_of result (lifted (legs_of meant.draft))) → FindsLegs result (settings >>= with_legs)
finds-legs (Ok meant) (Ok legs) ok is = subst (λ found. HasLegs legs (built meant found)) (sym is) refl
finds-legs (Ok meant) (Err (Fault f)) ok is = ap (built meant) is
finds-legs (Ok meant) (Err NoMemory) ok is = tt
finds-legs (Err f) result ok is = cc

-- the fault of settings is that of the configuration
pub checks-unread : (before now : ℕ) (bytes : List ℕ) (stop : ConfStop) → Reads before now (Err stop) bytes → Checks before now (Err stop) bytes
unfolding conf_of
checks-unread before now bytes (Fault f) reads = elim reads [
  | inl is ↦ inl (ap (λ settings. settings >>= with_legs) is)
  | inr size ↦ inr size
]
checks-unread before now bytes NoMemory reads = tt

-- what is built is what is checked
pub checks-built : (before now : ℕ) (bytes : List ℕ) (result : Result (List ℕ) ConfStop) → now ≡ before → Builds result bytes → Checks before now result bytes
checks-built before now bytes (Ok plan) same builds = (builds.0, builds.1, same)
checks-built before now bytes (Err (Fault f)) same builds = inl builds
checks-built before now bytes (Err NoMemory) same builds = tt
