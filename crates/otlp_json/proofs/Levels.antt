-- A value, whatever levels are left.
use Rattle.std.proofs.Common.{◌≡◌, ℕ, zero, suc, ◌-◌, Bool, true, false, nat_lt, Ok, refl, arith}
use Rattle.std.specs.Prelude.{cond}
use Rattle.json_text.specs.declared.json.Json.{Json}
use Rattle.otlp_json.specs.declared.counts.Counts.{Counts}
use Rattle.otlp_json.specs.declared.error.PayloadKind.TheVariants.{TooMany}
use Rattle.otlp_json.specs.Reads.{Read, wrong, ◌>>=◌}
use Rattle.otlp_json.specs.Limits.{most_values, level, one_value}
use Rattle.otlp_json.specs.Values.{value_by, value_in}

-- where no level is left nothing follows
never : {X : Type 0} (t : Bool) (counted : Counts) (at : ℕ) (f g : Counts → Read X)
    → (cond t (Ok counted) (wrong TooMany at) >>= level zero at >>= f) ≡ (cond t (Ok counted) (wrong TooMany at) >>= level zero at >>= g)
never true counted at f g = refl
never false counted at f g = refl

-- a value is counted, and then read by its members
pub value_in-is : (levels : ℕ) (json : Json) (n : Counts)
    → value_in levels json n ≡ (one_value levels json.at n >>= value_by (levels - 1) (value_in (levels - 1)) json)
unfolding value_in
value_in-is zero json n = never (nat_lt n.values most_values) _ json.at _ _
value_in-is (suc levels) json n =
    let e : suc levels - 1 ≡ levels = omega arith in
    rw e refl

pub ruleset steps = (value_in-is)
