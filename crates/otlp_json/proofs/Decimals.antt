-- Numbers as they are read.
use Rattle.std.proofs.Common.{◌≡◌, ℕ, ◌+◌, ◌*◌, ◌-◌, ◌≤◌, List, [], ◌∷◌, Option, None, Some, Bool, true, false, refl, arith}
use Rattle.std.specs.Prelude.{cond}
use Rattle.std.proofs.lemmas.Bool.Decides.{nat_tests}
use Rattle.pdata_value.specs.Numeral.{is_digit}
use Rattle.otlp_json.specs.Fields.{decimal}
use Rattle.otlp_json.specs.Digits.{under}

under-large : (limit n : ℕ) → limit ≤ n → under limit (Some n) ≡ None
under-large limit n h = grind (arith, nat_tests)

cond-none : (limit : ℕ) (t : Bool) (o : Option ℕ) → under limit o ≡ None → under limit (cond t o None) ≡ None
cond-none limit true o h = h
cond-none limit false o h = refl

-- a front that is too large stays so
pub decimal-large : (limit front : ℕ) (bs : List ℕ) → limit ≤ front → under limit (decimal front bs) ≡ None
decimal-large limit front [] h = under-large limit front h
decimal-large limit front (b ∷ bs) h =
    cond-none limit (is_digit b) (decimal (front * 10 + (b - 48)) bs) (decimal-large limit (front * 10 + (b - 48)) bs (omega arith))

pub ruleset larges = (decimal-large)
