-- Which members of an object count, where null is as good as absent and of one key the last member
-- counts.
use Rattle.std.specs.Prelude.{ℕ, Bool, false, ◌&&◌, ◌||◌, not, cond, List, [], ◌∷◌, Option, Some}
use Rattle.std.specs.Str.{bytes_eq}
use Rattle.pdata_value.specs.Pairs.{has_key}
use Rattle.json_text.specs.Kinds.{Member, is_null}

-- a member counts among those behind it: it isn't null, and none behind it has its key
abbrev pub stands : Member → List Member → Bool
stands m behind = not (is_null m.1) && not (has_key behind m.0)

-- whether a member with this key counts
abbrev pub has_standing : List ℕ → List Member → Bool
has_standing key [] = false
has_standing key (m ∷ ms) = bytes_eq m.0 key && stands m ms || has_standing key ms

-- the last member that counts among those whose key is known, else the one that is found already
abbrev pub last_standing : (List ℕ → Bool) → Option Member → List Member → Option Member
last_standing is_known found [] = found
last_standing is_known found (m ∷ ms) =
    cond (is_known m.0 && stands m ms) (last_standing is_known (Some m) ms)
    (last_standing is_known found ms)
