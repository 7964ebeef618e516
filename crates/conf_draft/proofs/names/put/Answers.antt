use Rattle.std.proofs.Common.{◌≡◌, ℕ, ◌||◌, Bool, true, false, cond, List, Option, Some, is_some, refl, sym, ap, ◌∙◌}
use Rattle.std.specs.Str.{bytes_eq}
use Rattle.std.proofs.lemmas.Bool.Decides.{same_from_decides}
use Rattle.std.proofs.lemmas.Slice.Eq.{bytes_eq-Decides}
use Rattle.std.proofs.lemmas.Map.Text.{btree_map_updates_str}
use Rattle.conf_draft.specs.Seen.{has}
use Rattle.conf_draft.proofs.names.put.Goals as goal

or_true : (b : Bool) → true ≡ (b || true)
or_true true = refl
or_true false = refl

or_false : (b : Bool) → b ≡ (b || false)
or_false true = refl
or_false false = refl

found : {X : Type 0} (b : Bool) (x : X) (o : Option X) → is_some (cond b (Some x) o) ≡ (is_some o || b)
found true x o = or_true (is_some o)
found false x o = or_false (is_some o)

either_way : (a b : List ℕ) → bytes_eq a b ≡ bytes_eq b a
either_way a b =
    same_from_decides _ _ (bytes_eq-Decides a b) (λ e. sym ((bytes_eq-Decides b a).0 e), λ p. (bytes_eq-Decides b a).1 (sym p))

pub returns-in-Ok : goal.returns-in-Ok
returns-in-Ok c = λ q.
    ap is_some (btree_map_updates_str c.args.name.now c.args.seen.now c.insert.new.self _ c.in-Ok.ensures.updates q)
    ∙ found (bytes_eq c.args.name.now q) tt _ ∙ ap (λ b. has c.args.seen.now q || b) (either_way c.args.name.now q)
