use Rattle.std.proofs.Common.{◌≡◌, ℕ, List, [], ◌∷◌, ◌++◌, length, Some, slice_get, refl, ap, ◌∙◌}
use Rattle.func_text.proofs.matchers.Matchers.make.Goals as goal

last : {A : Type 0} (xs : List A) (x : A) → slice_get (xs ++ x ∷ []) (length xs) ≡ Some x
last [] x = refl
last (y ∷ xs) x = last xs x

pub returns-clause-made : goal.returns-clause-made
returns-clause-made g c =
    rw (c.in_ok-push.ensures.ok, c.len-at.ensures) (last c.make_room.new.self.kept c.in_ok-matcher.matcher ∙ ap (λ (text : List ℕ). Some text) c.in_ok-matcher.ensures)
