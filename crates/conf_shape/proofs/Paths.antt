-- The pointer of a path, step by step.
use Rattle.std.proofs.Common.{◌≡◌, List, ℕ, [], Bor, rules}
use Rattle.conf_shape.specs.declared.path.Path.{Path, the_lemmas}
use Rattle.conf_shape.specs.declared.path.Path.TheVariants.{Top, Member}
use Rattle.conf_shape.specs.Pointer.{member_of}
use Rattle.conf_shape.specs.Path.{pointer_of}

pub pointer_of-Top : pointer_of Top ≡ []
pointer_of-Top = search (rules, the_lemmas)

pub pointer_of-Member : (above : Bor Path) (key : Bor (List ℕ)) → pointer_of (Member above key) ≡ member_of (pointer_of above.now) key.now
pointer_of-Member above key = search (rules, the_lemmas)
