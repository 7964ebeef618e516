-- The pointer that a path spells.
use Rattle.std.specs.Prelude.{ℕ, List, []}
use Rattle.conf_shape.specs.declared.path.Path.{Path, fold-Path}
use Rattle.conf_shape.specs.declared.path.Path.TheOpen.{Path-F}
use Rattle.conf_shape.specs.Pointer.{member_of, element_of}

-- one step
abbrev pub pointer_step : Path-F (List ℕ) → List ℕ
pointer_step Path-F.Top = []
pointer_step (Path-F.Member above key) = member_of above.now key.now
pointer_step (Path-F.Element above index) = element_of above.now index

-- the JSON Pointer of a place
abbrev pub pointer_of : Path → List ℕ
pointer_of = fold-Path (List ℕ) pointer_step
