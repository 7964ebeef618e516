-- The code's tables, seen as the definition's.
use Rattle.std.specs.Prelude.{List, map}
use Rattle.conf_shape.specs.declared.table.Member.{Member}
use Rattle.conf_shape.specs.declared.table.Kind as code
use Rattle.conf_shape.specs.Table.{Row, Kind}

-- the members of an object
abbrev pub rows_in : List Member → List Row
rows_in members = map (λ m. record { name = m.0.now; must = m.1; rule = m.2 }) members

-- the types of components of a section
abbrev pub kinds_in : List code.Kind → List Kind
kinds_in kinds = map (λ k. record { type_name = k.0.now; part = k.1 }) kinds
