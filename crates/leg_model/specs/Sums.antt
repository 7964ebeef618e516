-- Totals added up.
use Rattle.std.specs.Prelude.{◌+◌, List, [], ◌∷◌}
use Rattle.leg_model.specs.Totals.{plus}
use Rattle.leg_model.specs.declared.FileTotal.{FileTotal}
use Rattle.leg_model.specs.declared.LegCounts.{LegCounts}
use Rattle.leg_model.specs.declared.Totals.{Totals}

-- the counts of two lists, leg by leg
abbrev pub plus_legs : List LegCounts → List LegCounts → List LegCounts
plus_legs [] bs = []
plus_legs (a ∷ more) [] = []
plus_legs (a ∷ more) (b ∷ bs) = plus a b ∷ plus_legs more bs

-- those of an exporter
abbrev pub plus_file : FileTotal → FileTotal → FileTotal
plus_file a b = record { lines = a.lines + b.lines; bytes = a.bytes + b.bytes }

-- those of two lists, exporter by exporter
abbrev pub plus_files : List FileTotal → List FileTotal → List FileTotal
plus_files [] bs = []
plus_files (a ∷ more) [] = []
plus_files (a ∷ more) (b ∷ bs) = plus_file a b ∷ plus_files more bs

-- two totals of one configuration
abbrev pub plus_totals : Totals → Totals → Totals
plus_totals a b = record {
  accepted = a.accepted + b.accepted;
  refused = a.refused + b.refused;
  legs = plus_legs a.legs b.legs;
  files = plus_files a.files b.files;
}
