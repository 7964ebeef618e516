-- What may stand in a list of names.
use Rattle.std.specs.Prelude.{ℕ, Bool, List}
use Rattle.conf_shape.specs.declared.kind.FaultKind.{FaultKind}
use Rattle.conf_shape.specs.declared.kind.FaultKind.TheVariants.{UnknownComponent, UnknownPipeline}
use Rattle.conf_draft.specs.declared.draft.Draft.{Draft}
use Rattle.conf_draft.specs.declared.names.Role.{Role}
use Rattle.conf_draft.specs.declared.names.Role.TheVariants.{AsReceiver, AsProcessor, AsExporter, RoutedBy}
use Rattle.conf_draft.specs.References.{is_receiver, is_processor, is_exporter, is_fed_by}

-- the name may stand there
abbrev pub allows : Draft → Role → List ℕ → Bool
allows draft AsReceiver name = is_receiver draft name
allows draft AsProcessor name = is_processor draft name
allows draft AsExporter name = is_exporter draft name
allows draft (RoutedBy connector) name = is_fed_by draft connector.now name

-- the fault of a name that may not
abbrev pub unknown_kind : Role → FaultKind
unknown_kind AsReceiver = UnknownComponent
unknown_kind AsProcessor = UnknownComponent
unknown_kind AsExporter = UnknownComponent
unknown_kind (RoutedBy connector) = UnknownPipeline
