-- What stands in each object of a configuration.
use Rattle.std.specs.Prelude.{ℕ, Bool, true, false, List, [], ◌∷◌, codes}
use Prim.Native.String.{String}
use Rattle.conf_shape.specs.declared.table.Part.{Part}
use Rattle.conf_shape.specs.declared.table.Part.TheVariants.{Top, FileReceiver, Transform, Group, Filter, Logs, GroupByAttrs, Routing, Route, File, Service, Pipeline}
use Rattle.conf_shape.specs.declared.table.Section.{Section}
use Rattle.conf_shape.specs.declared.table.Section.TheVariants.{Receivers, Processors, Connectors, Exporters, Pipelines}
use Rattle.conf_shape.specs.declared.table.Words.{Words}
use Rattle.conf_shape.specs.declared.table.Words.TheVariants.{Modes, GroupContexts, RouteContexts, Actions}
use Rattle.conf_shape.specs.declared.table.Rule.{Rule}
use Rattle.conf_shape.specs.declared.table.Rule.TheVariants.{AnyText, FilledText, Word, Texts, Object, Objects, Components, Component}

-- a member of an object: its name, whether it must stand, and what stands there
pub record Row : Type 0 where
  pub name : List ℕ
  pub must : Bool
  pub rule : Rule

-- a member that must stand
abbrev pub must : String → Rule → Row
must name rule = record { name = codes name; must = true; rule = rule }

-- a member that may be absent
abbrev pub may : String → Rule → Row
may name rule = record { name = codes name; must = false; rule = rule }

-- the members of each object
abbrev pub rows_of : Part → List Row
rows_of Top =
    must "receivers" (Component Receivers)
    ∷ may "processors" (Components Processors)
    ∷ may "connectors" (Components Connectors)
    ∷ must "exporters" (Components Exporters)
    ∷ must "service" (Object Service) ∷ []
rows_of FileReceiver = []
rows_of Transform = may "error_mode" (Word Modes) ∷ must "log_statements" (Objects Group) ∷ []
rows_of Group =
    must "context" (Word GroupContexts)
    ∷ may "conditions" Texts
    ∷ must "statements" Texts ∷ []
rows_of Filter = may "error_mode" (Word Modes) ∷ must "logs" (Object Logs) ∷ []
rows_of Logs = must "log_record" Texts ∷ []
rows_of GroupByAttrs = may "keys" Texts ∷ []
rows_of Routing =
    may "error_mode" (Word Modes)
    ∷ may "default_pipelines" Texts
    ∷ must "table" (Objects Route) ∷ []
rows_of Route =
    may "context" (Word RouteContexts)
    ∷ must "condition" AnyText
    ∷ must "pipelines" Texts
    ∷ may "action" (Word Actions) ∷ []
rows_of File = must "path" FilledText ∷ []
rows_of Service = must "pipelines" (Components Pipelines) ∷ []
rows_of Pipeline = must "receivers" Texts ∷ may "processors" Texts ∷ must "exporters" Texts ∷ []

-- a type of component, and the object that stands under its name
pub record Kind : Type 0 where
  pub type_name : List ℕ
  pub part : Part

-- a type by its name, and its object
abbrev pub kind : String → Part → Kind
kind name part = record { type_name = codes name; part = part }

-- the components of each section
abbrev pub kinds_of : Section → List Kind
kinds_of Receivers = kind "otlpjsonfile" FileReceiver ∷ []
kinds_of Processors =
    kind "transform" Transform
    ∷ kind "filter" Filter
    ∷ kind "groupbyattrs" GroupByAttrs ∷ []
kinds_of Connectors = kind "routing" Routing ∷ []
kinds_of Exporters = kind "file" File ∷ []
kinds_of Pipelines = kind "logs" Pipeline ∷ []

-- the texts of each set
abbrev pub words_of : Words → List (List ℕ)
words_of Modes = codes "ignore" ∷ codes "silent" ∷ codes "propagate" ∷ []
words_of GroupContexts = codes "resource" ∷ codes "scope" ∷ codes "log" ∷ []
words_of RouteContexts = codes "resource" ∷ codes "log" ∷ []
words_of Actions = codes "move" ∷ codes "copy" ∷ []
