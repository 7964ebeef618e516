-- The plans of all statements and conditions, or the first fault among them: connectors first, in
-- each its rows; then processors, in a group the conditions first.
use Rattle.std.specs.Prelude.{ℕ, suc, List, [], ◌∷◌, Result, Ok, Err, codes}
use Rattle.ottl_lex.specs.declared.fault.SyntaxFault.{SyntaxFault}
use Rattle.ottl_parse.specs.Parsing.{statement_of, condition_of}
use Rattle.ottl_plan.specs.Planning.{planned_statement, planned_condition}
use Rattle.ottl_plan.specs.declared.fault.PlanFault.{PlanFault}
use Rattle.ottl_plan.specs.declared.planned.PlannedCondition.{PlannedCondition}
use Rattle.ottl_plan.specs.declared.planned.PlannedStatement.{PlannedStatement}
use Rattle.pdata_tree.specs.declared.place.Context.{Context}
use Rattle.pdata_tree.specs.declared.place.Context.TheVariants.{Log}
use Rattle.conf_shape.specs.Pointer.{member_of, element_of}
use Rattle.conf_draft.specs.declared.draft.Connector.{Connector}
use Rattle.conf_draft.specs.declared.draft.Draft.{Draft}
use Rattle.conf_draft.specs.declared.draft.GroupDraft.{GroupDraft}
use Rattle.conf_draft.specs.declared.draft.Processor.{Processor}
use Rattle.conf_draft.specs.declared.draft.ProcessorKind.{ProcessorKind}
use Rattle.conf_draft.specs.declared.draft.ProcessorKind.TheVariants.{Transform, Filter, GroupByAttrs}
use Rattle.conf_draft.specs.declared.draft.RowDraft.{RowDraft}
use Rattle.conf_json.specs.declared.fault.ConfFault.{ConfFault}
use Rattle.conf_json.specs.declared.fault.Inner.TheVariants.{Syntax, Plan}
use Rattle.conf_json.specs.declared.settings.Group.{Group}
use Rattle.conf_json.specs.declared.settings.Planned.{Planned}
use Rattle.conf_json.specs.declared.settings.ProcessorSettings.{ProcessorSettings}
use Rattle.conf_json.specs.declared.settings.ProcessorSettings.TheVariants as settings
use Rattle.conf_json.specs.declared.settings.RouteRow.{RouteRow}
use Rattle.conf_json.specs.declared.settings.RouteSettings.{RouteSettings}
use Rattle.conf_json.specs.Fault.{fault, ◌>>=◌}

-- what is parsed from the text there
abbrev pub parsed_at : {X : Type 0} → List ℕ → Result X SyntaxFault → Result X ConfFault
parsed_at at (Ok x) = Ok x
parsed_at at (Err f) = Err (fault at (Syntax f))

-- what the statement or condition there is planned as
abbrev pub planned_at : {X : Type 0} → List ℕ → Result X PlanFault → Result X ConfFault
planned_at at (Ok x) = Ok x
planned_at at (Err f) = Err (fault at (Plan f))

-- the plan of the statement there
abbrev pub statement_at : Context → List ℕ → List ℕ → Result PlannedStatement ConfFault
statement_at context at text =
    parsed_at at (statement_of text) >>= λ s. planned_at at (planned_statement context s)

-- the plan of the condition there
abbrev pub condition_at : Context → List ℕ → List ℕ → Result PlannedCondition ConfFault
condition_at context at text =
    parsed_at at (condition_of text) >>= λ c. planned_at at (planned_condition context c)

-- what each of a list that stands there is planned as, from that index on
abbrev pub each_at : {X Y : Type 0} → (List ℕ → X → Result Y ConfFault) → List ℕ → ℕ → List X
    → Result (List Y) ConfFault
each_at plan at index [] = Ok []
each_at plan at index (x ∷ xs) =
    plan (element_of at index) x >>= λ y. each_at plan at (suc index) xs >>= λ ys. Ok (y ∷ ys)

-- a group with these conditions
abbrev pub group_with : List ℕ → GroupDraft → List PlannedCondition → Result Group ConfFault
group_with at g cs =
    each_at (statement_at g.context) (member_of at (codes "statements")) 0 g.statements
    >>= λ ss. Ok (record { context = g.context; conditions = cs; statements = ss })

-- a group, its conditions first
abbrev pub group_at : List ℕ → GroupDraft → Result Group ConfFault
group_at at g =
    each_at (condition_at g.context) (member_of at (codes "conditions")) 0 g.conditions
    >>= group_with at g

-- a row of a routing table
abbrev pub row_at : List ℕ → RowDraft → Result RouteRow ConfFault
row_at at row =
    condition_at row.context (member_of at (codes "condition")) row.condition
    >>= λ c. Ok (record {
      context = row.context;
      condition = c;
      pipelines = row.pipelines;
      action = row.action;
    })

-- a connector
abbrev pub connector_at : List ℕ → Connector → Result RouteSettings ConfFault
connector_at at c =
    each_at row_at (member_of at (codes "table")) 0 c.rows
    >>= λ rows. Ok (record {
      error_mode = c.mode;
      table = rows;
      default_pipelines = c.defaults;
    })

-- connectors that stand there
abbrev pub connectors_at : List ℕ → List Connector → Result (List RouteSettings) ConfFault
connectors_at at [] = Ok []
connectors_at at (c ∷ cs) =
    connector_at (member_of at c.name) c >>= λ x. connectors_at at cs >>= λ xs. Ok (x ∷ xs)

-- where the conditions of a filter stand
abbrev pub filter_conditions : List ℕ → List ℕ
filter_conditions at = member_of (member_of at (codes "logs")) (codes "log_record")

-- what stands under a processor
abbrev pub kind_at : List ℕ → ProcessorKind → Result ProcessorSettings ConfFault
kind_at at (Transform t) =
    each_at group_at (member_of at (codes "log_statements")) 0 t.groups
    >>= λ gs. Ok (settings.Transform (record { error_mode = t.mode; log_statements = gs }))
kind_at at (Filter f) =
    each_at (condition_at Log) (filter_conditions at) 0 f.conditions
    >>= λ cs. Ok (settings.Filter (record { error_mode = f.mode; log_record = cs }))
kind_at at (GroupByAttrs keys) = Ok (settings.GroupByAttrs (record { keys = keys }))

-- processors that stand there
abbrev pub processors_at : List ℕ → List Processor → Result (List ProcessorSettings) ConfFault
processors_at at [] = Ok []
processors_at at (p ∷ ps) =
    kind_at (member_of at p.name) p.kind >>= λ x. processors_at at ps >>= λ xs. Ok (x ∷ xs)

-- the processors of a configuration, behind its connectors
abbrev pub planned_with : List ℕ → Draft → List RouteSettings → Result Planned ConfFault
planned_with at draft cs =
    processors_at (member_of at (codes "processors")) draft.processors
    >>= λ ps. Ok (record { connectors = cs; processors = ps })

-- all statements and conditions of a configuration that stands there
abbrev pub planned_at_place : List ℕ → Draft → Result Planned ConfFault
planned_at_place at draft =
    connectors_at (member_of at (codes "connectors")) draft.connectors >>= planned_with at draft

-- all statements and conditions of a configuration
abbrev pub planned_of : Draft → Result Planned ConfFault
planned_of draft = planned_at_place [] draft
