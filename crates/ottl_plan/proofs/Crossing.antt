-- A planned statement says the same to every thread: threads may share one, and one may be handed to another thread.
use denote.Param.Send.{IsSend, IsSync, sendable}
use denote.Param.SendFields.{declared_send, declared_sync}
use Rattle.std.proofs.Crossing as std
use Rattle.func_text.proofs.Crossing.{pattern_send, pattern_sync}
use Rattle.pdata_tree.proofs.path.PathTo.TheSendSync as PathTo
use Rattle.pdata_tree.proofs.place.Context.TheSendSync as Context
use Rattle.pdata_value.proofs.bytes.Bytes.TheSendSync as Bytes
use Rattle.pdata_value.proofs.spelling.Spelling.TheSendSync as Spelling
use Rattle.pdata_value.proofs.text.Text.TheSendSync as Text
use Rattle.pdata_value.proofs.value.Value.TheLaws.TheKnot as Values
use Rattle.pdata_value.specs.contracts.value.Value as Value
use Rattle.ottl_plan.proofs.planned.PlannedExpr.TheLaws.TheKnot as Tree
use Rattle.ottl_plan.specs.contracts.argument.ArgumentLiteral as ArgumentLiteral
use Rattle.ottl_plan.specs.contracts.function.Editor as Editor
use Rattle.ottl_plan.specs.contracts.planned.Arguments as Arguments
use Rattle.ottl_plan.specs.contracts.planned.Edit as Edit
use Rattle.ottl_plan.specs.contracts.planned.PlannedCondition as PlannedCondition
use Rattle.ottl_plan.specs.contracts.planned.PlannedExpr as PlannedExpr
use Rattle.ottl_plan.specs.contracts.planned.PlannedStatement as PlannedStatement

ruleset plain = (std.crosses, sendable)

editor_sync : IsSync Editor.the_row
editor_sync = search plain depth 30

editor_send : IsSend Editor.the_row
editor_send = search plain depth 30

literal_sync : IsSync ArgumentLiteral.the_row
literal_sync = search (pattern_sync, plain) depth 30 fits 5000

value_sync : IsSync (Value.the_field).row
value_sync = search (Values.sync-Value, Spelling.the_sync, Bytes.the_sync, Text.the_sync, plain) depth 30 fits 5000

value_send : IsSend (Value.the_field).row
value_send = search (Values.send-Value, Spelling.the_send, Bytes.the_send, Text.the_send, plain) depth 30 fits 5000

literal_send : IsSend ArgumentLiteral.the_row
literal_send = search (pattern_send, plain) depth 30 fits 5000

expr_sync : IsSync (PlannedExpr.the_field).row
expr_sync =
    Tree.sync-PlannedExpr value_sync (search plain depth 30) (search plain depth 30) (search plain depth 30) (search (literal_sync, plain) depth 30) (search plain depth 60 fits 20000) (search plain depth 30) (search (Text.the_sync, plain) depth 30)

arguments_sync : IsSync (Arguments.the_field).row
arguments_sync =
    Tree.sync-Arguments value_sync (search plain depth 30) (search plain depth 30) (search plain depth 30) (search (literal_sync, plain) depth 30) (search plain depth 60 fits 20000) (search plain depth 30) (search (Text.the_sync, plain) depth 30)

edit_sync : IsSync Edit.the_row
edit_sync =
    declared_sync Edit.the_type (search (editor_sync, plain) depth 30, (search (PathTo.the_sync, plain) depth 30, (search (arguments_sync, plain) depth 30, tt)))

pub condition_sync : IsSync PlannedCondition.the_row
condition_sync = declared_sync PlannedCondition.the_type (search (Context.the_sync, plain) depth 30, (search (expr_sync, plain) depth 30, tt))

pub statement_sync : IsSync PlannedStatement.the_row
statement_sync =
    declared_sync PlannedStatement.the_type (search (Context.the_sync, plain) depth 30, (search (edit_sync, plain) depth 30, (search (condition_sync, plain) depth 30, tt)))

expr_send : IsSend (PlannedExpr.the_field).row
expr_send =
    Tree.send-PlannedExpr value_send (search plain depth 30) (search plain depth 30) (search plain depth 30) (search (literal_send, plain) depth 30) (search plain depth 60 fits 20000) (search plain depth 30) (search (Text.the_send, plain) depth 30)

arguments_send : IsSend (Arguments.the_field).row
arguments_send =
    Tree.send-Arguments value_send (search plain depth 30) (search plain depth 30) (search plain depth 30) (search (literal_send, plain) depth 30) (search plain depth 60 fits 20000) (search plain depth 30) (search (Text.the_send, plain) depth 30)

edit_send : IsSend Edit.the_row
edit_send =
    declared_send Edit.the_type (search (editor_send, plain) depth 30, (search (PathTo.the_send, plain) depth 30, (search (arguments_send, plain) depth 30, tt)))

pub condition_send : IsSend PlannedCondition.the_row
condition_send = declared_send PlannedCondition.the_type (search (Context.the_send, plain) depth 30, (search (expr_send, plain) depth 30, tt))

pub statement_send : IsSend PlannedStatement.the_row
statement_send =
    declared_send PlannedStatement.the_type (search (Context.the_send, plain) depth 30, (search (edit_send, plain) depth 30, (search (condition_send, plain) depth 30, tt)))
