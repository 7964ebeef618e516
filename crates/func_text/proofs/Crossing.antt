-- A compiled pattern says the same to every thread: threads may share one, and one may be handed to another thread.
-- `search` meets its bounds at the whole, so each type that holds the tree of a pattern is a step of its own.
use denote.Param.Send.{IsSend, IsSync, sendable, view_send, view_sync}
use denote.Param.SendFields.{declared_send, declared_sync}
use Rattle.std.proofs.Crossing as std
use Rattle.regex_dfa.proofs.dfa.Dfa.TheSendSync as Dfa
use Rattle.regex_extract.proofs.frames.Frame.TheSendSync as Frame
use Rattle.regex_hir.specs.contracts.hir.Hir as Hir
use Rattle.regex_hir.proofs.hir.Hir.TheLaws.TheKnot as Tree
use Rattle.regex_literal.proofs.byte_set.ByteSet.TheSendSync as ByteSet
use Rattle.regex_literal.proofs.caseless.Caseless.TheSendSync as Caseless
use Rattle.regex_literal.proofs.prefilter.Prefilter.TheSendSync as Prefilter
use Rattle.regex_meta.specs.contracts.plan.Plan as Plan
use Rattle.regex_meta.specs.contracts.plan.Plans as Plans
use Rattle.regex_meta.specs.contracts.signs.Signs as Signs
use Rattle.regex_meta.specs.contracts.program.Program as Program
use Rattle.regex.specs.contracts.pattern.Pattern as Compiled
use Rattle.regex.specs.contracts.string.regex.Regex as Regex
use Rattle.func_text.specs.contracts.pattern.Pattern as Pattern
use Rattle.func_text.specs.contracts.pattern.Pattern.TheInside as Inside

ruleset plain = (std.crosses, sendable)

hir_sync : IsSync Hir.the_row
hir_sync = search (Tree.sync-Hir, plain) depth 30 fits 5000

plan_sync : IsSync Plan.the_row
plan_sync = search (hir_sync, Prefilter.the_sync, Frame.the_sync, plain) depth 30 fits 5000

plans_sync : IsSync Plans.the_row
plans_sync = search (plan_sync, plain) depth 30 fits 5000

signs_sync : IsSync Signs.the_row
signs_sync = search (hir_sync, Caseless.the_sync, plain) depth 30 fits 5000

program_sync : IsSync Program.the_row
program_sync =
    declared_sync Program.the_type (hir_sync, (Dfa.the_sync, (search (plans_sync, plain), (search (signs_sync, plain) depth 30, (search (ByteSet.the_sync, plain) depth 30, (search plain depth 30, (search plain depth 30, (search plain depth 30, tt))))))))

compiled_sync : IsSync Compiled.the_row
compiled_sync =
    declared_sync Compiled.the_type (search plain depth 30, (search plain depth 30, (search plain depth 30, (search (program_sync, plain) depth 30, tt))))

pub regex_sync : IsSync Regex.the_row
regex_sync = declared_sync Regex.the_type (search (compiled_sync, plain) depth 30, tt)

pub pattern_sync : IsSync Pattern.the_row
pattern_sync = view_sync _ _ _ _ _ (declared_sync Inside.the_type (regex_sync, tt))

hir_send : IsSend Hir.the_row
hir_send = search (Tree.send-Hir, plain) depth 30 fits 5000

plan_send : IsSend Plan.the_row
plan_send = search (hir_send, Prefilter.the_send, Frame.the_send, plain) depth 30 fits 5000

plans_send : IsSend Plans.the_row
plans_send = search (plan_send, plain) depth 30 fits 5000

signs_send : IsSend Signs.the_row
signs_send = search (hir_send, Caseless.the_send, plain) depth 30 fits 5000

program_send : IsSend Program.the_row
program_send =
    declared_send Program.the_type (hir_send, (Dfa.the_send, (search (plans_send, plain), (search (signs_send, plain) depth 30, (search (ByteSet.the_send, plain) depth 30, (search plain depth 30, (search plain depth 30, (search plain depth 30, tt))))))))

compiled_send : IsSend Compiled.the_row
compiled_send =
    declared_send Compiled.the_type (search plain depth 30, (search plain depth 30, (search plain depth 30, (search (program_send, plain) depth 30, tt))))

pub regex_send : IsSend Regex.the_row
regex_send = declared_send Regex.the_type (search (compiled_send, plain) depth 30, tt)

pub pattern_send : IsSend Pattern.the_row
pattern_send = view_send _ _ _ _ _ (declared_send Inside.the_type (regex_send, tt))
