use Rattle.std.proofs.Common.{◌≡◌, ◌++◌, codes, rules, to_z-of_z, SFits, w32, to_z, of_z}
use Rattle.std.specs.Prelude.{false}
use Rattle.otlp_json.specs.Line.{u64_member, i32_member, u32_member, id_member, text_member, body_member, attributes_member}
use Rattle.otlp_json.proofs.Words.{Adds-append}
use Rattle.otlp_json.proofs.writing.push_record_members.Goals as goal

pub returns : goal.returns
returns c =
    let log = c.args.log.now in
    let one = u64_member (codes "timeUnixNano") log.time in
    let two = u64_member (codes "observedTimeUnixNano") log.observed in
    let three = i32_member (codes "severityNumber") log.severity in
    let four = text_member (codes "severityText") log.severity_text in
    let five = body_member log.body in
    let six = attributes_member log.attributes in
    let seven = u32_member (codes "droppedAttributesCount") log.dropped in
    let eight = u32_member (codes "flags") log.flags in
    let nine = id_member (codes "traceId") log.trace_id in
    let ten = id_member (codes "spanId") log.span_id in
    let fits : SFits w32 log.severity = search rules in
    let same : to_z w32 (of_z w32 log.severity) ≡ log.severity = to_z-of_z fits in
    Adds-append (one ++ two ++ three ++ four ++ five ++ six ++ seven ++ eight ++ nine) ten false _ _ _ _ _
    (Adds-append (one ++ two ++ three ++ four ++ five ++ six ++ seven ++ eight) nine false _ _ _ _ _
    (Adds-append (one ++ two ++ three ++ four ++ five ++ six ++ seven) eight false _ _ _ _ _
    (Adds-append (one ++ two ++ three ++ four ++ five ++ six) seven false _ _ _ _ _
    (Adds-append (one ++ two ++ three ++ four ++ five) six false _ _ _ _ _
    (Adds-append (one ++ two ++ three ++ four) five false _ _ _ _ _
    (Adds-append (one ++ two ++ three) four false _ _ _ _ _
    (Adds-append (one ++ two) three false _ _ _ _ _
    (Adds-append one two false _ _ _ _ _ c.in_ok-time.ensures c.in_ok-observed.ensures)
    (rw same at c.in_ok-severity.ensures))
    c.in_ok-text.ensures)
    c.in_ok-body.ensures)
    c.in_ok-attributes.ensures)
    c.in_ok-dropped.ensures)
    c.in_ok-flags.ensures)
    c.in_ok-trace.ensures)
    c.in_ok-span.ensures
