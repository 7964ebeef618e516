use Rattle.std.proofs.Common.{sym}
use Rattle.otlp_json.specs.declared.error.PayloadKind.TheVariants.{BadId}
use Rattle.otlp_json.specs.Fields.{text_in, id_in, id_bytes}
use Rattle.otlp_json.proofs.Standing.{field-stands}
use Rattle.otlp_json.proofs.direct.fields.id.Goals as goal

pub returns-in-Some-clause-stands : goal.returns-in-Some-clause-stands
unfolding id_in
returns-in-Some-clause-stands g c =
    field-stands BadId text_in (id_bytes g.row.N) c.args.depth c.args.direct.now c.plain.new.direct c.in_ok-spelled.spelled.now c.in-Some.id
    (sym c.in-Some.ensures) c.in_ok-spelled.ensures.stands
