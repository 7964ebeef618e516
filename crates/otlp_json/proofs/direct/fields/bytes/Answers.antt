use Rattle.std.proofs.Common.{ap, sym}
use Rattle.std.specs.Result.{result_ok}
use Rattle.base64.specs.Engines.{standard}
use Rattle.base64.specs.GeneralPurpose as base64
use Rattle.otlp_json.specs.declared.error.PayloadKind.TheVariants.{BadBase64}
use Rattle.otlp_json.specs.Fields.{text_in, bytes_in}
use Rattle.otlp_json.proofs.Standing.{field-stands}
use Rattle.otlp_json.proofs.direct.fields.bytes.Goals as goal

pub returns-in-Ok-clause-stands : goal.returns-in-Ok-clause-stands
unfolding bytes_in
returns-in-Ok-clause-stands c =
    field-stands BadBase64 text_in (λ t. result_ok (base64.decode_of standard t)) c.args.depth c.args.direct.now c.plain.new.direct c.in_ok-spelled.spelled.now c.from_vec.result
    (rw (c.from_vec.ensures, sym c.as_bytes.ensures.value) (ap (λ r. result_ok r) c.in-Ok.ensures.ok)) c.in_ok-spelled.ensures.stands
