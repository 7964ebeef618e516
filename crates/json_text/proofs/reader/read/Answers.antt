use Rattle.std.proofs.Common.{Result, sym, subst}
use Rattle.contract_words.specs.Gives.{Gives}
use Rattle.json_text.specs.Reading.{fault_of}
use Rattle.json_text.specs.declared.json.Json.{Json}
use Rattle.json_text.specs.declared.error.JsonFault.{JsonFault}
use Rattle.json_text.proofs.Values.{json_text-utf8}
use Rattle.json_text.proofs.reader.read.Goals as goal

pub returns-in-Ok : goal.returns-in-Ok
returns-in-Ok c =
    subst (λ (meant : Result Json JsonFault). Gives (λ json. json) fault_of c.read_document.result meant)
    (sym (json_text-utf8 c.in-Ok.text.now c.args.bytes.now c.in-Ok.ensures.cases.0 c.in-Ok.ensures.cases.1 c.args.depth)) c.read_document.ensures
