-- A written line is read again as the same payload.
use Rattle.std.proofs.Common.{◌≡◌, ◌∙◌, Ok, ap}
use Rattle.pdata_tree.specs.declared.batch.Batch.{Batch}
use Rattle.json_text.proofs.Utf8.{written_read}
use Rattle.otlp_json.specs.declared.counts.Counts.{Counts}
use Rattle.otlp_json.specs.Reads.{Read, ◌>>=◌}
use Rattle.otlp_json.specs.Limits.{most_containers, none_counted}
use Rattle.otlp_json.specs.Payload.{payload_of, payload}
use Rattle.otlp_json.specs.Line.{batch_json, line}
use Rattle.otlp_json.specs.WellFormed.{IsPayload, size_of, plus}
use Rattle.otlp_json.proofs.TreesBack.{batch-back}
use Rattle.otlp_json.proofs.TreesFree.{batch-free}
use Rattle.otlp_json.proofs.TreesSound.{batch-sound}

pub line-back : (batch : Batch) → IsPayload batch → payload (line batch) ≡ Ok batch
unfolding payload
line-back batch good =
    let sound = batch-sound batch good in
    ap payload_of (written_read (batch_json batch) most_containers sound.deep sound.numerals sound.texts)
    ∙ ap (λ (r : Read (Batch × Counts)). r >>= λ p. Ok p.0)
    (batch-free (batch_json batch) 0 none_counted (batch, plus none_counted (size_of batch)) (batch-back batch good))
