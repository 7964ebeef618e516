-- Each text that is added leaves the rest to be added.
use Rattle.std.proofs.Common.{List, ℕ, ◌-◌, ◌∷◌, ◌∙◌, subst, length, take, drop}
use Rattle.conf_draft.specs.declared.draft.Exporter.{Exporter}
use Rattle.tele_io.specs.Views.{Told}
use Rattle.export_sink.specs.Files.{AreApart}
use Rattle.export_sink.specs.Writing.{pieces, file}
use Rattle.export_sink.proofs.Writing.{Leads, by_first, adds-on, adds-stop}
use Rattle.export_sink.proofs.write.write_texts.Goals as goal

pub returns-in-Err : goal.returns-in-Err
returns-in-Err g c =
    let inv = c.files.invariant in
    let e = c.exporter-item.result in
    let text = c.text-item.result in
    let begun = g.D.Disk.seen c.args.disk.now in
    let was = g.D.Disk.seen c.files.disk in
    let all = pieces c.args.exporters.now c.args.texts.now in
    let es = by_first c.files.exporters.now e c.in-len1-up.len_at_least c.exporter-item.is in
    let ts = by_first c.files.texts.now text c.in-len1-up-texts.len_at_least c.text-item.is in
    let later = take (length c.files.texts.now - 1) (drop 1 c.files.texts.now) in
    let apart = subst (λ (xs : List Exporter). AreApart (pieces xs (text ∷ later))) es (subst (λ (ys : List (List ℕ)). AreApart (pieces c.files.exporters.now ys)) ts inv.apart) in
    let leads = subst (λ (xs : List Exporter). Told (Leads all (pieces xs (text ∷ later))) begun.held was.held) es
    (subst (λ (ys : List (List ℕ)). Told (Leads all (pieces c.files.exporters.now ys)) begun.held was.held) ts inv.told) in
    adds-stop all _ (file e text) apart.0 _ c.as_str.ensures.value begun was _ c.in-Err.fault _ c.as_slice.ensures leads inv.writes inv.reads c.in-Err.ensures.append

pub files-preserved : goal.files-preserved
files-preserved g c =
    let inv = c.files.invariant in
    let e = c.exporter-item.result in
    let text = c.text-item.result in
    let begun = g.D.Disk.seen c.args.disk.now in
    let was = g.D.Disk.seen c.files.disk in
    let all = pieces c.args.exporters.now c.args.texts.now in
    let es = by_first c.files.exporters.now e c.in-len1-up.len_at_least c.exporter-item.is in
    let ts = by_first c.files.texts.now text c.in-len1-up-texts.len_at_least c.text-item.is in
    let later = take (length c.files.texts.now - 1) (drop 1 c.files.texts.now) in
    let apart = subst (λ (xs : List Exporter). AreApart (pieces xs (text ∷ later))) es (subst (λ (ys : List (List ℕ)). AreApart (pieces c.files.exporters.now ys)) ts inv.apart) in
    let leads = subst (λ (xs : List Exporter). Told (Leads all (pieces xs (text ∷ later))) begun.held was.held) es
    (subst (λ (ys : List (List ℕ)). Told (Leads all (pieces c.files.exporters.now ys)) begun.held was.held) ts inv.told) in
    record {
      apart = apart.1;
      told = adds-on all _ (file e text) apart.0 _ c.as_str.ensures.value begun was _ _ c.as_slice.ensures leads c.in-Ok.ensures.append;
      writes = c.in-Ok.ensures.append.cause ∙ inv.writes;
      reads = c.in-Ok.ensures.append.other_count ∙ inv.reads;
    }
