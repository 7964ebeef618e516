-- Each file that is created leaves the rest to be created.
use Rattle.std.proofs.Common.{List, [], ◌∙◌, refl, subst}
use Rattle.conf_draft.specs.declared.draft.Exporter.{Exporter}
use Rattle.tele_io.specs.Views.{Told}
use Rattle.export_sink.specs.Files.{AreApart}
use Rattle.export_sink.specs.Writing.{empty_files, file}
use Rattle.export_sink.proofs.Writing.{LeadsNew, by_first, creates-on, creates-stop}
use Rattle.export_sink.proofs.write.create_files.Goals as goal

pub returns-in-Err : goal.returns-in-Err
returns-in-Err g c =
    let inv = c.files.invariant in
    let e = c.exporter-item.result in
    let begun = g.D.Disk.seen c.args.disk.now in
    let was = g.D.Disk.seen c.files.disk in
    let all = empty_files c.args.exporters.now in
    let whole = by_first c.files.left.now e c.in-len1-up.len_at_least c.exporter-item.is in
    let apart = subst (λ (es : List Exporter). AreApart (empty_files es)) whole inv.apart in
    let leads = subst (λ (es : List Exporter). Told (LeadsNew all (empty_files es)) begun.held was.held) whole inv.told in
    creates-stop all _ (file e []) apart.0 _ c.as_str.ensures.value begun was _ c.in-Err.fault leads inv.writes inv.reads c.in-Err.ensures

pub files-preserved : goal.files-preserved
files-preserved g c =
    let inv = c.files.invariant in
    let e = c.exporter-item.result in
    let begun = g.D.Disk.seen c.args.disk.now in
    let was = g.D.Disk.seen c.files.disk in
    let all = empty_files c.args.exporters.now in
    let whole = by_first c.files.left.now e c.in-len1-up.len_at_least c.exporter-item.is in
    let apart = subst (λ (es : List Exporter). AreApart (empty_files es)) whole inv.apart in
    let leads = subst (λ (es : List Exporter). Told (LeadsNew all (empty_files es)) begun.held was.held) whole inv.told in
    record {
      apart = apart.1;
      told = creates-on all _ (file e []) apart.0 _ c.as_str.ensures.value begun was _ refl leads c.in-Ok.ensures;
      writes = c.in-Ok.ensures.cause ∙ inv.writes;
      reads = c.in-Ok.ensures.other_count ∙ inv.reads;
    }
