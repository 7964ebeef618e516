-- What is written is what the line's payload gives.
use Rattle.std.proofs.Common.{◌∷◌, [], ◌+◌, List, ap, sym, subst}
use Rattle.export_sink.specs.Files.{AddsText, AreApart, Changed, FileText}
use Rattle.export_sink.specs.Planning.{conf_in}
use Rattle.export_sink.specs.declared.bundle.Bundle.{Bundle}
use Rattle.tele_io.specs.Views.{Told}
use Rattle.collector.proofs.RunLine.{bundle-pieces, line-notes-broken, line-texts-broken}
use Rattle.collector.proofs.configured.Counted.run_line.Goals as goal

pub write_bundle-requires : goal.write_bundle-requires
write_bundle-requires g c =
    let is = bundle-pieces (conf_in c.args.plan.now) (c.args.self.now.payloads + 1) (c.args.line.now ∷ []) c.as_slice-exporters.result.now c.in_ok-bundle.bundle c.as_slice-exporters.ensures c.in_ok-bundle.ensures in
    subst (λ (fs : List FileText). AreApart fs) (sym is) c.requires.apart

pub returns-in-Ok-clause-texts : goal.returns-in-Ok-clause-texts
returns-in-Ok-clause-texts g c =
    let is = bundle-pieces (conf_in c.args.plan.now) (c.args.self.now.payloads + 1) (c.args.line.now ∷ []) c.as_slice-exporters.result.now c.in_ok-bundle.bundle c.as_slice-exporters.ensures c.in_ok-bundle.ensures in
    subst (λ (fs : List FileText). Told (Changed AddsText fs) (g.D.Disk.seen c.args.disk.now).held (g.D.Disk.seen c.write_bundle.new.disk).held) is c.in-Ok.ensures.texts.told

pub returns-clause-texts : goal.returns-clause-texts
returns-clause-texts g c =
    let is = bundle-pieces (conf_in c.args.plan.now) (c.args.self.now.payloads + 1) (c.args.line.now ∷ []) c.as_slice-exporters.result.now c.in_ok-bundle.bundle c.as_slice-exporters.ensures c.in_ok-bundle.ensures in
    rw c.from.ensures
    (line-texts-broken _ _ is c.in-Err.stop (g.D.Disk.seen c.args.disk.now) (g.D.Disk.seen c.write_bundle.new.disk) c.in-Err.ensures.texts)

pub returns-clause-notes : goal.returns-clause-notes
returns-clause-notes g c =
    rw c.from.ensures
    (line-notes-broken _ _ (ap (λ (b : Bundle). b.notes) c.in_ok-bundle.ensures) c.in-Err.stop (g.N.Sink.seen c.args.notes.now) (g.N.Sink.seen c.write_bundle.new.notes) c.in-Err.ensures.notes)
