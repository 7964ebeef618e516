use Rattle.std.proofs.Common.{◌≡◌, subst, inl, inr, IsUtf8, string_bytes, Ok, Err, FitsSigned, w64, to_z-of_z}
use Rattle.func_time.specs.Formats.{time_text}
use Rattle.func_time.proofs.Shown.{IsCivil, shown_is, time_text_utf8}
use Rattle.func_time.proofs.printing.time_text.Goals as goal

pub want_of_memory-requires : goal.want_of_memory-requires
want_of_memory-requires c =
    let fits : FitsSigned w64 c.args.moment = c.ranges.moment in
    let k : IsCivil c.civil.result c.args.moment = record {
      year = simp to_z-of_z at c.civil.ensures.year;
      month = simp to_z-of_z at c.civil.ensures.month;
      day = simp to_z-of_z at c.civil.ensures.day;
      hour = simp to_z-of_z at c.civil.ensures.hour;
      minute = simp to_z-of_z at c.civil.ensures.minute;
      second = simp to_z-of_z at c.civil.ensures.second;
    } in
    let utf8 = time_text_utf8 c.new.result c.args.format.now c.civil.result c.args.moment c.utf8.format c.requires k in
    let err = rw c.as_bytes.ensures.value at c.in-Err.ensures.err in
    elim err [
      | inl memory ↦ memory
      | inr (inl bad) ↦
          let e = shown_is c.new.result c.args.format.now c.from_datetime-parts.result c.civil.result c.args.moment (Ok bad.shown) c.new.ensures.strict c.utf8.format c.requires c.from_datetime-parts.ensures k bad.shown_as in
          let same : time_text c.args.moment c.args.format.now ≡ bad.shown = cc in
          absurd (bad.no_text (subst IsUtf8 same utf8))
      | inr (inr shown) ↦
          let e = shown_is c.new.result c.args.format.now c.from_datetime-parts.result c.civil.result c.args.moment (Err c.in-Err.error) c.new.ensures.strict c.utf8.format c.requires c.from_datetime-parts.ensures k shown in
          cc
    ]

pub returns-in-Ok : goal.returns-in-Ok
returns-in-Ok c =
    let fits : FitsSigned w64 c.args.moment = c.ranges.moment in
    let k : IsCivil c.civil.result c.args.moment = record {
      year = simp to_z-of_z at c.civil.ensures.year;
      month = simp to_z-of_z at c.civil.ensures.month;
      day = simp to_z-of_z at c.civil.ensures.day;
      hour = simp to_z-of_z at c.civil.ensures.hour;
      minute = simp to_z-of_z at c.civil.ensures.minute;
      second = simp to_z-of_z at c.civil.ensures.second;
    } in
    let e = shown_is c.new.result c.args.format.now c.from_datetime-parts.result c.civil.result c.args.moment (Ok (string_bytes c.in-Ok.text)) c.new.ensures.strict c.utf8.format c.requires c.from_datetime-parts.ensures k (rw c.as_bytes.ensures.value at c.in-Ok.ensures.ok) in
    cc
