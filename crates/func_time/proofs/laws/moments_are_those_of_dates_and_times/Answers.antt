use Rattle.std.proofs.Common.{◌≡◌, ◌∙◌, true, ℕ, List, Some, Result, Ok, Err, IfOk, ap, subst}
use Rattle.jiff_core.specs.DateTime.{civil_nanos}
use Rattle.jiff_core.specs.declared.civil.datetime.DateTime.{DateTime}
use Rattle.jiff_core.specs.declared.error.Error.{Error}
use Rattle.jiff_strtime.specs.Civil.{IsDateTimeOf}
use Rattle.jiff_strtime.specs.Number.{match_result}
use Rattle.jiff_strtime.specs.Reader.{parse_text}
use Rattle.jiff_strtime.specs.Text.{Parts, parts_of}
use Rattle.jiff_strtime.specs.declared.tm.BrokenDownTime.{BrokenDownTime}
use Rattle.pdata_value.specs.declared.error.EvalErr.TheVariants.{BadText}
use Rattle.func_time.specs.Formats.{is_format, full_format, full_text, moment_in, moment_of, ranged}
use Rattle.func_time.proofs.Readings.{OnlySix, reads_only_six, agrees, full_is_format}
use Rattle.func_time.proofs.laws.moments_are_those_of_dates_and_times.Goals as goal

that_date : (format text : List ℕ) (parts : BrokenDownTime) (date : DateTime) (hour minute second : ℕ)
    → is_format format ≡ true → parse_text (full_format format) (full_text format text) ≡ Ok (parts_of parts)
    → parts.hour ≡ Some hour → parts.minute ≡ Some minute → parts.second ≡ Some second → IsDateTimeOf parts date
    → moment_in text format ≡ ranged (civil_nanos date)
unfolding moment_in
that_date format text parts date hour minute second is read h m s of =
    let six : OnlySix (parts_of parts) =
    subst (λ (r : Result Parts Error). IfOk r OnlySix) read (reads_only_six (full_format format) (full_text format text) (full_is_format format is)) in
    ap (λ (r : Result Parts Error). match_result r moment_of (λ e. Err BadText)) read
    ∙ agrees parts date hour minute second six h m s of

pub returns : goal.returns
returns c = that_date
