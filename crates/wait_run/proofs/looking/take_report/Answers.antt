use Rattle.std.proofs.Common.{refl, sym}
use Rattle.std.proofs.lemmas.Result.{err_from_is_err_and}
use Rattle.wait_run.proofs.looking.take_report.Goals as goal

pub returns-in_err-report-in-Some : goal.returns-in_err-report-in-Some
returns-in_err-report-in-Some c =
    let p = err_from_is_err_and c.from_residual.result c.from_residual.ensures.1 in
    rw p.1 (c.in-Some.report.now, sym c.in-Some.ensures, c.in_err-report-in-Some.ensures.kept)

pub returns-in_ok-report-in-Some : goal.returns-in_ok-report-in-Some
returns-in_ok-report-in-Some c = (c.in-Some.report.now, sym c.in-Some.ensures, c.in_ok-report-in-Some.ensures.reported)

pub returns-in-None : goal.returns-in-None
returns-in-None c = (sym c.in-None.ensures, refl)
