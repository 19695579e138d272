-- The report of the poll says what fails; where none came, the exchange did.
use Rattle.std.proofs.Common.{◌≡◌, ◌∙◌, Some, sym, ap, subst}
use Rattle.std.specs.Prelude.{IfOk, Option, reverse}
use Rattle.engine_types.specs.declared.RunFault.{RunFault}
use Rattle.run_requests.specs.Setups.{setup_of}
use Rattle.run_report.proofs.Reported.{unreported, watch_law}
use Rattle.run_report.proofs.faults.watch_fault.Goals as goal

pub returns-in-Some : goal.returns-in-Some
returns-in-Some c =
    let run = c.args.run.now in
    subst (λ (o : Option RunFault). IfOk c.report_fault.result (λ fault. fault ≡ o))
    (watch_law (setup_of run) (reverse c.args.past.now) c.args.worker c.args.slot c.args.outcome.now c.in-Some.report.now c.requires.none c.requires.held (sym c.in-Some.ensures))
    c.report_fault.ensures

pub returns-in_ok-fault-in-None : goal.returns-in_ok-fault-in-None
returns-in_ok-fault-in-None c =
    let run = c.args.run.now in
    ap (λ (fault : RunFault). Some fault) c.in_ok-fault-in-None.ensures
    ∙ unreported (setup_of run) (reverse c.args.past.now) c.args.worker c.args.slot c.args.outcome.now (sym c.in-None.ensures)
