-- The report of the poll says what fails; where none came, the exchange did.
use Rattle.std.proofs.Common.{◌≡◌, ◌∙◌, Option, sym, ap}
use Rattle.std.specs.Option.{option_map_or}
use Rattle.std.specs.Prelude.{reverse}
use Rattle.engine_types.specs.declared.RunFault.{RunFault}
use Rattle.run_model.specs.Ending.{fault_status}
use Rattle.run_model.specs.Requests.{request_out}
use Rattle.run_requests.specs.Setups.{setup_of}
use Rattle.run_report.proofs.Reported.{unreported, watch_law}
use Rattle.run_report.proofs.StatusLaws.{exchange_law}
use Rattle.run_report.proofs.exit_status.watch_status.Goals as goal

pub returns-in-Some : goal.returns-in-Some
returns-in-Some c =
    let run = c.args.run.now in
    c.report_status.ensures
    ∙ ap (λ (o : Option RunFault). option_map_or fault_status o 0)
    (watch_law (setup_of run) (reverse c.args.past.now) c.args.worker c.args.slot c.args.outcome.now c.in-Some.report.now c.requires.none c.requires.held (sym c.in-Some.ensures))

pub returns-in-None : goal.returns-in-None
returns-in-None c =
    let run = c.args.run.now in
    c.outcome_status.ensures
    ∙ exchange_law (request_out (setup_of run) (reverse c.args.past.now) c.args.worker) c.args.outcome.now
    ∙ ap (λ (o : Option RunFault). option_map_or fault_status o 0)
    (unreported (setup_of run) (reverse c.args.past.now) c.args.worker c.args.slot c.args.outcome.now (sym c.in-None.ensures))
