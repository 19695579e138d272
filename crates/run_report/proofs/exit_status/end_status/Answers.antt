-- What a worker ends is what it held.
use Rattle.std.proofs.Common.{◌≡◌, ◌∙◌, sym, ap}
use Rattle.std.specs.Option.{option_map_or}
use Rattle.std.specs.Prelude.{reverse}
use Rattle.run_model.specs.Ending.{ended_fault, fault_status}
use Rattle.run_model.specs.Journals.{Holding, ended_as, is_well}
use Rattle.run_model.specs.Plans.{kind_of}
use Rattle.run_model.specs.Requests.{request_out}
use Rattle.run_requests.specs.Setups.{setup_of}
use Rattle.run_report.proofs.StatusLaws.{worked}
use Rattle.run_report.proofs.exit_status.end_status.Goals as goal

pub watch_status-requires-clause-held : goal.watch_status-requires-clause-held
watch_status-requires-clause-held c = sym c.in-Watch.ensures

pub returns-in-Nothing : goal.returns-in-Nothing
returns-in-Nothing c = rw (← c.in-Nothing.ensures)

pub returns-in-Work : goal.returns-in-Work
returns-in-Work c =
    let run = c.args.run.now in
    c.work_status.ensures
    ∙ worked (is_well (ended_as (kind_of run.plan.now.actions c.in-Work.action) c.args.outcome.now)) (request_out (setup_of run) (reverse c.args.past.now) c.args.worker) c.args.outcome.now
    ∙ ap (λ (h : Holding). option_map_or fault_status (ended_fault (setup_of run) (reverse c.args.past.now) c.args.worker c.args.outcome.now h) 0) c.in-Work.ensures

pub returns-in-Watch : goal.returns-in-Watch
returns-in-Watch c =
    let run = c.args.run.now in
    c.watch_status.ensures
    ∙ ap (λ (h : Holding). option_map_or fault_status (ended_fault (setup_of run) (reverse c.args.past.now) c.args.worker c.args.outcome.now h) 0) c.in-Watch.ensures
