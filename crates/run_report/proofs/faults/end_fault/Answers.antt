-- What a worker ends is what it held.
use Rattle.std.proofs.Common.{◌≡◌, sym, subst}
use Rattle.std.specs.Prelude.{IfOk, reverse}
use Rattle.run_model.specs.Ending.{ended_fault}
use Rattle.run_model.specs.Journals.{Holding}
use Rattle.run_requests.specs.Setups.{setup_of}
use Rattle.run_report.proofs.faults.end_fault.Goals as goal

pub watch_fault-requires-clause-held : goal.watch_fault-requires-clause-held
watch_fault-requires-clause-held c = sym c.in-Watch.ensures

pub returns-in-Nothing : goal.returns-in-Nothing
returns-in-Nothing c = rw (← c.in-Nothing.ensures)

pub returns-in-Work : goal.returns-in-Work
returns-in-Work c =
    let run = c.args.run.now in
    subst (λ (h : Holding). IfOk c.work_fault.result (λ fault. fault ≡ ended_fault (setup_of run) (reverse c.args.past.now) c.args.worker c.args.outcome.now h)) c.in-Work.ensures
    c.work_fault.ensures

pub returns-in-Watch : goal.returns-in-Watch
returns-in-Watch c =
    let run = c.args.run.now in
    subst (λ (h : Holding). IfOk c.watch_fault.result (λ fault. fault ≡ ended_fault (setup_of run) (reverse c.args.past.now) c.args.worker c.args.outcome.now h)) c.in-Watch.ensures
    c.watch_fault.ensures
