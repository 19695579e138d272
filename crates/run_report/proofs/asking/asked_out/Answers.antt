-- What a worker holds says what was asked.
use Rattle.std.proofs.Common.{◌≡◌, Option, sym, subst}
use Rattle.std.specs.Prelude.{IfOk, reverse}
use Rattle.engine_types.specs.declared.Request.{Request}
use Rattle.run_requests.specs.Setups.{setup_of}
use Rattle.run_report.proofs.Polled.{asked_nothing, asked_watch, asked_work}
use Rattle.run_report.proofs.asking.asked_out.Goals as goal

pub returns-in-Nothing : goal.returns-in-Nothing
returns-in-Nothing c =
    let run = c.args.run.now in asked_nothing (setup_of run) (reverse c.args.past.now) c.args.worker (sym c.in-Nothing.ensures)

pub returns-in-Work : goal.returns-in-Work
returns-in-Work c =
    let run = c.args.run.now in
    subst (λ (o : Option Request). IfOk c.asked_by_claim.result (λ request. request ≡ o))
    (asked_work (setup_of run) (reverse c.args.past.now) c.args.worker c.in-Work.action (sym c.in-Work.ensures)) c.asked_by_claim.ensures

pub returns-in-Watch : goal.returns-in-Watch
returns-in-Watch c =
    let run = c.args.run.now in
    subst (λ (o : Option Request). IfOk c.asked_by_poll.result (λ request. request ≡ o))
    (asked_watch (setup_of run) (reverse c.args.past.now) c.args.worker _ (sym c.in-Watch.ensures)) c.asked_by_poll.ensures
