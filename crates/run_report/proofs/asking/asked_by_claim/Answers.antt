-- The request of the latest claim.
use Rattle.std.specs.Prelude.{reverse}
use Rattle.run_requests.specs.Setups.{setup_of}
use Rattle.run_report.proofs.Asked.{asked_at, asked_none}
use Rattle.run_report.proofs.asking.asked_by_claim.Goals as goal

pub returns-in-Some : goal.returns-in-Some
returns-in-Some c =
    let run = c.args.run.now in
    asked_at (setup_of run) (reverse c.args.past.now) (reverse c.in-Some.before.now) c.args.action c.action_request.result c.in-Some.ensures c.action_request.ensures

pub returns-in-None : goal.returns-in-None
returns-in-None c =
    let run = c.args.run.now in
    asked_none (setup_of run) (reverse c.args.past.now) c.args.action c.in-None.ensures
