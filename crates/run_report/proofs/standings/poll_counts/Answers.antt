-- The latest poll says whether its report counts.
use Rattle.std.proofs.Common.{◌∙◌, sym, ap}
use Rattle.std.specs.Prelude.{reverse}
use Rattle.run_requests.specs.Setups.{setup_of}
use Rattle.run_report.proofs.Polled.{counted_is, poll_counted}
use Rattle.run_report.proofs.standings.poll_counts.Goals as goal

pub returns-in-Some : goal.returns-in-Some
returns-in-Some c =
    let run = c.args.run.now in
    c.counts.ensures ∙ ap (poll_counted (setup_of run)) c.in-Some.ensures ∙ sym (counted_is (setup_of run) (reverse c.args.past.now) c.args.worker)

pub returns-in-None : goal.returns-in-None
returns-in-None c =
    let run = c.args.run.now in
    ap (poll_counted (setup_of run)) c.in-None.ensures ∙ sym (counted_is (setup_of run) (reverse c.args.past.now) c.args.worker)
