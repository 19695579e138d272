-- Over what the entries told, the request of a poll is the defined one.
use Rattle.std.specs.Prelude.{reverse}
use Rattle.run_requests.specs.Asking.{ids_of}
use Rattle.run_requests.specs.Setups.{setup_of}
use Rattle.run_requests.proofs.Journals.{is_poll, own}
use Rattle.run_report.proofs.asking.poll_request.Goals as goal

pub returns : goal.returns
returns c =
    let setup = setup_of c.args.run.now in
    let past = reverse c.args.past.now in
    is_poll setup past (ids_of setup past) (own setup past) c.args.slot c.poll_of.result c.poll_of.ensures
