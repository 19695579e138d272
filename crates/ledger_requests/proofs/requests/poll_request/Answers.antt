use Rattle.run_requests.proofs.Journals.{is_poll}
use Rattle.ledger_requests.specs.Sources.{ids_in, past_in, setup_in}
use Rattle.ledger_requests.proofs.Finding.{are_ids}
use Rattle.ledger_requests.proofs.requests.poll_request.Goals as goal

pub returns : goal.returns
returns c =
    let sources = c.args.sources.now in
    is_poll (setup_in sources) (past_in sources) (ids_in sources) (are_ids sources c.requires) c.args.slot c.poll_of.result c.poll_of.ensures
