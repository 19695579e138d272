use Rattle.run_requests.proofs.Journals.{is_request}
use Rattle.ledger_requests.specs.Sources.{ids_in, past_in, setup_in}
use Rattle.ledger_requests.proofs.Finding.{are_ids}
use Rattle.ledger_requests.proofs.requests.kind_request.Goals as goal

pub returns : goal.returns
returns c =
    let sources = c.args.sources.now in
    is_request (setup_in sources) (past_in sources) (ids_in sources) (are_ids sources c.requires) c.args.kind c.request_of.result c.request_of.ensures
