use Rattle.http_request.proofs.Grammar.{is_one_request}
use Rattle.http_request.proofs.laws.bytes_are_one_request.Goals as goal

pub returns : goal.returns
returns c = is_one_request
