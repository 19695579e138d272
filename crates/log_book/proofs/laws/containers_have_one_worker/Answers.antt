use Rattle.log_book.proofs.Counting.{one_worker}
use Rattle.log_book.proofs.laws.containers_have_one_worker.Goals as goal

pub returns : goal.returns
returns c = one_worker
