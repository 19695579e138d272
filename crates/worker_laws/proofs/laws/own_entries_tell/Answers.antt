use Rattle.worker_laws.proofs.Told.{own_entries}
use Rattle.worker_laws.proofs.laws.own_entries_tell.Goals as goal

pub returns : goal.returns
returns c = own_entries
