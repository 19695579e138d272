use Rattle.slot_rows.proofs.Polling.{first_polled}
use Rattle.slot_rows.proofs.laws.first_is_next_poll.Goals as goal

pub returns : goal.returns
returns c = first_polled
