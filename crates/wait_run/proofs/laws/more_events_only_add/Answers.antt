use Rattle.wait_run.proofs.Lawful.{more_add}
use Rattle.wait_run.proofs.laws.more_events_only_add.Goals as goal

pub returns : goal.returns
returns c = more_add
