use Rattle.wait_run.proofs.Lawful.{good_ends}
use Rattle.wait_run.proofs.laws.good_ends_meet_all.Goals as goal

pub returns : goal.returns
returns c = good_ends
