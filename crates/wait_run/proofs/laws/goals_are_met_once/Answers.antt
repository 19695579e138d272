use Rattle.wait_run.proofs.Lawful.{met_once}
use Rattle.wait_run.proofs.laws.goals_are_met_once.Goals as goal

pub returns : goal.returns
returns c = met_once
