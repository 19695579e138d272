use Rattle.world_laws.proofs.ToldRuns.{told_runs_have_worlds}
use Rattle.world_laws.proofs.laws.told_runs_have_worlds.Goals as goal

pub returns : goal.returns
returns c = told_runs_have_worlds
