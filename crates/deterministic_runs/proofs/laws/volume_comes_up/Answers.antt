use Rattle.deterministic_runs.proofs.OneVolume.{cut, early, early_run, whole}
use Rattle.deterministic_runs.proofs.laws.volume_comes_up.Goals as goal

pub returns : goal.returns
returns c = record { whole = whole; cut = cut; run = early_run; early = early }
