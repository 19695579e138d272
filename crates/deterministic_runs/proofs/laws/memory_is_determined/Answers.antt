use Rattle.deterministic_runs.proofs.MemoryRules.{memory_is_determined}
use Rattle.deterministic_runs.proofs.laws.memory_is_determined.Goals as goal

pub returns : goal.returns
returns c = memory_is_determined
