use Rattle.std.proofs.Common.{◌≡◌, drop}
use Rattle.loaded_files.specs.EnvFiles.{with_all}
use Rattle.loaded_files.proofs.variables.with_all.Given as goal

abbrev pub invariant-loop-at : goal.invariant-loop-at
invariant-loop-at l = with_all l.all (drop l.at l.more) ≡ with_all l.initial.all l.more
