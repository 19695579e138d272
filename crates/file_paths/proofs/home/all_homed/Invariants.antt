use Rattle.std.proofs.Common.{◌≡◌, drop}
use Rattle.file_paths.specs.Paths.{all_homed}
use Rattle.file_paths.proofs.Homes.{behind}
use Rattle.file_paths.proofs.home.all_homed.Given as goal

abbrev pub invariant-loop-path : goal.invariant-loop-path
invariant-loop-path l = behind l.homes (all_homed l.directory l.env (drop l.path-index l.paths)) ≡ all_homed l.directory l.env l.paths
