use Rattle.std.proofs.Common.{◌≡◌, ◌≤◌, ℕ, [], drop, Result}
use Rattle.loaded_files.specs.EnvFiles.{env_files}
use Rattle.loaded_files.specs.Paths.{Variables}
use Rattle.loaded_files.specs.Reads.{Ran}
use Rattle.outside_files.specs.Reads.{Well, went}
use Rattle.loaded_files.specs.declared.refusal.LoadRefusal.{LoadRefusal}
use Rattle.loaded_files.proofs.variables.env_files.Given as goal

abbrev pub invariant-loop-path : goal.invariant-loop-path
invariant-loop-path g l = record {
  ran : (r : Result (Variables × ℕ) LoadRefusal) → Ran (g.F.Files.told l.fn.files) (env_files l.caller (drop l.path-index l.paths) l.values l.left) r
      → Ran (g.F.Files.told l.fn.files) (env_files l.caller l.paths [] l.fn.left) r;
  counted : g.F.Files.faults l.fn.files ≤ g.F.Files.faults l.files;
  kept : g.F.Files.told l.files ≡ g.F.Files.told l.fn.files;
  reads : went (g.F.Files.reads l.fn.files) ≡ Well → went (g.F.Files.reads l.files) ≡ Well;
}
