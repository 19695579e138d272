use Rattle.std.proofs.Common.{◌≡◌, ◌≤◌, ℕ, drop, Result}
use Rattle.file_paths.specs.Resolving.{Entries}
use Rattle.loaded_files.specs.Reads.{Ran}
use Rattle.outside_files.specs.Reads.{Well, went}
use Rattle.loaded_files.specs.declared.refusal.LoadRefusal.{LoadRefusal}
use Rattle.service_environments.specs.Environments.{all_with_environments}
use Rattle.service_environments.proofs.environment.all_with_environments.Given as goal

abbrev pub invariant-loop-name : goal.invariant-loop-name
invariant-loop-name g l = record {
  ran : (r : Result (Entries × ℕ) LoadRefusal) → Ran (g.F.Files.told l.fn.files) (all_with_environments l.env (drop l.name-index l.names) l.services l.left) r
      → Ran (g.F.Files.told l.fn.files) (all_with_environments l.env l.names l.fn.services l.fn.left) r;
  counted : g.F.Files.faults l.fn.files ≤ g.F.Files.faults l.files;
  kept : g.F.Files.told l.files ≡ g.F.Files.told l.fn.files;
  reads : went (g.F.Files.reads l.fn.files) ≡ Well → went (g.F.Files.reads l.files) ≡ Well;
}
