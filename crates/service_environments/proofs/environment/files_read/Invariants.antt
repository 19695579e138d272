use Rattle.std.proofs.Common.{◌≡◌, ◌≤◌, ℕ, [], drop, Result}
use Rattle.file_paths.specs.Paths.{Variables}
use Rattle.loaded_files.specs.Reads.{Ran}
use Rattle.outside_files.specs.Reads.{Well, went}
use Rattle.loaded_files.specs.declared.refusal.LoadRefusal.{LoadRefusal}
use Rattle.service_environments.specs.Environments.{files_read}
use Rattle.service_environments.proofs.environment.files_read.Given as goal

abbrev pub invariant-loop-item : goal.invariant-loop-item
invariant-loop-item g l = record {
  ran : (r : Result (Variables × ℕ) LoadRefusal) → Ran (g.F.Files.told l.fn.files) (files_read l.env (drop l.item-index l.items) l.values l.left) r
      → Ran (g.F.Files.told l.fn.files) (files_read l.env l.items [] l.fn.left) r;
  counted : g.F.Files.faults l.fn.files ≤ g.F.Files.faults l.files;
  kept : g.F.Files.told l.files ≡ g.F.Files.told l.fn.files;
  reads : went (g.F.Files.reads l.fn.files) ≡ Well → went (g.F.Files.reads l.files) ≡ Well;
}
