use Rattle.std.proofs.Common.{◌≡◌, ◌≤◌, ℕ, List, drop, map, Result}
use Rattle.include_extends.specs.Loading.{default_file}
use Rattle.loaded_files.specs.Reads.{Ran}
use Rattle.outside_files.specs.Reads.{Well, went}
use Rattle.loaded_files.specs.declared.reads.Seen.{Seen}
use Rattle.loaded_files.specs.declared.refusal.LoadRefusal.{LoadRefusal}
use Rattle.include_extends.proofs.default_file.default_file.Given as goal

abbrev pub invariant-loop-name : goal.invariant-loop-name
invariant-loop-name g l = record {
  ran : (r : Result (List ℕ × Seen) LoadRefusal) → Ran (g.F.Files.told l.fn.files) (default_file l.directory (drop l.name-index (map (λ name. name.now) l.names))) r
      → Ran (g.F.Files.told l.fn.files) (default_file l.directory (map (λ name. name.now) l.names)) r;
  counted : g.F.Files.faults l.fn.files ≤ g.F.Files.faults l.files;
  kept : g.F.Files.told l.files ≡ g.F.Files.told l.fn.files;
  reads : went (g.F.Files.reads l.fn.files) ≡ Well → went (g.F.Files.reads l.files) ≡ Well;
}
