use Rattle.std.proofs.Common.{◌≡◌, ◌≤◌, ℕ, drop, Result}
use Rattle.loaded_files.specs.FileTrees.{files_laid}
use Rattle.loaded_files.specs.Reads.{Ran}
use Rattle.outside_files.specs.Reads.{Well, went}
use Rattle.loaded_files.specs.declared.refusal.LoadRefusal.{LoadRefusal}
use Rattle.tree_base.specs.declared.Tree.{Tree, Null}
use Rattle.loaded_files.proofs.laying.files_laid.Given as goal

abbrev pub invariant-loop-path : goal.invariant-loop-path
invariant-loop-path g l = record {
  ran : (r : Result (Tree × ℕ) LoadRefusal) → Ran (g.F.Files.told l.fn.files) (files_laid l.env (drop l.path-index l.paths) l.found l.tree l.left) r
      → Ran (g.F.Files.told l.fn.files) (files_laid l.env l.paths l.fn.found Null l.fn.left) r;
  counted : g.F.Files.faults l.fn.files ≤ g.F.Files.faults l.files;
  kept : g.F.Files.told l.files ≡ g.F.Files.told l.fn.files;
  reads : went (g.F.Files.reads l.fn.files) ≡ Well → went (g.F.Files.reads l.files) ≡ Well;
}
