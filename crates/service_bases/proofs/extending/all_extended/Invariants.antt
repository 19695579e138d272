use Rattle.std.proofs.Common.{◌≡◌, ◌≤◌, ℕ, drop, Result}
use Rattle.file_paths.specs.Resolving.{Entries}
use Rattle.loaded_files.specs.Reads.{Ran}
use Rattle.outside_files.specs.Reads.{Well, went}
use Rattle.loaded_files.specs.declared.refusal.LoadRefusal.{LoadRefusal}
use Rattle.service_bases.specs.Extending.{all_extended}
use Rattle.service_bases.specs.Known.{AreWhole}
use Rattle.service_bases.proofs.extending.all_extended.Given as goal

abbrev pub invariant-loop-name : goal.invariant-loop-name
invariant-loop-name g l = record {
  ran : (r : Result (Entries × ℕ) LoadRefusal) → Ran (g.F.Files.told l.fn.files) (all_extended l.env l.source (drop l.name-index l.names) l.services l.left) r
      → Ran (g.F.Files.told l.fn.files) (all_extended l.env l.source l.names l.fn.services l.fn.left) r;
  counted : g.F.Files.faults l.fn.files ≤ g.F.Files.faults l.files;
  kept : g.F.Files.told l.files ≡ g.F.Files.told l.fn.files;
  whole : AreWhole l.env l.source l.known;
  reads : went (g.F.Files.reads l.fn.files) ≡ Well → went (g.F.Files.reads l.files) ≡ Well;
}
