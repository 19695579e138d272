use Rattle.std.proofs.Common.{◌≡◌, ◌≤◌, drop}
use Rattle.file_digests.specs.Digests.{Digested, Given, behind}
use Rattle.outside_files.specs.Reads.{Well, went}
use Rattle.file_digests.proofs.reading.digests_of.Given as goal

abbrev pub invariant-loop-item : goal.invariant-loop-item
invariant-loop-item g l = record {
  ran : (given : Given) → Digested (g.F.Files.told l.fn.files) l.kind (drop l.item-index l.items) given → Digested (g.F.Files.told l.fn.files) l.kind l.items (behind l.digests given);
  counted : g.F.Files.faults l.fn.files ≤ g.F.Files.faults l.files;
  kept : g.F.Files.told l.files ≡ g.F.Files.told l.fn.files;
  reads : went (g.F.Files.reads l.fn.files) ≡ Well → went (g.F.Files.reads l.files) ≡ Well;
}
