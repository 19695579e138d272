use Rattle.std.proofs.Common.{◌≡◌, ◌≤◌, ◌*◌, ◌+◌, ℕ, drop, Result}
use Rattle.include_extends.specs.Includes.{items_included, model}
use Rattle.include_extends.proofs.includes.+model.Given as goal
use Rattle.loaded_files.specs.Reads.{Ran}
use Rattle.loaded_files.specs.declared.refusal.LoadRefusal.{LoadRefusal}
use Rattle.outside_files.specs.Reads.{Well, went}
use Rattle.tree_base.specs.declared.Tree.{Tree}

abbrev pub decreases-model : goal.decreases-model
decreases-model g l = 4 * l.levels

abbrev pub decreases-with_includes : goal.decreases-with_includes
decreases-with_includes g l = 4 * l.levels + 3

abbrev pub decreases-items_included : goal.decreases-items_included
decreases-items_included g l = 4 * l.levels + 2

abbrev pub decreases-places_included : goal.decreases-places_included
decreases-places_included g l = 4 * l.levels + 1

abbrev pub invariant-items_included-loop-item : goal.invariant-items_included-loop-item
invariant-items_included-loop-item g l = record {
  ran : (r : Result (Tree × ℕ) LoadRefusal) → Ran (g.F.Files.told l.fn.files) (items_included (model l.levels) l.directory l.env l.begun (drop l.item-index l.items) l.tree l.left) r
      → Ran (g.F.Files.told l.fn.files) (items_included (model l.levels) l.directory l.env l.begun l.items l.fn.tree l.fn.left) r;
  counted : g.F.Files.faults l.fn.files ≤ g.F.Files.faults l.files;
  kept : g.F.Files.told l.files ≡ g.F.Files.told l.fn.files;
  reads : went (g.F.Files.reads l.fn.files) ≡ Well → went (g.F.Files.reads l.files) ≡ Well;
}
