use Rattle.std.proofs.Common.{◌≡◌, drop, map}
use Rattle.attribute_scalars.specs.Views.{seen_entry}
use Rattle.attribute_scalars.specs.Walks.{each_entry}
use Rattle.attribute_scalars.proofs.Walks.{Behind}
use Rattle.project_meaning.specs.Meaning.{declared_as, volume_of}
use Rattle.project_meaning.proofs.volumes.volumes_in.Given as goal

abbrev pub invariant-loop-entry : goal.invariant-loop-entry
invariant-loop-entry l =
    Behind (declared_as (volume_of l.project)) l.list (drop l.entry-index (map seen_entry l.entries))
    ≡ each_entry (declared_as (volume_of l.project)) (map seen_entry l.entries)
