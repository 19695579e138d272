use Rattle.std.proofs.Common.{◌≡◌, drop, map}
use Rattle.attribute_scalars.specs.Views.{seen_entry}
use Rattle.attribute_scalars.specs.Walks.{each_entry}
use Rattle.attribute_scalars.proofs.Walks.{Behind}
use Rattle.project_meaning.specs.Meaning.{declared_as, network_of}
use Rattle.project_meaning.proofs.networks.networks_in.Given as goal

abbrev pub invariant-loop-entry : goal.invariant-loop-entry
invariant-loop-entry l =
    Behind (declared_as (network_of l.project)) l.list (drop l.entry-index (map seen_entry l.entries))
    ≡ each_entry (declared_as (network_of l.project)) (map seen_entry l.entries)
