use Rattle.std.proofs.Common.{◌≡◌, drop}
use Rattle.include_extends.specs.Includes.{cycle_of}
use Rattle.include_extends.proofs.include_item.cycle_place.Given as goal

-- none of the files that were gone through is being loaded
abbrev pub invariant-loop-path : goal.invariant-loop-path
invariant-loop-path l = cycle_of l.begun (drop l.path-index l.files) ≡ cycle_of l.begun l.files
