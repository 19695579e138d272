use Rattle.std.proofs.Common.{◌≡◌, ◌++◌, take}
use Rattle.std.specs.Prelude.{flat_map}
use Rattle.notes.specs.Containers.{name_unknown}
use Rattle.notes.proofs.containers.push_names.Given as goal

abbrev pub invariant-loop-row : goal.invariant-loop-row
invariant-loop-row l = l.names ≡ l.initial.names ++ flat_map (name_unknown l.removed) (take l.row-index l.rows)
