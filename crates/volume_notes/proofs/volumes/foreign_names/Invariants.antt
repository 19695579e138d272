use Rattle.std.proofs.Common.{◌≡◌, map, take}
use Rattle.serde_json.specs.View.{view}
use Rattle.volume_notes.specs.Volumes.{foreign_names}
use Rattle.volume_notes.proofs.volumes.foreign_names.Given as goal

abbrev pub invariant-loop-row : goal.invariant-loop-row
invariant-loop-row l = l.names ≡ foreign_names l.project l.declared (map view (take l.row-index l.rows))
