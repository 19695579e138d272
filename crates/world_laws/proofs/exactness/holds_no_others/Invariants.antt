use Rattle.std.proofs.Common.{◌≡◌, true, take, Bor}
use Rattle.std.specs.List.{list_all}
use Rattle.engine_types.specs.declared.ContainerRow.{ContainerRow}
use Rattle.world_laws.specs.Exactly.{may_be_there}
use Rattle.world_laws.proofs.exactness.holds_no_others.Given as goal

abbrev pub invariant-loop-row : goal.invariant-loop-row
invariant-loop-row l = list_all (λ (row : Bor ContainerRow). may_be_there l.declared l.orphans row.now.labels) (take l.row-index l.rows) ≡ true
