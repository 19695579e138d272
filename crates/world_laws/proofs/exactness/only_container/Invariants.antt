use Rattle.std.proofs.Common.{◌≡◌, map, take, Bor}
use Rattle.std.specs.Option.{option_copied, option_to_list}
use Rattle.std.specs.Prelude.{filter}
use Rattle.engine_types.specs.declared.ContainerRow.{ContainerRow}
use Rattle.run_model.specs.Labels.{is_of_slot}
use Rattle.world_laws.proofs.exactness.only_container.Given as goal

abbrev pub invariant-loop-row : goal.invariant-loop-row
invariant-loop-row l =
    filter (λ (row : ContainerRow). is_of_slot l.declared.project l.slot row.labels) (map (λ (row : Bor ContainerRow). row.now) (take l.row-index l.rows)) ≡ option_to_list (option_copied l.only)
