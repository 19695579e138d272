-- A second container of the slot.
use Rattle.std.proofs.Common.{◌∙◌, sym, Bor}
use Rattle.engine_types.specs.declared.ContainerRow.{ContainerRow}
use Rattle.run_model.specs.Labels.{is_of_slot}
use Rattle.world_laws.proofs.Exactly.{none_alone}
use Rattle.world_laws.proofs.exactness.only_container.Goals as goal

pub returns-then-is_some : goal.returns-then-is_some
returns-then-is_some c =
    none_alone (λ (row : Bor ContainerRow). row.now) (λ (row : ContainerRow). is_of_slot c.args.declared.now.project c.args.slot.now row.labels) c.args.rows.now c.loop-row.row-index c.row-item.result
    c.loop-row.only c.loop-row-test.true c.row-item.is c.loop-row.invariant (sym c.is_some.ensures ∙ c.if-is_some.true) (sym c.in_ok-is_of_slot.ensures ∙ c.if-not-branch.false)
