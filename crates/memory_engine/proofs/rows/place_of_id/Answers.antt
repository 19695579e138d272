-- Where ids differ, a row with the id is the first with it.
use Rattle.std.proofs.Common.{◌∙◌, sym}
use Rattle.engine_types.specs.declared.ContainerRow.{ContainerRow}
use Rattle.memory_engine.proofs.KeyedRows.{position-with_key}
use Rattle.memory_engine.proofs.rows.place_of_id.Goals as goal

pub returns-then-is_at : goal.returns-then-is_at
returns-then-is_at c =
    sym (position-with_key (λ (row : ContainerRow). row.id) c.args.id.now c.args.rows.now c.partition_point-at.result c.requires
    (sym c.is_at.ensures ∙ c.if-is_at.true))
