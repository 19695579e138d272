-- Ids differ, so what is taken out is all that has the id.
use Rattle.std.proofs.Common.{sym, ◌∙◌}
use Rattle.engine_types.specs.declared.ContainerRow.{ContainerRow}
use Rattle.memory_engine.proofs.KeyedRows.{filter-missed, filter-removed}
use Rattle.memory_engine.proofs.rows.take_out.Goals as goal

pub place_of_id-requires : goal.place_of_id-requires
place_of_id-requires c = rw c.as_slice.ensures c.requires

pub returns-in-Some : goal.returns-in-Some
returns-in-Some c = c.remove.ensures ∙ sym (filter-removed (λ (row : ContainerRow). row.id) c.args.id.now c.args.rows.now c.in-Some.at c.requires (cc))

pub returns-in_default : goal.returns-in_default
returns-in_default c = sym (filter-missed (λ (row : ContainerRow). row.id) c.args.id.now c.args.rows.now (cc))
