-- The container at the place of an id is the one with that id.
use Rattle.std.proofs.Common.{◌∙◌, sym}
use Rattle.std.specs.Str.{bytes_eq}
use Rattle.engine_types.specs.declared.ContainerRow.{ContainerRow}
use Rattle.memory_engine.proofs.Places.{find-at, find-nowhere}
use Rattle.memory_engine.proofs.look_ups.container.Goals as goal

pub place_of_id-requires : goal.place_of_id-requires
place_of_id-requires c = rw c.as_slice.ensures c.requires

pub returns-in_err-at : goal.returns-in_err-at
returns-in_err-at c =
    rw c.from_residual.ensures (sym (find-nowhere (λ (row : ContainerRow). bytes_eq row.id c.args.id.now) c.args.engine.now.containers
    (sym (rw c.as_slice.ensures at c.in_err-at.ensures))))

pub returns : goal.returns
returns c =
    c.get.ensures.value ∙ find-at (λ (row : ContainerRow). bytes_eq row.id c.args.id.now) c.args.engine.now.containers c.in_ok-at.at
    (sym (rw c.as_slice.ensures at c.in_ok-at.ensures))
