-- The container with the id is changed.
use Rattle.std.proofs.Common.{sym, ap, List}
use Rattle.std.specs.Str.{bytes_eq}
use Rattle.engine_types.specs.declared.ContainerRow.{ContainerRow}
use Rattle.memory_engine.specs.Ticking.{changed_row}
use Rattle.memory_engine.proofs.Places.{with_first-set, with_first-none}
use Rattle.memory_engine.proofs.ticking.change_of.Goals as goal

pub place_of_id-requires : goal.place_of_id-requires
place_of_id-requires c = rw c.as_slice.ensures c.requires

pub returns-in-Some : goal.returns-in-Some
returns-in-Some c =
    ap (λ (rows : List ContainerRow). record c.args.engine.now { containers = rows })
    (with_first-set (λ (row : ContainerRow). bytes_eq row.id c.args.id.now) (changed_row c.args.change)
    c.args.engine.now.containers c.change_at.new.rows c.in-Some.at (cc) c.change_at.ensures)

pub returns-in_default : goal.returns-in_default
returns-in_default c =
    ap (λ (rows : List ContainerRow). record c.args.engine.now { containers = rows })
    (sym (with_first-none (λ (row : ContainerRow). bytes_eq row.id c.args.id.now) (changed_row c.args.change)
    c.args.engine.now.containers (cc)))
