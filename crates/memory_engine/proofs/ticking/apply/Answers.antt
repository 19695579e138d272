-- The first container with the name is changed.
use Rattle.std.proofs.Common.{sym, ap, List}
use Rattle.std.specs.Str.{bytes_eq}
use Rattle.engine_types.specs.declared.ContainerRow.{ContainerRow}
use Rattle.memory_engine.specs.Ticking.{changed_row}
use Rattle.memory_engine.proofs.Places.{with_first-set, with_first-none}
use Rattle.memory_engine.proofs.ticking.apply.Goals as goal

pub returns-in-Some : goal.returns-in-Some
returns-in-Some c =
    ap (λ (rows : List ContainerRow). record c.args.engine.now { containers = rows })
    (with_first-set (λ (row : ContainerRow). bytes_eq c.args.tick.container row.name) (changed_row c.args.tick.change)
    c.args.engine.now.containers c.change_at.new.rows c.in-Some.at (cc) c.change_at.ensures)

pub returns : goal.returns
returns c =
    ap (λ (rows : List ContainerRow). record c.args.engine.now { containers = rows })
    (sym (with_first-none (λ (row : ContainerRow). bytes_eq c.args.tick.container row.name) (changed_row c.args.tick.change)
    c.args.engine.now.containers (cc)))
