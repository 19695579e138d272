-- Only the row at the first place that passes is changed.
use Rattle.std.proofs.Common.{sym}
use Rattle.std.specs.Str.{bytes_eq}
use Rattle.engine_types.specs.declared.ContainerRow.{ContainerRow}
use Rattle.memory_engine.proofs.Places.{with_first-set, with_first-none}
use Rattle.memory_engine.proofs.rows.set_report.Goals as goal

pub place_of_id-requires : goal.place_of_id-requires
place_of_id-requires c = rw c.as_slice.ensures c.requires

pub returns-in-Some : goal.returns-in-Some
returns-in-Some c = with_first-set (λ (row : ContainerRow). bytes_eq row.id c.args.id.now)
    (λ (row : ContainerRow). record row { report = c.args.report }) c.args.rows.now c.set_report.new.self c.in-Some.at
    (cc) c.set_report.ensures

pub returns-in_default : goal.returns-in_default
returns-in_default c = sym (with_first-none (λ (row : ContainerRow). bytes_eq row.id c.args.id.now)
    (λ (row : ContainerRow). record row { report = c.args.report }) c.args.rows.now (cc))
