-- The container that was found is the one that is changed.
use Rattle.std.proofs.Common.{◌≡◌, ◌∙◌, true, false, ap, refl, Some, rules}
use Rattle.std.specs.Str.{bytes_eq}
use Rattle.engine_types.specs.declared.ContainerRow.{ContainerRow}
use Rattle.engine_types.specs.declared.Report.{Report}
use Rattle.run_model.specs.EngineRules.{can_start, container_at, is_started, started_row}
use Rattle.memory_engine.specs.Serving.{with_first}
use Rattle.memory_engine.proofs.Places.{with_first-agree}
use Rattle.memory_engine.proofs.containers.start.Goals as goal

pub returns-clause-ok : goal.returns-clause-ok
returns-clause-ok c =
    let row = c.in-Some.row.now in
    let report = c.started_report-report.result in
    let has_id = λ (r : ContainerRow). bytes_eq r.id c.args.id.now in
    let found : container_at c.args.engine.now c.args.id.now ≡ Some row = search rules in
    let waits : is_started row.report.state ≡ false = cc in
    let can : can_start row.report.state ≡ true = cc in
    let same = ap (λ (t : Report). record row { report = t }) c.started_report-report.ensures in
    let rows_are : c.set_report.new.rows ≡ with_first has_id started_row c.args.engine.now.containers
    = c.set_report.ensures ∙ with_first-agree has_id (λ r. record r { report = report }) started_row row c.args.engine.now.containers found same in
    rw (found, waits, can, rows_are) refl
