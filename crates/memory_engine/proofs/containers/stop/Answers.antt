-- The container that was found is the one that is changed.
use Rattle.std.proofs.Common.{◌≡◌, ◌∙◌, true, refl, Some, rules}
use Rattle.std.specs.Str.{bytes_eq}
use Rattle.engine_types.specs.declared.ContainerRow.{ContainerRow}
use Rattle.run_model.specs.EngineRules.{container_at, is_live, stopped_row}
use Rattle.memory_engine.specs.Serving.{with_first}
use Rattle.memory_engine.proofs.Places.{with_first-agree}
use Rattle.memory_engine.proofs.containers.stop.Goals as goal

pub returns-clause-ok : goal.returns-clause-ok
returns-clause-ok c =
    let row = c.in-Some.row.now in
    let has_id = λ (r : ContainerRow). bytes_eq r.id c.args.id.now in
    let found : container_at c.args.engine.now c.args.id.now ≡ Some row = search rules in
    let live : is_live row.report.state ≡ true = cc in
    let rows_are : c.set_report.new.rows ≡ with_first has_id stopped_row c.args.engine.now.containers
    = c.set_report.ensures ∙ with_first-agree has_id (λ r. record r { report = (stopped_row row).report }) stopped_row row c.args.engine.now.containers found refl in
    rw (found, live, rows_are) refl
