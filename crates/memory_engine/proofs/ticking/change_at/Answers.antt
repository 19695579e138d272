-- A container that doesn't run keeps its row.
use Rattle.std.proofs.Common.{◌≡◌, ◌∙◌, false, sym, ap, get_or, slice_set}
use Rattle.std.proofs.lemmas.Option.{get_or_from_slice_get}
use Rattle.engine_types.specs.declared.ContainerRow.{ContainerRow}
use Rattle.memory_engine.specs.Ticking.{changed_row, is_running}
use Rattle.memory_engine.proofs.Places.{slice_set-same}
use Rattle.memory_engine.proofs.ticking.change_at.Goals as goal

pub returns-else-is_running : goal.returns-else-is_running
returns-else-is_running c = λ row found.
    let item : get_or c.as_slice.result.now c.args.at c.index-as_slice-at.result ≡ row
    = get_or_from_slice_get c.as_slice.result.now c.args.at row c.index-as_slice-at.result (rw c.as_slice.ensures found) in
    let rests : is_running row.report.state ≡ false
    = ap (λ (r : ContainerRow). is_running r.report.state) (sym item) ∙ sym c.is_running.ensures ∙ c.if-is_running.false in
    let same : changed_row c.args.change row ≡ row = rw rests in
    sym (ap (λ (r : ContainerRow). slice_set c.args.rows.now c.args.at r) same ∙ slice_set-same c.args.rows.now c.args.at row found)
