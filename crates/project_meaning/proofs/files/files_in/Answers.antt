use Rattle.std.proofs.Common.{◌≡◌, ◌∙◌, ◌+◌, Some, length, drop, map, slice_get, refl, ap, sym, arith}
use Rattle.std.proofs.lemmas.Option.{slice_get_read}
use Rattle.std.proofs.lemmas.Result.{err_from_is_err_and}
use Rattle.attribute_scalars.specs.Views.{seen_entry}
use Rattle.attribute_scalars.specs.Walks.{Entries}
use Rattle.attribute_scalars.proofs.Walks.{Behind, all_read, item_next, one_put, refused_first}
use Rattle.project_meaning.specs.Meaning.{declared_as, file_of}
use Rattle.project_meaning.proofs.files.files_in.Goals as goal

pub returns-in_err-put_file : goal.returns-in_err-put_file
returns-in_err-put_file c =
    let items = c.args.entries.now in
    let done = c.loop-entry.list in
    let i = c.loop-entry.entry-index in
    let entry = c.entry-item.result in
    let read = declared_as file_of in
    let at : slice_get items i ≡ Some entry = slice_get_read items (length items) i entry refl (omega arith) c.entry-item.is in
    let next = item_next seen_entry items i entry at in
    let p = err_from_is_err_and c.from_residual.result c.from_residual.ensures.1 in
    rw (p.1, p.2) (refused_first read (seen_entry entry) (drop (i + 1) (map seen_entry items)) done c.in_err-put_file.field-0.0 _
    (sym (ap (λ (l : Entries). Behind read done l) next) ∙ c.loop-entry.invariant) c.in_err-put_file.ensures)

pub loop-entry-preserved : goal.loop-entry-preserved
loop-entry-preserved c =
    let items = c.args.entries.now in
    let done = c.loop-entry.list in
    let i = c.loop-entry.entry-index in
    let entry = c.entry-item.result in
    let read = declared_as file_of in
    let at : slice_get items i ≡ Some entry = slice_get_read items (length items) i entry refl (omega arith) c.entry-item.is in
    let next = item_next seen_entry items i entry at in
    one_put read (seen_entry entry) (drop (i + 1) (map seen_entry items)) done _ c.in_ok-put_file.ensures
    ∙ sym (ap (λ (l : Entries). Behind read done l) next)
    ∙ c.loop-entry.invariant

pub returns : goal.returns
returns c =
    let read = declared_as file_of in
    sym c.loop-entry.invariant ∙ all_read read seen_entry c.args.entries.now c.loop-entry.entry-index c.loop-entry.list (omega arith)
