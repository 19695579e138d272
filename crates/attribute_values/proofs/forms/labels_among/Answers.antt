use Rattle.std.proofs.Common.{◌≡◌, ◌∙◌, ◌+◌, ℕ, List, Some, length, drop, map, slice_get, refl, ap, sym, arith}
use Rattle.std.proofs.lemmas.Option.{slice_get_read}
use Rattle.std.proofs.lemmas.Result.{err_from_is_err_and}
use Rattle.tree_base.specs.declared.Tree.{Tree, out-Tree}
use Rattle.attribute_values.specs.Forms.{bind_option}
use Rattle.attribute_scalars.specs.Views.{seen_entry}
use Rattle.attribute_scalars.specs.Walks.{Entries}
use Rattle.attribute_scalars.proofs.Walks.{Behind, all_read, item_next, one_put, refused_first}
use Rattle.attribute_values.proofs.forms.labels_among.Goals as goal

pub returns-in_err-put_label : goal.returns-in_err-put_label
returns-in_err-put_label c =
    let items = c.args.options.now in
    let done = c.loop-option.labels in
    let i = c.loop-option.option-index in
    let entry = c.option-item.result in
    let read = λ (key : List ℕ) (tree : Tree). bind_option key (out-Tree tree) in
    let at : slice_get items i ≡ Some entry = slice_get_read items (length items) i entry refl (omega arith) c.option-item.is in
    let next = item_next seen_entry items i entry at in
    let p = err_from_is_err_and c.from_residual.result c.from_residual.ensures.1 in
    rw (p.1, p.2) (refused_first read (seen_entry entry) (drop (i + 1) (map seen_entry items)) done c.in_err-put_label.field-0.0 _
    (sym (ap (λ (l : Entries). Behind read done l) next) ∙ c.loop-option.invariant) c.in_err-put_label.ensures)

pub loop-option-preserved : goal.loop-option-preserved
loop-option-preserved c =
    let items = c.args.options.now in
    let done = c.loop-option.labels in
    let i = c.loop-option.option-index in
    let entry = c.option-item.result in
    let read = λ (key : List ℕ) (tree : Tree). bind_option key (out-Tree tree) in
    let at : slice_get items i ≡ Some entry = slice_get_read items (length items) i entry refl (omega arith) c.option-item.is in
    let next = item_next seen_entry items i entry at in
    one_put read (seen_entry entry) (drop (i + 1) (map seen_entry items)) done _ c.in_ok-put_label.ensures
    ∙ sym (ap (λ (l : Entries). Behind read done l) next)
    ∙ c.loop-option.invariant

pub returns : goal.returns
returns c =
    let read = λ (key : List ℕ) (tree : Tree). bind_option key (out-Tree tree) in
    sym c.loop-option.invariant ∙ all_read read seen_entry c.args.options.now c.loop-option.option-index c.loop-option.labels (omega arith)
