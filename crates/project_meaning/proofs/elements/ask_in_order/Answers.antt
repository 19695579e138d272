use Rattle.std.proofs.Common.{◌≡◌, ◌∙◌, ◌+◌, ℕ, [], List, Some, length, drop, map, slice_get, refl, ap, sym, arith}
use Rattle.std.proofs.lemmas.Option.{slice_get_read}
use Rattle.std.proofs.lemmas.Result.{err_from_is_err_and}
use Rattle.tree_base.specs.declared.Tree.{Tree, out-Tree}
use Rattle.attribute_scalars.specs.Views.{seen_entry}
use Rattle.attribute_scalars.specs.Walks.{Entries}
use Rattle.attribute_scalars.proofs.Walks.{Behind, all_read, item_next, one_passed, refused_asked}
use Rattle.project_meaning.specs.Meaning.{element_form}
use Rattle.project_meaning.proofs.elements.ask_in_order.Goals as goal

pub returns-in_err-ask_element : goal.returns-in_err-ask_element
returns-in_err-ask_element c =
    let items = c.args.entries.now in
    let i = c.loop-entry.entry-index in
    let entry = c.entry-item.result in
    let read = λ (key : List ℕ) (tree : Tree). element_form key (out-Tree tree) in
    let at : slice_get items i ≡ Some entry = slice_get_read items (length items) i entry refl (omega arith) c.entry-item.is in
    let next = item_next seen_entry items i entry at in
    let p = err_from_is_err_and c.from_residual.result c.from_residual.ensures.1 in
    rw (p.1, p.2) (refused_asked read (seen_entry entry) (drop (i + 1) (map seen_entry items)) c.in_err-ask_element.field-0.0 _
    (sym (ap (λ (l : Entries). Behind read [] l) next) ∙ c.loop-entry.invariant) c.in_err-ask_element.ensures)

pub loop-entry-preserved : goal.loop-entry-preserved
loop-entry-preserved c =
    let items = c.args.entries.now in
    let i = c.loop-entry.entry-index in
    let entry = c.entry-item.result in
    let read = λ (key : List ℕ) (tree : Tree). element_form key (out-Tree tree) in
    let at : slice_get items i ≡ Some entry = slice_get_read items (length items) i entry refl (omega arith) c.entry-item.is in
    let next = item_next seen_entry items i entry at in
    one_passed read (seen_entry entry) (drop (i + 1) (map seen_entry items)) c.in_ok-ask_element.ensures
    ∙ sym (ap (λ (l : Entries). Behind read [] l) next)
    ∙ c.loop-entry.invariant

pub returns : goal.returns
returns c =
    let read = λ (key : List ℕ) (tree : Tree). element_form key (out-Tree tree) in
    sym c.loop-entry.invariant ∙ all_read read seen_entry c.args.entries.now c.loop-entry.entry-index [] (omega arith)
