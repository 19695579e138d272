use Rattle.std.proofs.Common.{◌≡◌, ◌∙◌, ◌+◌, List, Some, length, drop, slice_get, refl, ap, sym, arith}
use Rattle.std.proofs.lemmas.Option.{slice_get_read}
use Rattle.std.proofs.lemmas.Result.{err_from_is_err_and}
use Rattle.tree_base.specs.declared.Tree.{Tree, out-Tree}
use Rattle.attribute_scalars.proofs.Walks.{ItemsBehind, all_listed, item_left, item_put, refused_item}
use Rattle.attribute_rows.specs.Rows.{in_mapping, port_of}
use Rattle.attribute_rows.proofs.ports.ports_in.Goals as goal

pub returns-in_err-put_port : goal.returns-in_err-put_port
returns-in_err-put_port c =
    let items = c.args.items.now in
    let done = c.loop-at.list in
    let i = c.loop-at.at in
    let item = c.index-items-at.result in
    let read = λ (item : Tree). in_mapping port_of (out-Tree item) in
    let at : slice_get items i ≡ Some item = slice_get_read items (length items) i item refl (omega arith) c.index-items-at.is in
    let next = item_left items i item at in
    let p = err_from_is_err_and c.from_residual.result c.from_residual.ensures.1 in
    rw (p.1, p.2) (refused_item read item (drop (i + 1) items) i done c.in_err-put_port.field-0.0 _
    (sym (ap (λ (l : List Tree). ItemsBehind read done i l) next) ∙ c.loop-at.invariant) c.in_err-put_port.ensures)

pub loop-at-preserved : goal.loop-at-preserved
loop-at-preserved c =
    let items = c.args.items.now in
    let done = c.loop-at.list in
    let i = c.loop-at.at in
    let item = c.index-items-at.result in
    let read = λ (item : Tree). in_mapping port_of (out-Tree item) in
    let at : slice_get items i ≡ Some item = slice_get_read items (length items) i item refl (omega arith) c.index-items-at.is in
    let next = item_left items i item at in
    item_put read item (drop (i + 1) items) i done _ c.in_ok-put_port.ensures
    ∙ sym (ap (λ (l : List Tree). ItemsBehind read done i l) next)
    ∙ c.loop-at.invariant

pub returns : goal.returns
returns c =
    let read = λ (item : Tree). in_mapping port_of (out-Tree item) in
    sym c.loop-at.invariant ∙ all_listed read c.args.items.now c.loop-at.at c.loop-at.list (omega arith)
