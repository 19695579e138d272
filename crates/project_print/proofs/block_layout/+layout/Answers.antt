use Rattle.std.proofs.Common.{◌∙◌, ◌++◌, ◌<◌, ◌≤◌, length, map, sym, ap, arith}
use Rattle.std.proofs.lemmas.Bool.{iff_false}
use Rattle.std.proofs.lemmas.Result.{on_ok_weaker}
use Rattle.project_print.specs.Pages.{entry, item, shown}
use Rattle.project_print.specs.Written.{entries_text, hanging, items_text, key_text}
use Rattle.project_print.proofs.Blocks.{entry_step, item_step, map_text, pairs_of, parts_done, seq_text}
use Rattle.project_print.proofs.Places.{next_of_both, next_of_maps, none_of_both}
use Rattle.project_print.proofs.block_layout.+layout.Goals as goal

pub put_node-returns-else-is_empty : goal.put_node-returns-else-is_empty
put_node-returns-else-is_empty t c =
    on_ok_weaker c.put_entries.result (λ e. e ∙ ap (λ x. c.args.out.now ++ x)
    ((λ i. entries_text c.args.depth (pairs_of (c.keys.ensures i) (c.values.ensures i)))
    ∙ map_text c.args.depth c.in-Map.entries (iff_false c.is_empty.ensures c.if-is_empty.false)
    ∙ ap (λ n. hanging c.args.depth (shown n)) (sym c.in-Map.is))) c.put_entries.ensures

pub put_node-returns-else-is_empty-2 : goal.put_node-returns-else-is_empty-2
put_node-returns-else-is_empty-2 t c =
    on_ok_weaker c.put_items.result (λ e. e ∙ ap (λ x. c.args.out.now ++ x)
    (ap (λ xs. items_text c.args.depth (map shown xs)) c.as_slice.ensures
    ∙ seq_text c.args.depth c.in-Seq.items (iff_false c.is_empty-in-Seq.ensures c.if-is_empty-2.false)
    ∙ ap (λ n. hanging c.args.depth (shown n)) (sym c.in-Seq.is))) c.put_items.ensures

pub put_entries-loop-at-preserved : goal.put_entries-loop-at-preserved
put_entries-loop-at-preserved t c =
    let within : c.loop-at.at < length c.args.values.now = omega arith in
    let key = c.in_ok-put_key.ensures ∙ ap (λ k. c.put_gap.new.out ++ key_text c.in_ok-below.below k c.is_block.result) c.as_str.ensures.value in
    entry_step c.args.depth c.loop-at.at c.in_ok-below.below c.loop-at.out _ _ _ _ c.index-keys-at.result c.is_block.result c.index-values-at.result _ _
    c.in_ok-below.ensures c.is_block.ensures c.in_ok-put_gap.ensures key c.in_ok-put_node.ensures
    (next_of_both entry shown c.args.keys.now c.args.values.now c.loop-at.at c.index-keys-at.result c.index-values-at.result c.requires within c.index-keys-at.is c.index-values-at.is)
    c.loop-at.invariant

pub put_entries-returns : goal.put_entries-returns
put_entries-returns t c =
    let past : length c.args.values.now ≤ c.loop-at.at = omega arith in
    parts_done c.args.depth c.loop-at.at c.loop-at.out _ _ (none_of_both entry shown c.args.keys.now c.args.values.now c.loop-at.at past) c.loop-at.invariant

pub put_items-loop-at-preserved : goal.put_items-loop-at-preserved
put_items-loop-at-preserved t c =
    let within : c.loop-at.at < length c.args.items.now = omega arith in
    item_step c.args.depth c.loop-at.at c.in_ok-below.below c.loop-at.out _ _ _ _ c.index-items-at.result _ _
    c.in_ok-below.ensures c.in_ok-put_gap.ensures c.in_ok-push_str.ensures.ok c.in_ok-put_node.ensures
    (next_of_maps item shown c.args.items.now c.loop-at.at c.index-items-at.result within c.index-items-at.is)
    c.loop-at.invariant
