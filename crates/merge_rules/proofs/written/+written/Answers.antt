use Rattle.std.proofs.Common.{◌≡◌, ◌∙◌, ◌++◌, List, Some, ap, codes, flat_map, length, map, refl, slice_get, sym, arith, rules, ℕ}
use Rattle.std.proofs.lemmas.Option.{slice_get_read}
use Rattle.std.proofs.lemmas.Result.{on_ok_weaker}
use Rattle.attribute_paths.proofs.Walks.{entries_are}
use Rattle.tree_base.specs.declared.tree.Tree.TheVariants.{Map}
use Rattle.merge_rules.specs.Marks.{entry_written, written}
use Rattle.merge_rules.proofs.WrittenSteps.{entries_put, entry_put, item_put, items_put, map_written, seq_written, wrapped}
use Rattle.merge_rules.proofs.written.+written.Goals as goal

pub put_tree-returns-in-Map : goal.put_tree-returns-in-Map
put_tree-returns-in-Map t c =
    let whole = ap (λ es. written (Map es)) c.get.ensures ∙ ap written (sym c.in-Map.is) in
    on_ok_weaker c.put_map.result (λ e. e ∙ ap (λ text. c.args.mark.now ++ text) whole) c.put_map.ensures

pub put_tree-returns-in_ok-put_items-in-Seq : goal.put_tree-returns-in_ok-put_items-in-Seq
put_tree-returns-in_ok-put_items-in-Seq t c =
    let whole =
    ap (λ xs. codes "[" ++ (flat_map (λ item. item) (map written xs) ++ codes "]")) c.as_slice.ensures
    ∙ seq_written c.in-Seq.items
    ∙ ap written (sym c.in-Seq.is) in
    on_ok_weaker c.push_str-in-Seq-2.result (λ e. wrapped _ _ _ _ (codes "[") _ (codes "]") _ c.in_ok-push_str-in-Seq.ensures.ok c.in_ok-put_items-in-Seq.ensures e whole) c.push_str-in-Seq-2.ensures.ok

pub put_map-returns : goal.put_map-returns
put_map-returns t c =
    let es = c.args.entries.now in
    let whole =
    ap (λ (all : List (List ℕ × List ℕ)). codes "{" ++ (flat_map entry_written all ++ codes "}")) (entries_are written es c.keys.result.now c.values.result.now c.keys.ensures c.values.ensures)
    ∙ map_written es in
    on_ok_weaker c.push_str-2.result (λ e. wrapped _ _ _ _ (codes "{") _ (codes "}") _ c.in_ok-push_str.ensures.ok c.in_ok-put_entries.ensures e whole) c.push_str-2.ensures.ok

pub put_entries-loop-at-preserved : goal.put_entries-loop-at-preserved
put_entries-loop-at-preserved t c =
    let keys = c.args.keys.now in
    let values = c.args.values.now in
    let l = c.loop-at in
    let key = c.index-keys-at.result in
    let value = c.index-values-at.result in
    let same : length keys ≡ length values = search rules in
    let k : slice_get keys l.at ≡ Some key = slice_get_read keys (length keys) l.at key refl (omega arith) c.index-keys-at.is in
    let v : slice_get values l.at ≡ Some value = slice_get_read values (length values) l.at value refl (omega arith) c.index-values-at.is in
    entry_put keys values l.at key value l.mark _ _ _ k v c.in_ok-put_text.ensures c.in_ok-put_tree.ensures l.invariant

pub put_entries-returns : goal.put_entries-returns
put_entries-returns t c =
    let l = c.loop-at in
    entries_put c.args.keys.now c.args.values.now l.at l.mark _ (omega arith) l.invariant

pub put_items-loop-item-preserved : goal.put_items-loop-item-preserved
put_items-loop-item-preserved t c =
    let items = c.args.items.now in
    let i = c.loop-item.item-index in
    let item = c.item-item.result in
    let at : slice_get items i ≡ Some item = slice_get_read items (length items) i item refl (omega arith) c.item-item.is in
    item_put items i item c.loop-item.mark _ _ at c.in_ok-put_tree.ensures c.loop-item.invariant

pub put_items-returns : goal.put_items-returns
put_items-returns t c =
    let l = c.loop-item in
    items_put c.args.items.now l.item-index l.mark _ (omega arith) l.invariant
