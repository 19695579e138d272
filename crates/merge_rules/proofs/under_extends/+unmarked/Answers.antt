use Rattle.std.proofs.Common.{◌≡◌, ◌∙◌, ℕ, List, Some, ap, length, slice_get, refl, subst, sym, arith, rules}
use Rattle.std.proofs.lemmas.Option.{slice_get_read}
use Rattle.std.proofs.lemmas.Result.{err_from_is_err_and}
use Rattle.attribute_paths.proofs.Walks.{entries_are}
use Rattle.merge_tables.specs.Answers.{UpGives, turned}
use Rattle.merge_tables.proofs.Answering.{same_fails}
use Rattle.merge_rules.specs.UnderExtends.{Asked, entries_asked, unmarked, values_unmarked}
use Rattle.merge_rules.proofs.AskedSteps.{entries_passed, entry_passed, entry_refused, item_passed, item_refused, items_passed, map_asked}
use Rattle.merge_rules.proofs.under_extends.+unmarked.Goals as goal

pub unmarked-returns-in-Map : goal.unmarked-returns-in-Map
unmarked-returns-in-Map t c =
    let opens : unmarked c.args.tree.now ≡ values_unmarked c.get.result.now = ap unmarked c.in-Map.is ∙ map_asked c.in-Map.entries ∙ ap values_unmarked (sym c.get.ensures) in
    rw opens c.map_unmarked.ensures

pub map_unmarked-returns : goal.map_unmarked-returns
map_unmarked-returns t c =
    subst (λ (all : List (List ℕ × Asked)). UpGives c.values_unmarked.result (entries_asked all))
    (entries_are unmarked c.args.entries.now c.keys.result.now c.values.result.now c.keys.ensures c.values.ensures) c.values_unmarked.ensures

pub values_unmarked-returns-in_err-value_unmarked : goal.values_unmarked-returns-in_err-value_unmarked
values_unmarked-returns-in_err-value_unmarked t c =
    let keys = c.args.keys.now in
    let values = c.args.values.now in
    let l = c.loop-at in
    let key = c.index-keys-at.result in
    let value = c.index-values-at.result in
    let same : length keys ≡ length values = search rules in
    let k : slice_get keys l.at ≡ Some key = slice_get_read keys (length keys) l.at key refl (omega arith) c.index-keys-at.is in
    let v : slice_get values l.at ≡ Some value = slice_get_read values (length values) l.at value refl (omega arith) c.index-values-at.is in
    let p = err_from_is_err_and c.from_residual.result c.from_residual.ensures.1 in
    let e = turned c.in_err-value_unmarked.field-0.0 in
    rw (p.1, p.2) (same_fails e _ _ l.invariant (entry_refused unmarked keys values l.at key value k v e c.in_err-value_unmarked.ensures))

pub values_unmarked-loop-at-preserved : goal.values_unmarked-loop-at-preserved
values_unmarked-loop-at-preserved t c =
    let keys = c.args.keys.now in
    let values = c.args.values.now in
    let l = c.loop-at in
    let key = c.index-keys-at.result in
    let value = c.index-values-at.result in
    let same : length keys ≡ length values = search rules in
    let k : slice_get keys l.at ≡ Some key = slice_get_read keys (length keys) l.at key refl (omega arith) c.index-keys-at.is in
    let v : slice_get values l.at ≡ Some value = slice_get_read values (length values) l.at value refl (omega arith) c.index-values-at.is in
    entry_passed unmarked keys values l.at key value k v c.in_ok-value_unmarked.ensures ∙ l.invariant

pub values_unmarked-returns : goal.values_unmarked-returns
values_unmarked-returns t c =
    let l = c.loop-at in
    sym l.invariant ∙ entries_passed unmarked c.args.keys.now c.args.values.now l.at (omega arith)

pub items_unmarked-returns-in_err-item_unmarked : goal.items_unmarked-returns-in_err-item_unmarked
items_unmarked-returns-in_err-item_unmarked t c =
    let items = c.args.items.now in
    let l = c.loop-at in
    let item = c.index-items-at.result in
    let at : slice_get items l.at ≡ Some item = slice_get_read items (length items) l.at item refl (omega arith) c.index-items-at.is in
    let p = err_from_is_err_and c.from_residual.result c.from_residual.ensures.1 in
    let e = turned c.in_err-item_unmarked.field-0.0 in
    rw (p.1, p.2) (same_fails e _ _ l.invariant (item_refused items l.at item at e c.in_err-item_unmarked.ensures))

pub items_unmarked-loop-at-preserved : goal.items_unmarked-loop-at-preserved
items_unmarked-loop-at-preserved t c =
    let items = c.args.items.now in
    let l = c.loop-at in
    let item = c.index-items-at.result in
    let at : slice_get items l.at ≡ Some item = slice_get_read items (length items) l.at item refl (omega arith) c.index-items-at.is in
    item_passed items l.at item at c.in_ok-item_unmarked.ensures ∙ l.invariant

pub items_unmarked-returns : goal.items_unmarked-returns
items_unmarked-returns t c =
    let l = c.loop-at in
    sym l.invariant ∙ items_passed c.args.items.now l.at (omega arith)
