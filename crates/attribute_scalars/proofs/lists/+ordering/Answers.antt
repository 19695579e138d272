use Rattle.std.proofs.Common.{◌≡◌, ◌∙◌, ◌++◌, ◌∷◌, [], ℕ, List, Some, length, slice_get, refl, sym, ap, arith}
use Rattle.std.proofs.lemmas.Option.{slice_get_read}
use Rattle.std.proofs.lemmas.Result.{IfOk-weaker}
use Rattle.tree_base.specs.ByteOrder.{by_key}
use Rattle.tree_base.specs.declared.Tree.{Tree, Map}
use Rattle.attribute_scalars.specs.Lists.{ordered}
use Rattle.attribute_scalars.proofs.Pairs.{ordered-map, values_long, values_made}
use Rattle.attribute_scalars.proofs.Walks.{all_made, one_made}
use Rattle.attribute_scalars.proofs.lists.+ordering.Goals as goal

pub ordered_items-loop-item-preserved : goal.ordered_items-loop-item-preserved
ordered_items-loop-item-preserved t c =
    let items = c.args.items.now in
    let i = c.loop-item.item-index in
    let item = c.item-item.result in
    let at : slice_get items i ≡ Some item = slice_get_read items (length items) i item refl (omega arith) c.item-item.is in
    one_made ordered items i item c.loop-item.trees _ c.loop-item.invariant at
    (c.in_ok-push.ensures.ok ∙ ap (λ (tree : Tree). c.loop-item.trees ++ tree ∷ []) c.in_ok-ordered.ensures)

pub ordered_items-returns : goal.ordered_items-returns
ordered_items-returns t c = all_made ordered c.args.items.now c.loop-item.item-index c.loop-item.trees c.loop-item.invariant (omega arith)

pub ordered_map-with_values-requires : goal.ordered_map-with_values-requires
ordered_map-with_values-requires t c = values_long ordered c.args.entries.now c.values.result.now c.in_ok-values.values c.values.ensures c.in_ok-values.ensures

pub ordered_map-returns : goal.ordered_map-returns
ordered_map-returns t c =
    let es = c.args.entries.now in
    let whole = values_made ordered es c.values.result.now c.in_ok-values.values c.values.ensures c.in_ok-values.ensures in
    IfOk-weaker c.mapping.result _ _
    (λ tree same. same ∙ ap Map (c.in_ok-sorted_map.ensures ∙ ap (by_key (λ (entry : List ℕ × Tree). entry.0)) (c.in_ok-ordered.ensures ∙ whole)) ∙ sym (ordered-map es))
    c.mapping.ensures
