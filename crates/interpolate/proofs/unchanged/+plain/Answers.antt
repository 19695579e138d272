use Rattle.std.proofs.Common.{◌≡◌, ◌∙◌, [], ap, sym, subst, refl, Ok, Some, List, length, map, slice_get, arith, rules}
use Rattle.std.proofs.lemmas.Option.{slice_get_read}
use Rattle.tree_base.specs.declared.Tree.{Tree}
use Rattle.interpolate.specs.Walking.{Stays, items_walk, tree_walk, with_bytes}
use Rattle.interpolate.proofs.KeptTrees.{entry_kept, if_some, item_kept, items_kept, map_kept, override_kept, seq_kept, value_kept, values_kept}
use Rattle.interpolate.proofs.unchanged.+plain.Goals as goal

pub entry_size-returns : goal.entry_size-returns
entry_size-returns t c =
    let a = c.args in
    if_some c.plain_size.result (λ more kept env. entry_kept env a.key.now a.value.now a.size c.in_ok-size.size more (ap (with_bytes a.size) (sym c.len.ensures) ∙ c.in_ok-size.ensures) kept) c.plain_size.ensures

pub items_size-loop-item-preserved : goal.items_size-loop-item-preserved
items_size-loop-item-preserved t c = λ env.
    let items = c.args.items.now in
    let l = c.loop-item in
    let item = c.item-item.result in
    let at : slice_get items l.item-index ≡ Some item = slice_get_read items (length items) l.item-index item refl (omega arith) c.item-item.is in
    item_kept env items l.item-index item l.size c.in_ok-size.size at (c.in_ok-size.ensures env) ∙ l.invariant env

pub items_size-returns : goal.items_size-returns
items_size-returns t c = λ env.
    let l = c.loop-item in
    sym (l.invariant env) ∙ items_kept env c.args.items.now l.item-index l.size (omega arith)

pub plain_size-returns-in-Map : goal.plain_size-returns-in-Map
plain_size-returns-in-Map t c =
    let size = c.args.size in
    if_some c.values_size.result
    (λ more kept. subst (λ (tree : Tree). Stays tree size more) (sym c.in-Map.is) (λ env. map_kept env c.in-Map.entries c.keys.result.now c.values.result.now size more c.keys.ensures c.values.ensures (kept env)))
    c.values_size.ensures

pub plain_size-returns-in-Seq : goal.plain_size-returns-in-Seq
plain_size-returns-in-Seq t c =
    let size = c.args.size in
    if_some c.items_size.result
    (λ more kept. subst (λ (tree : Tree). Stays tree size more) (sym c.in-Seq.is)
    (λ env. seq_kept env c.in-Seq.items size more (subst (λ (xs : List Tree). items_walk ([], size) 0 (map (tree_walk env) xs) ≡ Ok (xs, more)) c.as_slice.ensures (kept env))))
    c.items_size.ensures

pub plain_size-returns-in-Override : goal.plain_size-returns-in-Override
plain_size-returns-in-Override t c =
    let size = c.args.size in
    if_some c.plain_size.result
    (λ more kept. subst (λ (tree : Tree). Stays tree size more) (sym c.in-Override.is)
    (λ env. override_kept env c.in-Override.inner size more (subst (λ (tree : Tree). Stays tree size more) c.get.ensures kept)))
    c.plain_size.ensures

pub values_size-loop-at-preserved : goal.values_size-loop-at-preserved
values_size-loop-at-preserved t c = λ env.
    let a = c.args in
    let keys = a.keys.now in
    let values = a.values.now in
    let l = c.loop-at in
    let key = c.index-keys-at.result in
    let value = c.index-values-at.result in
    let same : length keys ≡ length values = search rules in
    let k : slice_get keys l.at ≡ Some key = slice_get_read keys (length keys) l.at key refl (omega arith) c.index-keys-at.is in
    let v : slice_get values l.at ≡ Some value = slice_get_read values (length values) l.at value refl (omega arith) c.index-values-at.is in
    value_kept env keys values l.at key value l.size c.in_ok-size.size k v (c.in_ok-size.ensures env) ∙ l.invariant env

pub values_size-returns : goal.values_size-returns
values_size-returns t c = λ env.
    let l = c.loop-at in
    sym (l.invariant env) ∙ values_kept env c.args.keys.now c.args.values.now l.at l.size (omega arith)
