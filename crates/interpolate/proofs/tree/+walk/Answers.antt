use Rattle.std.proofs.Common.{◌≡◌, ◌∙◌, ◌+◌, ap, sym, Ok, List, ℕ, length, map, drop, slice_get, Some, refl, arith, rules}
use Rattle.std.specs.List.{zip}
use Rattle.std.proofs.lemmas.Result.{err_from_is_err_and}
use Rattle.std.proofs.lemmas.List.{length_push}
use Rattle.std.proofs.lemmas.Option.{slice_get_read}
use Rattle.tree_base.specs.Entries.{value_at}
use Rattle.tree_base.specs.declared.Tree.{Tree, Map}
use Rattle.interpolate.specs.Walking.{items_walk, entries_walk, tree_walk}
use Rattle.interpolate.proofs.Walks.{same_fails, items_fail, items_go, entries_fail, entries_go, item_next, entry_next, no_entry, map_fails, map_done}
use Rattle.interpolate.proofs.tree.+walk.Goals as goal

pub item_values-returns-in_err-value : goal.item_values-returns-in_err-value
item_values-returns-in_err-value t c =
    let a = c.args in
    let l = c.loop-at in
    let env = value_at a.env.now in
    let item = c.index-items-at.result in
    let at : slice_get a.items.now l.at ≡ Some item = slice_get_read a.items.now (length a.items.now) l.at item refl (omega arith) c.index-items-at.is in
    let next = item_next (tree_walk env) a.items.now l.at item at in
    let p = err_from_is_err_and c.from_residual.result c.from_residual.ensures.1 in
    let e = c.in_err-value.field-0.0 in
    rw (p.1, p.2) (same_fails e _ _ (sym (ap (items_walk (l.done, l.size) l.at) next) ∙ l.invariant)
    (items_fail env (l.done, l.size) l.at item (drop (l.at + 1) (map (tree_walk env) a.items.now)) e c.in_err-value.ensures))

pub item_values-loop-at-preserved : goal.item_values-loop-at-preserved
item_values-loop-at-preserved t c =
    let a = c.args in
    let l = c.loop-at in
    let env = value_at a.env.now in
    let item = c.index-items-at.result in
    let at : slice_get a.items.now l.at ≡ Some item = slice_get_read a.items.now (length a.items.now) l.at item refl (omega arith) c.index-items-at.is in
    let next = item_next (tree_walk env) a.items.now l.at item at in
    let rest = drop (l.at + 1) (map (tree_walk env) a.items.now) in
    ap (λ (done : List Tree). items_walk (done, c.item_value.new.size) (l.at + 1) rest) c.in_ok-push.ensures.ok
    ∙ sym (items_go env (l.done, l.size) l.at item rest c.in_ok-value.value c.item_value.new.size c.in_ok-value.ensures)
    ∙ sym (ap (items_walk (l.done, l.size) l.at) next) ∙ l.invariant

pub entry_values-returns-in_err-value-clause-value : goal.entry_values-returns-in_err-value-clause-value
entry_values-returns-in_err-value-clause-value t c =
    let a = c.args in
    let l = c.loop-at in
    let env = value_at a.env.now in
    let key = c.index-keys-at.result in
    let value = c.index-values-at.result in
    let same : length a.keys.now ≡ length a.values.now = search rules in
    let k : slice_get a.keys.now l.at ≡ Some key = slice_get_read a.keys.now (length a.keys.now) l.at key refl (omega arith) c.index-keys-at.is in
    let v : slice_get a.values.now l.at ≡ Some value = slice_get_read a.values.now (length a.values.now) l.at value refl (omega arith) c.index-values-at.is in
    let next = entry_next (tree_walk env) a.keys.now a.values.now l.at key value k v in
    let p = err_from_is_err_and c.from_residual.result c.from_residual.ensures.1 in
    let e = c.in_err-value.field-0.0 in
    rw (p.1, p.2) (same_fails e _ _ (sym (ap (entries_walk (l.done, l.size)) next) ∙ l.invariant.value)
    (entries_fail env (l.done, l.size) (key, tree_walk env value) (drop (l.at + 1) (zip a.keys.now (map (tree_walk env) a.values.now))) e c.in_err-value.ensures))

pub entry_values-loop-at-preserved : goal.entry_values-loop-at-preserved
entry_values-loop-at-preserved t c =
    let a = c.args in
    let l = c.loop-at in
    let env = value_at a.env.now in
    let key = c.index-keys-at.result in
    let value = c.index-values-at.result in
    let same : length a.keys.now ≡ length a.values.now = search rules in
    let k : slice_get a.keys.now l.at ≡ Some key = slice_get_read a.keys.now (length a.keys.now) l.at key refl (omega arith) c.index-keys-at.is in
    let v : slice_get a.values.now l.at ≡ Some value = slice_get_read a.values.now (length a.values.now) l.at value refl (omega arith) c.index-values-at.is in
    let next = entry_next (tree_walk env) a.keys.now a.values.now l.at key value k v in
    let rest = drop (l.at + 1) (zip a.keys.now (map (tree_walk env) a.values.now)) in
    record {
      len = ap length c.in_ok-push.ensures.ok ∙ length_push l.done c.in_ok-value.value ∙ ap (λ (n : ℕ). n + 1) l.invariant.len;
      value = ap (λ (done : List Tree). entries_walk (done, c.entry_value.new.size) rest) c.in_ok-push.ensures.ok
          ∙ sym (entries_go env (l.done, l.size) (key, tree_walk env value) rest c.in_ok-value.value c.entry_value.new.size c.in_ok-value.ensures)
          ∙ sym (ap (entries_walk (l.done, l.size)) next) ∙ l.invariant.value;
    }

pub entry_values-returns-clause-value : goal.entry_values-returns-clause-value
entry_values-returns-clause-value t c =
    let a = c.args in
    let l = c.loop-at in
    let env = value_at a.env.now in
    let none = no_entry (tree_walk env) a.keys.now a.values.now l.at (omega arith) in
    sym l.invariant.value ∙ ap (entries_walk (l.done, l.size)) none

pub map_value-returns-in_err-values : goal.map_value-returns-in_err-values
map_value-returns-in_err-values t c =
    let a = c.args in
    let p = err_from_is_err_and c.from_residual.result c.from_residual.ensures.1 in
    let e = c.in_err-values.field-0.0 in
    rw (p.1, p.2) (map_fails (value_at a.env.now) a.entries.now c.keys.result.now c.values.result.now a.size.now e c.keys.ensures c.values.ensures c.in_err-values.ensures.value)

pub map_value-returns : goal.map_value-returns
map_value-returns t c =
    let a = c.args in
    let new = c.entry_values.new.size in
    map_done (value_at a.env.now) a.entries.now c.keys.result.now c.values.result.now c.in_ok-values.values a.size.now new c.keys.ensures c.values.ensures c.in_ok-values.ensures.value
    ∙ ap (λ (es : List (List ℕ × Tree)). Ok (Map es, new)) (sym c.in_ok-entries.ensures)
    ∙ ap (λ (tree : Tree). Ok (tree, new)) (sym c.in_ok-mapping.ensures)

pub tree_value-returns-in_ok-same-in-Some : goal.tree_value-returns-in_ok-same-in-Some
tree_value-returns-in_ok-same-in-Some t c =
    let more = c.in-Some.more in
    c.in-Some.ensures (value_at c.args.env.now) ∙ ap (λ (tree : Tree). Ok (tree, more)) (sym c.in_ok-same-in-Some.ensures)
