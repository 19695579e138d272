use Rattle.std.proofs.Common.{◌≡◌, ◌∙◌, Ok, [], sym, ap, refl, subst, length, arith, rules}
use Rattle.std.proofs.lemmas.Grind.{common_steps}
use Rattle.std.proofs.lemmas.Result.{err_from_is_err_and}
use Rattle.yaml_lines.specs.declared.plain.Context.TheVariants.{Block}
use Rattle.yaml_nodes.proofs.Chains.{gives_as}
use Rattle.yaml_nodes.proofs.KeySteps.{key_len_read}
use Rattle.yaml_nodes.specs.declared.entries.Entries.{Entries}
use Rattle.yaml_tree.proofs.Levels.{node_is}
use Rattle.yaml_tree.proofs.PartSteps.{start_fails, start_ok, begun_fails, later_fails, later_ok, belongs_there, item_within}
use Rattle.yaml_tree.specs.Blocks.{block_item, block_entry, node}
use Rattle.yaml_tree.specs.Parts.{begins_item, begins_entry, block, is_item_at, is_entry_at}
use Rattle.yaml_tree.proofs.node.+node.Goals as goal

pub items-returns-in_err-push_item : goal.items-returns-in_err-push_item
items-returns-in_err-push_item t c =
    let p = err_from_is_err_and c.from_residual.result c.from_residual.ensures.1 in
    let a = c.args in
    let none = ap (λ w. (w, a.progress.now)) c.new-items.ensures in
    rw (p.1, p.2) (start_fails (begins_item a.column) (is_item_at a.column) (block_item a.column (node a.levels)) _ ([], a.progress.now) _ a.line.now a.more.now _ _ _ none c.item_len.ensures.is c.split_at.ensures.front c.split_at.ensures.back c.in_err-push_item.ensures)

pub items-loop-next-init : goal.items-loop-next-init
items-loop-next-init t c =
    let a = c.args in
    let none = ap (λ w. (w, a.progress.now)) c.new-items.ensures in
    record {
      within = omega arith;
      is = start_ok (begins_item a.column) (is_item_at a.column) (block_item a.column (node a.levels)) ([], a.progress.now) _ _ a.line.now a.more.now _ _ _ none c.item_len.ensures.is c.split_at.ensures.front c.split_at.ensures.back c.in_ok-push_item.ensures;
    }

pub items-returns-in_err-later_begun : goal.items-returns-in_err-later_begun
items-returns-in_err-later_begun t c =
    let p = err_from_is_err_and c.from_residual-in_err-later_begun.result c.from_residual-in_err-later_begun.ensures.1 in
    let a = c.args in
    rw (p.1, p.2) (begun_fails (begins_item a.column) (is_item_at a.column) (block_item a.column (node a.levels)) _ _ (c.loop-next.items, c.loop-next.progress) _ c.in-Some.next.now c.in-Some.more.now _ c.loop-next.invariant.is c.in-Some.ensures.cases.0 c.is_item_at.ensures c.in_err-later_begun.ensures)

pub items-push_item-requires-in-Some : goal.items-push_item-requires-in-Some
items-push_item-requires-in-Some t c =
    let is = sym c.is_item_at.ensures ∙ belongs_there c.is_item_at.result c.in-Some.next.now c.loop-next.progress _ c.in_ok-later_begun.ensures in
    let more = ap length c.in-Some.ensures.cases.0 in
    (search rules, item_within c.args.column c.in-Some.next.now is)

pub items-returns-in_err-push_item-2 : goal.items-returns-in_err-push_item-2
items-returns-in_err-push_item-2 t c =
    let p = err_from_is_err_and c.from_residual-in_err-push_item-2.result c.from_residual-in_err-push_item-2.ensures.1 in
    let a = c.args in
    rw (p.1, p.2) (later_fails (begins_item a.column) (is_item_at a.column) (block_item a.column (node a.levels)) _ _ (c.loop-next.items, c.loop-next.progress) _ _ c.in-Some.next.now c.in-Some.more.now _ _ _ _ c.loop-next.invariant.is c.in-Some.ensures.cases.0 c.is_item_at.ensures c.in_ok-later_begun.ensures c.item_len-in-Some.ensures.is c.split_at-in-Some.ensures.front c.split_at-in-Some.ensures.back c.in_err-push_item-2.ensures)

pub items-loop-next-preserved : goal.items-loop-next-preserved
items-loop-next-preserved t c =
    let a = c.args in
    record {
      within = omega (arith, ap length c.in-Some.ensures.cases.0);
      is = later_ok (begins_item a.column) (is_item_at a.column) (block_item a.column (node a.levels)) _ (c.loop-next.items, c.loop-next.progress) _ _ _ c.in-Some.next.now c.in-Some.more.now _ _ _ _ c.loop-next.invariant.is c.in-Some.ensures.cases.0 c.is_item_at.ensures c.in_ok-later_begun.ensures c.item_len-in-Some.ensures.is c.split_at-in-Some.ensures.front c.split_at-in-Some.ensures.back c.in_ok-push_item-2.ensures;
    }

pub entries-returns-in-Ok : goal.entries-returns-in-Ok
entries-returns-in-Ok t c =
    let a = c.args in
    let put = c.put_entries.new in
    subst (λ (w : Entries). block (begins_entry a.column) (is_entry_at a.column) (block_entry a.column a.levels (node a.levels)) (w, a.progress.now) a.line.now a.more.now ≡ Ok (put.entries, put.progress)) c.no_entries-entries.ensures c.in-Ok.ensures

pub put_entries-returns-in_err-put_entry : goal.put_entries-returns-in_err-put_entry
put_entries-returns-in_err-put_entry t c =
    let p = err_from_is_err_and c.from_residual.result c.from_residual.ensures.1 in
    let a = c.args in
    rw (p.1, p.2) (start_fails (begins_entry a.column) (is_entry_at a.column) (block_entry a.column a.levels (node a.levels)) _ (a.entries.now, a.progress.now) (a.entries.now, a.progress.now) a.line.now a.more.now _ _ _ refl c.entry_len.ensures.is c.split_at.ensures.front c.split_at.ensures.back c.in_err-put_entry.ensures)

pub put_entries-loop-next-init : goal.put_entries-loop-next-init
put_entries-loop-next-init t c =
    let a = c.args in
    record {
      within = omega arith;
      is = start_ok (begins_entry a.column) (is_entry_at a.column) (block_entry a.column a.levels (node a.levels)) (a.entries.now, a.progress.now) (a.entries.now, a.progress.now) _ a.line.now a.more.now _ _ _ refl c.entry_len.ensures.is c.split_at.ensures.front c.split_at.ensures.back c.in_ok-put_entry.ensures;
    }

pub put_entries-returns-in_err-later_begun : goal.put_entries-returns-in_err-later_begun
put_entries-returns-in_err-later_begun t c =
    let p = err_from_is_err_and c.from_residual-in_err-later_begun.result c.from_residual-in_err-later_begun.ensures.1 in
    let a = c.args in
    rw (p.1, p.2) (begun_fails (begins_entry a.column) (is_entry_at a.column) (block_entry a.column a.levels (node a.levels)) _ _ (c.loop-next.entries, c.loop-next.progress) _ c.in-Some.next.now c.in-Some.more.now _ c.loop-next.invariant.is c.in-Some.ensures.cases.0 refl c.in_err-later_begun.ensures)

pub put_entries-returns-in_err-put_entry-2 : goal.put_entries-returns-in_err-put_entry-2
put_entries-returns-in_err-put_entry-2 t c =
    let p = err_from_is_err_and c.from_residual-in_err-put_entry-2.result c.from_residual-in_err-put_entry-2.ensures.1 in
    let a = c.args in
    rw (p.1, p.2) (later_fails (begins_entry a.column) (is_entry_at a.column) (block_entry a.column a.levels (node a.levels)) _ _ (c.loop-next.entries, c.loop-next.progress) _ _ c.in-Some.next.now c.in-Some.more.now _ _ _ _ c.loop-next.invariant.is c.in-Some.ensures.cases.0 refl c.in_ok-later_begun.ensures c.entry_len-in-Some.ensures.is c.split_at-in-Some.ensures.front c.split_at-in-Some.ensures.back c.in_err-put_entry-2.ensures)

pub put_entries-loop-next-preserved : goal.put_entries-loop-next-preserved
put_entries-loop-next-preserved t c =
    let a = c.args in
    record {
      within = omega (arith, ap length c.in-Some.ensures.cases.0);
      is = later_ok (begins_entry a.column) (is_entry_at a.column) (block_entry a.column a.levels (node a.levels)) _ (c.loop-next.entries, c.loop-next.progress) _ _ _ c.in-Some.next.now c.in-Some.more.now _ _ _ _ c.loop-next.invariant.is c.in-Some.ensures.cases.0 refl c.in_ok-later_begun.ensures c.entry_len-in-Some.ensures.is c.split_at-in-Some.ensures.front c.split_at-in-Some.ensures.back c.in_ok-put_entry-2.ensures;
    }

pub node-returns-in_err-begun : goal.node-returns-in_err-begun
node-returns-in_err-begun t c =
    let a = c.args in
    gives_as _ (node_is a.levels a.owner.now a.found a.progress.now a.at a.line.now a.more.now) (grind (arith, common_steps))

pub node-returns-then-not-has_own_properties : goal.node-returns-then-not-has_own_properties
node-returns-then-not-has_own_properties t c =
    let a = c.args in
    gives_as _ (node_is a.levels a.owner.now a.found a.progress.now a.at a.line.now a.more.now) (grind (arith, common_steps))

pub node-returns-in_err-found : goal.node-returns-in_err-found
node-returns-in_err-found t c =
    let a = c.args in
    gives_as _ (node_is a.levels a.owner.now a.found a.progress.now a.at a.line.now a.more.now) (grind (arith, common_steps))

pub node-returns : goal.node-returns
node-returns t c =
    let a = c.args in
    gives_as _ (node_is a.levels a.owner.now a.found a.progress.now a.at a.line.now a.more.now) (grind (arith, common_steps))

pub put_entry-colon_behind-colon-requires-clause-read : goal.put_entry-colon_behind-colon-requires-clause-read
put_entry-colon_behind-colon-requires-clause-read t c = key_len_read Block c.args.progress.now c.args.line.now.row c.args.column c.in_ok-key.key c.in_ok-key.ensures.is
